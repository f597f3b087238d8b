-- What is known of a record that an auditor finds unsigned: it is validly signed, and the journal
-- lacks it.
use Rattle.std.proofs.Common.{◌≡◌, ℕ, zero, suc, ◌<◌, List, [], ◌∷◌, ◌++◌, length, Some, None, Result, Ok, Err, option_map, slice_get, refl, sym, ap, subst, ◌∙◌, arith, ◌⊎◌, inl, inr}
use Rattle.std.specs.Prelude.{Contains, IfOk, slice_index_or}
use Rattle.std.specs.declared.alloc.AllocError.{AllocError}
use Rattle.outside.specs.Outputs.{Output}
use Rattle.vo_spec.specs.declared.records.Entry.{Entry}
use Rattle.vo_spec.specs.declared.records.Record.{Record}
use Rattle.vo_spec.specs.declared.checks.AuditFault.{AuditFault}
use Rattle.vo_spec.specs.declared.checks.AuditFault.TheVariants.{Memory}
use Rattle.vo_spec.specs.declared.checks.Verdict.{Verdict}
use Rattle.vo_spec.specs.declared.checks.Verdict.TheVariants.{Unsigned}
use Rattle.vo_spec.specs.Audits.{AuditOf, IsVerdict}
use Rattle.vo_spec.specs.Conditions.{Query}
use Rattle.vo_spec.specs.Journals.{Holds, IsJournal}
use Rattle.vo_spec.specs.Owners.{IsSigned}
use Rattle.vo_spec.specs.Replies.{Reply, IsReply}
use Rattle.batch_format.proofs.ReaderLaws.{some_is}
use Rattle.vo_format.specs.Reading.{reply_at}
use Rattle.vo_format.proofs.ReplyLaws.{reply_again}
use Rattle.owner_roots.specs.Owners.{AreOwned, OwnedAuditOf}
use Rattle.owner_roots.proofs.OwnedLaws.{number}
use Rattle.held_replies.proofs.AcceptedRecords.{accepted}
use Rattle.vo_spec.specs.Secret.{Secret, public_of_secret}
use Rattle.vo_commands.specs.declared.report.Report.{Report}
use Rattle.vo_commands.specs.declared.report.Stop.{Stop}
use Rattle.vo_commands.specs.Expected.{Allows, Expected, Explains, IsToldToOwner, records_of}
use Rattle.lms_forge.specs.declared.explanation.Explanation.{Explanation}
use Rattle.lms_forge.specs.Explaining.{Explains as Explained}
use Rattle.lms_forge.specs.Forgeries.{forgery_of}
use Rattle.vo_commands.specs.Lines.{audit_output, explanation_lines, unsigned_lines, unsigned_output}
use Rattle.vo_commands.specs.Reports.{Answers, output_of}

-- Bytes have one reading as a reply.
pub one_reply : (bytes : List ℕ) (a b : Reply) → IsReply bytes a → IsReply bytes b → a ≡ b
one_reply bytes a b first second =
    ap (λ (read : Reply × List ℕ). read.0) (some_is (a, []) (b, [])
    (sym (reply_again a [] first.fits) ∙ ap (λ (t : List ℕ). reply_at (t ++ [])) (sym first.encoded ∙ second.encoded) ∙ reply_again b [] second.fits))

-- the entry of a record that is one of theirs
entry_of : (es : List Entry) (k : ℕ) (r : Record) → k < length (records_of es) → slice_index_or (records_of es) k r ≡ r
    → (e : Entry) × (slice_get es k ≡ Some e) × (e.rec ≡ r)
entry_of [] k r inside is = absurd (omega (arith, inside))
entry_of (e ∷ es) zero r inside is = (e, refl, is)
entry_of (e ∷ es) (suc k) r inside is = entry_of es k r (omega (arith, inside)) is

held : (key : List ℕ) (es : List Entry) (r : Record) → AreOwned key es → Contains (records_of es) r → Holds es r
unfolding Holds
held key es r owned has =
    let entry = entry_of es has.0 r has.1 has.2 in
    let version : r.version ≡ has.0 = ap (λ (x : Record). x.version) (sym entry.2) ∙ number key es has.0 entry.0 owned entry.1 in
    ap (λ v. option_map (λ (x : Entry). x.rec) (slice_get es v)) version ∙ ap (option_map (λ (x : Entry). x.rec)) entry.1 ∙ ap Some entry.2

module _ (key journal : List ℕ) (q : Query) (bytes : List ℕ) (rec : Record) (signature : List ℕ) (last : ℕ) where
  pub is_signed : OwnedAuditOf key journal q bytes (Ok (Unsigned rec signature last)) → IsSigned key rec signature
  unfolding AuditOf IsVerdict
  is_signed told =
      let reply = accepted key 0 q bytes (Ok told.4) (inr told.5) in
      let same : reply.reply ≡ told.2 = one_reply bytes reply.reply told.2 reply.read told.3 in
      subst (λ x. IsSigned key x signature) (sym told.6.1)
      (subst (λ x. IsSigned key told.2.rec x) (sym told.6.2) (subst (λ (x : Reply). IsSigned key x.rec x.signature) same reply.signed))

  pub is_lacked : OwnedAuditOf key journal q bytes (Ok (Unsigned rec signature last)) → (es : List Entry) × IsJournal journal es × (Contains (records_of es) rec → ⊥)
  unfolding AuditOf IsVerdict
  is_lacked told =
      (told.0, told.1.0, λ has. told.6.0 (held key told.0 told.2.rec told.1.1 (subst (Contains (records_of told.0)) told.6.1 has)))

-- What is printed of a record that the journal lacks, and what explains its signature.
pub told_forged : (secret : Secret) (journal : List ℕ) (rec : Record) (signature : List ℕ) (last : ℕ) (signed : List Record) (found : Explanation) (r : Result Report AllocError)
    → (es : List Entry) × IsJournal journal es × (Contains (records_of es) rec → ⊥) → ((es : List Entry) → IsJournal journal es → signed ≡ records_of es)
    → Explained (forgery_of secret signed rec signature) found
    → IfOk r (λ report. output_of report ≡ unsigned_output (unsigned_lines rec signature last ++ explanation_lines found))
    → IfOk r (λ report. IsToldToOwner secret journal (Ok (Unsigned rec signature last)) (output_of report))
told_forged secret journal rec signature last signed found (Err e) lacked are explains says = tt
told_forged secret journal rec signature last signed found (Ok report) lacked are explains says =
    (lacked.0, lacked.1, found, subst (λ records. Explained (forgery_of secret records rec signature) found) (are lacked.0 lacked.1) explains, says)

-- want of memory is no verdict
pub no_output : (v : Result Verdict AuditFault) (output : Output) → v ≡ Err Memory → audit_output v ≡ Some output → ⊥
no_output v output e is = let none : audit_output v ≡ None = ap audit_output e in absurd (cc)

-- what is known by a call's own answer
module _ (public : List ℕ) (secret : Secret) (journal : List ℕ) (q : Query) (bytes : List ℕ) (v : Result Verdict AuditFault) (same : public ≡ public_of_secret secret)
    (told : (v ≡ Err Memory) ⊎ OwnedAuditOf public journal q bytes v) where
  own : (w : Verdict) → v ≡ Ok w → OwnedAuditOf (public_of_secret secret) journal q bytes (Ok w)
  own w is = elim told [
    | inl e ↦ absurd (not_both (sym is ∙ e))
    | inr t ↦ subst (λ k. OwnedAuditOf k journal q bytes (Ok w)) same (subst (OwnedAuditOf public journal q bytes) is t)
  ]
    where
      not_both : Ok w ≡ Err Memory → ⊥
      not_both e = absurd (cc)

  pub own_signed : (rec : Record) (signature : List ℕ) (last : ℕ) → v ≡ Ok (Unsigned rec signature last) → IsSigned (public_of_secret secret) rec signature
  own_signed rec signature last is = is_signed (public_of_secret secret) journal q bytes rec signature last (own (Unsigned rec signature last) is)

  pub own_lacked : (rec : Record) (signature : List ℕ) (last : ℕ) → v ≡ Ok (Unsigned rec signature last) → (es : List Entry) × IsJournal journal es × (Contains (records_of es) rec → ⊥)
  own_lacked rec signature last is = is_lacked (public_of_secret secret) journal q bytes rec signature last (own (Unsigned rec signature last) is)

  pub own_told : (rec : Record) (signature : List ℕ) (last : ℕ) (report : Report) → v ≡ Ok (Unsigned rec signature last)
      → IsToldToOwner secret journal (Ok (Unsigned rec signature last)) (output_of report) → Answers (Explains secret journal q bytes) (Ok report)
  own_told rec signature last report is says = (Ok (Unsigned rec signature last), own (Unsigned rec signature last) is, says)

  -- whatever else an audit says it says to anybody
  pub as_to_anybody : (r : Result Report Stop) → ((output : Output) → audit_output v ≡ Some output → IsToldToOwner secret journal v output)
      → ((expected : Expected) → ((output : Output) → audit_output v ≡ Some output → Allows expected output) → Answers expected r) → Answers (Explains secret journal q bytes) r
  as_to_anybody r says report = report (Explains secret journal q bytes) (λ output is. elim told [
    | inl e ↦ absurd (no_output v output e is)
    | inr t ↦ (v, subst (λ k. OwnedAuditOf k journal q bytes v) same t, says output is)
  ])
