-- What the calls give, by a store's fields.
use Rattle.std.proofs.Common.{◌≡◌, ℕ, ◌-◌, ◌<◌, ◌≤◌, Bool, true, false, cond, List, Option, Some, None, Result, Ok, Err, length, refl, sym, ap, subst, ◌∙◌, arith}
use Rattle.std.specs.Prelude.{◌&&◌, is_none, nat_le, IsSome}
use Rattle.std.specs.Option.{option_map_or}
use Rattle.std.proofs.lemmas.Bool.{and_from, and_parts, le-leb, leb-false, leb-true}
use Rattle.vo_spec.specs.declared.tables.Command.{Command}
use Rattle.vo_spec.specs.declared.tables.CommandFault.{CommandFault}
use Rattle.vo_spec.specs.declared.records.Record.{Record}
use Rattle.vo_spec.specs.Batches.{FitsBatch}
use Rattle.vo_spec.specs.Conditions.{Query}
use Rattle.vo_spec.specs.Firsts.{and_then}
use Rattle.vo_spec.specs.Replies.{max_reply, proofs_bytes}
use Rattle.vo_spec.specs.Honest.{Stored, honest_proofs, honest_record}
use Rattle.stored_tables.specs.Working.{work_from}
use Rattle.vo_store.specs.declared.fault.StoreFault.{StoreFault}
use Rattle.vo_store.specs.declared.fault.StoreFault.TheVariants as fault
use Rattle.vo_store.specs.declared.signed_record.SignedRecord.{SignedRecord}
use Rattle.vo_store.specs.StoreState.{StoreState, oldest_of, with_installed, with_pending}
use Rattle.owner_state.proofs.WorkTurns.{work_done}
use Rattle.vo_store.specs.HonestStores.{IsHonestStore}
use Rattle.vo_store.proofs.HonestLaws.{installed_honest, proposed_honest}
use Rattle.vo_store.proofs.InstallLaws.{good_only}
use Rattle.vo_store.specs.Calls.{Gives, answer_at_of, answer_of, install_of, kept_at, next_version, proposal_of, reply_by_kept, reply_of_version, signed_reply, signed_record, with_proofs, within_limit}

-- a fault is handed on
pub fault_on : {X Y Z W : Type 0} (view : X → Y) (other : Z → W) (go : Y → Result W StoreFault) (why : StoreFault) (answer : Result Y StoreFault) → Gives view (Err why) answer
    → Gives other (Err why) (and_then go answer)
fault_on view other go fault.Memory answer g = tt
fault_on view other go (fault.Command index refused proofs) answer g = ap (and_then go) g
fault_on view other go fault.NothingProposed answer g = ap (and_then go) g
fault_on view other go (fault.WrongRecord want got) answer g = ap (and_then go) g
fault_on view other go fault.BadSignature answer g = ap (and_then go) g
fault_on view other go (fault.TooLarge size) answer g = ap (and_then go) g
fault_on view other go fault.Empty answer g = ap (and_then go) g
fault_on view other go (fault.NoVersion version oldest newest) answer g = ap (and_then go) g

-- The limit of replies.

module _ (own : List ℕ) where
  abbrev limit_by : Bool → Result (List ℕ) StoreFault
  limit_by b = cond b (Ok own) (Err (fault.TooLarge (length own)))

  pub limit_kept : (bytes : List ℕ) → within_limit own ≡ Ok bytes → (bytes ≡ own) × (length bytes ≤ max_reply)
  limit_kept bytes e = step (nat_le (length own) max_reply) refl e
    where
      step : (b : Bool) → nat_le (length own) max_reply ≡ b → limit_by b ≡ Ok bytes → (bytes ≡ own) × (length bytes ≤ max_reply)
      step true f g = let same : own ≡ bytes = cc in (sym same, subst (λ (t : List ℕ). length t ≤ max_reply) same (leb-true (length own) max_reply f))
      step false f g = absurd (cc)

  pub limit_passed : (size : ℕ) → within_limit own ≡ Err (fault.TooLarge size) → (size ≡ length own) × (max_reply < size)
  limit_passed size e = step (nat_le (length own) max_reply) refl e
    where
      step : (b : Bool) → nat_le (length own) max_reply ≡ b → limit_by b ≡ Err (fault.TooLarge size) → (size ≡ length own) × (max_reply < size)
      step true f g = absurd (cc)
      step false f g =
          let same : length own ≡ size = cc in
          (sym same, omega (arith, leb-false (length own) max_reply f, same))

module _ (s : StoreState) where
  -- Queries.

  pub answer_some : (q : Query) (installed : SignedRecord) → s.installed ≡ Some installed → signed_reply q installed s.tables ≡ answer_of s q
  unfolding answer_of
  answer_some q installed e = sym (ap (λ (o : Option SignedRecord). option_map_or (λ (x : SignedRecord). signed_reply q x s.tables) o (Err fault.Empty)) e)

  pub answer_none : (q : Query) → s.installed ≡ None → answer_of s q ≡ Err fault.Empty
  unfolding answer_of
  answer_none q e = ap (λ (o : Option SignedRecord). option_map_or (λ (x : SignedRecord). signed_reply q x s.tables) o (Err fault.Empty)) e

  -- Queries of a version.

  module _ (q : Query) (version : ℕ) where
    abbrev answer_by : Option SignedRecord → Result (List ℕ) StoreFault
    answer_by o = option_map_or (reply_of_version q version s) o (Err fault.Empty)

    abbrev replies_by : SignedRecord → Bool → Result (List ℕ) StoreFault
    replies_by e b = cond b (reply_by_kept q (kept_at s.earlier e s.tables (version - oldest_of e.rec.version)))
        (Err (fault.NoVersion version (oldest_of e.rec.version) e.rec.version))

    abbrev kept_test : SignedRecord → Bool
    kept_test e = nat_le (oldest_of e.rec.version) version && nat_le version e.rec.version

    pub version_none : s.installed ≡ None → answer_at_of s version q ≡ Err fault.Empty
    unfolding answer_at_of
    version_none e = ap answer_by e

    pub version_kept : (installed : SignedRecord) → s.installed ≡ Some installed → oldest_of installed.rec.version ≤ version → version ≤ installed.rec.version
        → reply_by_kept q (kept_at s.earlier installed s.tables (version - oldest_of installed.rec.version)) ≡ answer_at_of s version q
    unfolding answer_at_of
    version_kept installed e above below =
        sym (ap answer_by e ∙ ap (replies_by installed) (and_from _ _ (le-leb (oldest_of installed.rec.version) version above) (le-leb version installed.rec.version below)))

    pub version_not_kept : (installed : SignedRecord) → s.installed ≡ Some installed → (oldest_of installed.rec.version ≤ version → version ≤ installed.rec.version → ⊥)
        → answer_at_of s version q ≡ Err (fault.NoVersion version (oldest_of installed.rec.version) installed.rec.version)
    unfolding answer_at_of
    version_not_kept installed e outside = ap answer_by e ∙ ap (replies_by installed) (other (kept_test installed) refl)
      where
        other : (b : Bool) → kept_test installed ≡ b → kept_test installed ≡ false
        other false t = t
        other true t =
            let both = and_parts _ _ t in
            absurd (outside (leb-true (oldest_of installed.rec.version) version both.0) (leb-true version installed.rec.version both.1))

    pub record AnswersAt (bytes : List ℕ) : Type 0 where
      pub installed : SignedRecord
      pub there : s.installed ≡ Some installed
      pub above : oldest_of installed.rec.version ≤ version
      pub below : version ≤ installed.rec.version
      pub reply : reply_by_kept q (kept_at s.earlier installed s.tables (version - oldest_of installed.rec.version)) ≡ Ok bytes

    pub answered_at : (bytes : List ℕ) → answer_at_of s version q ≡ Ok bytes → AnswersAt bytes
    unfolding answer_at_of
    answered_at bytes e = step s.installed refl e
      where
        inner : (installed : SignedRecord) → s.installed ≡ Some installed → (b : Bool) → kept_test installed ≡ b → replies_by installed b ≡ Ok bytes → AnswersAt bytes
        inner installed i false t f = absurd (cc)
        inner installed i true t f =
            let both = and_parts _ _ t in
            record {
              installed = installed;
              there = i;
              above = leb-true (oldest_of installed.rec.version) version both.0;
              below = leb-true version installed.rec.version both.1;
              reply = f;
            }

        step : (o : Option SignedRecord) → s.installed ≡ o → answer_by o ≡ Ok bytes → AnswersAt bytes
        step None i f = absurd (cc)
        step (Some installed) i f = inner installed i (kept_test installed) refl f

  -- Proposals.

  module _ (cs : List Command) where
    abbrev pub proofs_now : List ℕ
    proofs_now = proofs_bytes (honest_proofs cs s.tables)

    -- by the trees alone
    abbrev pub on_trees : Result (List Stored × List ℕ) StoreFault
    on_trees = with_proofs (λ after. after) proofs_now (work_from 0 cs s.tables)

    pub go : List Stored × List ℕ → Result (StoreState × List ℕ) StoreFault
    go p = Ok (with_pending p.0 s, p.1)

    by_trees : (r : Result (List Stored) (ℕ × CommandFault)) → and_then go (with_proofs (λ after. after) proofs_now r) ≡ with_proofs (λ after. with_pending after s) proofs_now r
    unfolding go
    by_trees (Ok after) = refl
    by_trees (Err refused) = refl

    pub proposal_by : is_none s.installed ≡ false → and_then go on_trees ≡ proposal_of s cs
    unfolding proposal_of
    proposal_by some =
        by_trees (work_from 0 cs s.tables)
        ∙ sym (ap (λ b. cond b (Err fault.Empty) (with_proofs (λ after. with_pending after s) proofs_now (work_from 0 cs s.tables))) some)

    pub proposal_none : is_none s.installed ≡ true → proposal_of s cs ≡ Err fault.Empty
    unfolding proposal_of
    proposal_none none = ap (λ b. cond b (Err fault.Empty) (with_proofs (λ after. with_pending after s) proofs_now (work_from 0 cs s.tables))) none

    pub proposal_ok : (after : List Stored) (proofs : List ℕ) → is_none s.installed ≡ false → on_trees ≡ Ok (after, proofs) → proposal_of s cs ≡ Ok (with_pending after s, proofs)
    unfolding go
    proposal_ok after proofs some e = sym (proposal_by some) ∙ ap (and_then go) e

  -- Installs.

  module _ (rec : Record) (signature : List ℕ) where
    pub install_none : s.pending ≡ None → install_of s rec signature ≡ Err fault.NothingProposed
    unfolding install_of
    install_none e = ap (λ o. option_map_or (λ after. and_then (λ installed. Ok (with_installed installed after s))
        (signed_record s.key (honest_record s.key (next_version s.installed) after) rec signature)) o (Err fault.NothingProposed)) e

    pub install_go : List Stored → SignedRecord → Result StoreState StoreFault
    install_go after installed = Ok (with_installed installed after s)

    pub install_by : (after : List Stored) → s.pending ≡ Some after
        → and_then (install_go after) (signed_record s.key (honest_record s.key (next_version s.installed) after) rec signature) ≡ install_of s rec signature
    unfolding install_of install_go
    install_by after e = sym (ap (λ o. option_map_or (λ after. and_then (λ installed. Ok (with_installed installed after s))
        (signed_record s.key (honest_record s.key (next_version s.installed) after) rec signature)) o (Err fault.NothingProposed)) e)

    pub install_ok : (after : List Stored) (installed : SignedRecord) → s.pending ≡ Some after
        → signed_record s.key (honest_record s.key (next_version s.installed) after) rec signature ≡ Ok installed → install_of s rec signature ≡ Ok (with_installed installed after s)
    unfolding install_go
    install_ok after installed e f = sym (install_by after e) ∙ ap (and_then (install_go after)) f

-- What the calls keep.

pub install_honest : (s : StoreState) → IsHonestStore s → (rec : Record) (signature : List ℕ) (after : List Stored) (found : SignedRecord) → s.pending ≡ Some after
    → signed_record s.key (honest_record s.key (next_version s.installed) after) rec signature ≡ Ok found → IsHonestStore (with_installed found after s)
install_honest s h rec signature after found pending e =
    let good = good_only s.key rec signature (honest_record s.key (next_version s.installed) after) found e in
    subst (λ (x : SignedRecord). IsHonestStore (with_installed x after s)) (sym good.found_is)
    (installed_honest s h (record { rec = rec; signature = signature }) after good.signed pending good.due_is)

there : (o : Option SignedRecord) → is_none o ≡ false → IsSome o
there None e = absurd (cc)
there (Some installed) e = refl

worked : (proofs p : List ℕ) (after : List Stored) (r : Result (List Stored) (ℕ × CommandFault)) → with_proofs (λ (ss : List Stored). ss) proofs r ≡ Ok (after, p) → r ≡ Ok after
worked proofs p after (Ok found) e =
    let both : (found, proofs) ≡ (after, p) = cc in
    ap Ok (ap (λ (x : List Stored × List ℕ). x.0) both)
worked proofs p after (Err refused) e = absurd (cc)

pub propose_honest : (s : StoreState) → IsHonestStore s → (cs : List Command) (after : List Stored) (proofs : List ℕ) → FitsBatch cs → is_none s.installed ≡ false
    → with_proofs (λ (ss : List Stored). ss) (proofs_bytes (honest_proofs cs s.tables)) (work_from 0 cs s.tables) ≡ Ok (after, proofs) → IsHonestStore (with_pending after s)
propose_honest s h cs after proofs fits some e =
    (h.0, proposed_honest s h.0 h.1 (there s.installed some) after (cs, fits, work_done cs s.tables after (worked (proofs_bytes (honest_proofs cs s.tables)) proofs after (work_from 0 cs s.tables) e)))
