-- An audit has one verdict, but for the strings that show a collision.
use Rattle.std.proofs.Common.{◌≡◌, ℕ, ◌<◌, ◌≤◌, List, [], ◌∷◌, ◌++◌, length, take, Result, Ok, Err, append-nil, append_assoc, refl, sym, ap, subst, ◌∙◌, inl, inr, arith}
use Rattle.std.specs.List.{AllByRecursion, flat_map}
use Rattle.std.proofs.lemmas.Bool.Decides.{leb_tells}
use Rattle.std.proofs.lemmas.List.{take_at}
use Rattle.vo_spec.specs.declared.checks.Answer.{Answer}
use Rattle.vo_spec.specs.declared.checks.AuditFault.{AuditFault}
use Rattle.vo_spec.specs.declared.checks.AuditFault.TheVariants.{BadJournal, Refused, Memory}
use Rattle.vo_spec.specs.declared.checks.Verdict.{Verdict}
use Rattle.vo_spec.specs.declared.checks.Verdict.TheVariants.{Unsigned, Exact, Collides as Collide}
use Rattle.vo_spec.specs.declared.records.Entry.{Entry}
use Rattle.vo_spec.specs.Audits.{AuditOf, IsVerdict}
use Rattle.vo_spec.specs.Checks.{CheckOf}
use Rattle.vo_spec.specs.Conditions.{Query}
use Rattle.vo_spec.specs.Journals.{Begins, FitsEntry, slot}
use Rattle.vo_spec.specs.Replies.{Reply}
use Rattle.batch_format.proofs.ReaderLaws.{some_is}
use Rattle.owner_roots.specs.Owners.{AreOwned, IsBadAt, IsOwned, OwnedAuditOf}
use Rattle.owner_roots.proofs.OwnedLaws.{owned_front}
use Rattle.owner_state.specs.Reading.{slot_at}
use Rattle.owner_state.proofs.EntryLaws.{slot_again}
use Rattle.owner_state.proofs.SlotLaws.{begins_front}
use Rattle.honest_peers.specs.Accepting.{SaysSame}
use Rattle.honest_peers.proofs.AskLaws.{one_check}
use Rattle.workload_run.proofs.Readings.{never_bad, one_owned}
use Rattle.vo_commands.proofs.OwnerAudits.{one_reply}

-- Of two lists of entries in front of bytes the longer one holds the other.

reach : (xs es : List Entry) (a b : List ℕ) → AllByRecursion FitsEntry xs → AllByRecursion FitsEntry es
    → flat_map slot xs ++ a ≡ flat_map slot es ++ b → length xs ≤ length es → (ys : List Entry) × (es ≡ xs ++ ys)
reach [] es a b fx fe e long = (es, refl)
reach (x ∷ xs) [] a b fx fe e long = absurd (omega (arith, long))
reach (x ∷ xs) (y ∷ es) a b fx fe e long =
    let less : length xs ≤ length es = omega (arith, long) in
    let r : List ℕ = flat_map slot xs ++ a in
    let s : List ℕ = flat_map slot es ++ b in
    let same : slot x ++ r ≡ slot y ++ s = sym (append_assoc (slot x) (flat_map slot xs) a) ∙ e ∙ append_assoc (slot y) (flat_map slot es) b in
    let both : (x, r) ≡ (y, s) = some_is (x, r) (y, s) (sym (slot_again x r fx.0) ∙ ap slot_at same ∙ slot_again y s fe.0) in
    let f = reach xs es a b fx.1 fe.1 (ap (λ (p : Entry × List ℕ). p.1) both) less in
    (f.0, ap (λ (z : Entry). z ∷ es) (sym (ap (λ (p : Entry × List ℕ). p.0) both)) ∙ ap (λ (zs : List Entry). x ∷ zs) f.1)

module _ (key bytes : List ℕ) where
  -- entries that go further show that the shorter ones stop for nothing
  goes_further : (xs es ys : List Entry) → es ≡ xs ++ ys → length xs < length es → Begins bytes es → AreOwned key es
      → ((e : Entry) → Begins bytes (xs ++ e ∷ []) → AreOwned key (xs ++ e ∷ []) → ⊥) → ⊥
  goes_further xs es [] is short begins owned stops = absurd (omega (arith, ap length (is ∙ append-nil xs), short))
  goes_further xs es (e ∷ ys) is short begins owned stops =
      let more : List Entry = xs ++ e ∷ [] in
      let n : ℕ = length more in
      let parts : es ≡ more ++ ys = is ∙ sym (append_assoc xs (e ∷ []) ys) in
      let front : take n es ≡ more = ap (take n) parts ∙ take_at more ys n refl in
      stops e (subst (Begins bytes) front (begins_front bytes es n begins)) (subst (AreOwned key) front (owned_front key n es owned))

  never_below : (i j : ℕ) → i < j → IsBadAt key bytes i → IsBadAt key bytes j → ⊥
  unfolding IsBadAt
  never_below i j below first second =
      let f = reach first.0 second.0 first.1.1 second.1.1 first.1.0 second.1.0 (sym first.1.2 ∙ second.1.2)
      (omega (arith, first.3, second.3, below)) in
      goes_further first.0 second.0 f.0 f.1 (omega (arith, first.3, second.3, below)) second.1 second.2 first.5

  pub one_place : (i j : ℕ) → IsBadAt key bytes i → IsBadAt key bytes j → i ≡ j
  one_place i j first second =
      elim (leb_tells i j) [
        | inl t ↦
            elim (leb_tells j i) [
              | inl s ↦ omega (arith, t.1, s.1)
              | inr s ↦ absurd (never_below i j s.1 first second)
            ]
        | inr t ↦ absurd (never_below j i t.1 second first)
      ]

module _ (es : List Entry) (q : Query) (r : Reply) (answer : Answer) where
  same_verdict : (a b : Verdict) → IsVerdict es q r answer a → IsVerdict es q r answer b → SaysSame (Ok a) (Ok b)
  unfolding IsVerdict
  same_verdict (Unsigned rec signature last) (Unsigned other by end) x y =
      let record_is = x.1 ∙ sym y.1 in
      let signature_is = x.2 ∙ sym y.2 in
      let last_is = x.3 ∙ sym y.3 in cc
  same_verdict (Unsigned rec signature last) (Exact version) x y = absurd (x.0 y.0)
  same_verdict (Unsigned rec signature last) (Collide found) x y = absurd (x.0 y.0)
  same_verdict (Exact version) (Unsigned rec signature last) x y = absurd (y.0 x.0)
  same_verdict (Exact version) (Exact other) x y = let version_is = x.2 ∙ sym y.2 in cc
  same_verdict (Exact version) (Collide found) x y = absurd (y.1 x.1)
  same_verdict (Collide found) (Unsigned rec signature last) x y = absurd (y.0 x.0)
  same_verdict (Collide found) (Exact version) x y = absurd (x.1 y.1)
  same_verdict (Collide found) (Collide other) x y = tt

module _ (key : List ℕ) (q : Query) (bytes : List ℕ) where
  pub answer_is : (a b : Answer) → CheckOf key 0 q bytes (Ok a) → CheckOf key 0 q bytes (Ok b) → a ≡ b
  answer_is a b first second = let same = one_check key 0 q bytes (Ok a) (Ok b) first second in cc

  pub one_verdict : (journal : List ℕ) (a b : Result Verdict AuditFault) → OwnedAuditOf key journal q bytes a → OwnedAuditOf key journal q bytes b → SaysSame a b
  unfolding AuditOf IsOwned IsBadAt
  one_verdict journal (Err Memory) b x y = absurd x
  one_verdict journal a (Err Memory) x y = absurd y
  one_verdict journal (Err (BadJournal i)) (Err (BadJournal j)) x y = let same : i ≡ j = one_place key journal i j x y in cc
  one_verdict journal (Err (BadJournal i)) (Err (Refused g)) x y = absurd (never_bad key journal y.0 i y.1 x)
  one_verdict journal (Err (BadJournal i)) (Ok w) x y = absurd (never_bad key journal y.0 i y.1 x)
  one_verdict journal (Err (Refused f)) (Err (BadJournal j)) x y = absurd (never_bad key journal x.0 j x.1 y)
  one_verdict journal (Err (Refused f)) (Err (Refused g)) x y =
      let same = one_check key 0 q bytes (Err f) (Err g) x.2 y.2 in cc
  one_verdict journal (Err (Refused f)) (Ok w) x y =
      let same = one_check key 0 q bytes (Err f) (Ok y.4) x.2 y.5 in absurd (cc)
  one_verdict journal (Ok v) (Err (BadJournal j)) x y = absurd (never_bad key journal x.0 j x.1 y)
  one_verdict journal (Ok v) (Err (Refused g)) x y =
      let same = one_check key 0 q bytes (Err g) (Ok x.4) y.2 x.5 in absurd (cc)
  one_verdict journal (Ok v) (Ok w) x y =
      let entries : y.0 ≡ x.0 = one_owned key journal y.0 x.0 y.1 x.1 in
      let reply : y.2 ≡ x.2 = one_reply bytes y.2 x.2 y.3 x.3 in
      let answer : y.4 ≡ x.4 = answer_is y.4 x.4 y.5 x.5 in
      same_verdict x.0 q x.2 x.4 v w x.6
      (subst (λ (es : List Entry). IsVerdict es q x.2 x.4 w) entries
      (subst (λ (r : Reply). IsVerdict y.0 q r x.4 w) reply
      (subst (λ (a : Answer). IsVerdict y.0 q y.2 a w) answer y.6)))
