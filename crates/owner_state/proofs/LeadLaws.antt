-- How one entry more leads an owner on.
use Rattle.std.proofs.Common.{◌≡◌, ℕ, zero, suc, ◌+◌, ◌-◌, ◌<◌, ◌^◌, List, [], ◌∷◌, ◌++◌, Option, Some, None, Ok, Err, length, take, get_or, sym, ap, ◌∙◌, subst, arith}
use Rattle.std.specs.Prelude.{slice_get}
use Rattle.std.proofs.lemmas.List.{take_more}
use Rattle.vo_spec.specs.declared.records.Entry.{Entry}
use Rattle.vo_spec.specs.declared.records.Record.{Record}
use Rattle.vo_spec.specs.Journals.{FitsEntry}
use Rattle.owner_roots.specs.declared.owner_fault.OwnerFault.{OwnerFault}
use Rattle.owner_roots.specs.declared.roots.Roots.{Roots}
use Rattle.owner_roots.specs.Next.{NextOf}
use Rattle.owner_roots.specs.Owners.{AreNextEntries, AreOwned, AreOwnedTo, IsNextEntry, IsSignedFor, first_roots, record_of_roots}
use Rattle.owner_roots.proofs.OwnedLaws.{next_version, owned_first, owned_grows, owned_to}
use Rattle.owner_state.specs.Owning.{IsBehind, Leads, LeadsTo}
use Rattle.owner_state.proofs.OwnerSteps.{never_both, same_roots}

-- Entries in turn.

pub take_next : (es : List Entry) (n : ℕ) (e : Entry) → n < length es → e ≡ get_or es n e → take (n + 1) es ≡ take n es ++ e ∷ []
take_next es n e within is = take_more es n e within ∙ ap (λ (x : Entry). take n es ++ x ∷ []) (sym is)

pub found_at : (es : List Entry) (n : ℕ) (e : Entry) → n < length es → e ≡ get_or es n e → slice_get es n ≡ Some e
found_at [] n e within is = absurd (omega arith)
found_at (x ∷ es) zero e within is = ap (λ (y : Entry). Some y) (sym is)
found_at (x ∷ es) (suc n) e within is = found_at es n e (omega arith) is

module _ (key : List ℕ) where
  -- The roots behind entries are the only ones.

  one_behind : (before : Roots) (es : List Entry) (a b : Roots) → AreNextEntries key before es a → AreNextEntries key before es b → a ≡ b
  one_behind before [] a b first second = sym first ∙ second
  one_behind before (e ∷ es) a b first second =
      let same : second.0 ≡ first.0 = same_roots before e.batch.commands e.proofs second.0 first.0 second.1.next first.1.next in
      one_behind first.0 es a b first.2 (subst (λ (r : Roots). AreNextEntries key r es b) same second.2)

  pub same_behind : (es : List Entry) (a b : Roots) → AreOwnedTo key es a → AreOwnedTo key es b → a ≡ b
  unfolding AreOwnedTo
  same_behind [] a b first second = absurd first
  same_behind (e ∷ es) a b first second = one_behind first_roots es a b first.1 second.1

  none_owned : (roots : Roots) → AreOwnedTo key [] roots → ⊥
  unfolding AreOwnedTo
  none_owned roots owned = owned

  -- An entry that leads on, and one that doesn't.

  pub behind_more : (es : List Entry) (before : Option Roots) (e : Entry) (after : Roots) → IsBehind key es before → LeadsTo key before e after → AreOwnedTo key (es ++ e ∷ []) after
  behind_more es None e after none leads =
      subst (λ (fs : List Entry). AreOwnedTo key (fs ++ e ∷ []) after) (sym none) ((owned_first key e after).1 leads)
  behind_more [] (Some before) e after owned leads = absurd (none_owned before owned)
  behind_more (f ∷ es) (Some before) e after owned leads = (owned_grows key (f ∷ es) e after (omega arith)).1 (before, owned, leads)

  some_before : (es : List Entry) (e : Entry) → 0 < length (es ++ e ∷ [])
  some_before [] e = omega arith
  some_before (f ∷ es) e = omega arith

  pub owned_more : (es : List Entry) (before : Option Roots) (e : Entry) (after : Roots) → IsBehind key es before → LeadsTo key before e after → AreOwned key (es ++ e ∷ [])
  owned_more es before e after is leads = (owned_to key (es ++ e ∷ []) (some_before es e)).1 (after, behind_more es before e after is leads)

  no_more : (es : List Entry) (before : Option Roots) (e : Entry) (after : Roots) → IsBehind key es before → AreOwnedTo key (es ++ e ∷ []) after
      → ((behind : Roots) → LeadsTo key before e behind → ⊥) → ⊥
  no_more es None e after none owned never =
      never after ((owned_first key e after).0 (subst (λ (fs : List Entry). AreOwnedTo key (fs ++ e ∷ []) after) none owned))
  no_more [] (Some before) e after is owned never = absurd (none_owned before is)
  no_more (f ∷ es) (Some before) e after is owned never =
      let parts = (owned_grows key (f ∷ es) e after (omega arith)).0 owned in
      never after (subst (λ (r : Roots). IsNextEntry key r e after) (same_behind (f ∷ es) parts.0 before parts.1 is) parts.2)

  pub owned_no_more : (es : List Entry) (before : Option Roots) (e : Entry) → IsBehind key es before → ((behind : Roots) → LeadsTo key before e behind → ⊥)
      → AreOwned key (es ++ e ∷ []) → ⊥
  owned_no_more es before e is never owned =
      let all = (owned_to key (es ++ e ∷ []) (some_before es e)).0 owned in
      no_more es before e all.0 is all.1 never

  pub owned_behind : (es : List Entry) (before : Option Roots) → IsBehind key es before → AreOwned key es
  unfolding AreOwned AreOwnedTo
  owned_behind es None none = subst (AreOwned key) (sym none) tt
  owned_behind [] (Some roots) owned = absurd owned
  owned_behind (e ∷ es) (Some roots) owned = (roots, owned)

  -- No roots follow where a proof is refused, or the entry isn't signed for them.

  pub refused_leads : (before : Roots) (e : Entry) (why : OwnerFault) → NextOf before e.batch.commands e.proofs (Err why) → Leads key (Some before) e None
  refused_leads before e why refusal = λ after leads. never_both before e.batch.commands e.proofs why after refusal leads.next

  pub unsigned_leads : (before : Roots) (e : Entry) (next : Roots) → NextOf before e.batch.commands e.proofs (Ok next) → (IsSignedFor key next e → ⊥) → Leads key (Some before) e None
  unsigned_leads before e next is not = λ after leads.
      not (subst (λ (r : Roots). IsSignedFor key r e) (same_roots before e.batch.commands e.proofs after next leads.next is) leads.signed)

  pub exhausted_leads : (before : Roots) (e : Entry) → before.version ≡ 2 ^ 64 - 1 → FitsEntry e → Leads key (Some before) e None
  unfolding record_of_roots
  exhausted_leads before e last fits = λ after leads.
      let number = next_version before e.batch.commands e.proofs after leads.next in
      let same = ap (λ (r : Record). r.version) leads.signed.record_is in
      let within = fits.rec.version in
      omega (arith, number, same, within, last)
