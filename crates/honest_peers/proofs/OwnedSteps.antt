-- What an owner writes is owned by its public key.
use Rattle.std.proofs.Common.{◌≡◌, ℕ, ◌<◌, List, [], ◌∷◌, length, refl, sym, subst, arith}
use Rattle.vo_spec.specs.declared.tables.Command.{Command}
use Rattle.vo_spec.specs.declared.records.Entry.{Entry}
use Rattle.vo_spec.specs.Journals.{IsJournal}
use Rattle.vo_spec.specs.Records.{record_bytes}
use Rattle.vo_spec.specs.Replies.{proofs_bytes}
use Rattle.vo_spec.specs.Secret.{Secret, public_of_secret, secret_leaves}
use Rattle.vo_laws.specs.Sealing.{SignsValidly}
use Rattle.owner_roots.specs.declared.roots.Roots.{Roots}
use Rattle.owner_roots.specs.Owners.{AreNextEntries, AreOwned, AreOwnedTo, IsFirstEntry, IsNextEntry, IsOwned, IsSignedFor, first_roots, record_of_roots}
use Rattle.owner_roots.proofs.OwnedLaws.{next_version}
use Rattle.round_trips.proofs.SealedJournals.{some_leaf}
use Rattle.owner_state.specs.declared.steps.Step.{Step}
use Rattle.owner_state.specs.Stepping.{AreSteps, AreStepsTo, IsStepTo, first_entry, signed_entry}
use Rattle.owner_state.proofs.OwnerSteps.{next_of_step, signed_for, step_parts}

module _ (secret : Secret) (signs : SignsValidly secret) where
  abbrev key : List ℕ
  key = public_of_secret secret

  -- an entry is signed for its roots, where the key has a leaf for them
  signed : (roots : Roots) (batch : List Command) (proofs : List ℕ) → roots.version < secret_leaves secret
      → IsSignedFor key roots (signed_entry secret roots batch proofs)
  unfolding signed_entry
  signed roots batch proofs left =
      let by = signs roots.version (record_bytes (record_of_roots key roots)) left in
      signed_for key roots (signed_entry secret roots batch proofs) refl by.1 by.0

  first_owned : (e : Entry) → e ≡ first_entry secret → IsFirstEntry key e
  unfolding signed_entry
  first_owned e is = subst (IsFirstEntry key) (sym is) (record {
    commands = refl;
    proofs = refl;
    signed = signed first_roots [] (proofs_bytes []) (some_leaf secret);
  })

  abbrev step_with : Entry → Roots → Step
  step_with e roots = record { entry = e; roots = roots }

  step_owned : (before : Roots) (e : Entry) (after : Roots) → IsStepTo secret before e after → IsNextEntry key before e after
  step_owned before e after is =
      let parts = step_parts secret before e.batch.commands e.proofs (step_with e after) is in
      let left : after.version < secret_leaves secret =
      omega (arith, parts.left, next_version before e.batch.commands e.proofs after parts.next) in
      next_of_step secret before e.batch.commands e.proofs after e parts.entry parts.next
      (subst (IsSignedFor key after) (sym parts.entry) (signed after e.batch.commands e.proofs left))

  steps_owned : (before : Roots) (es : List Entry) (behind : Roots) → AreSteps secret before es behind → AreNextEntries key before es behind
  steps_owned before [] behind same = same
  steps_owned before (e ∷ es) behind all = (all.0, step_owned before e all.0 all.1, steps_owned all.0 es behind all.2)

  pub written_owned : (es : List Entry) (behind : Roots) → AreStepsTo secret es behind → AreOwnedTo key es behind
  unfolding AreStepsTo AreOwnedTo
  written_owned [] behind all = absurd all
  written_owned (e ∷ es) behind all = (first_owned e all.0, steps_owned first_roots es behind all.1)

  are_owned : (es : List Entry) (behind : Roots) → AreOwnedTo key es behind → AreOwned key es
  unfolding AreOwned
  are_owned [] behind all = tt
  are_owned (e ∷ es) behind all = (behind, all)

  some : (es : List Entry) (behind : Roots) → AreStepsTo secret es behind → 0 < length es
  unfolding AreStepsTo
  some [] behind all = absurd all
  some (e ∷ es) behind all = omega arith

  pub journal_owned : (bytes : List ℕ) (es : List Entry) (behind : Roots) → AreStepsTo secret es behind → IsJournal bytes es
      → IsOwned key bytes es
  unfolding IsOwned
  journal_owned bytes es behind all is = (is, are_owned es behind (written_owned es behind all), some es behind all)
