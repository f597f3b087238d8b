use Rattle.std.proofs.Common.{◌≡◌, ℕ, List, [], ◌∷◌, ◌++◌, None, ap, ◌∙◌, subst}
use Rattle.vo_spec.specs.declared.tables.Batch.{Batch}
use Rattle.vo_spec.specs.Journals.{journal_bytes, slot}
use Rattle.vo_spec.specs.Honest.{seal_batches}
use Rattle.vo_spec.specs.Secret.{secret_leaves}
use Rattle.std.specs.Prelude.{flat_map}
use Rattle.owner_state.specs.Sealing.{commands_of, seal_fault}
use Rattle.owner_state.proofs.SealedJournals.{sealed_journal}
use Rattle.owner_state.proofs.sealing.seal.Goals as goal

pub returns-clause-journal : goal.returns-clause-journal
unfolding journal_bytes
returns-clause-journal c =
    c.in_ok-extend_from_slice.ensures.items ∙ ap (λ (t : List ℕ). t ++ 0 ∷ []) c.in_ok-journal.ensures.slots
    ∙ ap (λ (bs : List Batch). flat_map slot (seal_batches c.args.key.now (commands_of bs)) ++ 0 ∷ []) c.as_slice.ensures

pub returns-clause-owned : goal.returns-clause-owned
returns-clause-owned c =
    (sealed_journal c.args.key.now c.args.batches _ c.in_ok-journal.ensures.signs c.requires
    (subst (λ (bs : List Batch). seal_fault (secret_leaves c.args.key.now) ([] ∷ []) (commands_of bs) ≡ None) c.as_slice.ensures c.in_ok-journal.ensures.sealed)
    (returns-clause-journal c)).0

pub returns-clause-loaded : goal.returns-clause-loaded
returns-clause-loaded c =
    (sealed_journal c.args.key.now c.args.batches _ c.in_ok-journal.ensures.signs c.requires
    (subst (λ (bs : List Batch). seal_fault (secret_leaves c.args.key.now) ([] ∷ []) (commands_of bs) ≡ None) c.as_slice.ensures c.in_ok-journal.ensures.sealed)
    (returns-clause-journal c)).1
