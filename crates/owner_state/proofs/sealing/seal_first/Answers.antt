use Rattle.std.proofs.Common.{ℕ, List, ◌++◌, ap, ◌∙◌}
use Rattle.vo_spec.specs.Journals.{slot}
use Rattle.owner_state.proofs.FirstVersion.{started}
use Rattle.owner_state.proofs.sealing.seal_first.Goals as goal

pub returns-clause-slots : goal.returns-clause-slots
returns-clause-slots c =
    c.in_ok-put_slot.ensures.ok ∙ ap (λ (t : List ℕ). t ++ slot c.in_ok-owner.entry) c.new-slots.ensures.items
    ∙ ap slot (c.in_ok-owner.ensures.entry ∙ started c.args.key.now)
