use Rattle.std.proofs.Common.{◌∙◌, sym}
use Rattle.totals_laws.specs.TotalsTrees.{totals_family}
use Rattle.btree.specs.Nodes.{IsNewKid}
use Rattle.mb_sum.specs.Views.{part_of, part_kid}
use Rattle.mb_sum.proofs.Changes.{fits_shaped, part_made, exchange_sets, fault_over}
use Rattle.mb_sum.proofs.part_updates.set_entry.Goals as goal

pub set-requires : goal.set-requires
set-requires c = fits_shaped (part_of c.args.tree.now) c.requires.within

pub returns-in-Ok : goal.returns-in-Ok
returns-in-Ok c =
    sym (exchange_sets c.args.key.now c.args.entry (part_of c.args.tree.now) c.requires.same) ∙ part_made c.in-Ok.root _ c.in-Ok.ensures

pub returns-in-Err : goal.returns-in-Err
returns-in-Err c =
    fault_over (IsNewKid totals_family part_kid) part_of c.in-Err.fault _ _ c.in-Err.ensures
    (λ f fails. sym (exchange_sets c.args.key.now c.args.entry (part_of c.args.tree.now) c.requires.same) ∙ fails)
