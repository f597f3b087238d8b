use Rattle.std.proofs.Common.{Ok, ap, ◌∙◌, sym, subst}
use Rattle.vo_spec.specs.Removes.{edited_by}
use Rattle.totals_laws.specs.TotalsTrees.{TotalsPart, totals_family}
use Rattle.btree.specs.Nodes.{IsNewKid}
use Rattle.btree.specs.Shapes.{IsShaped}
use Rattle.mb_sum.specs.Whole.{whole_kid}
use Rattle.mb_sum.proofs.Changes.{tree_shaped, whole_made, set_whole, exchange_sets, fault_over}
use Rattle.mb_sum.proofs.tree.set_entry.Goals as goal

pub set-requires : goal.set-requires
set-requires c = let P : TotalsPart → Type 0 = λ t. IsShaped t in subst P (sym c.root.ensures.value) (tree_shaped c.args.tree.now c.root.ensures.whole)

pub of_root-requires : goal.of_root-requires
of_root-requires c =
    let same = exchange_sets c.args.key.now c.args.entry c.args.tree.now c.requires in
    set_whole c.args.key.now c.args.entry.value c.args.tree.now c.in-Ok.root c.root.ensures.whole
    (sym same ∙ ap (edited_by totals_family (λ _. Ok c.args.entry) c.args.key.now) (sym c.root.ensures.value) ∙ whole_made c.in-Ok.root _ c.in-Ok.ensures)

pub returns-in-Ok : goal.returns-in-Ok
returns-in-Ok c =
    let same = exchange_sets c.args.key.now c.args.entry c.args.tree.now c.requires in
    sym same ∙ ap (edited_by totals_family (λ _. Ok c.args.entry) c.args.key.now) (sym c.root.ensures.value) ∙ whole_made c.in-Ok.root _ c.in-Ok.ensures ∙ ap Ok (sym c.of_root.ensures)

pub returns-in-Err : goal.returns-in-Err
returns-in-Err c =
    let same = exchange_sets c.args.key.now c.args.entry c.args.tree.now c.requires in
    fault_over (IsNewKid totals_family whole_kid) (λ (t : TotalsPart). t) c.in-Err.fault _ _ c.in-Err.ensures
    (λ f fails. sym same ∙ ap (edited_by totals_family (λ _. Ok c.args.entry) c.args.key.now) (sym c.root.ensures.value) ∙ fails)
