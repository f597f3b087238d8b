use Rattle.std.proofs.Common.{◌≡◌, ℕ, suc, ◌-◌, subst}
use Rattle.tree_stream.specs.Keeping.{KeepsInCells}
use Rattle.tree_stream.specs.Positions.{IsInCells}
use Rattle.tree_stream.proofs.KeepingLaws.{row_ended as row_kept}
use Rattle.tree_stream.proofs.PlaceLaws.{row_ended}
use Rattle.std.proofs.Common.{arith}
use Rattle.tree_stream.proofs.Remainders.{same_with}
use Rattle.tree_stream.proofs.Steps.{ok_then, yields_cell, cells_done}
use Rattle.tree_stream.proofs.leaves.next_cell.Goals as goal

pub returns-then-left-eq0-clause-ok : goal.returns-then-left-eq0-clause-ok
returns-then-left-eq0-clause-ok c =
    ok_then _ c.end_row.result _ _ c.end_row.ensures.ok (λ rest.
    same_with c.args.context.now.target c.args.context.now.ancestors.items c.args.context.now.findings _ _ rest rest
    (cells_done c.args.context.now.target c.args.leaf.hasher c.args.context.now.last_key.items c.args.leaf.left c.args.hasher c.digest.result c.args.column c.args.found c.args.left rest (omega arith) c.digest.ensures))

pub returns-clause-ok : goal.returns-clause-ok
returns-clause-ok c = yields_cell c.args.context.now _ c.args.left (omega arith)

pub returns-then-left-eq0-clause-stands : goal.returns-then-left-eq0-clause-stands
returns-then-left-eq0-clause-stands c =
    row_ended c.args.context.now.ancestors.items c.args.leaf.left c.args.context.now.last_key.items c.args.column c.args.left c.end_row.new.context c.end_row.result (omega arith) c.end_row.ensures.stands

pub returns-clause-stands : goal.returns-clause-stands
returns-clause-stands c = λ bytes at.
    let n : c.args.left ≡ suc (c.args.left - 1) = omega arith in
    let P : ℕ → Type 0 = λ left. IsInCells c.args.context.now.ancestors.items c.args.leaf.left c.args.context.now.last_key.items c.args.column left bytes in
    subst P n at

pub returns-then-left-eq0-clause-keeps : goal.returns-then-left-eq0-clause-keeps
returns-then-left-eq0-clause-keeps c = row_kept c.args.context.now c.end_row.new.context c.args.column c.args.left c.args.found.values c.end_row.result (omega arith) c.end_row.ensures.keeps

pub returns-clause-keeps : goal.returns-clause-keeps
returns-clause-keeps c = λ bytes keeps.
    let n : c.args.left ≡ suc (c.args.left - 1) = omega arith in
    let P : ℕ → Type 0 = λ left. KeepsInCells c.args.context.now c.args.column left c.args.found.values bytes in
    subst P n keeps
