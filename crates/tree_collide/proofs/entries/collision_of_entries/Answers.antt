use Rattle.std.proofs.Common.{◌<◌, length, sym, ap, ◌∙◌, arith}
use Rattle.vo_spec.specs.Cells.{row_digest, whole_row}
use Rattle.tree_collide.proofs.Steps.{entry_here, entry_found, entry_passed}
use Rattle.tree_collide.proofs.entries.collision_of_entries.Goals as goal

pub collision_of_row-requires-clause-same : goal.collision_of_row-requires-clause-same
collision_of_row-requires-clause-same c =
    let within : c.loop-place.place < length c.args.entries.now = omega (arith, c.requires.count, c.loop-place-test.true) in
    let here = entry_here _ _ _ _ _ _ _ c.loop-place-test.true c.index-parts-place.is within c.index-entries-place.is c.loop-place.invariant in
    here.1 ∙ ap (λ cells. row_digest (whole_row cells)) (sym c.cells.ensures)

pub returns-then-is_some : goal.returns-then-is_some
returns-then-is_some c =
    let within : c.loop-place.place < length c.args.entries.now = omega (arith, c.requires.count, c.loop-place-test.true) in
    let told = rw c.cells.ensures at c.in_ok-found.ensures in
    entry_found _ _ _ _ _ _ _ c.loop-place-test.true c.index-parts-place.is within c.index-entries-place.is c.loop-place.invariant c.in_ok-found.found (sym c.is_some.ensures ∙ c.if-is_some.true) told

pub loop-place-preserved : goal.loop-place-preserved
loop-place-preserved c =
    let within : c.loop-place.place < length c.args.entries.now = omega (arith, c.requires.count, c.loop-place-test.true) in
    let told = rw c.cells.ensures at c.in_ok-found.ensures in
    entry_passed _ _ _ _ _ _ _ c.loop-place-test.true c.index-parts-place.is within c.index-entries-place.is c.loop-place.invariant c.in_ok-found.found (sym c.is_some.ensures ∙ c.if-is_some.false) told
