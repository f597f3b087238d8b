use Rattle.std.proofs.Common.{◌≡◌, ◌+◌, ◌-◌, ◌<◌, sym, ◌∙◌, subst, arith}
use Rattle.vo_spec.specs.LmsSets.{height_of}
use Rattle.lms_forge.specs.Comparing.{Compared}
use Rattle.lms_forge.specs.Places.{forged_above, own_above}
use Rattle.lms_forge.proofs.Findings.{nothing_found}
use Rattle.lms_forge.proofs.PathLaws.{one_down}
use Rattle.lms_forge.proofs.paths.compare_path.Goals as goal

pub loop-done-preserved : goal.loop-done-preserved
loop-done-preserved c =
    let tree = c.args.tree.now in
    let h = height_of tree.lms in
    let signature = c.args.signature.now in
    let key = c.args.key.now in
    let level = h - (c.loop-done.done + 1) in
    let place : c.height.result - 1 - c.loop-done.done ≡ level = rw c.height.ensures.value (omega arith) in
    let inside : c.loop-done.done < h = omega (arith, c.loop-done-test.true, c.height-done-end.ensures.value) in
    let same = nothing_found (forged_above tree c.args.q signature key level) (own_above tree c.args.q level) c.in_ok-found.found
    (sym c.is_some.ensures ∙ c.if-is_some.false)
    (subst (λ n. Compared (forged_above tree c.args.q signature key n) (own_above tree c.args.q n) c.in_ok-found.found) place c.in_ok-found.ensures) in
    one_down tree c.args.q signature key (h - c.loop-done.done) level (omega arith) c.requires.whole (omega arith) c.loop-done.invariant same
