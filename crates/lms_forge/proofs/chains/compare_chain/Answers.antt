use Rattle.std.proofs.Common.{◌≡◌, ◌-◌, ◌*◌, ◌^◌, ◌%◌, refl}
use Rattle.vo_spec.specs.OtsSets.{width_of}
use Rattle.lm_ots.proofs.Checking.{power_fits}
use Rattle.lms_forge.proofs.ChainLaws.{met_hashed, chain_compared, nothing_meets}
use Rattle.lms_forge.proofs.chains.compare_chain.Goals as goal

pub compare-requires : goal.compare-requires
compare-requires c =
    rw (c.in_ok-first-in-Some.ensures, c.in_ok-second-in-Some.ensures)
    (met_hashed c.args.tree.now c.args.q c.args.i c.args.digit c.args.value.now _ _ _ _ c.id.ensures.value c.own_value-own.ensures
    c.in-Some.ensures.some)

pub returns-in-None : goal.returns-in-None
returns-in-None c =
    let tree = c.args.tree.now in
    let last : 1 * 2 ^ c.width.result % 4294967296 - 1 ≡ 2 ^ width_of tree.ots - 1 =
    rw (c.width.ensures, c.ots.ensures, power_fits tree.ots) refl in
    nothing_meets tree c.args.q c.args.i c.args.digit c.args.value.now _ _ _ c.id.ensures.value c.own_value-own.ensures last
    c.requires.digit c.requires.end c.in-None.ensures.none

pub returns-in_ok-second-in-Some : goal.returns-in_ok-second-in-Some
returns-in_ok-second-in-Some c =
    let tree = c.args.tree.now in
    let last : 1 * 2 ^ c.width.result % 4294967296 - 1 ≡ 2 ^ width_of tree.ots - 1 =
    rw (c.width.ensures, c.ots.ensures, power_fits tree.ots) refl in
    chain_compared tree c.args.q c.args.i c.args.digit c.args.value.now _ _ _ _ c.id.ensures.value c.own_value-own.ensures
    c.in-Some.ensures.some c.compare.result last
    (rw (c.in_ok-first-in-Some.ensures, c.in_ok-second-in-Some.ensures) at c.compare.ensures)
