use Rattle.std.proofs.Common.{◌≡◌, ◌+◌, ◌*◌, sym, ◌∙◌, below_more}
use Rattle.vo_spec.specs.Bytes.{digest_at}
use Rattle.vo_spec.specs.Ots.{signed_value}
use Rattle.lms_forge.proofs.Findings.{chain_own}
use Rattle.lms_forge.proofs.chains.compare_chains.Goals as goal

pub loop-i-preserved : goal.loop-i-preserved
loop-i-preserved c =
    let tree = c.args.tree.now in
    let i = c.loop-i.i in
    let own = chain_own tree c.args.q i c.coef-digit.result c.chain_value-value.result c.in_ok-found.found
    (sym c.is_some.ensures ∙ c.if-is_some.false) c.in_ok-found.ensures in
    let here : digest_at c.args.part.now (36 + 32 * i) ≡ signed_value tree.id c.args.q tree.ots tree.seed c.args.digits.now i =
    rw (c.chain_value-value.ensures, c.coef-digit.ensures.value, c.width.ensures, c.ots-in-loop-i.ensures) at own in
    below_more (λ k. digest_at c.args.part.now (36 + 32 * k) ≡ signed_value tree.id c.args.q tree.ots tree.seed c.args.digits.now k)
    i c.loop-i.invariant here
