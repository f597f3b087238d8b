use Rattle.std.proofs.Common.{◌≡◌, length, sym, ap, ◌∙◌, arith}
use Rattle.std.specs.Int.{w64, from_be_bytes}
use Rattle.std.proofs.lemmas.List.{take_all}
use Rattle.std.proofs.lemmas.Nat.{be_bytes_8}
use Rattle.vo_spec.specs.Bytes.{u64_bytes}
use Rattle.key_intervals.proofs.key_order.number_in.Goals as goal

pub returns-then-is_empty : goal.returns-then-is_empty
unfolding u64_bytes
returns-then-is_empty c =
    let eight : length c.args.bytes.now ≡ 8 = grind (arith, c.in_ok-front.ensures.cases.2) in
    let front : c.in_ok-front.front.now ≡ c.args.bytes.now = c.in_ok-front.ensures.cases.0 ∙ take_all 8 c.args.bytes.now (omega (arith, eight)) in
    sym (be_bytes_8 c.args.bytes.now c.from_be_bytes.result eight (λ i. omega (arith, c.type_inv.bytes i)) (c.from_be_bytes.ensures ∙ ap (from_be_bytes w64) front))
