use Rattle.std.proofs.Common.{◌≡◌, ◌-◌, ℕ, List, length, take, drop, sym, ap, ◌∙◌, ◌++◌, arith}
use Rattle.std.specs.Prelude.{Bool, true, false, ◌==◌, ◌&&◌}
use Rattle.std.proofs.lemmas.Bool.Decides.{nat_tests}
use Rattle.std.proofs.lemmas.List.{length-drop}
use Rattle.std.proofs.Math.Seq.{take-length}
use Rattle.vo_spec.specs.Bytes.{u32_bytes, u32_at}
use Rattle.vo_spec.specs.Keys.{is_public_key, names_sets}
use Rattle.lms_sign.proofs.Reading.{named_two, two_read}
use Rattle.lms_sign.proofs.public_key.read_two.Goals as goal

whole_rest : (bytes : List ℕ) → take (length bytes - 4) (drop 4 bytes) ≡ drop 4 bytes
whole_rest bytes = ap (λ n. take n (drop 4 bytes)) (sym (length-drop 4 bytes)) ∙ take-length (drop 4 bytes)

judged : (bytes : List ℕ) (b : Bool) → length bytes ≡ 60 → u32_at bytes 0 ≡ 2
    → b ≡ names_sets (take (length bytes - 4) (drop 4 bytes)) → b ≡ is_public_key bytes
judged bytes b whole two is =
    is ∙ ap names_sets (whole_rest bytes)
    ∙ sym (named_two bytes whole ∙ ap (λ n. (n == 2) && names_sets (drop 4 bytes)) two)

other_number : (bytes : List ℕ) → (u32_at bytes 0 ≡ 2 → ⊥) → (u32_at bytes 0 == 2) ≡ false
other_number bytes other = grind (arith, nat_tests)

pub returns-then-u32_at-ne-TWO_LEVELS-clause-named : goal.returns-then-u32_at-ne-TWO_LEVELS-clause-named
returns-then-u32_at-ne-TWO_LEVELS-clause-named c =
    let other = other_number c.args.bytes.now (rw c.u32_at.ensures at c.if-u32_at-ne-TWO_LEVELS.true) in
    sym (named_two c.args.bytes.now c.requires ∙ ap (λ b. b && names_sets (drop 4 c.args.bytes.now)) other)

pub returns-in_err-tree-clause-named : goal.returns-in_err-tree-clause-named
returns-in_err-tree-clause-named c =
    rw c.from_residual.ensures
    (judged c.args.bytes.now false c.requires (sym c.u32_at.ensures ∙ c.if-u32_at-ne-TWO_LEVELS.false) c.in_err-tree.ensures.named)

pub returns-clause-key : goal.returns-clause-key
returns-clause-key c =
    ap (λ tree. u32_bytes 2 ++ tree) (c.in_ok-tree.ensures.key ∙ whole_rest c.args.bytes.now)
    ∙ two_read c.args.bytes.now c.requires (λ i. (c.type_inv.bytes i).fits)
    (sym c.u32_at.ensures ∙ c.if-u32_at-ne-TWO_LEVELS.false)

pub returns-clause-named : goal.returns-clause-named
returns-clause-named c =
    judged c.args.bytes.now true c.requires (sym c.u32_at.ensures ∙ c.if-u32_at-ne-TWO_LEVELS.false) c.in_ok-tree.ensures.named
