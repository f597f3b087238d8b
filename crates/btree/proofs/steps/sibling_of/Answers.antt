use Rattle.std.proofs.Common.{◌≡◌, ℕ, zero, suc, ◌-◌, arith}
use Rattle.btree.specs.Steps.{sibling_of}
use Rattle.btree.proofs.steps.sibling_of.Goals as goal

before : (n : ℕ) → (n ≡ 0 → ⊥) → n - 1 ≡ sibling_of n
before zero some = absurd (omega arith)
before (suc n) some = omega arith

pub returns-else-place-eq0 : goal.returns-else-place-eq0
returns-else-place-eq0 c = record {
  value = before c.args.place (λ none. omega arith);
  within = omega arith;
  before = λ some. omega arith;
  first = λ less. omega arith;
  next = λ most. omega arith;
}
