-- The size of a condition, by which its printing ends.
use Rattle.std.proofs.Common.{ℕ, zero, suc, ◌+◌, ◌<◌, ◌≡◌, List, [], ◌∷◌, length, get_or, map, ap, arith}
use Rattle.vo_spec.specs.declared.queries.Cond.{Cond}
use Rattle.vo_spec.specs.Conditions.{Condition, Conditions, every, some, negated, test, none, more, conditions, condition_of}

abbrev mutual
  pub size : Condition → ℕ
  size (every cs) = suc (sizes cs)
  size (some cs) = suc (sizes cs)
  size (negated c) = suc (size c)
  size (test t) = zero

  pub sizes : Conditions → ℕ
  sizes none = zero
  sizes (more c cs) = suc (size c + sizes cs)

abbrev pub sizes_of : List Cond → ℕ
sizes_of parts = sizes (conditions (map condition_of parts))

pub part_falls : (parts : List Cond) (i : ℕ) (x : Cond) → i < length parts → x ≡ get_or parts i x → size (condition_of x) < sizes_of parts
part_falls [] i x lt is = absurd (omega arith)
part_falls (y ∷ parts) zero x lt is = let e = ap (λ z. size (condition_of z)) is in omega arith
part_falls (y ∷ parts) (suc i) x lt is =
    let h : size (condition_of x) < sizes_of parts = part_falls parts i x (omega arith) is in omega arith
