-- The digests of the first cells, and of one more.
use Rattle.std.proofs.Common.{◌≡◌, ℕ, zero, suc, ◌+◌, ◌<◌, List, [], ◌∷◌, ◌++◌, length, take, get_or, refl, sym, ap, ◌∙◌, arith, append_assoc, append-nil, add-one, add-suc}
use Rattle.vo_spec.specs.declared.cells.Cell.{Cell}
use Rattle.vo_spec.specs.declared.values.Value.{Value}
use Rattle.vo_spec.specs.declared.cells.Cell.TheVariants.{Shown}
use Rattle.vo_spec.specs.Cells.{cell_digest, cell_digests, whole_cells}

cell_digests_front : (n : ℕ) (cs : List Cell) (i : ℕ) (c : Cell) → i < length cs → c ≡ get_or cs i c → cell_digests n (take (suc i) cs) ≡ cell_digests n (take i cs) ++ cell_digest (n + i) c
cell_digests_front n [] i c lt is = absurd (omega arith)
cell_digests_front n (d ∷ ds) zero c lt is =
    let e : n + 0 ≡ n = omega arith in
    let f : c ≡ d = is in
    rw (e, f, append-nil) refl
cell_digests_front n (d ∷ ds) (suc i) c lt is =
    let e : n + 1 + i ≡ n + suc i = omega arith in
    let rest = cell_digests_front (n + 1) ds i c (omega arith) is in
    rw (rest, e, append_assoc) refl

pub cell_digests_more : (cs : List Cell) (i : ℕ) (c : Cell) → i < length cs → c ≡ get_or cs i c → cell_digests 0 (take (i + 1) cs) ≡ cell_digests 0 (take i cs) ++ cell_digest i c
cell_digests_more cs i c lt is =
    let e : 0 + i ≡ i = omega arith in
    rw add-one (rw e at (cell_digests_front 0 cs i c lt is))

whole_digests_front : (n : ℕ) (vs : List Value) (i : ℕ) (v : Value) → i < length vs → v ≡ get_or vs i v → cell_digests n (whole_cells (take (suc i) vs)) ≡ cell_digests n (whole_cells (take i vs)) ++ cell_digest (n + i) (Shown v)
whole_digests_front n [] i v lt is = absurd (omega arith)
whole_digests_front n (w ∷ ws) zero v lt is =
    let e : n + 0 ≡ n = omega arith in
    let f : v ≡ w = is in
    rw (e, f, append-nil) refl
whole_digests_front n (w ∷ ws) (suc i) v lt is =
    let e : n + 1 + i ≡ n + suc i = omega arith in
    let rest = whole_digests_front (n + 1) ws i v (omega arith) is in
    rw (rest, e, append_assoc) refl

pub whole_digests_more : (vs : List Value) (i : ℕ) (v : Value) → i < length vs → v ≡ get_or vs i v → cell_digests 0 (whole_cells (take (i + 1) vs)) ≡ cell_digests 0 (whole_cells (take i vs)) ++ cell_digest i (Shown v)
whole_digests_more vs i v lt is =
    let e : 0 + i ≡ i = omega arith in
    rw add-one (rw e at (whole_digests_front 0 vs i v lt is))
