-- Cells fit columns where the parts of both fit.
use Rattle.std.proofs.Common.{◌≡◌, ◌≢◌, ℕ, zero, suc, ◌<◌, ◌≤◌, Bool, true, false, ◌&&◌, List, [], ◌∷◌, ◌++◌, length, take, drop, remove, refl, sym, ap, ◌∙◌, arith}
use Rattle.vo_spec.specs.declared.cells.Cell.{Cell}
use Rattle.vo_spec.specs.declared.tables.Column.{Column}
use Rattle.vo_spec.specs.Checks.{cell_fits, cells_fit}

and_false : (a b : Bool) → false ≡ b → false ≡ (a && b)
and_false true b e = e
and_false false b e = refl

pub unlike_lengths : (columns : List Column) (cells : List Cell) → length columns ≢ length cells → false ≡ cells_fit columns cells
unlike_lengths [] [] other = absurd (other refl)
unlike_lengths [] (v ∷ cells) other = refl
unlike_lengths (c ∷ columns) [] other = refl
unlike_lengths (c ∷ columns) (v ∷ cells) other = and_false (cell_fits c v) _ (unlike_lengths columns cells (λ e. other (ap suc e)))

and_and : (a b c : Bool) → (a && (b && c)) ≡ ((a && b) && c)
and_and true b c = refl
and_and false b c = refl

-- in two parts, the columns of the second being any others
pub parted : (key : ℕ) (columns others : List Column) (cells : List Cell) → key < length columns → key ≤ length cells
    → cells_fit (take key columns ++ others) cells ≡ (cells_fit (take key columns) (take key cells) && cells_fit others (drop key cells))
parted zero columns others cells h g = refl
parted (suc key) [] others cells h g = absurd (omega arith)
parted (suc key) (c ∷ columns) others [] h g = absurd (omega arith)
parted (suc key) (c ∷ columns) others (v ∷ cells) h g =
    ap (λ (b : Bool). cell_fits c v && b) (parted key columns others cells (omega arith) (omega arith))
    ∙ and_and (cell_fits c v) (cells_fit (take key columns) (take key cells)) (cells_fit others (drop key cells))

pub parted_fit : (key : ℕ) (columns : List Column) (cells : List Cell) → key < length columns → key ≤ length cells
    → cells_fit (remove columns key) cells ≡ (cells_fit (take key columns) (take key cells) && cells_fit (drop (suc key) columns) (drop key cells))
parted_fit key columns cells h g = parted key columns (drop (suc key) columns) cells h g

short : (key : ℕ) (columns others : List Column) (cells : List Cell) → key < length columns → length cells < key
    → cells_fit (take key columns ++ others) cells ≡ false
short zero columns others cells h g = absurd (omega arith)
short (suc key) [] others cells h g = absurd (omega arith)
short (suc key) (c ∷ columns) others [] h g = refl
short (suc key) (c ∷ columns) others (v ∷ cells) h g = sym (and_false (cell_fits c v) _ (sym (short key columns others cells (omega arith) (omega arith))))

pub short_of_columns : (key : ℕ) (columns : List Column) (cells : List Cell) → key < length columns → length cells < key
    → cells_fit (remove columns key) cells ≡ false
short_of_columns key columns cells h g = short key columns (drop (suc key) columns) cells h g

pub no_column_removed : (key : ℕ) (columns : List Column) → length columns ≤ key → remove columns key ≡ columns
no_column_removed zero [] h = refl
no_column_removed (suc key) [] h = refl
no_column_removed zero (c ∷ columns) h = absurd (omega arith)
no_column_removed (suc key) (c ∷ columns) h = ap (λ (t : List Column). c ∷ t) (no_column_removed key columns (omega arith))
