-- The row that a replacement opens.
use Rattle.std.proofs.Common.{◌≡◌, ℕ, suc, ◌+◌, ◌<◌, ◌≤◌, Bool, true, false, cond, not, bytes_eq, List, [], ◌∷◌, length, map, get_or, set, refl, sym, ap, ◌∙◌, arith}
use Rattle.std.proofs.lemmas.List.{length-map, get_or-map}
use Rattle.std.specs.List.{position_or_len}
use Rattle.vo_spec.specs.declared.values.Row.{Row}
use Rattle.vo_spec.specs.declared.values.Value.{Value}
use Rattle.vo_spec.specs.declared.cells.PartEntry.{PartEntry}
use Rattle.vo_spec.specs.declared.cells.Cell.TheVariants.{Shown, Hidden}
use Rattle.vo_spec.specs.Cells.{whole_cells, whole_entry, cell_digest}
use Rattle.vo_spec.specs.Inserts.{closed_entry}
use Rattle.vo_spec.specs.Pruning.{shown_cells}
use Rattle.vo_spec.specs.Removes.{opened_row, hidden_cells}
use Rattle.update_proof.specs.OpenParts.{opened_entry}

abbrev first_place : List ℕ → List PartEntry → ℕ
first_place key = position_or_len (λ e. bytes_eq e.key key)

place_whole : (key : List ℕ) (rows : List Row) → position_or_len (λ row. bytes_eq row.key key) rows ≡ first_place key (map whole_entry rows)
place_whole key [] = refl
place_whole key (row ∷ rs) = ap (λ n. cond (not (bytes_eq row.key key)) (1 + n) 0) (place_whole key rs)

pub none_shown : (n : ℕ) (values : List Value) → shown_cells [] n (whole_cells values) ≡ hidden_cells n (whole_cells values)
none_shown n [] = refl
none_shown n (v ∷ vs) = ap (λ cells. Hidden (cell_digest n (Shown v)) ∷ cells) (none_shown (n + 1) vs)

row_step : (b : Bool) (i j : ℕ) (key : List ℕ) (e : PartEntry) (es : List PartEntry) (d : PartEntry) → j ≡ suc i → cond (not b) j 0 < suc (length es)
    → d ≡ get_or (e ∷ es) (cond (not b) j 0) d
    → (i < length es → d ≡ get_or es i d → opened_row key es ≡ set (map closed_entry es) i (opened_entry d))
    → cond b (opened_entry e ∷ map closed_entry es) (closed_entry e ∷ opened_row key es) ≡ set (map closed_entry (e ∷ es)) (cond (not b) j 0) (opened_entry d)
row_step true i j key e es d next within is on = ap (λ x. opened_entry x ∷ map closed_entry es) (sym is)
row_step false i j key e es d next within is on =
    ap (λ rest. closed_entry e ∷ rest) (on (omega arith) (is ∙ ap (λ n. get_or (e ∷ es) n d) next)) ∙ rw next refl

row_placed : (key : List ℕ) (es : List PartEntry) (d : PartEntry) → first_place key es < length es → d ≡ get_or es (first_place key es) d
    → opened_row key es ≡ set (map closed_entry es) (first_place key es) (opened_entry d)
row_placed key [] d within is = absurd (omega arith)
row_placed key (e ∷ es) d within is =
    let i = first_place key es in
    row_step (bytes_eq e.key key) i (1 + i) key e es d (omega arith) within is (λ below here. row_placed key es d below here)

absent_step : (b : Bool) (i j : ℕ) (key : List ℕ) (e : PartEntry) (es : List PartEntry) → j ≡ suc i → suc (length es) ≤ cond (not b) j 0
    → (length es ≤ i → opened_row key es ≡ map closed_entry es)
    → cond b (opened_entry e ∷ map closed_entry es) (closed_entry e ∷ opened_row key es) ≡ closed_entry e ∷ map closed_entry es
absent_step true i j key e es next past on = absurd (omega arith)
absent_step false i j key e es next past on = ap (λ rest. closed_entry e ∷ rest) (on (omega arith))

row_absent : (key : List ℕ) (es : List PartEntry) → length es ≤ first_place key es → opened_row key es ≡ map closed_entry es
row_absent key [] past = refl
row_absent key (e ∷ es) past =
    let i = first_place key es in
    absent_step (bytes_eq e.key key) i (1 + i) key e es (omega arith) past (λ below. row_absent key es below)

pub no_row_opened : (key : List ℕ) (rows : List Row) (place : ℕ) → place ≡ position_or_len (λ row. bytes_eq row.key key) rows → length rows ≤ place
    → opened_row key (map whole_entry rows) ≡ map closed_entry (map whole_entry rows)
no_row_opened key rows place at past =
    let counted : length (map whole_entry rows) ≡ length rows = length-map rows whole_entry in
    let there : place ≡ first_place key (map whole_entry rows) = at ∙ place_whole key rows in
    row_absent key (map whole_entry rows) (omega arith)

pub row_opened : (key : List ℕ) (rows : List Row) (place : ℕ) (row : Row) → place ≡ position_or_len (λ other. bytes_eq other.key key) rows → place < length rows → row ≡ get_or rows place row
    → opened_row key (map whole_entry rows) ≡ set (map closed_entry (map whole_entry rows)) place (opened_entry (whole_entry row))
row_opened key rows place row at within is =
    let es = map whole_entry rows in
    let counted : length es ≡ length rows = length-map rows whole_entry in
    let there : place ≡ first_place key es = at ∙ place_whole key rows in
    let entry : whole_entry row ≡ get_or es place (whole_entry row) = ap whole_entry is ∙ sym (get_or-map whole_entry rows place row (whole_entry row) within) in
    row_placed key es (whole_entry row) (omega arith) (entry ∙ ap (λ n. get_or es n (whole_entry row)) there)
    ∙ ap (λ n. set (map closed_entry es) n (opened_entry (whole_entry row))) (sym there)
