-- A cell, a row or an entry that is read is encoded so, and what is encoded so is read.
use Rattle.std.proofs.Common.{◌≡◌, ℕ, ◌≤◌, List, [], ◌∷◌, ◌++◌, length, Option, Some, None, refl, ap, subst, ◌∙◌, append_assoc}
use Rattle.std.specs.List.{AllByRecursion, flat_map}
use Rattle.std.proofs.lemmas.List.Elements.{All-from_recursion, recursion_from_All}
use Rattle.vo_spec.specs.declared.cells.Cell.{Cell}
use Rattle.vo_spec.specs.declared.cells.Cell.TheVariants.{Shown, Hidden}
use Rattle.vo_spec.specs.declared.cells.RowPart.{RowPart}
use Rattle.vo_spec.specs.declared.cells.RowPart.TheVariants.{Digest as Closed, Cells}
use Rattle.vo_spec.specs.declared.cells.PartEntry.{PartEntry}
use Rattle.vo_spec.specs.Bytes.{IsBytes, string}
use Rattle.vo_spec.specs.Fits.{FitsCell, FitsRowPart, FitsEntry, max_cells}
use Rattle.vo_spec.specs.TreeBytes.{cell_form, row_form, entry_form}
use Rattle.row_bytes.specs.Reading.{bytes_at}
use Rattle.row_bytes.proofs.Readers.{IsBytes-rest}
use Rattle.batch_format.specs.BatchReading.{one, any_value_at}
use Rattle.batch_format.proofs.ReaderLaws.{Took, IsReader, took_then, no_some, values_read, next_found, next_again}
use Rattle.batch_format.proofs.BatchLaws.{one_found}
use Rattle.batch_format.specs.TreeReading.{cell_at, cells_at, row_at, part_entry, entry_at}
use Rattle.batch_format.proofs.KeyLaws.{bytes_read, few_read, keys_read, tagged_found, tagged_again, pick}

-- Cells.

pub cell_found : (bytes : List ℕ) (c : Cell) (rest : List ℕ) → IsBytes bytes → cell_at bytes ≡ Some (c, rest) → Took bytes (cell_form c) rest × FitsCell c
unfolding cell_at
cell_found [] c rest fits e = absurd cc
cell_found (byte ∷ bytes) c rest fits e =
    let y : Cell × List ℕ = (c, rest) in
    let behind = IsBytes-rest byte bytes fits in
    let P : ℕ → Type 0 = λ k. Took (k ∷ bytes) (cell_form c) rest × FitsCell c in
    pick P byte 0 (one Hidden (bytes_at 32) bytes) _ y e (tagged_found (bytes_read 32) Hidden cell_form FitsCell 0 (λ d. refl) (λ d long. long) bytes c rest behind)
    (λ e1. pick P byte 1 (one Shown any_value_at bytes) None y e1 (tagged_found values_read Shown cell_form FitsCell 1 (λ v. refl) (λ v good. good) bytes c rest behind)
    (λ e2. absurd (no_some y e2)))

pub cell_again : (c : Cell) (rest : List ℕ) → FitsCell c → cell_at (cell_form c ++ rest) ≡ Some (c, rest)
unfolding cell_at
cell_again (Hidden d) rest fits = tagged_again (bytes_read 32) Hidden d rest fits
cell_again (Shown v) rest fits = tagged_again values_read Shown v rest fits

cells_law : IsReader cell_at cell_form FitsCell
cells_law = record { found = cell_found; again = cell_again }

-- Rows.

many_cells : IsReader cells_at (λ cells. length cells ∷ flat_map cell_form cells) (λ cells. (length cells ≤ max_cells) × AllByRecursion FitsCell cells)
unfolding cells_at
many_cells = few_read cell_at cell_form FitsCell cells_law max_cells

row_found : (bytes : List ℕ) (r : RowPart) (rest : List ℕ) → IsBytes bytes → row_at bytes ≡ Some (r, rest) → Took bytes (row_form r) rest × FitsRowPart r
unfolding row_at
row_found [] r rest fits e = absurd cc
row_found (byte ∷ bytes) r rest fits e =
    let y : RowPart × List ℕ = (r, rest) in
    let behind = IsBytes-rest byte bytes fits in
    let P : ℕ → Type 0 = λ k. Took (k ∷ bytes) (row_form r) rest × FitsRowPart r in
    pick P byte 0 (one Closed (bytes_at 32) bytes) _ y e (tagged_found (bytes_read 32) Closed row_form FitsRowPart 0 (λ d. refl) (λ d long. long) bytes r rest behind)
    (λ e1. pick P byte 1 (one Cells cells_at bytes) None y e1 (tagged_found many_cells Cells row_form FitsRowPart 1 (λ cells. refl) (λ cells good. (good.0, All-from_recursion FitsCell cells good.1)) bytes r rest behind)
    (λ e2. absurd (no_some y e2)))

pub row_again : (r : RowPart) (rest : List ℕ) → FitsRowPart r → row_at (row_form r ++ rest) ≡ Some (r, rest)
unfolding row_at
row_again (Closed d) rest fits = tagged_again (bytes_read 32) Closed d rest fits
row_again (Cells cells) rest fits = tagged_again many_cells Cells cells rest (fits.0, recursion_from_All FitsCell cells fits.1)

rows_law : IsReader row_at row_form FitsRowPart
rows_law = record { found = row_found; again = row_again }

-- Entries.

entry_found : (bytes : List ℕ) (x : PartEntry) (rest : List ℕ) → IsBytes bytes → entry_at bytes ≡ Some (x, rest) → Took bytes (entry_form x) rest × FitsEntry x
unfolding entry_at
entry_found bytes x rest fits e =
    let a = next_found keys_read (λ k. one (part_entry k) row_at) bytes (x, rest) fits e in
    let b = one_found rows_law (part_entry a.0) a.1 (x, rest) a.2.behind a.4 in
    subst (λ (p : PartEntry × List ℕ). Took bytes (entry_form p.0) p.1 × FitsEntry p.0) b.4
    (took_then bytes (string a.0) a.1 (row_form b.0) b.1 a.2 b.2, record { key = a.3; row = b.3 })

entry_again : (x : PartEntry) (rest : List ℕ) → FitsEntry x → entry_at (entry_form x ++ rest) ≡ Some (x, rest)
unfolding entry_at
entry_again x rest fits =
    ap entry_at (append_assoc (string x.key) (row_form x.row) rest)
    ∙ next_again keys_read (λ k. one (part_entry k) row_at) x.key (row_form x.row ++ rest) fits.key
    ∙ next_again rows_law (λ r rest. let made : Option (PartEntry × List ℕ) = Some (part_entry x.key r, rest) in made) x.row rest fits.row

pub entries_read : IsReader entry_at entry_form FitsEntry
entries_read = record { found = entry_found; again = entry_again }
