-- What a machine keeps of the bytes that it took, step by step.
use Rattle.std.proofs.Common.{◌≡◌, ℕ, suc, ◌+◌, ◌<◌, ◌≤◌, Bool, true, false, List, [], ◌∷◌, ◌++◌, length, flat_map, Result, Ok, Err, ◌⊎◌, inl, inr, refl, sym, ap, subst, ◌∙◌, append_assoc, append-nil, arith}
use Rattle.std.specs.Prelude.{IfOk, IsTrue, All, if◌then◌else◌}
use Rattle.std.specs.declared.alloc.AllocError.{AllocError}
use Rattle.std.proofs.lemmas.List.{append_cancel_right, length-append}
use Rattle.std.proofs.lemmas.List.Concat.{flat_map-append}
use Rattle.std.proofs.lemmas.List.Elements.{All-append, All-nil, All-push}
use Rattle.vo_spec.specs.declared.cells.Cell.{Cell}
use Rattle.vo_spec.specs.declared.cells.RowPart.{RowPart}
use Rattle.vo_spec.specs.declared.cells.RowPart.TheVariants.{Digest as Closed, Cells}
use Rattle.vo_spec.specs.declared.keys.Interval.{Interval}
use Rattle.vo_spec.specs.declared.needs.SeenRow.{SeenRow}
use Rattle.vo_spec.specs.declared.values.Value.{Value}
use Rattle.vo_spec.specs.Bytes.{string, u16_bytes}
use Rattle.vo_spec.specs.Fits.{FitsCell, FitsKey, FitsRowPart}
use Rattle.vo_spec.specs.Scans.{in_interval}
use Rattle.vo_spec.specs.TreeBytes.{cell_form, row_form}
use Rattle.tree_stream.specs.declared.context.Context.{Context}
use Rattle.tree_stream.specs.declared.findings.CellFindings.{CellFindings}
use Rattle.tree_stream.specs.declared.findings.Findings.{Findings}
use Rattle.tree_stream.specs.declared.state.InnerNode.{InnerNode}
use Rattle.tree_stream.specs.declared.state.OpenRow.{OpenRow}
use Rattle.tree_stream.specs.declared.state.State.{State}
use Rattle.tree_stream.specs.declared.state.State.TheVariants.{Node, Separator, Key, Row, Cell as CellState, Complete, Invalid}
use Rattle.tree_stream.specs.Findings.{combine, entry_findings_by, no_findings}
use Rattle.tree_stream.specs.Keeping.{AreKeptBehindKey, KeepsAt, KeepsBehindKey, KeepsInCells, KeepsRows, ValuesGrow, kept_bytes, open_values, rows_bytes, values_bytes}
use Rattle.tree_stream.specs.Machines.{IsAt, TakesCells, machine_of}
use Rattle.tree_stream.specs.Places.{AreNeededEntries, HasNeededEntries, IsCellsFront, IsNeededEntry}
use Rattle.tree_stream.specs.Positions.{IsInLeaf, StandsAt}
use Rattle.tree_stream.specs.Summaries.{is_needed_row}
use Rattle.tree_stream.specs.Tokens.{cell_size}
use Rattle.tree_stream.proofs.PlaceLaws.{entry_place}
use Rattle.tree_stream.proofs.ValueLaws.{grow_more}

-- Needed entries.

are_later : (interval : Interval) (entries : List (List ℕ)) (bytes more : List ℕ) → AreNeededEntries interval entries bytes → AreNeededEntries interval entries (bytes ++ more)
are_later interval [] bytes more are = tt
are_later interval (entry ∷ entries) bytes more are = (
  are.0,
  are.1 ++ more,
  are.2,
  are.3,
  ap (λ (t : List ℕ). t ++ more) are.4
      ∙ append_assoc are.0 (entry ++ are.1) more
      ∙ ap (λ (t : List ℕ). are.0 ++ t) (append_assoc entry are.1 more),
)

pub later : (interval : Interval) (bytes more : List ℕ) (count : ℕ) → HasNeededEntries interval bytes count → HasNeededEntries interval (bytes ++ more) count
later interval bytes more count has = record { entries = has.entries; are_needed = are_later interval has.entries bytes more has.are_needed; within = has.within }

pub fewer : (interval : Interval) (bytes : List ℕ) (count less : ℕ) → HasNeededEntries interval bytes count → less ≤ count → HasNeededEntries interval bytes less
fewer interval bytes count less has le = record { entries = has.entries; are_needed = has.are_needed; within = omega (arith, has.within, le) }

pub none_needed : (interval : Interval) (bytes : List ℕ) → HasNeededEntries interval bytes 0
none_needed interval bytes = record { entries = []; are_needed = tt; within = omega arith }

-- one more entry, behind those before it
one_more : (interval : Interval) (before entry : List ℕ) (count more : ℕ) → HasNeededEntries interval before count → IsNeededEntry interval before entry → more ≤ length entry → HasNeededEntries interval (before ++ entry) (count + more)
one_more interval before entry count more has is le = record {
  entries = entry ∷ has.entries;
  are_needed = (before, [], has.are_needed, is, ap (λ (t : List ℕ). before ++ t) (sym (append-nil entry)));
  within = omega (arith, has.within, le, length-append entry (flat_map (λ (e : List ℕ). e) has.entries));
}

-- Rows that are kept.

pub rows_later : (context : Context) (bytes more : List ℕ) → KeepsRows context bytes → KeepsRows context (bytes ++ more)
rows_later context bytes more keeps = later context.target.interval bytes more (length (rows_bytes context.findings.rows)) keeps

pub nothing_kept : (interval : Interval) (bytes : List ℕ) (found : Findings) → found ≡ no_findings → HasNeededEntries interval bytes (length (rows_bytes found.rows))
nothing_kept interval bytes found is =
    let P : Findings → Type 0 = λ f. HasNeededEntries interval bytes (length (rows_bytes f.rows)) in
    subst P (sym is) (none_needed interval bytes)

-- no row was found
pub same_rows : (interval : Interval) (bytes : List ℕ) (old new extra : Findings) → new ≡ combine old extra → extra.rows ≡ [] → HasNeededEntries interval bytes (length (rows_bytes old.rows))
    → HasNeededEntries interval bytes (length (rows_bytes new.rows))
same_rows interval bytes old new extra is none keeps =
    let rows : new.rows ≡ old.rows = ap (λ (f : Findings). f.rows) is ∙ ap (λ (r : List SeenRow). old.rows ++ r) none ∙ append-nil old.rows in
    let P : List SeenRow → Type 0 = λ r. HasNeededEntries interval bytes (length (rows_bytes r)) in
    subst P (sym rows) keeps

pub behind_key : (context : Context) (bytes : List ℕ) → KeepsBehindKey context bytes → KeepsRows context bytes
behind_key context bytes keeps =
    let P : List ℕ → Type 0 = λ t. KeepsRows context t in
    subst P (sym keeps.parts) (rows_later context keeps.before (string context.last_key.items) keeps.rows)

pub in_cells : (context : Context) (column left : ℕ) (values : List Value) (bytes : List ℕ) → KeepsInCells context column left values bytes → KeepsRows context bytes
in_cells context column left values bytes keeps =
    let P : List ℕ → Type 0 = λ t. KeepsRows context t in
    subst P (sym keeps.bytes_are) (rows_later context keeps.before (1 ∷ (column + left) ∷ flat_map cell_form keeps.cells) (behind_key context keeps.before keeps.entry))

-- whatever comes next
pub rows_at : (context : Context) (state : State) (bytes : List ℕ) → KeepsAt context state bytes → KeepsRows context bytes
rows_at context (Row leaf) bytes keeps = behind_key context bytes keeps
rows_at context (CellState row) bytes keeps = in_cells context row.column (suc row.left) row.findings.values bytes keeps
rows_at context (Node visited) bytes keeps = keeps
rows_at context (Separator head) bytes keeps = keeps
rows_at context (Key leaf) bytes keeps = keeps
rows_at context (Complete digest) bytes keeps = keeps
rows_at context Invalid bytes keeps = keeps

-- Entries.

pub key_kept : (ancestors : List InnerNode) (left : ℕ) (bytes key token last : List ℕ) (interval : Interval) (kept : List SeenRow) → IsInLeaf ancestors (suc left) bytes → HasNeededEntries interval bytes (length (rows_bytes kept))
    → token ≡ string key → FitsKey key → last ≡ key → AreKeptBehindKey interval kept last (bytes ++ token)
key_kept ancestors left bytes key token last interval kept at keeps is fits same =
    let P : List ℕ → Type 0 = λ k. FitsKey k in
    record {
      before = bytes;
      rows = keeps;
      place = entry_place ancestors left bytes at;
      fits = subst P (sym same) fits;
      parts = ap (λ (t : List ℕ). bytes ++ t) (is ∙ ap string (sym same));
    }

-- the row that is kept of an entry, if one is
abbrev seen : Bool → List ℕ → List Value → List SeenRow
seen inside key values = if inside then record { key = key; values = values } ∷ [] else []

entry_by : (context : Context) (bytes : List ℕ) (row : RowPart) (values : List Value) (inside : Bool) → in_interval context.target.interval context.last_key.items ≡ inside → KeepsBehindKey context bytes → FitsRowPart row
    → length (values_bytes values) ≤ length (row_form row)
    → HasNeededEntries context.target.interval (bytes ++ row_form row) (length (rows_bytes (context.findings.rows ++ seen inside context.last_key.items values)))
entry_by context bytes row values false out keeps fits within =
    let P : List SeenRow → Type 0 = λ r. HasNeededEntries context.target.interval (bytes ++ row_form row) (length (rows_bytes r)) in
    subst P (sym (append-nil context.findings.rows)) (rows_later context bytes (row_form row) (behind_key context bytes keeps))
entry_by context bytes row values true inside keeps fits within =
    let key : List ℕ = context.last_key.items in
    let interval : Interval = context.target.interval in
    let kept : SeenRow = record { key = key; values = values } in
    let entry : List ℕ = string key ++ row_form row in
    let is : IsNeededEntry interval keeps.before entry = record {
      key = key;
      row = row_form row;
      place = keeps.place;
      fits = keeps.fits;
      front = inr (row, fits, refl);
      parts = refl;
      needed = inside;
    } in
    let own : length (kept_bytes kept) ≡ length key + length (values_bytes values) = length-append key (values_bytes values) in
    let size : length (kept_bytes kept) ≤ length entry = omega (arith, within, own, length-append (u16_bytes (length key)) key, length-append (string key) (row_form row)) in
    let all : length (rows_bytes (context.findings.rows ++ kept ∷ [])) ≡ length (rows_bytes context.findings.rows) + length (kept_bytes kept) =
    ap (λ (t : List ℕ). length t) (flat_map-append kept_bytes context.findings.rows (kept ∷ []) ∙ ap (λ (t : List ℕ). rows_bytes context.findings.rows ++ t) (append-nil (kept_bytes kept)))
    ∙ length-append (rows_bytes context.findings.rows) (kept_bytes kept) in
    let has : HasNeededEntries interval (keeps.before ++ entry) (length (rows_bytes context.findings.rows) + length (kept_bytes kept)) =
    one_more interval keeps.before entry (length (rows_bytes context.findings.rows)) (length (kept_bytes kept)) keeps.rows is size in
    let P : List ℕ → Type 0 = λ t. HasNeededEntries interval t (length (rows_bytes context.findings.rows) + length (kept_bytes kept)) in
    let Q : ℕ → Type 0 = λ n. HasNeededEntries interval (bytes ++ row_form row) n in
    let parts : keeps.before ++ entry ≡ bytes ++ row_form row = sym (append_assoc keeps.before (string key) (row_form row)) ∙ ap (λ (t : List ℕ). t ++ row_form row) (sym keeps.parts) in
    subst Q (sym all) (subst P parts has)

pub entry_kept : (context : Context) (bytes : List ℕ) (row : RowPart) (found : CellFindings) (new : Findings) → new ≡ combine context.findings (entry_findings_by context.target context.last_key.items found) → KeepsBehindKey context bytes
    → FitsRowPart row → length (values_bytes found.values) ≤ length (row_form row) → HasNeededEntries context.target.interval (bytes ++ row_form row) (length (rows_bytes new.rows))
entry_kept context bytes row found new is keeps fits within =
    let P : List SeenRow → Type 0 = λ r. HasNeededEntries context.target.interval (bytes ++ row_form row) (length (rows_bytes r)) in
    subst P (sym (ap (λ (f : Findings). f.rows) is)) (entry_by context bytes row found.values (in_interval context.target.interval context.last_key.items) refl keeps fits within)

-- Cells.

pub cells_kept : (context : Context) (column left more behind : ℕ) (values grown : List Value) (bytes taken : List ℕ) (cells : List Cell) → KeepsInCells context column left values bytes → taken ≡ flat_map cell_form cells → All FitsCell cells
    → more ≡ column + length cells → more + behind ≡ column + left → ValuesGrow (is_needed_row context) values grown (length (flat_map cell_form cells)) → KeepsInCells context more behind grown (bytes ++ taken)
cells_kept context column left more behind values grown bytes taken cells keeps is fit count same grow =
    let all : List Cell = keeps.cells ++ cells in
    let joined : flat_map cell_form all ≡ flat_map cell_form keeps.cells ++ flat_map cell_form cells = flat_map-append cell_form keeps.cells cells in
    let size : length (flat_map cell_form all) ≡ length (flat_map cell_form keeps.cells) + length (flat_map cell_form cells) =
    ap (λ (t : List ℕ). length t) joined ∙ length-append (flat_map cell_form keeps.cells) (flat_map cell_form cells) in
    let P : ℕ → Type 0 = λ n. ValuesGrow (is_needed_row context) [] grown n in
    record {
      before = keeps.before;
      cells = all;
      entry = keeps.entry;
      bytes_are =
          ap (λ (t : List ℕ). t ++ taken) keeps.bytes_are
          ∙ append_assoc keeps.before (1 ∷ (column + left) ∷ flat_map cell_form keeps.cells) taken
          ∙ ap (λ (k : ℕ). keeps.before ++ 1 ∷ k ∷ (flat_map cell_form keeps.cells ++ taken)) (sym same)
          ∙ ap (λ (t : List ℕ). keeps.before ++ 1 ∷ (more + behind) ∷ t) (ap (λ (t : List ℕ). flat_map cell_form keeps.cells ++ t) is ∙ sym joined);
      are_so_many = omega (arith, length-append keeps.cells cells, keeps.are_so_many, count);
      most = omega (arith, same, keeps.most);
      fit = All-append FitsCell keeps.cells cells keeps.fit fit;
      grown = subst P (sym size) (grow_more (is_needed_row context) [] values grown (length (flat_map cell_form keeps.cells)) (length (flat_map cell_form cells)) keeps.grown grow);
    }

pub cell_kept : (context : Context) (column left : ℕ) (values grown : List Value) (bytes token : List ℕ) (cell : Cell) → KeepsInCells context column (suc left) values bytes → token ≡ cell_form cell → FitsCell cell
    → ValuesGrow (is_needed_row context) values grown (length (cell_form cell)) → KeepsInCells context (column + 1) left grown (bytes ++ token)
cell_kept context column left values grown bytes token cell keeps is fits grow =
    let one : flat_map cell_form (cell ∷ []) ≡ cell_form cell = append-nil (cell_form cell) in
    let P : ℕ → Type 0 = λ n. ValuesGrow (is_needed_row context) values grown n in
    cells_kept context column (suc left) (column + 1) left values grown bytes token (cell ∷ []) keeps (is ∙ sym one) (All-push FitsCell [] cell (All-nil FitsCell) fits) (omega arith) (omega arith)
    (subst P (ap (λ (t : List ℕ). length t) (sym one)) grow)

pub row_begun : (context : Context) (count : ℕ) (values : List Value) (bytes : List ℕ) → KeepsBehindKey context bytes → count ≤ 31 → values ≡ [] → KeepsInCells context 0 count values (bytes ++ 1 ∷ count ∷ [])
row_begun context count values bytes keeps most none =
    record {
      before = bytes;
      cells = [];
      entry = keeps;
      bytes_are = ap (λ (k : ℕ). bytes ++ 1 ∷ k ∷ []) (omega arith);
      are_so_many = refl;
      most = omega (arith, most);
      fit = All-nil FitsCell;
      grown = record { within = omega (arith, ap (λ (v : List Value). length (values_bytes v)) none); needed = inl none };
    }

-- Calls.

pub row_ended : (context new : Context) (column left : ℕ) (values : List Value) (r : Result State AllocError) → left ≡ 0
    → IfOk r (λ state. (bytes : List ℕ) (row : RowPart) → KeepsBehindKey context bytes → FitsRowPart row → length (values_bytes values) ≤ length (row_form row) → KeepsAt new state (bytes ++ row_form row))
    → IfOk r (λ state. (bytes : List ℕ) → KeepsInCells context column left values bytes → KeepsAt new state bytes)
row_ended context new column left values (Ok state) none ends = λ bytes keeps.
    let n : column + left ≡ length keeps.cells = omega (arith, none, keeps.are_so_many) in
    let P : List ℕ → Type 0 = λ t. KeepsAt new state t in
    let is : keeps.before ++ row_form (Cells keeps.cells) ≡ bytes = ap (λ (k : ℕ). keeps.before ++ 1 ∷ k ∷ flat_map cell_form keeps.cells) (sym n) ∙ sym keeps.bytes_are in
    subst P is (ends keeps.before (Cells keeps.cells) keeps.entry (omega (arith, n, keeps.most), keeps.fit) (omega (arith, keeps.grown.within)))
row_ended context new column left values (Err e) none ends = tt

pub closed_row_ended : (context new : Context) (digest : List ℕ) (values : List Value) (r : Result State AllocError) → length digest ≡ 32 → values ≡ []
    → IfOk r (λ state. (bytes : List ℕ) (row : RowPart) → KeepsBehindKey context bytes → FitsRowPart row → length (values_bytes values) ≤ length (row_form row) → KeepsAt new state (bytes ++ row_form row))
    → IfOk r (λ state. (bytes : List ℕ) → KeepsBehindKey context bytes → KeepsAt new state (bytes ++ 0 ∷ digest))
closed_row_ended context new digest values (Ok state) fits none ends = λ bytes keeps.
    ends bytes (Closed digest) keeps fits (omega (arith, ap (λ (v : List Value). length (values_bytes v)) none))
closed_row_ended context new digest values (Err e) fits none ends = tt

pub open_row_begun : (context new : Context) (count : ℕ) (values : List Value) (r : Result State AllocError) → count ≤ 31 → values ≡ []
    → IfOk r (λ state. (bytes : List ℕ) → KeepsInCells context 0 count values bytes → KeepsAt new state bytes)
    → IfOk r (λ state. (bytes : List ℕ) → KeepsBehindKey context bytes → KeepsAt new state (bytes ++ 1 ∷ count ∷ []))
open_row_begun context new count values (Ok state) most none begins = λ bytes keeps. begins (bytes ++ 1 ∷ count ∷ []) (row_begun context count values bytes keeps most none)
open_row_begun context new count values (Err e) most none begins = tt

pub cell_added : (context new : Context) (column left : ℕ) (values grown : List Value) (token : List ℕ) (cell : Cell) (r : Result State AllocError) → token ≡ cell_form cell → FitsCell cell
    → ValuesGrow (is_needed_row context) values grown (length (cell_form cell))
    → IfOk r (λ state. (bytes : List ℕ) → KeepsInCells context (column + 1) left grown bytes → KeepsAt new state bytes)
    → IfOk r (λ state. (bytes : List ℕ) → KeepsInCells context column (suc left) values bytes → KeepsAt new state (bytes ++ token))
cell_added context new column left values grown token cell (Ok state) is fits grow goes = λ bytes keeps. goes (bytes ++ token) (cell_kept context column left values grown bytes token cell keeps is fits grow)
cell_added context new column left values grown token cell (Err e) is fits grow goes = tt

-- A step from a state.

pub moves_from : (context new : Context) (next state is : State) (token : List ℕ) → state ≡ is → ((bytes : List ℕ) → StandsAt context is bytes → StandsAt new next (bytes ++ token))
    → ((bytes : List ℕ) → StandsAt context is bytes → KeepsAt context is bytes → KeepsAt new next (bytes ++ token))
    → (bytes : List ℕ) → IsAt (machine_of context state) bytes → IsAt (machine_of new next) (bytes ++ token)
moves_from context new next state is token e stands keeps = λ bytes at.
    let P : State → Type 0 = λ s. StandsAt context s bytes in
    let Q : State → Type 0 = λ s. KeepsAt context s bytes in
    (stands bytes (subst P e at.0), keeps bytes (subst P e at.0) (subst Q e at.1))

pub ok_moves_from : (context new : Context) (r : Result State AllocError) (state is : State) (token : List ℕ) → state ≡ is
    → IfOk r (λ next. (bytes : List ℕ) → StandsAt context is bytes → StandsAt new next (bytes ++ token))
    → IfOk r (λ next. (bytes : List ℕ) → KeepsAt context is bytes → KeepsAt new next (bytes ++ token))
    → IfOk r (λ next. (bytes : List ℕ) → IsAt (machine_of context state) bytes → IsAt (machine_of new next) (bytes ++ token))
ok_moves_from context new (Ok next) state is token e stands keeps = moves_from context new next state is token e stands (λ bytes at kept. keeps bytes kept)
ok_moves_from context new (Err fault) state is token e stands keeps = tt

-- no token comes any more
pub lost_from : (context : Context) (state : State) (token bytes : List ℕ) → IsAt (machine_of context state) bytes → IsAt (machine_of context Invalid) (bytes ++ token)
lost_from context state token bytes at = (tt, rows_later context bytes token (rows_at context state bytes at.1))

-- Cells that are passed over.

pub cells_moved : (context : Context) (old new : OpenRow) (bytes rest taken before : List ℕ) → TakesCells (is_needed_row context) old new bytes rest → bytes ≡ taken ++ rest → KeepsInCells context old.column (suc old.left) old.findings.values before
    → KeepsInCells context new.column (suc new.left) new.findings.values (before ++ taken)
cells_moved context old new bytes rest taken before t parts keeps =
    let is : flat_map cell_form t.cells ≡ taken = append_cancel_right (flat_map cell_form t.cells) taken rest (sym t.parts ∙ parts) in
    cells_kept context old.column (suc old.left) new.column (suc new.left) old.findings.values new.findings.values before taken t.cells keeps (sym is) t.fit t.column (omega (arith, t.column, t.left)) t.grown

-- What is held.

cell_some : 0 < cell_size []
unfolding cell_size
cell_some = omega arith

pub held_within : (context : Context) (state : State) (taken part : List ℕ) → KeepsAt context state taken
    → HasNeededEntries context.target.interval (taken ++ part) (length (rows_bytes context.findings.rows) + length (values_bytes (open_values state)))
held_within context state taken part keeps =
    later context.target.interval taken part (length (rows_bytes context.findings.rows) + length (values_bytes (open_values state))) (by state keeps)
  where
    rows : ℕ
    rows = length (rows_bytes context.findings.rows)

    plain : KeepsRows context taken → HasNeededEntries context.target.interval taken (rows + 0)
    plain kept = fewer context.target.interval taken rows (rows + 0) kept (omega arith)

    in_row : (row : OpenRow) → KeepsInCells context row.column (suc row.left) row.findings.values taken → (row.findings.values ≡ []) ⊎ IsTrue (is_needed_row context)
        → HasNeededEntries context.target.interval taken (rows + length (values_bytes row.findings.values))
    in_row row kept (inl none) = fewer context.target.interval taken rows (rows + length (values_bytes row.findings.values)) (rows_at context (CellState row) taken kept) (omega (arith, ap (λ (v : List Value). length (values_bytes v)) none))
    in_row row kept (inr inside) =
        let key : List ℕ = context.last_key.items in
        let cells : List ℕ = 1 ∷ (row.column + suc row.left) ∷ flat_map cell_form kept.cells in
        let front : IsCellsFront cells = record {
          cells = kept.cells;
          left = row.left;
          part = [];
          bytes_are = ap (λ (k : ℕ). 1 ∷ (k + suc row.left) ∷ flat_map cell_form kept.cells) (sym kept.are_so_many) ∙ ap (λ (t : List ℕ). 1 ∷ (length kept.cells + suc row.left) ∷ t) (sym (append-nil (flat_map cell_form kept.cells)));
          most = omega (arith, kept.most, kept.are_so_many);
          fit = kept.fit;
          short = cell_some;
        } in
        let entry : List ℕ = string key ++ cells in
        let is : IsNeededEntry context.target.interval kept.entry.before entry = record {
          key = key;
          row = cells;
          place = kept.entry.place;
          fits = kept.entry.fits;
          front = inl (inr front);
          parts = refl;
          needed = inside;
        } in
        let size : length (values_bytes row.findings.values) ≤ length entry = omega (arith, kept.grown.within, length-append (string key) cells) in
        let has = one_more context.target.interval kept.entry.before entry rows (length (values_bytes row.findings.values)) kept.entry.rows is size in
        let P : List ℕ → Type 0 = λ t. HasNeededEntries context.target.interval t (rows + length (values_bytes row.findings.values)) in
        let parts : kept.entry.before ++ entry ≡ taken =
        sym (append_assoc kept.entry.before (string key) cells) ∙ ap (λ (t : List ℕ). t ++ cells) (sym kept.entry.parts) ∙ sym kept.bytes_are in
        subst P parts has

    by : (s : State) → KeepsAt context s taken → HasNeededEntries context.target.interval taken (rows + length (values_bytes (open_values s)))
    by (Row leaf) kept = plain (behind_key context taken kept)
    by (CellState row) kept = in_row row kept kept.grown.needed
    by (Node visited) kept = plain kept
    by (Separator head) kept = plain kept
    by (Key leaf) kept = plain kept
    by (Complete digest) kept = plain kept
    by Invalid kept = plain kept
