-- What a replacement looks at, and what is open beside its path, by lists of children and of rows.
use Rattle.std.proofs.Common.{◌≡◌, ℕ, suc, ◌+◌, ◌<◌, ◌≤◌, Bool, true, false, cond, not, ◌||◌, bytes_eq, List, [], ◌∷◌, length, take, drop, get_or, Result, Ok, Err, refl, sym, ap, ◌∙◌, arith, add-one}
use Rattle.std.specs.List.{list_any, position_or_len}
use Rattle.vo_spec.specs.declared.cells.RowPart.TheVariants.{Digest as Closed, Cells}
use Rattle.vo_spec.specs.declared.cells.Cell.{Cell}
use Rattle.vo_spec.specs.declared.cells.PartEntry.{PartEntry}
use Rattle.vo_spec.specs.declared.trees.UpdateFault.{UpdateFault}
use Rattle.vo_spec.specs.declared.trees.UpdateFault.TheVariants.{DuplicateKey, NoRow, Missing, Memory}
use Rattle.vo_spec.specs.Values.{key_lt}
use Rattle.vo_spec.specs.Parts.{leaf, inner, more}
use Rattle.vo_spec.specs.Trees.{RowTree, RowTrees, row_family, open_parts}
use Rattle.vo_spec.specs.Inserts.{result_map}
use Rattle.vo_spec.specs.Removes.{set_row, edit_entry, edited_by, edited_in}
use Rattle.update_proof.specs.OpenParts.{is_open, any_open, opens_other, shows_cells, shows_any}
use Rattle.update_proof.specs.Proving.{lacks, replace_is_missing, rows_surplus, replace_has_surplus, replace_has_surplus_in}
use Rattle.update_proof.proofs.InsertionPaths.{swapped}

pub lacks_map : {A B : Type 0} (f : A → B) (r : Result A UpdateFault) → lacks (result_map f r) ≡ lacks r
lacks_map f (Ok x) = refl
lacks_map f (Err DuplicateKey) = refl
lacks_map f (Err NoRow) = refl
lacks_map f (Err Missing) = refl
lacks_map f (Err Memory) = refl

pub any_open_list : (ts : List RowTree) → any_open (open_parts ts) ≡ list_any is_open ts
any_open_list [] = refl
any_open_list (t ∷ ts) = ap (λ b. is_open t || b) (any_open_list ts)

-- rows of a leaf

module _ (key : List ℕ) where
  rows_step : (b : Bool) (i j : ℕ) (e : PartEntry) (es : List PartEntry) (c : PartEntry) → j ≡ suc i → cond (not b) j 0 < suc (length es) → c ≡ get_or (e ∷ es) (cond (not b) j 0) c
      → (i < length es → c ≡ get_or es i c → rows_surplus key es ≡ shows_any c.row || (list_any shows_cells (take i es) || list_any shows_cells (drop (i + 1) es)))
      → cond b (shows_any e.row || list_any shows_cells es) (shows_cells e || rows_surplus key es)
      ≡ shows_any c.row || (list_any shows_cells (take (cond (not b) j 0) (e ∷ es)) || list_any shows_cells (drop (cond (not b) j 0 + 1) (e ∷ es)))
  rows_step true i j e es c next lt is on = ap (λ (x : PartEntry). shows_any x.row || list_any shows_cells es) (sym is)
  rows_step false i j e es c next lt is on =
      ap (λ x. shows_cells e || x) (on (omega arith) (is ∙ ap (λ n. get_or (e ∷ es) n c) next))
      ∙ swapped (shows_cells e) (shows_any c.row) (list_any shows_cells (take i es)) (list_any shows_cells (drop (i + 1) es))
      ∙ rw (next, add-one i, add-one (suc i)) refl

  pub rows_at : (es : List PartEntry) (c : PartEntry) → position_or_len (λ e. bytes_eq e.key key) es < length es → c ≡ get_or es (position_or_len (λ e. bytes_eq e.key key) es) c
      → rows_surplus key es ≡ shows_any c.row || (list_any shows_cells (take (position_or_len (λ e. bytes_eq e.key key) es) es) || list_any shows_cells (drop (position_or_len (λ e. bytes_eq e.key key) es + 1) es))
  rows_at [] c lt is = absurd (omega arith)
  rows_at (e ∷ es) c lt is =
      let i = position_or_len (λ e. bytes_eq e.key key) es in rows_step (bytes_eq e.key key) i (1 + i) e es c (omega arith) lt is (λ within here. rows_at es c within here)

  none_step : (b : Bool) (n i j : ℕ) (e : PartEntry) (here rest all : Bool) → j ≡ suc i → suc n ≤ cond (not b) j 0 → (n ≤ i → rest ≡ all) → cond b here (shows_cells e || rest) ≡ shows_cells e || all
  none_step true n i j e here rest all next past on = absurd (omega arith)
  none_step false n i j e here rest all next past on = ap (λ x. shows_cells e || x) (on (omega arith))

  pub rows_none : (es : List PartEntry) → length es ≤ position_or_len (λ e. bytes_eq e.key key) es → rows_surplus key es ≡ list_any shows_cells es
  rows_none [] past = refl
  rows_none (e ∷ es) past =
      let i = position_or_len (λ e. bytes_eq e.key key) es in
      none_step (bytes_eq e.key key) (length es) i (1 + i) e (shows_any e.row || list_any shows_cells es) (rows_surplus key es) (list_any shows_cells es) (omega arith) past (λ rest. rows_none es rest)

  pub rows_placed : (es : List PartEntry) (place : ℕ) → place ≡ position_or_len (λ e. bytes_eq e.key key) es → (c : PartEntry) → place < length es → c ≡ get_or es place c
      → shows_any c.row || (list_any shows_cells (take place es) || list_any shows_cells (drop (place + 1) es)) ≡ rows_surplus key es
  rows_placed es place at c lt is =
      ap (λ n. shows_any c.row || (list_any shows_cells (take n es) || list_any shows_cells (drop (n + 1) es))) at
      ∙ sym (rows_at es c (omega arith) (is ∙ ap (λ n. get_or es n c) at))

-- children

module _ (key : List ℕ) where
  surplus_step : (b : Bool) (i j : ℕ) (ss : List (List ℕ)) (t : RowTree) (ts : List RowTree) (c : RowTree) → j ≡ suc i → cond (not b) j 0 < suc (length ts) → c ≡ get_or (t ∷ ts) (cond (not b) j 0) c
      → (i < length ts → c ≡ get_or ts i c → replace_has_surplus_in key ss (open_parts ts) ≡ replace_has_surplus key c || opens_other i ts)
      → cond b (replace_has_surplus key t || any_open (open_parts ts)) (is_open t || replace_has_surplus_in key ss (open_parts ts)) ≡ replace_has_surplus key c || opens_other (cond (not b) j 0) (t ∷ ts)
  surplus_step true i j ss t ts c next lt is on =
      ap (λ x. replace_has_surplus key t || x) (any_open_list ts) ∙ ap (λ u. replace_has_surplus key u || list_any is_open ts) (sym is)
  surplus_step false i j ss t ts c next lt is on =
      ap (λ x. is_open t || x) (on (omega arith) (is ∙ ap (λ n. get_or (t ∷ ts) n c) next))
      ∙ swapped (is_open t) (replace_has_surplus key c) (list_any is_open (take i ts)) (list_any is_open (drop (i + 1) ts))
      ∙ rw (next, add-one i, add-one (suc i)) refl

  pub surplus_at : (ss : List (List ℕ)) (ts : List RowTree) (c : RowTree) → position_or_len (key_lt key) ss < length ts → c ≡ get_or ts (position_or_len (key_lt key) ss) c
      → replace_has_surplus_in key ss (open_parts ts) ≡ replace_has_surplus key c || opens_other (position_or_len (key_lt key) ss) ts
  surplus_at ss [] c lt is = absurd (omega arith)
  surplus_at [] (t ∷ ts) c lt is = ap (λ x. replace_has_surplus key t || x) (any_open_list ts) ∙ ap (λ u. replace_has_surplus key u || list_any is_open ts) (sym is)
  surplus_at (s ∷ ss) (t ∷ ts) c lt is =
      let i = position_or_len (key_lt key) ss in
      surplus_step (key_lt key s) i (1 + i) ss t ts c (omega arith) lt is (λ within here. surplus_at ss ts c within here)

  past_step : (b : Bool) (n i j : ℕ) (t : RowTree) (here rest all : Bool) → j ≡ suc i → suc n ≤ cond (not b) j 0 → (n ≤ i → rest ≡ all) → cond b here (is_open t || rest) ≡ is_open t || all
  past_step true n i j t here rest all next past on = absurd (omega arith)
  past_step false n i j t here rest all next past on = ap (λ x. is_open t || x) (on (omega arith))

  pub past_beyond : (ss : List (List ℕ)) (ts : List RowTree) → length ts ≤ position_or_len (key_lt key) ss → replace_has_surplus_in key ss (open_parts ts) ≡ list_any is_open ts
  past_beyond ss [] past = refl
  past_beyond [] (t ∷ ts) past = absurd (omega arith)
  past_beyond (s ∷ ss) (t ∷ ts) past =
      let i = position_or_len (key_lt key) ss in
      past_step (key_lt key s) (length ts) i (1 + i) t (replace_has_surplus key t || any_open (open_parts ts)) (replace_has_surplus_in key ss (open_parts ts)) (list_any is_open ts) (omega arith) past (λ rest. past_beyond ss ts rest)

-- what is missing of the path, and of the row

module _ (key : List ℕ) where
  missing_step : (b : Bool) (i j : ℕ) (ss : List (List ℕ)) (t : RowTree) (ts : List RowTree) (c : RowTree) → j ≡ suc i → cond (not b) j 0 < suc (length ts) → c ≡ get_or (t ∷ ts) (cond (not b) j 0) c
      → (i < length ts → c ≡ get_or ts i c → lacks (edited_in row_family (set_row []) key ss (open_parts ts)) ≡ replace_is_missing key c)
      → lacks (cond b (result_map (λ q. more tt q (open_parts ts)) (edited_by row_family (set_row []) key t)) (result_map (more tt t) (edited_in row_family (set_row []) key ss (open_parts ts)))) ≡ replace_is_missing key c
  missing_step true i j ss t ts c next lt is on = lacks_map (λ q. more tt q (open_parts ts)) (edited_by row_family (set_row []) key t) ∙ ap (replace_is_missing key) (sym is)
  missing_step false i j ss t ts c next lt is on =
      lacks_map (more tt t) (edited_in row_family (set_row []) key ss (open_parts ts)) ∙ on (omega arith) (is ∙ ap (λ n. get_or (t ∷ ts) n c) next)

  missing_at : (ss : List (List ℕ)) (ts : List RowTree) (c : RowTree) → position_or_len (key_lt key) ss < length ts → c ≡ get_or ts (position_or_len (key_lt key) ss) c
      → lacks (edited_in row_family (set_row []) key ss (open_parts ts)) ≡ replace_is_missing key c
  missing_at ss [] c lt is = absurd (omega arith)
  missing_at [] (t ∷ ts) c lt is = lacks_map (λ q. more tt q (open_parts ts)) (edited_by row_family (set_row []) key t) ∙ ap (replace_is_missing key) (sym is)
  missing_at (s ∷ ss) (t ∷ ts) c lt is =
      let i = position_or_len (key_lt key) ss in
      missing_step (key_lt key s) i (1 + i) ss t ts c (omega arith) lt is (λ within here. missing_at ss ts c within here)

  pub path_is_missing : (ss : List (List ℕ)) (ts : List RowTree) (c : RowTree) → position_or_len (key_lt key) ss < length ts → c ≡ get_or ts (position_or_len (key_lt key) ss) c
      → replace_is_missing key (inner ss (open_parts ts)) ≡ replace_is_missing key c
  path_is_missing ss ts c lt is = lacks_map (inner ss) (edited_in row_family (set_row []) key ss (open_parts ts)) ∙ missing_at ss ts c lt is

  lost_step : (b : Bool) (n i j : ℕ) (f : RowTrees → RowTrees) (here rest : Result RowTrees UpdateFault) → j ≡ suc i → suc n ≤ cond (not b) j 0 → (n ≤ i → lacks rest ≡ true) → lacks (cond b here (result_map f rest)) ≡ true
  lost_step true n i j f here rest next past on = absurd (omega arith)
  lost_step false n i j f here rest next past on = lacks_map f rest ∙ on (omega arith)

  lost_at : (ss : List (List ℕ)) (ts : List RowTree) → length ts ≤ position_or_len (key_lt key) ss → lacks (edited_in row_family (set_row []) key ss (open_parts ts)) ≡ true
  lost_at ss [] past = refl
  lost_at [] (t ∷ ts) past = absurd (omega arith)
  lost_at (s ∷ ss) (t ∷ ts) past =
      let i = position_or_len (key_lt key) ss in
      lost_step (key_lt key s) (length ts) i (1 + i) (more tt t) (result_map (λ q. more tt q (open_parts ts)) (edited_by row_family (set_row []) key t)) (edited_in row_family (set_row []) key ss (open_parts ts)) (omega arith) past (λ rest. lost_at ss ts rest)

  pub path_lost : (ss : List (List ℕ)) (ts : List RowTree) → length ts ≤ position_or_len (key_lt key) ss → true ≡ replace_is_missing key (inner ss (open_parts ts))
  path_lost ss ts past = sym (lacks_map (inner ss) (edited_in row_family (set_row []) key ss (open_parts ts)) ∙ lost_at ss ts past)

  row_step : (b : Bool) (i j : ℕ) (e : PartEntry) (es : List PartEntry) (c : PartEntry) → j ≡ suc i → cond (not b) j 0 < suc (length es) → c ≡ get_or (e ∷ es) (cond (not b) j 0) c
      → (i < length es → c ≡ get_or es i c → lacks (edit_entry row_family (set_row []) key es) ≡ lacks (set_row [] c))
      → lacks (cond b (result_map (λ f. f ∷ es) (set_row [] e)) (result_map (λ fs. e ∷ fs) (edit_entry row_family (set_row []) key es))) ≡ lacks (set_row [] c)
  row_step true i j e es c next lt is on = lacks_map (λ f. f ∷ es) (set_row [] e) ∙ ap (λ x. lacks (set_row [] x)) (sym is)
  row_step false i j e es c next lt is on = lacks_map (λ fs. e ∷ fs) (edit_entry row_family (set_row []) key es) ∙ on (omega arith) (is ∙ ap (λ n. get_or (e ∷ es) n c) next)

  row_at : (es : List PartEntry) (c : PartEntry) → position_or_len (λ e. bytes_eq e.key key) es < length es → c ≡ get_or es (position_or_len (λ e. bytes_eq e.key key) es) c
      → lacks (edit_entry row_family (set_row []) key es) ≡ lacks (set_row [] c)
  row_at [] c lt is = absurd (omega arith)
  row_at (e ∷ es) c lt is =
      let i = position_or_len (λ e. bytes_eq e.key key) es in row_step (bytes_eq e.key key) i (1 + i) e es c (omega arith) lt is (λ within here. row_at es c within here)

  absent_step : (b : Bool) (n i j : ℕ) (f : List PartEntry → List PartEntry) (here rest : Result (List PartEntry) UpdateFault) → j ≡ suc i → suc n ≤ cond (not b) j 0 → (n ≤ i → lacks rest ≡ false) → lacks (cond b here (result_map f rest)) ≡ false
  absent_step true n i j f here rest next past on = absurd (omega arith)
  absent_step false n i j f here rest next past on = lacks_map f rest ∙ on (omega arith)

  absent_at : (es : List PartEntry) → length es ≤ position_or_len (λ e. bytes_eq e.key key) es → lacks (edit_entry row_family (set_row []) key es) ≡ false
  absent_at [] past = refl
  absent_at (e ∷ es) past =
      let i = position_or_len (λ e. bytes_eq e.key key) es in
      absent_step (bytes_eq e.key key) (length es) i (1 + i) (λ fs. e ∷ fs) (result_map (λ f. f ∷ es) (set_row [] e)) (edit_entry row_family (set_row []) key es) (omega arith) past (λ rest. absent_at es rest)

  module _ (es : List PartEntry) (place : ℕ) (at : place ≡ position_or_len (λ e. bytes_eq e.key key) es) where
    pub no_row_missing : length es ≤ place → false ≡ replace_is_missing key (leaf es)
    no_row_missing past = sym (lacks_map leaf (edit_entry row_family (set_row []) key es) ∙ absent_at es (omega arith))

    missing_row : (c : PartEntry) → place < length es → c ≡ get_or es place c → replace_is_missing key (leaf es) ≡ lacks (set_row [] c)
    missing_row c lt is = lacks_map leaf (edit_entry row_family (set_row []) key es) ∙ row_at es c (omega arith) (is ∙ ap (λ n. get_or es n c) at)

    pub digest_missing : (c : PartEntry) (d : List ℕ) → place < length es → c ≡ get_or es place c → c.row ≡ Closed d → true ≡ replace_is_missing key (leaf es)
    digest_missing c d lt is closed = sym (missing_row c lt is ∙ ap (λ r. lacks (set_row [] (record { key = c.key; row = r }))) closed)

    pub cells_there : (c : PartEntry) (cells : List Cell) → place < length es → c ≡ get_or es place c → c.row ≡ Cells cells → false ≡ replace_is_missing key (leaf es)
    cells_there c cells lt is shown = sym (missing_row c lt is ∙ ap (λ r. lacks (set_row [] (record { key = c.key; row = r }))) shown)
