-- Where a machine stands in the bytes of a tree, step by step.
use Rattle.std.proofs.Common.{◌≡◌, ℕ, suc, Bool, Result, Ok, Err, ◌+◌, ◌<◌, ◌≤◌, List, [], ◌∷◌, ◌++◌, length, flat_map, refl, sym, ap, subst, ◌∙◌, append_assoc, append-nil, arith, inl, inr}
use Rattle.std.specs.Prelude.{IfOk, IsTrue, reverse}
use Rattle.std.specs.declared.alloc.AllocError.{AllocError}
use Rattle.std.specs.List.{AllByRecursion}
use Rattle.std.proofs.lemmas.List.{append_cancel_right, length-append, reverse-append}
use Rattle.std.proofs.lemmas.List.Concat.{flat_map-append}
use Rattle.std.proofs.lemmas.List.Elements.{All-append, All-nil, All-push, recursion_from_All}
use Rattle.vo_spec.specs.declared.cells.Cell.{Cell}
use Rattle.vo_spec.specs.declared.cells.PartEntry.{PartEntry}
use Rattle.vo_spec.specs.declared.cells.RowPart.{RowPart}
use Rattle.vo_spec.specs.declared.cells.RowPart.TheVariants.{Digest as Closed, Cells}
use Rattle.vo_spec.specs.Bytes.{string}
use Rattle.vo_spec.specs.Fits.{FitsCell, FitsEach, FitsEntry, FitsKey, FitsPart, FitsRowPart}
use Rattle.vo_spec.specs.Scans.{in_interval}
use Rattle.vo_spec.specs.Parts.{leaf, inner, count as count_of}
use Rattle.vo_spec.specs.TreeBytes.{cell_form, entry_form, row_form, row_encoding, tree_bytes, trees_bytes_by}
use Rattle.vo_spec.specs.Trees.{RowTree, open_parts}
use Rattle.batch_format.proofs.TreeLaws.{count_open_parts}
use Rattle.tree_stream.specs.declared.context.Context.{Context}
use Rattle.tree_stream.specs.declared.state.InnerNode.{InnerNode}
use Rattle.tree_stream.specs.declared.state.State.{State}
use Rattle.tree_stream.specs.declared.state.OpenRow.{OpenRow}
use Rattle.tree_stream.specs.declared.state.State.TheVariants.{Node, Separator, Key, Row, Cell as CellState, Complete, Invalid}
use Rattle.tree_stream.specs.Keeping.{ValuesGrow}
use Rattle.tree_stream.specs.Machines.{TakesCells}
use Rattle.tree_stream.specs.Places.{EndsInRow, IsCellsFront, IsEntryPlace, IsInnerFront, IsLeafFront, IsNodePlace}
use Rattle.tree_stream.specs.Summaries.{IsInNeededRow}
use Rattle.tree_stream.specs.Tokens.{cell_size, row_size, token_size}
use Rattle.tree_stream.proofs.StateLaws.{cell_token, row_token}
use Rattle.tree_stream.proofs.ValueLaws.{grow_more, no_more}
use Rattle.tree_stream.specs.Positions.{IsBelow, IsInSeparators, IsInLeaf, IsBehindKey, IsInCells, StandsAt}

pub mapped_push : {X : Type 0} (f : X → List ℕ) (xs : List X) (x : X) → flat_map f (xs ++ x ∷ []) ≡ flat_map f xs ++ f x
mapped_push f xs x = flat_map-append f xs (x ∷ []) ∙ ap (λ (t : List ℕ). flat_map f xs ++ t) (append-nil (f x))

-- Ancestors.

pub below_none : (nodes : List InnerNode) → nodes ≡ [] → IsBelow (reverse nodes) []
below_none nodes none =
    let P : List InnerNode → Type 0 = λ all. IsBelow (reverse all) [] in
    subst P (sym none) refl

pub below_push : (nodes : List InnerNode) (node : InnerNode) (above parent : List ℕ) → IsBelow (reverse nodes) above → IsInnerFront parent (suc (length node.child_visits.items))
    → IsBelow (reverse (nodes ++ node ∷ [])) (above ++ parent)
below_push nodes node above parent below front =
    let P : List InnerNode → Type 0 = λ all. IsBelow all (above ++ parent) in
    let is : IsBelow (node ∷ reverse nodes) (above ++ parent) = (above, parent, below, front, refl) in
    subst P (sym (reverse-append nodes (node ∷ []))) is

pub record UnderLast (nodes : List InnerNode) (node : InnerNode) (bytes : List ℕ) : Type 0 where
  pub above : List ℕ
  pub parent : List ℕ
  pub below : IsBelow (reverse nodes) above
  pub front : IsInnerFront parent (suc (length node.child_visits.items))
  pub parts : bytes ≡ above ++ parent

pub below_pop : (all nodes : List InnerNode) (node : InnerNode) (bytes : List ℕ) → all ≡ nodes ++ node ∷ [] → IsBelow (reverse all) bytes → UnderLast nodes node bytes
below_pop all nodes node bytes is below =
    let P : List InnerNode → Type 0 = λ all. IsBelow all bytes in
    let w : IsBelow (node ∷ reverse nodes) bytes = subst P (ap reverse is ∙ reverse-append nodes (node ∷ [])) below in
    record { above = w.0; parent = w.1; below = w.2; front = w.3; parts = w.4 }

-- Nodes.

bytes_of_parts : (ts : List RowTree) → trees_bytes_by row_encoding (open_parts ts) ≡ flat_map tree_bytes ts
bytes_of_parts [] = refl
bytes_of_parts (t ∷ ts) = ap (λ (bytes : List ℕ). tree_bytes t ++ bytes) (bytes_of_parts ts)

each_fits : (ts : List RowTree) → AllByRecursion FitsPart ts → FitsEach FitsEntry (open_parts ts)
each_fits [] f = tt
each_fits (t ∷ ts) f = (f.0, each_fits ts f.1)

-- a whole tree of these bytes
pub record IsTree (bytes : List ℕ) : Type 0 where
  pub tree : RowTree
  pub fits : FitsPart tree
  pub bytes_are : bytes ≡ tree_bytes tree

pub child_taken : (parent : List ℕ) (left : ℕ) (p : RowTree) → IsInnerFront parent (suc left) → FitsPart p → IsInnerFront (parent ++ tree_bytes p) left
child_taken parent left p front fits =
    let children : List RowTree = front.children ++ p ∷ [] in
    let n : length children + left ≡ length front.children + suc left = omega (arith, length-append front.children (p ∷ [])) in
    record {
      separators = front.separators;
      children = children;
      bytes_are =
          ap (λ (t : List ℕ). t ++ tree_bytes p) front.bytes_are
          ∙ ap (λ (k : ℕ). 2 ∷ k ∷ (flat_map string front.separators ++ flat_map tree_bytes front.children) ++ tree_bytes p) (sym n)
          ∙ ap (λ (t : List ℕ). 2 ∷ (length children + left) ∷ t)
          (append_assoc (flat_map string front.separators) (flat_map tree_bytes front.children) (tree_bytes p)
          ∙ ap (λ (t : List ℕ). flat_map string front.separators ++ t) (sym (mapped_push tree_bytes front.children p)));
      least = omega (arith, n, front.least);
      most = omega (arith, n, front.most);
      count = front.count ∙ sym n;
      keys_fit = front.keys_fit;
      children_fit = All-push FitsPart front.children p front.children_fit fits;
    }

pub inner_whole : (parent : List ℕ) → IsInnerFront parent 0 → IsTree parent
inner_whole parent front =
    let n : count_of (open_parts front.children) ≡ length front.children + 0 = omega (arith, count_open_parts front.children) in
    record {
      tree = inner front.separators (open_parts front.children);
      fits = (
        omega (arith, n, front.least),
        omega (arith, n, front.most),
        front.count ∙ sym n,
        front.keys_fit,
        each_fits front.children (recursion_from_All FitsPart front.children front.children_fit),
      );
      bytes_are =
          front.bytes_are
          ∙ ap (λ (k : ℕ). 2 ∷ k ∷ flat_map string front.separators ++ flat_map tree_bytes front.children) (sym n)
          ∙ ap (λ (t : List ℕ). 2 ∷ count_of (open_parts front.children) ∷ flat_map string front.separators ++ t) (sym (bytes_of_parts front.children));
    }

pub leaf_whole : (bytes : List ℕ) → IsLeafFront bytes 0 → IsTree bytes
leaf_whole bytes front =
    let n : length front.entries ≡ length front.entries + 0 = omega arith in
    record {
      tree = leaf front.entries;
      fits = (omega (arith, n, front.most), front.fit);
      bytes_are = front.bytes_are ∙ ap (λ (k : ℕ). 1 ∷ k ∷ flat_map entry_form front.entries) (sym n);
    }

pub no_entries : (count : ℕ) → count ≤ 16 → IsLeafFront (1 ∷ count ∷ []) count
no_entries count most = record { entries = []; bytes_are = ap (λ (k : ℕ). 1 ∷ k ∷ []) (omega arith); most = omega (arith, most); fit = All-nil FitsEntry }

pub entry_taken : (bytes : List ℕ) (left : ℕ) (e : PartEntry) → IsLeafFront bytes (suc left) → FitsEntry e → IsLeafFront (bytes ++ entry_form e) left
entry_taken bytes left e front fits =
    let entries : List PartEntry = front.entries ++ e ∷ [] in
    let n : length entries + left ≡ length front.entries + suc left = omega (arith, length-append front.entries (e ∷ [])) in
    record {
      entries = entries;
      bytes_are =
          ap (λ (t : List ℕ). t ++ entry_form e) front.bytes_are
          ∙ ap (λ (k : ℕ). 1 ∷ k ∷ flat_map entry_form front.entries ++ entry_form e) (sym n)
          ∙ ap (λ (t : List ℕ). 1 ∷ (length entries + left) ∷ t) (sym (mapped_push entry_form front.entries e));
      most = omega (arith, n, front.most);
      fit = All-push FitsEntry front.entries e front.fit fits;
    }

-- Separators.

pub separator_taken : (ancestors : List InnerNode) (count grown left : ℕ) (bytes key token : List ℕ) → IsInSeparators ancestors count (suc left) bytes → grown ≡ suc count → token ≡ string key → FitsKey key
    → IsInSeparators ancestors grown left (bytes ++ token)
separator_taken ancestors count grown left bytes key token at is token_is fits =
    let separators : List (List ℕ) = at.separators ++ key ∷ [] in
    let n : grown + left + 1 ≡ count + suc left + 1 = omega (arith, is) in
    record {
      above = at.above;
      separators = separators;
      node = at.node;
      bytes_are =
          ap (λ (t : List ℕ). t ++ token) at.bytes_are
          ∙ append_assoc at.above (2 ∷ (count + suc left + 1) ∷ flat_map string at.separators) token
          ∙ ap (λ (k : ℕ). at.above ++ 2 ∷ k ∷ (flat_map string at.separators ++ token)) (sym n)
          ∙ ap (λ (t : List ℕ). at.above ++ 2 ∷ (grown + left + 1) ∷ (flat_map string at.separators ++ t)) token_is
          ∙ ap (λ (t : List ℕ). at.above ++ 2 ∷ (grown + left + 1) ∷ t) (sym (mapped_push string at.separators key));
      are_so_many = omega (arith, length-append at.separators (key ∷ []), at.are_so_many, is);
      least = omega (arith, is);
      most = omega (arith, n, at.most);
      fit = All-push FitsKey at.separators key at.fit fits;
    }

pub record BeforeChildren (ancestors : List InnerNode) (left : ℕ) (bytes : List ℕ) : Type 0 where
  pub above : List ℕ
  pub parent : List ℕ
  pub below : IsBelow (reverse ancestors) above
  pub front : IsInnerFront parent left
  pub parts : bytes ≡ above ++ parent

pub separators_taken : (ancestors : List InnerNode) (count grown left : ℕ) (bytes : List ℕ) → IsInSeparators ancestors count left bytes → left ≡ 0 → grown ≡ suc count → BeforeChildren ancestors grown bytes
separators_taken ancestors count grown left bytes at none is =
    let n : count + left + 1 ≡ grown = omega (arith, none, is) in
    record {
      above = at.above;
      parent = 2 ∷ grown ∷ flat_map string at.separators ++ [];
      below = at.node;
      front = record {
        separators = at.separators;
        children = [];
        bytes_are = ap (λ (k : ℕ). 2 ∷ k ∷ (flat_map string at.separators ++ [])) (omega arith);
        least = omega (arith, at.least, none, is);
        most = omega (arith, at.most, n);
        count = omega (arith, at.are_so_many, is);
        keys_fit = at.fit;
        children_fit = All-nil FitsPart;
      };
      parts = at.bytes_are
          ∙ ap (λ (k : ℕ). at.above ++ 2 ∷ k ∷ flat_map string at.separators) n
          ∙ ap (λ (t : List ℕ). at.above ++ 2 ∷ grown ∷ t) (sym (append-nil (flat_map string at.separators)));
    }

pub no_separators : (ancestors : List InnerNode) (count left : ℕ) (above : List ℕ) → IsBelow (reverse ancestors) above → 2 ≤ count → count ≤ 16 → suc left ≡ count
    → IsInSeparators ancestors 0 left (above ++ 2 ∷ count ∷ [])
no_separators ancestors count left above below least most is =
    record {
      above = above;
      separators = [];
      node = below;
      bytes_are = ap (λ (k : ℕ). above ++ 2 ∷ k ∷ []) (omega (arith, is));
      are_so_many = refl;
      least = omega (arith, is, least);
      most = omega (arith, is, most);
      fit = All-nil FitsKey;
    }

-- Entries.

pub leaf_begun : (ancestors : List InnerNode) (count : ℕ) (above : List ℕ) → IsBelow (reverse ancestors) above → count ≤ 16 → IsInLeaf ancestors count (above ++ 1 ∷ count ∷ [])
leaf_begun ancestors count above below most =
    record { above = above; leaf = 1 ∷ count ∷ []; node = below; begun = no_entries count most; parts = refl }

pub key_taken : (ancestors : List InnerNode) (left : ℕ) (bytes key token : List ℕ) → IsInLeaf ancestors (suc left) bytes → token ≡ string key → FitsKey key → IsBehindKey ancestors left key (bytes ++ token)
key_taken ancestors left bytes key token at is fits =
    record { before = bytes; entry = at; fits = fits; parts = ap (λ (t : List ℕ). bytes ++ t) is }

pub row_taken : (ancestors : List InnerNode) (left : ℕ) (key bytes : List ℕ) (row : RowPart) → IsBehindKey ancestors left key bytes → FitsRowPart row → IsInLeaf ancestors left (bytes ++ row_form row)
row_taken ancestors left key bytes row at fits =
    let e : PartEntry = record { key = key; row = row } in
    record {
      above = at.entry.above;
      leaf = at.entry.leaf ++ entry_form e;
      node = at.entry.node;
      begun = entry_taken at.entry.leaf left e at.entry.begun (record { key = at.fits; row = fits });
      parts =
          ap (λ (t : List ℕ). t ++ row_form row) (at.parts ∙ ap (λ (t : List ℕ). t ++ string key) at.entry.parts)
          ∙ append_assoc (at.entry.above ++ at.entry.leaf) (string key) (row_form row)
          ∙ append_assoc at.entry.above at.entry.leaf (string key ++ row_form row);
    }

-- Cells.

pub no_cells : (ancestors : List InnerNode) (behind count : ℕ) (key bytes : List ℕ) → IsBehindKey ancestors behind key bytes → count ≤ 31 → IsInCells ancestors behind key 0 count (bytes ++ 1 ∷ count ∷ [])
no_cells ancestors behind count key bytes at most =
    record {
      before = bytes;
      cells = [];
      entry = at;
      bytes_are = ap (λ (k : ℕ). bytes ++ 1 ∷ k ∷ []) (omega arith);
      are_so_many = refl;
      most = omega (arith, most);
      fit = All-nil FitsCell;
    }

pub cell_taken : (ancestors : List InnerNode) (behind column left : ℕ) (key bytes token : List ℕ) (cell : Cell) → IsInCells ancestors behind key column (suc left) bytes → token ≡ cell_form cell → FitsCell cell
    → IsInCells ancestors behind key (column + 1) left (bytes ++ token)
cell_taken ancestors behind column left key bytes token cell at is fits =
    let n : column + 1 + left ≡ column + suc left = omega arith in
    record {
      before = at.before;
      cells = at.cells ++ cell ∷ [];
      entry = at.entry;
      bytes_are =
          ap (λ (t : List ℕ). t ++ token) at.bytes_are
          ∙ append_assoc at.before (1 ∷ (column + suc left) ∷ flat_map cell_form at.cells) token
          ∙ ap (λ (k : ℕ). at.before ++ 1 ∷ k ∷ (flat_map cell_form at.cells ++ token)) (sym n)
          ∙ ap (λ (t : List ℕ). at.before ++ 1 ∷ (column + 1 + left) ∷ (flat_map cell_form at.cells ++ t)) is
          ∙ ap (λ (t : List ℕ). at.before ++ 1 ∷ (column + 1 + left) ∷ t) (sym (mapped_push cell_form at.cells cell));
      are_so_many = omega (arith, length-append at.cells (cell ∷ []), at.are_so_many);
      most = omega (arith, n, at.most);
      fit = All-push FitsCell at.cells cell at.fit fits;
    }

-- Calls.

pub row_ended : (ancestors : List InnerNode) (behind : ℕ) (key : List ℕ) (column left : ℕ) (context : Context) (r : Result State AllocError) → left ≡ 0
    → IfOk r (λ state. (bytes : List ℕ) (row : RowPart) → IsBehindKey ancestors behind key bytes → FitsRowPart row → StandsAt context state (bytes ++ row_form row))
    → IfOk r (λ state. (bytes : List ℕ) → IsInCells ancestors behind key column left bytes → StandsAt context state bytes)
row_ended ancestors behind key column left context (Ok state) none stands = λ bytes at.
    let n : column + left ≡ length at.cells = omega (arith, none, at.are_so_many) in
    let P : List ℕ → Type 0 = λ t. StandsAt context state t in
    let is : at.before ++ row_form (Cells at.cells) ≡ bytes = ap (λ (k : ℕ). at.before ++ 1 ∷ k ∷ flat_map cell_form at.cells) (sym n) ∙ sym at.bytes_are in
    subst P is (stands at.before (Cells at.cells) at.entry (omega (arith, n, at.most), at.fit))
row_ended ancestors behind key column left context (Err e) none stands = tt

pub closed_row_ended : (ancestors : List InnerNode) (behind : ℕ) (key digest : List ℕ) (context : Context) (r : Result State AllocError) → length digest ≡ 32
    → IfOk r (λ state. (bytes : List ℕ) (row : RowPart) → IsBehindKey ancestors behind key bytes → FitsRowPart row → StandsAt context state (bytes ++ row_form row))
    → IfOk r (λ state. (bytes : List ℕ) → IsBehindKey ancestors behind key bytes → StandsAt context state (bytes ++ 0 ∷ digest))
closed_row_ended ancestors behind key digest context (Ok state) fits stands = λ bytes at. stands bytes (Closed digest) at fits
closed_row_ended ancestors behind key digest context (Err e) fits stands = tt

pub open_row_begun : (ancestors : List InnerNode) (behind : ℕ) (key : List ℕ) (count : ℕ) (context : Context) (r : Result State AllocError) → count ≤ 31
    → IfOk r (λ state. (bytes : List ℕ) → IsInCells ancestors behind key 0 count bytes → StandsAt context state bytes)
    → IfOk r (λ state. (bytes : List ℕ) → IsBehindKey ancestors behind key bytes → StandsAt context state (bytes ++ 1 ∷ count ∷ []))
open_row_begun ancestors behind key count context (Ok state) most stands = λ bytes at. stands (bytes ++ 1 ∷ count ∷ []) (no_cells ancestors behind count key bytes at most)
open_row_begun ancestors behind key count context (Err e) most stands = tt

pub cell_added : (ancestors : List InnerNode) (behind column left : ℕ) (key token : List ℕ) (cell : Cell) (context : Context) (r : Result State AllocError) → token ≡ cell_form cell → FitsCell cell
    → IfOk r (λ state. (bytes : List ℕ) → IsInCells ancestors behind key (column + 1) left bytes → StandsAt context state bytes)
    → IfOk r (λ state. (bytes : List ℕ) → IsInCells ancestors behind key column (suc left) bytes → StandsAt context state (bytes ++ token))
cell_added ancestors behind column left key token cell context (Ok state) is fits stands = λ bytes at. stands (bytes ++ token) (cell_taken ancestors behind column left key bytes token cell at is fits)
cell_added ancestors behind column left key token cell context (Err e) is fits stands = tt

-- Cells that are passed over.

pub no_cells_taken : (needed : Bool) (row : OpenRow) (bytes : List ℕ) → TakesCells needed row row bytes bytes
no_cells_taken needed row bytes = record { cells = []; parts = refl; column = omega arith; left = omega arith; behind = refl; fit = All-nil FitsCell; grown = no_more needed row.findings.values }

pub next_cell_taken : (needed : Bool) (first old new : OpenRow) (bytes left token rest : List ℕ) (cell : Cell) → TakesCells needed first old bytes left → left ≡ token ++ rest → token ≡ cell_form cell → FitsCell cell
    → suc new.left ≡ old.left → new.column ≡ old.column + 1 → new.leaf.left ≡ old.leaf.left
    → ValuesGrow needed old.findings.values new.findings.values (length (cell_form cell)) → TakesCells needed first new bytes rest
next_cell_taken needed first old new bytes left token rest cell t parts is fits count column behind grow =
    let P : ℕ → Type 0 = λ m. ValuesGrow needed first.findings.values new.findings.values m in
    let size : length (flat_map cell_form t.cells) + length (cell_form cell) ≡ length (flat_map cell_form (t.cells ++ cell ∷ [])) =
    sym (ap (λ (l : List ℕ). length l) (mapped_push cell_form t.cells cell) ∙ length-append (flat_map cell_form t.cells) (cell_form cell)) in
    let n : length (t.cells ++ cell ∷ []) ≡ length t.cells + 1 = length-append t.cells (cell ∷ []) in
    record {
      cells = t.cells ++ cell ∷ [];
      parts =
          t.parts
          ∙ ap (λ (l : List ℕ). flat_map cell_form t.cells ++ l) (parts ∙ ap (λ (l : List ℕ). l ++ rest) is)
          ∙ sym (append_assoc (flat_map cell_form t.cells) (cell_form cell) rest)
          ∙ ap (λ (l : List ℕ). l ++ rest) (sym (mapped_push cell_form t.cells cell));
      column = omega (arith, n, t.column, column);
      left = omega (arith, n, t.left, count);
      behind = behind ∙ t.behind;
      fit = All-push FitsCell t.cells cell t.fit fits;
      grown = subst P size (grow_more needed first.findings.values old.findings.values new.findings.values (length (flat_map cell_form t.cells)) (length (cell_form cell)) t.grown grow);
    }

pub cells_moved : (needed : Bool) (ancestors : List InnerNode) (key : List ℕ) (old new : OpenRow) (bytes rest taken before : List ℕ) → TakesCells needed old new bytes rest → bytes ≡ taken ++ rest
    → IsInCells ancestors old.leaf.left key old.column (suc old.left) before → IsInCells ancestors new.leaf.left key new.column (suc new.left) (before ++ taken)
cells_moved needed ancestors key old new bytes rest taken before t parts at =
    let is : flat_map cell_form t.cells ≡ taken = append_cancel_right (flat_map cell_form t.cells) taken rest (sym t.parts ∙ parts) in
    let n : new.column + suc new.left ≡ old.column + suc old.left = omega (arith, t.column, t.left) in
    let P : ℕ → Type 0 = λ behind. IsBehindKey ancestors behind key at.before in
    record {
      before = at.before;
      cells = at.cells ++ t.cells;
      entry = subst P (sym t.behind) at.entry;
      bytes_are =
          ap (λ (l : List ℕ). l ++ taken) at.bytes_are
          ∙ append_assoc at.before (1 ∷ (old.column + suc old.left) ∷ flat_map cell_form at.cells) taken
          ∙ ap (λ (k : ℕ). at.before ++ 1 ∷ k ∷ (flat_map cell_form at.cells ++ taken)) (sym n)
          ∙ ap (λ (l : List ℕ). at.before ++ 1 ∷ (new.column + suc new.left) ∷ l)
          (ap (λ (l : List ℕ). flat_map cell_form at.cells ++ l) (sym is) ∙ sym (flat_map-append cell_form at.cells t.cells));
      are_so_many = omega (arith, length-append at.cells t.cells, at.are_so_many, t.column);
      most = omega (arith, n, at.most);
      fit = All-append FitsCell at.cells t.cells at.fit t.fit;
    }

-- Rows that aren't whole.

pub node_place : (nodes : List InnerNode) (bytes : List ℕ) → IsBelow nodes bytes → IsNodePlace (length nodes) bytes
node_place [] bytes below = below
node_place (node ∷ nodes) bytes below = (below.0, below.1, length node.child_visits.items, node_place nodes below.0 below.2, below.3, below.4)

pub entry_place : (ancestors : List InnerNode) (left : ℕ) (bytes : List ℕ) → IsInLeaf ancestors (suc left) bytes → IsEntryPlace bytes
entry_place ancestors left bytes at = record {
  depth = length (reverse ancestors);
  above = at.above;
  leaf = at.leaf;
  left = left;
  node = node_place (reverse ancestors) at.above at.node;
  begun = at.begun;
  parts = at.parts;
}

pub ends_in_row : (context : Context) (state : State) (taken part : List ℕ) → StandsAt context state taken → IsInNeededRow context state → length part < token_size state part
    → EndsInRow context.last_key.items (taken ++ part) × IsTrue (in_interval context.target.interval context.last_key.items)
ends_in_row context (Row entry) taken part at inside short =
    let key : List ℕ = context.last_key.items in
    let size : token_size (Row entry) part ≡ row_size part = row_token (Row entry) entry part refl in (
      record {
        before = at.before;
        row = part;
        entry = entry_place context.ancestors.items entry.left at.before at.entry;
        fits = at.fits;
        front = inl (omega (arith, size, short));
        parts = ap (λ (t : List ℕ). t ++ part) at.parts ∙ append_assoc at.before (string key) part;
      },
      inside,
    )
ends_in_row context (CellState row) taken part at inside short =
    let key : List ℕ = context.last_key.items in
    let size : token_size (CellState row) part ≡ cell_size part = cell_token (CellState row) row part refl in
    let cells : List ℕ = 1 ∷ (row.column + suc row.left) ∷ flat_map cell_form at.cells in
    let front : IsCellsFront (cells ++ part) = record {
      cells = at.cells;
      left = row.left;
      part = part;
      bytes_are = ap (λ (k : ℕ). 1 ∷ (k + suc row.left) ∷ (flat_map cell_form at.cells ++ part)) (sym at.are_so_many);
      most = omega (arith, at.most, at.are_so_many);
      fit = at.fit;
      short = omega (arith, size, short);
    } in (
      record {
        before = at.entry.before;
        row = cells ++ part;
        entry = entry_place context.ancestors.items row.leaf.left at.entry.before at.entry.entry;
        fits = at.entry.fits;
        front = inr front;
        parts =
            ap (λ (t : List ℕ). t ++ part) (at.bytes_are ∙ ap (λ (t : List ℕ). t ++ cells) at.entry.parts)
            ∙ append_assoc (at.entry.before ++ string key) cells part
            ∙ append_assoc at.entry.before (string key) (cells ++ part);
      },
      inside,
    )
ends_in_row context (Node visited) taken part at inside short = absurd inside
ends_in_row context (Separator head) taken part at inside short = absurd inside
ends_in_row context (Key entry) taken part at inside short = absurd inside
ends_in_row context (Complete digest) taken part at inside short = absurd inside
ends_in_row context Invalid taken part at inside short = absurd inside
