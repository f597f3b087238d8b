-- Bytes that are less than a token: nothing is read of them.
use Rattle.std.proofs.Common.{true, ◌≡◌, ℕ, zero, suc, ◌+◌, ◌-◌, ◌<◌, ◌≤◌, Bool, eqb, leb, ltb, List, [], ◌∷◌, ◌++◌, length, take, drop, Option, Some, None, refl, sym, ap, ◌∙◌, append-nil, arith, inl, inr, ◌⊎◌}
use Rattle.std.specs.Prelude.{not, option_map}
use Rattle.std.specs.Result.{result_ok}
use Rattle.std.proofs.lemmas.Bool.{cases_Bool, eqb-true, lt-ltb, ltb-false}
use Rattle.std.proofs.lemmas.List.{length-drop}
use Rattle.tree_stream.specs.declared.target.Target.{Target}
use Rattle.vo_spec.specs.Bytes.{u16_of}
use Rattle.vo_spec.specs.Values.{max_text}
use Rattle.vo_spec.specs.Tables.{max_key}
use Rattle.vo_spec.specs.Trees.{RowTree}
use Rattle.vo_spec.specs.Scans.{is_empty_interval}
use Rattle.row_bytes.specs.Reading.{byte_at, bytes_at, u16_at, value_at, int_at, text_at, bool_at}
use Rattle.row_bytes.specs.Fields.{◌>>=◌, string_at}
use Rattle.batch_format.specs.BatchReading.{Reader, any_value_at}
use Rattle.batch_format.specs.TreeReading.{key_at, cell_at, cells_at, row_at, leaf_at, inner_at, node_at, tree_at}
use Rattle.tree_stream.specs.declared.findings.Findings.{Findings}
use Rattle.tree_stream.specs.declared.findings.Summary.{Summary}
use Rattle.tree_stream.specs.declared.state.State.{State}
use Rattle.tree_stream.specs.declared.state.State.TheVariants.{Node, Separator, Key, Row, Cell, Complete, Invalid}
use Rattle.tree_stream.specs.declared.context.Context.{Context}
use Rattle.tree_stream.specs.Findings.{no_findings}
use Rattle.tree_stream.specs.Remaining.{summary, summary_at, lower_separator, rest_of_node}
use Rattle.tree_stream.specs.Summaries.{levels_below, summary_after, summary_with, rest_in, summary_from, summary_of_tree, complete_digest, is_settled}
use Rattle.tree_stream.specs.Tokens.{node_size, string_size, row_size, value_size, cell_size, token_size}
use Rattle.tree_stream.proofs.WholeTokens.{string_is}
use Rattle.tree_stream.proofs.NodeLaws.{no_node_begins, no_separator}
use Rattle.tree_stream.proofs.LeafLaws.{no_key, no_row, no_cell}
use Rattle.tree_stream.proofs.Remainders.{none_with, summary_behind}

few_bytes : (n : ℕ) (bytes : List ℕ) → length bytes < n → bytes_at n bytes ≡ None
unfolding bytes_at
few_bytes n bytes few = rw (lt-ltb (length bytes) n few) refl

no_leaf_count : (bytes : List ℕ) → length bytes ≤ 0 → leaf_at bytes ≡ None
unfolding leaf_at byte_at
no_leaf_count [] none = refl
no_leaf_count (byte ∷ bytes) none = absurd (omega (arith, none))

no_inner_count : (child : Reader RowTree) (bytes : List ℕ) → length bytes ≤ 0 → inner_at child bytes ≡ None
unfolding inner_at byte_at
no_inner_count child [] none = refl
no_inner_count child (byte ∷ bytes) none = absurd (omega (arith, none))

no_cell_count : (bytes : List ℕ) → length bytes ≤ 0 → cells_at bytes ≡ None
unfolding cells_at byte_at
no_cell_count [] none = refl
no_cell_count (byte ∷ bytes) none = absurd (omega (arith, none))

no_truth : (bytes : List ℕ) → length bytes ≤ 0 → result_ok (bool_at bytes) ≡ None
unfolding bool_at
no_truth [] none = refl
no_truth (byte ∷ bytes) none = absurd (omega (arith, none))

short_node : (child : Reader RowTree) (bytes : List ℕ) → length bytes < node_size bytes → node_at child bytes ≡ None
unfolding node_at node_size
short_node child [] short = refl
short_node child (byte ∷ bytes) short =
    elim (cases_Bool (eqb byte 0)) [
      | inl t ↦
          let size : node_size (byte ∷ bytes) ≡ 33 = rw t refl in
          rw (t, few_bytes 32 bytes (omega (arith, short, size))) refl
      | inr f ↦ elim (cases_Bool (eqb byte 1)) [
        | inl t ↦
            let size : node_size (byte ∷ bytes) ≡ 2 = rw (f, t) refl in
            rw (f, t) (no_leaf_count bytes (omega (arith, short, size)))
        | inr g ↦ elim (cases_Bool (eqb byte 2)) [
          | inl t ↦
              let size : node_size (byte ∷ bytes) ≡ 2 = rw (f, g, t) refl in
              rw (f, g, t) (no_inner_count child bytes (omega (arith, short, size)))
          | inr h ↦ rw (f, g, h) refl
        ]
      ]
    ]

short_row : (bytes : List ℕ) → length bytes < row_size bytes → row_at bytes ≡ None
unfolding row_at row_size
short_row [] short = refl
short_row (byte ∷ bytes) short =
    elim (cases_Bool (eqb byte 0)) [
      | inl t ↦
          let size : row_size (byte ∷ bytes) ≡ 33 = rw t refl in
          rw (t, few_bytes 32 bytes (omega (arith, short, size))) refl
      | inr f ↦ elim (cases_Bool (eqb byte 1)) [
        | inl t ↦
            let size : row_size (byte ∷ bytes) ≡ 2 = rw (f, t) refl in
            rw (f, t, no_cell_count bytes (omega (arith, short, size))) refl
        | inr g ↦ rw (f, g) refl
      ]
    ]

-- a string that is not whole has fewer bytes than its length says
short_string : (most : ℕ) (bytes : List ℕ) → 2 ≤ length bytes → length bytes < string_size most bytes → length (drop 2 bytes) < u16_of (take 2 bytes)
unfolding string_size
short_string most bytes long short =
    let n : ℕ = u16_of (take 2 bytes) in
    elim (cases_Bool (leb n most)) [
      | inl t ↦
          let size : string_size most bytes ≡ 2 + n = string_is most bytes long ∙ rw t refl in
          omega (arith, length-drop 2 bytes, short, size, long)
      | inr f ↦
          let size : string_size most bytes ≡ 2 = string_is most bytes long ∙ rw f refl in
          absurd (omega (arith, short, size, long))
    ]

short_key : (bytes : List ℕ) → length bytes < string_size max_key bytes → key_at bytes ≡ None
unfolding key_at string_at u16_at
short_key bytes short =
    elim (cases_Bool (ltb (length bytes) 2)) [
      | inl t ↦ rw t refl
      | inr f ↦
          let n : ℕ = u16_of (take 2 bytes) in
          rw (f, few_bytes n (drop 2 bytes) (short_string max_key bytes (ltb-false (length bytes) 2 f) short)) refl
    ]

short_text : (bytes : List ℕ) → length bytes < string_size max_text bytes → result_ok (text_at bytes) ≡ None
unfolding text_at
short_text bytes short =
    elim (cases_Bool (ltb (length bytes) 2)) [
      | inl t ↦ rw t refl
      | inr f ↦
          let n : ℕ = u16_of (take 2 bytes) in
          rw (f, lt-ltb (length (drop 2 bytes)) n (short_string max_text bytes (ltb-false (length bytes) 2 f) short)) refl
    ]

short_value : (bytes : List ℕ) → length bytes < value_size bytes → any_value_at bytes ≡ None
unfolding any_value_at value_at value_size int_at
short_value [] short = refl
short_value (kind ∷ bytes) short =
    elim (cases_Bool (eqb kind 0)) [
      | inl n ↦
          let size : value_size (kind ∷ bytes) ≡ 1 = ap (λ (k : ℕ). value_size (k ∷ bytes)) (eqb-true kind 0 n) in
          absurd (omega (arith, short, size))
      | inr n ↦ elim (cases_Bool (eqb kind 1)) [
        | inl t ↦
            let size : value_size (kind ∷ bytes) ≡ 9 = rw t refl in
            rw (n, t, lt-ltb (length bytes) 8 (omega (arith, short, size))) refl
        | inr f ↦ elim (cases_Bool (eqb kind 2)) [
          | inl t ↦
              let size : value_size (kind ∷ bytes) ≡ suc (string_size max_text bytes) = rw (f, t) refl in
              rw (n, f, t) (short_text bytes (omega (arith, short, size)))
          | inr g ↦ elim (cases_Bool (eqb kind 3)) [
            | inl t ↦
                let size : value_size (kind ∷ bytes) ≡ 2 = rw (f, g, t) refl in
                rw (n, f, g, t) (no_truth bytes (omega (arith, short, size)))
            | inr h ↦ rw (n, f, g, h) refl
          ]
        ]
      ]
    ]

short_cell : (bytes : List ℕ) → length bytes < cell_size bytes → cell_at bytes ≡ None
unfolding cell_at cell_size
short_cell [] short = refl
short_cell (byte ∷ bytes) short =
    elim (cases_Bool (eqb byte 0)) [
      | inl t ↦
          let size : cell_size (byte ∷ bytes) ≡ 33 = rw t refl in
          rw (t, few_bytes 32 bytes (omega (arith, short, size))) refl
      | inr f ↦ elim (cases_Bool (eqb byte 1)) [
        | inl t ↦
            let size : cell_size (byte ∷ bytes) ≡ suc (value_size bytes) = rw (f, t) refl in
            rw (f, t, short_value bytes (omega (arith, short, size))) refl
        | inr g ↦ rw (f, g) refl
      ]
    ]

no_tree : (target : Target) (levels : ℕ) (visited : Bool) (bytes : List ℕ) → length bytes < node_size bytes → summary_at target levels visited bytes ≡ None
unfolding summary_at tree_at
no_tree target zero visited bytes short = refl
no_tree target (suc levels) visited bytes short = no_node_begins target levels visited bytes (λ child. short_node child bytes short)

-- States.

-- bytes that are no whole token make no tree, unless it is complete
short_none : (context : Context) (state : State) (bytes : List ℕ) → complete_digest state ≡ None → length bytes < token_size state bytes → summary_from context state bytes ≡ None
unfolding summary_from rest_of_node token_size
short_none context (Node visited) bytes open_state short =
    none_with context.target context.ancestors.items context.findings (rest_in context (Node visited)) bytes (no_tree context.target (levels_below context.ancestors.items) visited bytes short)
short_none context (Separator head) bytes open_state short =
    none_with context.target context.ancestors.items context.findings (rest_in context (Separator head)) bytes
    (no_separator context.target (levels_below context.ancestors.items - 1) head.visited head.hasher head.child_visits.items (lower_separator head.has_lower context.last_key.items) head.left bytes (short_key bytes short))
short_none context (Key leaf) bytes open_state short =
    none_with context.target context.ancestors.items context.findings (rest_in context (Key leaf)) bytes (no_key context.target leaf.hasher leaf.left bytes (short_key bytes short))
short_none context (Row leaf) bytes open_state short =
    none_with context.target context.ancestors.items context.findings (rest_in context (Row leaf)) bytes (no_row context.target leaf.hasher context.last_key.items leaf.left bytes (short_row bytes short))
short_none context (Cell row) bytes open_state short =
    none_with context.target context.ancestors.items context.findings (rest_in context (Cell row)) bytes
    (no_cell context.target row.leaf.hasher context.last_key.items row.leaf.left row.hasher row.column row.findings row.left bytes (short_cell bytes short))
short_none context (Complete digest) bytes open_state short = absurd cc
short_none context Invalid bytes open_state short = none_with context.target context.ancestors.items context.findings (rest_in context Invalid) bytes refl

abbrev summary_in : Summary × List ℕ → Summary
summary_in end = end.0

pub end_none : (context : Context) (state : State) (partial : List ℕ) → complete_digest state ≡ None → length partial < token_size state partial → None ≡ option_map summary_in (summary_from context state (partial ++ []))
end_none context state partial open_state short =
    sym (ap (λ (bytes : List ℕ). option_map summary_in (summary_from context state bytes)) (append-nil partial) ∙ ap (option_map summary_in) (short_none context state partial open_state short))

pub end_some : (context : Context) (state : State) (partial d : List ℕ) → complete_digest state ≡ Some d → Some (summary d context.findings) ≡ option_map summary_in (summary_from context state (partial ++ []))
unfolding summary_from summary_after
end_some context (Node visited) partial d is = absurd cc
end_some context (Separator head) partial d is = absurd cc
end_some context (Key leaf) partial d is = absurd cc
end_some context (Row leaf) partial d is = absurd cc
end_some context (Cell row) partial d is = absurd cc
end_some context (Complete digest) partial d is = ap (λ (o : Option (List ℕ)). o >>= λ t. Some (summary t context.findings)) (sym is)
end_some context Invalid partial d is = absurd cc

-- The start.

all_found : (target : Target) (o : Option (Summary × List ℕ)) → (o >>= summary_behind target [] no_findings) ≡ o
unfolding summary_after
all_found target None = refl
all_found target (Some (s, bytes)) = refl

pub start_is : (context : Context) (bytes : List ℕ) → context.ancestors.items ≡ [] → context.findings ≡ no_findings
    → summary_from context (Node (not (is_empty_interval context.target.interval))) bytes ≡ summary_of_tree context.target bytes
unfolding summary_from summary_with rest_of_node summary_of_tree
start_is context bytes no_ancestors none =
    let visited : Bool = not (is_empty_interval context.target.interval) in
    ap (λ nodes. summary_at context.target (levels_below nodes) visited bytes >>= summary_behind context.target nodes context.findings) no_ancestors
    ∙ ap (λ (found : Findings). summary_at context.target (levels_below []) visited bytes >>= summary_behind context.target [] found) none
    ∙ all_found context.target (summary_at context.target (levels_below []) visited bytes)

-- A settled state.

pub settled_is : (context : Context) (state : State) → is_settled state ≡ true → ((more : List ℕ) → summary_from context state more ≡ None) ⊎ ((found : Summary) × ((more : List ℕ) → summary_from context state more ≡ Some (found, more)))
unfolding summary_from summary_with summary_after rest_of_node
settled_is context (Node visited) settled = absurd cc
settled_is context (Separator head) settled = absurd cc
settled_is context (Key leaf) settled = absurd cc
settled_is context (Row leaf) settled = absurd cc
settled_is context (Cell row) settled = absurd cc
settled_is context (Complete digest) settled = inr (summary digest context.findings, λ more. refl)
settled_is context Invalid settled = inl (λ more. refl)
