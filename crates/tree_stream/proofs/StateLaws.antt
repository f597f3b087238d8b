-- What comes of each state is what comes of reading the rest of its node.
use Rattle.std.proofs.Common.{◌≡◌, Bool, ℕ, suc, ◌≤◌, List, ◌++◌, length, Result, Ok, Err, refl, sym, ap, ◌∙◌, arith}
use Rattle.std.specs.Prelude.{IfOk}
use Rattle.std.specs.declared.alloc.AllocError.{AllocError}
use Rattle.vo_spec.specs.Tables.{max_key}
use Rattle.batch_format.specs.BatchReading.{Reader}
use Rattle.tree_stream.specs.declared.findings.Summary.{Summary}
use Rattle.tree_stream.specs.declared.state.State.{State}
use Rattle.tree_stream.specs.declared.state.State.TheVariants.{Node, Separator, Key, Row, Cell, Complete, Invalid}
use Rattle.tree_stream.specs.declared.state.InnerHead.{InnerHead}
use Rattle.tree_stream.specs.declared.state.OpenLeaf.{OpenLeaf}
use Rattle.tree_stream.specs.declared.state.OpenRow.{OpenRow}
use Rattle.tree_stream.specs.declared.context.Context.{Context}
use Rattle.tree_stream.specs.Parsing.{BeginsCell, BeginsRow}
use Rattle.tree_stream.specs.Remaining.{rest_of_node}
use Rattle.tree_stream.specs.Summaries.{summary_with, summary_from, Yields, CanEnd}
use Rattle.tree_stream.specs.Tokens.{node_size, string_size, row_size, cell_size, token_size}
use Rattle.tree_stream.proofs.Steps.{yields_row, yields_cell, yields_invalid}
use Rattle.tree_stream.proofs.Endings.{row_can, cell_can, can_same}

-- the sizes of their tokens

pub node_token : (state : State) (visited : Bool) (bytes : List ℕ) → state ≡ Node visited → token_size state bytes ≡ node_size bytes
unfolding token_size
node_token state visited bytes is = ap (λ (s : State). token_size s bytes) is

pub separator_token : (state : State) (head : InnerHead) (bytes : List ℕ) → state ≡ Separator head → token_size state bytes ≡ string_size max_key bytes
unfolding token_size
separator_token state head bytes is = ap (λ (s : State). token_size s bytes) is

pub key_state_token : (state : State) (leaf : OpenLeaf) (bytes : List ℕ) → state ≡ Key leaf → token_size state bytes ≡ string_size max_key bytes
unfolding token_size
key_state_token state leaf bytes is = ap (λ (s : State). token_size s bytes) is

pub row_token : (state : State) (leaf : OpenLeaf) (bytes : List ℕ) → state ≡ Row leaf → token_size state bytes ≡ row_size bytes
unfolding token_size
row_token state leaf bytes is = ap (λ (s : State). token_size s bytes) is

pub cell_token : (state : State) (row : OpenRow) (bytes : List ℕ) → state ≡ Cell row → token_size state bytes ≡ cell_size bytes
unfolding token_size
cell_token state row bytes is = ap (λ (s : State). token_size s bytes) is

-- a step from a state

pub step_from : (context new : Context) (next state is : State) (f : Reader Summary) (token : List ℕ) → state ≡ is → ((rest : List ℕ) → summary_from context is rest ≡ f rest) → Yields new next (λ rest. f (token ++ rest))
    → Yields new next (λ rest. summary_from context state (token ++ rest))
step_from context new next state is f token e same yields = record {
  each = λ rest. yields.each rest ∙ sym (same (token ++ rest)) ∙ sym (ap (λ (s : State). summary_from context s (token ++ rest)) e);
}

pub ok_step_from : (context new : Context) (r : Result State AllocError) (state is : State) (f : Reader Summary) (token : List ℕ) → state ≡ is → ((rest : List ℕ) → summary_from context is rest ≡ f rest)
    → IfOk r (λ next. Yields new next (λ rest. f (token ++ rest)))
    → IfOk r (λ next. Yields new next (λ rest. summary_from context state (token ++ rest)))
ok_step_from context new (Ok next) state is f token e same yields = step_from context new next state is f token e same yields
ok_step_from context new (Err fault) state is f token e same yields = tt

-- no token is whole behind the tree
pub complete_step : (context new : Context) (state : State) (d token : List ℕ) → state ≡ Complete d → length token ≡ token_size state token → Yields new Invalid (λ rest. summary_from context state (token ++ rest))
unfolding token_size
complete_step context new state d token is len = absurd (omega (arith, len ∙ ap (λ (s : State). token_size s token) is))

pub invalid_step : (context new : Context) (state : State) (token : List ℕ) → state ≡ Invalid → Yields new Invalid (λ rest. summary_from context state (token ++ rest))
unfolding summary_from summary_with rest_of_node
invalid_step context new state token is =
    yields_invalid new (λ rest. summary_from context state (token ++ rest)) (λ rest. ap (λ (s : State). summary_from context s (token ++ rest)) is)

pub row_way : (context : Context) (state : State) (leaf : OpenLeaf) (token : List ℕ) → state ≡ Row leaf → length context.ancestors.items ≤ 10 → BeginsRow token → CanEnd (λ rest. summary_from context state (token ++ rest))
row_way context state leaf token is few begun =
    can_same (λ rest. summary_from context state (token ++ rest)) _
    (λ rest. ap (λ (s : State). summary_from context s (token ++ rest)) is ∙ (yields_row context leaf).each (token ++ rest))
    (row_can context.target context.ancestors.items context.findings few leaf.hasher context.last_key.items leaf.left token begun)

pub cell_way : (context : Context) (state : State) (row : OpenRow) (token : List ℕ) → state ≡ Cell row → length context.ancestors.items ≤ 10 → BeginsCell token → CanEnd (λ rest. summary_from context state (token ++ rest))
cell_way context state row token is few begun =
    can_same (λ rest. summary_from context state (token ++ rest)) _
    (λ rest. ap (λ (s : State). summary_from context s (token ++ rest)) is ∙ (yields_cell context row (suc row.left) refl).each (token ++ rest))
    (cell_can context.target context.ancestors.items context.findings few row.leaf.hasher context.last_key.items row.leaf.left row.hasher row.column row.findings row.left token begun)
