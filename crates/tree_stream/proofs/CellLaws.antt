-- The cells of a row, of which those before the last are taken where the row stands.
use Rattle.std.proofs.Common.{◌≡◌, ℕ, ◌+◌, ap, suc, ◌≤◌, List, ◌++◌, length, flat_map, take, refl, subst, sym, ◌∙◌}
use Rattle.vo_spec.specs.declared.values.Value.{Value}
use Rattle.vo_spec.specs.TreeBytes.{cell_form}
use Rattle.tree_stream.specs.declared.context.Context.{Context}
use Rattle.tree_stream.specs.declared.state.OpenRow.{OpenRow}
use Rattle.tree_stream.specs.declared.state.State.{State}
use Rattle.tree_stream.specs.declared.state.State.TheVariants.{Cell}
use Rattle.tree_stream.specs.Keeping.{ValuesGrow}
use Rattle.tree_stream.specs.Machines.{Advances, Passes, TakesCells, machine_of, row_summary}
use Rattle.tree_stream.specs.Summaries.{CanEnd, is_needed_row, summary_from}
use Rattle.tree_stream.specs.Tokens.{cell_size}
use Rattle.tree_stream.proofs.Endings.{can_same}
use Rattle.tree_stream.proofs.PieceLaws.{token_whole}
use Rattle.tree_stream.proofs.KeepingLaws.{cells_moved as cells_kept}
use Rattle.tree_stream.proofs.PlaceLaws.{cells_moved}
use Rattle.tree_stream.proofs.StateLaws.{cell_token}
use Rattle.tree_stream.proofs.Steps.{yields_cell}

-- so many bytes in front are a whole cell
pub cell_whole : (row : OpenRow) (bytes token : List ℕ) (size : ℕ) → size ≡ cell_size bytes → size ≤ length bytes → token ≡ take size bytes → length token ≡ cell_size token
cell_whole row bytes token size is le front =
    let state : State = Cell row in
    token_whole state bytes token size (is ∙ sym (cell_token state row bytes refl)) le front ∙ cell_token state row token refl

pub row_can : (context : Context) (row : OpenRow) → CanEnd (row_summary context row row.hasher) → CanEnd (summary_from context (Cell row))
row_can context row can = can_same (summary_from context (Cell row)) (row_summary context row row.hasher) (λ rest. (yields_cell context row (suc row.left) refl).each rest) can

-- what was gathered of the row is hashed
pub row_advances : (context : Context) (old mid new : OpenRow) (hashed bytes left : List ℕ) → Passes (row_summary context old old.hasher) (row_summary context mid hashed) bytes left → TakesCells (is_needed_row context) old mid bytes left
    → new.leaf.left ≡ mid.leaf.left → new.column ≡ mid.column → new.left ≡ mid.left → new.findings.values ≡ mid.findings.values
    → ((rest : List ℕ) → row_summary context new new.hasher rest ≡ row_summary context mid hashed rest)
    → Advances (machine_of context (Cell old)) (machine_of context (Cell new)) bytes left
row_advances context old mid new hashed bytes left p t behind column count values same =
    let P : List Value → Type 0 = λ v. ValuesGrow (is_needed_row context) old.findings.values v (length (flat_map cell_form t.cells)) in
    let all : TakesCells (is_needed_row context) old new bytes left = record {
      cells = t.cells;
      parts = t.parts;
      column = column ∙ t.column;
      left = ap (λ (n : ℕ). n + length t.cells) count ∙ t.left;
      behind = behind ∙ t.behind;
      fit = t.fit;
      grown = subst P (sym values) t.grown;
    } in
    record {
      taken = p.taken;
      parts = p.parts;
      each = λ rest.
          (yields_cell context new (suc new.left) refl).each rest
          ∙ same rest
          ∙ p.each rest
          ∙ sym ((yields_cell context old (suc old.left) refl).each (p.taken ++ rest));
      moves = λ before at. (
        cells_moved (is_needed_row context) context.ancestors.items context.last_key.items old new bytes left p.taken before all p.parts at.0,
        cells_kept context old new bytes left p.taken before all p.parts at.1,
      );
    }
