-- The values that are kept of the cells of a row.
use Rattle.std.proofs.Common.{◌≡◌, ℕ, ◌+◌, Bool, true, false, List, [], ◌∷◌, ◌++◌, length, ◌⊎◌, inl, inr, refl, sym, ap, ◌∙◌, append-nil, arith}
use Rattle.std.specs.Prelude.{IsTrue, if◌then◌else◌}
use Rattle.std.proofs.lemmas.Bool.{false≢true}
use Rattle.std.proofs.lemmas.List.{length-append}
use Rattle.std.proofs.lemmas.List.Concat.{flat_map-append}
use Rattle.vo_spec.specs.declared.cells.Cell.{Cell}
use Rattle.vo_spec.specs.declared.cells.Cell.TheVariants.{Hidden, Shown}
use Rattle.vo_spec.specs.declared.values.Value.{Value}
use Rattle.vo_spec.specs.Pruning.{has_column}
use Rattle.vo_spec.specs.Scans.{in_interval}
use Rattle.vo_spec.specs.TreeBytes.{cell_form}
use Rattle.vo_spec.specs.Values.{value_bytes}
use Rattle.tree_stream.specs.declared.context.Context.{Context}
use Rattle.tree_stream.specs.declared.findings.CellFindings.{CellFindings}
use Rattle.tree_stream.specs.declared.target.Target.{Target}
use Rattle.tree_stream.specs.Findings.{cell_findings, columns_at, combine_cells}
use Rattle.tree_stream.specs.Keeping.{ValuesGrow, values_bytes}
use Rattle.tree_stream.specs.Summaries.{is_needed_row}

pub no_more : (needed : Bool) (values : List Value) → ValuesGrow needed values values 0
no_more needed values = record { within = omega arith; needed = inl refl }

also_needed : (needed : Bool) (a b c : List Value) → (b ≡ a) ⊎ IsTrue needed → (c ≡ b) ⊎ IsTrue needed → (c ≡ a) ⊎ IsTrue needed
also_needed needed a b c (inl x) (inl y) = inl (y ∙ x)
also_needed needed a b c (inl x) (inr y) = inr y
also_needed needed a b c (inr x) other = inr x

pub grow_more : (needed : Bool) (a b c : List Value) (m n : ℕ) → ValuesGrow needed a b m → ValuesGrow needed b c n → ValuesGrow needed a c (m + n)
grow_more needed a b c m n x y = record { within = omega (arith, x.within, y.within); needed = also_needed needed a b c x.needed y.needed }

-- a column is named only of a row that is needed
named_needed : (target : Target) (key : List ℕ) (column : ℕ) (inside : Bool) → in_interval target.interval key ≡ inside → has_column (if inside then target.columns else []) column ≡ true → IsTrue inside
named_needed target key column true is named = refl
named_needed target key column false is named = absurd (false≢true named)

values_by : (needed named fits : Bool) (cell : Cell) (old new : List Value) → new ≡ old ++ (cell_findings named fits cell).values → (named ≡ true → IsTrue needed) → ValuesGrow needed old new (length (cell_form cell))
values_by needed named fits (Hidden d) old new is inside =
    let same : new ≡ old = is ∙ append-nil old in
    record { within = omega (arith, ap (λ (v : List Value). length (values_bytes v)) same); needed = inl same }
values_by needed false fits (Shown v) old new is inside =
    let same : new ≡ old = is ∙ append-nil old in
    record { within = omega (arith, ap (λ (v : List Value). length (values_bytes v)) same); needed = inl same }
values_by needed true fits (Shown v) old new is inside =
    let grown : length (values_bytes new) ≡ length (values_bytes old) + length (value_bytes v) =
    ap (λ (t : List Value). length (values_bytes t)) is ∙ ap (λ (t : List ℕ). length t) (mapped_value old v) ∙ length-append (values_bytes old) (value_bytes v) in
    record { within = omega (arith, grown); needed = inr (inside refl) }
  where
    mapped_value : (vs : List Value) (v : Value) → values_bytes (vs ++ v ∷ []) ≡ values_bytes vs ++ value_bytes v
    mapped_value vs v = flat_map-append value_bytes vs (v ∷ []) ∙ ap (λ (t : List ℕ). values_bytes vs ++ t) (append-nil (value_bytes v))

pub values_grown : (context : Context) (column : ℕ) (named fits : Bool) (cell : Cell) (old new : CellFindings) → new ≡ combine_cells old (cell_findings named fits cell)
    → named ≡ has_column (columns_at context.target context.last_key.items) column → ValuesGrow (is_needed_row context) old.values new.values (length (cell_form cell))
values_grown context column named fits cell old new is are =
    values_by (is_needed_row context) named fits cell old.values new.values (ap (λ (f : CellFindings). f.values) is)
    (λ yes. named_needed context.target context.last_key.items column (in_interval context.target.interval context.last_key.items) refl (sym are ∙ yes))
