-- Findings add up in any grouping, and no findings add nothing.
use Rattle.std.proofs.Common.{◌≡◌, Bool, true, false, ◌||◌, ◌&&◌, refl, append_assoc, append-nil}
use Rattle.tree_stream.specs.declared.findings.Findings.{Findings}
use Rattle.tree_stream.specs.declared.findings.CellFindings.{CellFindings}
use Rattle.tree_stream.specs.Findings.{no_findings, combine, no_cell_findings, combine_cells}

pub or_false : (b : Bool) → (b || false) ≡ b
or_false true = refl
or_false false = refl

pub or_assoc : (a b c : Bool) → ((a || b) || c) ≡ (a || (b || c))
or_assoc true b c = refl
or_assoc false b c = refl

pub and_true : (b : Bool) → (b && true) ≡ b
and_true true = refl
and_true false = refl

pub and_assoc : (a b c : Bool) → ((a && b) && c) ≡ (a && (b && c))
and_assoc true b c = refl
and_assoc false b c = refl

pub combine_none : (f : Findings) → combine f no_findings ≡ f
combine_none f = λ i. record {
  is_missing = or_false f.is_missing i;
  has_surplus = or_false f.has_surplus i;
  has_shape = and_true f.has_shape i;
  rows = append-nil f.rows i;
}

pub combine_assoc : (f g h : Findings) → combine (combine f g) h ≡ combine f (combine g h)
combine_assoc f g h = λ i. record {
  is_missing = or_assoc f.is_missing g.is_missing h.is_missing i;
  has_surplus = or_assoc f.has_surplus g.has_surplus h.has_surplus i;
  has_shape = and_assoc f.has_shape g.has_shape h.has_shape i;
  rows = append_assoc f.rows g.rows h.rows i;
}

pub combine_cells_none : (f : CellFindings) → combine_cells f no_cell_findings ≡ f
combine_cells_none f = λ i. record {
  is_missing = or_false f.is_missing i;
  has_surplus = or_false f.has_surplus i;
  has_shape = and_true f.has_shape i;
  values = append-nil f.values i;
}

pub combine_cells_assoc : (f g h : CellFindings)
    → combine_cells (combine_cells f g) h ≡ combine_cells f (combine_cells g h)
combine_cells_assoc f g h = λ i. record {
  is_missing = or_assoc f.is_missing g.is_missing h.is_missing i;
  has_surplus = or_assoc f.has_surplus g.has_surplus h.has_surplus i;
  has_shape = and_assoc f.has_shape g.has_shape h.has_shape i;
  values = append_assoc f.values g.values h.values i;
}
