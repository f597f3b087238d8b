use Rattle.std.proofs.Common.{◌≡◌, ℕ, Bool, List, [], ◌∷◌, ◌++◌, sym, ap, ◌∙◌, Result, Ok, Err}
use Rattle.std.specs.Prelude.{◌||◌, ◌&&◌, if◌then◌else◌, OnOk}
use Rattle.std.specs.declared.alloc.AllocError.{AllocError}
use Rattle.vo_spec.specs.Checks.{is_key_of}
use Rattle.vo_spec.specs.Scans.{in_interval}
use Rattle.vo_spec.specs.declared.needs.SeenRow.{SeenRow}
use Rattle.tree_stream.specs.declared.findings.CellFindings.{CellFindings}
use Rattle.tree_stream.specs.declared.findings.Findings.{Findings}
use Rattle.tree_stream.specs.declared.target.Target.{Target}
use Rattle.tree_stream.specs.Findings.{combine, entry_findings_by}
use Rattle.tree_stream.proofs.accumulate.add_entry.Goals as goal

abbrev with_cells : Findings → CellFindings → Bool → List SeenRow → Findings
with_cells f found fits rows = record {
  is_missing = f.is_missing || found.is_missing;
  has_surplus = f.has_surplus || found.has_surplus;
  has_shape = f.has_shape && (fits && found.has_shape);
  rows = rows;
}

abbrev seen : Bool → List ℕ → CellFindings → List SeenRow
seen is_seen key found = if is_seen then record { key = key; values = found.values } ∷ [] else []

is_sum : (r : Result (Unit {0}) AllocError) (f : Findings) (target : Target) (key : List ℕ) (found : CellFindings) (fits is_seen : Bool) (rows : List SeenRow)
    → fits ≡ is_key_of target.key_kind key → is_seen ≡ in_interval target.interval key → OnOk r (rows ≡ f.rows ++ seen is_seen key found)
    → OnOk r (with_cells f found fits rows ≡ combine f (entry_findings_by target key found))
is_sum (Ok done) f target key found fits is_seen rows fit inside sum =
    ap (with_cells f found fits) (sum ∙ ap (λ (b : Bool). f.rows ++ seen b key found) inside) ∙ ap (λ (b : Bool). with_cells f found b (f.rows ++ seen (in_interval target.interval key) key found)) fit
is_sum (Err e) f target key found fits is_seen rows fit inside sum = tt

pub returns-clause-sum : goal.returns-clause-sum
returns-clause-sum c =
    is_sum c.keep_row.result c.args.findings.now c.args.target.now c.args.key.now c.args.found c.is_key_of.result c.in_interval-is_seen.result c.keep_row.new.rows
    c.is_key_of.ensures c.in_interval-is_seen.ensures c.keep_row.ensures.sum

pub returns-clause-memory : goal.returns-clause-memory
returns-clause-memory c = λ err. sym c.in_interval-is_seen.ensures ∙ c.keep_row.ensures.memory err
