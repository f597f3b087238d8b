-- A comparison of the program's, as a condition.
use Rattle.std.proofs.Common.{◌≡◌, sym, ap, ◌∙◌}
use Rattle.vo_spec.specs.declared.queries.Ref.{Ref}
use Rattle.vo_spec.specs.declared.queries.Cmp.{Cmp}
use Rattle.vo_spec.specs.declared.queries.Operand.{Operand}
use Rattle.vo_spec.specs.declared.queries.Cond.{fold-roll-Cond}
use Rattle.vo_spec.specs.declared.queries.Cond.TheVariants as cond_of
use Rattle.vo_spec.specs.Conditions.{test, comparison, condition_of}

pub comparison_seen : (left : Ref) (op : Cmp) (right : Operand) → condition_of (cond_of.Test left op right) ≡ test (comparison left op right)
comparison_seen left op right = ap condition_of (sym (cond_of.rolls-Test left op right)) ∙ search fold-roll-Cond
