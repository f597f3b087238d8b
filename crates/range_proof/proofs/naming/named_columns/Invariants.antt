use Rattle.std.proofs.Common.{◌≡◌, ◌++◌, map, drop}
use Rattle.vo_spec.specs.Pruning.{needed_columns}
use Rattle.range_proof.specs.Lending.{lent_need}
use Rattle.range_proof.proofs.naming.named_columns.Given as goal

-- with what the needs to come name, these are all
abbrev pub invariant-loop-need : goal.invariant-loop-need
invariant-loop-need l =
    l.columns.items ++ needed_columns (map lent_need (drop l.need-index l.needs)) l.key ≡ needed_columns (map lent_need l.needs) l.key
