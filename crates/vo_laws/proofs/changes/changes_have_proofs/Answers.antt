use Rattle.vo_laws.proofs.UpdateProofLaws.{insertion_proved, replacement_proved, removal_proved, insertion_works, replacement_works, removal_works}
use Rattle.vo_laws.proofs.changes.changes_have_proofs.Goals as goal

pub returns : goal.returns
returns c = record {
  insertion = insertion_proved;
  replacement = replacement_proved;
  removal = removal_proved;
  inserted = insertion_works;
  replaced = replacement_works;
  removed = removal_works;
}
