use Rattle.vo_laws.proofs.EntryLaws.{entry_held, held_record, batches_fit, all_fit, fit_at, stand_at}
use Rattle.vo_laws.proofs.journals.journals_hold_honest_records.Goals as goal

pub returns : goal.returns
returns c = record {
  record_is = λ key es version e all found. (entry_held key es version e all found).record_is;
  signed = λ key es version e all found. (entry_held key es version e all found).signed;
  held = held_record;
  batches_fit = batches_fit;
  all_fit = all_fit;
  fit_at = fit_at;
  stand_at = stand_at;
}
