use Rattle.round_trips.proofs.Entries.{replied}
use Rattle.round_trips.proofs.TripLaws.{answer_is, audited, checked, only_exact, read}
use Rattle.round_trips.proofs.sealed_batches_are_read_back.Goals as goal

pub returns : goal.returns
returns c = record { replied = replied; read = read; answer = answer_is; checked = checked; exact = only_exact; audited = audited }
