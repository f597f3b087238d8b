use Rattle.vo_laws.proofs.SealedLaws.{signatures_short, sealed_entry_fits, sealed_fit, sealed_entry_is_loadable, sealed_are_loadable, sealed_are_signed, sealed_grows, batches_sealed}
use Rattle.vo_laws.proofs.journals.sealed_entries_are_loadable.Goals as goal

pub returns : goal.returns
returns c = record {
  signatures_short = signatures_short;
  entry_fits = sealed_entry_fits;
  entries_fit = sealed_fit;
  entry_is_loadable = sealed_entry_is_loadable;
  loadable = sealed_are_loadable;
  signed = sealed_are_signed;
  grows = sealed_grows;
  batches = batches_sealed;
}
