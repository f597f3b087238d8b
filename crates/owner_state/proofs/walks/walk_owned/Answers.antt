use Rattle.std.proofs.Common.{◌≡◌, Err, ap}
use Rattle.owner_state.specs.declared.journals.JournalReadFault.TheVariants.{BadAt}
use Rattle.owner_state.proofs.walks.walk_owned.Goals as goal

pub returns-in-Err-clause-bad : goal.returns-in-Err-clause-bad
returns-in-Err-clause-bad c = λ index is.
    let same : c.in-Err.fault ≡ BadAt index = cc in
    c.in-Err.ensures.bad index (ap Err same)
