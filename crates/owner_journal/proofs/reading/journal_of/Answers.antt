use Rattle.std.proofs.Common.{◌≡◌, List, take, ap, sym, ◌∙◌}
use Rattle.owner_journal.proofs.TakingLaws.{cut_gate, cut_short}
use Rattle.owner_journal.proofs.reading.journal_of.Goals as goal

pub invariant_of-result-clause-at : goal.invariant_of-result-clause-at
invariant_of-result-clause-at c =
    let gate = c.in_ok-measured.measured.gate in
    cut_gate c.deref.result.now c.in_ok-measured.measured.counts.items c.truncate.new.self.items gate c.in_ok-measured.ensures.found
    (c.truncate.ensures.items ∙ ap (take gate) (sym c.deref.ensures.value)) c.in_ok-entries.entries.items c.in_ok-entries.ensures

pub invariant_of-result-clause-short : goal.invariant_of-result-clause-short
invariant_of-result-clause-short c =
    let gate = c.in_ok-measured.measured.gate in
    cut_short c.deref.result.now c.in_ok-measured.measured.counts.items c.truncate.new.self.items gate c.in_ok-measured.ensures.found
    (c.truncate.ensures.items ∙ ap (take gate) (sym c.deref.ensures.value)) c.in_ok-entries.entries.items c.in_ok-entries.ensures
