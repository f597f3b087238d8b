use Rattle.std.proofs.Common.{◌≡◌, true, List, Err, ap, subst, length}
use Rattle.std.proofs.lemmas.Result.{err_from_is_err_and}
use Rattle.vo_spec.specs.declared.records.Entry.{Entry}
use Rattle.vo_spec.specs.Owners.{FailsAt}
use Rattle.owner_roots.specs.Owners.{AreOwned, IsBadAt, IsOwned}
use Rattle.owner_state.specs.declared.journals.JournalReadFault.TheVariants.{BadAt}
use Rattle.owner_state.specs.Walking.{StopsAt}
use Rattle.owner_state.proofs.SlotLaws.{AreSlots, fails_behind, fails_inside, not_whole, whole}
use Rattle.owner_state.proofs.journals.read_owned.Goals as goal

pub returns-then-not-is_whole-clause-bad : goal.returns-then-not-is_whole-clause-bad
unfolding IsBadAt
returns-then-not-is_whole-clause-bad c =
    let es : List Entry = c.in_ok-slots.slots.entries in
    let slots : AreSlots c.args.journal.now es = record { begins = c.in_ok-slots.ensures.begins; only = λ fs b. c.in_ok-slots.ensures.only fs b } in
    λ index e.
    let same : length es ≡ index = cc in
    subst (FailsAt (AreOwned c.args.key.now) c.args.journal.now) same
    (fails_behind (AreOwned c.args.key.now) c.args.journal.now es slots (subst (AreOwned c.args.key.now) c.as_slice.ensures c.in_ok-walked.ensures.owned)
    (not_whole (AreOwned c.args.key.now) c.args.journal.now es c.in_ok-slots.slots.ending c.in_ok-slots.ensures.ending (λ w. let t = c.is_whole.ensures.1 w in absurd (cc))))

pub returns-clause-owned : goal.returns-clause-owned
unfolding IsOwned
returns-clause-owned c =
    let true_is : c.is_whole.result ≡ true = cc in
    whole (AreOwned c.args.key.now) c.args.journal.now c.in_ok-slots.slots.entries c.in_ok-slots.slots.ending c.in_ok-slots.ensures.ending (c.is_whole.ensures.0 true_is)
    (subst (AreOwned c.args.key.now) c.as_slice.ensures c.in_ok-walked.ensures.owned)

pub returns-in_err-walked-clause-bad : goal.returns-in_err-walked-clause-bad
unfolding IsBadAt
returns-in_err-walked-clause-bad c =
    let es : List Entry = c.in_ok-slots.slots.entries in
    let slots : AreSlots c.args.journal.now es = record { begins = c.in_ok-slots.ensures.begins; only = λ fs b. c.in_ok-slots.ensures.only fs b } in
    let left = err_from_is_err_and c.from_residual-in_err-walked.result c.from_residual-in_err-walked.ensures.1 in
    λ index e.
    let same : c.in_err-walked.field-0.0 ≡ BadAt index = cc in
    fails_inside (AreOwned c.args.key.now) c.args.journal.now es index slots
    (subst (λ (xs : List Entry). StopsAt (AreOwned c.args.key.now) xs index) c.as_slice.ensures (c.in_err-walked.ensures.bad index (ap Err same)))
