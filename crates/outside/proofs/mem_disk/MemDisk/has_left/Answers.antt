use Rattle.std.proofs.Common.{◌≡◌, ◌<◌, ◌≤◌, length, arith, sym, ap, subst, ◌∙◌}
use Rattle.std.proofs.lemmas.Bool.{false≢true}
use Rattle.outside.specs.DiskModel.{Down, IsImage}
use Rattle.outside.proofs.ReplayLaws.{left_at, never_left, replay_on, none_on}
use Rattle.outside.proofs.mem_disk.MemDisk.has_left.Goals as goal

pub returns-then-leaves-clause-yes : goal.returns-then-leaves-clause-yes
returns-then-leaves-clause-yes g c =
    let disk = c.args.self.now in
    let is = c.leaves.ensures.0 c.if-leaves.true in
    λ _. left_at disk.seen.items disk.first.items disk.log.items c.args.image.now disk.done.items c.args.since c.loop-moment.moment is.0 (omega arith)
    (subst (λ (d : Down). IsImage d c.args.image.now) c.loop-moment.invariant.at.down is.1)

pub loop-moment-preserved : goal.loop-moment-preserved
loop-moment-preserved g c =
    let disk = c.args.self.now in
    let done = disk.done.items in
    let log = disk.log.items in
    let first = disk.first.items in
    let i = c.loop-moment.moment in
    let at = c.loop-moment.invariant.at in
    let long : i < length done = omega arith in
    let same = rw (c.deref-one-items.ensures.value, c.deref-in-loop-moment.ensures.value) at c.in_ok-step.ensures.seen in
    let down = rw c.deref-one-items.ensures.value at c.in_ok-step.ensures.down in
    record {
      at = replay_on log first done i _ c.loop-moment.replay.seen.items c.step.new.self.seen.items _ _ long at same down;
      none = none_on log first c.args.image.now done c.args.since i _ at.down (λ is. absurd (false≢true (sym c.if-leaves.false ∙ c.leaves.ensures.1 is))) c.loop-moment.invariant.none;
    }

pub returns-then-leaves-2-clause-yes : goal.returns-then-leaves-2-clause-yes
returns-then-leaves-2-clause-yes g c =
    let disk = c.args.self.now in
    let is = c.leaves-2.ensures.0 c.if-leaves-2.true in
    let all = ap length c.deref-one-items.ensures.value in
    let low : c.args.since ≤ c.loop-moment.moment = omega (arith, is.0, all, c.len.ensures, disk.done.ok) in
    let high : c.loop-moment.moment ≤ length disk.done.items = omega (arith, all) in
    λ _. left_at disk.seen.items disk.first.items disk.log.items c.args.image.now disk.done.items c.args.since c.loop-moment.moment low high
    (subst (λ (d : Down). IsImage d c.args.image.now) c.loop-moment.invariant.at.down is.1)

pub returns-clause-no : goal.returns-clause-no
returns-clause-no g c =
    let disk = c.args.self.now in
    let all = ap length c.deref-one-items.ensures.value in
    let end : length disk.done.items ≡ c.loop-moment.moment = omega (arith, all) in
    let len : c.len.result ≡ c.loop-moment.moment = omega (arith, all, c.len.ensures, disk.done.ok) in
    λ _. never_left disk.seen.items disk.first.items disk.log.items c.args.image.now disk.done.items c.args.since
    (λ m low high is. none_on disk.log.items disk.first.items c.args.image.now disk.done.items c.args.since c.loop-moment.moment _ c.loop-moment.invariant.at.down
    (λ here. absurd (false≢true (sym c.if-leaves-2.false ∙ c.leaves-2.ensures.1 (omega (arith, len, here.0), here.1)))) c.loop-moment.invariant.none m low (omega (arith, end, high)) is)
