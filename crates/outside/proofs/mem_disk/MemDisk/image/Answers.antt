use Rattle.std.proofs.Common.{◌≡◌, ◌<◌, ◌≤◌, length, inl, inr, arith, ap, subst, ◌∙◌, IfOk}
use Rattle.std.proofs.lemmas.Result.{IfOk-weaker}
use Rattle.outside.specs.DiskModel.{Down, IsImageWith}
use Rattle.outside.proofs.LostBytes.{image_with}
use Rattle.outside.proofs.ReplayLaws.{replay_on, crashed_by}
use Rattle.outside.proofs.mem_disk.MemDisk.image.Goals as goal

pub loop-place-preserved : goal.loop-place-preserved
loop-place-preserved g c =
    let disk = c.args.self.now in
    let done = disk.done.items in
    let i = c.loop-place.place in
    let at = c.loop-place.invariant.at in
    let long : i < length done = omega arith in
    let same = rw (c.deref-one-items.ensures.value, c.deref-in-loop-place.ensures.value) at c.in_ok-step.ensures.seen in
    let down = rw c.deref-one-items.ensures.value at c.in_ok-step.ensures.down in
    record {
      at = replay_on disk.log.items disk.first.items done i _ c.loop-place.replay.seen.items c.step.new.self.seen.items _ _ long at same down;
      before = omega arith;
    }

pub returns-then-place-moment : goal.returns-then-place-moment
returns-then-place-moment g c =
    let disk = c.args.self.now in
    let here : c.loop-place.place ≡ c.args.moment = omega arith in
    let at = c.loop-place.invariant.at.down ∙ crashed_by disk.seen.items disk.first.items disk.log.items disk.done.items c.loop-place.place c.args.moment (inl here) in
    let lost = subst (λ (d : Down). IfOk c.image.result (λ image. IsImageWith d c.args.lost.now image.items)) at c.image.ensures in
    record { image = IfOk-weaker c.image.result _ _ (λ image. image_with _ c.args.lost.now image.items) lost; lost = lost }

pub returns : goal.returns
returns g c =
    let disk = c.args.self.now in
    let all = ap length c.deref-one-items.ensures.value in
    let past : length disk.done.items ≤ c.loop-place.place = omega (arith, all) in
    let at =
    c.loop-place.invariant.at.down
    ∙ crashed_by disk.seen.items disk.first.items disk.log.items disk.done.items c.loop-place.place c.args.moment (inr (past, c.loop-place.invariant.before)) in
    let lost = subst (λ (d : Down). IfOk c.image-2.result (λ image. IsImageWith d c.args.lost.now image.items)) at c.image-2.ensures in
    record { image = IfOk-weaker c.image-2.result _ _ (λ image. image_with _ c.args.lost.now image.items) lost; lost = lost }
