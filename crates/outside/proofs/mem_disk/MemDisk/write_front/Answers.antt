use Rattle.std.proofs.Common.{arith, refl, length}
use Rattle.std.proofs.lemmas.Grind.{common_steps}
use Rattle.outside.proofs.LogLaws.{seen_write, within_put}
use Rattle.outside.proofs.mem_disk.MemDisk.write_front.Goals as goal

pub invariant_of-self-clause-kept : goal.invariant_of-self-clause-kept
invariant_of-self-clause-kept g c =
    let written = c.overwrite.ensures.items in
    let same = c.args.self.now.kept in
    let more = seen_write c.args.self.now.first.items c.args.self.now.log.items c.args.front.now c.args.self.now.done.items c.args.at c.args.lost c.args.self.now.within in
    grind (arith, common_steps, written, same, more)

pub invariant_of-self-clause-within : goal.invariant_of-self-clause-within
invariant_of-self-clause-within g c =
    within_put c.args.self.now.log.items c.args.front.now c.extend_from_slice.new.self.items c.args.self.now.done.items c.push.new.self.items
    c.args.at c.len-from.result (length c.args.front.now) c.args.lost c.args.self.now.within
    (grind (arith, common_steps)) refl (grind (arith, common_steps)) (grind (arith, common_steps))
