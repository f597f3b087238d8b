use Rattle.std.proofs.Common.{arith, length, []}
use Rattle.outside.specs.Replay.{down_of, onto}
use Rattle.outside.proofs.LostBytes.{joined_image}
use Rattle.outside.proofs.Replays.{furthest_from}
use Rattle.outside.proofs.mem_disk.replay.Replay.image.Goals as goal

pub extend-requires : goal.extend-requires
extend-requires c =
    omega (arith, furthest_from (length c.args.self.now.contents.items) (onto [] c.args.self.now.writes.items), c.in_ok-image.ensures.length)

pub returns : goal.returns
returns c =
    joined_image (down_of c.args.self.now) c.args.lost.now c.in_ok-image.image.items c.extend.new.image.items c.min.result (omega arith)
    c.in_ok-image.ensures.length c.in_ok-image.ensures.bytes c.in_ok-extend.ensures
