use Rattle.std.proofs.Common.{◌≡◌, take}
use Rattle.vo_world.specs.Steps.{gain_records}
use Rattle.vo_world.specs.WorldModel.{records_of}
use Rattle.vo_world.proofs.releasing.gain.Given as goal

abbrev pub invariant-loop-entry : goal.invariant-loop-entry
invariant-loop-entry l =
    l.gained.items ≡ gain_records l.fn.released (records_of (take l.entry-index l.entries))
