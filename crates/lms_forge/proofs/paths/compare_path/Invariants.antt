-- So many levels below the root the signature's node is the owner's, and above it the owner's own
-- strings are hashed.
use Rattle.std.proofs.Common.{◌-◌}
use Rattle.vo_spec.specs.LmsSets.{height_of}
use Rattle.lms_forge.proofs.PathLaws.{SameDownTo}
use Rattle.lms_forge.proofs.paths.compare_path.Given as goal

abbrev pub invariant-loop-done : goal.invariant-loop-done
invariant-loop-done l =
    SameDownTo l.tree l.q l.signature l.key (height_of l.tree.lms - l.done)
