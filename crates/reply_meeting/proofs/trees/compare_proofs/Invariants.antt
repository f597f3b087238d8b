use Rattle.std.proofs.Common.{◌≡◌, map, drop}
use Rattle.mb_tree.specs.View.{part_of}
use Rattle.reply_meeting.proofs.ProofSteps.{ProofsLeft}
use Rattle.reply_meeting.proofs.trees.compare_proofs.Given as goal

-- the trees so far are the same: what is left decides for all
abbrev pub invariant-loop-place : goal.invariant-loop-place
invariant-loop-place l =
    ProofsLeft (drop l.place l.needs) (map part_of (drop l.place l.first)) (map part_of (drop l.place l.second)) (map part_of l.first ≡ map part_of l.second)
