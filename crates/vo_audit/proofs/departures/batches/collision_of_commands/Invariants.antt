use Rattle.std.proofs.Common.{map, drop}
use Rattle.mb_tree.specs.View.{part_of}
use Rattle.vo_audit.proofs.LeftCommands.{AreLeft}
use Rattle.vo_audit.proofs.departures.batches.collision_of_commands.Given as goal

-- what shows of the commands that are left shows of all
abbrev pub invariant-loop-command : goal.invariant-loop-command
invariant-loop-command l =
    AreLeft (drop l.command-index l.commands) (map part_of l.left) l.current l.commands (map part_of l.trees) l.tables
