use Rattle.std.proofs.Common.{◌+◌, map, drop, sym, ap, ◌∙◌, subst}
use Rattle.std.proofs.lemmas.List.{drop-map}
use Rattle.mb_tree.specs.View.{part_of}
use Rattle.owner_roots.specs.Next.{trees_taken}
use Rattle.root_laws.specs.Following.{TakesPart}
use Rattle.vo_audit.specs.Evidence.{AreHashedBy}
use Rattle.vo_audit.proofs.LeftCommands.{AreLeft, next_left, left_followed, left_after, none_found}
use Rattle.vo_audit.proofs.departures.batches.collision_of_commands.Goals as goal

pub compare_taken-requires-clause-fits : goal.compare_taken-requires-clause-fits
compare_taken-requires-clause-fits c = c.loop-command.invariant.trees_fit

pub compare_taken-requires-clause-followed : goal.compare_taken-requires-clause-followed
compare_taken-requires-clause-followed c =
    let i = c.loop-command.command-index in
    let left = map part_of c.loop-command.left.now in
    left_followed c.command-item.result (drop (i + 1) c.args.commands.now) left c.loop-command.current c.args.commands.now (map part_of c.args.trees.now) c.args.tables.now
    (next_left c.args.commands.now i c.command-item.result left c.loop-command.current c.args.commands.now (map part_of c.args.trees.now) c.args.tables.now
    c.loop-command-test.true c.command-item.is c.loop-command.invariant)

pub tables_after_command-requires-clause-followed : goal.tables_after_command-requires-clause-followed
tables_after_command-requires-clause-followed c =
    let i = c.loop-command.command-index in
    let left = map part_of c.loop-command.left.now in
    left_followed c.command-item.result (drop (i + 1) c.args.commands.now) left c.loop-command.current c.args.commands.now (map part_of c.args.trees.now) c.args.tables.now
    (next_left c.args.commands.now i c.command-item.result left c.loop-command.current c.args.commands.now (map part_of c.args.trees.now) c.args.tables.now
    c.loop-command-test.true c.command-item.is c.loop-command.invariant)

pub loop-command-preserved : goal.loop-command-preserved
loop-command-preserved c =
    let i = c.loop-command.command-index in
    let item = c.command-item.result in
    let commands = c.args.commands.now in
    let left = map part_of c.loop-command.left.now in
    let current = c.loop-command.current in
    let new = c.in_ok-current-2.current in
    let part : TakesPart item left current = none_found c.in_ok-found.found (TakesPart item left current) (AreHashedBy item left current) c.in_default.is c.in_ok-found.ensures in
    let after : AreLeft (drop (i + 1) commands) (drop (trees_taken item) left) new commands (map part_of c.args.trees.now) c.args.tables.now =
    left_after item (drop (i + 1) commands) left current commands (map part_of c.args.trees.now) c.args.tables.now
    (next_left commands i item left current commands (map part_of c.args.trees.now) c.args.tables.now c.loop-command-test.true c.command-item.is c.loop-command.invariant)
    new part c.in_ok-current-2.ensures in
    subst (λ ts. AreLeft (drop (i + 1) commands) ts new commands (map part_of c.args.trees.now) c.args.tables.now)
    (drop-map part_of (trees_taken item) c.loop-command.left.now ∙ ap (map part_of) (sym c.trees_after-left.ensures)) after
