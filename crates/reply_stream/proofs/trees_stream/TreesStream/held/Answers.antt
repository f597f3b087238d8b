use Rattle.std.proofs.Common.{◌≡◌, ◌-◌, ◌^◌, ap, arith, subst}
use Rattle.std.specs.Prelude.{min}
use Rattle.std.proofs.lemmas.Grind.{common_steps}
use Rattle.std.proofs.Math.Nat.{min-le_left}
use Rattle.reply_stream.specs.declared.trees_state.TreesState.{TreesState}
use Rattle.reply_stream.specs.ReplyTrees.{IsStateBehind, held_at}
use Rattle.reply_stream.specs.TreesStreams.{held_in}
use Rattle.reply_stream.proofs.KeptRows.{found_held, open_held}
use Rattle.reply_stream.proofs.trees_stream.TreesStream.held.Goals as goal

pub returns-in-Tree-clause-within : goal.returns-in-Tree-clause-within
returns-in-Tree-clause-within c = λ target bytes behind.
    let P : TreesState → Type 0 = λ state. IsStateBehind target state bytes in
    open_held target c.in-Tree.tree bytes c.saturating_add.result
    (grind (arith, min-le_left, c.saturating_add.ensures, c.first_held.ensures, c.held.ensures.count)) (subst P c.in-Tree.is behind)

pub returns-in-Tree-clause-found : goal.returns-in-Tree-clause-found
returns-in-Tree-clause-found c = λ summary is.
    let counted : c.saturating_add.result ≡ min (held_in c.args.self.now) (2 ^ 64 - 1) = grind (arith, common_steps) in
    omega (arith, counted, found_held c.args.self.now.state summary is)

pub returns-in-Count-clause-found : goal.returns-in-Count-clause-found
returns-in-Count-clause-found c = λ summary is.
    omega (arith, found_held c.args.self.now.state summary is, ap held_at c.in-Count.is)

pub returns-in-Empty-clause-found : goal.returns-in-Empty-clause-found
returns-in-Empty-clause-found c = λ summary is.
    omega (arith, found_held c.args.self.now.state summary is, ap held_at c.in-Empty.is)

pub returns-in-Invalid-clause-found : goal.returns-in-Invalid-clause-found
returns-in-Invalid-clause-found c = λ summary is.
    omega (arith, found_held c.args.self.now.state summary is, ap held_at c.in-Invalid.is)
