use Rattle.std.proofs.Common.{List, ℕ, ◌++◌, subst, sym, ◌∙◌, arith}
use Rattle.std.specs.Prelude.{IfOk}
use Rattle.tree_stream.specs.Machines.{Advances, StopsInRow, summary_of_machine}
use Rattle.tree_stream.specs.Summaries.{CanEnd}
use Rattle.tree_stream.proofs.PieceLaws.{ends_later, ok_advances, ok_ends, left_is_taken, way_behind, stops_later, no_length}
use Rattle.tree_stream.proofs.pieces.feed_piece.Goals as goal

pub returns-clause-all : goal.returns-clause-all
returns-clause-all c = left_is_taken _ c.fill.new.partial.items c.in_ok-left.left.now (sym c.is_empty-2.ensures ∙ c.if-is_empty-2.false) c.in_ok-left.ensures.all

pub returns-then-is_empty-2-clause-ok : goal.returns-then-is_empty-2-clause-ok
returns-then-is_empty-2-clause-ok c =
    ok_advances c.feed_whole-then-is_empty-2.result c.args.machine.now c.fill.new.machine c.feed_whole-then-is_empty-2.new.machine (c.args.partial.now.items ++ c.args.piece.now) c.fill.new.partial.items c.in_ok-left.left.now c.feed_whole-then-is_empty-2.new.partial.items
    (no_length c.fill.new.partial.items (sym c.is_empty-2.ensures ∙ c.if-is_empty-2.true)) c.in_ok-left.ensures.ok c.feed_whole-then-is_empty-2.ensures.ok

pub returns-then-is_empty-2-clause-way : goal.returns-then-is_empty-2-clause-way
returns-then-is_empty-2-clause-way c = λ err.
    way_behind c.args.machine.now c.fill.new.machine c.args.partial.now.items c.args.piece.now c.fill.new.partial.items c.in_ok-left.left.now (λ i. omega (arith, c.type_inv.piece i))
    (no_length c.fill.new.partial.items (sym c.is_empty-2.ensures ∙ c.if-is_empty-2.true)) c.in_ok-left.ensures.ok c.in_ok-left.ensures.behind (c.feed_whole-then-is_empty-2.ensures.way err)

pub returns-then-is_empty-2-clause-memory : goal.returns-then-is_empty-2-clause-memory
returns-then-is_empty-2-clause-memory c = λ err.
    stops_later c.args.machine.now c.fill.new.machine c.args.partial.now.items c.args.piece.now c.fill.new.partial.items c.in_ok-left.left.now
    (no_length c.fill.new.partial.items (sym c.is_empty-2.ensures ∙ c.if-is_empty-2.true)) c.in_ok-left.ensures.ok c.in_ok-left.ensures.behind c.fill.ensures.target (c.feed_whole-then-is_empty-2.ensures.memory err)

pub feed_whole-requires : goal.feed_whole-requires
feed_whole-requires c = no_length c.args.partial.now.items (sym c.is_empty.ensures ∙ c.if-is_empty.true)

pub returns-then-is_empty-clause-ok : goal.returns-then-is_empty-clause-ok
returns-then-is_empty-clause-ok c =
    let P : List ℕ → Type 0 = λ partial. IfOk c.feed_whole.result (λ left. Advances c.args.machine.now c.feed_whole.new.machine (partial ++ c.args.piece.now) (c.feed_whole.new.partial.items ++ left.now)) in
    subst P (sym (no_length c.args.partial.now.items (sym c.is_empty.ensures ∙ c.if-is_empty.true))) c.feed_whole.ensures.ok

pub returns-then-is_empty-clause-way : goal.returns-then-is_empty-clause-way
returns-then-is_empty-clause-way c = λ err.
    let P : List ℕ → Type 0 = λ partial. CanEnd (λ rest. summary_of_machine c.args.machine.now (partial ++ rest)) in
    subst P (sym (no_length c.args.partial.now.items (sym c.is_empty.ensures ∙ c.if-is_empty.true))) (c.feed_whole.ensures.way err)

pub returns-then-is_empty-clause-memory : goal.returns-then-is_empty-clause-memory
returns-then-is_empty-clause-memory c = λ err.
    let P : List ℕ → Type 0 = λ partial. StopsInRow c.args.machine.now partial c.args.piece.now in
    subst P (sym (no_length c.args.partial.now.items (sym c.is_empty.ensures ∙ c.if-is_empty.true))) (c.feed_whole.ensures.memory err)

pub feed_whole-requires-then-is_empty-2 : goal.feed_whole-requires-then-is_empty-2
feed_whole-requires-then-is_empty-2 c = no_length c.fill.new.partial.items (sym c.is_empty-2.ensures ∙ c.if-is_empty-2.true)

pub returns-then-is_empty-clause-behind : goal.returns-then-is_empty-clause-behind
returns-then-is_empty-clause-behind c = ok_ends c.feed_whole.result c.args.machine.now c.feed_whole.new.machine c.args.piece.now c.feed_whole.new.partial.items c.feed_whole.ensures.ok

pub returns-then-is_empty-2-clause-behind : goal.returns-then-is_empty-2-clause-behind
returns-then-is_empty-2-clause-behind c =
    ends_later c.feed_whole-then-is_empty-2.result c.args.piece.now c.in_ok-left.left.now c.in_ok-left.ensures.behind
    (ok_ends c.feed_whole-then-is_empty-2.result c.fill.new.machine c.feed_whole-then-is_empty-2.new.machine c.in_ok-left.left.now c.feed_whole-then-is_empty-2.new.partial.items c.feed_whole-then-is_empty-2.ensures.ok)
