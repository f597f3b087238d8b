use Rattle.std.proofs.Common.{◌++◌, ◌∷◌, [], refl, ◌∙◌, arith}
use Rattle.reply_stream.proofs.NeededBytes.{begun_behind, first_begun, needed_behind_count}
use Rattle.reply_stream.proofs.TreesPieces.{count_way, count_and_first_one, count_and_first_none, ok_trees}
use Rattle.reply_stream.proofs.trees_stream.begin_trees.Goals as goal

pub returns-then-count-eq0-clause-ok : goal.returns-then-count-eq0-clause-ok
returns-then-count-eq0-clause-ok c = λ more.
    c.without_trees.ensures.trees more ∙ count_and_first_none c.args.target c.args.count (c.args.behind.now ++ more) (omega (arith, c.if-count-eq0.true))

pub returns-clause-ok : goal.returns-clause-ok
returns-clause-ok c =
    ok_trees c.feed_open.result _ _
    (λ more. count_and_first_one c.args.target c.args.count _ (c.args.behind.now ++ more) c.new.ensures.summary (omega (arith, c.if-count-eq0.false)) refl refl)
    c.feed_open.ensures.ok

pub returns-clause-way : goal.returns-clause-way
returns-clause-way c = λ err.
    count_way c.args.target c.args.count c.new.result c.new.ensures.summary (omega (arith, c.if-count-eq0.false)) (omega (arith, c.ranges.count)) (c.feed_open.ensures.way err)

pub returns-clause-behind : goal.returns-clause-behind
returns-clause-behind c =
    begun_behind c.feed_open.result c.args.target c.args.count c.new.result c.args.behind.now c.new.ensures.target c.new.ensures.behind c.feed_open.ensures.behind

pub returns-clause-memory : goal.returns-clause-memory
returns-clause-memory c = λ err.
    needed_behind_count c.args.target.interval c.args.count c.args.behind.now
    (c.feed_open.ensures.memory err c.args.target (c.args.count ∷ []) (first_begun c.args.target c.args.count c.new.result c.new.ensures.target c.new.ensures.behind))
