use Rattle.std.proofs.Common.{subst}
use Rattle.tree_stream.specs.declared.findings.Summary.{Summary}
use Rattle.reply_stream.specs.ReplyTrees.{IsTreeBehind}
use Rattle.reply_stream.proofs.KeptRows.{took_all, took_more, tree_fed}
use Rattle.reply_stream.proofs.NeededBytes.{first_alone, needed_in_first}
use Rattle.std.proofs.Common.{List, ℕ, Option, ◌++◌, refl, sym, ap, ◌∙◌}
use Rattle.row_bytes.specs.Fields.{whole}
use Rattle.reply_stream.specs.ReplyTrees.{rest_of_open}
use Rattle.reply_stream.proofs.TreesPieces.{empty_is, fed, longer_some, some_is_not}
use Rattle.reply_stream.proofs.trees_stream.feed_trees.Goals as goal

pub returns-then-not-next_tree-clause-ok : goal.returns-then-not-next_tree-clause-ok
returns-then-not-next_tree-clause-ok c = λ more.
    let left = c.trees.left.now in
    ap whole (sym (c.trees.invariant.each more ∙ fed c.args.tree.now _ c.args.piece.now c.in_ok-left.left.now c.in_ok-left.ensures.ok refl refl refl more))
    ∙ c.next_tree.ensures.last c.if-not-next_tree.true (left ++ more)
    (longer_some left more (some_is_not left (sym c.is_empty.ensures ∙ c.trees-test.true)))

pub trees-preserved : goal.trees-preserved
trees-preserved c = record {
  each = λ more.
      fed c.next_tree.new.tree _ c.trees.left.now c.in_ok-left-2.left.now c.in_ok-left-2.ensures.ok refl refl refl more
      ∙ c.next_tree.ensures.next c.if-not-next_tree.false (c.trees.left.now ++ more)
      ∙ c.trees.invariant.each more;
  took = λ target bytes behind.
      let begun = c.trees.invariant.took target bytes behind in
      took_more target c.next_tree.new.tree.first c.feed-in-trees.new.self bytes _ c.trees.left.now c.in_ok-left-2.left.now begun.0 begun.1
      (tree_fed target c.next_tree.new.tree.first c.next_tree.new.tree.stream c.feed-in-trees.new.self (bytes ++ begun.0) c.trees.left.now c.in_ok-left-2.left.now
      (c.next_tree.ensures.behind c.if-not-next_tree.false target (bytes ++ begun.0) begun.2) c.feed-in-trees.ensures.target c.in_ok-left-2.ensures.behind);
  settled = c.in_ok-left-2.ensures.all;
}

pub returns-clause-ok : goal.returns-clause-ok
returns-clause-ok c = λ more.
    let left = c.trees.left.now in
    ap (λ (bytes : List ℕ). rest_of_open c.trees.tree (bytes ++ more)) (sym (empty_is left (sym c.is_empty.ensures ∙ c.trees-test.false)))
    ∙ c.trees.invariant.each more
    ∙ fed c.args.tree.now _ c.args.piece.now c.in_ok-left.left.now c.in_ok-left.ensures.ok refl refl refl more

pub returns-in_err-left-clause-memory : goal.returns-in_err-left-clause-memory
returns-in_err-left-clause-memory c = λ err target bytes behind.
    let P : Option Summary → Type 0 = λ first. IsTreeBehind target first c.args.tree.now.stream bytes in
    let first = subst P (first_alone c.args.tree.now c.in_err-left.ensures.quiet) behind in
    needed_in_first target c.args.tree.now.stream bytes c.args.piece.now first (c.in_err-left.ensures.memory refl)

pub returns-clause-behind : goal.returns-clause-behind
returns-clause-behind c = λ is target bytes behind.
    let fed = tree_fed target c.args.tree.now.first c.args.tree.now.stream c.feed.new.self bytes c.args.piece.now c.in_ok-left.left.now behind c.feed.ensures.target c.in_ok-left.ensures.behind in
    let took = took_more target c.trees.tree.first c.trees.tree.stream bytes c.args.piece.now c.in_ok-left.left.now c.trees.left.now fed.0 fed.1 (c.trees.invariant.took target (bytes ++ fed.0) fed.2) in
    took_all target c.trees.tree.first c.trees.tree.stream bytes c.args.piece.now c.trees.left.now (empty_is c.trees.left.now (sym c.is_empty.ensures ∙ c.trees-test.false)) took
