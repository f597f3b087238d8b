use Rattle.std.proofs.Common.{[], refl, subst, sym, ap, ◌∙◌, arith}
use Rattle.std.specs.Prelude.{option_map}
use Rattle.tree_stream.specs.declared.target.Target.{Target}
use Rattle.tree_stream.specs.declared.stream.TreeStream.{TreeStream}
use Rattle.tree_stream.specs.Streams.{IsBehind as IsBehindTree, summary_of}
use Rattle.tree_stream.specs.Summaries.{summary_of_tree}
use Rattle.reply_stream.proofs.EndedTrees.{summary_in, ended}
use Rattle.reply_stream.proofs.KeptRows.{first_ended}
use Rattle.reply_stream.proofs.TreesLaws.{left_over, next_is, none_left, tree_lost}
use Rattle.reply_stream.proofs.trees_stream.next_tree.Goals as goal

pub returns-then-tree-eq0-clause-last : goal.returns-then-tree-eq0-clause-last
returns-then-tree-eq0-clause-last c = λ is bytes some. left_over c.args.tree.now c.requires (omega (arith, c.if-tree-eq0.true)) bytes some

pub returns-in-Some-clause-next : goal.returns-in-Some-clause-next
returns-in-Some-clause-next c = λ is bytes.
    next_is c.args.tree.now _ c.in-Some.summary
    (ended c.args.tree.now.stream c.in-Some.summary (sym c.in-Some.is ∙ c.end.ensures.summary ∙ ap (λ (s : TreeStream). option_map summary_in (summary_of s [])) c.replace.ensures.value))
    (λ rest. ap (λ (s : TreeStream). summary_of s rest) c.replace.ensures.after ∙ c.new-next.ensures.summary rest ∙ ap (λ (t : Target). summary_of_tree t rest) c.of_no_rows.ensures)
    refl (omega (arith, c.if-tree-eq0.false)) c.keep_first.ensures bytes

pub returns-in-None-clause-last : goal.returns-in-None-clause-last
returns-in-None-clause-last c = λ is bytes some.
    none_left c.args.tree.now bytes
    (tree_lost c.args.tree.now.stream c.requires (sym c.in-None.is ∙ c.end.ensures.summary ∙ ap (λ (s : TreeStream). option_map summary_in (summary_of s [])) c.replace.ensures.value) bytes)

pub returns-in-Some-clause-behind : goal.returns-in-Some-clause-behind
returns-in-Some-clause-behind c = λ is target bytes behind.
    let P : TreeStream → Type 0 = λ s. IsBehindTree s [] in
    first_ended target c.args.tree.now.first c.keep_first.new.first c.args.tree.now.stream _ c.in-Some.summary bytes
    (sym c.in-Some.is ∙ c.end.ensures.summary ∙ ap (λ (s : TreeStream). option_map summary_in (summary_of s [])) c.replace.ensures.value)
    c.keep_first.ensures (subst P (sym c.replace.ensures.after) c.new-next.ensures.behind) behind
