use Rattle.std.proofs.Common.{[], subst, ◌++◌, ◌∙◌, ◌≡◌, List, ℕ, Some, false, ap, refl}
use Rattle.row_bytes.specs.Fields.{whole}
use Rattle.vo_spec.specs.Conditions.{query_of}
use Rattle.tree_stream.specs.declared.target.Target.{Target}
use Rattle.reply_stream.specs.Heads.{head_at}
use Rattle.reply_stream.specs.ReplyTrees.{trees_at}
use Rattle.reply_stream.specs.TreesStreams.{IsBehind, trees_summary_of}
use Rattle.vo_check.specs.Streaming.{IsStreamed}
use Rattle.vo_check.specs.Streamed.{target_for}
use Rattle.vo_check.specs.Checkings.{StandsBehind, is_out_of_memory}
use Rattle.vo_check.specs.declared.progress.Progress.{Progress}
use Rattle.vo_check.proofs.CheckingLaws.{begun, both, unless_out_of_memory}
use Rattle.vo_check.proofs.feeding.open_reply.Goals as goal

pub returns-clause-stands : goal.returns-clause-stands
returns-clause-stands c =
    let q = query_of c.args.query.now in
    let head = c.args.head in
    let left = c.args.left.now in
    let Stands : Progress → Type 0 = λ next. (bytes : List ℕ) → IsStreamed q → ((more : List ℕ) → head_at (bytes ++ more) ≡ Some (head, left ++ more)) → StandsBehind q next bytes in
    unless_out_of_memory c.feed-fed.result c.unless_out_of_memory.result _ Stands c.unless_out_of_memory.ensures.ok c.unless_out_of_memory.ensures.err
    (((more : List ℕ) → trees_summary_of c.feed-fed.new.self more ≡ trees_summary_of c.new-trees.result (left ++ more))
    × ((target : Target) (bytes : List ℕ) → IsBehind target c.new-trees.result bytes → IsBehind target c.feed-fed.new.self (bytes ++ left))) (both c.feed-fed.result _ _ c.feed-fed.ensures.ok c.feed-fed.ensures.behind)
    (λ all bytes streamed head_is. (
      streamed,
      begun q head c.feed-fed.new.self bytes left head_is
          (λ more. all.0 more ∙ c.new-trees.ensures.trees (left ++ more) ∙ ap (λ (target : Target). whole (trees_at target (left ++ more))) (c.in_ok-target_for.ensures ∙ ap (target_for q) c.catalog.ensures.catalog))
          (subst (λ (target : Target). IsBehind target c.feed-fed.new.self left) (c.in_ok-target_for.ensures ∙ ap (target_for q) c.catalog.ensures.catalog) (all.1 c.in_ok-target_for.field-0 [] c.new-trees.ensures.behind)),
    ))

pub returns-clause-out : goal.returns-clause-out
returns-clause-out c =
    unless_out_of_memory c.feed-fed.result c.unless_out_of_memory.result _ (λ next. is_out_of_memory next ≡ false) c.unless_out_of_memory.ensures.ok c.unless_out_of_memory.ensures.err _ c.feed-fed.ensures.ok (λ fed. refl)
