use Rattle.std.proofs.Common.{sym, ap, ◌∙◌, rules, None, refl, Ok}
use Rattle.std.proofs.lemmas.List.{map-id}
use Rattle.std.specs.Prelude.{Vec}
use Rattle.std.specs.Global.{Global}
use Rattle.sql_tokens.specs.declared.kinds.TokenKind.TheVariants as k
use Rattle.vo_spec.specs.declared.tables.Batch.{Batch}
use Rattle.sql_text.specs.Parsing.{left_of}
use Rattle.sql_text.specs.Rules.{before, followed_by, list_to_end}
use Rattle.sql_text.specs.Commands.{create, drop_table, insert, update, delete, command, batch, script}
use Rattle.sql_text.proofs.Repeats.{turn, turn_fails, stops, fewer}
use Rattle.sql_text.proofs.LongBatches.{script_is}
use Rattle.sql_text.proofs.parser.Parser.script.Goals as goal

pub returns-in_err-committed_batch-clause-value : goal.returns-in_err-committed_batch-clause-value
unfolding followed_by list_to_end command create drop_table insert update delete before batch script
returns-in_err-committed_batch-clause-value c =
    let f = turn_fails (λ x. x) (followed_by (followed_by batch k.Commit) k.Semicolon) refl (λ (v : Vec Batch Global). v.items) None c.parts.self.levels c.parts.self.levels c.parts.list.items (left_of c.parts.self) (left_of c.committed_batch.new.self) c.in_err-committed_batch.field-0.0 _
    (λ z. z) (λ s. refl) refl refl (sym c.sees_command.ensures ∙ c.parts-test.true)
    (script_is c.args.self.now.levels (left_of c.args.self.now) c.new-list.result.items c.new-list.ensures.items ∙ sym c.parts.invariant.2)
    c.in_err-committed_batch.ensures.value in
    search rules

pub parts-smaller : goal.parts-smaller
unfolding followed_by list_to_end command create drop_table insert update delete before batch
parts-smaller c = fewer (λ x. x) (followed_by (followed_by batch k.Commit) k.Semicolon) refl c.parts.self.levels (left_of c.parts.self) c.in_ok-committed_batch.field-0 (left_of c.committed_batch.new.self) c.in_ok-committed_batch.ensures.value

pub parts-preserved : goal.parts-preserved
unfolding followed_by list_to_end command create drop_table insert update delete before batch
parts-preserved c = (
  c.in_ok-committed_batch.ensures.list ∙ c.parts.invariant.0,
  c.in_ok-committed_batch.ensures.levels ∙ c.parts.invariant.1,
  turn (λ x. x) (followed_by (followed_by batch k.Commit) k.Semicolon) refl None None c.parts.self.levels c.parts.self.levels c.committed_batch.new.self.levels c.parts.list.items c.push.new.self.items
      c.in_ok-committed_batch.field-0 (left_of c.parts.self) (left_of c.committed_batch.new.self) refl c.in_ok-committed_batch.ensures.levels refl refl (sym c.sees_command.ensures ∙ c.parts-test.true)
      c.in_ok-committed_batch.ensures.value c.in_ok-push.ensures.items
      ∙ c.parts.invariant.2,
)

pub returns-clause-value : goal.returns-clause-value
unfolding followed_by list_to_end command create drop_table insert update delete before batch script
returns-clause-value c =
    script_is c.args.self.now.levels (left_of c.args.self.now) c.new-list.result.items c.new-list.ensures.items
    ∙ sym c.parts.invariant.2
    ∙ stops (λ x. x) (followed_by (followed_by batch k.Commit) k.Semicolon) refl None c.parts.self.levels c.parts.list.items (left_of c.parts.self) (sym c.sees_command.ensures ∙ c.parts-test.false) ∙ ap (λ z. (Ok z, left_of c.parts.self)) (map-id c.parts.list.items)
