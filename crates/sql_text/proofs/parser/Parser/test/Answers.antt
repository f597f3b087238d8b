use Rattle.std.proofs.Common.{◌≡◌, ◌∙◌, Ok, ap, subst, sym}
use Rattle.grammar.specs.Reading.{read, reader}
use Rattle.sql_text.specs.Parsing.{left_of}
use Rattle.sql_text.specs.Queries.{operator, operand, null_clause, conditions_of}
use Rattle.sql_text.proofs.Conds.{null_read, comparison_read, test_seen, null_test_seen}
use Rattle.sql_text.proofs.parser.Parser.test.Goals as goal

pub returns-then-sees-clause-value : goal.returns-then-sees-clause-value
returns-then-sees-clause-value c =
    let clause = subst (λ n. read (reader conditions_of n) null_clause (left_of c.reference.new.self) ≡ (Ok c.in_ok-negated.negated, left_of c.null_clause.new.self))
    c.reference.ensures.levels c.in_ok-negated.ensures.value in
    null_read c.args.self.now.levels (left_of c.args.self.now) (left_of c.reference.new.self) (left_of c.null_clause.new.self) c.in_ok-left.left c.in_ok-negated.negated
    c.in_ok-left.ensures.value (sym c.sees.ensures ∙ c.if-sees.true) clause
    ∙ ap (λ z. (Ok z, left_of c.null_clause.new.self)) (sym (null_test_seen c.in_ok-left.left c.in_ok-negated.negated))

pub returns-clause-value : goal.returns-clause-value
returns-clause-value c =
    let op = subst (λ n. read (reader conditions_of n) operator (left_of c.reference.new.self) ≡ (Ok c.in_ok-op.op, left_of c.operator.new.self))
    c.reference.ensures.levels c.in_ok-op.ensures.value in
    let right = subst (λ n. read (reader conditions_of n) operand (left_of c.operator.new.self) ≡ (Ok c.in_ok-right.right, left_of c.operand.new.self))
    (c.operator.ensures.levels ∙ c.reference.ensures.levels) c.in_ok-right.ensures.value in
    comparison_read c.args.self.now.levels (left_of c.args.self.now) (left_of c.reference.new.self) (left_of c.operand.new.self) c.in_ok-left.left (left_of c.operator.new.self)
    c.in_ok-op.op c.in_ok-right.right c.in_ok-left.ensures.value (sym c.sees.ensures ∙ c.if-sees.false) op right
    ∙ ap (λ z. (Ok z, left_of c.operand.new.self)) (sym (test_seen c.in_ok-left.left c.in_ok-op.op c.in_ok-right.right))
