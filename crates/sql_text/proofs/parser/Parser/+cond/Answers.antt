use Rattle.std.proofs.Common.{sym, ap, ◌∙◌, rules, None, refl, Ok, arith}
use Rattle.grammar.specs.Reading.{and_then}
use Rattle.sql_tokens.specs.declared.kinds.TokenKind.TheVariants as k
use Rattle.sql_tokens.specs.Lex.{token_of}
use Rattle.vo_spec.specs.Conditions.{condition_of, negated}
use Rattle.sql_text.specs.Parsing.{left_of}
use Rattle.sql_text.specs.Queries.{prim, conj, all_of, any_of}
use Rattle.sql_text.proofs.Rounds.{kept, some_in, turn_in, turn_stops, begun_in, begun_stops, stopped, fewer_in}
use Rattle.sql_text.proofs.Conds.{prims, not_done, not_fails, paren_closed, paren_fails, conj_is, disj_is, not_is}
use Rattle.sql_text.proofs.parser.Parser.+cond.Goals as goal

pub negation-returns-in_err-part-clause-value : goal.negation-returns-in_err-part-clause-value
negation-returns-in_err-part-clause-value t c =
    let f = not_fails c.args.self.now.levels (left_of c.args.self.now) c.open.new.self.levels (token_of c.in_ok-open.field-0) (left_of c.open.new.self) c.in_ok-open.ensures.levels
    c.in_err-part.field-0.0 (left_of c.prim.new.self) c.requires c.in_ok-open.ensures.opened c.in_err-part.ensures.value in
    search rules

pub negation-returns-clause-value : goal.negation-returns-clause-value
negation-returns-clause-value t c =
    not_done c.args.self.now.levels (left_of c.args.self.now) c.open.new.self.levels (token_of c.in_ok-open.field-0) (left_of c.open.new.self) c.in_ok-open.ensures.levels
    (condition_of c.in_ok-part.part) (left_of c.prim.new.self) c.requires c.in_ok-open.ensures.opened c.in_ok-part.ensures.value
    ∙ ap (λ z. (Ok z, left_of c.prim.new.self)) (sym (not_is c.in_ok-new.field-0 ∙ ap (λ z. negated (condition_of z)) c.in_ok-new.ensures.ok))

pub condition_in_parens-returns-in_err-whole-clause-value : goal.condition_in_parens-returns-in_err-whole-clause-value
condition_in_parens-returns-in_err-whole-clause-value t c =
    let f = paren_fails c.args.self.now.levels (left_of c.args.self.now) c.open.new.self.levels (token_of c.in_ok-open.field-0) (left_of c.open.new.self) c.in_ok-open.ensures.levels
    c.in_err-whole.field-0.0 (left_of c.disj.new.self) c.requires.other c.requires.next c.in_ok-open.ensures.opened c.in_err-whole.ensures.value in
    search rules

pub condition_in_parens-returns-clause-value : goal.condition_in_parens-returns-clause-value
condition_in_parens-returns-clause-value t c =
    paren_closed c.args.self.now.levels (left_of c.args.self.now) c.open.new.self.levels (token_of c.in_ok-open.field-0) (left_of c.open.new.self) c.in_ok-open.ensures.levels
    c.in_ok-whole.whole (left_of c.disj.new.self) c.then_expect.result (left_of c.then_expect.new.self)
    c.requires.other c.requires.next c.in_ok-open.ensures.opened c.in_ok-whole.ensures.value c.then_expect.ensures.value c.then_expect.ensures.same

pub conj-returns-in_err-parts-clause-value : goal.conj-returns-in_err-parts-clause-value
conj-returns-in_err-parts-clause-value t c =
    let f = begun_stops condition_of None k.And prim condition_of c.args.self.now.levels (left_of c.args.self.now) (left_of c.prim.new.self) c.new.result.items c.prim.result c.in_err-parts.field-0.0 _
    (λ z. and_then z (λ vs end. (Ok (all_of vs), end))) (λ s. refl) (conj_is c.args.self.now.levels (left_of c.args.self.now)) c.prim.ensures.value c.in_err-parts.ensures in
    search rules

pub conj-loop-alloc-smaller : goal.conj-loop-alloc-smaller
conj-loop-alloc-smaller t c =
    fewer_in condition_of prim k.And c.take.new.self.levels c.loop-alloc.parts.items c.prim-in-loop-alloc.result c.in_ok-parts-2.parts (left_of c.loop-alloc.self) (token_of c.take.result) (left_of c.take.new.self) (left_of c.prim-in-loop-alloc.new.self)
    c.take.ensures.value c.prim-in-loop-alloc.ensures.value c.in_ok-parts-2.ensures

pub conj-loop-alloc-preserved : goal.conj-loop-alloc-preserved
conj-loop-alloc-preserved t c = (
  c.prim-in-loop-alloc.ensures.list ∙ c.take.ensures.list ∙ c.loop-alloc.invariant.0,
  kept c.loop-alloc.parts.items c.prim-in-loop-alloc.result c.in_ok-parts-2.parts c.in_ok-parts-2.ensures c.prim-in-loop-alloc.ensures.levels ∙ c.take.ensures.levels ∙ c.loop-alloc.invariant.1,
  some_in c.loop-alloc.parts.items c.prim-in-loop-alloc.result c.in_ok-parts-2.parts c.in_ok-parts-2.ensures,
  turn_in condition_of None k.And prim c.loop-alloc.self.levels c.take.new.self.levels c.prim-in-loop-alloc.new.self.levels c.loop-alloc.parts.items c.prim-in-loop-alloc.result c.in_ok-parts-2.parts
      (left_of c.loop-alloc.self) (token_of c.take.result) (left_of c.take.new.self) (left_of c.prim-in-loop-alloc.new.self)
      c.take.ensures.levels c.prim-in-loop-alloc.ensures.levels refl (sym c.sees.ensures ∙ c.loop-alloc-test.true) c.take.ensures.value c.prim-in-loop-alloc.ensures.value c.in_ok-parts-2.ensures
      ∙ c.loop-alloc.invariant.3,
)

pub conj-returns-in_err-parts-2-clause-value : goal.conj-returns-in_err-parts-2-clause-value
conj-returns-in_err-parts-2-clause-value t c =
    let f = turn_stops condition_of None k.And prim condition_of c.loop-alloc.self.levels c.take.new.self.levels c.loop-alloc.parts.items c.prim-in-loop-alloc.result (left_of c.loop-alloc.self) (token_of c.take.result)
    (left_of c.take.new.self) (left_of c.prim-in-loop-alloc.new.self) c.in_err-parts-2.field-0.0 _ (λ z. and_then z (λ vs end. (Ok (all_of vs), end))) (λ s. refl)
    c.take.ensures.levels refl (sym c.sees.ensures ∙ c.loop-alloc-test.true) c.take.ensures.value
    (conj_is c.args.self.now.levels (left_of c.args.self.now)
    ∙ ap (λ z. and_then z (λ vs end. (Ok (all_of vs), end)))
    (begun_in condition_of None k.And prim c.args.self.now.levels c.prim.new.self.levels (left_of c.args.self.now) (left_of c.prim.new.self) c.new.result.items c.prim.result c.in_ok-parts.parts
    c.prim.ensures.levels c.prim.ensures.value c.new.ensures.items c.in_ok-parts.ensures
    ∙ sym c.loop-alloc.invariant.3))
    c.prim-in-loop-alloc.ensures.value c.in_err-parts-2.ensures in
    search rules

pub conj-returns-clause-value : goal.conj-returns-clause-value
conj-returns-clause-value t c =
    conj_is c.args.self.now.levels (left_of c.args.self.now)
    ∙ ap (λ z. and_then z (λ vs end. (Ok (all_of vs), end)))
    (begun_in condition_of None k.And prim c.args.self.now.levels c.prim.new.self.levels (left_of c.args.self.now) (left_of c.prim.new.self) c.new.result.items c.prim.result c.in_ok-parts.parts
    c.prim.ensures.levels c.prim.ensures.value c.new.ensures.items c.in_ok-parts.ensures
    ∙ sym c.loop-alloc.invariant.3
    ∙ stopped condition_of None k.And prim c.loop-alloc.self.levels c.loop-alloc.parts.items (left_of c.loop-alloc.self) (sym c.sees.ensures ∙ c.loop-alloc-test.false))
    ∙ ap (λ z. (Ok z, left_of c.loop-alloc.self)) (sym c.all_of.ensures)

pub disj-returns-in_err-parts-clause-value : goal.disj-returns-in_err-parts-clause-value
disj-returns-in_err-parts-clause-value t c =
    let f = begun_stops condition_of None k.Or conj condition_of c.args.self.now.levels (left_of c.args.self.now) (left_of c.conj.new.self) c.new.result.items c.conj.result c.in_err-parts.field-0.0 _
    (λ z. and_then z (λ vs end. (Ok (any_of vs), end))) (λ s. refl) (disj_is c.args.self.now.levels (left_of c.args.self.now)) c.conj.ensures.value c.in_err-parts.ensures in
    search rules

pub disj-loop-alloc-smaller : goal.disj-loop-alloc-smaller
disj-loop-alloc-smaller t c =
    fewer_in condition_of conj k.Or c.take.new.self.levels c.loop-alloc.parts.items c.conj-in-loop-alloc.result c.in_ok-parts-2.parts (left_of c.loop-alloc.self) (token_of c.take.result) (left_of c.take.new.self) (left_of c.conj-in-loop-alloc.new.self)
    c.take.ensures.value c.conj-in-loop-alloc.ensures.value c.in_ok-parts-2.ensures

pub disj-loop-alloc-preserved : goal.disj-loop-alloc-preserved
disj-loop-alloc-preserved t c = (
  c.conj-in-loop-alloc.ensures.list ∙ c.take.ensures.list ∙ c.loop-alloc.invariant.0,
  kept c.loop-alloc.parts.items c.conj-in-loop-alloc.result c.in_ok-parts-2.parts c.in_ok-parts-2.ensures c.conj-in-loop-alloc.ensures.levels ∙ c.take.ensures.levels ∙ c.loop-alloc.invariant.1,
  some_in c.loop-alloc.parts.items c.conj-in-loop-alloc.result c.in_ok-parts-2.parts c.in_ok-parts-2.ensures,
  turn_in condition_of None k.Or conj c.loop-alloc.self.levels c.take.new.self.levels c.conj-in-loop-alloc.new.self.levels c.loop-alloc.parts.items c.conj-in-loop-alloc.result c.in_ok-parts-2.parts
      (left_of c.loop-alloc.self) (token_of c.take.result) (left_of c.take.new.self) (left_of c.conj-in-loop-alloc.new.self)
      c.take.ensures.levels c.conj-in-loop-alloc.ensures.levels refl (sym c.sees.ensures ∙ c.loop-alloc-test.true) c.take.ensures.value c.conj-in-loop-alloc.ensures.value c.in_ok-parts-2.ensures
      ∙ c.loop-alloc.invariant.3,
)

pub disj-returns-in_err-parts-2-clause-value : goal.disj-returns-in_err-parts-2-clause-value
disj-returns-in_err-parts-2-clause-value t c =
    let f = turn_stops condition_of None k.Or conj condition_of c.loop-alloc.self.levels c.take.new.self.levels c.loop-alloc.parts.items c.conj-in-loop-alloc.result (left_of c.loop-alloc.self) (token_of c.take.result)
    (left_of c.take.new.self) (left_of c.conj-in-loop-alloc.new.self) c.in_err-parts-2.field-0.0 _ (λ z. and_then z (λ vs end. (Ok (any_of vs), end))) (λ s. refl)
    c.take.ensures.levels refl (sym c.sees.ensures ∙ c.loop-alloc-test.true) c.take.ensures.value
    (disj_is c.args.self.now.levels (left_of c.args.self.now)
    ∙ ap (λ z. and_then z (λ vs end. (Ok (any_of vs), end)))
    (begun_in condition_of None k.Or conj c.args.self.now.levels c.conj.new.self.levels (left_of c.args.self.now) (left_of c.conj.new.self) c.new.result.items c.conj.result c.in_ok-parts.parts
    c.conj.ensures.levels c.conj.ensures.value c.new.ensures.items c.in_ok-parts.ensures
    ∙ sym c.loop-alloc.invariant.3))
    c.conj-in-loop-alloc.ensures.value c.in_err-parts-2.ensures in
    search rules

pub disj-returns-clause-value : goal.disj-returns-clause-value
disj-returns-clause-value t c =
    disj_is c.args.self.now.levels (left_of c.args.self.now)
    ∙ ap (λ z. and_then z (λ vs end. (Ok (any_of vs), end)))
    (begun_in condition_of None k.Or conj c.args.self.now.levels c.conj.new.self.levels (left_of c.args.self.now) (left_of c.conj.new.self) c.new.result.items c.conj.result c.in_ok-parts.parts
    c.conj.ensures.levels c.conj.ensures.value c.new.ensures.items c.in_ok-parts.ensures
    ∙ sym c.loop-alloc.invariant.3
    ∙ stopped condition_of None k.Or conj c.loop-alloc.self.levels c.loop-alloc.parts.items (left_of c.loop-alloc.self) (sym c.sees.ensures ∙ c.loop-alloc-test.false))
    ∙ ap (λ z. (Ok z, left_of c.loop-alloc.self)) (sym c.any_of.ensures)

pub negation-returns-in_err-open-clause-value : goal.negation-returns-in_err-open-clause-value
negation-returns-in_err-open-clause-value t c = grind (arith, prims)

pub condition_in_parens-returns-in_err-open-clause-value : goal.condition_in_parens-returns-in_err-open-clause-value
condition_in_parens-returns-in_err-open-clause-value t c = grind (arith, prims)

pub prim-returns-then-sees-clause-value : goal.prim-returns-then-sees-clause-value
prim-returns-then-sees-clause-value t c = grind (arith, prims)

pub prim-returns-then-sees-2-clause-value : goal.prim-returns-then-sees-2-clause-value
prim-returns-then-sees-2-clause-value t c = grind (arith, prims)

pub prim-returns-else-sees-2-clause-value : goal.prim-returns-else-sees-2-clause-value
prim-returns-else-sees-2-clause-value t c = grind (arith, prims)
