use Rattle.std.proofs.Common.{◌≡◌, ◌-◌, ◌<◌, sym, ap, ◌∙◌, rules, arith, length, Some, refl, Ok}
use Rattle.std.proofs.lemmas.List.{map-id}
use Rattle.sql_tokens.specs.declared.kinds.TokenKind.TheVariants as k
use Rattle.sql_text.specs.Parsing.{left_of}
use Rattle.std.specs.Prelude.{Vec}
use Rattle.std.specs.Global.{Global}
use Rattle.vo_spec.specs.declared.tables.SetPart.{SetPart}
use Rattle.sql_text.specs.Rules.{before, list_of}
use Rattle.sql_text.specs.Commands.{set_part}
use Rattle.sql_text.proofs.Repeats.{turn_in, turn_stops, begun_in, begun_stops, push_parsed_len, stops, overfull, fewer_in, no_room}
use Rattle.sql_text.proofs.parser.Parser.set_parts.Goals as goal

pub returns-in_err-list-clause-value : goal.returns-in_err-list-clause-value
unfolding before list_of
returns-in_err-list-clause-value c =
    let f = begun_stops (λ x. x) (Some 31) (set_part) (before k.Comma set_part) (λ (v : Vec SetPart Global). v.items) c.args.self.now.levels (left_of c.args.self.now) (left_of c.set_part.new.self) c.new.result.items c.set_part.result c.in_err-list.field-0.0 _ (λ z. z) (λ s. refl) refl
    c.set_part.ensures.value c.in_err-list.ensures in
    search rules

pub returns-in_err-list-2-clause-value : goal.returns-in_err-list-2-clause-value
unfolding before list_of
returns-in_err-list-2-clause-value c =
    let room : length c.parts.list.items < 32 = omega (arith, c.parts.list.ok.0) in
    let f = turn_stops (λ x. x) (before k.Comma set_part) refl (λ (v : Vec SetPart Global). v.items) 32 c.parts.self.levels c.parts.self.levels c.parts.list.items c.next_set_part.result (left_of c.parts.self) (left_of c.next_set_part.new.self) c.in_err-list-2.field-0.0 _
    (λ z. z) (λ s. refl) refl room (sym c.sees.ensures ∙ c.parts-test.true)
    (begun_in (λ x. x) (Some 31) (set_part) (before k.Comma set_part) c.args.self.now.levels c.set_part.new.self.levels (left_of c.args.self.now) (left_of c.set_part.new.self) c.new.result.items c.set_part.result c.in_ok-list.list
    c.set_part.ensures.levels c.set_part.ensures.value c.new.ensures.items c.in_ok-list.ensures
    ∙ sym c.parts.invariant.2)
    c.next_set_part.ensures.value c.in_err-list-2.ensures in
    search rules

pub parts-smaller : goal.parts-smaller
unfolding before list_of
parts-smaller c = fewer_in (λ x. x) (before k.Comma set_part) refl c.parts.self.levels c.parts.list.items c.next_set_part.result c.in_ok-list-2.list (left_of c.parts.self) (left_of c.next_set_part.new.self) c.next_set_part.ensures.value c.in_ok-list-2.ensures

pub parts-preserved : goal.parts-preserved
unfolding before list_of
parts-preserved c =
    let room : length c.parts.list.items < 32 = omega (arith, c.parts.list.ok.0) in (
      c.next_set_part.ensures.list ∙ c.parts.invariant.0,
      c.next_set_part.ensures.levels ∙ c.parts.invariant.1,
      turn_in (λ x. x) (before k.Comma set_part) refl 32 c.parts.self.levels c.parts.self.levels c.next_set_part.new.self.levels c.parts.list.items c.next_set_part.result c.in_ok-list-2.list (left_of c.parts.self) (left_of c.next_set_part.new.self)
          refl c.next_set_part.ensures.levels room (sym c.sees.ensures ∙ c.parts-test.true) c.next_set_part.ensures.value c.in_ok-list-2.ensures
          ∙ c.parts.invariant.2,
      omega (arith, push_parsed_len c.parts.list.items c.next_set_part.result c.in_ok-list-2.list c.in_ok-list-2.ensures, room),
    )

pub returns-clause-value : goal.returns-clause-value
unfolding before list_of
returns-clause-value c =
    begun_in (λ x. x) (Some 31) (set_part) (before k.Comma set_part) c.args.self.now.levels c.set_part.new.self.levels (left_of c.args.self.now) (left_of c.set_part.new.self) c.new.result.items c.set_part.result c.in_ok-list.list
    c.set_part.ensures.levels c.set_part.ensures.value c.new.ensures.items c.in_ok-list.ensures
    ∙ sym c.parts.invariant.2
    ∙ stops (λ x. x) (before k.Comma set_part) refl (Some (32 - length c.parts.list.items)) c.parts.self.levels c.parts.list.items (left_of c.parts.self) (sym c.sees.ensures ∙ c.parts-test.false) ∙ ap (λ z. (Ok z, left_of c.parts.self)) (map-id c.parts.list.items)

pub returns-then-len-eq-MAX_COLUMNS-clause-value : goal.returns-then-len-eq-MAX_COLUMNS-clause-value
unfolding before list_of
returns-then-len-eq-MAX_COLUMNS-clause-value c =
    let all : length c.parts.list.items ≡ 32 = omega (arith, c.parts.list.ok.0) in
    begun_in (λ x. x) (Some 31) (set_part) (before k.Comma set_part) c.args.self.now.levels c.set_part.new.self.levels (left_of c.args.self.now) (left_of c.set_part.new.self) c.new.result.items c.set_part.result c.in_ok-list.list
    c.set_part.ensures.levels c.set_part.ensures.value c.new.ensures.items c.in_ok-list.ensures
    ∙ sym c.parts.invariant.2
    ∙ overfull (λ x. x) (before k.Comma set_part) refl (Some (32 - length c.parts.list.items)) c.parts.self.levels c.parts.list.items (left_of c.parts.self) (sym c.sees.ensures ∙ c.parts-test.true) (no_room 32 (length c.parts.list.items) all)
