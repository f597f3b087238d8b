use Rattle.std.proofs.Common.{◌≡◌, ◌-◌, ◌<◌, sym, ap, ◌∙◌, rules, arith, length, Some, refl, Ok}
use Rattle.std.proofs.lemmas.List.{map-id}
use Rattle.sql_tokens.specs.declared.kinds.TokenKind.TheVariants as k
use Rattle.sql_text.specs.Parsing.{left_of}
use Rattle.std.specs.Prelude.{Vec}
use Rattle.std.specs.Global.{Global}
use Rattle.vo_spec.specs.declared.tables.Command.{Command}
use Rattle.sql_text.specs.Rules.{before, followed_by, list_to_end}
use Rattle.sql_text.specs.Commands.{create, drop_table, insert, update, delete, command}
use Rattle.sql_text.proofs.Repeats.{turn_in, turn_stops, begun_in, begun_stops, push_parsed_len, stops, overfull, fewer_in, no_room}
use Rattle.sql_text.proofs.parser.Parser.commands.Goals as goal

pub returns-in_err-list-clause-value : goal.returns-in_err-list-clause-value
unfolding followed_by list_to_end command create drop_table insert update delete before
returns-in_err-list-clause-value c =
    let f = begun_stops (λ x. x) (Some 999) (followed_by command k.Semicolon) (followed_by command k.Semicolon) (λ (v : Vec Command Global). v.items) c.args.self.now.levels (left_of c.args.self.now) (left_of c.closed_command.new.self) c.new.result.items c.closed_command.result c.in_err-list.field-0.0 _ (λ z. z) (λ s. refl) refl
    c.closed_command.ensures.value c.in_err-list.ensures in
    search rules

pub returns-in_err-list-2-clause-value : goal.returns-in_err-list-2-clause-value
unfolding followed_by list_to_end command create drop_table insert update delete before
returns-in_err-list-2-clause-value c =
    let room : length c.parts.list.items < 1000 = omega (arith, c.parts.list.ok.0) in
    let f = turn_stops (λ x. x) (followed_by command k.Semicolon) refl (λ (v : Vec Command Global). v.items) 1000 c.parts.self.levels c.parts.self.levels c.parts.list.items c.closed_command-in-parts.result (left_of c.parts.self) (left_of c.closed_command-in-parts.new.self) c.in_err-list-2.field-0.0 _
    (λ z. z) (λ s. refl) refl room (sym c.sees_command.ensures ∙ c.parts-test.true)
    (begun_in (λ x. x) (Some 999) (followed_by command k.Semicolon) (followed_by command k.Semicolon) c.args.self.now.levels c.closed_command.new.self.levels (left_of c.args.self.now) (left_of c.closed_command.new.self) c.new.result.items c.closed_command.result c.in_ok-list.list
    c.closed_command.ensures.levels c.closed_command.ensures.value c.new.ensures.items c.in_ok-list.ensures
    ∙ sym c.parts.invariant.2)
    c.closed_command-in-parts.ensures.value c.in_err-list-2.ensures in
    search rules

pub parts-smaller : goal.parts-smaller
unfolding followed_by list_to_end command create drop_table insert update delete before
parts-smaller c = fewer_in (λ x. x) (followed_by command k.Semicolon) refl c.parts.self.levels c.parts.list.items c.closed_command-in-parts.result c.in_ok-list-2.list (left_of c.parts.self) (left_of c.closed_command-in-parts.new.self) c.closed_command-in-parts.ensures.value c.in_ok-list-2.ensures

pub parts-preserved : goal.parts-preserved
unfolding followed_by list_to_end command create drop_table insert update delete before
parts-preserved c =
    let room : length c.parts.list.items < 1000 = omega (arith, c.parts.list.ok.0) in (
      c.closed_command-in-parts.ensures.list ∙ c.parts.invariant.0,
      c.closed_command-in-parts.ensures.levels ∙ c.parts.invariant.1,
      turn_in (λ x. x) (followed_by command k.Semicolon) refl 1000 c.parts.self.levels c.parts.self.levels c.closed_command-in-parts.new.self.levels c.parts.list.items c.closed_command-in-parts.result c.in_ok-list-2.list (left_of c.parts.self) (left_of c.closed_command-in-parts.new.self)
          refl c.closed_command-in-parts.ensures.levels room (sym c.sees_command.ensures ∙ c.parts-test.true) c.closed_command-in-parts.ensures.value c.in_ok-list-2.ensures
          ∙ c.parts.invariant.2,
      omega (arith, push_parsed_len c.parts.list.items c.closed_command-in-parts.result c.in_ok-list-2.list c.in_ok-list-2.ensures, room),
    )

pub returns-clause-value : goal.returns-clause-value
unfolding followed_by list_to_end command create drop_table insert update delete before
returns-clause-value c =
    begun_in (λ x. x) (Some 999) (followed_by command k.Semicolon) (followed_by command k.Semicolon) c.args.self.now.levels c.closed_command.new.self.levels (left_of c.args.self.now) (left_of c.closed_command.new.self) c.new.result.items c.closed_command.result c.in_ok-list.list
    c.closed_command.ensures.levels c.closed_command.ensures.value c.new.ensures.items c.in_ok-list.ensures
    ∙ sym c.parts.invariant.2
    ∙ stops (λ x. x) (followed_by command k.Semicolon) refl (Some (1000 - length c.parts.list.items)) c.parts.self.levels c.parts.list.items (left_of c.parts.self) (sym c.sees_command.ensures ∙ c.parts-test.false) ∙ ap (λ z. (Ok z, left_of c.parts.self)) (map-id c.parts.list.items)

pub returns-then-len-eq-MAX_COMMANDS-clause-value : goal.returns-then-len-eq-MAX_COMMANDS-clause-value
unfolding followed_by list_to_end command create drop_table insert update delete before
returns-then-len-eq-MAX_COMMANDS-clause-value c =
    let all : length c.parts.list.items ≡ 1000 = omega (arith, c.parts.list.ok.0) in
    begun_in (λ x. x) (Some 999) (followed_by command k.Semicolon) (followed_by command k.Semicolon) c.args.self.now.levels c.closed_command.new.self.levels (left_of c.args.self.now) (left_of c.closed_command.new.self) c.new.result.items c.closed_command.result c.in_ok-list.list
    c.closed_command.ensures.levels c.closed_command.ensures.value c.new.ensures.items c.in_ok-list.ensures
    ∙ sym c.parts.invariant.2
    ∙ overfull (λ x. x) (followed_by command k.Semicolon) refl (Some (1000 - length c.parts.list.items)) c.parts.self.levels c.parts.list.items (left_of c.parts.self) (sym c.sees_command.ensures ∙ c.parts-test.true) (no_room 1000 (length c.parts.list.items) all)
