use Rattle.std.proofs.Common.{◌∙◌, subst, w64}
use Rattle.std.specs.Str.Parse.{ParsesSigned}
use Rattle.std.proofs.lemmas.Str.{IsUtf8-from_ascii}
use Rattle.sql_tokens.proofs.Integers.{ascii_integer, parsed_integer}
use Rattle.sql_tokens.proofs.words.integer_value.Goals as goal

pub returns-in_default : goal.returns-in_default
returns-in_default c = absurd (c.in_default.ensures.cases.0 (IsUtf8-from_ascii c.args.text.now (ascii_integer c.args.text.now c.requires.digits)))

pub returns : goal.returns
returns c =
    c.ok.ensures.value
    ∙ parsed_integer c.args.text.now c.parse.result (subst (λ z. ParsesSigned w64 10 z c.parse.result) c.in-Ok.ensures.cases.0 c.parse.ensures.value.0) c.requires.digits c.requires.some
