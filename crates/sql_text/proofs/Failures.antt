-- A rule fails as its second part does, where the first one is read.
use Rattle.std.proofs.Common.{◌≡◌, List, Result, Ok, Err, ap, ◌∙◌}
use Rattle.std.specs.Prelude.{IsErrAnd}
use Rattle.grammar.specs.Rule.{Rule, both}
use Rattle.grammar.specs.Reading.{Reader, and_then, read}
use Rattle.sql_tokens.specs.Lex.{Token}
use Rattle.sql_text.specs.declared.parse_error.ParseError.{ParseError}
use Rattle.sql_text.specs.declared.parse_error.ParseError.TheVariants.{Memory, Fault}
use Rattle.sql_text.specs.Tokens.{sql}
use Rattle.sql_text.specs.Parsing.{ReadsAndLeaves}

pub both_fails : {A B X Y : Type 0} (R : Reader sql) (p : Rule sql A) (q : Rule sql B) (ts us left : List Token) (a : A) (view : X → B) (other : Y → A × B) (e : ParseError) → read R p ts ≡ (Ok a, us)
    → ReadsAndLeaves view (read R q us) (Err e) left → ReadsAndLeaves other (read R (both p q) ts) (Err e) left
both_fails R p q ts us left a view other Memory h k = tt
both_fails R p q ts us left a view other (Fault s) h k =
    ap (λ z. and_then z (λ a rest. and_then (read R q rest) (λ b end. (Ok (a, b), end)))) h ∙ ap (λ z. and_then z (λ b end. (Ok (a, b), end))) k

pub err_is : {Y : Type 0} (r : Result Y ParseError) (e : ParseError) → IsErrAnd r (λ x. x ≡ e) → r ≡ Err e
err_is (Ok y) e h = absurd h
err_is (Err x) e h = ap Err h
