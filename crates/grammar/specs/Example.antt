-- A small grammar: openings, one in the other, round an end. Its value is the number of openings.
use Rattle.std.specs.Prelude.{◌≡◌, ℕ, suc, Bool, true, false, refl, []}
use Rattle.std.proofs.lemmas.Bool.{false≢true}
use Rattle.grammar.specs.Language.{Language, IsLanguage}
use Rattle.grammar.specs.Rule.{Rule, Grammar, token, either, means, inside}

-- true opens, false ends
abbrev pub same : Bool → Bool → Bool
same true true = true
same true false = false
same false true = false
same false false = true

abbrev pub openings : Language
openings = record {
  Kind = Bool;
  same = same;
  Token = Bool;
  kind = λ t. t;
  IsToken = λ t. Unit {0};
  Nonterminal = Unit {0};
  every = λ test. test tt;
  Tree = ℕ;
}

abbrev pub group : Rule openings ℕ
group = either (means suc (inside true tt)) (means (λ _. 0) (token false))

abbrev pub groups : Grammar openings
groups = record { rule = λ _. group; after = λ _. [] }

abbrev pub are_openings : IsLanguage openings
are_openings = record {
  same_true = apart;
  same_self = elim [ true ↦ refl | false ↦ refl ];
  some_token = λ k. (k, refl, tt);
  each = λ test e n. e;
}
  where
    apart : (a b : Bool) → same a b ≡ true → a ≡ b
    apart true true e = refl
    apart true false e = absurd (false≢true e)
    apart false true e = absurd (false≢true e)
    apart false false e = refl
