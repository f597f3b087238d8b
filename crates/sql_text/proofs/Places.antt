-- The places of tokens lie inside the text.
use Rattle.std.proofs.Common.{◌≡◌, ℕ, zero, suc, ◌+◌, ◌-◌, ◌≤◌, ◌<◌, Bool, true, false, cond, List, [], ◌∷◌, length, Result, Ok, Err, subst, arith}
use Rattle.std.specs.List.{AllByRecursion}
use Rattle.sql_tokens.specs.declared.lexemes.TokenFault.{TokenFault}
use Rattle.sql_tokens.specs.Lex.{Token, Placed, is_blank, token_at, then_tokens, at_place, tokens_from, tokens_of}

abbrev AreWithin : ℕ → Result (List Placed) (TokenFault × ℕ) → Type 0
AreWithin end (Ok ps) = AllByRecursion (λ p. p.at < end) ps
AreWithin end (Err e) = Unit {0}

followed_within : (end : ℕ) (p : Placed) (r : Result (List Placed) (TokenFault × ℕ)) → p.at < end → AreWithin end r → AreWithin end (then_tokens p r)
followed_within end p (Ok ps) h k = (h, k)
followed_within end p (Err e) h k = tt

placed_within : (end at : ℕ) (r : Result Token TokenFault) (others : ℕ → Result (List Placed) (TokenFault × ℕ)) → at < end → ((n : ℕ) → AreWithin end (others n)) → AreWithin end (at_place at r others)
placed_within end at (Ok t) others h k = followed_within end (record { token = t; at = at }) (others (length t.text - 1)) h (k (length t.text - 1))
placed_within end at (Err lapse) others h k = tt

from_within : (end at within : ℕ) (z : List ℕ) → at + length z ≤ end → AreWithin end (tokens_from at within z)
unfolding tokens_from
from_within end at within [] h = tt
from_within end at (suc within) (b ∷ z) h = from_within end (at + 1) within z (omega arith)
from_within end at zero (b ∷ z) h =
    by_blank (is_blank b) (from_within end (at + 1) 0 z (omega arith))
    (placed_within end at (token_at (b ∷ z)) (λ n. tokens_from (at + 1) n z) (omega arith) (λ n. from_within end (at + 1) n z (omega arith)))
  where
    by_blank : (c : Bool) → AreWithin end (tokens_from (at + 1) 0 z) → AreWithin end (at_place at (token_at (b ∷ z)) (λ n. tokens_from (at + 1) n z))
        → AreWithin end (cond c (tokens_from (at + 1) 0 z) (at_place at (token_at (b ∷ z)) (λ n. tokens_from (at + 1) n z)))
    by_blank true h k = h
    by_blank false h k = k

pub places_within : (end : ℕ) (text : List ℕ) (ps : List Placed) → length text ≤ end → tokens_of text ≡ Ok ps → AllByRecursion (λ p. p.at < end) ps
places_within end text ps h e = subst (AreWithin end) e (from_within end 0 0 text (omega arith))
