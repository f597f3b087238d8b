-- How a rule is read: from the left, one token ahead, to its value or the first fault, with the
-- tokens that are left.
use Rattle.std.specs.Prelude.{ℕ, zero, suc, Bool, true, false, if◌then◌else◌, List, [], ◌∷◌, length, Option, Some, None, Result, Ok, Err}
use Rattle.grammar.specs.Language.{Language}
use Rattle.grammar.specs.Rule.{Rule, Grammar, nothing, token, both, either, many, means, inside}
use Rattle.grammar.specs.Checks.{has, first}
use Rattle.grammar.specs.declared.ParseFault.{ParseFault}
use Rattle.grammar.specs.declared.ParseFault.TheVariants.{Syntax, Nesting, TooMany}

-- a value or a fault, and the tokens that are left
abbrev pub Found : Type 0 → Type 0 → Type 0
Found T A = Result A ParseFault × List T

-- how what nests is read, behind the token that opens it
abbrev pub Reader : Language → Type 0
Reader l = l.Nonterminal → l.Token → List l.Token → Found l.Token l.Tree

-- the first token is of one of these kinds
abbrev pub begins : (l : Language) → List l.Kind → List l.Token → Bool
begins l ks [] = false
begins l ks (t ∷ _) = has l ks (l.kind t)

abbrev pub and_then : {T A B : Type 0} → Found T A → (A → List T → Found T B) → Found T B
and_then (Ok a, rest) f = f a rest
and_then (Err s, rest) f = (Err s, rest)

abbrev pub take_token : (l : Language) → l.Kind → List l.Token → Found l.Token l.Token
take_token l k [] = (Err Syntax, [])
take_token l k (t ∷ ts) = if l.same (l.kind t) k then (Ok t, ts) else (Err Syntax, t ∷ ts)

abbrev pub is_full : Option ℕ → Bool
is_full None = false
is_full (Some zero) = true
is_full (Some (suc n)) = false

abbrev pub one_less : Option ℕ → Option ℕ
one_less None = None
one_less (Some zero) = Some zero
one_less (Some (suc n)) = Some n

-- rounds of `next` while `go` holds, at most as many as `fuel`, which the number of tokens is
-- enough for
abbrev pub rounds : {T A : Type 0} → (List T → Bool) → (List T → Found T A) → Option ℕ → ℕ → List T
    → Found T (List A)
rounds go next limit zero ts = (Ok [], ts)
rounds go next limit (suc fuel) ts =
    if go ts
    then (if is_full limit
    then (Err TooMany, ts)
    else and_then (next ts) (λ v rest. and_then (rounds go next (one_less limit) fuel rest)
    (λ vs end. (Ok (v ∷ vs), end))))
    else (Ok [], ts)

abbrev pub read : {l : Language} {A : Type 0} → Reader l → Rule l A → List l.Token → Found l.Token A
read R (nothing a) ts = (Ok a, ts)
read {l} R (token k) ts = take_token l k ts
read R (both p q) ts = and_then (read R p ts)
    (λ a rest. and_then (read R q rest) (λ b end. (Ok (a, b), end)))
read {l} R (either p q) ts = if begins l (first p) ts then read R p ts else read R q ts
read {l} R (many limit p) ts = rounds (begins l (first p)) (read R p) limit (length ts) ts
read R (means f p) ts = and_then (read R p ts) (λ a rest. (Ok (f a), rest))
read {l} R (inside k n) ts = and_then (take_token l k ts) (R n)

-- with so many levels left
abbrev pub reader : {l : Language} → Grammar l → ℕ → Reader l
reader g zero n t ts = (Err Nesting, t ∷ ts)
reader g (suc levels) n t ts = read (reader g levels) (g.rule n) ts

abbrev pub at_end : {T A : Type 0} → Found T A → Found T A
at_end (Ok v, []) = (Ok v, [])
at_end (Ok v, t ∷ ts) = (Err Syntax, t ∷ ts)
at_end (Err s, ts) = (Err s, ts)

-- the whole list
abbrev pub parse : {l : Language} {A : Type 0} → Grammar l → ℕ → Rule l A → List l.Token
    → Found l.Token A
parse g levels p ts = at_end (read (reader g levels) p ts)
