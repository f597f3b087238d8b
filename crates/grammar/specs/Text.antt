-- The texts of a rule with their values, and what a fault in a text is.
use Rattle.std.specs.Prelude.{◌≡◌, ℕ, zero, suc, ◌≤◌, Bool, true, false, List, [], ◌∷◌, ◌++◌, length, Option, Some, None, Result, Ok, Err, ◌⊎◌}
use Rattle.grammar.specs.Language.{Language}
use Rattle.grammar.specs.Rule.{Rule, Grammar, nothing, token, both, either, many, means, inside}
use Rattle.grammar.specs.declared.ParseFault.{ParseFault}
use Rattle.grammar.specs.declared.ParseFault.TheVariants.{Syntax, Nesting, TooMany}

-- which tokens spell which value of a nonterminal
abbrev pub Nests : Language → Type 1
Nests l = l.Nonterminal → List l.Token → l.Tree → Type 0

-- a number of parts that a limit allows, where limits count
abbrev pub Within : Bool → Option ℕ → ℕ → Type 0
Within false limit n = Unit {0}
Within true None n = Unit {0}
Within true (Some most) n = n ≤ most

-- the tokens are those of each value in turn
abbrev pub Repeats : {T A : Type 0} → (List T → A → Type 0) → List T → List A → Type 0
Repeats S ts [] = ts ≡ []
Repeats {T} S ts (v ∷ vs) = (x y : List T) × (ts ≡ x ++ y) × S x v × Repeats S y vs

-- these tokens are a text of the rule, and this is its value
abbrev pub Spells : {l : Language} {A : Type 0} → Nests l → Bool → Rule l A → List l.Token
    → A → Type 0
Spells N counted (nothing a) ts v = (ts ≡ []) × (v ≡ a)
Spells {l} N counted (token k) ts v = l.IsToken v × (l.kind v ≡ k) × (ts ≡ v ∷ [])
Spells {l} N counted (both p q) ts v = (x y : List l.Token) × (ts ≡ x ++ y)
    × Spells N counted p x v.0 × Spells N counted q y v.1
Spells N counted (either p q) ts v = Spells N counted p ts v ⊎ Spells N counted q ts v
Spells N counted (many limit p) ts vs = Within counted limit (length vs)
    × Repeats (Spells N counted p) ts vs
Spells N counted (means {A} f p) ts v = (a : A) × Spells N counted p ts a × (v ≡ f a)
Spells {l} N counted (inside k n) ts v = (t : l.Token) × (rest : List l.Token) × l.IsToken t
    × (l.kind t ≡ k) × (ts ≡ t ∷ rest) × N n rest v

-- what nests, in at most so many levels
abbrev pub NestsIn : {l : Language} → Grammar l → Bool → ℕ → Nests l
NestsIn g counted zero n ts v = ⊥
NestsIn g counted (suc levels) n ts v = Spells (NestsIn g counted levels) counted (g.rule n) ts v

-- a text of the rule with at most so many levels inside it; the limits of parts hold where
-- `counted`
abbrev pub IsText : {l : Language} {A : Type 0} → Grammar l → Bool → ℕ → Rule l A → List l.Token
    → A → Type 0
IsText g counted levels p ts v = Spells (NestsIn g counted levels) counted p ts v

-- some text begins with these tokens
abbrev pub Begins : {l : Language} {A : Type 0} → Grammar l → Bool → ℕ → Rule l A
    → List l.Token → Type 0
Begins {l} {A} g counted levels p ts = (more : List l.Token) × (v : A)
    × IsText g counted levels p (ts ++ more) v

-- why the token that comes after `front`, or the end, is a fault
abbrev pub StopsAt : {l : Language} {A : Type 0} → Grammar l → ℕ → Rule l A → List l.Token
    → ParseFault → List l.Token → Type 0
-- the text is none, however many levels and parts it may have
StopsAt {l} {A} g levels p front Syntax [] = (counted : Bool) (n : ℕ) (v : A)
    → IsText g counted n p front v → ⊥
-- no text goes on with this token, however many levels and parts it may have
StopsAt g levels p front Syntax (t ∷ _) = (counted : Bool) (n : ℕ)
    → Begins g counted n p (front ++ t ∷ []) → ⊥
-- texts of one level more do, and none of these levels, however many parts it may have
StopsAt g levels p front Nesting [] = ⊥
StopsAt g levels p front Nesting (t ∷ _) =
    Begins g true (suc levels) p (front ++ t ∷ [])
    × ((counted : Bool) → Begins g counted levels p (front ++ t ∷ []) → ⊥)
-- texts of more parts do, and none of these parts, however many levels it may have
StopsAt g levels p front TooMany [] = ⊥
StopsAt g levels p front TooMany (t ∷ _) =
    Begins g false (suc levels) p (front ++ t ∷ [])
    × ((n : ℕ) → Begins g true n p (front ++ t ∷ []) → ⊥)

-- what stands before the fault begins a text, and the token at the fault, the first of `rest`,
-- doesn't go on with it
abbrev pub FaultsAt : {l : Language} {A : Type 0} → Grammar l → ℕ → Rule l A → List l.Token
    → ParseFault → List l.Token → Type 0
FaultsAt {l} g levels p ts s rest =
    (front : List l.Token) × (ts ≡ front ++ rest) × Begins g true levels p front
    × StopsAt g levels p front s rest

-- the answer on a list of tokens: its value, or its one fault and what is left from there on
abbrev pub Judges : {l : Language} {A : Type 0} → Grammar l → ℕ → Rule l A → List l.Token
    → Result A ParseFault → List l.Token → Type 0
Judges g levels p ts (Ok v) rest = IsText g true levels p ts v
Judges g levels p ts (Err s) rest = FaultsAt g levels p ts s rest
