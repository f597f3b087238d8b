-- Rules: what a text may be, and its value.
use Rattle.std.specs.Prelude.{ℕ, List, Option}
use Rattle.grammar.specs.Language.{Language}

pub data Rule (l : Language) : Type 0 → Type 1 where
  -- no token, with this value
  nothing : {A : Type 0} → A → Rule l A
  -- a token of this kind
  token : l.Kind → Rule l l.Token
  -- the one, then the other
  both : {A B : Type 0} → Rule l A → Rule l B → Rule l (A × B)
  -- the one or the other
  either : {A : Type 0} → Rule l A → Rule l A → Rule l A
  -- any number of times, or at most so many
  many : {A : Type 0} → Option ℕ → Rule l A → Rule l (List A)
  -- the same texts, with another value
  means : {A B : Type 0} → (A → B) → Rule l A → Rule l B
  -- a token of this kind, and what may stand in itself, one level deeper
  inside : l.Kind → l.Nonterminal → Rule l l.Tree

-- the rule of each nonterminal, and the kinds of the tokens with which one that has ended could go
-- on
pub record Grammar (l : Language) : Type 1 where
  pub rule : l.Nonterminal → Rule l l.Tree
  pub after : l.Nonterminal → List l.Kind
