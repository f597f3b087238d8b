-- The tokens of a language, and what may stand in itself.
use Rattle.std.specs.Prelude.{◌≡◌, Bool, true}

pub record Language : Type 1 where
  -- the kinds that rules name, and their test for equality
  pub Kind : Type 0
  pub same : Kind → Kind → Bool
  -- the tokens, the kind of each, and which of them stand in some text
  pub Token : Type 0
  pub kind : Token → Kind
  pub IsToken : Token → Type 0
  -- what may stand in itself, a test of all of these, and the value of each
  pub Nonterminal : Type 0
  pub every : (Nonterminal → Bool) → Bool
  pub Tree : Type 0

-- the test tells kinds apart, some text has a token of each kind, and `every` tests all
-- nonterminals
pub record IsLanguage (l : Language) : Type 0 where
  pub same_true : (a b : l.Kind) → l.same a b ≡ true → a ≡ b
  pub same_self : (a : l.Kind) → l.same a a ≡ true
  pub some_token : (k : l.Kind) → (t : l.Token) × (l.kind t ≡ k) × l.IsToken t
  pub each : (test : l.Nonterminal → Bool) → l.every test ≡ true → (n : l.Nonterminal)
      → test n ≡ true
