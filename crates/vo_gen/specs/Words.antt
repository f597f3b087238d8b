-- The words that a number gives: those of a ChaCha8 generator.
use Rattle.std.specs.Prelude.{ℕ, List, ◌++◌, replicate}
use Rattle.std.specs.Int.{w64, to_le_bytes}
use Rattle.rand_chacha.specs.ChaCha.{word_at, key_of}

-- a seed is 32 bytes: the number's eight, the low one first, and zeros
abbrev pub seed_of : ℕ → List ℕ
seed_of number = to_le_bytes w64 number ++ replicate 24 0

-- the eight words of key that the number's seed gives
unfoldable pub key_of_number : ℕ → List ℕ
key_of_number number = key_of (seed_of number)

-- the word at this place of the generator's first stream; eight rounds are four double rounds
unfoldable pub word_of : List ℕ → ℕ → ℕ
word_of key place = word_at 4 key 0 place

-- what contracts see of a generator: its key, and how many words it has given
pub record Drawn : Type 0 where
  pub key : List ℕ
  pub place : ℕ
