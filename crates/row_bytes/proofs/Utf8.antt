-- The test of UTF-8 and the fact.
use Rattle.std.proofs.Common.{◌≡◌, ℕ, Bool, true, false, List, refl, sym}
use Rattle.std.specs.Str.{IsUtf8, is_utf8}
use Rattle.std.proofs.lemmas.Str.{IsUtf8-from_is_utf8, is_utf8-from_IsUtf8}

false_from_not : (b : Bool) → (b ≡ true → ⊥) → false ≡ b
false_from_not true h = absurd (h refl)
false_from_not false h = refl

pub passes : (bytes : List ℕ) → IsUtf8 bytes → true ≡ is_utf8 bytes
passes bytes h = sym (is_utf8-from_IsUtf8 bytes h)

pub fails : (bytes : List ℕ) → ¬ (IsUtf8 bytes) → false ≡ is_utf8 bytes
fails bytes h = false_from_not (is_utf8 bytes) (λ e. h (IsUtf8-from_is_utf8 bytes e))
