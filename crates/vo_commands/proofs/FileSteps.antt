-- Work on the bytes of key files and scripts.
use Rattle.std.proofs.Common.{◌≡◌, ◌≢◌, ◌↔◌, Bool, true, false, List, ℕ, Result, Ok, Err, length, refl}
use Rattle.std.proofs.Common.{inl, inr}
use Rattle.std.specs.Prelude.{◌⊎◌, ◌==◌}
use Rattle.std.specs.Str.{IsUtf8, is_utf8}
use Rattle.std.proofs.lemmas.Str.{IsUtf8-from_is_utf8, is_utf8-from_IsUtf8}
use Rattle.std.proofs.lemmas.Bool.{eqb-true, eqb-false, ne_eqb}
use Rattle.vo_spec.specs.Keys.{IsUnknownSet, is_public_key}
use Rattle.lms_sign.specs.declared.public_key.KeyFault.{KeyFault}
use Rattle.lms_sign.specs.declared.public_key.KeyFault.TheVariants.{Length, UnknownSet}
use Rattle.std.specs.Prelude.{[], ◌∷◌, codes}
use Rattle.outside.specs.Outputs.{Output}
use Rattle.vo_commands.specs.Lines.{input_refusal}
use Rattle.vo_commands.specs.Expected.{Expected, Exactly, with_public, with_text}

abbrev FaultsRight : List ℕ → Result (List ℕ) KeyFault → Type 0
FaultsRight bytes r = ((r ≡ Err Length) ↔ (length bytes ≢ 56) × (length bytes ≢ 60)) × ((r ≡ Err UnknownSet) ↔ IsUnknownSet bytes)

ok_not_err : {A E : Type 0} (a : A) (f : E) → Ok a ≡ Err f → ⊥
ok_not_err a f e = cc

unknown : (bytes : List ℕ) → (length bytes ≡ 56) ⊎ (length bytes ≡ 60) → is_public_key bytes ≡ false → IsUnknownSet bytes
unfolding IsUnknownSet
unknown bytes long none = (long, none)

-- what is read is the key of a key file
key_of_file : (bytes key : List ℕ) → FaultsRight bytes (Ok key) → is_public_key bytes ≡ true
key_of_file bytes key right = step (is_public_key bytes) refl
  where
    none : (one two : Bool) → (length bytes == 56) ≡ one → (length bytes == 60) ≡ two → is_public_key bytes ≡ false → ⊥
    none true two e f other = ok_not_err key UnknownSet (right.1.1 (unknown bytes (inl (eqb-true (length bytes) 56 e)) other))
    none false true e f other = ok_not_err key UnknownSet (right.1.1 (unknown bytes (inr (eqb-true (length bytes) 60 f)) other))
    none false false e f other = ok_not_err key Length (right.0.1 (eqb-false (length bytes) 56 e, eqb-false (length bytes) 60 f))

    step : (b : Bool) → is_public_key bytes ≡ b → is_public_key bytes ≡ true
    step true e = e
    step false e = absurd (none (length bytes == 56) (length bytes == 60) refl refl e)

no_key_of_length : (bytes : List ℕ) → length bytes ≢ 56 → length bytes ≢ 60 → is_public_key bytes ≡ false
unfolding is_public_key
no_key_of_length bytes one two = rw (ne_eqb (length bytes) 60 two, ne_eqb (length bytes) 56 one) refl

no_key_of_set : (bytes : List ℕ) → IsUnknownSet bytes → is_public_key bytes ≡ false
unfolding IsUnknownSet
no_key_of_set bytes unknown = unknown.1

no_key : (bytes : List ℕ) (f : KeyFault) → FaultsRight bytes (Err f) → is_public_key bytes ≡ false
no_key bytes Length right = no_key_of_length bytes (right.0.0 refl).0 (right.0.0 refl).1
no_key bytes UnknownSet right = no_key_of_set bytes (right.1.0 refl)

pub key_goes_on : (bytes key : List ℕ) → key ≡ bytes → FaultsRight bytes (Ok key) → (rest : List ℕ → Expected) → with_public rest bytes ≡ rest key
key_goes_on bytes key same right rest = rw (same, key_of_file bytes key right) refl

pub no_key_refused : (bytes : List ℕ) (f : KeyFault) (output : Output) → FaultsRight bytes (Err f) → output ≡ input_refusal (codes "key file" ∷ []) → (rest : List ℕ → Expected) → with_public rest bytes ≡ Exactly output
no_key_refused bytes f output right same rest = rw (same, no_key bytes f right) refl

pub text_goes_on : (bytes text : List ℕ) → text ≡ bytes → IsUtf8 bytes → (rest : List ℕ → Expected) → with_text rest bytes ≡ rest text
text_goes_on bytes text same utf8 rest = rw (same, is_utf8-from_IsUtf8 bytes utf8) refl

pub no_text_refused : (bytes : List ℕ) (output : Output) → ¬ (IsUtf8 bytes) → output ≡ input_refusal (codes "not text" ∷ []) → (rest : List ℕ → Expected) → with_text rest bytes ≡ Exactly output
no_text_refused bytes output broken same rest = step (is_utf8 bytes) refl
  where
    step : (b : Bool) → is_utf8 bytes ≡ b → with_text rest bytes ≡ Exactly output
    step true e = absurd (broken (IsUtf8-from_is_utf8 bytes e))
    step false e = rw (same, e) refl
