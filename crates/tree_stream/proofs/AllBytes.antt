-- Parts of bytes are bytes, and so is what is put together of bytes.
use Rattle.std.proofs.Common.{◌≡◌, ℕ, zero, suc, ◌<◌, true, ltb, List, [], ◌∷◌, ◌++◌, length, refl, subst, arith}
use Rattle.std.specs.List.{list_all}
use Rattle.std.proofs.lemmas.Bool.{ltb-true}
use Rattle.std.proofs.lemmas.List.{take_at}
use Rattle.vo_spec.specs.Bytes.{IsBytes}
use Rattle.row_bytes.proofs.Readers.{IsBytes-take, IsBytes-rest}
use Rattle.batch_format.proofs.ReaderLaws.{all_true}

-- the bytes before what stands at the end
pub IsBytes-before : (xs ys bytes : List ℕ) → bytes ≡ xs ++ ys → IsBytes bytes → IsBytes xs
IsBytes-before xs ys bytes e h = subst IsBytes (take_at xs ys (length xs) refl) (IsBytes-take (length xs) (xs ++ ys) (subst IsBytes e h))

pub IsBytes-nil : IsBytes []
IsBytes-nil i = omega arith

pub IsBytes-cons : (x : ℕ) (xs : List ℕ) → x < 256 → IsBytes xs → IsBytes (x ∷ xs)
IsBytes-cons x xs below others zero = below
IsBytes-cons x xs below others (suc i) = others i

pub IsBytes-append : (xs ys : List ℕ) → IsBytes xs → IsBytes ys → IsBytes (xs ++ ys)
IsBytes-append [] ys front behind = behind
IsBytes-append (x ∷ xs) ys front behind = IsBytes-cons x (xs ++ ys) (front 0) (IsBytes-append xs ys (IsBytes-rest x xs front) behind)

-- each of them was tested
pub IsBytes-tested : (bytes : List ℕ) → list_all (λ byte. ltb byte 256) bytes ≡ true → IsBytes bytes
IsBytes-tested [] is = IsBytes-nil
IsBytes-tested (byte ∷ bytes) is =
    let both = all_true (ltb byte 256) (list_all (λ b. ltb b 256) bytes) is in
    IsBytes-cons byte bytes (ltb-true byte 256 both.0) (IsBytes-tested bytes both.1)
