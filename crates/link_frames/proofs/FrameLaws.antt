-- What is spelled as a frame is read as that frame.
use Rattle.std.proofs.Common.{◌≡◌, ℕ, suc, ◌+◌, ◌-◌, ◌<◌, ◌^◌, Bool, true, false, ◌&&◌, eqb, ltb, List, ◌∷◌, ◌++◌, length, Some, refl, arith, append_assoc, length-append, IsTrue}
use Rattle.std.proofs.lemmas.List.{take_at, drop_at}
use Rattle.std.proofs.lemmas.Bool.Decides.{nat_tests}
use Rattle.std.proofs.lemmas.Nat.{from_be_bytes-to_be_bytes_4}
use Rattle.vo_spec.specs.Bytes.{u32_bytes, u32_of}
use Rattle.link_frames.specs.declared.awaits.Awaits.{Awaits}
use Rattle.link_frames.specs.declared.frame_kind.FrameKind.{FrameKind}
use Rattle.link_frames.specs.declared.frame_kind.FrameKind.TheVariants as kind
use Rattle.link_frames.specs.Frames.{Whole, code_of, kind_of, is_length, may_come, frame_bytes, with_body, with_kind, behind_length, first_frame}

kind_of-code_of : (k : FrameKind) → kind_of (code_of k) ≡ Some k
kind_of-code_of kind.Query = refl
kind_of-code_of kind.Status = refl
kind_of-code_of kind.Propose = refl
kind_of-code_of kind.Install = refl
kind_of-code_of kind.QueryAt = refl
kind_of-code_of kind.Reply = refl
kind_of-code_of kind.Standing = refl
kind_of-code_of kind.Proofs = refl
kind_of-code_of kind.Installed = refl
kind_of-code_of kind.Refusal = refl

second_true : (a b : Bool) → IsTrue (a && b) → IsTrue b
second_true true b h = h
second_true false b h = absurd (cc h)

-- a body of a frame is short enough for its length
pub below_limit : (k : FrameKind) (n : ℕ) → IsTrue (is_length k n) → n + 1 < 2 ^ 32
below_limit kind.Query n h = grind (arith, nat_tests)
below_limit kind.Status n h = grind (arith, nat_tests)
below_limit kind.Propose n h = grind (arith, nat_tests)
below_limit kind.Install n h = grind (arith, nat_tests)
below_limit kind.QueryAt n h = grind (arith, nat_tests)
below_limit kind.Reply n h = grind (arith, nat_tests)
below_limit kind.Standing n h = grind (arith, nat_tests)
below_limit kind.Proofs n h = grind (arith, nat_tests)
below_limit kind.Installed n h = grind (arith, nat_tests)
below_limit kind.Refusal n h = grind (arith, nat_tests)

-- the same of a frame that may come
pub allowed_length : (awaits : Awaits) (k : FrameKind) (n : ℕ) → IsTrue (may_come awaits k && is_length k n)
    → n + 1 < 2 ^ 32
allowed_length awaits k n h = below_limit k n (second_true (may_come awaits k) (is_length k n) h)

pub length-u32 : (n : ℕ) → length (u32_bytes n) ≡ 4
unfolding u32_bytes
length-u32 n = refl

u32_of-u32_bytes : (n : ℕ) → n < 2 ^ 32 → u32_of (u32_bytes n) ≡ n
unfolding u32_bytes u32_of
u32_of-u32_bytes n lt = from_be_bytes-to_be_bytes_4 n lt

-- bytes that begin with these four
pub first_frame-append : (awaits : Awaits) (word rest : List ℕ) → length word ≡ 4
    → first_frame awaits (word ++ rest) ≡ behind_length awaits (u32_of word) rest
unfolding first_frame
first_frame-append awaits word rest four =
    let all : length (word ++ rest) ≡ 4 + length rest = omega (arith, length-append word rest) in
    let some : eqb (length (word ++ rest)) 0 ≡ false = grind (arith, nat_tests) in
    let enough : ltb (length (word ++ rest)) 4 ≡ false = grind (arith, nat_tests) in
    rw (some, enough, take_at word rest 4 four, drop_at word rest 4 four) refl

behind_length-cons : (awaits : Awaits) (n code : ℕ) (rest : List ℕ)
    → behind_length awaits (n + 1) (code ∷ rest) ≡ with_kind awaits (kind_of code) n rest
unfolding behind_length
behind_length-cons awaits n code rest =
    let some : eqb (n + 1) 0 ≡ false = grind (arith, nat_tests) in
    let more : eqb (suc (length rest)) 0 ≡ false = grind (arith, nat_tests) in
    let same : n + 1 - 1 ≡ n = omega arith in
    rw (some, more, same) refl

with_body-append : (k : FrameKind) (body rest : List ℕ) → with_body k (length body) (body ++ rest) ≡ Whole k body
with_body-append k body rest =
    let enough : ltb (length (body ++ rest)) (length body) ≡ false =
    let all : length (body ++ rest) ≡ length body + length rest = length-append body rest in
    grind (arith, nat_tests) in
    rw (enough, take_at body rest (length body) refl) refl

allowed : (awaits : Awaits) (k : FrameKind) (n : ℕ) (bytes : List ℕ) → IsTrue (may_come awaits k)
    → IsTrue (is_length k n) → with_kind awaits (Some k) n bytes ≡ with_body k n bytes
allowed awaits k n bytes may fits =
    let m : may_come awaits k ≡ true = may in
    let f : is_length k n ≡ true = fits in
    rw (m, f) refl

pub read_back : (awaits : Awaits) (k : FrameKind) (body rest : List ℕ) → IsTrue (may_come awaits k)
    → IsTrue (is_length k (length body)) → first_frame awaits (frame_bytes k body ++ rest) ≡ Whole k body
read_back awaits k body rest may fits =
    let n : ℕ = length body + 1 in
    let short : n < 2 ^ 32 = below_limit k (length body) fits in
    rw (
      append_assoc (u32_bytes n) (code_of k ∷ body) rest,
      first_frame-append awaits (u32_bytes n) (code_of k ∷ body ++ rest) (length-u32 n),
      u32_of-u32_bytes n short,
      behind_length-cons awaits (length body) (code_of k) (body ++ rest),
      kind_of-code_of k,
      allowed awaits k (length body) (body ++ rest) may fits,
    )
    (with_body-append k body rest)
