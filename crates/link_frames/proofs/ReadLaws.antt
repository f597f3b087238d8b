-- Reads that go on where others ended.
use Rattle.std.proofs.Common.{◌≡◌, ◌≢◌, ℕ, ◌+◌, ◌-◌, ◌<◌, ◌≤◌, Bool, true, false, ◌&&◌, cond, eqb, ltb, List, [], ◌∷◌, ◌++◌, length, take, drop, get_or, min, Option, Some, None, Result, Ok, Err, refl, sym, ap, ◌∙◌, subst, inl, inr, arith, append-nil, IsTrue}
use Rattle.std.proofs.lemmas.List.{drop-drop, drop_all, length-take, length-take-le}
use Rattle.std.specs.Int.{w32, from_be_bytes}
use Rattle.std.proofs.lemmas.Bool.{eqb-true}
use Rattle.std.proofs.lemmas.Bool.Decides.{nat_tests}
use Rattle.outside.specs.ConnectionModel.{ConnectionModel, take_from, send_on}
use Rattle.vo_spec.specs.Bytes.{u32_of}
use Rattle.link_frames.specs.declared.awaits.Awaits.{Awaits}
use Rattle.link_frames.specs.declared.frame.NoFrame.{NoFrame}
use Rattle.link_frames.specs.declared.frame.NoFrame.TheVariants as no_frame
use Rattle.link_frames.specs.declared.head.FrameHead.{FrameHead}
use Rattle.link_frames.specs.declared.frame_kind.FrameKind.{FrameKind}
use Rattle.link_frames.specs.declared.frame_kind.FrameKind.TheVariants.{Refusal}
use Rattle.link_frames.specs.Frames.{Coming, Whole, Ended, Cut, Bad, span, with_body, with_kind, may_come, is_length, behind_length, first_frame, kind_of}
use Rattle.link_frames.specs.Reading.{Took, IsFrame, TookAtMost, TookFewer, TookPart, TookRest, TookRestOrFront, TookWithin, ReadsAs, Adds, ReadsHead, Fills, GathersBytes, IsHeadOf, AsksAs, IsBrokenOff, IsHalfAsked}

-- taken twice is taken at once
pub took_later : (k n : ℕ) (w : ConnectionModel) (wire : Option ConnectionModel)
    → Took n (take_from k w) wire → Took (k + n) w wire
took_later k n w wire t =
    t ∙ ap (λ (bytes : List ℕ). Some (record w { coming = bytes })) (drop-drop n k w.coming)

within_later : (k : ℕ) (first : Coming) (w : ConnectionModel) (wire : Option ConnectionModel)
    → TookWithin k first (take_from k w) wire → TookWithin 0 first w wire
within_later k first w wire t = (k + t.0, omega (arith, t.1), took_later k t.0 w wire t.2)

part_later : (k : ℕ) (first : Coming) (w : ConnectionModel) (wire : Option ConnectionModel)
    → TookPart k first (take_from k w) wire → TookPart 0 first w wire
part_later k first w wire t =
    (k + t.0, omega (arith, t.1), λ is. omega (arith, t.2 is), took_later k t.0 w wire t.3)

rest_later : (k : ℕ) (first : Coming) (w : ConnectionModel) (wire : Option ConnectionModel)
    → TookRest k first (take_from k w) wire → TookRest 0 first w wire
rest_later k first w wire t = (k + t.0, omega (arith, t.1), took_later k t.0 w wire t.2)

fault_later : (k : ℕ) (first : Coming) (fault : NoFrame) (w : ConnectionModel) (wire : Option ConnectionModel)
    → TookRestOrFront k first fault (take_from k w) wire → TookRestOrFront 0 first fault w wire
fault_later k first no_frame.LinkFault w wire t = part_later k first w wire t
fault_later k first no_frame.Memory w wire t = within_later k first w wire t
fault_later k first no_frame.Ended w wire t = rest_later k first w wire t
fault_later k first (no_frame.Cut got) w wire t = rest_later k first w wire t
fault_later k first (no_frame.BadFrame size) w wire t = rest_later k first w wire t

-- a head whose first bytes were taken before
pub head_later : (k : ℕ) (first : Coming) (result : Result FrameHead NoFrame) (w : ConnectionModel)
    (wire : Option ConnectionModel) → ReadsHead k first result (take_from k w) wire → ReadsHead 0 first result w wire
head_later k first (Ok head) w wire h =
    let more : drop h.0 (drop k w.coming) ≡ drop (k + h.0) w.coming = drop-drop h.0 k w.coming in
    (k + h.0, omega (arith, h.1), h.2 ∙ ap (with_body head.kind head.length) more, took_later k h.0 w wire h.3)
head_later k first (Err fault) w wire h = (h.0, fault_later k first fault w wire h.1)

-- a frame whose head was taken before
frame_later : {X : Type 0} (Is : Coming → X → Type 0) (k : ℕ) (first : Coming) (result : Result X NoFrame)
    (w : ConnectionModel) (wire : Option ConnectionModel) → ReadsAs Is k first result (take_from k w) wire
    → ReadsAs Is 0 first result w wire
frame_later Is k first (Ok x) w wire h = (h.0, rest_later k first w wire h.1)
frame_later Is k first (Err fault) w wire h = (h.0, fault_later k first fault w wire h.1)

-- How much of what comes first a failed read took.

span_if : (b : Bool) (x y : Coming) (k : ℕ) → (b ≡ true → k ≤ span x) → (b ≡ false → k ≤ span y)
    → k ≤ span (cond b x y)
span_if true x y k h l = h refl
span_if false x y k h l = l refl

span-body : (kind : FrameKind) (n : ℕ) (bytes : List ℕ)
    → 5 + min n (length bytes) ≤ span (with_body kind n bytes)
span-body kind n bytes =
    span_if (ltb (length bytes) n) (Cut (5 + length bytes)) (Whole kind (take n bytes)) (5 + min n (length bytes))
    (λ short. omega arith) (λ long. omega (arith, length-take n bytes))

span-kind : (awaits : Awaits) (kind : Option FrameKind) (n : ℕ) (bytes : List ℕ)
    → 5 ≤ span (with_kind awaits kind n bytes)
span-kind awaits None n bytes = omega arith
span-kind awaits (Some kind) n bytes =
    span_if (may_come awaits kind && is_length kind n) (with_body kind n bytes) (Bad (n + 1) 5) 5
    (λ may. omega (arith, span-body kind n bytes)) (λ none. omega arith)

span-behind_length : (awaits : Awaits) (n : ℕ) (bytes : List ℕ) → 4 ≤ span (behind_length awaits n bytes)
unfolding behind_length
span-behind_length awaits n bytes =
    span_if (eqb n 0) (Bad 0 4) (cond (eqb (length bytes) 0) (Cut 4) (with_kind awaits (kind_of (get_or bytes 0 0)) (n - 1) (drop 1 bytes))) 4
    (λ zero_. omega arith)
    (λ some. span_if (eqb (length bytes) 0) (Cut 4) (with_kind awaits (kind_of (get_or bytes 0 0)) (n - 1) (drop 1 bytes)) 4
    (λ none. omega arith) (λ more. omega (arith, span-kind awaits (kind_of (get_or bytes 0 0)) (n - 1) (drop 1 bytes))))

span-first_frame : (awaits : Awaits) (bytes : List ℕ) → min 4 (length bytes) ≤ span (first_frame awaits bytes)
unfolding first_frame
span-first_frame awaits bytes =
    let behind : Coming = behind_length awaits (u32_of (take 4 bytes)) (drop 4 bytes) in
    span_if (eqb (length bytes) 0) Ended (cond (ltb (length bytes) 4) (Cut (length bytes)) behind) (min 4 (length bytes))
    (λ none. omega (arith, eqb-true (length bytes) 0 none))
    (λ some. span_if (ltb (length bytes) 4) (Cut (length bytes)) behind (min 4 (length bytes))
    (λ short. omega arith)
    (λ long. omega (arith, span-behind_length awaits (u32_of (take 4 bytes)) (drop 4 bytes))))

behind_length-some : (awaits : Awaits) (n : ℕ) (coming : List ℕ) → 0 < n → 0 < length coming
    → behind_length awaits n coming ≡ with_kind awaits (kind_of (get_or coming 0 0)) (n - 1) (drop 1 coming)
unfolding behind_length
behind_length-some awaits n coming some more =
    let zero_not : eqb n 0 ≡ false = grind (arith, nat_tests) in
    let some_test : eqb (length coming) 0 ≡ false = grind (arith, nat_tests) in
    rw (zero_not, some_test) refl

span-frame : (first : Coming) → IsFrame first → 5 ≤ span first
span-frame (Whole kind body) is = omega arith
span-frame Ended is = absurd is
span-frame (Cut got) is = absurd is
span-frame (Bad size taken) is = absurd is

body-frame : (kind : FrameKind) (n : ℕ) (bytes : List ℕ) → IsFrame (with_body kind n bytes)
    → 5 + n ≤ span (with_body kind n bytes)
body-frame kind n bytes is = step (ltb (length bytes) n) refl is
  where
    step : (b : Bool) → ltb (length bytes) n ≡ b
        → IsFrame (cond b (Cut (5 + length bytes)) (Whole kind (take n bytes)))
        → 5 + n ≤ span (cond (ltb (length bytes) n) (Cut (5 + length bytes)) (Whole kind (take n bytes)))
    step true short is = absurd is
    step false long is =
        let enough : n ≤ length bytes = grind (arith, nat_tests) in
        rw long (omega (arith, length-take n bytes))

-- in the midst of the length
pub length_fails : (awaits : Awaits) (w : ConnectionModel) (wire : Option ConnectionModel)
    → TookFewer 4 w wire → TookPart 0 (first_frame awaits w.coming) w wire
length_fails awaits w wire t = (
  t.0,
  omega (arith, t.1, t.2, span-first_frame awaits w.coming),
  λ is. omega (arith, t.1, span-frame (first_frame awaits w.coming) is),
  t.3,
)

-- at the kind
pub kind_fails : (awaits : Awaits) (n : ℕ) (w : ConnectionModel) (wire : Option ConnectionModel) → 0 < n
    → TookFewer 1 w wire → TookPart 4 (behind_length awaits n w.coming) w wire
kind_fails awaits n w wire some t = (
  t.0,
  omega (arith, t.1, span-behind_length awaits n w.coming),
  λ is. omega (arith, t.1, span-frame (behind_length awaits n w.coming) is),
  t.3,
)

-- in the midst of the body
pub body_fails : (kind : FrameKind) (n : ℕ) (w : ConnectionModel) (wire : Option ConnectionModel)
    → TookFewer n w wire → TookPart 5 (with_body kind n w.coming) w wire
body_fails kind n w wire t = (
  t.0,
  omega (arith, t.1, t.2, span-body kind n w.coming),
  λ is. omega (arith, t.1, body-frame kind n w.coming is),
  t.3,
)

-- memory ran out in it
pub body_wants : (kind : FrameKind) (n : ℕ) (w : ConnectionModel) (wire : Option ConnectionModel)
    → TookAtMost n w wire → TookWithin 5 (with_body kind n w.coming) w wire
body_wants kind n w wire t = (t.0, omega (arith, t.1, t.2, span-body kind n w.coming), t.3)

-- The head.

-- a byte that says no kind
pub head_unknown : (awaits : Awaits) (size code : ℕ) (bytes : List ℕ) → 0 < size → kind_of code ≡ None
    → IsHeadOf (with_kind awaits (kind_of code) (size - 1) bytes) size bytes (Err (no_frame.BadFrame size))
head_unknown awaits size code bytes some none =
    let same : size - 1 + 1 ≡ size = omega arith in
    let bad : with_kind awaits (kind_of code) (size - 1) bytes ≡ Bad (size - 1 + 1) 5 =
    ap (λ (k : Option FrameKind). with_kind awaits k (size - 1) bytes) none in
    (refl, bad ∙ ap (λ (n : ℕ). Bad n 5) same)

chosen : {A : Type 0} (b c : Bool) (x y : A) → b ≡ c → cond b x y ≡ cond c x y
chosen b c x y e = ap (λ (d : Bool). cond d x y) e

-- a kind, or a length of it, that may not come
pub head_refused : (awaits : Awaits) (size code : ℕ) (kind : FrameKind) (bytes : List ℕ) → 0 < size
    → kind_of code ≡ Some kind → (may_come awaits kind && is_length kind (size - 1)) ≡ false
    → IsHeadOf (with_kind awaits (kind_of code) (size - 1) bytes) size bytes (Err (no_frame.BadFrame size))
head_refused awaits size code kind bytes some is refused =
    let same : size - 1 + 1 ≡ size = omega arith in
    let bad : with_kind awaits (kind_of code) (size - 1) bytes ≡ Bad (size - 1 + 1) 5 =
    ap (λ (k : Option FrameKind). with_kind awaits k (size - 1) bytes) is
    ∙ chosen _ false (with_body kind (size - 1) bytes) (Bad (size - 1 + 1) 5) refused in
    (refl, bad ∙ ap (λ (n : ℕ). Bad n 5) same)

-- a frame that may come
pub head_known : (awaits : Awaits) (size code : ℕ) (kind : FrameKind) (bytes : List ℕ)
    → kind_of code ≡ Some kind → (may_come awaits kind && is_length kind (size - 1)) ≡ true
    → IsHeadOf (with_kind awaits (kind_of code) (size - 1) bytes) size bytes
    (Ok (record { kind = kind; length = size - 1 }))
head_known awaits size code kind bytes is allowed =
    ap (λ (k : Option FrameKind). with_kind awaits k (size - 1) bytes) is
    ∙ chosen _ true (with_body kind (size - 1) bytes) (Bad (size - 1 + 1) 5) allowed

-- no kind comes
pub kind_cut : (E : Type 0) (awaits : Awaits) (n : ℕ) (old new : List ℕ) (w : ConnectionModel)
    (wire : Option ConnectionModel) → 0 < n → length old ≡ 1 → Fills {E = E} old new (Ok 0) w wire
    → ReadsHead 4 (behind_length awaits n w.coming) (Err (no_frame.Cut 4)) w wire
unfolding behind_length
kind_cut E awaits n old new w wire some one h =
    let zero_not : eqb n 0 ≡ false = grind (arith, nat_tests) in
    let none : length w.coming ≡ 0 = omega (arith, h.0) in
    let none_test : eqb (length w.coming) 0 ≡ true = grind (arith, nat_tests) in
    rw (zero_not, none_test) (refl, (0, refl, h.2))

-- no frame has the length 0
pub kind_zero : (awaits : Awaits) (n : ℕ) (w : ConnectionModel) (wire : Option ConnectionModel) → n ≡ 0
    → wire ≡ Some w → ReadsHead 4 (behind_length awaits n w.coming) (Err (no_frame.BadFrame n)) w wire
unfolding behind_length
kind_zero awaits n w wire zero_ is =
    rw zero_ ((4, refl), (0, refl, is))

head_result : (first : Coming) (size : ℕ) (result : Result FrameHead NoFrame) (w : ConnectionModel)
    (wire : Option ConnectionModel) → Took 1 w wire → IsHeadOf first size (drop 1 w.coming) result
    → ReadsHead 4 first result w wire
head_result first size (Ok head) w wire took h = (1, refl, h, took)
head_result first size (Err no_frame.LinkFault) w wire took h = absurd (cc h.0)
head_result first size (Err no_frame.Memory) w wire took h = absurd (cc h.0)
head_result first size (Err no_frame.Ended) w wire took h = absurd (cc h.0)
head_result first size (Err (no_frame.Cut got)) w wire took h = absurd (cc h.0)
head_result first size (Err (no_frame.BadFrame n)) w wire took h =
    let same : n ≡ size = cc h.0 in
    ((5, h.1 ∙ ap (λ (m : ℕ). Bad m 5) (sym same)), (1, sym (ap span h.1), took))

first_byte : (new coming rest : List ℕ) → 0 < length coming → new ≡ take 1 coming ++ rest
    → get_or new 0 0 ≡ get_or coming 0 0
first_byte new [] rest more is = absurd (omega arith)
first_byte new (byte ∷ bytes) rest more is = ap (λ (xs : List ℕ). get_or xs 0 0) is

word_is : (bytes : List ℕ) → from_be_bytes w32 bytes ≡ u32_of bytes
unfolding u32_of
word_is bytes = refl

first_frame-some : (awaits : Awaits) (bytes : List ℕ) → 4 ≤ length bytes
    → first_frame awaits bytes ≡ behind_length awaits (u32_of (take 4 bytes)) (drop 4 bytes)
unfolding first_frame
first_frame-some awaits bytes more =
    let some_test : eqb (length bytes) 0 ≡ false = grind (arith, nat_tests) in
    let long_test : ltb (length bytes) 4 ≡ false = grind (arith, nat_tests) in
    rw (some_test, long_test) refl

-- a kind was read
pub kind_read : (E : Type 0) (awaits : Awaits) (size n code : ℕ) (old new : List ℕ)
    (result : Result FrameHead NoFrame) (w : ConnectionModel) (wire : Option ConnectionModel)
    → 0 < size → length old ≡ 1 → n ≢ 0 → code ≡ get_or new 0 0 → Fills {E = E} old new (Ok n) w wire
    → ((bytes : List ℕ) → IsHeadOf (with_kind awaits (kind_of code) (size - 1) bytes) size bytes result)
    → ReadsHead 4 (behind_length awaits size w.coming) result w wire
kind_read E awaits size n code old new result w wire some one taken is h known =
    let n_one : n ≡ 1 = omega (arith, h.0) in
    let more : 0 < length w.coming = omega (arith, h.0) in
    let first_one : length (take 1 w.coming) ≡ 1 = length-take-le 1 w.coming (omega arith) in
    let new_is : new ≡ take 1 w.coming ++ drop 1 old = subst (λ (k : ℕ). new ≡ take k w.coming ++ drop k old) n_one h.1 in
    let byte : get_or new 0 0 ≡ get_or w.coming 0 0 = first_byte new w.coming (drop 1 old) more new_is in
    let head : behind_length awaits size w.coming ≡ with_kind awaits (kind_of code) (size - 1) (drop 1 w.coming) =
    behind_length-some awaits size w.coming some more
    ∙ ap (λ (c : ℕ). with_kind awaits (kind_of c) (size - 1) (drop 1 w.coming)) (sym byte ∙ sym is) in
    let took : Took 1 w wire = subst (λ (k : ℕ). Took k w wire) n_one h.2 in
    subst (λ (c : Coming). ReadsHead 4 c result w wire) (sym head)
    (head_result (with_kind awaits (kind_of code) (size - 1) (drop 1 w.coming)) size result w wire took (known (drop 1 w.coming)))

-- the head is whole, or the frame is none
pub not_fault : (first : Coming) (size : ℕ) (bytes : List ℕ) (result : Result FrameHead NoFrame)
    → IsHeadOf first size bytes result → result ≡ Err no_frame.LinkFault → ⊥
not_fault first size bytes (Ok head) h e = cc e
not_fault first size bytes (Err fault) h e =
    let fault_is : fault ≡ no_frame.LinkFault = cc e in
    cc (h.0, fault_is)

-- The length.

-- nothing comes
pub length_none : (E : Type 0) (awaits : Awaits) (old new : List ℕ) (w : ConnectionModel)
    (wire : Option ConnectionModel) → length old ≡ 4 → Fills {E = E} old new (Ok 0) w wire
    → ReadsHead 0 (first_frame awaits w.coming) (Err no_frame.Ended) w wire
unfolding first_frame
length_none E awaits old new w wire four h =
    let none : length w.coming ≡ 0 = omega (arith, h.0) in
    let none_test : eqb (length w.coming) 0 ≡ true = grind (arith, nat_tests) in
    rw none_test (refl, (0, refl, h.2))

-- the bytes end inside the length
pub length_cut : (E : Type 0) (awaits : Awaits) (got : ℕ) (old new : List ℕ) (w : ConnectionModel)
    (wire : Option ConnectionModel) → length old ≡ 4 → got ≢ 0 → got ≢ 4
    → Fills {E = E} old new (Ok got) w wire
    → ReadsHead 0 (first_frame awaits w.coming) (Err (no_frame.Cut got)) w wire
unfolding first_frame
length_cut E awaits got old new w wire four some short h =
    let all : length w.coming ≡ got = omega (arith, h.0) in
    let some_test : eqb (length w.coming) 0 ≡ false = grind (arith, nat_tests) in
    let short_test : ltb (length w.coming) 4 ≡ true = grind (arith, nat_tests) in
    rw (some_test, short_test, all) (refl, (got, omega arith, h.2))

-- a length was read
pub length_read : (E : Type 0) (awaits : Awaits) (number : ℕ) (old new : List ℕ)
    (result : Result FrameHead NoFrame) (w : ConnectionModel) (wire later : Option ConnectionModel)
    → length old ≡ 4 → number ≡ from_be_bytes w32 new → Fills {E = E} old new (Ok 4) w wire
    → ((mid : ConnectionModel) → wire ≡ Some mid
    → ReadsHead 4 (behind_length awaits number mid.coming) result mid later)
    → ReadsHead 0 (first_frame awaits w.coming) result w later
length_read E awaits number old new result w wire later four is h known =
    let more : 4 ≤ length w.coming = omega (arith, h.0) in
    let rest : drop 4 old ≡ [] = drop_all 4 old (omega arith) in
    let new_is : new ≡ take 4 w.coming =
    h.1 ∙ ap (λ (ys : List ℕ). take 4 w.coming ++ ys) rest ∙ append-nil (take 4 w.coming) in
    let word : number ≡ u32_of (take 4 w.coming) = is ∙ word_is new ∙ ap u32_of new_is in
    let head : first_frame awaits w.coming ≡ behind_length awaits number (drop 4 w.coming) =
    first_frame-some awaits w.coming more
    ∙ ap (λ (n : ℕ). behind_length awaits n (drop 4 w.coming)) (sym word) in
    subst (λ (c : Coming). ReadsHead 0 c result w later) (sym head)
    (head_later 4 (behind_length awaits number (drop 4 w.coming)) result w later (known (take_from 4 w) h.2))

-- The body.

-- the bytes end inside the body
pub body_cut : {X : Type 0} (Is : Coming → X → Type 0) (kind : FrameKind) (n came : ℕ) (old now : List ℕ)
    (w : ConnectionModel) (wire : Option ConnectionModel) → came < n → GathersBytes n old now (Ok came) w wire
    → ReadsAs Is 5 (with_body kind n w.coming) (Err (no_frame.Cut (5 + came))) w wire
body_cut Is kind n came old now w wire short h =
    let all : length w.coming ≡ came = omega (arith, h.0) in
    let short_test : ltb (length w.coming) n ≡ true = grind (arith, nat_tests) in
    rw (short_test, all) (refl, (came, refl, h.2))

-- the body is there
pub body_whole : (kind : FrameKind) (n came : ℕ) (old now : List ℕ) (w : ConnectionModel)
    (wire : Option ConnectionModel) → n ≤ came → GathersBytes n old now (Ok came) w wire
    → Adds kind old now (with_body kind n w.coming) × TookRest 5 (with_body kind n w.coming) w wire
body_whole kind n came old now w wire long h =
    let all : came ≡ n = omega (arith, h.0) in
    let enough : n ≤ length w.coming = omega (arith, h.0) in
    let long_test : ltb (length w.coming) n ≡ false = grind (arith, nat_tests) in
    let added : now ≡ old ++ take n w.coming = h.1 ∙ ap (λ (k : ℕ). old ++ take k w.coming) all in
    let size : length (take n w.coming) ≡ came = length-take-le n w.coming enough ∙ sym all in
    rw long_test ((take n w.coming, refl, added), (came, ap (λ (k : ℕ). 5 + k) (sym size), h.2))

-- the body of a refusal
pub code_behind : {X : Type 0} (Is : Coming → X → Type 0) (kind : FrameKind) (n : ℕ) (result : Result X NoFrame)
    (w : ConnectionModel) (wire : Option ConnectionModel) → kind ≡ Refusal → IsTrue (is_length kind n)
    → ReadsAs Is 5 (with_body Refusal 1 w.coming) result w wire → ReadsAs Is 5 (with_body kind n w.coming) result w wire
code_behind Is kind n result w wire refusal fits h =
    let one : n ≡ 1 = eqb-true n 1 (subst (λ (k : FrameKind). IsTrue (is_length k n)) refusal fits) in
    let same : with_body Refusal 1 w.coming ≡ with_body kind n w.coming =
    ap (λ (k : ℕ). with_body Refusal k w.coming) (sym one) ∙ ap (λ (k : FrameKind). with_body k n w.coming) (sym refusal) in
    subst (λ (c : Coming). ReadsAs Is 5 c result w wire) same h

-- One frame.

-- a read that began with a head went on with the body
pub head_then_body : {X : Type 0} (Is : Coming → X → Type 0) (head : FrameHead) (first : Coming)
    (result : Result X NoFrame) (w : ConnectionModel) (wire later : Option ConnectionModel)
    → ReadsHead 0 first (Ok head) w wire
    → ((mid : ConnectionModel) → wire ≡ Some mid
    → ReadsAs Is 5 (with_body head.kind head.length mid.coming) result mid later)
    → ReadsAs Is 0 first result w later
head_then_body Is head first result w wire later h known =
    let five : h.0 ≡ 5 = omega (arith, h.1) in
    let took : Took 5 w wire = subst (λ (k : ℕ). Took k w wire) five h.3 in
    let first_is : first ≡ with_body head.kind head.length (drop 5 w.coming) =
    subst (λ (k : ℕ). first ≡ with_body head.kind head.length (drop k w.coming)) five h.2 in
    subst (λ (c : Coming). ReadsAs Is 0 c result w later) (sym first_is)
    (frame_later Is 5 (with_body head.kind head.length (drop 5 w.coming)) result w later (known (take_from 5 w) took))

-- A frame and its answer.

-- what was read after a frame was put
pub read_asks : {X : Type 0} (Is : Coming → X → Type 0) (frame : List ℕ) (first : Coming) (result : Result X NoFrame)
    (before : ConnectionModel) (wire : Option ConnectionModel) → ReadsAs Is 0 first result (send_on frame before) wire
    → AsksAs Is frame first result before wire
read_asks Is frame first (Ok answer) before wire h = h
read_asks Is frame first (Err no_frame.LinkFault) before wire h = inr h.1
read_asks Is frame first (Err no_frame.Memory) before wire h = inr h.1
read_asks Is frame first (Err no_frame.Ended) before wire h = h
read_asks Is frame first (Err (no_frame.Cut got)) before wire h = h
read_asks Is frame first (Err (no_frame.BadFrame size)) before wire h = h

-- what the link broke off is half asked
pub half_asked : (frame : List ℕ) (first : Coming) (before : ConnectionModel) (after : Option ConnectionModel)
    → IsBrokenOff frame first before after → IsHalfAsked frame first before after
half_asked frame first before after (inl h) = inl h
half_asked frame first before after (inr h) = inr (h.0, h.1, h.3)
