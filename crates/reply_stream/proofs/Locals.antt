-- Readers that take so many bytes: they take them whatever comes behind.
use Rattle.std.proofs.Common.{◌≡◌, ℕ, ◌+◌, ◌<◌, ◌≤◌, Bool, true, false, ltb, List, [], ◌∷◌, ◌++◌, length, take, drop, Option, Some, None, refl, sym, ap, ◌∙◌, arith, inl, inr}
use Rattle.std.specs.Prelude.{bytes_eq, codes, if◌then◌else◌}
use Rattle.std.proofs.lemmas.Bool.{cases_Bool, le-ltb, ltb-false}
use Rattle.std.proofs.lemmas.List.{take-append-le, drop-append-le, length-drop, length-append}
use Rattle.vo_spec.specs.Bytes.{u64_of}
use Rattle.row_bytes.specs.Reading.{bytes_at, u64_at}
use Rattle.row_bytes.specs.Fields.{◌>>=◌, where_true, word_at, whole}
use Rattle.batch_format.specs.BatchReading.{Reader}
use Rattle.batch_format.proofs.ReaderLaws.{bound, some_is, tested, no_some}
use Rattle.version_record.specs.Reading.{magic_at, magic_of_word, record_at}
use Rattle.tree_stream.proofs.Binds.{bind_assoc, bind_same, bind_at}
use Rattle.reply_stream.specs.Heads.{front_at}

-- more bytes behind those that are left
abbrev pub longer : {A : Type 0} → List ℕ → A × List ℕ → Option (A × List ℕ)
longer more x = Some (x.0, x.1 ++ more)

pub record IsLocal {A : Type 0} (read : Reader A) (n : ℕ) : Type 0 where
  pub each : (a b : List ℕ) → n ≤ length a → read (a ++ b) ≡ (read a >>= longer b)
  pub rest : (a : List ℕ) (x : A) (r : List ℕ) → read a ≡ Some (x, r) → length r + n ≡ length a

-- so many bytes, as a function sees them
abbrev pub seen_at : {A : Type 0} → ℕ → (List ℕ → A) → Reader A
seen_at n see bytes = if ltb (length bytes) n then None else Some (see (take n bytes), drop n bytes)

seen_local : {A : Type 0} (n : ℕ) (see : List ℕ → A) → IsLocal (seen_at n see) n
seen_local {A} n see = record {
  each = λ a b le.
      let long : ltb (length (a ++ b)) n ≡ false = le-ltb (length (a ++ b)) n (omega (arith, le, length-append a b)) in
      let there : ltb (length a) n ≡ false = le-ltb (length a) n le in
      rw (long, there, take-append-le n a b le, drop-append-le n a b le) refl;
  rest = λ a x r e.
      elim (cases_Bool (ltb (length a) n)) [
        | inl t ↦ absurd (no_some (x, r) (sym (ap (λ (t : Bool). let o : Option (A × List ℕ) = if t then None else Some (see (take n a), drop n a) in o) t) ∙ e))
        | inr f ↦
            let made : A × List ℕ = (see (take n a), drop n a) in
            let is : made ≡ (x, r) = some_is made (x, r) (sym (ap (λ (t : Bool). let o : Option (A × List ℕ) = if t then None else Some made in o) f) ∙ e) in
            omega (arith, ap (λ (p : A × List ℕ). length p.1) is, length-drop n a, ltb-false (length a) n f)
      ];
}

pub bytes_local : (n : ℕ) → IsLocal (bytes_at n) n
unfolding bytes_at
bytes_local n = seen_local n (λ bytes. bytes)

u64_local : IsLocal u64_at 8
unfolding u64_at
u64_local = seen_local 8 u64_of

passed : {A : Type 0} (b : Bool) (x : A × List ℕ) (more : List ℕ) → (longer more x >>= λ y. where_true b y) ≡ (where_true b x >>= longer more)
passed true x more = refl
passed false x more = refl

tested_local : {A : Type 0} (read : Reader A) (n : ℕ) (test : A → Bool) → IsLocal read n → IsLocal (λ bytes. read bytes >>= λ x. where_true (test x.0) x) n
tested_local {A} read n test local = record {
  each = λ a b le.
      let pass : A × List ℕ → Option (A × List ℕ) = λ x. where_true (test x.0) x in
      ap (λ (o : Option (A × List ℕ)). o >>= pass) (local.each a b le)
      ∙ bind_assoc (read a) (longer b) pass
      ∙ bind_same (read a) (λ x. longer b x >>= pass) (λ x. pass x >>= longer b) (λ x. passed (test x.0) x b)
      ∙ sym (bind_assoc (read a) pass (longer b));
  rest = λ a x r e.
      let pass : A × List ℕ → Option (A × List ℕ) = λ x. where_true (test x.0) x in
      let all = bound (read a) pass (x, r) e in
      let is = (tested (test all.0.0) all.0 (x, r) all.2).1 in
      sym (ap (λ (p : A × List ℕ). length p.1 + n) is) ∙ local.rest a all.0.0 all.0.1 all.1;
}

word_local : (word : List ℕ) → IsLocal (word_at word) (length word)
unfolding word_at
word_local word = tested_local (bytes_at (length word)) (length word) (λ found. bytes_eq found word) (bytes_local (length word))

-- one behind the other
then_local : {A B : Type 0} (f : Reader A) (g : A → Reader B) (n m : ℕ) → IsLocal f n → ((x : A) → IsLocal (g x) m) → IsLocal (λ bytes. f bytes >>= λ x. g x.0 x.1) (n + m)
then_local {A} {B} f g n m first second = record {
  each = λ a b le.
      let next : A × List ℕ → Option (B × List ℕ) = λ x. g x.0 x.1 in
      ap (λ (o : Option (A × List ℕ)). o >>= next) (first.each a b (omega (arith, le)))
      ∙ bind_assoc (f a) (longer b) next
      ∙ bind_at (f a) (λ x. longer b x >>= next) (λ x. next x >>= longer b)
      (λ x e. (second x.0).each x.1 b (omega (arith, le, first.rest a x.0 x.1 e)))
      ∙ sym (bind_assoc (f a) next (longer b));
  rest = λ a y r e.
      let next : A × List ℕ → Option (B × List ℕ) = λ x. g x.0 x.1 in
      let all = bound (f a) next (y, r) e in
      omega (arith, first.rest a all.0.0 all.0.1 all.1, (second all.0.0).rest all.0.1 y r all.2);
}

nothing_local : {A : Type 0} (x : A) → IsLocal (λ bytes. let o : Option (A × List ℕ) = Some (x, bytes) in o) 0
nothing_local {A} x = record {
  each = λ a b le. refl;
  rest = λ a y r e.
      let made : A × List ℕ = (x, a) in
      omega (arith, ap (λ (p : A × List ℕ). length p.1) (some_is made (y, r) e));
}

-- what is made of the bytes, or nothing
option_local : {A : Type 0} (o : Option A) → IsLocal (λ bytes. o >>= λ x. let made : Option (A × List ℕ) = Some (x, bytes) in made) 0
option_local None = record { each = λ a b le. refl; rest = λ a x r e. absurd (no_some (x, r) e) }
option_local (Some x) = nothing_local x

magic_local : IsLocal magic_at 4
unfolding magic_at
magic_local = then_local (bytes_at 4) _ 4 0 (bytes_local 4) (λ word. option_local (magic_of_word word))

record_local : IsLocal record_at 60
unfolding record_at
record_local =
    then_local magic_at _ 4 56 magic_local
    (λ magic. then_local (bytes_at 16) _ 16 40 (bytes_local 16)
    (λ id. then_local u64_at _ 8 32 u64_local
    (λ version. then_local (bytes_at 32) _ 32 0 (bytes_local 32) (λ catalog. nothing_local _))))

pub front_local : IsLocal front_at 64
unfolding front_at
front_local = then_local (word_at (codes "VOR1")) (λ magic. record_at) 4 60 (word_local (codes "VOR1")) (λ magic. record_local)

-- a token of just so many bytes
whole_of : {A : Type 0} (o : Option (A × List ℕ)) (rest : List ℕ) → ((x : A) (r : List ℕ) → o ≡ Some (x, r) → length r ≡ 0) → (o >>= longer rest) ≡ (whole o >>= λ x. Some (x, rest))
whole_of None rest none_left = refl
whole_of (Some (x, [])) rest none_left = refl
whole_of (Some (x, byte ∷ bytes)) rest none_left = absurd (omega (arith, none_left x (byte ∷ bytes) refl))

pub token_read : {A : Type 0} (read : Reader A) (n : ℕ) (token rest : List ℕ) → IsLocal read n → length token ≡ n → read (token ++ rest) ≡ (whole (read token) >>= λ x. Some (x, rest))
token_read read n token rest local len =
    local.each token rest (omega (arith, len))
    ∙ whole_of (read token) rest (λ x r e. omega (arith, local.rest token x r e, len))

none_of : {A : Type 0} (o : Option (A × List ℕ)) → ((x : A) (r : List ℕ) → o ≡ Some (x, r) → ⊥) → o ≡ None
none_of None none = refl
none_of (Some (x, r)) none = absurd (none x r refl)

pub too_few : {A : Type 0} (read : Reader A) (n : ℕ) (bytes : List ℕ) → IsLocal read n → length bytes < n → read bytes ≡ None
too_few read n bytes local few = none_of (read bytes) (λ x r e. omega (arith, local.rest bytes x r e, few))
