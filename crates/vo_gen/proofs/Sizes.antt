-- Each batch of a workload has bytes, and few enough; the numbers of its queries have 64 bits.
use Rattle.std.proofs.Common.{◌≡◌, ℕ, zero, suc, pos, ◌+◌, ◌*◌, ◌%◌, ◌^◌, ◌<◌, ◌≤◌, Bool, true, false, not, if◌then◌else◌, List, [], ◌∷◌, ◌++◌, map, length, nat_le, codes, decimal, All, IsTrue, refl, arith, ap, sym, ◌∙◌}
use Rattle.std.specs.List.{flat_map, AllByRecursion, range_with_len, list_all}
use Rattle.std.specs.Int.{w64, cast_unsigned}
use Rattle.std.specs.Str.{is_utf8, IsAscii}
use Rattle.std.specs.Str.Parse.{AllDigits}
use Rattle.std.proofs.lemmas.Bool.{le-leb}
use Rattle.std.proofs.lemmas.Fmt.{length-decimal-le, IsAscii-decimal, decimal_is_IsNumeral}
use Rattle.std.proofs.lemmas.List.{length-append}
use Rattle.std.proofs.lemmas.List.Elements.{All-from_recursion}
use Rattle.std.proofs.lemmas.List.FromFn.{length-map-range_with_len}
use Rattle.std.proofs.lemmas.Str.{is_utf8-from_IsUtf8, IsUtf8-from_ascii, IsAscii-append}
use Rattle.std.proofs.lemmas.Str.Parse.{digit_from_value}
use Rattle.rand_chacha.specs.Block.{add32, block_word}
use Rattle.vo_spec.specs.declared.values.Value.TheVariants.{Text}
use Rattle.vo_spec.specs.declared.tables.Batch.{Batch}
use Rattle.vo_spec.specs.declared.tables.Command.{Command}
use Rattle.vo_spec.specs.declared.queries.QueryText.{QueryText}
use Rattle.vo_spec.specs.Bytes.{u16_bytes, u64_bytes, string}
use Rattle.vo_spec.specs.Values.{max_text, is_text, value_bytes, FitsValue}
use Rattle.vo_spec.specs.Batches.{command_bytes, batch_bytes, FitsCommand, FitsBatch}
use Rattle.vo_spec.specs.declared.queries.Ref.{Ref}
use Rattle.vo_spec.specs.declared.queries.Cmp.{Cmp}
use Rattle.vo_spec.specs.declared.queries.Cmp.TheVariants.{Ge, Lt}
use Rattle.vo_spec.specs.declared.queries.Operand.{Operand}
use Rattle.vo_spec.specs.declared.queries.Operand.TheVariants.{Literal}
use Rattle.vo_spec.specs.declared.queries.Cond.{Cond, fold-roll-Cond}
use Rattle.vo_spec.specs.declared.queries.Cond.TheVariants as cond_of
use Rattle.vo_spec.specs.Conditions.{every, test, more, none, comparison, comparisons, conditions, condition_of, query_of, FitsOperand, FitsQuery}
use Rattle.vo_gen.specs.Words.{word_of, key_of_number}
use Rattle.vo_gen.specs.Workload.{max_steps, keys_for, number, creation, insertion, deletion, change, key_at, mark_at, is_even, stands, step, batch_at, batches_of, batches, selection, join_query, query, query_count, queries_of, queries, between, column, column_of}
use Rattle.vo_gen.proofs.Standing.{step_is}

u64_size : (n : ℕ) → length (u64_bytes n) ≡ 8
unfolding u64_bytes
u64_size n = refl

u16_size : (n : ℕ) → length (u16_bytes n) ≡ 2
unfolding u16_bytes
u16_size n = refl

-- Words.

sum_below : (x y : ℕ) → add32 x y < 2 ^ 32
sum_below x y = omega arith

pub word_below : (key : List ℕ) (place : ℕ) → word_of key place < 2 ^ 32
unfolding word_of block_word
word_below key place = sum_below _ _

-- Values.

number_fits : (n : ℕ) → n < 2 ^ 32 → FitsValue (number n)
number_fits n lt = record { sfits = omega arith }

digits_plain : (ds : List ℕ) → AllDigits 10 ds → list_all (nat_le 32) ds ≡ true
digits_plain [] d = refl
digits_plain (c ∷ cs) d =
    rw (le-leb 32 c (omega (arith, digit_from_value c d.0)), digits_plain cs d.1) refl

letter_ascii : IsAscii (codes "n")
letter_ascii zero = omega arith
letter_ascii (suc i) = omega arith

text_from : (s : List ℕ) → length s ≤ max_text → is_utf8 s ≡ true → list_all (nat_le 32) s ≡ true
    → IsTrue (is_text s)
text_from s len utf8 plain = rw (le-leb (length s) max_text len, utf8, plain) refl

pub label_length : (w : ℕ) → w < 2 ^ 32 → length (decimal w) ≤ 10
label_length w lt = length-decimal-le 10 w (omega arith) (omega arith) (omega arith)

label_fits : (w : ℕ) → w < 2 ^ 32 → IsTrue (is_text (codes "n" ++ decimal w))
label_fits w lt =
    let len : length (decimal w) ≤ 10 = label_length w lt in
    text_from (codes "n" ++ decimal w) (omega arith)
    (is_utf8-from_IsUtf8 _ (IsUtf8-from_ascii _ (IsAscii-append (codes "n") (decimal w) letter_ascii
    (IsAscii-decimal w (omega arith)))))
    (digits_plain (decimal w) (decimal_is_IsNumeral w (omega arith)).0.1)

-- Commands.

record Small (c : Command) : Type 0 where
  fits : FitsCommand c
  size : length (command_bytes c) ≤ 64

pub number_size : (n : ℕ) → length (value_bytes (number n)) ≡ 9
number_size n = omega (arith, u64_size (cast_unsigned w64 (pos n)))

string_size : (s : List ℕ) → length (string s) ≡ 2 + length s
string_size s = omega (arith, u16_size (length s), length-append (u16_bytes (length s)) s)

pub label_size : (w : ℕ) → length (value_bytes (Text (codes "n" ++ decimal w))) ≡ 4 + length (decimal w)
label_size w = omega (arith, string_size (codes "n" ++ decimal w))

three : (a b c : List ℕ) → length (a ++ (b ++ (c ++ []))) ≡ length a + length b + length c
three a b c = simp length-append (omega arith)

creation_small : Small creation
unfolding FitsCommand command_bytes
creation_small = record {
  fits = (refl, (omega arith, omega arith, (refl, (refl, (refl, tt)))), refl);
  size = omega arith;
}

insertion_small : (key word boss : ℕ) → key < 2 ^ 32 → word < 2 ^ 32 → boss < 2 ^ 32
    → Small (insertion key word boss)
unfolding FitsCommand command_bytes
insertion_small key word boss k w b = record {
  fits = (refl, (omega arith, omega arith, (number_fits key k, (label_fits word w, (number_fits boss b, tt)))));
  size = omega (
    arith,
    three (value_bytes (number key)) (value_bytes (Text (codes "n" ++ decimal word)))
        (value_bytes (number boss)),
    number_size key,
    label_size word,
    number_size boss,
    label_length word w,
  );
}

deletion_small : (key : ℕ) → key < 2 ^ 32 → Small (deletion key)
unfolding FitsCommand command_bytes
deletion_small key k = record {
  fits = (refl, refl, number_fits key k);
  size = simp u64_size (omega arith);
}

change_small : (key boss : ℕ) → key < 2 ^ 32 → boss < 2 ^ 32 → Small (change key boss)
unfolding FitsCommand command_bytes
change_small key boss k b = record {
  fits = (refl, (omega arith, omega arith, ((refl, number_fits boss b), tt)), refl, number_fits key k);
  size = simp (length-append, u64_size) (omega arith);
}

chosen_small : (stood even : Bool) (key word boss : ℕ) → key < 2 ^ 32 → word < 2 ^ 32
    → boss < 2 ^ 32
    → Small (if not stood then insertion key word boss
    else if even then deletion key else change key boss)
chosen_small false even key word boss k w b = insertion_small key word boss k w b
chosen_small true true key word boss k w b = deletion_small key k
chosen_small true false key word boss k w b = change_small key boss k b

rest_below : (w keys : ℕ) → 0 < keys → keys ≤ 2 ^ 32 → w % keys < 2 ^ 32
rest_below w keys some most = omega arith

step_small : (key : List ℕ) (keys i : ℕ) → 0 < keys → keys ≤ 2 ^ 32 → Small (step (word_of key) keys i)
step_small key keys i some most =
    rw (step_is (word_of key) keys i)
    (chosen_small (stands (word_of key) keys i (key_at (word_of key) keys i))
    (is_even (mark_at (word_of key) keys i))
    (key_at (word_of key) keys i) (mark_at (word_of key) keys i)
    (mark_at (word_of key) keys i % keys)
    (rest_below (word_of key (2 * i)) keys some most) (word_below key (2 * i + 1))
    (rest_below (word_of key (2 * i + 1)) keys some most))

-- Batches.

pub each_of : {X : Type 0} (P : X → Type 0) (f : ℕ → X) → ((i : ℕ) → P (f i)) → (a n : ℕ)
    → AllByRecursion P (map f (range_with_len a n))
each_of P f all a zero = tt
each_of P f all a (suc n) = (all a, each_of P f all (a + 1) n)

flat_size : (f : ℕ → Command) → ((i : ℕ) → Small (f i)) → (a n : ℕ)
    → length (flat_map command_bytes (map f (range_with_len a n))) ≤ 64 * n
flat_size f small a zero = omega arith
flat_size f small a (suc n) =
    let one : length (command_bytes (f a)) ≤ 64 = (small a).size in
    let more : length (flat_map command_bytes (map f (range_with_len (a + 1) n))) ≤ 64 * n =
    flat_size f small (a + 1) n in
    omega (
      arith,
      length-append (command_bytes (f a))
          (flat_map command_bytes (map f (range_with_len (a + 1) n))),
    )

range_fits : (f : ℕ → Command) → ((i : ℕ) → Small (f i)) → (a n : ℕ) → n ≤ 100
    → FitsBatch (map f (range_with_len a n))
unfolding batch_bytes
range_fits f small a n most =
    let len = length-map-range_with_len f a n in
    let size : length (flat_map command_bytes (map f (range_with_len a n))) ≤ 64 * n =
    flat_size f small a n in
    record {
      count = omega arith;
      each = each_of FitsCommand f (λ i. (small i).fits) a n;
      size = omega (
        arith,
        u16_size (length (map f (range_with_len a n))),
        length-append (u16_bytes (length (map f (range_with_len a n))))
            (flat_map command_bytes (map f (range_with_len a n))),
      );
    }

first_fits : FitsBatch (creation ∷ [])
unfolding batch_bytes
first_fits =
    let one : length (command_bytes creation) ≤ 64 = creation_small.size in
    record {
      count = omega arith;
      each = (creation_small.fits, tt);
      size = simp (length-append, u16_size) (omega arith);
    }

pub batches_fit : (n number : ℕ) → n ≤ max_steps
    → All (λ (b : Batch). FitsBatch b.commands) (batches n number)
unfolding batches_of
batches_fit n number most =
    All-from_recursion (λ (b : Batch). FitsBatch b.commands) (batches n number) (
      first_fits,
      each_of (λ (b : Batch). FitsBatch b.commands)
          (batch_at (word_of (key_of_number number)) n)
          (λ j. range_fits (step (word_of (key_of_number number)) (keys_for n))
          (λ i. step_small (key_of_number number) (keys_for n) i (omega arith) (omega arith))
          (100 * j) _ (omega arith))
          0 _,
    )

-- Queries.

all_is : (parts : List Cond) → condition_of (cond_of.All parts)
    ≡ every (conditions (map condition_of parts))
all_is parts = ap condition_of (sym (cond_of.rolls-All parts)) ∙ search fold-roll-Cond

test_is : (r : Ref) (op : Cmp) (right : Operand) → condition_of (cond_of.Test r op right)
    ≡ test (comparison r op right)
test_is r op right = ap condition_of (sym (cond_of.rolls-Test r op right)) ∙ search fold-roll-Cond

between_is : (r : Ref) (low high : ℕ) → condition_of (between r low high)
    ≡ every (more (test (comparison r Ge (Literal (number low))))
    (more (test (comparison r Lt (Literal (number high)))) none))
between_is r low high =
    all_is (cond_of.Test r Ge (Literal (number low)) ∷ cond_of.Test r Lt (Literal (number high)) ∷ [])
    ∙ rw (test_is r Ge (Literal (number low)), test_is r Lt (Literal (number high)))

between_fits : (r : Ref) (low high : ℕ) → low < 2 ^ 33 → high < 2 ^ 33
    → AllByRecursion (λ (c : Ref × Operand). FitsOperand c.1)
    (comparisons (condition_of (between r low high)))
between_fits r low high l h = rw (between_is r low high)
    (record { sfits = omega arith }, (record { sfits = omega arith }, tt))

selected_fits : (low high : ℕ) → low < 2 ^ 33 → high < 2 ^ 33
    → FitsQuery (query_of (selection low high))
selected_fits low high l h = between_fits (column (codes "id")) low high l h

joined_fits : (low high : ℕ) → low < 2 ^ 33 → high < 2 ^ 33
    → FitsQuery (query_of (join_query low high))
joined_fits low high l h = between_fits (column_of (codes "a") (codes "id")) low high l h

asked_fits : (even : Bool) (low high : ℕ) → low < 2 ^ 33 → high < 2 ^ 33
    → FitsQuery (query_of (if even then selection low high else join_query low high))
asked_fits true low high l h = selected_fits low high l h
asked_fits false low high l h = joined_fits low high l h

range_below : (w v keys : ℕ) → 0 < keys → keys ≤ 2 ^ 32 → w % keys + v % 64 < 2 ^ 33
range_below w v keys some most = omega arith

query_fits : (word : ℕ → ℕ) (keys n j : ℕ) → 0 < keys → keys ≤ 2 ^ 32
    → FitsQuery (query_of (query word keys n j))
unfolding query
query_fits word keys n j some most =
    asked_fits (is_even j) (word (2 * (n + j)) % keys)
    (word (2 * (n + j)) % keys + word (2 * (n + j) + 1) % 64)
    (omega arith) (range_below (word (2 * (n + j))) (word (2 * (n + j) + 1)) keys some most)

pub queries_fit : (n number : ℕ) → n ≤ max_steps
    → All (λ (q : QueryText). FitsQuery (query_of q)) (queries n number)
unfolding queries_of
queries_fit n number most =
    All-from_recursion (λ (q : QueryText). FitsQuery (query_of q)) (queries n number)
    (each_of (λ (q : QueryText). FitsQuery (query_of q))
    (query (word_of (key_of_number number)) (keys_for n) n)
    (λ j. query_fits (word_of (key_of_number number)) (keys_for n) n j (omega arith) (omega arith))
    0 query_count)
