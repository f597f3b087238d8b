-- No command of a workload is refused, and its table has rows of the keys that stand.
use Rattle.std.proofs.Common.{◌≡◌, ℕ, zero, suc, ◌+◌, ◌-◌, ◌*◌, ◌/◌, ◌%◌, ◌^◌, ◌<◌, ◌≤◌, Bool, true, false, cond, not, ◌&&◌, ◌||◌, ◌==◌, if◌then◌else◌, List, [], ◌∷◌, ◌++◌, map, length, codes, decimal, Ok, refl, sym, ap, subst, ◌∙◌, arith}
use Rattle.std.specs.Prelude.{bytes_eq, min, IsOk, is_ok}
use Rattle.std.specs.Result.{result_unwrap_or}
use Rattle.std.specs.List.{AllByRecursion, range_with_len}
use Rattle.std.proofs.lemmas.Bool.{lt-leb, eqb-true}
use Rattle.std.proofs.lemmas.List.{length-map, append_assoc, append-nil}
use Rattle.vo_spec.specs.declared.values.Value.TheVariants.{Text}
use Rattle.vo_spec.specs.declared.values.Row.{Row}
use Rattle.vo_spec.specs.declared.tables.Table.{Table}
use Rattle.vo_spec.specs.declared.tables.Command.{Command}
use Rattle.vo_spec.specs.Values.{key_of}
use Rattle.vo_spec.specs.Tables.{max_rows, has_row, put_row, without_row, changed_row, changed_cells, CellChange, rows_named, apply, apply_from, apply_batch, tables_after}
use Rattle.vo_laws.specs.Sealing.{AreAcceptedAfter}
use Rattle.vo_laws.proofs.ListLaws.{each_map, each_weaker}
use Rattle.vo_laws.proofs.CommandLaws.{each_filter, filter_shorter, each_put_row, put_row_length}
use Rattle.vo_laws.proofs.StepLaws.{tables_follow}
use Rattle.vo_laws.proofs.ValueOrder.{number_length}
use Rattle.vo_gen.specs.Workload.{max_steps, keys_for, number, creation, insertion, deletion, change, key_at, mark_at, is_even, stands, step, batch_at, batches_of, commands_of, tables_of, IsDrawn}
use Rattle.vo_gen.proofs.Rows.{same_key, has_put, has_without, has_changed}
use Rattle.vo_gen.proofs.Standing.{stands_none, stands_more, step_is}

-- The table of these rows.

abbrev made : List Row → List Table
made = tables_of

abbrev new_row : ℕ → ℕ → ℕ → Row
new_row key word boss = record {
  key = key_of (number key);
  cells = Text (codes "n" ++ decimal word) ∷ number boss ∷ [];
}

abbrev new_boss : ℕ → List CellChange
new_boss boss = record { column = 1; value = number boss } ∷ []

created : tables_after ((creation ∷ []) ∷ []) ≡ made []
unfolding tables_after apply
created = refl

created_ok : IsOk (apply_batch (creation ∷ []) (tables_after []))
unfolding tables_after apply
created_ok = refl

key_size : (key : ℕ) → length (key_of (number key)) ≡ 8
key_size key = number_length _

inserted : (key word boss : ℕ) (rows : List Row) → has_row (key_of (number key)) rows ≡ false
    → length rows < max_rows
    → apply (insertion key word boss) (made rows) ≡ Ok (made (put_row (new_row key word boss) rows))
unfolding apply
inserted key word boss rows none room =
    rw (key_size key, lt-leb max_rows (length rows) room, none) refl

deleted : (key : ℕ) (rows : List Row) → has_row (key_of (number key)) rows ≡ true
    → apply (deletion key) (made rows) ≡ Ok (made (without_row (key_of (number key)) rows))
unfolding apply
deleted key rows there = rw there refl

changed : (key boss : ℕ) (rows : List Row) → has_row (key_of (number key)) rows ≡ true
    → apply (change key boss) (made rows)
    ≡ Ok (made (map (changed_row (key_of (number key)) (new_boss boss)) rows))
unfolding apply
changed key boss rows there = rw there refl

-- One step.

-- what a step of a key makes of the rows
record Follows (word : ℕ → ℕ) (c : Command) (key keys : ℕ) (stood : Bool) (rows : List Row) : Type 0 where
  after : List Row
  applied : apply c (made rows) ≡ Ok (made after)
  has : (k : ℕ) → k < 2 ^ 63 → has_row (key_of (number k)) after
      ≡ (if key == k then stood else has_row (key_of (number k)) rows)
  each : AllByRecursion (IsDrawn word keys) after
  count : length after ≤ suc (length rows)

insertion_follows : (word : ℕ → ℕ) (key place boss keys : ℕ) (rows : List Row) → key < keys
    → boss < keys → keys ≤ 2 ^ 32
    → has_row (key_of (number key)) rows ≡ false → length rows < max_rows
    → AllByRecursion (IsDrawn word keys) rows
    → Follows word (insertion key (word place) boss) key keys true rows
insertion_follows word key place boss keys rows below low most none room each = record {
  after = put_row (new_row key (word place) boss) rows;
  applied = inserted key (word place) boss rows none room;
  has = λ k lt. has_put (key_of (number k)) (new_row key (word place) boss) rows
      ∙ (ap (λ b. b || has_row (key_of (number k)) rows) (same_key key k (omega arith) lt)
      ∙ either (key == k) (has_row (key_of (number k)) rows));
  each = each_put_row (IsDrawn word keys) (new_row key (word place) boss) rows
      (record {
        key = key;
        place = place;
        boss = boss;
        key_below = below;
        boss_below = low;
        key_is = refl;
        cells_are = refl;
      }) each;
  count = omega (arith, put_row_length (new_row key (word place) boss) rows);
}
  where
    either : (b h : Bool) → (b || h) ≡ cond b true h
    either true h = refl
    either false h = refl

deletion_follows : (word : ℕ → ℕ) (key keys : ℕ) (rows : List Row) → key < keys → keys ≤ 2 ^ 32
    → has_row (key_of (number key)) rows ≡ true → AllByRecursion (IsDrawn word keys) rows
    → Follows word (deletion key) key keys false rows
deletion_follows word key keys rows below most there each = record {
  after = without_row (key_of (number key)) rows;
  applied = deleted key rows there;
  has = λ k lt. has_without (key_of (number k)) (key_of (number key)) rows
      ∙ (ap (λ b. not b && has_row (key_of (number k)) rows) (same_key key k (omega arith) lt)
      ∙ apart (key == k) (has_row (key_of (number k)) rows));
  each = each_filter (IsDrawn word keys) (λ (r : Row). not (bytes_eq r.key (key_of (number key)))) rows
      each;
  count = omega (
    arith,
    filter_shorter (λ (r : Row). not (bytes_eq r.key (key_of (number key)))) rows,
  );
}
  where
    apart : (b h : Bool) → (not b && h) ≡ cond b false h
    apart true h = refl
    apart false h = refl

drawn_still : (word : ℕ → ℕ) (keys : ℕ) (key : List ℕ) (boss : ℕ) (row : Row) → boss < keys
    → IsDrawn word keys row → IsDrawn word keys (changed_row key (new_boss boss) row)
drawn_still word keys key boss row low is = step (bytes_eq row.key key)
  where
    step : (b : Bool) → IsDrawn word keys (cond b (record {
      key = row.key;
      cells = changed_cells (new_boss boss) row.cells;
    }) row)
    step true = record {
      key = is.key;
      place = is.place;
      boss = boss;
      key_below = is.key_below;
      boss_below = low;
      key_is = is.key_is;
      cells_are = ap (changed_cells (new_boss boss)) is.cells_are;
    }
    step false = is

change_follows : (word : ℕ → ℕ) (key boss keys : ℕ) (rows : List Row) → key < keys → boss < keys
    → keys ≤ 2 ^ 32
    → has_row (key_of (number key)) rows ≡ true → AllByRecursion (IsDrawn word keys) rows
    → Follows word (change key boss) key keys true rows
change_follows word key boss keys rows below low most there each = record {
  after = map (changed_row (key_of (number key)) (new_boss boss)) rows;
  applied = changed key boss rows there;
  has = λ k lt. has_changed (key_of (number k)) (key_of (number key)) (new_boss boss) rows
      ∙ stays k (key == k) refl;
  each = each_map (IsDrawn word keys) (changed_row (key_of (number key)) (new_boss boss)) rows
      (each_weaker (IsDrawn word keys)
      (λ row. IsDrawn word keys (changed_row (key_of (number key)) (new_boss boss) row))
      (λ row. drawn_still word keys (key_of (number key)) boss row low) rows each);
  count = omega (arith, length-map rows (changed_row (key_of (number key)) (new_boss boss)));
}
  where
    stays : (k : ℕ) (b : Bool) → (key == k) ≡ b → has_row (key_of (number k)) rows
        ≡ cond b true (has_row (key_of (number k)) rows)
    stays k true e =
        ap (λ n. has_row (key_of (number n)) rows) (sym (eqb-true key k e)) ∙ there
    stays k false e = refl

chosen_follows : (word : ℕ → ℕ) (stood even : Bool) (key place boss keys : ℕ) (rows : List Row)
    → key < keys → boss < keys → keys ≤ 2 ^ 32 → has_row (key_of (number key)) rows ≡ stood
    → length rows < max_rows → AllByRecursion (IsDrawn word keys) rows
    → Follows word (if not stood then insertion key (word place) boss
    else if even then deletion key else change key boss) key keys (not (stood && even)) rows
chosen_follows word false even key place boss keys rows below low most is room each =
    insertion_follows word key place boss keys rows below low most is room each
chosen_follows word true true key place boss keys rows below low most is room each =
    deletion_follows word key keys rows below most is each
chosen_follows word true false key place boss keys rows below low most is room each =
    change_follows word key boss keys rows below low most is each

-- The steps of a workload.
module _ (word : ℕ → ℕ) (keys : ℕ) where
  -- the rows are those of the keys that stand behind so many steps
  record IsAt (i : ℕ) (rows : List Row) : Type 0 where
    has : (k : ℕ) → k < 2 ^ 63 → has_row (key_of (number k)) rows ≡ stands word keys i k
    each : AllByRecursion (IsDrawn word keys) rows
    count : length rows ≤ i

  at_first : IsAt 0 []
  at_first = record { has = λ k lt. sym (stands_none word keys k); each = tt; count = omega arith }

  step_follows : (i : ℕ) (rows : List Row) → 0 < keys → keys ≤ 2 ^ 32 → i < max_steps
      → IsAt i rows
      → Follows word (step word keys i) (key_at word keys i) keys
      (not (stands word keys i (key_at word keys i) && is_even (mark_at word keys i))) rows
  step_follows i rows some most lt at =
      let below : key_at word keys i < keys = omega arith in
      let low : mark_at word keys i % keys < keys = omega arith in
      let count : length rows ≤ i = at.count in
      subst (λ c. Follows word c (key_at word keys i) keys
      (not (stands word keys i (key_at word keys i) && is_even (mark_at word keys i))) rows)
      (sym (step_is word keys i))
      (chosen_follows word (stands word keys i (key_at word keys i)) (is_even (mark_at word keys i))
      (key_at word keys i) (2 * i + 1) (mark_at word keys i % keys) keys rows below low most
      (at.has (key_at word keys i) (omega arith)) (omega arith) at.each)

  at_next : (i : ℕ) (rows : List Row) → IsAt i rows
      → (f : Follows word (step word keys i) (key_at word keys i) keys
      (not (stands word keys i (key_at word keys i) && is_even (mark_at word keys i))) rows)
      → IsAt (i + 1) f.after
  at_next i rows at f = record {
    has = λ k lt. f.has k lt ∙ (by_key k (key_at word keys i == k) refl (at.has k lt)
        ∙ sym (stands_more word keys i k));
    each = f.each;
    count = omega (arith, f.count, at.count);
  }
    where
      by_key : (k : ℕ) (b : Bool) → (key_at word keys i == k) ≡ b
          → has_row (key_of (number k)) rows ≡ stands word keys i k
          → cond b (not (stands word keys i (key_at word keys i) && is_even (mark_at word keys i)))
          (has_row (key_of (number k)) rows)
          ≡ cond b (not (stands word keys i k && is_even (mark_at word keys i)))
          (stands word keys i k)
      by_key k true e has =
          ap (λ n. not (stands word keys i n && is_even (mark_at word keys i)))
          (eqb-true (key_at word keys i) k e)
      by_key k false e has = has

  -- where commands lead from these rows
  record Leads (index : ℕ) (commands : List Command) (last : ℕ) (rows : List Row) : Type 0 where
    after : List Row
    applied : apply_from index commands (made rows) ≡ Ok (made after)
    at : IsAt last after

  steps_lead : (count i index : ℕ) (rows : List Row) → 0 < keys → keys ≤ 2 ^ 32
      → i + count ≤ max_steps → IsAt i rows
      → Leads index (map (step word keys) (range_with_len i count)) (i + count) rows
  steps_lead zero i index rows some most few at = record {
    after = rows;
    applied = refl;
    at = subst (λ n. IsAt n rows) (omega arith) at;
  }
  steps_lead (suc count) i index rows some most few at =
      let one = step_follows i rows some most (omega arith) at in
      let others = steps_lead count (i + 1) (index + 1) one.after some most (omega arith)
      (at_next i rows at one) in
      record {
        after = others.after;
        applied = rw (one.applied) (others.applied);
        at = subst (λ n. IsAt n others.after) (omega arith) others.at;
      }

-- The batches of a workload.

-- batches are accepted behind these, and lead to rows of the keys that stand
record Ends (word : ℕ → ℕ) (keys last : ℕ) (earlier batches : List (List Command)) : Type 0 where
  accepted : AreAcceptedAfter earlier batches
  after : List Row
  tables : tables_after (earlier ++ batches) ≡ made after
  at : IsAt word keys last after

ends_behind : (word : ℕ → ℕ) (keys last : ℕ) (earlier : List (List Command)) (batch : List Command)
    (batches : List (List Command)) → IsOk (apply_batch batch (tables_after earlier))
    → Ends word keys last (earlier ++ batch ∷ []) batches → Ends word keys last earlier (batch ∷ batches)
ends_behind word keys last earlier batch batches ok e = record {
  accepted = (ok, e.accepted);
  after = e.after;
  tables = ap tables_after (sym (append_assoc earlier (batch ∷ []) batches)) ∙ e.tables;
  at = e.at;
}

batches_end : (word : ℕ → ℕ) (n count j : ℕ) (earlier : List (List Command)) (rows : List Row)
    → n ≤ max_steps → j + count ≤ (n + 99) / 100 → tables_after earlier ≡ made rows
    → IsAt word (keys_for n) (min n (100 * j)) rows
    → Ends word (keys_for n) (min n (100 * (j + count))) earlier
    (commands_of (map (batch_at word n) (range_with_len j count)))
batches_end word n zero j earlier rows most few tables at = record {
  accepted = tt;
  after = rows;
  tables = ap tables_after (append-nil earlier) ∙ tables;
  at = subst (λ i. IsAt word (keys_for n) i rows) (omega arith) at;
}
batches_end word n (suc count) j earlier rows most few tables at =
    let here = subst (λ i. IsAt word (keys_for n) i rows) (whole n j (omega arith)) at in
    let one = steps_lead word (keys_for n) (min (n - 100 * j) 100) (100 * j) 0 rows (omega arith)
    (omega arith) (omega arith) here in
    let taken : apply_batch (batch_at word n j).commands (tables_after earlier) ≡ Ok (made one.after) =
    ap (apply_batch (batch_at word n j).commands) tables ∙ one.applied in
    let next : tables_after (earlier ++ (batch_at word n j).commands ∷ []) ≡ made one.after =
    tables_follow earlier (batch_at word n j).commands
    ∙ ap (λ r. result_unwrap_or r (tables_after earlier)) taken in
    subst (λ i. Ends word (keys_for n) (min n (100 * i)) earlier
    (commands_of (map (batch_at word n) (range_with_len j (suc count)))))
    (sum_is j count)
    (ends_behind word (keys_for n) (min n (100 * (j + 1 + count))) earlier
    (batch_at word n j).commands
    (commands_of (map (batch_at word n) (range_with_len (j + 1) count))) (ap is_ok taken)
    (batches_end word n count (j + 1) (earlier ++ (batch_at word n j).commands ∷ []) one.after most
    (omega arith) next (subst (λ i. IsAt word (keys_for n) i one.after) (omega arith) one.at)))
  where
    whole : (m k : ℕ) → k < (m + 99) / 100 → min m (100 * k) ≡ 100 * k
    whole m k lt = omega arith

    sum_is : (a b : ℕ) → a + 1 + b ≡ a + suc b
    sum_is a b = omega arith

workload_ends : (word : ℕ → ℕ) (n : ℕ) → n ≤ max_steps
    → Ends word (keys_for n) n [] (commands_of (batches_of word n))
unfolding batches_of
workload_ends word n most =
    let rest = batches_end word n ((n + 99) / 100) 0 ((creation ∷ []) ∷ []) [] most (omega arith)
    created (subst (λ i. IsAt word (keys_for n) i []) (omega arith) (at_first word (keys_for n))) in
    record {
      accepted = (created_ok, rest.accepted);
      after = rest.after;
      tables = rest.tables;
      at = subst (λ i. IsAt word (keys_for n) i rest.after) (omega arith) rest.at;
    }

pub workload_accepted : (word : ℕ → ℕ) (n : ℕ) → n ≤ max_steps
    → AreAcceptedAfter [] (commands_of (batches_of word n))
workload_accepted word n most = (workload_ends word n most).accepted

pub workload_stands : (word : ℕ → ℕ) (n key : ℕ) → n ≤ max_steps → key < 2 ^ 63
    → has_row (key_of (number key))
    (rows_named (codes "t") (tables_after (commands_of (batches_of word n))))
    ≡ stands word (keys_for n) n key
workload_stands word n key most lt =
    let ends = workload_ends word n most in
    ap (λ tables. has_row (key_of (number key)) (rows_named (codes "t") tables)) ends.tables
    ∙ ends.at.has key lt

pub workload_table : (word : ℕ → ℕ) (n : ℕ) → n ≤ max_steps
    → let tables = tables_after (commands_of (batches_of word n)) in
    tables ≡ tables_of (rows_named (codes "t") tables)
workload_table word n most =
    let ends = workload_ends word n most in
    ends.tables ∙ ap (λ tables. tables_of (rows_named (codes "t") tables)) (sym ends.tables)

pub workload_few : (word : ℕ → ℕ) (n : ℕ) → n ≤ max_steps
    → length (rows_named (codes "t") (tables_after (commands_of (batches_of word n)))) ≤ n
workload_few word n most =
    let ends = workload_ends word n most in
    subst (λ tables. length (rows_named (codes "t") tables) ≤ n) (sym ends.tables) ends.at.count

pub workload_drawn : (word : ℕ → ℕ) (n : ℕ) → n ≤ max_steps
    → AllByRecursion (IsDrawn word (keys_for n))
    (rows_named (codes "t") (tables_after (commands_of (batches_of word n))))
workload_drawn word n most =
    let ends = workload_ends word n most in
    subst (λ tables. AllByRecursion (IsDrawn word (keys_for n)) (rows_named (codes "t") tables))
    (sym ends.tables) ends.at.each
