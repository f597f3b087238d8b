-- The rows that are kept of the first tree, and of which bytes they are.
use Rattle.std.proofs.Common.{Bool, true, false, ltb, if◌then◌else◌, ◌≡◌, ℕ, ◌+◌, ◌≤◌, List, [], ◌∷◌, ◌++◌, length, flat_map, Option, Some, None, refl, sym, ap, subst, ◌∙◌, append_assoc, append-nil, arith}
use Rattle.std.specs.Prelude.{is_some, option_map}
use Rattle.batch_format.proofs.ReaderLaws.{some_is}
use Rattle.vo_spec.specs.declared.keys.Interval.{Interval}
use Rattle.vo_spec.specs.declared.needs.SeenRow.{SeenRow}
use Rattle.tree_stream.specs.declared.findings.Summary.{Summary}
use Rattle.tree_stream.specs.declared.stream.TreeStream.{TreeStream}
use Rattle.tree_stream.specs.declared.target.Target.{Target}
use Rattle.tree_stream.specs.Findings.{no_target}
use Rattle.tree_stream.specs.Keeping.{rows_bytes}
use Rattle.tree_stream.specs.Machines.{summary_of_machine}
use Rattle.tree_stream.specs.Places.{AreNeededEntries, HasNeededEntries as TreeHasNeededEntries}
use Rattle.tree_stream.specs.Remaining.{summary}
use Rattle.tree_stream.specs.Streams.{IsBehind as IsBehindTree, held_in as held_in_tree, summary_of, target_in}
use Rattle.tree_stream.specs.Summaries.{complete_digest}
use Rattle.tree_stream.proofs.HeldLaws.{held_needed}
use Rattle.tree_stream.proofs.KeepingLaws.{fewer, later, none_needed, rows_at}
use Rattle.tree_stream.proofs.NoTarget.{no_key}
use Rattle.tree_stream.proofs.ShortLaws.{end_none, end_some}
use Rattle.row_bytes.specs.Reading.{byte_at}
use Rattle.reply_stream.specs.declared.trees_state.OpenTree.{OpenTree}
use Rattle.reply_stream.specs.declared.trees_state.TreesState.{TreesState}
use Rattle.reply_stream.specs.declared.trees_state.TreesState.TheVariants.{Count, Empty, Tree, Invalid}
use Rattle.reply_stream.specs.declared.trees_summary.TreesSummary.{TreesSummary}
use Rattle.reply_stream.specs.ReplyTrees.{HasNeededAndToken, HasNeededEntries, IsTreeBehind, count_and_first, first_count, held_at, kept_first, rest_of_trees, trees_at}
use Rattle.reply_stream.proofs.EndedTrees.{some_none, summary_in}
use Rattle.reply_stream.proofs.TreesLaws.{end_found, end_lost}

-- a piece was taken up to what is left of it
abbrev pub TookFront : Target → Option Summary → TreeStream → List ℕ → List ℕ → List ℕ → Type 0
TookFront target first new bytes piece left = (front : List ℕ) × (piece ≡ front ++ left) × IsTreeBehind target first new (bytes ++ front)

pub needed_later : (interval : Interval) (bytes more : List ℕ) (count : ℕ) → HasNeededEntries interval bytes count → HasNeededEntries interval (bytes ++ more) count
needed_later interval (n ∷ tree) more count has = later interval tree more count has
needed_later interval [] [] count none = none
needed_later interval [] (n ∷ more) count none = fewer interval more 0 count (none_needed interval more) (omega (arith, none))

pub tree_fed : (target : Target) (first : Option Summary) (old new : TreeStream) (bytes piece left : List ℕ) → IsTreeBehind target first old bytes → target_in new ≡ target_in old
    → ((tree : List ℕ) → IsBehindTree old tree → (front : List ℕ) × (piece ≡ front ++ left) × IsBehindTree new (tree ++ front)) → TookFront target first new bytes piece left
tree_fed target None old new bytes piece left behind same fed =
    let took = fed behind.tree behind.behind in (
      took.0,
      took.1,
      record {
        count = behind.count;
        tree = behind.tree ++ took.0;
        bytes_are = ap (λ (t : List ℕ). t ++ took.0) behind.bytes_are;
        is_target = same ∙ behind.is_target;
        behind = took.2;
      },
    )
tree_fed target (Some first) old new bytes piece left behind same fed =
    let took = fed behind.1.0 behind.1.1 in (
      took.0,
      took.1,
      (needed_later target.interval bytes took.0 (length (rows_bytes first.findings.rows)) behind.0, (behind.1.0 ++ took.0, took.2)),
    )

-- one piece, and then what it left
pub took_more : (target : Target) (first : Option Summary) (new : TreeStream) (bytes piece left end begun : List ℕ) → piece ≡ begun ++ left → TookFront target first new (bytes ++ begun) left end → TookFront target first new bytes piece end
took_more target first new bytes piece left end begun parts took =
    let P : List ℕ → Type 0 = λ t. IsTreeBehind target first new t in (
      begun ++ took.0,
      parts ∙ ap (λ (t : List ℕ). begun ++ t) took.1 ∙ sym (append_assoc begun took.0 end),
      subst P (append_assoc bytes begun took.0) took.2,
    )

-- all of it
pub took_all : (target : Target) (first : Option Summary) (new : TreeStream) (bytes piece left : List ℕ) → left ≡ [] → TookFront target first new bytes piece left → IsTreeBehind target first new (bytes ++ piece)
took_all target first new bytes piece left none took =
    let P : List ℕ → Type 0 = λ t. IsTreeBehind target first new (bytes ++ t) in
    subst P (sym (took.1 ∙ ap (λ (t : List ℕ). took.0 ++ t) none ∙ append-nil took.0)) took.2

pub no_bytes_needed : (interval : Interval) (bytes : List ℕ) → HasNeededEntries interval bytes 0
no_bytes_needed interval [] = refl
no_bytes_needed interval (count ∷ tree) = none_needed interval tree

-- no bytes yet
pub took_none : (target : Target) (first : Option Summary) (stream : TreeStream) (bytes piece : List ℕ) → IsTreeBehind target first stream bytes → TookFront target first stream bytes piece piece
took_none target first stream bytes piece behind =
    let P : List ℕ → Type 0 = λ t. IsTreeBehind target first stream t in ([], refl, subst P (sym (append-nil bytes)) behind)

-- The first tree ended: its rows are kept.

rows_of_ended : (stream : TreeStream) (s : Summary) → Some s ≡ option_map summary_in (summary_of stream []) → s.findings.rows ≡ stream.machine.context.findings.rows
unfolding summary_of
rows_of_ended stream s e = by (complete_digest stream.machine.state) refl
  where
    by : (found : Option (List ℕ)) → complete_digest stream.machine.state ≡ found → s.findings.rows ≡ stream.machine.context.findings.rows
    by None none = absurd (some_none s (e ∙ sym (end_none stream.machine.context stream.machine.state stream.partial.items none stream.short)))
    by (Some d) is =
        let found : Some (summary d stream.machine.context.findings) ≡ option_map summary_in (summary_of_machine stream.machine (stream.partial.items ++ [])) =
        end_some stream.machine.context stream.machine.state stream.partial.items d is in
        ap (λ (t : Summary). t.findings.rows) (some_is s (summary d stream.machine.context.findings) (e ∙ sym found))

pub first_ended : (target : Target) (first kept : Option Summary) (old new : TreeStream) (s : Summary) (bytes : List ℕ) → Some s ≡ option_map summary_in (summary_of old []) → kept ≡ Some (kept_first first s) → IsBehindTree new []
    → IsTreeBehind target first old bytes → IsTreeBehind target kept new bytes
first_ended target first kept old new s bytes ended is next behind =
    let P : Option Summary → Type 0 = λ k. IsTreeBehind target k new bytes in
    subst P (sym is) (by first behind)
  where
    by : (f : Option Summary) → IsTreeBehind target f old bytes → IsTreeBehind target (Some (kept_first f s)) new bytes
    by (Some found) behind = (behind.0, ([], next))
    by None behind =
        let interval : Interval = (target_in old).interval in
        let rows : List SeenRow = old.machine.context.findings.rows in
        let taken = behind.behind.taken in
        let has : TreeHasNeededEntries interval (taken ++ old.partial.items) (length (rows_bytes rows)) =
        later interval taken old.partial.items (length (rows_bytes rows)) (rows_at old.machine.context old.machine.state taken behind.behind.at.1) in
        let P : List ℕ → Type 0 = λ t. TreeHasNeededEntries interval t (length (rows_bytes rows)) in
        let Q : Target → Type 0 = λ t. TreeHasNeededEntries t.interval behind.tree (length (rows_bytes rows)) in
        let R : List SeenRow → Type 0 = λ r. TreeHasNeededEntries target.interval behind.tree (length (rows_bytes r)) in
        let S : List ℕ → Type 0 = λ t. HasNeededEntries target.interval t (length (rows_bytes s.findings.rows)) in (
          subst S (sym behind.bytes_are) (subst R (sym (rows_of_ended old s ended)) (subst Q behind.is_target (subst P (sym behind.behind.parts) has))),
          ([], next),
        )

-- What is held.

-- no entry is needed where no key is
no_entries : (target : Target) (bytes : List ℕ) (entries : List (List ℕ)) → target ≡ no_target → AreNeededEntries target.interval entries bytes → entries ≡ []
no_entries target bytes [] is are = refl
no_entries target bytes (entry ∷ entries) is are = absurd (no_key target are.3.key is are.3.needed)

nothing_needed : (target : Target) (bytes : List ℕ) (count : ℕ) → target ≡ no_target → TreeHasNeededEntries target.interval bytes count → count ≡ 0
nothing_needed target bytes count is has =
    omega (arith, has.within, ap (λ (entries : List (List ℕ)). length (flat_map (λ (e : List ℕ). e) entries)) (no_entries target bytes has.entries is has.are_needed))

pub open_held : (target : Target) (tree : OpenTree) (bytes : List ℕ) (count : ℕ) → count ≤ first_count tree.first + held_in_tree tree.stream → IsTreeBehind target tree.first tree.stream bytes → HasNeededAndToken target.interval bytes count
open_held target tree bytes count le behind = by tree.first refl behind le
  where
    by : (first : Option Summary) → tree.first ≡ first → IsTreeBehind target first tree.stream bytes → count ≤ first_count first + held_in_tree tree.stream → HasNeededAndToken target.interval bytes count
    by None is behind le =
        let has = held_needed tree.stream behind.tree count (omega (arith, le)) behind.behind in
        let Q : Target → Type 0 = λ t. TreeHasNeededEntries t.interval behind.tree has.needed in
        let S : List ℕ → Type 0 = λ t. HasNeededEntries target.interval t has.needed in
        record { needed = has.needed; has_needed = subst S (sym behind.bytes_are) (subst Q behind.is_target has.has_needed); within = has.within }
    by (Some first) is behind le =
        let has = held_needed tree.stream behind.1.0 (held_in_tree tree.stream) (omega arith) behind.1.1 in
        let none : has.needed ≡ 0 = nothing_needed (target_in tree.stream) behind.1.0 has.needed (tree.later (ap is_some is)) has.has_needed in
        record { needed = length (rows_bytes first.findings.rows); has_needed = behind.0; within = omega (arith, le, has.within, none) }

-- Behind the last tree the rows of the first one are held, or more.

if_some : {A : Type 0} (b : Bool) (x y : A) → (if b then None else Some x) ≡ Some y → x ≡ y
if_some true x y e = absurd cc
if_some false x y e = some_is x y e

at_least_first : (stream : TreeStream) (first : Option Summary) (t : Summary) → Some t ≡ option_map summary_in (summary_of stream []) → first_count (Some (kept_first first t)) ≤ first_count first + held_in_tree stream
at_least_first stream None t e = omega (arith, ap (λ (rows : List SeenRow). length (rows_bytes rows)) (rows_of_ended stream t e))
at_least_first stream (Some first) t e = omega arith

pub found_held : (state : TreesState) (s : TreesSummary) → rest_of_trees state [] ≡ Some s → first_count s.first ≤ held_at state
unfolding rest_of_trees trees_at byte_at
found_held (Count target) s e = absurd cc
found_held Empty s e = let none : None ≡ s.first = ap (λ (t : TreesSummary). t.first) (some_is (count_and_first 0 None) s e) in omega (arith, ap first_count none)
found_held (Tree tree) s e = by (option_map summary_in (summary_of tree.stream [])) refl
  where
    by : (o : Option Summary) → option_map summary_in (summary_of tree.stream []) ≡ o → first_count s.first ≤ held_at (Tree tree)
    by None none = absurd (some_none s (sym (end_lost tree (sym none) ∙ e)))
    by (Some t) is =
        let found : TreesSummary = count_and_first tree.count (Some (kept_first tree.first t)) in
        let same : found ≡ s = if_some (ltb 0 tree.left) found s (end_found tree t (sym is) ∙ e) in
        omega (arith, ap (λ (u : TreesSummary). first_count u.first) same, at_least_first tree.stream tree.first t (sym is))
found_held Invalid s e = absurd cc
