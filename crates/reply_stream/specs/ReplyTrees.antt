-- What reading gives of the trees of a reply: how many there are, and what is found in the first.
use Rattle.std.specs.Prelude.{◌≡◌, ℕ, ◌+◌, ◌≤◌, ◌<◌, Bool, true, false, IsTrue, List, [], ◌∷◌, ◌++◌, length, Option, Some, None, Result, Ok, Err}
use Rattle.std.specs.declared.alloc.AllocError.{AllocError}
use Rattle.vo_spec.specs.declared.keys.Interval.{Interval}
use Rattle.vo_spec.specs.Bytes.{IsBytes}
use Rattle.vo_spec.specs.Fits.{max_levels}
use Rattle.vo_spec.specs.Scans.{in_interval}
use Rattle.vo_spec.specs.Trees.{RowTree, digest}
use Rattle.row_bytes.specs.Reading.{byte_at}
use Rattle.row_bytes.specs.Fields.{◌>>=◌, times, whole}
use Rattle.batch_format.specs.BatchReading.{Reader, one}
use Rattle.batch_format.specs.TreeReading.{tree_at}
use Rattle.tree_stream.specs.declared.target.Target.{Target}
use Rattle.tree_stream.specs.declared.findings.Summary.{Summary}
use Rattle.tree_stream.specs.declared.stream.TreeStream.{TreeStream}
use Rattle.tree_stream.specs.Findings.{findings_in}
use Rattle.tree_stream.specs.Remaining.{summary}
use Rattle.tree_stream.specs.Keeping.{rows_bytes}
use Rattle.tree_stream.specs.Streams.{held_in as held_in_tree, summary_of, target_in, IsBehind as IsBehindTree}
use Rattle.tree_stream.specs.Places.{EndsInRow, HasNeededEntries as TreeHasNeededEntries}
use Rattle.tree_stream.specs.Tokens.{max_token}
use Rattle.reply_stream.specs.declared.trees_summary.TreesSummary.{TreesSummary}
use Rattle.reply_stream.specs.declared.trees_state.OpenTree.{OpenTree}
use Rattle.reply_stream.specs.declared.trees_state.TreesState.{TreesState}
use Rattle.reply_stream.specs.declared.trees_state.TreesState.TheVariants.{Count, Empty, Tree, Invalid}

abbrev pub count_and_first : ℕ → Option Summary → TreesSummary
count_and_first count first = record { count = count; first = first }

abbrev pub first_summary : Target → List RowTree → Option Summary
first_summary target [] = None
first_summary target (tree ∷ trees) = Some (summary (digest tree) (findings_in target tree))

abbrev pub trees_summary : Target → List RowTree → TreesSummary
trees_summary target trees = count_and_first (length trees) (first_summary target trees)

-- trees behind a byte that says how many there are
unfoldable pub trees_at : Target → Reader TreesSummary
trees_at target bytes = byte_at bytes >>= λ count. one (trees_summary target)
    (times (tree_at max_levels) count.0) count.1

-- What reading the bytes to come gives of trees that are read in part.

-- the first summary, or this one where there is none
abbrev pub kept_first : Option Summary → Summary → Summary
kept_first None found = found
kept_first (Some first) found = first

unfoldable pub rest_of_open : OpenTree → Reader TreesSummary
rest_of_open tree bytes = summary_of tree.stream bytes >>= λ end.
    one (λ (trees : List RowTree). count_and_first tree.count (Some (kept_first tree.first end.0)))
    (times (tree_at max_levels) tree.left) end.1

unfoldable pub rest_of_trees : TreesState → List ℕ → Option TreesSummary
rest_of_trees (Count target) bytes = whole (trees_at target bytes)
rest_of_trees Empty bytes = whole (Some (count_and_first 0 None, bytes))
rest_of_trees (Tree tree) bytes = whole (rest_of_open tree bytes)
rest_of_trees Invalid bytes = None

-- Calls.

-- the byte that says how many trees there are didn't come yet
abbrev pub awaits_count : TreesState → Bool
awaits_count (Count target) = true
awaits_count _ = false

-- the bytes were taken, or are no trees whatever comes behind them
abbrev pub GoesOn : Result Bool AllocError → OpenTree → OpenTree → List ℕ → Type 0
GoesOn (Ok true) old new bytes =
    (more : List ℕ) → rest_of_open new more ≡ rest_of_open old (bytes ++ more)
GoesOn (Ok false) old new bytes =
    (more : List ℕ) → whole (rest_of_open old (bytes ++ more)) ≡ None
GoesOn (Err error) old new bytes = Unit {0}

-- some bytes make trees of it
pub record CanBecomeTrees (state : TreesState) : Type 0 where
  pub bytes : List ℕ
  pub are_bytes : IsBytes bytes
  pub found : TreesSummary
  pub is : rest_of_trees state bytes ≡ Some found

-- The bytes that came behind the catalog's last byte.

-- they are those of the first tree, behind the byte that says how many there are; it is read for
-- the target
pub record IsInFirstTree (target : Target) (stream : TreeStream) (bytes : List ℕ) : Type 0 where
  pub count : ℕ
  pub tree : List ℕ
  pub bytes_are : bytes ≡ count ∷ tree
  pub is_target : target_in stream ≡ target
  pub behind : IsBehindTree stream tree

-- so many of them, or more, are of entries of the first tree whose keys are in the interval
abbrev pub HasNeededEntries : Interval → List ℕ → ℕ → Type 0
HasNeededEntries interval [] needed = needed ≡ 0
HasNeededEntries interval (count ∷ tree) needed = TreeHasNeededEntries interval tree needed

-- so many are, and those of a token, or more
pub record HasNeededAndToken (interval : Interval) (bytes : List ℕ) (count : ℕ) : Type 0 where
  pub needed : ℕ
  pub has_needed : HasNeededEntries interval bytes needed
  pub within : count ≤ needed + max_token

-- A tree is read behind them, and what was found in the first one is kept, where that ended: its
-- rows are of needed entries.
abbrev pub IsTreeBehind : Target → Option Summary → TreeStream → List ℕ → Type 0
IsTreeBehind target None stream bytes = IsInFirstTree target stream bytes
IsTreeBehind target (Some first) stream bytes =
    HasNeededEntries target.interval bytes (length (rows_bytes first.findings.rows))
    × ((tree : List ℕ) × IsBehindTree stream tree)

-- the state took them, and reads the first tree for the target
abbrev pub IsStateBehind : Target → TreesState → List ℕ → Type 0
IsStateBehind target (Count own) bytes = (own ≡ target) × (bytes ≡ [])
IsStateBehind target Empty bytes = Unit {0}
IsStateBehind target (Tree tree) bytes = IsTreeBehind target tree.first tree.stream bytes
IsStateBehind target Invalid bytes = Unit {0}

-- Counts.

-- how many bytes the rows have that are kept of the first tree
abbrev pub first_count : Option Summary → ℕ
first_count None = 0
first_count (Some first) = length (rows_bytes first.findings.rows)

-- how many bytes a state holds: of these, and of the tree that is read
abbrev pub held_at : TreesState → ℕ
held_at (Tree tree) = first_count tree.first + held_in_tree tree.stream
held_at _ = 0

-- some byte of the piece, which comes behind these bytes, is of a row of the first tree whose key
-- is in the interval
pub record HasNeededByte (interval : Interval) (bytes piece : List ℕ) : Type 0 where
  pub key : List ℕ
  pub front : List ℕ
  pub left : List ℕ
  pub count : ℕ
  pub tree : List ℕ
  pub parts : piece ≡ front ++ left
  pub some : 0 < length left
  pub bytes_are : bytes ++ front ≡ count ∷ tree
  pub inside : EndsInRow key tree
  pub needed : IsTrue (in_interval interval key)
