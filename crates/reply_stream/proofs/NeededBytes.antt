-- The bytes that came behind the catalog's last byte, and those of a piece that memory is wanted for.
use Rattle.std.proofs.Common.{◌≡◌, ℕ, true, false, List, [], ◌∷◌, ◌++◌, Option, Some, None, Result, Ok, Err, refl, ap, subst}
use Rattle.std.specs.Prelude.{IfOk, is_some}
use Rattle.std.specs.declared.alloc.AllocError.{AllocError}
use Rattle.std.proofs.lemmas.Bool.{false≢true}
use Rattle.vo_spec.specs.declared.keys.Interval.{Interval}
use Rattle.tree_stream.specs.declared.findings.Summary.{Summary}
use Rattle.tree_stream.specs.declared.stream.TreeStream.{TreeStream}
use Rattle.tree_stream.specs.declared.target.Target.{Target}
use Rattle.tree_stream.specs.Findings.{no_target}
use Rattle.tree_stream.specs.Places.{HasNeededByte as TreeHasNeededByte}
use Rattle.tree_stream.specs.Streams.{IsBehind as IsBehindTree, target_in}
use Rattle.reply_stream.specs.declared.trees_state.OpenTree.{OpenTree}
use Rattle.reply_stream.specs.declared.trees_state.TreesState.{TreesState}
use Rattle.reply_stream.specs.ReplyTrees.{HasNeededByte, IsInFirstTree, IsStateBehind}

-- Of a piece of the first tree.

pub needed_in_first : (target : Target) (stream : TreeStream) (bytes piece : List ℕ) → IsInFirstTree target stream bytes → ((tree : List ℕ) → IsBehindTree stream tree → TreeHasNeededByte (target_in stream).interval tree piece)
    → HasNeededByte target.interval bytes piece
needed_in_first target stream bytes piece first memory =
    let P : Target → Type 0 = λ t. TreeHasNeededByte t.interval first.tree piece in
    let needed = subst P first.is_target (memory first.tree first.behind) in
    record {
      key = needed.key;
      front = needed.front;
      left = needed.left;
      count = first.count;
      tree = first.tree ++ needed.front;
      parts = needed.parts;
      some = needed.some;
      bytes_are = ap (λ (t : List ℕ). t ++ needed.front) first.bytes_are;
      inside = needed.inside;
      needed = needed.needed;
    }

-- A tree that is read for no rows wants no memory, and so none behind the first does.

pub first_alone : (tree : OpenTree) → (target_in tree.stream ≡ no_target → false ≡ true) → tree.first ≡ None
first_alone tree quiet = by tree.first refl
  where
    by : (first : Option Summary) → tree.first ≡ first → first ≡ None
    by None is = refl
    by (Some s) is = absurd (false≢true (quiet (tree.later (ap is_some is))))

-- The byte that says how many trees there are.

pub first_begun : (target : Target) (count : ℕ) (stream : TreeStream) → target_in stream ≡ target → IsBehindTree stream [] → IsInFirstTree target stream (count ∷ [])
first_begun target count stream same behind =
    record { count = count; tree = []; bytes_are = refl; is_target = same; behind = behind }

pub begun_behind : (r : Result TreesState AllocError) (target : Target) (count : ℕ) (stream : TreeStream) (piece : List ℕ) → target_in stream ≡ target → IsBehindTree stream []
    → IfOk r (λ new. (target : Target) (bytes : List ℕ) → IsInFirstTree target stream bytes → IsStateBehind target new (bytes ++ piece))
    → IfOk r (λ new. IsStateBehind target new (count ∷ piece))
begun_behind (Ok new) target count stream piece same behind fed = fed target (count ∷ []) (first_begun target count stream same behind)
begun_behind (Err e) target count stream piece same behind fed = tt

pub needed_behind_count : (interval : Interval) (count : ℕ) (piece : List ℕ) → HasNeededByte interval (count ∷ []) piece → HasNeededByte interval [] (count ∷ piece)
needed_behind_count interval count piece needed = record {
  key = needed.key;
  front = count ∷ needed.front;
  left = needed.left;
  count = needed.count;
  tree = needed.tree;
  parts = ap (λ (t : List ℕ). count ∷ t) needed.parts;
  some = needed.some;
  bytes_are = needed.bytes_are;
  inside = needed.inside;
  needed = needed.needed;
}
