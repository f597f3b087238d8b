-- Pieces of trees: what comes of a state and a piece in front.
use Rattle.std.proofs.Common.{◌≡◌, ℕ, suc, ◌-◌, Bool, true, false, eqb, List, [], ◌∷◌, ◌++◌, length, Option, Some, None, Result, Ok, Err, refl, sym, ap, subst, ◌∙◌, arith}
use Rattle.std.specs.Prelude.{IfOk, OnErr, ◌<◌}
use Rattle.std.specs.declared.alloc.AllocError.{AllocError}
use Rattle.std.proofs.lemmas.Bool.{false≢true, ne_eqb}
use Rattle.vo_spec.specs.Fits.{max_levels}
use Rattle.vo_spec.specs.Trees.{RowTree}
use Rattle.row_bytes.specs.Fields.{◌>>=◌, times, whole}
use Rattle.batch_format.specs.BatchReading.{one}
use Rattle.batch_format.specs.TreeReading.{tree_at}
use Rattle.tree_stream.specs.declared.target.Target.{Target}
use Rattle.tree_stream.specs.declared.findings.Summary.{Summary}
use Rattle.tree_stream.specs.declared.stream.TreeStream.{TreeStream}
use Rattle.tree_stream.specs.Summaries.{CanEnd as CanEndTree, summary_of_tree}
use Rattle.tree_stream.specs.Streams.{summary_of}
use Rattle.tree_stream.proofs.AllBytes.{IsBytes-cons}
use Rattle.reply_stream.specs.declared.trees_summary.TreesSummary.{TreesSummary}
use Rattle.reply_stream.specs.declared.trees_state.OpenTree.{OpenTree}
use Rattle.reply_stream.specs.declared.trees_state.TreesState.{TreesState}
use Rattle.reply_stream.specs.declared.trees_state.TreesState.TheVariants.{Count, Tree, Invalid}
use Rattle.reply_stream.specs.ReplyTrees.{count_and_first, kept_first, trees_at, rest_of_open, rest_of_trees, GoesOn, CanBecomeTrees}
use Rattle.reply_stream.proofs.TreesLaws.{first_tree, no_trees, tree_way}

-- bytes behind what was read
pub left_behind : (found : TreesSummary) (bytes more : List ℕ) → (bytes ≡ [] → ⊥) → None ≡ whole (let end : Option (TreesSummary × List ℕ) = Some (found, bytes ++ more) in end)
left_behind found [] more some = absurd (some refl)
left_behind found (byte ∷ bytes) more some = refl

pub longer_some : (xs ys : List ℕ) → (xs ≡ [] → ⊥) → xs ++ ys ≡ [] → ⊥
longer_some [] ys some none = some refl
longer_some (x ∷ xs) ys some none = absurd cc

pub empty_is : (xs : List ℕ) → eqb (length xs) 0 ≡ true → xs ≡ []
empty_is [] e = refl
empty_is (x ∷ xs) e = absurd (false≢true (sym (ne_eqb (suc (length xs)) 0 (λ z. omega (arith, z))) ∙ e))

pub some_is_not : (xs : List ℕ) → eqb (length xs) 0 ≡ false → xs ≡ [] → ⊥
some_is_not xs e none = false≢true (sym e ∙ ap (λ (t : List ℕ). eqb (length t) 0) none)

-- A piece of a tree.

pub fed : (old new : OpenTree) (piece left : List ℕ) → ((more : List ℕ) → summary_of new.stream (left ++ more) ≡ summary_of old.stream (piece ++ more))
    → new.count ≡ old.count → new.left ≡ old.left → new.first ≡ old.first → (more : List ℕ) → rest_of_open new (left ++ more) ≡ rest_of_open old (piece ++ more)
unfolding rest_of_open
fed old new piece left ok same_count same_left same_first more =
    let behind : ℕ → ℕ → Option Summary → Summary × List ℕ → Option (TreesSummary × List ℕ) = λ count n first end.
    one (λ (trees : List RowTree). count_and_first count (Some (kept_first first end.0))) (times (tree_at max_levels) n) end.1 in
    ap (λ (o : Option (Summary × List ℕ)). o >>= behind new.count new.left new.first) (ok more)
    ∙ ap (λ (k : ℕ). summary_of old.stream (piece ++ more) >>= behind k new.left new.first) same_count
    ∙ ap (λ (k : ℕ). summary_of old.stream (piece ++ more) >>= behind old.count k new.first) same_left
    ∙ ap (λ (f : Option Summary). summary_of old.stream (piece ++ more) >>= behind old.count old.left f) same_first

-- Results.

pub in_any_error : {T E : Type 0} (r : Result T E) (P : Type 0) → P → OnErr r P
in_any_error (Ok x) P p = tt
in_any_error (Err e) P p = p

pub ok_trees : (r : Result TreesState AllocError) (f g : List ℕ → Option TreesSummary) → ((more : List ℕ) → f more ≡ g more)
    → IfOk r (λ new. (more : List ℕ) → rest_of_trees new more ≡ f more) → IfOk r (λ new. (more : List ℕ) → rest_of_trees new more ≡ g more)
ok_trees (Ok new) f g same on = λ more. on more ∙ same more
ok_trees (Err e) f g same on = tt

pub goes_true : (b : Bool) (old new : OpenTree) (bytes : List ℕ) → b ≡ true → GoesOn (Ok b) old new bytes → (more : List ℕ) → rest_of_trees (Tree new) more ≡ whole (rest_of_open old (bytes ++ more))
unfolding rest_of_trees
goes_true true old new bytes is on more = ap whole (on more)
goes_true false old new bytes is on more = absurd cc

pub goes_false : (b : Bool) (old new : OpenTree) (bytes : List ℕ) → b ≡ false → GoesOn (Ok b) old new bytes → (more : List ℕ) → rest_of_trees Invalid more ≡ whole (rest_of_open old (bytes ++ more))
unfolding rest_of_trees
goes_false true old new bytes is on more = absurd cc
goes_false false old new bytes is on more = sym (on more)

at_tree : (tree : OpenTree) (bytes : List ℕ) → whole (rest_of_open tree bytes) ≡ rest_of_trees (Tree tree) bytes
unfolding rest_of_trees
at_tree tree bytes = refl

-- Where the tree stands.

pub goes_in_place : (r : Result Bool AllocError) (old : TreesState) (tree new : OpenTree) (bytes : List ℕ) → old ≡ Tree tree → r ≡ Ok true → GoesOn r tree new bytes
    → (more : List ℕ) → rest_of_trees (Tree new) more ≡ rest_of_trees old (bytes ++ more)
goes_in_place r old tree new bytes is does on more =
    goes_true true tree new bytes refl (subst (λ (r : Result Bool AllocError). GoesOn r tree new bytes) does on) more
    ∙ at_tree tree (bytes ++ more) ∙ sym (ap (λ (s : TreesState). rest_of_trees s (bytes ++ more)) is)

pub lost_in_place : (r : Result Bool AllocError) (old : TreesState) (tree new : OpenTree) (bytes : List ℕ) → old ≡ Tree tree → r ≡ Ok false → GoesOn r tree new bytes
    → (more : List ℕ) → rest_of_trees old (bytes ++ more) ≡ None
unfolding rest_of_trees
lost_in_place r old tree new bytes is not on more =
    ap (λ (s : TreesState). rest_of_trees s (bytes ++ more)) is ∙ sym (at_tree tree (bytes ++ more))
    ∙ sym (goes_false false tree new bytes refl (subst (λ (r : Result Bool AllocError). GoesOn r tree new bytes) not on) more)

-- The count.

pub count_and_first_one : (target : Target) (count : ℕ) (tree : OpenTree) (bytes : List ℕ) → ((rest : List ℕ) → summary_of tree.stream rest ≡ summary_of_tree target rest)
    → count ≡ suc tree.left → tree.count ≡ count → tree.first ≡ None → whole (rest_of_open tree bytes) ≡ rest_of_trees (Count target) (count ∷ bytes)
unfolding rest_of_trees
count_and_first_one target count tree bytes same is_count is_same none =
    ap whole (first_tree target tree.left tree bytes same (is_same ∙ is_count) refl none)
    ∙ ap (λ (n : ℕ). whole (trees_at target (n ∷ bytes))) (sym is_count)

pub count_and_first_none : (target : Target) (count : ℕ) (bytes : List ℕ) → count ≡ 0 → whole (let end : Option (TreesSummary × List ℕ) = Some (count_and_first 0 None, bytes) in end) ≡ rest_of_trees (Count target) (count ∷ bytes)
unfolding rest_of_trees
count_and_first_none target count bytes none =
    ap whole (sym (no_trees target bytes)) ∙ ap (λ (n : ℕ). whole (trees_at target (n ∷ bytes))) (sym none)

pub count_way : (target : Target) (count : ℕ) (stream : TreeStream) → ((rest : List ℕ) → summary_of stream rest ≡ summary_of_tree target rest)
    → 0 < count → count < 256 → CanEndTree (summary_of stream) → CanBecomeTrees (Count target)
count_way target count stream same some below can =
    let tree : OpenTree = record { stream = stream; count = count; left = count - 1; first = None; later = λ later. absurd (false≢true later) } in
    let way = tree_way tree can in
    record {
      bytes = count ∷ way.bytes;
      are_bytes = IsBytes-cons count way.bytes below way.are_bytes;
      found = way.found;
      is = sym (count_and_first_one target count tree way.bytes same (omega (arith, some)) refl refl) ∙ at_tree tree way.bytes ∙ way.is;
    }

-- States.

pub at_state : (old state : TreesState) (piece : List ℕ) (f : List ℕ → Option TreesSummary) → old ≡ state → ((more : List ℕ) → f more ≡ rest_of_trees state (piece ++ more))
    → (more : List ℕ) → f more ≡ rest_of_trees old (piece ++ more)
at_state old state piece f is on more = on more ∙ sym (ap (λ (s : TreesState). rest_of_trees s (piece ++ more)) is)

pub ok_at_state : (r : Result TreesState AllocError) (old state : TreesState) (piece : List ℕ) → old ≡ state
    → IfOk r (λ new. (more : List ℕ) → rest_of_trees new more ≡ rest_of_trees state (piece ++ more)) → IfOk r (λ new. (more : List ℕ) → rest_of_trees new more ≡ rest_of_trees old (piece ++ more))
ok_at_state r old state piece is on =
    ok_trees r (λ more. rest_of_trees state (piece ++ more)) (λ more. rest_of_trees old (piece ++ more)) (λ more. sym (ap (λ (s : TreesState). rest_of_trees s (piece ++ more)) is)) on

pub way_at_state : (old state : TreesState) → old ≡ state → CanBecomeTrees state → CanBecomeTrees old
way_at_state old state is can = subst CanBecomeTrees (sym is) can
