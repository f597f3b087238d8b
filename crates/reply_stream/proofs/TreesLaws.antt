-- Trees one after another: what comes of the count, of a tree that ends, and of the last one.
use Rattle.std.proofs.Common.{◌≡◌, ℕ, suc, ◌-◌, ◌<◌, Bool, ltb, List, [], ◌∷◌, ◌++◌, Option, Some, None, refl, sym, ap, ◌∙◌, append-nil, arith, inl, inr}
use Rattle.std.specs.Prelude.{not, option_map, if◌then◌else◌}
use Rattle.std.proofs.lemmas.Bool.{cases_Bool, ltb-true, ltb-false}
use Rattle.vo_spec.specs.Fits.{max_levels}
use Rattle.vo_spec.specs.Scans.{is_empty_interval}
use Rattle.vo_spec.specs.Trees.{RowTree}
use Rattle.row_bytes.specs.Reading.{byte_at}
use Rattle.row_bytes.specs.Fields.{◌>>=◌, times, whole}
use Rattle.batch_format.specs.BatchReading.{one}
use Rattle.batch_format.specs.TreeReading.{node_at, tree_at}
use Rattle.tree_stream.specs.declared.target.Target.{Target}
use Rattle.tree_stream.specs.declared.findings.Summary.{Summary}
use Rattle.tree_stream.specs.declared.stream.TreeStream.{TreeStream}
use Rattle.tree_stream.specs.Findings.{no_target}
use Rattle.tree_stream.specs.Remaining.{tree_summary, summary_at}
use Rattle.tree_stream.specs.Summaries.{CanEnd as CanEndTree, summary_of_tree}
use Rattle.tree_stream.specs.Streams.{IsSettled, summary_of}
use Rattle.tree_stream.proofs.AllBytes.{IsBytes-append}
use Rattle.tree_stream.proofs.Endings.{repeated, a_stub}
use Rattle.tree_stream.proofs.Binds.{bind_assoc, bind_same, bind_at, times_length}
use Rattle.reply_stream.proofs.EndedTrees.{summary_in, some_none, ended, not_ended}
use Rattle.reply_stream.specs.declared.trees_summary.TreesSummary.{TreesSummary}
use Rattle.reply_stream.specs.declared.trees_state.OpenTree.{OpenTree}
use Rattle.reply_stream.specs.declared.trees_state.TreesState.TheVariants.{Tree}
use Rattle.reply_stream.specs.ReplyTrees.{count_and_first, trees_summary, trees_at, kept_first, rest_of_open, rest_of_trees, CanBecomeTrees}

abbrev Trees : Type 0
Trees = List RowTree × List ℕ

abbrev End : Type 0
End = TreesSummary × List ℕ

-- Reading a tree for its summary is reading the tree.

abbrev is_visited : Target → Bool
is_visited target = not (is_empty_interval target.interval)

abbrev with_summary : Target → RowTree × List ℕ → Option (Summary × List ℕ)
with_summary target p = Some (tree_summary target (is_visited target) p.0, p.1)

summary_is : (target : Target) (bytes : List ℕ) → summary_of_tree target bytes ≡ (tree_at max_levels bytes >>= with_summary target)
unfolding summary_of_tree summary_at
summary_is target bytes = refl

-- so many trees behind one
abbrev others_of : OpenTree → Summary × List ℕ → Option End
others_of tree end = one (λ (trees : List RowTree). count_and_first tree.count (Some (kept_first tree.first end.0))) (times (tree_at max_levels) tree.left) end.1

-- The count.

pub first_tree : (target : Target) (n : ℕ) (tree : OpenTree) (bytes : List ℕ)
    → ((rest : List ℕ) → summary_of tree.stream rest ≡ summary_of_tree target rest) → tree.count ≡ suc n → tree.left ≡ n → tree.first ≡ None
    → rest_of_open tree bytes ≡ trees_at target (suc n ∷ bytes)
unfolding rest_of_open trees_at byte_at
first_tree target n tree bytes same is_count is_left is_first =
    let one_more : RowTree → Trees → Option Trees = λ p ps. Some (p ∷ ps.0, ps.1) in
    let sum_all : Trees → Option End = λ ps. Some (trees_summary target ps.0, ps.1) in
    let sum_with : Option Summary → ℕ → Summary → Trees → Option End = λ first count s ps. Some (count_and_first count (Some (kept_first first s)), ps.1) in
    let others : RowTree × List ℕ → Option Trees = λ p. times (tree_at max_levels) n p.1 in
    let by_open : ℕ → ℕ → Option Summary → Summary × List ℕ → Option End = λ count left first end. times (tree_at max_levels) left end.1 >>= sum_with first count end.0 in
    ap (λ (o : Option (Summary × List ℕ)). o >>= by_open tree.count tree.left tree.first) (same bytes ∙ summary_is target bytes)
    ∙ ap (λ (first : Option Summary). (tree_at max_levels bytes >>= with_summary target) >>= by_open tree.count tree.left first) is_first
    ∙ ap (λ (k : ℕ). (tree_at max_levels bytes >>= with_summary target) >>= by_open tree.count k None) is_left
    ∙ ap (λ (k : ℕ). (tree_at max_levels bytes >>= with_summary target) >>= by_open k n None) is_count
    ∙ bind_assoc (tree_at max_levels bytes) (with_summary target) (by_open (suc n) n None)
    ∙ bind_same (tree_at max_levels bytes) (λ p. with_summary target p >>= by_open (suc n) n None) (λ p. (others p >>= one_more p.0) >>= sum_all)
    (λ p.
    bind_at (others p) (sum_with None (suc n) (tree_summary target (is_visited target) p.0)) (λ ps. one_more p.0 ps >>= sum_all)
    (λ ps e. ap (λ (k : ℕ). Some (count_and_first (suc k) (Some (tree_summary target (is_visited target) p.0)), ps.1)) (sym (times_length (tree_at max_levels) n p.1 ps.0 ps.1 e)))
    ∙ sym (bind_assoc (others p) (one_more p.0) sum_all))
    ∙ sym (bind_assoc (tree_at max_levels bytes) (λ p. others p >>= one_more p.0) sum_all)

pub no_trees : (target : Target) (bytes : List ℕ) → trees_at target (0 ∷ bytes) ≡ Some (count_and_first 0 None, bytes)
unfolding trees_at byte_at
no_trees target bytes = refl

-- A tree that ends.

pub tree_lost : (stream : TreeStream) → IsSettled stream → None ≡ option_map (λ (end : Summary × List ℕ). end.0) (summary_of stream []) → (bytes : List ℕ) → summary_of stream bytes ≡ None
tree_lost stream (inl nowhere) end bytes = nowhere bytes
tree_lost stream (inr found) end bytes = absurd (some_none found.0 (sym (end ∙ ap (option_map (λ (end : Summary × List ℕ). end.0)) (found.1 []))))

pub next_is : (old new : OpenTree) (s : Summary) → ((bytes : List ℕ) → summary_of old.stream bytes ≡ Some (s, bytes)) → ((bytes : List ℕ) → summary_of new.stream bytes ≡ summary_of_tree no_target bytes)
    → new.count ≡ old.count → old.left ≡ suc new.left → new.first ≡ Some (kept_first old.first s) → (bytes : List ℕ) → rest_of_open new bytes ≡ rest_of_open old bytes
unfolding rest_of_open
next_is old new s ended begun same_count one_fewer kept bytes =
    let n : ℕ = new.left in
    let first : Summary = kept_first old.first s in
    let one_more : RowTree → Trees → Option Trees = λ p ps. Some (p ∷ ps.0, ps.1) in
    let sum : Trees → Option End = λ ps. Some (count_and_first old.count (Some first), ps.1) in
    let others : RowTree × List ℕ → Option Trees = λ p. times (tree_at max_levels) n p.1 in
    let by_new : ℕ → Option Summary → Summary × List ℕ → Option End = λ count kept end. one (λ (trees : List RowTree). count_and_first count (Some (kept_first kept end.0))) (times (tree_at max_levels) n) end.1 in
    ap (λ (o : Option (Summary × List ℕ)). o >>= by_new new.count new.first) (begun bytes ∙ summary_is no_target bytes)
    ∙ ap (λ (kept : Option Summary). (tree_at max_levels bytes >>= with_summary no_target) >>= by_new new.count kept) kept
    ∙ ap (λ (count : ℕ). (tree_at max_levels bytes >>= with_summary no_target) >>= by_new count (Some first)) same_count
    ∙ bind_assoc (tree_at max_levels bytes) (with_summary no_target) (by_new old.count (Some first))
    ∙ bind_same (tree_at max_levels bytes) (λ p. with_summary no_target p >>= by_new old.count (Some first)) (λ p. (others p >>= one_more p.0) >>= sum)
    (λ p. sym (bind_assoc (others p) (one_more p.0) sum))
    ∙ sym (bind_assoc (tree_at max_levels bytes) (λ p. others p >>= one_more p.0) sum)
    ∙ ap (λ (k : ℕ). times (tree_at max_levels) k bytes >>= sum) (sym one_fewer)
    ∙ sym (ap (λ (o : Option (Summary × List ℕ)). o >>= others_of old) (ended bytes))

abbrev whole_end : Option End → Option TreesSummary
whole_end o = whole o

-- bytes behind the last tree
pub left_over : (tree : OpenTree) → IsSettled tree.stream → tree.left ≡ 0 → (bytes : List ℕ) → (bytes ≡ [] → ⊥) → whole (rest_of_open tree bytes) ≡ None
unfolding rest_of_open
left_over tree (inl nowhere) last bytes some = ap (λ (o : Option (Summary × List ℕ)). whole_end (o >>= others_of tree)) (nowhere bytes)
left_over tree (inr found) last [] some = absurd (some refl)
left_over tree (inr found) last (byte ∷ bytes) some =
    let made : ℕ → Summary × List ℕ → Option End = λ n end. one (λ (trees : List RowTree). count_and_first tree.count (Some (kept_first tree.first end.0))) (times (tree_at max_levels) n) end.1 in
    ap (λ (n : ℕ). whole_end (summary_of tree.stream (byte ∷ bytes) >>= made n)) last
    ∙ ap (λ (o : Option (Summary × List ℕ)). whole_end (o >>= made 0)) (found.1 (byte ∷ bytes))

pub none_left : (tree : OpenTree) (bytes : List ℕ) → summary_of tree.stream bytes ≡ None → whole (rest_of_open tree bytes) ≡ None
unfolding rest_of_open
none_left tree bytes lost = ap (λ (o : Option (Summary × List ℕ)). whole_end (o >>= others_of tree)) lost

-- The end.

pub end_lost : (tree : OpenTree) → None ≡ option_map summary_in (summary_of tree.stream []) → None ≡ whole (rest_of_open tree [])
end_lost tree e = sym (none_left tree [] (not_ended tree.stream e))

no_tree : (n : ℕ) → times (tree_at max_levels) (suc n) [] ≡ None
unfolding tree_at node_at
no_tree n = refl

pub end_early : (tree : OpenTree) (s : Summary) → Some s ≡ option_map summary_in (summary_of tree.stream []) → 0 < tree.left → None ≡ whole (rest_of_open tree [])
unfolding rest_of_open
end_early tree s e some =
    let n : ℕ = tree.left - 1 in
    let more : tree.left ≡ suc n = omega (arith, some) in
    let sum : Trees → Option End = λ ps. Some (count_and_first tree.count (Some (kept_first tree.first s)), ps.1) in
    sym (ap (λ (o : Option (Summary × List ℕ)). whole_end (o >>= others_of tree)) (ended tree.stream s e [])
    ∙ ap (λ (k : ℕ). whole_end (times (tree_at max_levels) k [] >>= sum)) more
    ∙ ap (λ (o : Option Trees). whole_end (o >>= sum)) (no_tree n))

pub end_whole : (tree : OpenTree) (s : Summary) (first : Option Summary) → Some s ≡ option_map summary_in (summary_of tree.stream []) → tree.left ≡ 0 → first ≡ Some (kept_first tree.first s)
    → Some (count_and_first tree.count first) ≡ whole (rest_of_open tree [])
unfolding rest_of_open
end_whole tree s first e last kept =
    let sum : Trees → Option End = λ ps. Some (count_and_first tree.count (Some (kept_first tree.first s)), ps.1) in
    ap (λ (f : Option Summary). Some (count_and_first tree.count f)) kept
    ∙ sym (ap (λ (o : Option (Summary × List ℕ)). whole_end (o >>= others_of tree)) (ended tree.stream s e [])
    ∙ ap (λ (k : ℕ). whole_end (times (tree_at max_levels) k [] >>= sum)) last)

pub end_found : (tree : OpenTree) (s : Summary) → Some s ≡ option_map summary_in (summary_of tree.stream [])
    → (if ltb 0 tree.left then None else Some (count_and_first tree.count (Some (kept_first tree.first s)))) ≡ whole (rest_of_open tree [])
end_found tree s e =
    let found : Option TreesSummary = Some (count_and_first tree.count (Some (kept_first tree.first s))) in
    elim (cases_Bool (ltb 0 tree.left)) [
      | inl more ↦ ap (λ (b : Bool). if b then None else found) more ∙ end_early tree s e (ltb-true 0 tree.left more)
      | inr last ↦ ap (λ (b : Bool). if b then None else found) last ∙ end_whole tree s (Some (kept_first tree.first s)) e (omega (arith, ltb-false 0 tree.left last)) refl
    ]

-- Where memory runs out.

pub tree_way : (tree : OpenTree) → CanEndTree (summary_of tree.stream) → CanBecomeTrees (Tree tree)
unfolding rest_of_trees rest_of_open
tree_way tree can =
    let stubs = repeated (tree_at max_levels) tree.left (a_stub max_levels (omega arith)) in
    let found : TreesSummary = count_and_first tree.count (Some (kept_first tree.first can.found)) in
    record {
      bytes = can.bytes ++ stubs.bytes;
      are_bytes = IsBytes-append can.bytes stubs.bytes can.are_bytes stubs.are_bytes;
      found = found;
      is = ap (λ (o : Option (Summary × List ℕ)). whole_end (o >>= others_of tree)) (can.each stubs.bytes)
          ∙ ap (λ (bytes : List ℕ). whole_end (others_of tree (can.found, bytes))) (sym (append-nil stubs.bytes))
          ∙ ap (λ (o : Option Trees). whole_end (o >>= λ ps. let end : Option End = Some (found, ps.1) in end)) (stubs.each []);
    }
