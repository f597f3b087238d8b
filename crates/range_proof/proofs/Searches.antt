-- Searches of a walk after another.
use Rattle.std.proofs.Common.{◌≡◌, ℕ, suc, ◌+◌, ◌-◌, ◌<◌, ◌≤◌, Bool, true, false, cond, List, [], ◌∷◌, ◌++◌, length, map, get_or, drop, Option, Some, None, refl, sym, ap, ◌∙◌, subst, arith}
use Rattle.std.specs.Prelude.{filter, slice_get}
use Rattle.std.proofs.lemmas.List.{length-append, drop_more}
use Rattle.std.proofs.lemmas.List.Elements.{filter-append}
use Rattle.std.proofs.lemmas.Option.{slice_get_past}
use Rattle.vo_spec.specs.declared.needs.Need.{Need}
use Rattle.vo_spec.specs.declared.needs.SeenRow.{SeenRow}
use Rattle.vo_spec.specs.declared.cells.PartEntry.{PartEntry}
use Rattle.vo_spec.specs.Trees.{RowTree}
use Rattle.vo_spec.specs.Scans.{in_interval, visits, values_in, with_key}
use Rattle.vo_spec.specs.Walks.{ScanWalk, walk_end, from_row, onward, walk_of_entries, walk_in, walk_in_each}
use Rattle.vo_spec.specs.Cuts.{RowCondition, nth_met}
use Rattle.mb_tree.specs.RowNodes.{row_kids}
use Rattle.vo_laws.proofs.OneCut.{front_met}
use Rattle.range_proof.proofs.Steps.{kid_at, no_kid_at, first_seen, rest_seen}
use Rattle.range_proof.specs.declared.searching.Search.{Search}
use Rattle.range_proof.specs.declared.searching.Search.TheVariants.{Found, Stopped, Ended}
use Rattle.range_proof.specs.Searching.{Searches, entry_walk}

get_behind : {A : Type 0} (xs ys : List A) (k : ℕ) → slice_get (xs ++ ys) (length xs + k) ≡ slice_get ys k
get_behind [] ys k = let same : 0 + k ≡ k = omega arith in ap (slice_get ys) same
get_behind (x ∷ xs) ys k =
    let same : length (x ∷ xs) + k ≡ suc (length xs + k) = omega arith in
    ap (slice_get (x ∷ xs ++ ys)) same ∙ get_behind xs ys k

-- the n-th of two lists, where the first has fewer
behind_met : (meets : RowCondition) (rows more : List SeenRow) (left wanted : ℕ) → 0 < left → length (filter meets rows) + left ≡ wanted → nth_met meets wanted (rows ++ more) ≡ nth_met meets left more
behind_met meets rows more left wanted lt e =
    let place : wanted - 1 ≡ length (filter meets rows) + (left - 1) = omega arith in
    ap (λ z. slice_get z (wanted - 1)) (filter-append meets rows more) ∙ ap (slice_get (filter meets rows ++ filter meets more)) place
    ∙ get_behind (filter meets rows) (filter meets more) (left - 1)

pub none_met : (meets : RowCondition) (rows : List SeenRow) (left wanted : ℕ) → 0 < left → length (filter meets rows) + left ≡ wanted → nth_met meets wanted rows ≡ None
none_met meets rows left wanted lt e =
    let place : wanted - 1 ≡ length (filter meets rows) + (left - 1) = omega arith in
    slice_get_past (filter meets rows) (wanted - 1) (omega arith)

onward_ended : (w v : ScanWalk) → w.has_end ≡ true → onward w v ≡ record { rows = w.rows ++ v.rows; has_end = v.has_end }
onward_ended w v e = rw e refl

onward_stopped : (w v : ScanWalk) → w.has_end ≡ false → onward w v ≡ w
onward_stopped w v e = rw e refl

-- a walk that has ended, and what is searched behind it
pub search_on : (meets : RowCondition) (left wanted : ℕ) (w v : ScanWalk) → Searches (Ended left) meets wanted w → (r : Search) → Searches r meets left v → Searches r meets wanted (onward w v)
search_on meets left wanted w v s r h = subst (Searches r meets wanted) (sym (onward_ended w v s.0)) (step r h)
  where
    count : length (filter meets (w.rows ++ v.rows)) ≡ length (filter meets w.rows) + length (filter meets v.rows)
    count = ap length (filter-append meets w.rows v.rows) ∙ length-append (filter meets w.rows) (filter meets v.rows)

    step : (r : Search) → Searches r meets left v → Searches r meets wanted (record { rows = w.rows ++ v.rows; has_end = v.has_end })
    step (Found key) h = (h.0, behind_met meets w.rows v.rows left wanted s.1 s.2 ∙ h.1, h.2)
    step Stopped h = (h.0, behind_met meets w.rows v.rows left wanted s.1 s.2 ∙ h.1)
    step (Ended more) h =
        let a : length (filter meets w.rows) + left ≡ wanted = s.2 in
        let b : length (filter meets v.rows) + more ≡ left = h.2 in
        (h.0, h.1, (let c = count in omega arith))

-- a search that is over, whatever is behind it
abbrev pub IsOver : Search → Type 0
IsOver (Ended more) = ⊥
IsOver _ = Unit {0}

pub search_over : (meets : RowCondition) (wanted : ℕ) (w v : ScanWalk) (r : Search) → IsOver r → Searches r meets wanted w → Searches r meets wanted (onward w v)
search_over meets wanted w v (Ended more) o h = absurd o
search_over meets wanted w v Stopped o h = subst (Searches Stopped meets wanted) (sym (onward_stopped w v h.0)) h
search_over meets wanted w v (Found key) o h = (h.0, step w.has_end, h.2)
  where
    step : (b : Bool) → nth_met meets wanted (cond b (record { rows = w.rows ++ v.rows; has_end = v.has_end }) w).rows ≡ Some h.0
    step true = front_met meets wanted w.rows v.rows h.0 h.1
    step false = h.1

-- an entry, and those behind it
pub entry_first : (need : Need) (e : PartEntry) (es : List PartEntry) → walk_of_entries need (e ∷ es) ≡ onward (entry_walk need e) (walk_of_entries need es)
entry_first need e es = step (in_interval need.interval e.key) (with_key e.key (values_in e.row need.columns))
  where
    rest : ScanWalk
    rest = walk_of_entries need es

    step : (b : Bool) (row : Option SeenRow) → cond b (from_row row rest) rest ≡ onward (cond b (from_row row walk_end) walk_end) rest
    step true None = refl
    step true (Some row) = refl
    step false row = refl

module _ {K N : Type 0} (key : K → List ℕ) (tree : N → RowTree) (need : Need) (lower : Option (List ℕ)) (ss : List K) (ns : List N) (i : ℕ) where
  -- what is behind the child of this number
  abbrev behind : ScanWalk
  behind = walk_in_each need (slice_get (map key ss) i) (map key (drop (i + 1) ss)) (row_kids tree (drop (i + 1) ns))

  at : (n : N) → i < length ns → n ≡ get_or ns i n → walk_in_each need lower (map key (drop i ss)) (row_kids tree (drop i ns))
      ≡ cond (visits need.interval lower (slice_get (map key ss) i)) (onward (walk_in need (tree n)) behind) behind
  at n lt is = rw (kid_at tree ns i n lt is, first_seen key ss i, rest_seen key ss i) refl

  pub at_visited : (n : N) → i < length ns → n ≡ get_or ns i n → visits need.interval lower (slice_get (map key ss) i) ≡ true
      → walk_in_each need lower (map key (drop i ss)) (row_kids tree (drop i ns)) ≡ onward (walk_in need (tree n)) (walk_in_each need (slice_get (map key ss) i) (map key (drop (i + 1) ss)) (row_kids tree (drop (i + 1) ns)))
  at_visited n lt is v = at n lt is ∙ ap (λ b. cond b (onward (walk_in need (tree n)) behind) behind) v

  pub at_passed : (n : N) → i < length ns → n ≡ get_or ns i n → visits need.interval lower (slice_get (map key ss) i) ≡ false
      → walk_in_each need lower (map key (drop i ss)) (row_kids tree (drop i ns)) ≡ walk_in_each need (slice_get (map key ss) i) (map key (drop (i + 1) ss)) (row_kids tree (drop (i + 1) ns))
  at_passed n lt is v = at n lt is ∙ ap (λ b. cond b (onward (walk_in need (tree n)) behind) behind) v

  pub at_end : length ns ≤ i → walk_in_each need lower (map key (drop i ss)) (row_kids tree (drop i ns)) ≡ walk_end
  at_end h = ap (walk_in_each need lower (map key (drop i ss))) (no_kid_at tree ns i h)

over : (r : Search) → ((more : ℕ) → r ≡ Ended more → ⊥) → IsOver r
over (Ended more) f = absurd (f more refl)
over Stopped f = tt
over (Found key) f = tt

-- One step of a search through what is to come, which is one entry or child and what is behind it:
-- it is over, or goes on behind that.
module _ (meets : RowCondition) (left wanted : ℕ) (here behind all first : ScanWalk) (is : here ≡ onward first behind) (rest : (r : Search) → Searches r meets left here → Searches r meets wanted all) where
  pub step_over : (r : Search) → ((more : ℕ) → r ≡ Ended more → ⊥) → Searches r meets left first → Searches r meets wanted all
  step_over r f h = rest r (subst (Searches r meets left) (sym is) (search_over meets left first behind r (over r f) h))

  pub step_on : (r : Search) (more : ℕ) → r ≡ Ended more → Searches r meets left first → (0 < more) × ((s : Search) → Searches s meets more behind → Searches s meets wanted all)
  step_on r more e h = let ended : Searches (Ended more) meets left first = subst (λ s. Searches s meets left first) e h in
      (ended.1, λ s k. rest s (subst (Searches s meets left) (sym is) (search_on meets more left first behind ended s k)))

pub entry_here : {E : Type 0} (entry : E → PartEntry) (need : Need) (es : List E) (i : ℕ) (e : E) → i < length es → e ≡ get_or es i e
    → walk_of_entries need (map entry (drop i es)) ≡ onward (entry_walk need (entry e)) (walk_of_entries need (map entry (drop (i + 1) es)))
entry_here entry need es i e lt is =
    ap (λ xs. walk_of_entries need (map entry xs)) (drop_more es i e lt) ∙ ap (λ x. walk_of_entries need (entry x ∷ map entry (drop (i + 1) es))) (sym is) ∙ entry_first need (entry e) (map entry (drop (i + 1) es))

-- nothing is to come
pub search_done : (meets : RowCondition) (left wanted : ℕ) (here all : ScanWalk) → here ≡ walk_end → 0 < left → ((r : Search) → Searches r meets left here → Searches r meets wanted all) → Searches (Ended left) meets wanted all
search_done meets left wanted here all is lt rest = rest (Ended left) (subst (Searches (Ended left) meets left) (sym is) (refl, lt, nothing left))
  where
    nothing : (k : ℕ) → 0 + k ≡ k
    nothing k = omega arith

-- what a call says of a visit, by the separator that it was given
pub visits_as : (need : Need) (lower given upper : Option (List ℕ)) (answer b : Bool) → given ≡ upper → answer ≡ visits need.interval lower given → answer ≡ b → visits need.interval lower upper ≡ b
visits_as need lower given upper answer b e f g = ap (visits need.interval lower) (sym e) ∙ sym f ∙ g
