-- One child further in a node: what is gathered of the children to come, and what these miss.
use Rattle.std.proofs.Common.{◌≡◌, ℕ, zero, suc, ◌+◌, ◌<◌, ◌≤◌, Bool, true, false, cond, ◌||◌, List, [], ◌∷◌, ◌++◌, length, get_or, map, Err, take, drop, Option, None, refl, sym, ap, ◌∙◌, slice_get, append-nil, arith}
use Rattle.std.specs.List.{list_any}
use Rattle.std.specs.Prelude.{pos, ◌+ℤ◌, FitsSigned}
use Rattle.std.specs.Int.{w128}
use Rattle.vo_spec.specs.declared.trees.ScanFault.{ScanFault}
use Rattle.vo_spec.specs.declared.trees.ScanFault.TheVariants.{Missing, Memory}
use Rattle.totals_laws.specs.TotalsCollisions.{is_open}
use Rattle.mb_sum.specs.Meetings.{FindsOrMissing}
use Rattle.std.proofs.lemmas.List.{drop_more, drop-drop, drop_all}
use Rattle.vo_spec.specs.declared.keys.Interval.{Interval}
use Rattle.vo_spec.specs.Parts.{stub, leaf, inner, none, more}
use Rattle.vo_spec.specs.Pruning.{is_missing_by, is_missing_in, has_surplus_by, has_surplus_in}
use Rattle.totals_laws.specs.declared.totals.TotalEntry.{TotalEntry}
use Rattle.totals_laws.specs.declared.totals.Totals.{Totals}
use Rattle.totals_laws.specs.TotalsTrees.{TotalsPart, TotalsParts, no_totals, plus, reduced, totals_of_entries}
use Rattle.totals_laws.specs.TotalsProofs.{Reach, passed, taken, visited, reach, child_end, totals_walk, by_reach, is_visited, gathered, gathered_in, entries_inside, is_missing, answer}
use Rattle.totals_laws.proofs.Sums.{same_totals, reduced_plus, reduced_twice, nothing_after, plus_plus, totals_appended}
use Rattle.std.proofs.lemmas.Int.{ints, int_wrap_fits}
use Rattle.std.proofs.lemmas.List.Elements.{filter_more}
use Rattle.vo_spec.specs.Scans.{in_interval, is_empty_interval}
use Rattle.mb_sum.specs.declared.parts.TotalChild.{TotalChild}
use Rattle.mb_sum.specs.Views.{part_of, parts_of}

part_at : (cs : List TotalChild) (i : ℕ) (c : TotalChild) → i < length cs → c ≡ get_or cs i c → parts_of (drop i cs) ≡ more c.totals (part_of c.tree) (parts_of (drop (i + 1) cs))
part_at cs i c lt is = ap parts_of (drop_more cs i c lt) ∙ ap (λ (q : TotalChild). more q.totals (part_of q.tree) (parts_of (drop (i + 1) cs))) (sym is)

no_part_at : (cs : List TotalChild) (i : ℕ) → length cs ≤ i → parts_of (drop i cs) ≡ none
no_part_at cs i h = ap parts_of (drop_all i cs h)

pub first_at : {X : Type 0} (xs : List X) (i : ℕ) → slice_get (drop i xs) 0 ≡ slice_get xs i
first_at [] zero = refl
first_at [] (suc i) = refl
first_at (x ∷ xs) zero = refl
first_at (x ∷ xs) (suc i) = first_at xs i

pub rest_at : {X : Type 0} (xs : List X) (i : ℕ) → drop 1 (drop i xs) ≡ drop (i + 1) xs
rest_at xs i = drop-drop 1 i xs

-- what is missed doesn't go by the lower separator that the walk is told
near_ignored : (interval : Interval) (r : Reach) (near : Option (List ℕ)) (ss : List (List ℕ)) (ps : TotalsParts) → is_missing_in (totals_walk interval) r near ss ps ≡ is_missing_in (totals_walk interval) r None ss ps
near_ignored interval r near ss none = refl
near_ignored interval r near ss (more m p ps) = refl

surplus_near_ignored : (interval : Interval) (r : Reach) (near : Option (List ℕ)) (ss : List (List ℕ)) (ps : TotalsParts) → has_surplus_in (totals_walk interval) r near ss ps ≡ has_surplus_in (totals_walk interval) r None ss ps
surplus_near_ignored interval r near ss none = refl
surplus_near_ignored interval r near ss (more m p ps) = refl

module _ (interval : Interval) (lower end : Option (List ℕ)) (ss : List (List ℕ)) (i : ℕ) (cs : List TotalChild) where
  abbrev upper : Option (List ℕ)
  upper = child_end (slice_get ss i) end

  abbrev to_come : TotalsParts
  to_come = parts_of (drop (i + 1) cs)

  gathered_at : (c : TotalChild) → i < length cs → c ≡ get_or cs i c
      → gathered_in interval lower end (drop i ss) (parts_of (drop i cs))
      ≡ plus (by_reach (reach interval lower upper) c.totals (gathered interval lower upper (part_of c.tree))) (gathered_in interval upper end (drop (i + 1) ss) to_come)
  gathered_at c lt is = rw (part_at cs i c lt is, first_at ss i, rest_at ss i) refl

  missing_at : (c : TotalChild) → i < length cs → c ≡ get_or cs i c
      → is_missing_in (totals_walk interval) (visited lower end) None (drop i ss) (parts_of (drop i cs))
      ≡ is_missing_by (totals_walk interval) (reach interval lower upper) (part_of c.tree) || is_missing_in (totals_walk interval) (visited upper end) None (drop (i + 1) ss) to_come
  missing_at c lt is =
      rw (part_at cs i c lt is, first_at ss i, rest_at ss i)
      (ap (λ b. is_missing_by (totals_walk interval) (reach interval lower upper) (part_of c.tree) || b) (near_ignored interval (visited upper end) (slice_get ss i) (drop (i + 1) ss) to_come))

  surplus_at : (c : TotalChild) → i < length cs → c ≡ get_or cs i c
      → has_surplus_in (totals_walk interval) (visited lower end) None (drop i ss) (parts_of (drop i cs))
      ≡ has_surplus_by (totals_walk interval) (reach interval lower upper) (part_of c.tree) || has_surplus_in (totals_walk interval) (visited upper end) None (drop (i + 1) ss) to_come
  surplus_at c lt is =
      rw (part_at cs i c lt is, first_at ss i, rest_at ss i)
      (ap (λ b. has_surplus_by (totals_walk interval) (reach interval lower upper) (part_of c.tree) || b) (surplus_near_ignored interval (visited upper end) (slice_get ss i) (drop (i + 1) ss) to_come))

  -- a child that gives what it is to give, and misses nothing
  pub gathered_step : (c : TotalChild) (before found all : Totals) → i < length cs → c ≡ get_or cs i c
      → reduced found ≡ reduced (by_reach (reach interval lower upper) c.totals (gathered interval lower upper (part_of c.tree)))
      → reduced (plus before (gathered_in interval lower end (drop i ss) (parts_of (drop i cs)))) ≡ reduced all
      → reduced (plus (reduced (plus before found)) (gathered_in interval upper end (drop (i + 1) ss) to_come)) ≡ reduced all
  gathered_step c before found all lt is same e =
      let here = by_reach (reach interval lower upper) c.totals (gathered interval lower upper (part_of c.tree)) in
      let rest = gathered_in interval upper end (drop (i + 1) ss) to_come in
      reduced_plus (reduced (plus before found)) (plus before here) rest rest (reduced_twice (plus before found) ∙ reduced_plus before before found here refl same) refl
      ∙ ap reduced (plus_plus before here rest)
      ∙ ap (λ t. reduced (plus before t)) (sym (gathered_at c lt is))
      ∙ e

  pub missing_step : (c : TotalChild) (all : Bool) → i < length cs → c ≡ get_or cs i c → is_missing_by (totals_walk interval) (reach interval lower (child_end (slice_get ss i) end)) (part_of c.tree) ≡ false
      → is_missing_in (totals_walk interval) (visited lower end) None (drop i ss) (parts_of (drop i cs)) ≡ all
      → is_missing_in (totals_walk interval) (visited (child_end (slice_get ss i) end) end) None (drop (i + 1) ss) (parts_of (drop (i + 1) cs)) ≡ all
  missing_step c all lt is none_here e = ap (λ b. b || is_missing_in (totals_walk interval) (visited upper end) None (drop (i + 1) ss) to_come) (sym none_here) ∙ sym (missing_at c lt is) ∙ e

  pub missing_here : (c : TotalChild) (all : Bool) → i < length cs → c ≡ get_or cs i c → is_missing_by (totals_walk interval) (reach interval lower (child_end (slice_get ss i) end)) (part_of c.tree) ≡ true
      → is_missing_in (totals_walk interval) (visited lower end) None (drop i ss) (parts_of (drop i cs)) ≡ all → all ≡ true
  missing_here c all lt is here e = sym e ∙ missing_at c lt is ∙ ap (λ b. b || is_missing_in (totals_walk interval) (visited upper end) None (drop (i + 1) ss) to_come) here

  pub surplus_step : (c : TotalChild) (told more_told all : Bool) → i < length cs → c ≡ get_or cs i c → more_told ≡ has_surplus_by (totals_walk interval) (reach interval lower (child_end (slice_get ss i) end)) (part_of c.tree)
      → told || has_surplus_in (totals_walk interval) (visited lower end) None (drop i ss) (parts_of (drop i cs)) ≡ all
      → (told || more_told) || has_surplus_in (totals_walk interval) (visited (child_end (slice_get ss i) end) end) None (drop (i + 1) ss) (parts_of (drop (i + 1) cs)) ≡ all
  surplus_step c true m all lt is f e = e
  surplus_step c false m all lt is f e = ap (λ b. b || has_surplus_in (totals_walk interval) (visited upper end) None (drop (i + 1) ss) to_come) f ∙ sym (surplus_at c lt is) ∙ e

  pub gathered_end : (before all : Totals) → length cs ≤ i → reduced (plus before (gathered_in interval lower end (drop i ss) (parts_of (drop i cs)))) ≡ reduced all → reduced before ≡ reduced all
  gathered_end before all h e =
      let gone : gathered_in interval lower end (drop i ss) (parts_of (drop i cs)) ≡ no_totals = rw (no_part_at cs i h) refl in
      ap reduced (sym (nothing_after before)) ∙ ap (λ t. reduced (plus before t)) (sym gone) ∙ e

  pub missing_end : (all : Bool) → length cs ≤ i → is_missing_in (totals_walk interval) (visited lower end) None (drop i ss) (parts_of (drop i cs)) ≡ all → all ≡ false
  missing_end all h e = let gone : is_missing_in (totals_walk interval) (visited lower end) None (drop i ss) (parts_of (drop i cs)) ≡ false = rw (no_part_at cs i h) refl in sym e ∙ gone

-- where a node isn't visited, nothing below it is

pub none_lacks : (es : List TotalEntry) → list_any (λ (e : TotalEntry). false) es ≡ false
none_lacks [] = refl
none_lacks (e ∷ es) = none_lacks es

mutual
  pub passed_misses_none : (interval : Interval) (p : TotalsPart) → is_missing_by (totals_walk interval) passed p ≡ false
  passed_misses_none interval (stub d) = refl
  passed_misses_none interval (leaf es) = none_lacks es
  passed_misses_none interval (inner ss ps) = passed_miss_none interval None ss ps

  passed_miss_none : (interval : Interval) (near : Option (List ℕ)) (ss : List (List ℕ)) (ps : TotalsParts) → is_missing_in (totals_walk interval) passed near ss ps ≡ false
  passed_miss_none interval near ss none = refl
  passed_miss_none interval near ss (more m p ps) = rw (passed_misses_none interval p, passed_miss_none interval (slice_get ss 0) (drop 1 ss) ps) refl

pub taken_misses_none : (interval : Interval) (p : TotalsPart) → is_missing_by (totals_walk interval) taken p ≡ false
taken_misses_none interval (stub d) = refl
taken_misses_none interval (leaf es) = none_lacks es
taken_misses_none interval (inner ss ps) = each None ss ps
  where
    each : (near : Option (List ℕ)) (ss : List (List ℕ)) (ps : TotalsParts) → is_missing_in (totals_walk interval) taken near ss ps ≡ false
    each near ss none = refl
    each near ss (more m p ps) = rw (passed_misses_none interval p, passed_miss_none interval (slice_get ss 0) (drop 1 ss) ps) refl

-- One entry more of those that are looked through.
pub one_more_entry : (interval : Interval) (es : List TotalEntry) (i : ℕ) (e : TotalEntry) → i < length es → e ≡ get_or es i e
    → entries_inside interval (take (i + 1) es) ≡ entries_inside interval (take i es) ++ cond (in_interval interval e.key) (e ∷ []) []
one_more_entry interval es i e lt is =
    filter_more (λ (x : TotalEntry). in_interval interval x.key) es i e lt
    ∙ ap (λ (x : TotalEntry). entries_inside interval (take i es) ++ cond (in_interval interval x.key) (x ∷ []) []) (sym is)

-- one that is inside
pub entry_added : (interval : Interval) (es : List TotalEntry) (i : ℕ) (e : TotalEntry) (before : Totals) → i < length es → e ≡ get_or es i e → in_interval interval e.key ≡ true
    → before ≡ reduced (totals_of_entries (entries_inside interval (take i es)))
    → reduced (plus before (record { count = 1; sum = e.value })) ≡ reduced (totals_of_entries (entries_inside interval (take (i + 1) es)))
entry_added interval es i e before lt is inside so_far =
    let old = entries_inside interval (take i es) in
    reduced_plus before (totals_of_entries old) (record { count = 1; sum = e.value }) (totals_of_entries (e ∷ [])) (ap reduced so_far ∙ reduced_twice (totals_of_entries old)) (ap reduced (same_totals 1 (length (e ∷ [])) e.value (e.value +ℤ pos 0) (omega arith) (omega (arith, ints))))
    ∙ ap reduced (sym (totals_appended old (e ∷ [])))
    ∙ ap (λ b. reduced (totals_of_entries (old ++ cond b (e ∷ []) []))) (sym inside)
    ∙ ap (λ l. reduced (totals_of_entries l)) (sym (one_more_entry interval es i e lt is))

pub entry_passed : (interval : Interval) (es : List TotalEntry) (i : ℕ) (e : TotalEntry) (before : Totals) → i < length es → e ≡ get_or es i e → in_interval interval e.key ≡ false
    → before ≡ reduced (totals_of_entries (entries_inside interval (take i es)))
    → before ≡ reduced (totals_of_entries (entries_inside interval (take (i + 1) es)))
entry_passed interval es i e before lt is outside so_far =
    let old = entries_inside interval (take i es) in
    so_far
    ∙ ap (λ l. reduced (totals_of_entries l)) (sym (append-nil old))
    ∙ ap (λ b. reduced (totals_of_entries (old ++ cond b (e ∷ []) []))) (sym outside)
    ∙ ap (λ l. reduced (totals_of_entries l)) (sym (one_more_entry interval es i e lt is))

-- a fault that is handed on
pub fault_on : {A B : Type 0} (fault : ScanFault) (a b : Bool) (Is : A → Type 0) (IsToo : B → Type 0) → FindsOrMissing (Err fault) a Is → (a ≡ true → b ≡ true) → FindsOrMissing (Err fault) b IsToo
fault_on Missing a b Is IsToo h f = f h
fault_on Memory a b Is IsToo h f = absurd h

-- where a child ends, by the separators as they are
pub end_is : (key : List ℕ → List ℕ) → ((k : List ℕ) → key k ≡ k) → (ss : List (List ℕ)) (i : ℕ) (end : Option (List ℕ)) → child_end (slice_get (map key ss) i) end ≡ child_end (slice_get ss i) end
end_is key same ss i end = ap (λ l. child_end (slice_get l i) end) (same_list ss)
  where
    same_list : (ks : List (List ℕ)) → map key ks ≡ ks
    same_list [] = refl
    same_list (k ∷ ks) = ap (λ x. x ∷ map key ks) (same k) ∙ ap (λ l. k ∷ l) (same_list ks)

-- nothing is in an interval that is empty
pub empty_finds : (interval : Interval) (p : TotalsPart) → is_empty_interval interval ≡ true → (is_missing interval p ≡ false) × (no_totals ≡ answer interval p)
empty_finds interval p e = rw e (passed_misses_none interval p, same_totals _ _ _ _ refl (sym (int_wrap_fits w128 (pos 0) zero_fits)))
  where
    zero_fits : FitsSigned w128 (pos 0)
    zero_fits = record { sfits = omega arith }

-- a node that isn't visited is to be closed

pub closed_surplus : (interval : Interval) (r : Reach) (p : TotalsPart) → is_visited r ≡ false → has_surplus_by (totals_walk interval) r p ≡ is_open p
closed_surplus interval r (stub d) e = refl
closed_surplus interval r (leaf es) e = rw e refl
closed_surplus interval r (inner ss ps) e = rw e refl

pub surplus_end : (interval : Interval) (lower end : Option (List ℕ)) (ss : List (List ℕ)) (i : ℕ) (cs : List TotalChild) (told all : Bool) → length cs ≤ i
    → told || has_surplus_in (totals_walk interval) (visited lower end) None (drop i ss) (parts_of (drop i cs)) ≡ all → told ≡ all
surplus_end interval lower end ss i cs told all h e =
    let gone : has_surplus_in (totals_walk interval) (visited lower end) None (drop i ss) (parts_of (drop i cs)) ≡ false = rw (no_part_at cs i h) refl in
    sym (or_false told) ∙ ap (λ b. told || b) (sym gone) ∙ e
  where
    or_false : (b : Bool) → b || false ≡ b
    or_false true = refl
    or_false false = refl
