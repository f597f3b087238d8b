-- One child further in a node: the children and separators to come.
use Rattle.std.proofs.Common.{◌≡◌, ℕ, zero, suc, ◌+◌, ◌<◌, ◌≤◌, true, false, cond, List, [], ◌∷◌, ◌++◌, length, get_or, map, drop, Option, Some, None, refl, sym, ap, ◌∙◌, append_assoc, slice_get, arith}
use Rattle.std.proofs.lemmas.List.{drop_more, drop-drop, drop_all}
use Rattle.std.proofs.lemmas.List.{drop-map}
use Rattle.vo_spec.specs.declared.needs.Need.{Need}
use Rattle.vo_spec.specs.declared.needs.SeenRow.{SeenRow}
use Rattle.vo_spec.specs.Parts.{none, more, levels, levels_in}
use Rattle.vo_spec.specs.Trees.{RowTree}
use Rattle.vo_spec.specs.Scans.{seen_in, seen_in_each, visits, append_both}
use Rattle.mb_tree.specs.declared.parts.PartTree.{PartTree}
use Rattle.mb_tree.specs.View.{part_of, parts_of}
use Rattle.mb_tree.specs.RowNodes.{row_kids}
use Rattle.std.proofs.Common.{Err}
use Rattle.vo_spec.specs.declared.trees.ScanFault.{ScanFault}
use Rattle.vo_spec.specs.declared.trees.ScanFault.TheVariants.{Missing, Memory}
use Rattle.range_proof.specs.Finding.{after, Appends}

pub part_at : (ps : List PartTree) (i : ℕ) (p : PartTree) → i < length ps → p ≡ get_or ps i p → parts_of (drop i ps) ≡ more tt (part_of p) (parts_of (drop (i + 1) ps))
part_at ps i p lt is = ap parts_of (drop_more ps i p lt) ∙ ap (λ q. more tt (part_of q) (parts_of (drop (i + 1) ps))) (sym is)

pub first_at : {X : Type 0} (xs : List X) (i : ℕ) → slice_get (drop i xs) 0 ≡ slice_get xs i
first_at [] zero = refl
first_at [] (suc i) = refl
first_at (x ∷ xs) zero = refl
first_at (x ∷ xs) (suc i) = first_at xs i

pub rest_at : {X : Type 0} (xs : List X) (i : ℕ) → drop 1 (drop i xs) ≡ drop (i + 1) xs
rest_at xs i = drop-drop 1 i xs

-- Separators and children as they are seen.

module _ {K : Type 0} (key : K → List ℕ) where
  pub first_seen : (ss : List K) (i : ℕ) → slice_get (map key (drop i ss)) 0 ≡ slice_get (map key ss) i
  first_seen [] zero = refl
  first_seen [] (suc i) = refl
  first_seen (s ∷ ss) zero = refl
  first_seen (s ∷ ss) (suc i) = first_seen ss i

  pub rest_seen : (ss : List K) (i : ℕ) → drop 1 (map key (drop i ss)) ≡ map key (drop (i + 1) ss)
  rest_seen ss i = drop-map key 1 (drop i ss) ∙ ap (map key) (drop-drop 1 i ss)

module _ {N : Type 0} (tree : N → RowTree) where
  pub kid_at : (ns : List N) (i : ℕ) (n : N) → i < length ns → n ≡ get_or ns i n → row_kids tree (drop i ns) ≡ more tt (tree n) (row_kids tree (drop (i + 1) ns))
  kid_at ns i n lt is = ap (row_kids tree) (drop_more ns i n lt) ∙ ap (λ m. more tt (tree m) (row_kids tree (drop (i + 1) ns))) (sym is)

  pub no_kid_at : (ns : List N) (i : ℕ) → length ns ≤ i → row_kids tree (drop i ns) ≡ none
  no_kid_at ns i h = ap (row_kids tree) (drop_all i ns h)

  pub kid_falls : (ns : List N) (i : ℕ) (n : N) → i < length ns → n ≡ get_or ns i n → levels (tree n) ≤ levels_in (row_kids tree ns)
  kid_falls [] i n lt is = absurd (omega arith)
  kid_falls (m ∷ ns) zero n lt is = let e = ap (λ x. levels (tree x)) is in omega arith
  kid_falls (m ∷ ns) (suc i) n lt is =
      let h : levels (tree n) ≤ levels_in (row_kids tree ns) = kid_falls ns i n (omega arith) is in omega arith

-- Lists after lists.

pub after_joined : {A : Type 0} (old new : List A) (first rest : Option (List A)) → after old first ≡ Some new → after old (append_both first rest) ≡ after new rest
after_joined old new None rest e = absurd (cc)
after_joined old new (Some xs) None e = refl
after_joined old new (Some xs) (Some ys) e =
    let f : old ++ xs ≡ new = cc in rw (← append_assoc, f) refl

pub none_from_after : {A : Type 0} (xs : List A) (found : Option (List A)) → after xs found ≡ None → found ≡ None
none_from_after xs None e = refl
none_from_after xs (Some ys) e = absurd (cc)

module _ {K N : Type 0} (key : K → List ℕ) (tree : N → RowTree) (need : Need) (lower : Option (List ℕ)) (ss : List K) (ns : List N) (i : ℕ) where
  abbrev upper : Option (List ℕ)
  upper = slice_get (map key ss) i

  abbrev from_on : Option (List SeenRow)
  from_on = seen_in_each need lower (map key (drop i ss)) (row_kids tree (drop i ns))

  abbrev onward : Option (List SeenRow)
  onward = seen_in_each need upper (map key (drop (i + 1) ss)) (row_kids tree (drop (i + 1) ns))

  seen_at : (n : N) → i < length ns → n ≡ get_or ns i n → from_on ≡ cond (visits need.interval lower upper) (append_both (seen_in need (tree n)) onward) onward
  seen_at n lt is = rw (kid_at tree ns i n lt is, first_seen key ss i, rest_seen key ss i) refl

  pub seen_visited : (n : N) → i < length ns → n ≡ get_or ns i n → visits need.interval lower upper ≡ true → from_on ≡ append_both (seen_in need (tree n)) onward
  seen_visited n lt is v = seen_at n lt is ∙ ap (λ b. cond b (append_both (seen_in need (tree n)) onward) onward) v

  pub seen_passed : (n : N) → i < length ns → n ≡ get_or ns i n → visits need.interval lower upper ≡ false → from_on ≡ onward
  seen_passed n lt is v = seen_at n lt is ∙ ap (λ b. cond b (append_both (seen_in need (tree n)) onward) onward) v

  pub seen_done : length ns ≤ i → from_on ≡ Some []
  seen_done h = ap (seen_in_each need lower (map key (drop i ss))) (no_kid_at tree ns i h)

  -- What is there after this child, and what the children to come give.

  pub step_visited : (n : N) (old new : List SeenRow) (all : Option (List SeenRow)) → i < length ns → n ≡ get_or ns i n → visits need.interval lower upper ≡ true
      → after old (seen_in need (tree n)) ≡ Some new → after old from_on ≡ all → after new onward ≡ all
  step_visited n old new all lt is v f e =
      sym (after_joined old new (seen_in need (tree n)) onward f) ∙ ap (λ r. after old r) (sym (seen_visited n lt is v)) ∙ e

  pub step_passed : (n : N) (old : List SeenRow) (all : Option (List SeenRow)) → i < length ns → n ≡ get_or ns i n → visits need.interval lower upper ≡ false
      → after old from_on ≡ all → after old onward ≡ all
  step_passed n old all lt is v e = ap (λ r. after old r) (sym (seen_passed n lt is v)) ∙ e

  pub step_missing : (n : N) (old first : List SeenRow) (all : Option (List SeenRow)) → i < length ns → n ≡ get_or ns i n → visits need.interval lower upper ≡ true
      → seen_in need (tree n) ≡ None → after old from_on ≡ after first all → all ≡ None
  step_missing n old first all lt is v f e =
      let g : from_on ≡ None = seen_visited n lt is v ∙ ap (λ r. append_both r onward) f in
      none_from_after first all (sym e ∙ ap (λ r. after old r) g)

-- a fault that is handed on
pub fault_on : (fault : ScanFault) {A B : Type 0} (a b : List A) (c d : List B) (first : Option (List A)) (all : Option (List B)) → Appends (Err fault) a b first → (first ≡ None → all ≡ None) → Appends (Err fault) c d all
fault_on Missing a b c d first all h f = f h
fault_on Memory a b c d first all h f = tt
