-- Lists of shared tables, and such lists with a part exchanged.
use Rattle.std.proofs.Common.{◌≡◌, ℕ, zero, suc, ◌+◌, ◌<◌, ◌≤◌, List, [], ◌∷◌, ◌++◌, length, map, take, drop, get_or, refl, sym, ap, ◌∙◌, subst, arith, add-one, append_assoc}
use Rattle.std.specs.List.{AllByRecursion}
use Rattle.std.specs.declared.rc.Rc.{Rc}
use Rattle.std.specs.declared.alloc.Global.{Global}
use Rattle.std.proofs.lemmas.List.{map-append, take-map, drop-map, take-append-drop}
use Rattle.vo_spec.specs.Honest.{Stored}
use Rattle.vo_laws.proofs.ListLaws.{each_both}
use Rattle.stored_tables.specs.declared.table.StoredTable.{StoredTable}
use Rattle.stored_tables.specs.View.{stored_of, stored_in}
use Rattle.stored_tables.specs.Positions.{IsThere}

abbrev pub Shared : Type 0
Shared = List (Rc StoredTable Global)

abbrev pub values_of : Shared → List StoredTable
values_of = map (λ x. x.value)

seen : (xs : Shared) → stored_in xs ≡ map stored_of (values_of xs)
seen [] = refl
seen (x ∷ xs) = ap (λ rest. stored_of x.value ∷ rest) (seen xs)

pub same_stored : (new xs : Shared) → values_of new ≡ values_of xs → stored_in new ≡ stored_in xs
same_stored new xs e = seen new ∙ ap (map stored_of) e ∙ sym (seen xs)

front : (i : ℕ) (xs : Shared) → map stored_of (take i (values_of xs)) ≡ take i (stored_in xs)
front i xs = sym (take-map stored_of i (values_of xs)) ∙ ap (take i) (sym (seen xs))

back : (i : ℕ) (xs : Shared) → map stored_of (drop i (values_of xs)) ≡ drop i (stored_in xs)
back i xs = sym (drop-map stored_of i (values_of xs)) ∙ ap (drop i) (sym (seen xs))

-- the tables with this one in the place of some
pub spliced_stored : (new xs : Shared) (value table : StoredTable) (from to : ℕ) → values_of new ≡ take from (values_of xs) ++ (value ∷ []) ++ drop to (values_of xs)
    → value ≡ table → stored_in new ≡ take from (stored_in xs) ++ stored_of table ∷ drop to (stored_in xs)
spliced_stored new xs value table from to e is =
    seen new ∙ ap (map stored_of) (e ∙ append_assoc (take from (values_of xs)) (value ∷ []) (drop to (values_of xs)))
    ∙ map-append stored_of (take from (values_of xs)) (value ∷ drop to (values_of xs))
    ∙ ap (λ ss. ss ++ stored_of value ∷ map stored_of (drop to (values_of xs))) (front from xs)
    ∙ ap (λ ss. take from (stored_in xs) ++ stored_of value ∷ ss) (back to xs)
    ∙ ap (λ (v : StoredTable). take from (stored_in xs) ++ stored_of v ∷ drop to (stored_in xs)) is

-- A table of the list.

onward_at : (xs : Shared) (i : ℕ) (x : Rc StoredTable Global) → i < length xs → x ≡ get_or xs i x
    → drop i (stored_in xs) ≡ stored_of x.value ∷ drop (suc i) (stored_in xs)
onward_at [] i x lt is = absurd (omega arith)
onward_at (y ∷ xs) zero x lt is = ap (λ (z : Rc StoredTable Global). stored_of z.value ∷ stored_in xs) (sym is)
onward_at (y ∷ xs) (suc i) x lt is = onward_at xs i x (omega arith) is

so_far_at : (xs : Shared) (i : ℕ) (x : Rc StoredTable Global) → i < length xs → x ≡ get_or xs i x
    → take (suc i) (stored_in xs) ≡ take i (stored_in xs) ++ stored_of x.value ∷ []
so_far_at [] i x lt is = absurd (omega arith)
so_far_at (y ∷ xs) zero x lt is = ap (λ (z : Rc StoredTable Global). stored_of z.value ∷ []) (sym is)
so_far_at (y ∷ xs) (suc i) x lt is = ap (λ zs. stored_of y.value ∷ zs) (so_far_at xs i x (omega arith) is)

pub table_there : (xs : Shared) (i : ℕ) (x : Rc StoredTable Global) (s : StoredTable) → i < length xs → x ≡ get_or xs i x → s ≡ x.value
    → IsThere (stored_in xs) i (stored_of s)
table_there xs i x s lt is same =
    subst (λ (z : StoredTable). IsThere (stored_in xs) i (stored_of z)) (sym same)
    (record { onward = rw (add-one i) (onward_at xs i x lt is); so_far = rw (add-one i) (so_far_at xs i x lt is) })

pub parted_at : (stored : List Stored) (i : ℕ) (s : Stored) → IsThere stored i s → stored ≡ take i stored ++ s ∷ drop (i + 1) stored
parted_at stored i s there = sym (take-append-drop i stored) ∙ ap (λ rest. take i stored ++ rest) there.onward

pub one_more : (P : Stored → Type 0) (stored : List Stored) (i : ℕ) (s : Stored) → IsThere stored i s → P s
    → AllByRecursion P (take i stored) → AllByRecursion P (take (i + 1) stored)
one_more P stored i s there p all = subst (AllByRecursion P) (sym there.so_far) (each_both P (take i stored) (s ∷ []) all (p, tt))

pub all_taken : (P : Stored → Type 0) (xs : Shared) (i : ℕ) → length xs ≤ i → AllByRecursion P (take i (stored_in xs)) → AllByRecursion P (stored_in xs)
all_taken P [] i h all = tt
all_taken P (x ∷ xs) zero h all = absurd (omega arith)
all_taken P (x ∷ xs) (suc i) h all = (all.0, all_taken P xs i (omega arith) all.1)
