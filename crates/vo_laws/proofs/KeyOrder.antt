-- The order of keys is total: what follows from comparing two of them.
use Rattle.std.proofs.Common.{◌≡◌, ℕ, true, false, List, Ordering, inl, inr, refl, sym, ap, ◌∙◌}
use Rattle.std.specs.declared.cmp.Ordering.TheVariants.{Less, Equal, Greater}
use Rattle.std.specs.Ordering.{is_lt, is_gt, is_eq, ordering_reverse}
use Rattle.std.specs.Cmp.{IsTotalOrder}
use Rattle.std.proofs.lemmas.Cmp.{nat_list_cmp_total, upto, tied_itself}
use Rattle.std.proofs.lemmas.Bool.{cases_Bool, both_ways}
use Rattle.std.proofs.lemmas.Map.Text.{is_eq-slice_cmp}
use Rattle.std.proofs.lemmas.Slice.Eq.{bytes_eq-Decides}
use Rattle.vo_spec.specs.Values.{key_cmp, key_lt}

order : IsTotalOrder key_cmp
order = nat_list_cmp_total

reversed_lt : (o : Ordering) → is_lt (ordering_reverse o) ≡ is_gt o
reversed_lt Less = refl
reversed_lt Equal = refl
reversed_lt Greater = refl

-- `a` is below `b` as the one or the other is compared
pub flipped : (a b : List ℕ) → key_lt b a ≡ is_gt (key_cmp a b)
flipped a b = ap is_lt (order.antisymm b a) ∙ reversed_lt (key_cmp a b)

not_both : (o : Ordering) → is_lt o ≡ true → is_gt o ≡ false
not_both Less e = refl
not_both Equal e = refl
not_both Greater e = absurd (cc)

pub key_lt_itself : (a : List ℕ) → key_lt a a ≡ false
key_lt_itself a = ap is_lt (tied_itself order a)

-- below one way is not below the other
pub key_lt_back : (a b : List ℕ) → key_lt a b ≡ true → key_lt b a ≡ false
key_lt_back a b e = flipped a b ∙ not_both (key_cmp a b) e

-- `a` up to `b`, `b` up to `c`
pub key_le_le : (a b c : List ℕ) → key_lt b a ≡ false → key_lt c b ≡ false → key_lt c a ≡ false
key_le_le a b c e f =
    flipped a c ∙ upto order a b c (sym (flipped a b) ∙ e) (sym (flipped b c) ∙ f)

pub key_lt_le : (a b c : List ℕ) → key_lt a b ≡ true → key_lt c b ≡ false → key_lt a c ≡ true
key_lt_le a b c e f = elim (cases_Bool (key_lt a c)) [
  | inl g ↦ g
  | inr g ↦ absurd (both_ways (key_lt a b) (key_le_le b c a f g) e)
]

pub key_le_lt : (a b c : List ℕ) → key_lt b a ≡ false → key_lt b c ≡ true → key_lt a c ≡ true
key_le_lt a b c e f = elim (cases_Bool (key_lt a c)) [
  | inl g ↦ g
  | inr g ↦ absurd (both_ways (key_lt b c) (key_le_le c a b g e) f)
]

pub key_lt_lt : (a b c : List ℕ) → key_lt a b ≡ true → key_lt b c ≡ true → key_lt a c ≡ true
key_lt_lt a b c e f = key_lt_le a b c e (key_lt_back b c f)

-- of two keys that are not below each other each is the other
pub same_key : (a b : List ℕ) → key_lt a b ≡ false → key_lt b a ≡ false → a ≡ b
same_key a b e f = exact_key a b (step (key_cmp a b) e (sym (flipped a b) ∙ f))
  where
    step : (o : Ordering) → is_lt o ≡ false → is_gt o ≡ false → is_eq o ≡ true
    step Less e f = absurd (cc)
    step Equal e f = refl
    step Greater e f = absurd (cc)

    exact_key : (x y : List ℕ) → is_eq (key_cmp x y) ≡ true → x ≡ y
    exact_key x y g = (bytes_eq-Decides x y).0 (sym (is_eq-slice_cmp x y) ∙ g)
