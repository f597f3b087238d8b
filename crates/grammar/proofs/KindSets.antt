-- Lists of kinds as sets.
use Rattle.std.proofs.Common.{◌≡◌, true, false, List, [], ◌∷◌, ◌++◌, refl, inl, inr, subst}
use Rattle.std.specs.Prelude.{not}
use Rattle.grammar.specs.Language.{Language, IsLanguage}
use Rattle.grammar.specs.Checks.{has, are_apart, are_among}
use Rattle.grammar.proofs.Truths.{and_left, and_right, or_left, or_right, or_either, or_from_left, or_from_right, not_true}

module _ (l : Language) (w : IsLanguage l) where
  pub has_in_left : (a b : List l.Kind) (k : l.Kind) → has l a k ≡ true → has l (a ++ b) k ≡ true
  has_in_left [] b k e = cc
  has_in_left (x ∷ a) b k e =
      elim (or_either (l.same x k) (has l a k) e) [ inl h ↦ or_from_left (l.same x k) (has l (a ++ b) k) h | inr h ↦ or_from_right (l.same x k) _ (has_in_left a b k h) ]

  pub has_in_right : (a b : List l.Kind) (k : l.Kind) → has l b k ≡ true → has l (a ++ b) k ≡ true
  has_in_right [] b k e = e
  has_in_right (x ∷ a) b k e = or_from_right (l.same x k) _ (has_in_right a b k e)

  pub has_not_left : (a b : List l.Kind) (k : l.Kind) → has l (a ++ b) k ≡ false → has l a k ≡ false
  has_not_left [] b k e = refl
  has_not_left (x ∷ a) b k e = let h = or_left (l.same x k) _ e in let t = has_not_left a b k (or_right (l.same x k) _ e) in cc

  pub has_not_right : (a b : List l.Kind) (k : l.Kind) → has l (a ++ b) k ≡ false → has l b k ≡ false
  has_not_right [] b k e = e
  has_not_right (x ∷ a) b k e = has_not_right a b k (or_right (l.same x k) _ e)

  pub has_one : (k m : l.Kind) → has l (k ∷ []) m ≡ true → k ≡ m
  has_one k m e = elim (or_either (l.same k m) false e) [ inl h ↦ w.same_true k m h | inr h ↦ absurd (cc) ]

  pub has_itself : (k : l.Kind) (ks : List l.Kind) → has l (k ∷ ks) k ≡ true
  has_itself k ks = or_from_left (l.same k k) _ (w.same_self k)

  pub apart_not : (a b : List l.Kind) (k : l.Kind) → are_apart l a b ≡ true → has l b k ≡ true → has l a k ≡ false
  apart_not a [] k e h = cc
  apart_not a (x ∷ b) k e h =
      let here : has l a x ≡ false = not_true _ (and_left (not (has l a x)) _ e) in
      let later = apart_not a b k (and_right (not (has l a x)) _ e) in
      elim (or_either (l.same x k) (has l b k) h) [ inl s ↦ subst (λ y. has l a y ≡ false) (w.same_true x k s) here | inr s ↦ later s ]

  pub among_has : (a b : List l.Kind) (k : l.Kind) → are_among l a b ≡ true → has l a k ≡ true → has l b k ≡ true
  among_has [] b k e h = cc
  among_has (x ∷ a) b k e h =
      let here : has l b x ≡ true = and_left (has l b x) _ e in
      let later = among_has a b k (and_right (has l b x) _ e) in
      elim (or_either (l.same x k) (has l a k) h) [ inl s ↦ subst (λ y. has l b y ≡ true) (w.same_true x k s) here | inr s ↦ later s ]
