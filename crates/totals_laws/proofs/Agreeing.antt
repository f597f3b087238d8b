-- Of one digest: a part of a totals tree prunes a tree, or two preimages of one digest are found.
use Rattle.std.proofs.Common.{◌≡◌, ℕ, suc, ◌+◌, ◌-◌, ◌*◌, ◌/◌, ◌%◌, ◌^◌, ◌<◌, true, false, List, [], ◌∷◌, ◌++◌, length, flat_map, refl, sym, ap, ◌∙◌, subst, inl, inr, arith, append_assoc, All}
use Rattle.std.specs.Prelude.{◌⊎◌, ℤ, pos, negsuc, FitsSigned, bytes_eq}
use Rattle.std.specs.Int.{w64, w128, cast_unsigned, cast_signed}
use Rattle.std.specs.List.{AllZip}
use Rattle.std.proofs.Math.Nat.{div-add-mod, mod-lt}
use Rattle.std.proofs.lemmas.Int.{to_z-of_z}
use Rattle.std.proofs.lemmas.Bool.{cases_Bool}
use Rattle.std.proofs.lemmas.Slice.Eq.{bytes_eq-Decides}
use Rattle.sha2.specs.Sha256.{sha256}
use Rattle.sha2.proofs.Facts256.{length-sha256}
use Rattle.vo_spec.specs.Bytes.{string, u64_bytes}
use Rattle.vo_spec.specs.Collides.{Collides}
use Rattle.vo_spec.specs.Fits.{FitsEach}
use Rattle.vo_spec.specs.Parts.{stub, leaf, inner, none, more, count, child_bytes, leaf_bytes, inner_bytes, PrunesEach}
use Rattle.totals_laws.specs.declared.totals.TotalEntry.{TotalEntry}
use Rattle.totals_laws.specs.declared.totals.Totals.{Totals}
use Rattle.totals_laws.specs.TotalsTrees.{TotalsPart, TotalsParts, sum_bytes, totals_bytes, total_entry_bytes, totals_family, digest, preimage, SameEntry, Prunes, FitsTotalEntry, FitsTotals, FitsCounts, AreCounted, EachCounted}
use Rattle.totals_laws.specs.TotalsCollisions.{ArePreimagesIn, AreFound, SameChildren}
use Rattle.vo_laws.proofs.ToldBytes.{same_pieces, string_told, strings_told, u64_told}
use Rattle.totals_laws.proofs.Sums.{same_totals}
use Rattle.std.proofs.Common.{Option, Some, None}
use Rattle.std.proofs.lemmas.Int.{SFits-int_wrap}
use Rattle.vo_spec.specs.Inserts.{min_fill}
use Rattle.vo_spec.specs.Representation.{IsNode, AreNodes, IsTree, fewest_in_root}
use Rattle.totals_laws.specs.TotalsTrees.{reduced, totals_of, totals_of_entries, totals_of_children}

-- Bytes that are read back.

bits_below : (z : ℤ) → FitsSigned w128 z → cast_unsigned w128 z < 2 ^ 128
bits_below (pos n) f = omega (arith, f.sfits)
bits_below (negsuc n) f = omega (arith, f.sfits)

small_below : (z : ℤ) → FitsSigned w64 z → cast_unsigned w64 z < 2 ^ 64
small_below (pos n) f = omega (arith, f.sfits)
small_below (negsuc n) f = omega (arith, f.sfits)

-- a number has its quotient and its rest
halves_same : (m n : ℕ) → m / 2 ^ 64 ≡ n / 2 ^ 64 → m % 2 ^ 64 ≡ n % 2 ^ 64 → m ≡ n
halves_same m n p q = sym (div-add-mod m (2 ^ 64)) ∙ ap (λ k. 2 ^ 64 * k + m % 2 ^ 64) p ∙ ap (λ k. 2 ^ 64 * (n / 2 ^ 64) + k) q ∙ div-add-mod n (2 ^ 64)

sum_same : (a b : ℤ) (x y : List ℕ) → FitsSigned w128 a → FitsSigned w128 b → sum_bytes a ++ x ≡ sum_bytes b ++ y → (a ≡ b) × (x ≡ y)
sum_same a b x y f g e =
    let m = cast_unsigned w128 a in
    let n = cast_unsigned w128 b in
    let m_low : m < 2 ^ 128 = bits_below a f in
    let n_low : n < 2 ^ 128 = bits_below b g in
    let whole : u64_bytes (m / 2 ^ 64) ++ (u64_bytes (m % 2 ^ 64) ++ x) ≡ u64_bytes (n / 2 ^ 64) ++ (u64_bytes (n % 2 ^ 64) ++ y)
    = sym (append_assoc (u64_bytes (m / 2 ^ 64)) (u64_bytes (m % 2 ^ 64)) x) ∙ e ∙ append_assoc (u64_bytes (n / 2 ^ 64)) (u64_bytes (n % 2 ^ 64)) y in
    let high = u64_told (m / 2 ^ 64) (n / 2 ^ 64) _ _ (half_below m m_low) (half_below n n_low) whole in
    let low = u64_told (m % 2 ^ 64) (n % 2 ^ 64) x y (mod-lt m (omega arith)) (mod-lt n (omega arith)) high.1 in
    let bits : m ≡ n = halves_same m n high.0 low.0 in
    (sym (to_z-of_z w128 a f) ∙ ap (cast_signed w128) bits ∙ to_z-of_z w128 b g, low.1)
  where
    half_below : (k : ℕ) → k < 2 ^ 128 → k / 2 ^ 64 < 2 ^ 64
    half_below k lt = omega (arith, div-add-mod k (2 ^ 64))

totals_same : (a b : Totals) (x y : List ℕ) → FitsCounts a → FitsCounts b → totals_bytes a ++ x ≡ totals_bytes b ++ y → (a ≡ b) × (x ≡ y)
totals_same a b x y f g e =
    let whole : u64_bytes a.count ++ (sum_bytes a.sum ++ x) ≡ u64_bytes b.count ++ (sum_bytes b.sum ++ y) = sym (append_assoc (u64_bytes a.count) (sum_bytes a.sum) x) ∙ e ∙ append_assoc (u64_bytes b.count) (sum_bytes b.sum) y in
    let counts = u64_told a.count b.count _ _ f.count g.count whole in
    let sums = sum_same a.sum b.sum x y f.sum g.sum counts.1 in
    (same_totals a.count b.count a.sum b.sum counts.0 sums.0, sums.1)

-- A preimage is that of one node only: equal preimages have equal entries, or equal separators,
-- totals and digests.

digest_length : (t : TotalsPart) → FitsTotals t → length (digest t) ≡ 32
digest_length (stub d) f = f
digest_length (leaf es) f = length-sha256 (leaf_bytes totals_family es)
digest_length (inner ss ps) f = length-sha256 (inner_bytes totals_family ss ps)

same_entry : (x y : TotalEntry) → x.key ≡ y.key → x.value ≡ y.value → x ≡ y
same_entry x y p q = λ i. record { key = p i; value = q i }

entries_same : (es fs : List TotalEntry) → length es ≡ length fs → All FitsTotalEntry es → All FitsTotalEntry fs → flat_map total_entry_bytes es ≡ flat_map total_entry_bytes fs → AllZip SameEntry es fs
entries_same [] [] h f g e = tt
entries_same [] (x ∷ fs) h f g e = absurd (omega arith)
entries_same (x ∷ es) [] h f g e = absurd (omega arith)
entries_same (x ∷ es) (y ∷ fs) h f g e =
    let fx = f 0 x (omega arith) in
    let fy = g 0 y (omega arith) in
    let m = cast_unsigned w64 x.value in
    let n = cast_unsigned w64 y.value in
    let whole : string x.key ++ (u64_bytes m ++ flat_map total_entry_bytes es) ≡ string y.key ++ (u64_bytes n ++ flat_map total_entry_bytes fs)
    = sym (append_assoc (string x.key) (u64_bytes m) (flat_map total_entry_bytes es)) ∙ e ∙ append_assoc (string y.key) (u64_bytes n) (flat_map total_entry_bytes fs) in
    let keys = string_told x.key y.key _ _ fx.key fy.key whole in
    let values = u64_told m n _ _ (small_below x.value fx.value) (small_below y.value fy.value) keys.1 in
    let value : x.value ≡ y.value = sym (to_z-of_z w64 x.value fx.value) ∙ ap (cast_signed w64) values.0 ∙ to_z-of_z w64 y.value fy.value in
    (same_entry x y keys.0 value, entries_same es fs (omega arith) (λ k z l. f (suc k) z (omega arith)) (λ k z l. g (suc k) z (omega arith)) values.1)

-- each child's totals have so many bits
abbrev pub EachHeld : TotalsParts → Type 0
EachHeld none = Unit {0}
EachHeld (more m p ps) = FitsCounts m × EachHeld ps

pub counted_held : (ps : TotalsParts) → EachCounted ps → EachHeld ps
counted_held none a = tt
counted_held (more m p ps) a = (a.0, counted_held ps a.2)

children_same : (ps qs : TotalsParts) → count ps ≡ count qs → FitsEach FitsTotalEntry ps → FitsEach FitsTotalEntry qs → EachHeld ps → EachHeld qs
    → child_bytes totals_family ps ≡ child_bytes totals_family qs → SameChildren ps qs
children_same none none h f g a b e = tt
children_same none (more n q qs) h f g a b e = absurd (omega arith)
children_same (more m p ps) none h f g a b e = absurd (omega arith)
children_same (more m p ps) (more n q qs) h f g a b e =
    let both = same_pieces (digest p) (digest q) _ _ (digest_length p f.0 ∙ sym (digest_length q g.0)) e in
    let totals = totals_same m n _ _ a.0 b.0 both.1 in
    (totals.0, both.0, children_same ps qs (omega arith) f.1 g.1 a.1 b.1 totals.1)

pub leaf_same : (es fs : List TotalEntry) → All FitsTotalEntry es → All FitsTotalEntry fs → leaf_bytes totals_family es ≡ leaf_bytes totals_family fs → AllZip SameEntry es fs
leaf_same es fs f g e =
    let counts : length es ≡ length fs = cc in
    let rest : flat_map total_entry_bytes es ≡ flat_map total_entry_bytes fs = cc in
    entries_same es fs counts f g rest

pub inner_same : (ss ts : List (List ℕ)) (ps qs : TotalsParts) → FitsTotals (inner ss ps) → FitsTotals (inner ts qs) → EachHeld ps → EachHeld qs
    → inner_bytes totals_family ss ps ≡ inner_bytes totals_family ts qs → (ss ≡ ts) × SameChildren ps qs
inner_same ss ts ps qs f g a b e =
    let counts : count ps ≡ count qs = cc in
    let rest : flat_map string ss ++ child_bytes totals_family ps ≡ flat_map string ts ++ child_bytes totals_family qs = cc in
    let x : length ss + 1 ≡ count ps = f.2 in
    let y : length ts + 1 ≡ count qs = g.2 in
    let both = strings_told ss ts _ _ (omega arith) f.3 g.3 rest in
    (both.0, children_same ps qs counts f.4 g.4 a b both.1)

-- A whole tree of which the part isn't a part shows two strings of one digest, and only such a one.

abbrev Agrees : TotalsPart → TotalsPart → Type 0
Agrees p t = Prunes p t ⊎ AreFound p t

-- the strings of two open nodes of one digest: they are equal, or found
pub compared : (x y : List ℕ) → sha256 x ≡ sha256 y → (x ≡ y) ⊎ Collides x y
compared x y same = elim (cases_Bool (bytes_eq x y)) [
  | inl e ↦ inl ((bytes_eq-Decides x y).0 e)
  | inr e ↦ inr (record { differ = λ is. different is e; agree = same })
]
  where
    different : x ≡ y → bytes_eq x y ≡ false → ⊥
    different is e = let yes : bytes_eq x y ≡ true = (bytes_eq-Decides x y).1 is in absurd (cc)

-- that the tree is open all through
abbrev mutual
  IsOpenTree : TotalsPart → Type 0
  IsOpenTree (stub d) = ⊥
  IsOpenTree (leaf es) = Unit {0}
  IsOpenTree (inner ss ps) = AreOpenTrees ps

  AreOpenTrees : TotalsParts → Type 0
  AreOpenTrees none = Unit {0}
  AreOpenTrees (more m p ps) = IsOpenTree p × AreOpenTrees ps

pub other_kinds : (es : List TotalEntry) (ts : List (List ℕ)) (qs : TotalsParts) → leaf_bytes totals_family es ≡ inner_bytes totals_family ts qs → ⊥
other_kinds es ts qs e = absurd (cc)

mutual
  agree : (p t : TotalsPart) → FitsTotals p → FitsTotals t → AreCounted p → AreCounted t → IsOpenTree t → digest p ≡ digest t → Agrees p t
  agree (stub d) t f g a b o same = inl same
  agree (leaf es) (stub d) f g a b o same = absurd o
  agree (leaf es) (leaf fs) f g a b o same = elim (compared (preimage (leaf es)) (preimage (leaf fs)) same) [
    | inl e ↦ inl (leaf_same es fs f.1 g.1 e)
    | inr c ↦ inr (record { first = preimage (leaf es); second = preimage (leaf fs); collide = c; hashed = (refl, refl, refl, refl) })
  ]
  agree (leaf es) (inner ts qs) f g a b o same = elim (compared (preimage (leaf es)) (preimage (inner ts qs)) same) [
    | inl e ↦ absurd (other_kinds es ts qs e)
    | inr c ↦ inr (record { first = preimage (leaf es); second = preimage (inner ts qs); collide = c; hashed = (refl, refl, refl, refl) })
  ]
  agree (inner ss ps) (stub d) f g a b o same = absurd o
  agree (inner ss ps) (leaf fs) f g a b o same = elim (compared (preimage (inner ss ps)) (preimage (leaf fs)) same) [
    | inl e ↦ absurd (other_kinds fs ss ps (sym e))
    | inr c ↦ inr (record { first = preimage (inner ss ps); second = preimage (leaf fs); collide = c; hashed = (refl, refl, refl, refl) })
  ]
  agree (inner ss ps) (inner ts qs) f g a b o same = elim (compared (preimage (inner ss ps)) (preimage (inner ts qs)) same) [
    | inl e ↦ below (λ s. agree_each ps qs f.4 g.4 a b o s) (inner_same ss ts ps qs f g (counted_held ps a) (counted_held qs b) e)
    | inr c ↦ inr (record { first = preimage (inner ss ps); second = preimage (inner ts qs); collide = c; hashed = inl (refl, refl, refl, refl) })
  ]
    where
      below : (SameChildren ps qs → PrunesEach totals_family SameEntry ps qs ⊎ ((x : List ℕ) × (y : List ℕ) × Collides x y × ArePreimagesIn ps qs x y))
          → (ss ≡ ts) × SameChildren ps qs → Agrees (inner ss ps) (inner ts qs)
      below each_of s = elim (each_of s.1) [
        | inl each ↦ inl (s.0, each)
        | inr found ↦ inr (record { first = found.0; second = found.1; collide = found.2; hashed = inr found.3 })
      ]

  agree_each : (ps qs : TotalsParts) → FitsEach FitsTotalEntry ps → FitsEach FitsTotalEntry qs → EachCounted ps → EachCounted qs → AreOpenTrees qs → SameChildren ps qs
      → PrunesEach totals_family SameEntry ps qs ⊎ ((x : List ℕ) × (y : List ℕ) × Collides x y × ArePreimagesIn ps qs x y)
  agree_each none none f g a b o s = inl tt
  agree_each none (more n q qs) f g a b o s = absurd s
  agree_each (more m p ps) none f g a b o s = absurd s
  agree_each (more m p ps) (more n q qs) f g a b o s =
      step (agree p q f.0 g.0 a.1 b.1 o.0 s.1) (agree_each ps qs f.1 g.1 a.2 b.2 o.1 s.2)
    where
      step : Agrees p q → PrunesEach totals_family SameEntry ps qs ⊎ ((x : List ℕ) × (y : List ℕ) × Collides x y × ArePreimagesIn ps qs x y)
          → PrunesEach totals_family SameEntry (more m p ps) (more n q qs) ⊎ ((x : List ℕ) × (y : List ℕ) × Collides x y × ArePreimagesIn (more m p ps) (more n q qs) x y)
      step (inr found) rest = inr (found.first, found.second, found.collide, inl found.hashed)
      step (inl here) (inl rest) = inl (s.0, here, rest)
      step (inl here) (inr found) = inr (found.0, found.1, found.2, inr found.3)

-- A whole tree is open all through, and what it holds of each child has so many bits.

pub reduced_fits : (a : Totals) → FitsCounts (reduced a)
reduced_fits a = record { count = mod-lt a.count (omega arith); sum = SFits-int_wrap w128 a.sum }

mutual
  node_open : (fewest height : ℕ) (lower upper : Option (List ℕ)) (t : TotalsPart) → IsNode totals_family fewest height lower upper t → IsOpenTree t
  node_open fewest height lower upper (stub d) n = absurd n
  node_open fewest height lower upper (leaf es) n = tt
  node_open fewest height lower upper (inner ss ps) n = nodes_open (height - 1) lower upper ss ps n.3

  nodes_open : (height : ℕ) (lower upper : Option (List ℕ)) (ss : List (List ℕ)) (ps : TotalsParts) → AreNodes totals_family height lower upper ss ps → AreOpenTrees ps
  nodes_open height lower upper ss none n = absurd n
  nodes_open height lower upper [] (more m p none) n = (node_open min_fill height lower upper p n.1, tt)
  nodes_open height lower upper [] (more m p (more k q ps)) n = absurd n
  nodes_open height lower upper (s ∷ ss) (more m p ps) n = (node_open min_fill height lower (Some s) p n.2, nodes_open height (Some s) upper ss ps n.3)

held_fits : (fewest height : ℕ) (lower upper : Option (List ℕ)) (t : TotalsPart) (m : Totals) → m ≡ totals_of t → IsNode totals_family fewest height lower upper t → FitsCounts m
held_fits fewest height lower upper (stub d) m is n = absurd n
held_fits fewest height lower upper (leaf es) m is n = subst FitsCounts (sym is) (reduced_fits (totals_of_entries es))
held_fits fewest height lower upper (inner ss ps) m is n = subst FitsCounts (sym is) (reduced_fits (totals_of_children ps))

mutual
  node_counted : (fewest height : ℕ) (lower upper : Option (List ℕ)) (t : TotalsPart) → IsNode totals_family fewest height lower upper t → AreCounted t
  node_counted fewest height lower upper (stub d) n = absurd n
  node_counted fewest height lower upper (leaf es) n = tt
  node_counted fewest height lower upper (inner ss ps) n = nodes_counted (height - 1) lower upper ss ps n.3

  nodes_counted : (height : ℕ) (lower upper : Option (List ℕ)) (ss : List (List ℕ)) (ps : TotalsParts) → AreNodes totals_family height lower upper ss ps → EachCounted ps
  nodes_counted height lower upper ss none n = absurd n
  nodes_counted height lower upper [] (more m p none) n = (held_fits min_fill height lower upper p m n.0 n.1, node_counted min_fill height lower upper p n.1, tt)
  nodes_counted height lower upper [] (more m p (more k q ps)) n = absurd n
  nodes_counted height lower upper (s ∷ ss) (more m p ps) n =
      (held_fits min_fill height lower (Some s) p m n.0 n.2, node_counted min_fill height lower (Some s) p n.2, nodes_counted height (Some s) upper ss ps n.3)

pub prunes_or_found : (p t : TotalsPart) → FitsTotals p → AreCounted p → FitsTotals t → IsTree totals_family t → digest p ≡ digest t → Prunes p t ⊎ AreFound p t
prunes_or_found p t f a g tree same =
    agree p t f g a (node_counted (fewest_in_root totals_family t) tree.height None None t tree.shape) (node_open (fewest_in_root totals_family t) tree.height None None t tree.shape) same
