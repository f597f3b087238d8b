-- How the logic stores a tree: as a tree of numbers.
use Rattle.std.proofs.Common.{◌≡◌, ◌≢◌, ℕ, List, ap, arith}
use Rattle.std.specs.Coded.{Coded, coded_ℕ, coded_list}
use base.Stored.{Gv, gnil, gnum, gcons}
use Rattle.vo_spec.specs.Parts.{Part, Parts, stub, leaf, inner, none, more}

abbrev head : Gv → Gv
head gnil = gnil
head (gnum n) = gnil
head (gcons a b) = a

abbrev tail : Gv → Gv
tail gnil = gnil
tail (gnum n) = gnil
tail (gcons a b) = b

apart : (m n : ℕ) {a b : Gv} → gcons (gnum m) a ≡ gcons (gnum n) b → m ≢ n → ⊥
apart m n p other = other (cc)

abbrev bytes : Coded (List ℕ)
bytes = coded_list coded_ℕ

abbrev keys : Coded (List (List ℕ))
keys = coded_list bytes

module _ {E M : Type 0} (e : Coded E) (m : Coded M) where
  abbrev mutual
    pub part_code : Part E M → Gv
    part_code (stub d) = gcons (gnum 0) (bytes.code d)
    part_code (leaf es) = gcons (gnum 1) ((coded_list e).code es)
    part_code (inner ss ps) = gcons (gnum 2) (gcons (keys.code ss) (parts_code ps))

    pub parts_code : Parts E M → Gv
    parts_code none = gcons (gnum 0) gnil
    parts_code (more a p ps) = gcons (gnum 1)
        (gcons (m.code a) (gcons (part_code p) (parts_code ps)))

  mutual
    pub part_inj : (x y : Part E M) → part_code x ≡ part_code y → x ≡ y
    part_inj (stub d) (stub c) p = λ i. stub (bytes.inj d c (ap (λ g. tail g) p) i)
    part_inj (stub d) (leaf fs) p = absurd (apart 0 1 p (omega arith))
    part_inj (stub d) (inner ts qs) p = absurd (apart 0 2 p (omega arith))
    part_inj (leaf es) (stub c) p = absurd (apart 1 0 p (omega arith))
    part_inj (leaf es) (leaf fs) p = λ i. leaf ((coded_list e).inj es fs (ap (λ g. tail g) p) i)
    part_inj (leaf es) (inner ts qs) p = absurd (apart 1 2 p (omega arith))
    part_inj (inner ss ps) (stub c) p = absurd (apart 2 0 p (omega arith))
    part_inj (inner ss ps) (leaf fs) p = absurd (apart 2 1 p (omega arith))
    part_inj (inner ss ps) (inner ts qs) p =
        λ i. inner (keys.inj ss ts (ap (λ g. head (tail g)) p) i)
        (parts_inj ps qs (ap (λ g. tail (tail g)) p) i)

    pub parts_inj : (x y : Parts E M) → parts_code x ≡ parts_code y → x ≡ y
    parts_inj none none p = λ i. none
    parts_inj none (more b q qs) p = absurd (apart 0 1 p (omega arith))
    parts_inj (more a p ps) none h = absurd (apart 1 0 h (omega arith))
    parts_inj (more a p ps) (more b q qs) h =
        λ i. more (m.inj a b (ap (λ g. head (tail g)) h) i)
        (part_inj p q (ap (λ g. head (tail (tail g))) h) i)
        (parts_inj ps qs (ap (λ g. tail (tail (tail g))) h) i)

  abbrev pub coded_part : Coded (Part E M)
  coded_part = record { code = part_code; inj = part_inj }

  abbrev pub coded_parts : Coded (Parts E M)
  coded_parts = record { code = parts_code; inj = parts_inj }
