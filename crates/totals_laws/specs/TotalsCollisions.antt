-- What two totals trees hash at one place: the preimages of two nodes.
use Rattle.std.specs.Prelude.{◌≡◌, ◌⊎◌, ℕ, Bool, true, false, List}
use Rattle.vo_spec.specs.Parts.{stub, leaf, inner, none, more}
use Rattle.vo_spec.specs.Collides.{Collides}
use Rattle.totals_laws.specs.TotalsTrees.{TotalsPart, TotalsParts, digest, preimage}

abbrev pub is_open : TotalsPart → Bool
is_open (stub d) = false
is_open (leaf es) = true
is_open (inner ss ps) = true

-- a fact about two byte strings, one of each tree
abbrev pub OfStrings : Type 1
OfStrings = List ℕ → List ℕ → Type 0

abbrev pub NodesOf : TotalsPart → TotalsPart → OfStrings
NodesOf p t x y = (is_open p ≡ true) × (is_open t ≡ true) × (x ≡ preimage p) × (y ≡ preimage t)

-- two nodes that stand at one place of the trees hash these strings
abbrev mutual
  pub ArePreimages : TotalsPart → TotalsPart → OfStrings
  ArePreimages (inner ss ps) (inner ts qs) x y = NodesOf (inner ss ps) (inner ts qs) x y
      ⊎ ArePreimagesIn ps qs x y
  ArePreimages p t x y = NodesOf p t x y

  pub ArePreimagesIn : TotalsParts → TotalsParts → OfStrings
  ArePreimagesIn (more m p ps) (more n q qs) x y = ArePreimages p q x y ⊎ ArePreimagesIn ps qs x y
  ArePreimagesIn _ _ x y = ⊥

-- children with the same digests and totals
abbrev pub SameChildren : TotalsParts → TotalsParts → Type 0
SameChildren none none = Unit {0}
SameChildren none (more n q qs) = ⊥
SameChildren (more m p ps) none = ⊥
SameChildren (more m p ps) (more n q qs) = (m ≡ n) × (digest p ≡ digest q) × SameChildren ps qs

-- two byte strings of one digest, one of each tree
pub record AreFound (p t : TotalsPart) : Type 0 where
  pub first : List ℕ
  pub second : List ℕ
  pub collide : Collides first second
  pub hashed : ArePreimages p t first second
