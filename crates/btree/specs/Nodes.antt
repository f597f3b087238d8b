-- Nodes of any kind as contracts see them.
use Rattle.std.specs.Prelude.{◌≡◌, ℕ, List, [], ◌∷◌, map}
use Rattle.vo_spec.specs.Parts.{Part, Parts, stub, leaf, inner, none, more, Family}
use Rattle.vo_spec.specs.Inserts.{Insertion, one, two}
use Rattle.btree.specs.declared.node.NodeView.{NodeView}
use Rattle.btree.specs.declared.node.NodeView.TheVariants.{Stub, Leaf as LeafView, Inner as InnerView}
use Rattle.btree.specs.declared.node.Contents.{Contents}
use Rattle.btree.specs.declared.node.Contents.TheVariants.{Leaf, Inner}
use Rattle.btree.specs.declared.siblings.Siblings.{Siblings}

-- a child, behind what its parent holds beside it
abbrev pub Kid : Type 0 → Type 0 → Type 0
Kid E M = M × Part E M

-- children as a list
abbrev pub parts_from : {E M : Type 0} → List (Kid E M) → Parts E M
parts_from [] = none
parts_from (k ∷ ks) = more k.0 k.1 (parts_from ks)

module _ {K F N E M : Type 0} (key : K → List ℕ) (entry : F → E) (kid : N → Kid E M) where
  abbrev pub view_of : NodeView K F N → Part E M
  view_of (Stub d) = stub d
  view_of (LeafView es) = leaf (map entry es.now)
  view_of (InnerView ss ks) = inner (map key ss.now) (parts_from (map kid ks.now))

  abbrev pub contents_of : Contents K F N → Part E M
  contents_of (Leaf es) = leaf (map entry es.items)
  contents_of (Inner ss ks) = inner (map key ss.items) (parts_from (map kid ks.items))

  abbrev pub IsContents : Contents K F N → Part E M → Type 0
  IsContents c t = t ≡ contents_of c

module _ {E M : Type 0} (family : Family E M) where
  -- a child made anew
  abbrev pub new_kid : Part E M → Kid E M
  new_kid t = (family.annotation t, t)

  -- the node is this, made anew
  abbrev pub IsNewKid : {N : Type 0} → (N → Kid E M) → N → Part E M → Type 0
  IsNewKid kid node t = kid node ≡ new_kid t

  -- what comes in a node's place, as children and the separators between them
  abbrev pub kids_of : Insertion E M → List (Kid E M)
  kids_of (one t) = new_kid t ∷ []
  kids_of (two left key right) = new_kid left ∷ new_kid right ∷ []

abbrev pub keys_of : {E M : Type 0} → Insertion E M → List (List ℕ)
keys_of (one t) = []
keys_of (two left key right) = key ∷ []

-- just these, and these separators
pub record HasNodes {K N : Type 0} (siblings : Siblings K N) (separators : List K)
    (nodes : List N) : Type 0 where
  pub keys : siblings.separators.items ≡ separators
  pub are : siblings.nodes.items ≡ nodes

-- one node, or two with the separator between them, as they are seen
pub record AreSiblings {K N E M : Type 0} (family : Family E M) (key : K → List ℕ)
    (kid : N → Kid E M) (siblings : Siblings K N) (insertion : Insertion E M) : Type 0 where
  pub keys : map key siblings.separators.items ≡ keys_of insertion
  pub nodes : map kid siblings.nodes.items ≡ kids_of family insertion
