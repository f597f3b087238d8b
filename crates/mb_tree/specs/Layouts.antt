-- Preimages of nodes as they are written, by their first byte and by what each item of a node has in
-- them.
use Rattle.std.specs.Prelude.{ℕ, List, ◌∷◌, ◌++◌, length, flat_map}

abbrev pub leaf_layout : {E : Type 0} → ℕ → (E → List ℕ) → List E → List ℕ
leaf_layout tag entry es = tag ∷ length es ∷ flat_map entry es

-- an inner node's bytes before its children's
abbrev pub head_layout : {K : Type 0} → ℕ → (K → List ℕ) → List K → ℕ → List ℕ
head_layout tag separator ks children = tag ∷ children ∷ flat_map separator ks

abbrev pub inner_layout : {K C : Type 0} → ℕ → (K → List ℕ) → (C → List ℕ) → List K → List C
    → List ℕ
inner_layout tag separator child ks cs =
    head_layout tag separator ks (length cs) ++ flat_map child cs
