-- What is found below is found here.
use Rattle.std.proofs.Common.{◌≡◌, ℕ, true, List, Option, Some, None, Result, Ok, Err, IfOk, ◌∙◌, inl, inr}
use Rattle.vo_spec.specs.declared.cells.Cell.{Cell}
use Rattle.vo_spec.specs.declared.cells.RowPart.TheVariants.{Cells}
use Rattle.vo_spec.specs.Cells.{row_bytes}
use Rattle.vo_spec.specs.Trees.{RowTree, preimage}
use Rattle.tree_collide.specs.Agreements.{HoldsOrCollides, is_open}
use Rattle.tree_collide.specs.Preimages.{OfStrings, AttributesIn, RowsOf, BelowNodes, ArePreimages}

abbrev Found : Type 0
Found = Option (List ℕ × List ℕ)

found_as : {E : Type 0} (r : Result Found E) (fact : Type 0) (Are Be : OfStrings) → ((x y : List ℕ) → Are x y → Be x y) → IfOk r (λ found. HoldsOrCollides found fact Are) → IfOk r (λ found. HoldsOrCollides found fact Be)
found_as (Ok None) fact Are Be f h = h
found_as (Ok (Some found)) fact Are Be f h = (h.0, h.1, f found.0 found.1 h.2)
found_as (Err e) fact Are Be f h = tt

-- of rows

pub row_strings : (cs ds : List Cell) (x y first second : List ℕ) → first ≡ row_bytes cs → second ≡ row_bytes ds → (x ≡ first) × (y ≡ second) → RowsOf (Cells cs) (Cells ds) x y
row_strings cs ds x y first second e f h = inl (h.0 ∙ e, h.1 ∙ f)

pub of_attributes : {E : Type 0} (r : Result Found E) (fact : Type 0) (cs ds : List Cell) → IfOk r (λ found. HoldsOrCollides found fact (AttributesIn 0 cs ds)) → IfOk r (λ found. HoldsOrCollides found fact (RowsOf (Cells cs) (Cells ds)))
of_attributes r fact cs ds h = found_as r fact (AttributesIn 0 cs ds) (RowsOf (Cells cs) (Cells ds)) (λ x y g. inr g) h

-- of nodes

pub node_strings : (p t : RowTree) (x y first second : List ℕ) → is_open p ≡ true → is_open t ≡ true → first ≡ preimage p → second ≡ preimage t → (x ≡ first) × (y ≡ second)
    → ArePreimages p t x y
node_strings p t x y first second op ot e f h = inl (op, ot, h.0 ∙ e, h.1 ∙ f)

pub of_below : {E : Type 0} (r : Result Found E) (fact : Type 0) (p t : RowTree) → IfOk r (λ found. HoldsOrCollides found fact (BelowNodes p t)) → IfOk r (λ found. HoldsOrCollides found fact (ArePreimages p t))
of_below r fact p t h = found_as r fact (BelowNodes p t) (ArePreimages p t) (λ x y g. inr g) h
