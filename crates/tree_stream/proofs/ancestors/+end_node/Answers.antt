use Rattle.std.proofs.Common.{◌≡◌, subst, append_assoc}
use Rattle.vo_spec.specs.TreeBytes.{tree_bytes}
use Rattle.tree_stream.specs.Places.{IsInnerFront}
use Rattle.tree_stream.specs.Positions.{StandsAt}
use Rattle.tree_stream.proofs.PlaceLaws.{below_pop, child_taken, inner_whole}
use Rattle.std.proofs.Common.{List, ℕ, ◌++◌, length, sym, ap, ◌∙◌, arith, inl, inr, refl}
use Rattle.std.proofs.lemmas.Bool.{cases_lt, eqb-true, false≢true}
use Rattle.sha2.specs.Sha256.{sha256}
use Rattle.tree_stream.proofs.Steps.{yields_then, root_step, up_step, over_step}
use Rattle.tree_stream.proofs.ancestors.+end_node.Goals as goal

pub returns-in-None-clause-yields : goal.returns-in-None-clause-yields
returns-in-None-clause-yields t c =
    root_step c.args.context.now _ c.args.digest
    (elim (cases_lt 0 (length c.args.context.now.ancestors.items)) [ inl some ↦ absurd (false≢true (c.in-None.ensures.variant.1 some)) | inr none ↦ none ]) refl refl

pub returns-then-is_empty-clause-yields : goal.returns-then-is_empty-clause-yields
returns-then-is_empty-clause-yields t c =
    yields_then _ _ _ _ c.end_node.ensures.yields (λ rest.
    up_step c.args.context.now.target c.args.context.now.ancestors.items c.pop.new.self.items c.in-Some.field-0 c.args.digest c.digest.result c.args.context.now.findings rest
    c.in-Some.ensures.items
    (omega (arith, eqb-true (length c.in-Some.field-0.child_visits.items) 0 (sym c.is_empty.ensures ∙ c.if-is_empty.true)))
    (c.digest.ensures ∙ ap sha256 (c.add.ensures ∙ ap (λ (t : List ℕ). c.in-Some.field-0.hasher ++ t) c.as_bytes.ensures.value)))

pub returns-else-is_empty-clause-yields : goal.returns-else-is_empty-clause-yields
returns-else-is_empty-clause-yields t c =
    yields_then _ _ _ _ c.next_child.ensures.yields (λ rest.
    over_step c.args.context.now.target c.args.context.now.ancestors.items c.pop.new.self.items c.in-Some.field-0 c.args.digest c.add.new.self c.args.context.now.findings rest
    c.in-Some.ensures.items
    (c.add.ensures ∙ ap (λ (t : List ℕ). c.in-Some.field-0.hasher ++ t) c.as_bytes.ensures.value))

pub returns-then-is_empty-clause-stands : goal.returns-then-is_empty-clause-stands
returns-then-is_empty-clause-stands t c = λ above p below fits.
    let u = below_pop c.args.context.now.ancestors.items c.pop.new.self.items c.in-Some.field-0 above c.in-Some.ensures.items below in
    let none : length c.in-Some.field-0.child_visits.items ≡ 0 = eqb-true (length c.in-Some.field-0.child_visits.items) 0 (sym c.is_empty.ensures ∙ c.if-is_empty.true) in
    let Q : ℕ → Type 0 = λ left. IsInnerFront (u.parent ++ tree_bytes p) left in
    let w = inner_whole (u.parent ++ tree_bytes p) (subst Q none (child_taken u.parent (length c.in-Some.field-0.child_visits.items) p u.front fits)) in
    let P : List ℕ → Type 0 = λ bytes. StandsAt c.end_node.new.context c.end_node.result bytes in
    let is : u.above ++ tree_bytes w.tree ≡ above ++ tree_bytes p =
    ap (λ (t : List ℕ). u.above ++ t) (sym w.bytes_are) ∙ sym (append_assoc u.above u.parent (tree_bytes p)) ∙ ap (λ (t : List ℕ). t ++ tree_bytes p) (sym u.parts) in
    subst P is (c.end_node.ensures.stands u.above w.tree u.below w.fits)

pub returns-else-is_empty-clause-stands : goal.returns-else-is_empty-clause-stands
returns-else-is_empty-clause-stands t c = λ above p below fits.
    let u = below_pop c.args.context.now.ancestors.items c.pop.new.self.items c.in-Some.field-0 above c.in-Some.ensures.items below in
    let P : List ℕ → Type 0 = λ bytes. StandsAt c.next_child.new.context c.next_child.result bytes in
    let is : u.above ++ (u.parent ++ tree_bytes p) ≡ above ++ tree_bytes p =
    sym (append_assoc u.above u.parent (tree_bytes p)) ∙ ap (λ (t : List ℕ). t ++ tree_bytes p) (sym u.parts) in
    subst P is (c.next_child.ensures.stands u.above (u.parent ++ tree_bytes p) u.below (child_taken u.parent (length c.in-Some.field-0.child_visits.items) p u.front fits))
