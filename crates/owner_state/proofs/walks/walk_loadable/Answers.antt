use Rattle.std.proofs.Common.{◌≡◌, ℕ, ◌+◌, ◌++◌, ◌∷◌, [], List, Option, Some, None, drop, take, sym, ap, ◌∙◌, subst, refl, inl, inr, arith}
use Rattle.std.specs.Prelude.{IfSome, IsSome}
use Rattle.std.proofs.lemmas.Bool.Decides.{eqb_tells}
use Rattle.vo_spec.specs.declared.records.Entry.{Entry}
use Rattle.vo_spec.specs.Honest.{Stored, honest_trees}
use Rattle.vo_spec.specs.Journals.{batches_of}
use Rattle.vo_spec.specs.Owners.{AreLoadable}
use Rattle.owner_state.specs.Departing.{trees_at}
use Rattle.owner_state.specs.Walking.{GivesTreesIf}
use Rattle.owner_state.proofs.LeadLaws.{take_next}
use Rattle.owner_state.proofs.DepartLaws.{first_trees}
use Rattle.owner_state.proofs.walks.walk_loadable.Goals as goal

pub loop-index-init : goal.loop-index-init
unfolding AreLoadable honest_trees
loop-index-init c = record {
  taken = tt;
  trees = c.new-tables.ensures;
  kept = tt;
  there = λ below. absurd (omega (arith, below));
  only = λ some. absurd (cc);
}

pub loop-index-preserved : goal.loop-index-preserved
loop-index-preserved c =
    let es : List Entry = c.args.entries.now in
    let n = c.loop-index.index in
    let v = c.args.version in
    let e : Entry = c.index-entries-index.result in
    let now : List Stored = c.in-Some.after in
    let more : take (n + 1) es ≡ take n es ++ e ∷ [] = take_next es n e c.loop-index-test.true c.index-entries-index.is in
    let g : GivesTreesIf (AreLoadable c.args.key.now (take n es ++ e ∷ [])) (honest_trees (batches_of (drop 1 (take n es ++ e ∷ [])))) (Some now) =
    subst (GivesTreesIf (AreLoadable c.args.key.now (take n es ++ e ∷ [])) (honest_trees (batches_of (drop 1 (take n es ++ e ∷ []))))) c.in-Some.is c.in_ok-after.ensures in
    let trees : now ≡ honest_trees (batches_of (drop 1 (take (n + 1) es))) = g.1 ∙ ap (λ (fs : List Entry). honest_trees (batches_of (drop 1 fs))) (sym more) in
    record {
      taken = subst (AreLoadable c.args.key.now) (sym more) g.0;
      trees = trees;
      kept =
          elim (eqb_tells n v) [
            | inl t ↦
                subst (λ (k : Option (List Stored)). IfSome k (λ (ss : List Stored). ss ≡ trees_at v es)) (sym (c.in_ok-keep_tables.ensures.there t.1))
                (trees ∙ ap (λ (k : ℕ). honest_trees (batches_of (drop 1 (take (k + 1) es)))) t.1 ∙ first_trees v es)
            | inr t ↦
                subst (λ (k : Option (List Stored)). IfSome k (λ (ss : List Stored). ss ≡ trees_at v es)) (sym (c.in_ok-keep_tables.ensures.other t.1)) c.loop-index.invariant.kept
          ];
      there = λ below.
          elim (eqb_tells n v) [
            | inl t ↦ subst (λ (k : Option (List Stored)). IsSome k) (sym (c.in_ok-keep_tables.ensures.there t.1)) refl
            | inr t ↦ subst (λ (k : Option (List Stored)). IsSome k) (sym (c.in_ok-keep_tables.ensures.other t.1)) (c.loop-index.invariant.there (omega (arith, t.1, below)))
          ];
      only = λ some.
          elim (eqb_tells n v) [
            | inl t ↦ omega (arith, t.1)
            | inr t ↦
                let below = c.loop-index.invariant.only (subst (λ (k : Option (List Stored)). IsSome k) (c.in_ok-keep_tables.ensures.other t.1) some) in
                omega (arith, below)
          ];
    }
