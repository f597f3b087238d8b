use Rattle.std.proofs.Common.{◌≡◌, ℕ, ◌+◌, ◌++◌, ◌∷◌, [], List, Option, Some, None, take, refl, sym, ap, ◌∙◌, subst, inl, inr, arith}
use Rattle.std.specs.Prelude.{IfSome, IsSome}
use Rattle.std.proofs.lemmas.Bool.Decides.{eqb_tells}
use Rattle.std.proofs.lemmas.List.{take_all}
use Rattle.vo_spec.specs.declared.tables.Batch.{Batch}
use Rattle.vo_spec.specs.declared.records.Entry.{Entry}
use Rattle.vo_spec.specs.Honest.{Stored, after_work, honest_trees}
use Rattle.vo_spec.specs.Journals.{batches_of}
use Rattle.owner_roots.specs.Owners.{AreOwned, AreOwnedTo}
use Rattle.owner_state.specs.NextDeparture.{DepartsNext}
use Rattle.owner_state.specs.Owning.{FitBehind, IsBehind, Leads}
use Rattle.owner_state.specs.Walking.{StopsAt}
use Rattle.owner_state.specs.declared.departures.Departure.{Departure}
use Rattle.owner_state.proofs.DepartLaws.{DepartsSoFar, IsTurn, departs_at_end, departs_next, kept_tables, trees_more}
use Rattle.owner_state.proofs.LeadLaws.{behind_more, found_at, owned_behind, owned_no_more, take_next}
use Rattle.owner_roots.specs.declared.roots.Roots.{Roots}
use Rattle.owner_state.proofs.walks.walk_each.Goals as goal

pub loop-index-init : goal.loop-index-init
unfolding honest_trees
loop-index-init c =
    let key = c.args.key.now in
    let es : List Entry = c.args.entries.now in
    record {
      behind = subst (λ (o : Option Roots). IsBehind key [] o) (sym c.requires.roots) refl;
      fits = subst FitBehind (sym c.requires.roots) tt;
      trees = c.requires.tables;
      departs = subst (λ (d : Option Departure). DepartsSoFar key es 0 c.args.walk.now.roots d) (sym c.requires.departure)
          (subst (λ (o : Option Roots). DepartsSoFar key es 0 o None) (sym c.requires.roots)
          ((λ version below. absurd (omega (arith, below))), tt));
      kept = subst (λ (k : Option (List Stored)). IfSome k (λ (ss : List Stored). ss ≡ honest_trees (batches_of (take (c.args.version + 1) es)))) (sym c.requires.kept) tt;
      there = λ below. absurd (omega (arith, below));
      only = λ some.
          let none = subst (λ (k : Option (List Stored)). IsSome k) c.requires.kept some in
          absurd (cc);
    }

pub returns-in-None-clause-bad : goal.returns-in-None-clause-bad
returns-in-None-clause-bad c =
    let key = c.args.key.now in
    let es : List Entry = c.args.entries.now in
    let n = c.loop-index.index in
    let e = c.index-entries-index.result in
    let never : Leads key c.loop-index.walk.roots e None = subst (Leads key c.loop-index.walk.roots e) c.in-None.is c.in_ok-after.ensures in
    let stops : StopsAt (AreOwned key) es n = record {
      within = c.loop-index-test.true;
      so_far = owned_behind key (take n es) c.loop-index.walk.roots c.loop-index.invariant.behind;
      not_on = λ owned.
          owned_no_more key (take n es) c.loop-index.walk.roots e c.loop-index.invariant.behind never
          (subst (AreOwned key) (take_next es n e c.loop-index-test.true c.index-entries-index.is) owned);
    } in
    λ index same.
    let number : n ≡ index = cc in
    subst (StopsAt (AreOwned key) es) number stops

pub loop-index-preserved : goal.loop-index-preserved
loop-index-preserved c =
    let key = c.args.key.now in
    let es : List Entry = c.args.entries.now in
    let n = c.loop-index.index in
    let v = c.args.version in
    let e : Entry = c.index-entries-index.result in
    let before : Option Roots = c.loop-index.walk.roots in
    let after : Roots = c.in-Some.after in
    let stored : List Stored = c.loop-index.walk.honest.tables in
    let now : List Stored = c.follow_batch.new.honest.tables in
    let leads : Leads key before e (Some after) = subst (Leads key before e) c.in-Some.is c.in_ok-after.ensures in
    let more : take (n + 1) es ≡ take n es ++ e ∷ [] = take_next es n e c.loop-index-test.true c.index-entries-index.is in
    let turn : IsTurn key es n e before after stored = record {
      within = c.loop-index-test.true;
      there = found_at es n e c.loop-index-test.true c.index-entries-index.is;
      more = more;
      behind = c.loop-index.invariant.behind;
      leads = leads.0;
      trees = c.loop-index.invariant.trees;
    } in
    let worked : now ≡ after_work stored e.batch.commands =
    c.in_ok-follow_batch-in-Some.ensures.tables ∙ ap (λ (batch : Batch). after_work stored batch.commands) c.batch.ensures in
    let trees : now ≡ honest_trees (batches_of (take (n + 1) es)) =
    worked ∙ trees_more (take n es) stored e c.loop-index.invariant.trees ∙ ap (λ (fs : List Entry). honest_trees (batches_of fs)) (sym more) in
    record {
      behind = subst (λ (fs : List Entry). AreOwnedTo key fs after) (sym more) (behind_more key (take n es) before e after c.loop-index.invariant.behind leads.0);
      fits = leads.1;
      trees = trees;
      departs = departs_next key es n e before after stored turn c.loop-index.walk.honest.departure c.follow_batch.new.honest.departure
          (subst (λ (ss : List Stored). DepartsNext c.loop-index.walk.honest.departure n stored after.catalog ss c.follow_batch.new.honest.departure) worked c.in_ok-follow_batch-in-Some.ensures.departure)
          c.loop-index.invariant.departs;
      kept =
          elim (eqb_tells n v) [
            | inl t ↦
                subst (λ (k : Option (List Stored)). IfSome k (λ (ss : List Stored). ss ≡ honest_trees (batches_of (take (v + 1) es)))) (sym (c.in_ok-keep_tables.ensures.there t.1))
                (trees ∙ ap (λ (k : ℕ). honest_trees (batches_of (take (k + 1) es))) t.1)
            | inr t ↦
                subst (λ (k : Option (List Stored)). IfSome k (λ (ss : List Stored). ss ≡ honest_trees (batches_of (take (v + 1) es)))) (sym (c.in_ok-keep_tables.ensures.other t.1)) c.loop-index.invariant.kept
          ];
      there = λ below.
          elim (eqb_tells n v) [
            | inl t ↦ subst (λ (k : Option (List Stored)). IsSome k) (sym (c.in_ok-keep_tables.ensures.there t.1)) refl
            | inr t ↦ subst (λ (k : Option (List Stored)). IsSome k) (sym (c.in_ok-keep_tables.ensures.other t.1)) (c.loop-index.invariant.there (omega (arith, t.1, below)))
          ];
      only = λ some.
          elim (eqb_tells n v) [
            | inl t ↦ omega (arith, t.1)
            | inr t ↦
                let below = c.loop-index.invariant.only (subst (λ (k : Option (List Stored)). IsSome k) (c.in_ok-keep_tables.ensures.other t.1) some) in
                omega (arith, below)
          ];
    }

pub returns-clause-owned : goal.returns-clause-owned
returns-clause-owned c =
    let es : List Entry = c.args.entries.now in
    subst (AreOwned c.args.key.now) (take_all c.loop-index.index es (omega (arith, c.loop-index-test.false)))
    (owned_behind c.args.key.now (take c.loop-index.index es) c.loop-index.walk.roots c.loop-index.invariant.behind)

pub returns-clause-tables : goal.returns-clause-tables
returns-clause-tables c = kept_tables c.args.key.now c.args.version c.args.entries.now c.loop-index.walk.kept (returns-clause-owned c) c.loop-index.invariant.kept

pub returns-clause-departure : goal.returns-clause-departure
returns-clause-departure c =
    departs_at_end c.args.key.now c.args.entries.now c.loop-index.index c.loop-index.walk.roots c.loop-index.walk.honest.departure (omega (arith, c.loop-index-test.false)) c.loop-index.invariant.departs
