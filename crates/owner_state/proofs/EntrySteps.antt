-- An entry behind trees, and behind the batches that made these.
use Rattle.std.proofs.Common.{◌≡◌, ℕ, suc, ◌<◌, List, [], ◌∷◌, ◌++◌, length, drop, Option, Some, None, sym, ap, ◌∙◌, subst, arith}
use Rattle.std.specs.Prelude.{◌↔◌, IsOk}
use Rattle.std.specs.List.{AllByRecursion}
use Rattle.std.proofs.lemmas.List.{length-map, map-append}
use Rattle.vo_spec.specs.declared.tables.Command.{Command}
use Rattle.vo_spec.specs.declared.records.Entry.{Entry}
use Rattle.vo_spec.specs.Batches.{FitsBatch}
use Rattle.vo_spec.specs.Journals.{FitsEntry, batches_of}
use Rattle.vo_spec.specs.Owners.{IsLoadableEntry, AreLoadable}
use Rattle.vo_spec.specs.Honest.{Stored, after_work, work_all, honest_record, honest_trees}
use Rattle.vo_laws.proofs.StepLaws.{trees_follow, no_commands_fit, no_trees_before, both_take}
use Rattle.vo_laws.proofs.EntryLaws.{taken_first, taken_grows, all_fit}
use Rattle.owner_state.specs.EntriesOnTrees.{IsRecorded, IsLoadableOn}
use Rattle.owner_state.specs.Walking.{GivesTreesIf}

-- Batches that fit, and the trees that they make.
pub record Made (earlier : List (List Command)) (stored : List Stored) : Type 0 where
  pub fit : AllByRecursion FitsBatch earlier
  pub trees : stored ≡ honest_trees earlier

pub taken_is : (key : List ℕ) (earlier : List (List Command)) (stored : List Stored) (e : Entry) → Made earlier stored → FitsBatch e.batch.commands
    → IsLoadableOn key (length earlier) stored e ↔ IsLoadableEntry key earlier e
taken_is key earlier stored e m fits = (there, back)
  where
    behind : after_work stored e.batch.commands ≡ honest_trees (earlier ++ e.batch.commands ∷ [])
    behind = ap (λ (ss : List Stored). after_work ss e.batch.commands) m.trees ∙ sym (trees_follow earlier e.batch.commands)

    there : IsLoadableOn key (length earlier) stored e → IsLoadableEntry key earlier e
    there t = record {
      accepted = (both_take earlier e.batch.commands m.fit fits).0 (subst (λ (ss : List Stored). IsOk (work_all e.batch.commands ss)) m.trees t.accepted);
      record_is = t.recorded.record_is ∙ ap (honest_record key (length earlier)) behind;
      signed = t.recorded.signed;
    }

    back : IsLoadableEntry key earlier e → IsLoadableOn key (length earlier) stored e
    back t = record {
      accepted = subst (λ (ss : List Stored). IsOk (work_all e.batch.commands ss)) (sym m.trees) ((both_take earlier e.batch.commands m.fit fits).1 t.accepted);
      recorded = record { record_is = t.record_is ∙ ap (honest_record key (length earlier)) (sym behind); signed = t.signed };
    }

pub goes_on : (P Q : Type 0) (stored other : List Stored) → (P ↔ Q) → stored ≡ other → (found : Option (List Stored)) → GivesTreesIf P stored found → GivesTreesIf Q other found
goes_on P Q stored other same e None g = λ q. g (same.1 q)
goes_on P Q stored other same e (Some ss) g = (same.0 g.0, g.1 ∙ e)

batches_more : (es : List Entry) (e : Entry) → batches_of (es ++ e ∷ []) ≡ batches_of es ++ e.batch.commands ∷ []
batches_more es e = map-append (λ (x : Entry). x.batch.commands) es (e ∷ [])

-- Journals that a store takes.

taken_more : (key : List ℕ) (x : Entry) (xs : List Entry) (stored : List Stored) (e : Entry) (found : Option (List Stored)) → AllByRecursion FitsEntry (x ∷ xs) → FitsEntry e
    → AreLoadable key (x ∷ xs) → stored ≡ honest_trees (batches_of xs) → GivesTreesIf (IsLoadableOn key (length (x ∷ xs)) stored e) (after_work stored e.batch.commands) found
    → GivesTreesIf (AreLoadable key ((x ∷ xs) ++ e ∷ [])) (honest_trees (batches_of (xs ++ e ∷ []))) found
taken_more key x xs stored e found fit fits taken trees g =
    let earlier : List (List Command) = [] ∷ batches_of xs in
    let long : length (x ∷ xs) ≡ length earlier = ap (λ (n : ℕ). suc n) (sym (length-map xs (λ (y : Entry). y.batch.commands))) in
    let made : Made earlier stored = record {
      fit = (no_commands_fit, fit_behind);
      trees = trees ∙ sym (no_trees_before (batches_of xs));
    } in
    let is = taken_is key earlier stored e made fits.batch in
    let grows = taken_grows key (x ∷ xs) e (omega arith) in
    goes_on (IsLoadableOn key (length (x ∷ xs)) stored e) (AreLoadable key ((x ∷ xs) ++ e ∷ [])) (after_work stored e.batch.commands) (honest_trees (batches_of (xs ++ e ∷ []))) (
      (λ t. grows.1 (taken, is.0 (subst (λ (n : ℕ). IsLoadableOn key n stored e) long t))),
      (λ a. subst (λ (n : ℕ). IsLoadableOn key n stored e) (sym long) (is.1 (grows.0 a).1)),
    )
    (ap (λ (ss : List Stored). after_work ss e.batch.commands) trees ∙ sym (trees_follow (batches_of xs) e.batch.commands) ∙ ap honest_trees (sym (batches_more xs e)))
    found g
  where
    fit_behind : AllByRecursion FitsBatch (batches_of xs)
    fit_behind = all_fit (x ∷ xs) fit

pub taken_behind : (key : List ℕ) (es : List Entry) (stored : List Stored) (e : Entry) (found : Option (List Stored)) → 0 < length es → AllByRecursion FitsEntry es → FitsEntry e
    → AreLoadable key es → stored ≡ honest_trees (batches_of (drop 1 es)) → GivesTreesIf (IsLoadableOn key (length es) stored e) (after_work stored e.batch.commands) found
    → GivesTreesIf (AreLoadable key (es ++ e ∷ [])) (honest_trees (batches_of (drop 1 (es ++ e ∷ [])))) found
taken_behind key [] stored e found some fit fits taken trees g = absurd (omega arith)
taken_behind key (x ∷ xs) stored e found some fit fits taken trees g = taken_more key x xs stored e found fit fits taken trees g

pub taken_at_first : (key : List ℕ) (es : List Entry) (stored : List Stored) (e : Entry) (found : Option (List Stored)) → length es ≡ 0 → stored ≡ honest_trees (batches_of (drop 1 es))
    → GivesTreesIf (IsRecorded key 0 stored e) stored found → GivesTreesIf (AreLoadable key (es ++ e ∷ [])) (honest_trees (batches_of (drop 1 (es ++ e ∷ [])))) found
taken_at_first key [] stored e found none trees g =
    goes_on (IsRecorded key 0 stored e) (AreLoadable key (e ∷ [])) stored (honest_trees []) (
      (λ r. (taken_first key e).1 (r.record_is ∙ ap (honest_record key 0) trees, r.signed)),
      (λ a. let t = (taken_first key e).0 a in record { record_is = t.0 ∙ ap (honest_record key 0) (sym trees); signed = t.1 }),
    )
    trees found g
taken_at_first key (x ∷ xs) stored e found none trees g = absurd (omega arith)
