-- A batch by its proofs, beside the same commands on the trees.
use Rattle.std.proofs.Common.{◌≡◌, ℕ, ◌+◌, List, [], ◌∷◌, ◌++◌, Option, Some, None, Result, Ok, Err, map, drop, inl, inr, refl, sym, ap, ◌∙◌, subst}
use Rattle.std.specs.Prelude.{if◌then◌else◌, is_some, IfOk}
use Rattle.std.specs.Result.{result_map_both, result_unwrap_or, IsErrAnd}
use Rattle.std.specs.List.{AllByRecursion}
use Rattle.vo_spec.specs.declared.tables.Table.{Table}
use Rattle.vo_spec.specs.declared.tables.Command.{Command}
use Rattle.vo_spec.specs.declared.tables.CommandFault.{CommandFault}
use Rattle.vo_spec.specs.declared.records.CatalogTable.{CatalogTable}
use Rattle.vo_spec.specs.Firsts.{and_then}
use Rattle.vo_spec.specs.Batches.{FitsCommand}
use Rattle.vo_spec.specs.Tables.{refusal, apply_from}
use Rattle.vo_spec.specs.Trees.{RowTree}
use Rattle.vo_spec.specs.Inserts.{result_map}
use Rattle.vo_spec.specs.Honest.{Stored, RepresentTables, stored_table_header, catalog_of, work, work_all, command_proof, honest_proofs}
use Rattle.vo_laws.specs.FittingTables.{FitTables}
use Rattle.table_list.specs.BatchResults.{BatchGives}
use Rattle.table_list.specs.declared.fault.BatchFault.{BatchFault}
use Rattle.table_list.specs.declared.fault.BatchFault.TheVariants as batch
use Rattle.stored_tables.specs.Plain.{catalog_table, GivesPlain}
use Rattle.stored_tables.specs.Representation.{IsStanding}
use Rattle.stored_tables.specs.Working.{numbered_work, work_from}
use Rattle.stored_tables.proofs.StandingLaws.{kept_standing}
use Rattle.stored_tables.proofs.WorkLaws.{work_refused, gives_plain}
use Rattle.owner_roots.specs.declared.owner_fault.OwnerFault.{OwnerFault}
use Rattle.owner_roots.specs.declared.owner_fault.OwnerFault.TheVariants.{Command as Refused}
use Rattle.owner_roots.specs.Next.{catalog_after, trees_taken, tables_from, roots_with, next_roots}
use Rattle.owner_roots.specs.Owners.{honest_roots}
use Rattle.root_laws.specs.HonestRoots.{honest_next_roots}
use Rattle.root_laws.specs.Following.{IsProofFault, TakeParts, IsOrRefusesProof}
use Rattle.root_laws.proofs.TableSteps.{tables_by_trees, refuses_mapped}
use Rattle.root_laws.proofs.CommandSteps.{command_followed, command_proved, command_refused, rest_left}

-- What comes of commands in turn, by the trees.

abbrev tables_by_work : Result (List Stored) (ℕ × CommandFault) → Result (List CatalogTable) OwnerFault
tables_by_work = result_map_both (λ after. (catalog_of after).tables) (λ (why : ℕ × CommandFault). Refused why.0 why.1)

refuses_then : {A B : Type 0} (f : A → Result B OwnerFault) (r : Result A OwnerFault) → IsErrAnd r IsProofFault → IsErrAnd (and_then f r) IsProofFault
refuses_then f (Ok x) refuses = absurd refuses
refuses_then f (Err why) refuses = refuses

-- Parts of the trees.

followed_from : (index : ℕ) (cs : List Command) (trees : List RowTree) (stored : List Stored) → AllByRecursion FitsCommand cs → IsStanding stored → TakeParts cs trees stored
    → IsOrRefusesProof (tables_from index cs trees (map catalog_table stored)) (tables_by_work (work_from index cs stored))
followed_from index [] [] stored fits standing parts = inl refl
followed_from index [] (p ∷ ps) stored fits standing parts = inr tt
followed_from index (c ∷ cs) trees stored fits standing parts =
    elim (command_followed index c trees stored standing.tables standing.stand standing.fit parts.0) [
      | inl exact ↦
          subst (λ r. IsOrRefusesProof (and_then next r) (tables_by_work (and_then (work_from (index + 1) cs) (numbered_work index (work c stored))))) (sym exact)
          (step (work c stored) refl parts.1
          (λ after e rest. followed_from (index + 1) cs (drop (trees_taken c) trees) after fits.1 (kept_standing c stored after fits.0 standing e) rest))
      | inr refuses ↦ inr (refuses_then next (catalog_after index c trees (map catalog_table stored)) refuses)
    ]
  where
    next : List CatalogTable → Result (List CatalogTable) OwnerFault
    next = tables_from (index + 1) cs (drop (trees_taken c) trees)

    step : (w : Result (List Stored) CommandFault) → work c stored ≡ w → IfOk w (TakeParts cs (drop (trees_taken c) trees))
        → ((after : List Stored) → work c stored ≡ Ok after → TakeParts cs (drop (trees_taken c) trees) after
        → IsOrRefusesProof (next (map catalog_table after)) (tables_by_work (work_from (index + 1) cs after)))
        → IsOrRefusesProof (and_then next (tables_by_trees index w)) (tables_by_work (and_then (work_from (index + 1) cs) (numbered_work index w)))
    step (Ok after) e parts further = further after e parts
    step (Err why) e parts further = inl refl

-- the catalog of that, as roots
as_roots : (version : ℕ) (w : Result (List Stored) (ℕ × CommandFault))
    → result_map_both (roots_with (version + 1)) (λ (why : OwnerFault). why) (tables_by_work w)
    ≡ result_map_both (honest_roots (version + 1)) (λ (why : ℕ × CommandFault). Refused why.0 why.1) w
as_roots version (Ok after) = refl
as_roots version (Err why) = refl

pub batch_followed : (version : ℕ) (batch : List Command) (trees : List RowTree) (stored : List Stored) → AllByRecursion FitsCommand batch → IsStanding stored
    → TakeParts batch trees stored → IsOrRefusesProof (next_roots (honest_roots version stored) batch trees) (honest_next_roots version batch stored)
unfolding next_roots
batch_followed version batch trees stored fits standing parts =
    elim (followed_from 0 batch trees stored fits standing parts) [
      | inl exact ↦ inl (ap (result_map_both (roots_with (version + 1)) (λ (why : OwnerFault). why)) exact ∙ as_roots version (work_from 0 batch stored))
      | inr refuses ↦ inr (refuses_mapped (roots_with (version + 1)) (tables_from 0 batch trees (map catalog_table stored)) refuses)
    ]

-- The proofs themselves.

proved_from : (index : ℕ) (cs : List Command) (stored : List Stored) → AllByRecursion FitsCommand cs → IsStanding stored
    → tables_from index cs (honest_proofs cs stored) (map catalog_table stored) ≡ tables_by_work (work_from index cs stored)
proved_from index [] stored fits standing = refl
proved_from index (c ∷ cs) stored fits standing =
    step (refusal c (map stored_table_header stored)) refl
    (λ allowed w e. worked allowed w e (λ after f. proved_from (index + 1) cs after fits.1 (kept_standing c stored after fits.0 standing f)))
  where
    next : List RowTree → List CatalogTable → Result (List CatalogTable) OwnerFault
    next trees = tables_from (index + 1) cs (drop (trees_taken c) trees)

    others : Result (List Stored) CommandFault → List RowTree
    others w = result_unwrap_or (result_map (honest_proofs cs) w) []

    worked : refusal c (map stored_table_header stored) ≡ None → (w : Result (List Stored) CommandFault) → work c stored ≡ w
        → ((after : List Stored) → work c stored ≡ Ok after
        → tables_from (index + 1) cs (honest_proofs cs after) (map catalog_table after) ≡ tables_by_work (work_from (index + 1) cs after))
        → and_then (next (command_proof c stored ++ others w)) (tables_by_trees index w) ≡ tables_by_work (and_then (work_from (index + 1) cs) (numbered_work index w))
    worked allowed (Ok after) e further =
        ap (λ ts. tables_from (index + 1) cs ts (map catalog_table after)) (rest_left c (honest_proofs cs after) stored allowed) ∙ further after e
    worked allowed (Err why) e further = refl

    step : (r : Option CommandFault) → refusal c (map stored_table_header stored) ≡ r
        → (refusal c (map stored_table_header stored) ≡ None → (w : Result (List Stored) CommandFault) → work c stored ≡ w
        → and_then (next (command_proof c stored ++ others w)) (tables_by_trees index w) ≡ tables_by_work (and_then (work_from (index + 1) cs) (numbered_work index w)))
        → tables_from index (c ∷ cs) (if is_some r then [] else command_proof c stored ++ others (work c stored)) (map catalog_table stored)
        ≡ tables_by_work (and_then (work_from (index + 1) cs) (numbered_work index (work c stored)))
    step None e further =
        ap (and_then (next (command_proof c stored ++ others (work c stored)))) (command_proved index c (others (work c stored)) stored standing.tables standing.stand standing.fit)
        ∙ further e (work c stored) refl
    step (Some why) e further =
        ap (and_then (next [])) (command_refused index c [] stored why e)
        ∙ ap (λ w. tables_by_work (and_then (work_from (index + 1) cs) (numbered_work index w))) (sym (work_refused c stored why e))

pub batch_proved : (version : ℕ) (batch : List Command) (stored : List Stored) → AllByRecursion FitsCommand batch → IsStanding stored
    → next_roots (honest_roots version stored) batch (honest_proofs batch stored) ≡ honest_next_roots version batch stored
unfolding next_roots
batch_proved version batch stored fits standing =
    ap (result_map_both (roots_with (version + 1)) (λ (why : OwnerFault). why)) (proved_from 0 batch stored fits standing) ∙ as_roots version (work_from 0 batch stored)

-- What batches make of trees, with and without numbers.

from_all : (index : ℕ) (cs : List Command) (stored after : List Stored) → work_all cs stored ≡ Ok after → work_from index cs stored ≡ Ok after
from_all index [] stored after e = cc
from_all index (c ∷ cs) stored after e = step (work c stored) e (λ between f. from_all (index + 1) cs between after f)
  where
    step : (w : Result (List Stored) CommandFault) → and_then (work_all cs) w ≡ Ok after
        → ((between : List Stored) → work_all cs between ≡ Ok after → work_from (index + 1) cs between ≡ Ok after)
        → and_then (work_from (index + 1) cs) (numbered_work index w) ≡ Ok after
    step (Ok between) f further = further between f
    step (Err why) f further = absurd (cc)

pub accepted_roots : (version : ℕ) (batch : List Command) (stored after : List Stored) → work_all batch stored ≡ Ok after
    → honest_next_roots version batch stored ≡ Ok (honest_roots (version + 1) after)
accepted_roots version batch stored after e =
    ap (result_map_both (honest_roots (version + 1)) (λ (why : ℕ × CommandFault). Refused why.0 why.1)) (from_all 0 batch stored after e)

-- a batch that the plain tables refuse is refused on the trees that stand for them
abbrev as_told : Result (List Stored) (ℕ × CommandFault) → Result (List Stored) BatchFault
as_told = result_map_both (λ after. after) (λ (why : ℕ × CommandFault). batch.Command why.0 why.1)

gives_told : (w : Result (List Stored) (ℕ × CommandFault)) → BatchGives (λ after. after) (as_told w) w
gives_told (Ok after) = refl
gives_told (Err why) = refl

pub plainly_refused : (cs : List Command) (stored : List Stored) (tables : List Table) (why : ℕ × CommandFault) → AllByRecursion FitsCommand cs
    → RepresentTables stored tables → FitTables tables → apply_from 0 cs tables ≡ Err why → work_from 0 cs stored ≡ Err why
plainly_refused cs stored tables why fits zs good e =
    step (work_from 0 cs stored)
    (subst (GivesPlain (λ after. after) (as_told (work_from 0 cs stored))) e
    (gives_plain (λ after. after) cs stored tables (as_told (work_from 0 cs stored)) fits (gives_told (work_from 0 cs stored)) zs good))
  where
    step : (w : Result (List Stored) (ℕ × CommandFault)) → GivesPlain (λ after. after) (as_told w) (Err why) → w ≡ Err why
    step (Ok after) gives = absurd gives
    step (Err told) gives = let same : why ≡ told = cc in ap Err (sym same)

pub refused_roots : (version : ℕ) (batch : List Command) (stored : List Stored) (index : ℕ) (why : CommandFault) → work_from 0 batch stored ≡ Err (index, why)
    → honest_next_roots version batch stored ≡ Err (Refused index why)
refused_roots version batch stored index why e =
    ap (result_map_both (honest_roots (version + 1)) (λ (why : ℕ × CommandFault). Refused why.0 why.1)) e
