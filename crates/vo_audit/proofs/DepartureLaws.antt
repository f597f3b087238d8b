-- A batch that an owner has followed to other roots than those of honest trees, command by command.
use Rattle.std.proofs.Common.{◌≡◌, ℕ, ◌+◌, List, [], ◌∷◌, Result, Ok, Err, drop, inl, inr, refl, ap, ◌∙◌, subst}
use Rattle.std.specs.Prelude.{IfOk}
use Rattle.std.specs.Result.{result_map_both}
use Rattle.vo_spec.specs.declared.tables.Command.{Command}
use Rattle.vo_spec.specs.declared.tables.CommandFault.{CommandFault}
use Rattle.vo_spec.specs.declared.records.Catalog.{Catalog}
use Rattle.vo_spec.specs.declared.records.CatalogTable.{CatalogTable}
use Rattle.vo_spec.specs.Firsts.{and_then}
use Rattle.vo_spec.specs.Trees.{RowTree}
use Rattle.vo_spec.specs.Replies.{AreProofs}
use Rattle.vo_spec.specs.Honest.{Stored, catalog_of, work, work_all}
use Rattle.stored_tables.specs.Representation.{IsStanding}
use Rattle.owner_roots.specs.declared.owner_fault.OwnerFault.{OwnerFault}
use Rattle.owner_roots.specs.declared.roots.Roots.{Roots}
use Rattle.owner_roots.specs.Next.{NextOf, next_roots, roots_with, catalog_after, tables_from, trees_taken}
use Rattle.root_laws.specs.Following.{TakesPart}
use Rattle.owner_roots.specs.Owners.{honest_roots}
use Rattle.root_laws.proofs.CommandSteps.{command_accepted}
use Rattle.root_laws.proofs.OneAnswer.{one_list}
use Rattle.vo_audit.specs.Departures.{DepartBy, IsDeparture, IsFollowed}

-- The first command, and those behind it.

pub first_followed : (c : Command) (cs : List Command) (trees : List RowTree) (stored : List Stored) → DepartBy trees stored (c ∷ cs) → IsFollowed trees stored c
first_followed c cs trees stored d = step (catalog_after d.index c trees (catalog_of stored).tables) refl d.followed
  where
    step : (r : Result (List CatalogTable) OwnerFault) → catalog_after d.index c trees (catalog_of stored).tables ≡ r
        → and_then (tables_from (d.index + 1) cs (drop (trees_taken c) trees)) r ≡ Ok d.after → IsFollowed trees stored c
    step (Ok between) e f = record { index = d.index; after = between; followed = e }
    step (Err why) e f = absurd (cc)

pub accepted : (c : Command) (trees : List RowTree) (stored : List Stored) → IsStanding stored → IsFollowed trees stored c → TakesPart c trees stored
    → (new : List Stored) × (work c stored ≡ Ok new)
accepted c trees stored standing is parts =
    let done = command_accepted is.index c trees stored standing.tables is.after standing.stand standing.fit parts is.followed in
    (done.0, done.1)

pub next_departs : (c : Command) (cs : List Command) (trees : List RowTree) (stored new : List Stored) → IsStanding stored → DepartBy trees stored (c ∷ cs)
    → TakesPart c trees stored → work c stored ≡ Ok new → DepartBy (drop (trees_taken c) trees) new cs
next_departs c cs trees stored new standing d parts e =
    step (catalog_after d.index c trees (catalog_of stored).tables) refl d.followed
  where
    left : List RowTree
    left = drop (trees_taken c) trees

    step : (r : Result (List CatalogTable) OwnerFault) → catalog_after d.index c trees (catalog_of stored).tables ≡ r
        → and_then (tables_from (d.index + 1) cs left) r ≡ Ok d.after → DepartBy left new cs
    step (Err why) f g = absurd (cc)
    step (Ok between) f g =
        let done = command_accepted d.index c trees stored standing.tables between standing.stand standing.fit parts f in
        let worked : work c stored ≡ Ok done.0 = done.1 in
        let same : done.0 ≡ new = cc in
        let tables : between ≡ (catalog_of new).tables = done.2 ∙ ap (λ (ss : List Stored). (catalog_of ss).tables) same in
        record {
          index = d.index + 1;
          after = d.after;
          followed = subst (λ ts. tables_from (d.index + 1) cs left ts ≡ Ok d.after) tables g;
          departs = subst (λ w. IfOk (and_then (work_all cs) w) (λ honest. d.after ≡ (catalog_of honest).tables → ⊥)) e d.departs;
        }

-- Not all commands are done: where they were, the catalogs would be the same.
pub none_left : (trees : List RowTree) (stored : List Stored) → DepartBy trees stored [] → ⊥
none_left [] stored d =
    let done : Ok (catalog_of stored).tables ≡ Ok d.after = d.followed in
    let same : d.after ≡ (catalog_of stored).tables = cc in
    d.departs same
none_left (p ∷ ps) stored d = step (d.followed)
  where
    step : tables_from d.index [] (p ∷ ps) (catalog_of stored).tables ≡ Ok d.after → ⊥
    step e = absurd (cc)

-- The batch, by the trees that its proofs are.

abbrev as_catalog : List CatalogTable → Catalog
as_catalog tables = record { tables = tables }

-- where catalogs differ, their tables do
tables_differ : (tables : List CatalogTable) (w : Result (List Stored) CommandFault) → IfOk w (λ honest. as_catalog tables ≡ catalog_of honest → ⊥)
    → IfOk w (λ honest. tables ≡ (catalog_of honest).tables → ⊥)
tables_differ tables (Ok honest) d = λ e. d (ap as_catalog e)
tables_differ tables (Err why) d = tt

pub read_depart : (stored : List Stored) (batch : List Command) (proofs : List ℕ) (trees : List RowTree) → IsDeparture stored batch proofs → AreProofs proofs trees
    → DepartBy trees stored batch
unfolding NextOf next_roots
read_depart stored batch proofs trees d are = step d.followed
  where
    by_tables : (r : Result (List CatalogTable) OwnerFault) → tables_from 0 batch trees (catalog_of stored).tables ≡ r
        → Ok d.after ≡ result_map_both (roots_with (d.version + 1)) (λ (why : OwnerFault). why) r → DepartBy trees stored batch
    by_tables (Err why) e f = absurd (cc)
    by_tables (Ok tables) e f =
        let same : d.after ≡ roots_with (d.version + 1) tables = cc in
        record {
          index = 0;
          after = tables;
          followed = e;
          departs = tables_differ tables (work_all batch stored)
              (subst (λ (r : Roots). IfOk (work_all batch stored) (λ honest. r.catalog ≡ catalog_of honest → ⊥)) same d.departs);
        }

    step : NextOf (honest_roots d.version stored) batch proofs (Ok d.after) → DepartBy trees stored batch
    step (inl none) = absurd (none.0 trees are)
    step (inr read) =
        let same : read.0 ≡ trees = one_list proofs read.0 trees read.1 are in
        by_tables (tables_from 0 batch trees (catalog_of stored).tables) refl
        (subst (λ ts. Ok d.after ≡ next_roots (honest_roots d.version stored) batch ts) same read.2)

pub never_unread : (stored : List Stored) (batch : List Command) (proofs : List ℕ) → IsDeparture stored batch proofs → ((trees : List RowTree) → AreProofs proofs trees → ⊥) → ⊥
unfolding NextOf
never_unread stored batch proofs d none = step d.followed
  where
    step : NextOf (honest_roots d.version stored) batch proofs (Ok d.after) → ⊥
    step (inl unread) = absurd (let e = unread.1 in cc)
    step (inr read) = none read.0 read.1
