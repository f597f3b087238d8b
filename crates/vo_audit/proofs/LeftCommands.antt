-- The commands that are left of a batch, and the trees that are left of its proofs.
use Rattle.std.proofs.Common.{◌≡◌, ℕ, ◌+◌, ◌<◌, List, [], ◌∷◌, Option, Some, None, Result, Ok, Err, map, drop, length, get_or, inl, refl, sym, ap, ◌∙◌, subst}
use Rattle.std.specs.Prelude.{bytes_eq, find, slice_get}
use Rattle.std.proofs.lemmas.List.{at_drop_more}
use Rattle.std.specs.List.{AllByRecursion}
use Rattle.vo_spec.specs.declared.tables.Command.{Command}
use Rattle.vo_spec.specs.declared.tables.Command.TheVariants.{Create, Drop, Insert, Update, Delete}
use Rattle.vo_spec.specs.declared.tables.CommandFault.{CommandFault}
use Rattle.vo_spec.specs.Batches.{FitsCommand}
use Rattle.vo_spec.specs.Fits.{FitsTree}
use Rattle.vo_spec.specs.Trees.{RowTree, digest}
use Rattle.vo_spec.specs.Honest.{Stored, table_of, work}
use Rattle.vo_laws.proofs.TreeFits.{each_dropped}
use Rattle.table_list.specs.TableHeaders.{command_name}
use Rattle.table_list.specs.Changes.{Returns}
use Rattle.table_list.specs.declared.fault.ApplyFault.{ApplyFault}
use Rattle.table_list.specs.declared.fault.ApplyFault.TheVariants.{Refused}
use Rattle.stored_tables.specs.Representation.{IsStanding}
use Rattle.stored_tables.proofs.StandingLaws.{kept_standing}
use Rattle.mb_tree.specs.declared.parts.PartTree.{PartTree}
use Rattle.mb_tree.specs.View.{part_of}
use Rattle.owner_roots.specs.Next.{trees_taken}
use Rattle.tree_collide.specs.Agreements.{HoldsOrCollides}
use Rattle.root_laws.specs.Following.{TakesPart}
use Rattle.root_laws.proofs.TakenTrees.{tree_taken}
use Rattle.vo_audit.specs.Departures.{DepartBy, IsFollowed}
use Rattle.vo_audit.specs.Evidence.{HasRoot, AreHashedBy, AreHashedInTurn}
use Rattle.vo_audit.proofs.DepartureLaws.{accepted, first_followed, next_departs, none_left}
use Rattle.vo_audit.proofs.EvidenceLaws.{hashed_later}

-- of these commands, trees and tables: what strings show of what is left, they show of all
pub record AreLeft (cs : List Command) (left : List RowTree) (now : List Stored) (commands : List Command) (trees : List RowTree) (stored : List Stored) : Type 0 where
  pub standing : IsStanding now
  pub fit : AllByRecursion FitsCommand cs
  pub trees_fit : AllByRecursion FitsTree left
  pub depart : DepartBy left now cs
  pub shows : (x y : List ℕ) → AreHashedInTurn cs left now x y → AreHashedInTurn commands trees stored x y

pub all_left : (commands : List Command) (trees : List RowTree) (stored : List Stored) → IsStanding stored → AllByRecursion FitsCommand commands → AllByRecursion FitsTree trees
    → DepartBy trees stored commands → AreLeft commands trees stored commands trees stored
all_left commands trees stored standing fit trees_fit depart = record { standing = standing; fit = fit; trees_fit = trees_fit; depart = depart; shows = λ x y hashed. hashed }

module _ (c : Command) (cs : List Command) (left : List RowTree) (now : List Stored) (commands : List Command) (trees : List RowTree) (stored : List Stored)
    (are : AreLeft (c ∷ cs) left now commands trees stored) where
  pub left_followed : IsFollowed left now c
  left_followed = first_followed c cs left now are.depart

  pub left_found : (x y : List ℕ) → AreHashedBy c left now x y → AreHashedInTurn commands trees stored x y
  left_found x y hashed = are.shows x y (inl hashed)

  pub left_after : (new : List Stored) → TakesPart c left now → work c now ≡ Ok new → AreLeft cs (drop (trees_taken c) left) new commands trees stored
  left_after new part e = record {
    standing = kept_standing c now new are.fit.0 are.standing e;
    fit = are.fit.1;
    trees_fit = each_dropped FitsTree (trees_taken c) left are.trees_fit;
    depart = next_departs c cs left now new are.standing are.depart part e;
    shows = λ x y hashed. are.shows x y (hashed_later c cs left now new x y e hashed);
  }

pub never_done : (left : List RowTree) (now : List Stored) (commands : List Command) (trees : List RowTree) (stored : List Stored) → AreLeft [] left now commands trees stored → ⊥
never_done left now commands trees stored are = none_left left now are.depart

-- a command that the owner follows by a part of the tree is not refused
pub never_refused : {X : Type 0} (view : X → List Stored) (c : Command) (trees : List RowTree) (stored : List Stored) (r : Result X ApplyFault) (why : CommandFault) → r ≡ Err (Refused why)
    → IsStanding stored → IsFollowed trees stored c → TakesPart c trees stored → Returns view r (work c stored) → ⊥
never_refused {X} view c trees stored r why e standing is part gives =
    let done = accepted c trees stored standing is part in
    let good : work c stored ≡ Ok done.0 = done.1 in
    let bad : work c stored ≡ Err why = subst (λ (z : Result X ApplyFault). Returns view z (work c stored)) e gives in
    absurd (cc)

-- The command that comes next, and the tree that it takes.

pub next_left : (commands : List Command) (i : ℕ) (c : Command) (left : List RowTree) (now : List Stored) (all : List Command) (trees : List RowTree) (stored : List Stored) → i < length commands
    → c ≡ get_or commands i c → AreLeft (drop i commands) left now all trees stored → AreLeft (c ∷ drop (i + 1) commands) left now all trees stored
next_left commands i c left now all trees stored lt is =
    let onward : drop i commands ≡ c ∷ drop (i + 1) commands =
    at_drop_more (λ (xs : List Command). xs) commands i c lt ∙ ap (λ (x : Command). x ∷ drop (i + 1) commands) (sym is) in
    subst (λ (cs : List Command). AreLeft cs left now all trees stored) onward

name_is : (c : Command) → command_name c ≡ table_of c
name_is (Create name columns key) = refl
name_is (Drop name) = refl
name_is (Insert name values) = refl
name_is (Update name sets column value) = refl
name_is (Delete name column value) = refl

pub taken_root : (c : Command) (name : List ℕ) (trees : List PartTree) (tree : PartTree) (stored : List Stored) → name ≡ command_name c → slice_get trees 0 ≡ Some tree → trees_taken c ≡ 1
    → AllByRecursion FitsTree (map part_of trees) → IsFollowed (map part_of trees) stored c → HasRoot stored name (part_of tree)
taken_root c name [] tree stored named first one fit is = absurd (cc)
taken_root c name (q ∷ trees) tree stored named first one fit is =
    let taken = tree_taken is.index c (map part_of (q ∷ trees)) stored is.after is.followed one in
    let same : q ≡ tree = cc in
    let part : Some (part_of q) ≡ Some taken.0 = taken.2 in
    let that : taken.0 ≡ part_of tree = some_same (part_of q) taken.0 part ∙ ap part_of same in
    let fits : FitsTree (part_of tree) = subst (λ (z : PartTree). FitsTree (part_of z)) same fit.0 in
    record {
      fits = fits.nodes;
      table = taken.1;
      found = ap (λ n. find (λ (s : Stored). bytes_eq s.name n) stored) (named ∙ name_is c) ∙ taken.3;
      same = ap digest (sym that) ∙ taken.4;
    }
  where
    some_same : (x y : RowTree) → Some x ≡ Some y → y ≡ x
    some_same x y e = cc

pub none_taken : (c : Command) (trees : List PartTree) (stored : List Stored) → slice_get trees 0 ≡ None → trees_taken c ≡ 1 → IsFollowed (map part_of trees) stored c → ⊥
none_taken c [] stored first one is =
    let taken = tree_taken is.index c [] stored is.after is.followed one in
    let part : None ≡ Some taken.0 = taken.2 in
    absurd (cc)
none_taken c (q ∷ trees) stored first one is = absurd (cc)

pub none_found : (found : Option (List ℕ × List ℕ)) (fact : Type 0) (Are : List ℕ → List ℕ → Type 0) → found ≡ None → HoldsOrCollides found fact Are → fact
none_found None fact Are e holds = holds
none_found (Some x) fact Are e holds = absurd (cc)
