-- The honest trees beside an owner's entries, and where the roots depart from them.
use Rattle.std.proofs.Math.Seq.{take-nil}
use Rattle.std.proofs.Common.{◌≡◌, ℕ, zero, suc, ◌+◌, ◌-◌, ◌<◌, ◌≤◌, add-one, List, [], ◌∷◌, ◌++◌, Option, Some, None, Ok, length, take, drop, refl, sym, ap, ◌∙◌, subst, inl, inr, arith}
use Rattle.std.specs.Prelude.{◌≢◌, slice_get, IfSome}
use Rattle.std.proofs.lemmas.Bool.Decides.{leb_tells}
use Rattle.std.proofs.lemmas.List.{length-append, length-take-le, map-append}
use Rattle.vo_spec.specs.declared.tables.Command.{Command}
use Rattle.vo_spec.specs.declared.records.Catalog.{Catalog}
use Rattle.vo_spec.specs.declared.records.Entry.{Entry}
use Rattle.vo_spec.specs.Journals.{batches_of}
use Rattle.vo_spec.specs.Honest.{Stored, after_work, catalog_of, honest_trees}
use Rattle.vo_laws.proofs.StepLaws.{no_trees_before, trees_follow}
use Rattle.owner_roots.specs.declared.roots.Roots.{Roots}
use Rattle.owner_roots.specs.Next.{NextOf}
use Rattle.owner_roots.specs.Owners.{AreOwned, AreOwnedTo, IsNextEntry, honest_roots}
use Rattle.owner_roots.proofs.OwnedLaws.{version}
use Rattle.owner_state.specs.declared.departures.Departure.{Departure}
use Rattle.owner_state.specs.NextDeparture.{DepartsNext}
use Rattle.owner_state.specs.Departing.{AreHonestBelow, Departs, DepartsAt, HasCatalog, IsFirstDeparture, trees_at}
use Rattle.owner_state.specs.Owning.{IsBehind, LeadsTo}
use Rattle.owner_state.proofs.LeadLaws.{behind_more, owned_more}

-- Trees.

batches_more : (es : List Entry) (e : Entry) → batches_of (es ++ e ∷ []) ≡ batches_of es ++ e.batch.commands ∷ []
batches_more es e = map-append (λ (x : Entry). x.batch.commands) es (e ∷ [])

pub trees_more : (es : List Entry) (stored : List Stored) (e : Entry) → stored ≡ honest_trees (batches_of es)
    → after_work stored e.batch.commands ≡ honest_trees (batches_of (es ++ e ∷ []))
trees_more es stored e trees =
    ap (λ (ss : List Stored). after_work ss e.batch.commands) trees ∙ sym (trees_follow (batches_of es) e.batch.commands) ∙ ap honest_trees (sym (batches_more es e))

-- the first entry, if one is there, has no commands
abbrev pub BeginsEmpty : List Entry → Type 0
BeginsEmpty [] = Unit {0}
BeginsEmpty (e ∷ es) = e.batch.commands ≡ []

-- the trees of a version are those after its batches, the first left out, which has no commands
pub honest_trees_at : (v : ℕ) (es : List Entry) → BeginsEmpty es → honest_trees (batches_of (take (v + 1) es)) ≡ trees_at v es
honest_trees_at v [] empty = ap (λ (xs : List Entry). honest_trees (batches_of xs)) (take-nil (v + 1) ∙ sym (take-nil v))
honest_trees_at v (x ∷ xs) empty =
    ap (λ (n : ℕ). honest_trees (batches_of (take n (x ∷ xs)))) (add-one v)
    ∙ ap (λ (batch : List Command). honest_trees (batch ∷ batches_of (take v xs))) empty
    ∙ no_trees_before (batches_of (take v xs))

-- behind the entry of a version they are those of its trees
pub first_trees : (v : ℕ) (es : List Entry) → honest_trees (batches_of (drop 1 (take (v + 1) es))) ≡ trees_at v es
first_trees v [] = ap (λ (xs : List Entry). honest_trees (batches_of (drop 1 xs))) (take-nil (v + 1)) ∙ ap (λ (xs : List Entry). honest_trees (batches_of xs)) (sym (take-nil v))
first_trees v (x ∷ xs) = ap (λ (n : ℕ). honest_trees (batches_of (drop 1 (take n (x ∷ xs))))) (add-one v)

abbrev with_catalog : ℕ → Catalog → Roots
with_catalog v c = record { version = v; catalog = c }

module _ (key : List ℕ) where
  begins_empty : (n : ℕ) (es : List Entry) → AreOwned key (take (suc n) es) → BeginsEmpty es
  unfolding AreOwned AreOwnedTo
  begins_empty n [] owned = tt
  begins_empty n (e ∷ es) owned = owned.1.0.commands

  pub owned_begins_empty : (n : ℕ) (es : List Entry) → AreOwned key (take (n + 1) es) → BeginsEmpty es
  owned_begins_empty n es owned = begins_empty n es (subst (λ (k : ℕ). AreOwned key (take k es)) (add-one n) owned)

  all_begin_empty : (es : List Entry) → AreOwned key es → BeginsEmpty es
  unfolding AreOwned AreOwnedTo
  all_begin_empty [] owned = tt
  all_begin_empty (e ∷ es) owned = owned.1.0.commands

  pub kept_tables : (v : ℕ) (es : List Entry) (kept : Option (List Stored)) → AreOwned key es
      → IfSome kept (λ (ss : List Stored). ss ≡ honest_trees (batches_of (take (v + 1) es))) → IfSome kept (λ (ss : List Stored). ss ≡ trees_at v es)
  kept_tables v es None owned is = tt
  kept_tables v es (Some ss) owned is = is ∙ honest_trees_at v es (all_begin_empty es owned)

  not_at_first : (n : ℕ) (es : List Entry) (roots : Roots) → AreOwnedTo key (take n es) roots → 0 < n
  unfolding AreOwnedTo
  not_at_first zero es roots owned = absurd owned
  not_at_first (suc n) es roots owned = omega arith

  -- So far.

  -- behind so many entries the roots are those of the honest trees
  abbrev pub AreHonestRoots : ℕ → List Entry → Option Roots → Type 0
  AreHonestRoots n es None = Unit {0}
  AreHonestRoots n es (Some roots) = (v : ℕ) → v + 1 ≡ n → roots ≡ honest_roots v (trees_at v es)

  abbrev pub DepartsSoFar : List Entry → ℕ → Option Roots → Option Departure → Type 0
  DepartsSoFar es n roots None = AreHonestBelow key n es × AreHonestRoots n es roots
  DepartsSoFar es n roots (Some d) = IsFirstDeparture key es d.index × DepartsAt es d.index d.tables

  pub departs_at_end : (es : List Entry) (n : ℕ) (roots : Option Roots) (d : Option Departure) → length es ≤ n → DepartsSoFar es n roots d → Departs key es d
  departs_at_end es n roots None long so = λ v below. so.0 v (omega (arith, long, below))
  departs_at_end es n roots (Some d) long so = so

  -- the entry that comes next, and what it leads to
  pub record IsTurn (es : List Entry) (n : ℕ) (e : Entry) (before : Option Roots) (after : Roots) (stored : List Stored) : Type 0 where
    pub within : n < length es
    pub there : slice_get es n ≡ Some e
    pub more : take (n + 1) es ≡ take n es ++ e ∷ []
    pub behind : IsBehind key (take n es) before
    pub leads : LeadsTo key before e after
    pub trees : stored ≡ honest_trees (batches_of (take n es))

  module _ (es : List Entry) (n : ℕ) (e : Entry) (before : Option Roots) (after : Roots) (stored : List Stored) (turn : IsTurn es n e before after stored) where
    owned : AreOwned key (take (n + 1) es)
    owned = subst (AreOwned key) (sym turn.more) (owned_more key (take n es) before e after turn.behind turn.leads)

    empty : BeginsEmpty es
    empty = owned_begins_empty n es owned

    trees_now : after_work stored e.batch.commands ≡ trees_at n es
    trees_now = trees_more (take n es) stored e turn.trees ∙ ap (λ (fs : List Entry). honest_trees (batches_of fs)) (sym turn.more) ∙ honest_trees_at n es empty

    version_now : after.version ≡ n
    version_now =
        let number = version key (take n es ++ e ∷ []) after (behind_more key (take n es) before e after turn.behind turn.leads) in
        let long : length (take n es) ≡ n = length-take-le n es (omega (arith, turn.within)) in
        omega (arith, number, long, length-append (take n es) (e ∷ []))

    owned_to : AreOwnedTo key (take (n + 1) es) after
    owned_to = subst (λ (fs : List Entry). AreOwnedTo key fs after) (sym turn.more) (behind_more key (take n es) before e after turn.behind turn.leads)

    catalog_is : (c : Catalog) → after.catalog ≡ c → HasCatalog key es n c
    catalog_is c same = record { behind = after; owned = owned_to; same = same }

    roots_are : (roots : Roots) (v : ℕ) (c : Catalog) → roots.version ≡ v → roots.catalog ≡ c → roots ≡ with_catalog v c
    roots_are roots v c ev ec = ap (λ (w : ℕ). with_catalog w roots.catalog) ev ∙ ap (with_catalog v) ec

    -- the catalog is the honest one
    honest_now : after.catalog ≡ catalog_of (after_work stored e.batch.commands) → after ≡ honest_roots n (trees_at n es)
    honest_now same = roots_are after n (catalog_of (trees_at n es)) version_now (same ∙ ap catalog_of trees_now)

    below_next : AreHonestBelow key n es → HasCatalog key es n (catalog_of (trees_at n es)) → AreHonestBelow key (n + 1) es
    below_next below here = λ v lt.
        elim (leb_tells n v) [
          | inl t ↦
              let same : v ≡ n = omega (arith, lt, t.1) in
              subst (λ (w : ℕ). HasCatalog key es w (catalog_of (trees_at w es))) (sym same) here
          | inr t ↦ below v t.1
        ]

    honest_so_far : AreHonestBelow key n es → after ≡ honest_roots n (trees_at n es) → DepartsSoFar es (n + 1) (Some after) None
    honest_so_far below same = (
      below_next below (catalog_is (catalog_of (trees_at n es)) (ap (λ (r : Roots). r.catalog) same)),
      (λ v e1. let number : v ≡ n = omega (arith, e1) in subst (λ (w : ℕ). after ≡ honest_roots w (trees_at w es)) (sym number) same),
    )

    -- the catalog is another
    no_departure_at_first : LeadsTo key None e after → take n es ≡ [] → after.catalog ≢ catalog_of (after_work stored e.batch.commands) → ⊥
    unfolding honest_trees
    no_departure_at_first leads none other =
        let nothing : stored ≡ [] = turn.trees ∙ ap (λ (fs : List Entry). honest_trees (batches_of fs)) none in
        let same : after_work stored e.batch.commands ≡ [] = ap (λ (cs : List Command). after_work stored cs) leads.0.commands ∙ nothing in
        other (ap (λ (r : Roots). r.catalog) (sym leads.1) ∙ ap catalog_of (sym same))

    departure_at : (roots : Roots) → before ≡ Some roots → IsNextEntry key roots e after → AreHonestRoots n es (Some roots) → 0 < n
        → after.catalog ≢ catalog_of (after_work stored e.batch.commands) → DepartsAt es n stored
    departure_at roots is leads honest later other =
        let v : ℕ = n - 1 in
        let number : v + 1 ≡ n = omega (arith, later) in
        let trees : stored ≡ trees_at v es = turn.trees ∙ ap (λ (k : ℕ). honest_trees (batches_of (take k es))) (sym number) ∙ honest_trees_at v es empty in
        record {
          entry = e;
          there = turn.there;
          later = later;
          trees = trees;
          after = after;
          next = subst (λ (r : Roots). NextOf r e.batch.commands e.proofs (Ok after)) (honest v number ∙ ap (honest_roots v) (sym trees)) leads.next;
          departs = other;
        }

    later : (roots : Roots) → AreOwnedTo key (take n es) roots → 0 < n
    later roots owned_so = not_at_first n es roots owned_so

    departed : (o : Option Roots) → before ≡ o → IsBehind key (take n es) o → LeadsTo key o e after → AreHonestRoots n es o
        → after.catalog ≢ catalog_of (after_work stored e.batch.commands) → DepartsAt es n stored
    departed None is behind leads honest other = absurd (no_departure_at_first leads behind other)
    departed (Some roots) is behind leads honest other = departure_at roots is leads honest (later roots behind) other

    departed_first : AreHonestBelow key n es → after.catalog ≢ catalog_of (after_work stored e.batch.commands) → IsFirstDeparture key es n
    departed_first below other = record {
      within = turn.within;
      before = below;
      catalog = after.catalog;
      behind = catalog_is after.catalog refl;
      departs = λ same. other (same ∙ ap catalog_of (sym trees_now));
    }

    -- One entry more.
    pub departs_next : (d now : Option Departure) → DepartsNext d n stored after.catalog (after_work stored e.batch.commands) now → DepartsSoFar es n before d
        → DepartsSoFar es (n + 1) (Some after) now
    departs_next (Some d) now same so = subst (λ (x : Option Departure). DepartsSoFar es (n + 1) (Some after) x) (sym same) so
    departs_next None None same so = honest_so_far so.0 (honest_now same)
    departs_next None (Some d) other so =
        let at : DepartsAt es n stored = departed before refl turn.behind turn.leads so.1 other.2 in (
          subst (IsFirstDeparture key es) (sym other.0) (departed_first so.0 other.2),
          subst (λ (k : ℕ). DepartsAt es k d.tables) (sym other.0) (subst (DepartsAt es n) (sym other.1) at),
        )
