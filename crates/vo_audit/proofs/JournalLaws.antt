-- An owner's journal, read with the honest tables of a version.
use Rattle.std.proofs.Common.{◌≡◌, ◌≢◌, ℕ, zero, suc, ◌-◌, ◌<◌, add-one, List, [], ◌∷◌, length, drop, take, Option, Some, None, Result, Ok, Err, option_map, refl, sym, ap, ◌∙◌, subst}
use Rattle.std.specs.Prelude.{IfOk, IfSome, IsSome, slice_get}
use Rattle.std.specs.Result.{result_unwrap_or}
use Rattle.std.specs.List.{AllByRecursion}
use Rattle.vo_spec.specs.declared.tables.CommandFault.{CommandFault}
use Rattle.vo_spec.specs.declared.records.Catalog.{Catalog}
use Rattle.vo_spec.specs.declared.records.Record.{Record}
use Rattle.vo_spec.specs.declared.records.Entry.{Entry}
use Rattle.vo_spec.specs.Records.{catalog_digest}
use Rattle.vo_spec.specs.Journals.{FitsEntry, Holds, IsJournal, batches_of, tables_at}
use Rattle.vo_spec.specs.Honest.{Stored, RepresentTables, catalog_of, work_all}
use Rattle.vo_laws.specs.FittingTables.{FitTables}
use Rattle.vo_laws.proofs.EntryLaws.{fit_at}
use Rattle.vo_laws.proofs.RepresentationLaws.{stands}
use Rattle.stored_tables.specs.Representation.{IsStanding}
use Rattle.owner_roots.specs.declared.roots.Roots.{Roots}
use Rattle.owner_roots.specs.Owners.{AreNextEntries, AreOwnedTo, IsOwned, IsSignedFor, first_roots, record_of_roots}
use Rattle.owner_state.specs.declared.departures.Departure.{Departure}
use Rattle.owner_state.specs.declared.journals.OwnedJournal.{OwnedJournal}
use Rattle.owner_state.specs.Departing.{AreHonestBelow, Departs, DepartsAt, HasCatalog, trees_at}
use Rattle.root_laws.proofs.Representation.{honest_standing}
use Rattle.vo_audit.specs.Auditing.{IsBefore, IsDepartureIn, IsReadAt}
use Rattle.vo_audit.proofs.VerdictLaws.{held_within}

entries_fit : (bytes : List ℕ) (es : List Entry) → IsJournal bytes es → AllByRecursion FitsEntry es
entries_fit bytes [] journal = tt
entries_fit bytes (e ∷ es) journal = journal.0

-- Records that are held.

signed_after : (key : List ℕ) (before : Roots) (es : List Entry) (behind : Roots) (v : ℕ) (e : Entry) → AreNextEntries key before (take (suc v) es) behind
    → slice_get es v ≡ Some e → IsSignedFor key behind e
signed_after key before [] behind v e all found = absurd (cc)
signed_after key before (f ∷ es) behind zero e all found =
    let same : f ≡ e = cc in
    subst (IsSignedFor key behind) same (subst (λ (r : Roots). IsSignedFor key r f) all.2 all.1.signed)
signed_after key before (f ∷ es) behind (suc v) e all found = signed_after key all.0 es behind v e all.2 found

-- the entry before the roots behind so many entries has their record
signed_at : (key : List ℕ) (es : List Entry) (behind : Roots) (v : ℕ) (e : Entry) → AreOwnedTo key (take (suc v) es) behind → slice_get es v ≡ Some e
    → IsSignedFor key behind e
unfolding AreOwnedTo
signed_at key [] behind v e owned found = absurd (cc)
signed_at key (f ∷ es) behind zero e owned found =
    let same : f ≡ e = cc in
    subst (IsSignedFor key behind) same (subst (λ (r : Roots). IsSignedFor key r f) owned.1 owned.0.signed)
signed_at key (f ∷ es) behind (suc v) e owned found = signed_after key first_roots es behind v e owned.1 found

catalog_at : (key : List ℕ) (es : List Entry) (v : ℕ) (c : Catalog) (e : Entry) → HasCatalog key es v c → slice_get es v ≡ Some e → e.rec.catalog ≡ catalog_digest c
unfolding record_of_roots
catalog_at key es v c e has found =
    let signed = signed_at key es has.behind v e (subst (λ (k : ℕ). AreOwnedTo key (take k es) has.behind) (add-one v) has.owned) found in
    ap (λ (r : Record). r.catalog) signed.record_is ∙ ap catalog_digest has.same

held_honest : (key : List ℕ) (n : ℕ) (es : List Entry) (rec : Record) → AreHonestBelow key n es → rec.version < n → Holds es rec
    → rec.catalog ≡ catalog_digest (catalog_of (trees_at rec.version es))
unfolding Holds
held_honest key n es rec honest below holds = step (slice_get es rec.version) refl holds
  where
    step : (o : Option Entry) → slice_get es rec.version ≡ o → option_map (λ (e : Entry). e.rec) o ≡ Some rec → rec.catalog ≡ catalog_digest (catalog_of (trees_at rec.version es))
    step None e f = absurd (cc)
    step (Some entry) e f =
        let same : entry.rec ≡ rec = cc in
        ap (λ (r : Record). r.catalog) (sym same) ∙ catalog_at key es rec.version (catalog_of (trees_at rec.version es)) entry (honest rec.version below) e

held_below : (es : List Entry) (rec : Record) → Holds es rec → rec.version < length es
held_below = held_within

signed_before : (key : List ℕ) (es : List Entry) (departure : Option Departure) (rec : Record) → Departs key es departure → Holds es rec → IsBefore rec.version departure
    → rec.catalog ≡ catalog_digest (catalog_of (trees_at rec.version es))
signed_before key es None rec departs holds before = held_honest key (length es) es rec departs (held_below es rec holds) holds
signed_before key es (Some d) rec departs holds before = held_honest key d.index es rec departs.0.before before holds

-- The entry of a departure.

entry_fits : (es : List Entry) (i : ℕ) (e : Entry) → AllByRecursion FitsEntry es → slice_get es i ≡ Some e → FitsEntry e
entry_fits [] i e fit there = absurd (cc)
entry_fits (x ∷ es) zero e fit there = let same : x ≡ e = cc in subst FitsEntry same fit.0
entry_fits (x ∷ es) (suc i) e fit there = entry_fits es i e fit.1 there

-- other roots than those of the trees after a batch, which leaves them where it is refused
differs : (c : Catalog) (before : List Stored) (w : Result (List Stored) CommandFault) → c ≢ catalog_of (result_unwrap_or w before) → IfOk w (λ honest. c ≡ catalog_of honest → ⊥)
differs c before (Ok honest) other = other
differs c before (Err why) other = tt

departed_in : (es : List Entry) (d : Departure) → AllByRecursion FitsEntry es → DepartsAt es d.index d.tables → IsDepartureIn es d
departed_in es d fit at = record {
  entry = at.entry;
  there = at.there;
  trees = at.trees;
  standing = subst IsStanding (sym at.trees) (honest_standing (batches_of (take (d.index - 1) (drop 1 es))) (fit_at (d.index - 1) es fit));
  fits = (entry_fits es d.index at.entry fit at.there).batch;
  departure = record {
    version = d.index - 1;
    after = at.after;
    followed = at.next;
    departs = differs at.after.catalog d.tables (work_all at.entry.batch.commands d.tables) at.departs;
  };
}

departed : (key : List ℕ) (es : List Entry) (departure : Option Departure) → AllByRecursion FitsEntry es → Departs key es departure → IfSome departure (IsDepartureIn es)
departed key es None fit departs = tt
departed key es (Some d) fit departs = departed_in es d fit departs.1

stand_at : (version : ℕ) (es : List Entry) → AllByRecursion FitsEntry es → RepresentTables (trees_at version es) (tables_at version es) × FitTables (tables_at version es)
unfolding tables_at
stand_at version es fit = stands (batches_of (take version (drop 1 es))) (fit_at version es fit)

pub read_at : (key bytes : List ℕ) (version : ℕ) (owned : OwnedJournal) → IsOwned key bytes owned.entries
    → IfSome owned.tables (λ tables. tables ≡ trees_at version owned.entries) → (version < length owned.entries → IsSome owned.tables)
    → Departs key owned.entries owned.departure → IsReadAt version owned
unfolding IsOwned
read_at key bytes version owned is tables there departs =
    let fit = entries_fit bytes owned.entries is.0 in
    let at = stand_at version owned.entries fit in
    record {
      some = is.2;
      signed = λ rec holds before. signed_before key owned.entries owned.departure rec departs holds before;
      departed = departed key owned.entries owned.departure fit departs;
      stand = at.0;
      fit = at.1;
      tables = tables;
      there = there;
    }
