-- What every store keeps, call by call.
use Rattle.std.proofs.Common.{◌≡◌, ℕ, ◌+◌, ◌-◌, ◌<◌, ◌≤◌, ◌^◌, List, [], ◌∷◌, ◌++◌, Option, Some, None, Result, Ok, length, take, refl, sym, ap, subst, ◌∙◌, arith}
use Rattle.std.specs.Prelude.{IsSome}
use Rattle.std.specs.List.{AllByRecursion}
use Rattle.std.specs.Result.{result_unwrap_or}
use Rattle.std.proofs.lemmas.List.{length-append}
use Rattle.vo_spec.specs.declared.tables.Command.{Command}
use Rattle.vo_spec.specs.declared.records.Record.{Record}
use Rattle.vo_spec.specs.Batches.{FitsBatch}
use Rattle.vo_spec.specs.Journals.{max_signature}
use Rattle.vo_spec.specs.Records.{FitsRecord, magic_of}
use Rattle.vo_spec.specs.Owners.{IsSigned}
use Rattle.vo_spec.specs.Honest.{Stored, after_work, catalog_of, honest_record, honest_trees, work_all}
use Rattle.vo_laws.proofs.ListLaws.{each_both}
use Rattle.vo_laws.proofs.StepLaws.{trees_follow}
use Rattle.vo_laws.proofs.StoredFits.{record_fits}
use Rattle.vo_store.specs.declared.kept_version.KeptVersion.{KeptVersion}
use Rattle.vo_store.specs.declared.signed_record.SignedRecord.{SignedRecord}
use Rattle.vo_store.specs.StoreState.{StoreState, earlier_behind, oldest_of, new_store, with_installed, with_pending}
use Rattle.vo_store.specs.HonestStores.{AreHonest, AreKept, FollowBy, IsAnswering, IsHonestAfter, IsHonestStore, IsInstalled, IsKeptOf, IsPending, IsRecordOf}
use Rattle.vo_store.specs.Calls.{kept_at, next_version}
use Rattle.vo_store.proofs.KeptLaws.{first_batches_fit, kept_is, kept_more, none_kept}
use Rattle.vo_store.proofs.SignatureLaws.{key_long, signed_short, version_below}

-- Stores that have installed nothing.

pub new_honest : (key : List ℕ) → IsHonestAfter [] (new_store key)
unfolding honest_trees
new_honest key = record { fit = tt; tables = refl; installed = refl; earlier = none_kept key; pending = refl }

pub trees_honest : (s : StoreState) → IsHonestStore s → AreHonest s.tables
trees_honest s h = (h.0, h.1.fit, h.1.tables)

-- What is installed.

pub record_fits_bytes : (key : List ℕ) (batches : List (List Command)) (installed : SignedRecord) → IsRecordOf key batches installed → FitsRecord installed.rec
unfolding honest_record
record_fits_bytes key batches installed is =
    let few = version_below key installed.rec installed.signature is.signed in
    let version : installed.rec.version ≡ length batches = ap (λ (x : Record). x.version) is.record_is in
    let long = key_long key installed.rec installed.signature is.signed in
    subst FitsRecord (sym is.record_is) (record_fits key (length batches) (honest_trees batches) (omega (arith, long)) (omega (arith, version, few)))

-- a record that is kept begins as the catalog of its trees says
pub kept_magic : (key : List ℕ) (batches : List (List Command)) (kept : KeptVersion) → IsKeptOf key batches kept → kept.signed.rec.magic ≡ magic_of (catalog_of kept.tables)
unfolding honest_record
kept_magic key batches kept is = ap (λ (x : Record). x.magic) is.signed.record_is ∙ sym (ap (λ ss. magic_of (catalog_of ss)) is.tables)

-- by a version that is kept a query can be answered
pub kept_answers : (key : List ℕ) (batches : List (List Command)) (kept : KeptVersion) → AllByRecursion FitsBatch batches → IsKeptOf key batches kept → IsAnswering kept
kept_answers key batches kept fit is = record {
  signed = record_fits_bytes key batches kept.signed is.signed;
  short = signed_short key kept.signed.rec kept.signed.signature is.signed.signed;
  honest = (batches, fit, is.tables);
  magic = kept_magic key batches kept is;
}

module _ (s : StoreState) (honest : IsHonestStore s) where
  record_of : (o : Option SignedRecord) (installed : SignedRecord) → o ≡ Some installed → IsInstalled s.key honest.0 o → IsRecordOf s.key honest.0 installed
  record_of None installed e is = absurd (cc)
  record_of (Some other) installed e is = let same : other ≡ installed = cc in subst (IsRecordOf s.key honest.0) same is

  pub installed_short : (installed : SignedRecord) → s.installed ≡ Some installed → length installed.signature ≤ max_signature
  installed_short installed e =
      let is = record_of s.installed installed e honest.1.installed in
      signed_short s.key installed.rec installed.signature is.signed

  pub installed_magic : (installed : SignedRecord) → s.installed ≡ Some installed → installed.rec.magic ≡ magic_of (catalog_of s.tables)
  installed_magic installed e =
      kept_magic s.key honest.0 (record { signed = installed; tables = s.tables })
      (record { signed = record_of s.installed installed e honest.1.installed; tables = honest.1.tables })

  pub installed_fits : (installed : SignedRecord) → s.installed ≡ Some installed → FitsRecord installed.rec
  installed_fits installed e = record_fits_bytes s.key honest.0 installed (record_of s.installed installed e honest.1.installed)

  -- the version at a place, from the oldest to the newest
  pub answers_at : (installed : SignedRecord) → s.installed ≡ Some installed → (version : ℕ) → oldest_of installed.rec.version ≤ version → version ≤ installed.rec.version
      → IsAnswering (kept_at s.earlier installed s.tables (version - oldest_of installed.rec.version))
  answers_at installed there version above below =
      kept_answers s.key (take version honest.0) (kept_at s.earlier installed s.tables (version - oldest_of installed.rec.version)) (first_batches_fit version honest.0 honest.1.fit)
      (kept_is honest.0 s honest.1 installed there version above below)

  pub next_below : next_version s.installed < 2 ^ 64
  next_below = step s.installed honest.1.installed
    where
      step : (o : Option SignedRecord) → IsInstalled s.key honest.0 o → next_version o < 2 ^ 64
      step None is = omega arith
      step (Some installed) is = omega (arith, version_below s.key installed.rec installed.signature is.signed)

-- The trees after a batch that is accepted.
pub follow_batch : (batches : List (List Command)) (batch : List Command) (tables after : List Stored) → tables ≡ honest_trees batches → work_all batch tables ≡ Ok after
    → after ≡ honest_trees (batches ++ batch ∷ [])
follow_batch batches batch tables after e w =
    sym (ap (λ (r : Result (List Stored) _). result_unwrap_or r tables) w) ∙ ap (λ ss. after_work ss batch) e ∙ sym (trees_follow batches batch)

-- A version that is proposed keeps what is installed.

module _ (s : StoreState) (batches : List (List Command)) (h : IsHonestAfter batches s) where
  pub proposed_honest : IsSome s.installed → (after : List Stored) → FollowBy s.tables after → IsHonestAfter batches (with_pending after s)
  proposed_honest there after follow = record { fit = h.fit; tables = h.tables; installed = h.installed; earlier = h.earlier; pending = pending s.installed there }
    where
      pending : (o : Option SignedRecord) → IsSome o → IsPending o s.tables (Some after)
      pending None t = absurd (cc)
      pending (Some installed) t = follow

  -- The batches behind an install: none where version 0 is installed, and else one more.

  abbrev Behind : List Stored → SignedRecord → Type 0
  Behind after installed = (later : List (List Command)) × IsHonestAfter later (with_installed installed after s)

  module _ (installed : SignedRecord) (after : List Stored) (signed : IsSigned s.key installed.rec installed.signature) where
    pub at_first : s.installed ≡ None → s.pending ≡ Some after → installed.rec ≡ honest_record s.key (next_version s.installed) after → IsHonestAfter [] (with_installed installed after s)
    unfolding honest_trees
    at_first none pending due =
        let started : IsPending None s.tables s.pending = subst (λ o. IsPending o s.tables s.pending) none h.pending in
        let nothing : after ≡ [] = let both : Some after ≡ Some [] = sym pending ∙ started in cc in
        record {
          fit = tt;
          tables = nothing;
          installed = record { record_is = due ∙ ap (λ o. honest_record s.key (next_version o) after) none ∙ ap (honest_record s.key 0) nothing; signed = signed };
          earlier = subst (λ o. AreKept s.key [] (earlier_behind o s.tables s.earlier)) (sym none)
              (subst (λ (bs : List (List Command)). AreKept s.key bs s.earlier) (subst (IsInstalled s.key batches) none h.installed) h.earlier);
          pending = tt;
        }

    pub one_more : (before : SignedRecord) (batch : List Command) → s.installed ≡ Some before → FitsBatch batch → work_all batch s.tables ≡ Ok after
        → installed.rec ≡ honest_record s.key (next_version s.installed) after → IsHonestAfter (batches ++ batch ∷ []) (with_installed installed after s)
    unfolding honest_record
    one_more before batch is fits w due =
        let here : IsRecordOf s.key batches before = subst (IsInstalled s.key batches) is h.installed in
        let version : next_version s.installed ≡ length (batches ++ batch ∷ []) =
        ap next_version is ∙ ap (λ (r : Record). r.version + 1) here.record_is ∙ omega (arith, length-append batches (batch ∷ [])) in
        let trees = follow_batch batches batch s.tables after h.tables w in
        record {
          fit = each_both FitsBatch batches (batch ∷ []) h.fit (fits, tt);
          tables = trees;
          installed = record {
            record_is = due ∙ ap (λ (n : ℕ). honest_record s.key n after) version ∙ ap (honest_record s.key (length (batches ++ batch ∷ []))) trees;
            signed = signed;
          };
          earlier = subst (λ o. AreKept s.key (batches ++ batch ∷ []) (earlier_behind o s.tables s.earlier)) (sym is)
              (kept_more s.key batches batch s.earlier (record { signed = before; tables = s.tables }) h.earlier (record { signed = here; tables = h.tables }));
          pending = tt;
        }

    pub behind : s.pending ≡ Some after → installed.rec ≡ honest_record s.key (next_version s.installed) after → Behind after installed
    behind pending due = step s.installed refl
      where
        step : (o : Option SignedRecord) → s.installed ≡ o → Behind after installed
        step None is = ([], at_first is pending due)
        step (Some before) is =
            let follow : FollowBy s.tables after = subst (IsPending (Some before) s.tables) pending (subst (λ o. IsPending o s.tables s.pending) is h.pending) in
            (batches ++ follow.0 ∷ [], one_more before follow.0 is follow.1 follow.2 due)

pub installed_honest : (s : StoreState) → IsHonestStore s → (installed : SignedRecord) (after : List Stored) → IsSigned s.key installed.rec installed.signature
    → s.pending ≡ Some after → installed.rec ≡ honest_record s.key (next_version s.installed) after → IsHonestStore (with_installed installed after s)
installed_honest s h installed after signed pending due = behind s h.0 h.1 installed after signed pending due
