-- The versions that a store keeps, once another is installed.
use Rattle.std.proofs.Common.{◌≡◌, ℕ, zero, suc, ◌+◌, ◌-◌, ◌<◌, ◌≤◌, List, [], ◌∷◌, ◌++◌, Some, None, length, take, drop, refl, sym, ap, subst, ◌∙◌, inl, inr, arith}
use Rattle.std.specs.Prelude.{slice_get, get_or}
use Rattle.std.specs.Option.{unwrap_or}
use Rattle.std.specs.List.{AllByRecursion}
use Rattle.std.proofs.lemmas.Bool.Decides.{eqb_tells}
use Rattle.std.proofs.lemmas.List.{drop-append-le, drop-drop, length-append, length-drop, take-append-drop, take-append-le, take_all, take_at}
use Rattle.std.proofs.lemmas.Option.{get_or_from_slice_get, slice_get_cases, slice_get_past, slice_get_within, unwrap_or-slice_get}
use Rattle.vo_spec.specs.declared.tables.Command.{Command}
use Rattle.vo_spec.specs.declared.records.Record.{Record}
use Rattle.vo_spec.specs.Batches.{FitsBatch}
use Rattle.vo_spec.specs.Honest.{honest_record}
use Rattle.vo_laws.proofs.ListLaws.{each_left}
use Rattle.vo_store.specs.declared.kept_version.KeptVersion.{KeptVersion}
use Rattle.vo_store.specs.declared.signed_record.SignedRecord.{SignedRecord}
use Rattle.vo_store.specs.StoreState.{StoreState, latest, max_earlier, oldest_of}
use Rattle.vo_store.specs.HonestStores.{AreKept, IsHonestAfter, IsInstalled, IsKeptOf, IsRecordOf}
use Rattle.vo_store.specs.Calls.{kept_at}

-- Lists.

slice_drop : (n : ℕ) (xs : List KeptVersion) (i : ℕ) → slice_get (drop n xs) i ≡ slice_get xs (n + i)
slice_drop zero xs i = ap (slice_get xs) (let e : i ≡ 0 + i = omega arith in e)
slice_drop (suc n) [] i = refl
slice_drop (suc n) (x ∷ xs) i = slice_drop n xs i ∙ ap (slice_get (x ∷ xs)) (let e : suc (n + i) ≡ suc n + i = omega arith in e)

slice_front : (xs : List KeptVersion) (x : KeptVersion) (i : ℕ) → i < length xs → slice_get (xs ++ x ∷ []) i ≡ slice_get xs i
slice_front [] x i lt = absurd (omega (arith, lt))
slice_front (y ∷ xs) x zero lt = refl
slice_front (y ∷ xs) x (suc i) lt = slice_front xs x i (omega (arith, lt))

slice_end : (xs : List KeptVersion) (x : KeptVersion) → slice_get (xs ++ x ∷ []) (length xs) ≡ Some x
slice_end [] x = refl
slice_end (y ∷ xs) x = slice_end xs x

get_past : (xs : List KeptVersion) (i : ℕ) (d : KeptVersion) → slice_get xs i ≡ None → get_or xs i d ≡ d
get_past xs i d e = sym (unwrap_or-slice_get xs i d) ∙ ap (λ o. unwrap_or o d) e

-- to keep the last of what is kept, and another, is to keep the last of all
pub latest_more : (xs : List KeptVersion) (x : KeptVersion) → latest (latest xs ++ x ∷ []) ≡ latest (xs ++ x ∷ [])
latest_more xs x =
    let d : ℕ = length xs - max_earlier in
    let whole : List KeptVersion = xs ++ x ∷ [] in
    let same : drop d xs ++ x ∷ [] ≡ drop d whole = sym (drop-append-le d xs (x ∷ []) (omega arith)) in
    let long : d + (length (drop d whole) - max_earlier) ≡ length whole - max_earlier = omega (arith, length-drop d whole, length-append xs (x ∷ [])) in
    ap latest same ∙ drop-drop (length (drop d whole) - max_earlier) d whole ∙ ap (λ (n : ℕ). drop n whole) long

pub first_batches_fit : (n : ℕ) (batches : List (List Command)) → AllByRecursion FitsBatch batches → AllByRecursion FitsBatch (take n batches)
first_batches_fit n batches fit = each_left FitsBatch (take n batches) (drop n batches) (subst (AllByRecursion FitsBatch) (sym (take-append-drop n batches)) fit)

-- One version more.

pub none_kept : (key : List ℕ) → AreKept key [] []
none_kept key = record { count = refl; each = λ place kept found. absurd (cc) }

module _ (key : List ℕ) (batches : List (List Command)) (batch : List Command) (earlier : List KeptVersion) (last : KeptVersion)
    (h : AreKept key batches earlier) (is : IsKeptOf key batches last) where
  abbrev more : List (List Command)
  more = batches ++ batch ∷ []

  abbrev versions : List KeptVersion
  versions = earlier ++ last ∷ []

  abbrev dropped_count : ℕ
  dropped_count = length versions - max_earlier

  longer : length more ≡ length batches + 1
  longer = omega (arith, length-append batches (batch ∷ []))

  one_more : length versions ≡ length earlier + 1
  one_more = omega (arith, length-append earlier (last ∷ []))

  kept_behind : (place : ℕ) (kept : KeptVersion) → slice_get versions (dropped_count + place) ≡ Some kept → IsKeptOf key (take (oldest_of (length more) + place) more) kept
  kept_behind place kept found =
      elim (eqb_tells (dropped_count + place) (length earlier)) [
        | inl t ↦
            let newest : last ≡ kept = let both : Some last ≡ Some kept = sym (slice_end earlier last) ∙ ap (slice_get versions) (sym t.1) ∙ found in cc in
            let number : oldest_of (length more) + place ≡ length batches = omega (arith, h.count, longer, one_more, t.1) in
            let all : take (oldest_of (length more) + place) more ≡ batches = ap (λ (n : ℕ). take n more) number ∙ take_at batches (batch ∷ []) (length batches) refl in
            subst (λ (bs : List (List Command)). IsKeptOf key bs kept) (sym all) (subst (IsKeptOf key batches) newest is)
        | inr t ↦
            let within : dropped_count + place < length versions = slice_get_within versions (dropped_count + place) kept found in
            let below : dropped_count + place < length earlier = omega (arith, within, one_more, t.1) in
            let number : oldest_of (length more) + place ≡ oldest_of (length batches) + (dropped_count + place) = omega (arith, h.count, longer, one_more, below) in
            let few : oldest_of (length batches) + (dropped_count + place) ≤ length batches = omega (arith, h.count, below) in
            let first : take (oldest_of (length more) + place) more ≡ take (oldest_of (length batches) + (dropped_count + place)) batches =
            ap (λ (n : ℕ). take n more) number ∙ take-append-le (oldest_of (length batches) + (dropped_count + place)) batches (batch ∷ []) few in
            subst (λ (bs : List (List Command)). IsKeptOf key bs kept) (sym first) (h.each (dropped_count + place) kept (sym (slice_front earlier last (dropped_count + place) below) ∙ found))
      ]

  pub kept_more : AreKept key more (latest versions)
  kept_more = record {
    count = omega (arith, length-drop dropped_count versions, h.count, longer, one_more);
    each = λ place kept found. kept_behind place kept (sym (slice_drop dropped_count versions place) ∙ found);
  }

-- What is kept.

module _ (batches : List (List Command)) (s : StoreState) (h : IsHonestAfter batches s) where
  module _ (installed : SignedRecord) (there : s.installed ≡ Some installed) where
    pub is_installed : IsRecordOf s.key batches installed
    is_installed = subst (IsInstalled s.key batches) there h.installed

    pub version_is : installed.rec.version ≡ length batches
    unfolding honest_record
    version_is = ap (λ (x : Record). x.version) is_installed.record_is

    -- the version at a place, from the oldest to the newest
    pub kept_is : (version : ℕ) → oldest_of installed.rec.version ≤ version → version ≤ installed.rec.version
        → IsKeptOf s.key (take version batches) (kept_at s.earlier installed s.tables (version - oldest_of installed.rec.version))
    kept_is version above below =
        let place : ℕ = version - oldest_of installed.rec.version in
        let last : KeptVersion = record { signed = installed; tables = s.tables } in
        elim (slice_get_cases s.earlier place).1 [
          | inl t ↦
              let number : oldest_of (length batches) + place ≡ version = omega (arith, version_is, above) in
              let got : get_or s.earlier place last ≡ t.0 = get_or_from_slice_get s.earlier place t.0 last t.2 in
              subst (IsKeptOf s.key (take version batches)) (sym got) (subst (λ (n : ℕ). IsKeptOf s.key (take n batches) t.0) number (h.earlier.each place t.0 t.2))
          | inr t ↦
              let all : length batches ≤ version = omega (arith, version_is, above, below, h.earlier.count, t.0) in
              let got : get_or s.earlier place last ≡ last = get_past s.earlier place last t.1 in
              subst (IsKeptOf s.key (take version batches)) (sym got)
              (subst (λ (bs : List (List Command)). IsKeptOf s.key bs last) (sym (take_all version batches all)) (record { signed = is_installed; tables = h.tables }))
        ]

    -- behind the earlier ones comes the newest
    pub newest_at : kept_at s.earlier installed s.tables (installed.rec.version - oldest_of installed.rec.version) ≡ record { signed = installed; tables = s.tables }
    newest_at =
        let place : ℕ = installed.rec.version - oldest_of installed.rec.version in
        get_past s.earlier place (record { signed = installed; tables = s.tables }) (slice_get_past s.earlier place (omega (arith, version_is, h.earlier.count)))
