-- A store that takes entries by its calls stands behind those that a store takes, and refuses the
-- first that isn't one.
use Rattle.std.proofs.Common.{◌≡◌, ℕ, zero, suc, ◌+◌, ◌-◌, ◌<◌, ◌≤◌, Bool, false, cond, List, [], ◌∷◌, ◌++◌, Option, Some, None, Result, Ok, Err, length, take, drop, refl, sym, ap, subst, ◌∙◌, append_assoc, append-nil, arith}
use Rattle.std.specs.Prelude.{◌==◌, is_none, option_map, slice_get, IsOk}
use Rattle.std.specs.Result.{result_unwrap_or}
use Rattle.std.specs.List.{AllByRecursion}
use Rattle.std.proofs.lemmas.Bool.Decides.{nat_tests}
use Rattle.std.proofs.lemmas.List.{length-append, map-append, take_at}
use Rattle.vo_spec.specs.declared.tables.Command.{Command}
use Rattle.vo_spec.specs.declared.tables.CommandFault.{CommandFault}
use Rattle.vo_spec.specs.declared.records.Record.{Record}
use Rattle.vo_spec.specs.declared.records.Entry.{Entry}
use Rattle.vo_spec.specs.Firsts.{and_then}
use Rattle.vo_spec.specs.Journals.{FitsEntry, batches_of}
use Rattle.vo_spec.specs.Owners.{AreLoadable}
use Rattle.vo_spec.specs.Honest.{Stored, after_work, honest_proofs, honest_record, honest_trees, work_all}
use Rattle.vo_spec.specs.Replies.{proofs_bytes}
use Rattle.vo_laws.proofs.ListLaws.{each_both}
use Rattle.vo_laws.proofs.EntryLaws.{entry_held, taken_first, taken_front}
use Rattle.stored_tables.specs.Working.{work_from}
use Rattle.owner_state.specs.EntriesOnTrees.{IsLoadableOn, IsRecorded}
use Rattle.owner_state.specs.Walking.{StopsAt}
use Rattle.owner_state.proofs.EntrySteps.{taken_at_first, taken_behind}
use Rattle.owner_state.proofs.WorkTurns.{work_done, work_left, work_refused, work_accepted}
use Rattle.vo_store.specs.declared.fault.StoreFault.{StoreFault}
use Rattle.vo_store.specs.declared.fault.StoreFault.TheVariants as fault
use Rattle.vo_store.specs.declared.kept_version.KeptVersion.{KeptVersion}
use Rattle.vo_store.specs.declared.signed_record.SignedRecord.{SignedRecord}
use Rattle.vo_store.specs.StoreState.{StoreState, earlier_behind, latest, new_store, with_installed, with_pending}
use Rattle.vo_store.specs.HonestStores.{IsHonestAfter, IsHonestStore}
use Rattle.vo_store.specs.Calls.{install_of, next_version, proposal_of, with_proofs}
use Rattle.vo_store.specs.Loading.{kept_behind, kept_each, last_signed, load_entries, pending_behind, refused_at, signed_of, store_behind, taken_as, taken_from, taken_later}
use Rattle.vo_store.proofs.InstallLaws.{install_good, installs}
use Rattle.vo_store.proofs.KeptLaws.{latest_more}
use Rattle.vo_store.proofs.HonestLaws.{at_first, new_honest, one_more}

-- An entry's record, signed.

abbrev signed_with : Record → List ℕ → SignedRecord
signed_with rec signature = record { rec = rec; signature = signature }

pub signed_parts : (signed : SignedRecord) (rec : Record) (signature : List ℕ) (e : Entry) → signed ≡ signed_with rec signature → rec ≡ e.rec → signature ≡ e.signature → signed ≡ signed_of e
signed_parts signed rec signature e is rec_is signature_is = is ∙ ap (λ (x : Record). signed_with x signature) rec_is ∙ ap (signed_with e.rec) signature_is

-- The last entry.

slice_last : (front : List Entry) (e : Entry) → slice_get (front ++ e ∷ []) (length front) ≡ Some e
slice_last [] e = refl
slice_last (f ∷ front) e = slice_last front e

last_one : (front : List Entry) (e : Entry) → last_signed (front ++ e ∷ []) ≡ Some (signed_of e)
last_one front e =
    let n : length (front ++ e ∷ []) - 1 ≡ length front = omega (arith, length-append front (e ∷ [])) in
    ap (λ (i : ℕ). option_map signed_of (slice_get (front ++ e ∷ []) i)) n ∙ ap (option_map signed_of) (slice_last front e)

pub last_there : (f : Entry) (front : List Entry) → (e : Entry) × (slice_get (f ∷ front) (length front) ≡ Some e)
last_there f [] = (f, refl)
last_there f (g ∷ front) = last_there g front

pub last_signed_is : (f : Entry) (front : List Entry) → last_signed (f ∷ front) ≡ Some (signed_of (last_there f front).0)
last_signed_is f front =
    let n : length (f ∷ front) - 1 ≡ length front = omega arith in
    ap (λ (i : ℕ). option_map signed_of (slice_get (f ∷ front) i)) n ∙ ap (option_map signed_of) (last_there f front).1

-- Of a loadable journal, the version behind the last is as many as there are.
next_is : (key : List ℕ) (f : Entry) (front : List Entry) → AreLoadable key (f ∷ front) → next_version (last_signed (f ∷ front)) ≡ length (f ∷ front)
unfolding honest_record
next_is key f front loadable =
    let last = last_there f front in
    let held = entry_held key (f ∷ front) (length front) last.0 loadable last.1 in
    ap next_version (last_signed_is f front) ∙ ap (λ (r : Record). r.version + 1) held.record_is ∙ omega arith

-- A later entry.

module _ (s : StoreState) (before : SignedRecord) (there : s.installed ≡ Some before) (e : Entry) where
  abbrev batch : List Command
  batch = e.batch.commands

  abbrev proofs : List ℕ
  proofs = proofs_bytes (honest_proofs batch s.tables)

  abbrev proposal_by : Option SignedRecord → Result (List Stored) (ℕ × CommandFault) → Result (StoreState × List ℕ) StoreFault
  proposal_by o r = cond (is_none o) (Err fault.Empty) (with_proofs (λ after. with_pending after s) proofs r)

  pub proposal_is : (r : Result (List Stored) (ℕ × CommandFault)) → work_from 0 batch s.tables ≡ r → proposal_of s batch ≡ with_proofs (λ after. with_pending after s) proofs r
  unfolding proposal_of
  proposal_is r w = ap (λ o. proposal_by o (work_from 0 batch s.tables)) there ∙ ap (proposal_by (Some before)) w

  abbrev taken_by : Result (StoreState × List ℕ) StoreFault → Result StoreState StoreFault
  taken_by = and_then (λ (proposal : StoreState × List ℕ). install_of proposal.0 e.rec e.signature)

  abbrev IsOn : Type 0
  IsOn = IsLoadableOn s.key (next_version s.installed) s.tables e

  abbrev behind : StoreState
  behind = with_installed (signed_of e) (after_work s.tables batch) s

  later_taken : IsOn → taken_later s e ≡ Ok behind
  later_taken on = step (work_from 0 batch s.tables) refl
    where
      step : (r : Result (List Stored) (ℕ × CommandFault)) → work_from 0 batch s.tables ≡ r → taken_later s e ≡ Ok behind
      step (Ok after) w =
          let same : after ≡ after_work s.tables batch = work_left batch s.tables after (work_done batch s.tables after w) in
          let due : e.rec ≡ honest_record s.key (next_version s.installed) after = on.recorded.record_is ∙ ap (honest_record s.key (next_version s.installed)) (sym same) in
          ap taken_by (proposal_is (Ok after) w) ∙ install_good (with_pending after s) e.rec e.signature after refl due on.recorded.signed
          ∙ ap (λ ss. Ok (with_installed (signed_of e) ss s)) same
      step (Err why) w = absurd (work_refused batch s.tables why.0 why.1 w on.accepted)

  later_only : (next : StoreState) → taken_later s e ≡ Ok next → IsOn × (next ≡ behind)
  later_only next t = step (work_from 0 batch s.tables) refl
    where
      step : (r : Result (List Stored) (ℕ × CommandFault)) → work_from 0 batch s.tables ≡ r → IsOn × (next ≡ behind)
      step (Ok after) w =
          let done : work_all batch s.tables ≡ Ok after = work_done batch s.tables after w in
          let same : after ≡ after_work s.tables batch = work_left batch s.tables after done in
          let i = installs (with_pending after s) e.rec e.signature next (sym (ap taken_by (proposal_is (Ok after) w)) ∙ t) in
          let these : i.after ≡ after = let both : Some after ≡ Some i.after = i.pending in cc in (
            record {
              accepted = work_accepted batch s.tables after done;
              recorded = record { record_is = i.due ∙ ap (honest_record s.key (next_version s.installed)) (these ∙ same); signed = i.signed };
            },
            i.next_is ∙ ap (λ ss. with_installed (signed_of e) ss s) (these ∙ same),
          )
      step (Err why) w =
          let refused : taken_later s e ≡ Err (fault.Command why.0 why.1 proofs) = ap taken_by (proposal_is (Err why) w) in
          absurd (cc)

-- What is kept once one entry more is taken.

abbrev kept_of : List Entry → Entry → KeptVersion
kept_of front e = record { signed = signed_of e; tables = honest_trees (batches_of (drop 1 (front ++ e ∷ []))) }

each_more : (front es : List Entry) (e : Entry) → kept_each front (es ++ e ∷ []) ≡ kept_each front es ++ kept_of (front ++ es) e ∷ []
each_more front [] e = ap (λ (fs : List Entry). kept_of fs e ∷ []) (sym (append-nil front))
each_more front (f ∷ es) e =
    ap (λ (ks : List KeptVersion). kept_of front f ∷ ks)
    (each_more (front ++ f ∷ []) es e ∙ ap (λ (fs : List Entry). kept_each (front ++ f ∷ []) es ++ kept_of fs e ∷ []) (append_assoc front (f ∷ []) es))

module _ (f : Entry) (front : List Entry) where
  abbrev es_now : List Entry
  es_now = f ∷ front

  abbrev before_last : List Entry
  before_last = take (length es_now - 1) es_now

  abbrev last_now : Entry
  last_now = (last_there f front).0

  parted : es_now ≡ before_last ++ last_now ∷ []
  parted = parts es_now (length es_now - 1) last_now (omega arith) (ap (slice_get es_now) (let n : length es_now - 1 ≡ length front = omega arith in n) ∙ (last_there f front).1)
    where
      parts : (xs : List Entry) (n : ℕ) (x : Entry) → n + 1 ≡ length xs → slice_get xs n ≡ Some x → xs ≡ take n xs ++ x ∷ []
      parts [] n x all found = absurd (cc)
      parts (y ∷ []) zero x all found = let same : y ≡ x = cc in ap (λ z. z ∷ []) same
      parts (y ∷ z ∷ xs) zero x all found = absurd (omega (arith, all))
      parts (y ∷ xs) (suc n) x all found = ap (λ zs. y ∷ zs) (parts xs n x (omega (arith, all)) found)

  earlier_more : (e : Entry) → earlier_behind (last_signed es_now) (honest_trees (batches_of front)) (kept_behind es_now) ≡ kept_behind (es_now ++ e ∷ [])
  earlier_more e =
      let trees : honest_trees (batches_of front) ≡ honest_trees (batches_of (drop 1 (before_last ++ last_now ∷ []))) = ap (λ (fs : List Entry). honest_trees (batches_of (drop 1 fs))) parted in
      let all : kept_each [] before_last ++ kept_of before_last last_now ∷ [] ≡ kept_each [] es_now = sym (each_more [] before_last last_now) ∙ ap (kept_each []) (sym parted) in
      let front_is : take (length (es_now ++ e ∷ []) - 1) (es_now ++ e ∷ []) ≡ es_now =
      take_at es_now (e ∷ []) (length (es_now ++ e ∷ []) - 1) (omega (arith, length-append es_now (e ∷ []))) in
      ap (λ o. earlier_behind o (honest_trees (batches_of front)) (kept_behind es_now)) (last_signed_is f front)
      ∙ ap (λ ss. latest (kept_behind es_now ++ record { signed = signed_of last_now; tables = ss } ∷ [])) trees
      ∙ latest_more (kept_each [] before_last) (kept_of before_last last_now)
      ∙ ap latest (all ∙ ap (kept_each []) (sym front_is))

  -- the store goes on as with an entry more
  pub behind_more : (key : List ℕ) (e : Entry) (after : List Stored) → after ≡ honest_trees (batches_of (drop 1 (es_now ++ e ∷ [])))
      → with_installed (signed_of e) after (store_behind key es_now) ≡ store_behind key (es_now ++ e ∷ [])
  unfolding store_behind
  behind_more key e after trees =
      let abbrev_state : List KeptVersion → Option SignedRecord → List Stored → StoreState = λ ks o ss. record { key = key; earlier = ks; installed = o; tables = ss; pending = None } in
      ap (λ (ks : List KeptVersion). abbrev_state ks (Some (signed_of e)) after) (earlier_more e)
      ∙ ap (λ (o : Option SignedRecord). abbrev_state (kept_behind (es_now ++ e ∷ [])) o after) (sym (last_one es_now e))
      ∙ ap (abbrev_state (kept_behind (es_now ++ e ∷ [])) (last_signed (es_now ++ e ∷ []))) trees

module _ (key : List ℕ) where
  -- what taking one entry more behind these tells
  abbrev TakesNext : List Entry → Entry → Result StoreState StoreFault → Type 0
  TakesNext front e (Ok next) = AreLoadable key (front ++ e ∷ []) × (next ≡ store_behind key (front ++ e ∷ []))
  TakesNext front e (Err why) = AreLoadable key (front ++ e ∷ []) → ⊥

  pub behind_none : store_behind key [] ≡ new_store key
  unfolding store_behind honest_trees
  behind_none = refl

  takes_first : (e : Entry) → TakesNext [] e (install_of (new_store key) e.rec e.signature)
  unfolding store_behind honest_trees
  takes_first e = step (install_of (new_store key) e.rec e.signature) refl
    where
      none : [] ≡ honest_trees (batches_of (drop 1 []))
      none = refl

      step : (r : Result StoreState StoreFault) → install_of (new_store key) e.rec e.signature ≡ r → TakesNext [] e r
      step (Ok next) is =
          let i = installs (new_store key) e.rec e.signature next is in
          let nothing : i.after ≡ [] = let both : Some [] ≡ Some i.after = i.pending in cc in
          let recorded : IsRecorded key 0 [] e = record { record_is = i.due ∙ ap (honest_record key 0) nothing; signed = i.signed } in
          ((taken_at_first key [] [] e (Some []) refl none (recorded, refl)).0, i.next_is ∙ ap (λ ss. with_installed (signed_of e) ss (new_store key)) nothing)
      step (Err why) is =
          taken_at_first key [] [] e None refl none (λ (r : IsRecorded key 0 [] e).
          let taken = install_good (new_store key) e.rec e.signature [] refl r.record_is r.signed in
          absurd (cc))

  abbrev state : List Entry → List KeptVersion → Option SignedRecord → List Stored → StoreState
  state es earlier installed tables = record { key = key; earlier = earlier; installed = installed; tables = tables; pending = pending_behind es }

  takes_later : (f : Entry) (front : List Entry) (e : Entry) → AllByRecursion FitsEntry (f ∷ front) → FitsEntry e → AreLoadable key (f ∷ front)
      → TakesNext (f ∷ front) e (taken_later (store_behind key (f ∷ front)) e)
  unfolding store_behind
  takes_later f front e fit fits loadable = step (taken_later s e) refl
    where
      es : List Entry
      es = f ∷ front

      s : StoreState
      s = state es (kept_behind es) (last_signed es) (honest_trees (batches_of front))

      last : (x : Entry) × (slice_get es (length front) ≡ Some x)
      last = last_there f front

      there : s.installed ≡ Some (signed_of last.0)
      there = last_signed_is f front

      version : next_version s.installed ≡ length es
      version = next_is key f front loadable

      step : (r : Result StoreState StoreFault) → taken_later s e ≡ r → TakesNext es e r
      step (Ok next) is =
          let only = later_only s (signed_of last.0) there e next is in
          let g = taken_behind key es s.tables e (Some (after_work s.tables e.batch.commands)) (omega arith) fit fits loadable refl
          (subst (λ (n : ℕ). IsLoadableOn key n s.tables e) version only.0, refl) in (
            g.0,
            only.1 ∙ behind_more f front key e (after_work s.tables e.batch.commands) g.1,
          )
      step (Err why) is =
          taken_behind key es s.tables e None (omega arith) fit fits loadable refl (λ on.
          let taken = later_taken s (signed_of last.0) there e (subst (λ (n : ℕ). IsLoadableOn key n s.tables e) (sym version) on) in
          absurd (cc))

  later_as : (n : ℕ) (s : StoreState) (e : Entry) → taken_as (suc n) s e ≡ taken_later s e
  later_as n s e =
      let later : (suc n == 0) ≡ false = grind (arith, nat_tests) in
      ap (λ (b : Bool). cond b (install_of s e.rec e.signature) (taken_later s e)) later

  takes_next : (front : List Entry) (e : Entry) → AllByRecursion FitsEntry front → FitsEntry e → AreLoadable key front
      → TakesNext front e (taken_as (length front) (store_behind key front) e)
  takes_next [] e fit fits loadable = subst (λ s. TakesNext [] e (install_of s e.rec e.signature)) (sym behind_none) (takes_first e)
  takes_next (f ∷ front) e fit fits loadable =
      subst (TakesNext (f ∷ front) e) (sym (later_as (length front) (store_behind key (f ∷ front)) e)) (takes_later f front e fit fits loadable)

  -- What taking all of them tells.

  abbrev TakesAll : List Entry → Result StoreState ℕ → Type 0
  TakesAll es (Ok s) = AreLoadable key es × (s ≡ store_behind key es)
  TakesAll es (Err index) = StopsAt (AreLoadable key) es index

  stops : (front : List Entry) (e : Entry) (rest : List Entry) → AreLoadable key front → (AreLoadable key (front ++ e ∷ []) → ⊥) → StopsAt (AreLoadable key) (front ++ e ∷ rest) (length front)
  stops front e rest loadable fails = record {
    within = omega (arith, length-append front (e ∷ rest));
    so_far = subst (AreLoadable key) (sym (take_at front (e ∷ rest) (length front) refl)) loadable;
    not_on = λ more.
        let long : length front + 1 ≡ length (front ++ e ∷ []) = omega (arith, length-append front (e ∷ [])) in
        fails (subst (AreLoadable key)
        (ap (λ (n : ℕ). take n (front ++ e ∷ rest)) long ∙ ap (take (length (front ++ e ∷ []))) (sym (append_assoc front (e ∷ []) rest)) ∙ take_at (front ++ e ∷ []) rest (length (front ++ e ∷ [])) refl) more);
  }

  takes_all : (front rest : List Entry) → AllByRecursion FitsEntry front → AllByRecursion FitsEntry rest → AreLoadable key front
      → TakesAll (front ++ rest) (taken_from (length front) rest (store_behind key front))
  takes_all front [] fit fits loadable = subst (λ es. TakesAll es (Ok (store_behind key front))) (sym (append-nil front)) (loadable, refl)
  takes_all front (e ∷ rest) fit fits loadable =
      step (taken_as (length front) (store_behind key front) e) (takes_next front e fit fits.0 loadable)
      (λ (on : AreLoadable key (front ++ e ∷ [])). takes_all (front ++ e ∷ []) rest (each_both FitsEntry front (e ∷ []) fit (fits.0, tt)) fits.1 on)
    where
      step : (r : Result StoreState StoreFault) → TakesNext front e r
          → (AreLoadable key (front ++ e ∷ []) → TakesAll ((front ++ e ∷ []) ++ rest) (taken_from (length (front ++ e ∷ [])) rest (store_behind key (front ++ e ∷ []))))
          → TakesAll (front ++ e ∷ rest) (and_then (taken_from (length front + 1) rest) (refused_at (length front) r))
      step (Err why) fails more = stops front e rest loadable fails
      step (Ok next) is more =
          let long : length (front ++ e ∷ []) ≡ length front + 1 = omega (arith, length-append front (e ∷ [])) in
          subst (λ es. TakesAll es (taken_from (length front + 1) rest next)) (append_assoc front (e ∷ []) rest)
          (subst (λ s. TakesAll ((front ++ e ∷ []) ++ rest) (taken_from (length front + 1) rest s)) (sym is.1)
          (subst (λ (n : ℕ). TakesAll ((front ++ e ∷ []) ++ rest) (taken_from n rest (store_behind key (front ++ e ∷ [])))) long (more is.0)))

  takes : (es : List Entry) → AllByRecursion FitsEntry es → TakesAll es (load_entries key es)
  unfolding load_entries AreLoadable
  takes es fit = subst (λ s. TakesAll es (taken_from 0 es s)) behind_none (takes_all [] es tt fit tt)

  -- What a call that goes by what a store takes tells of the calls.

  pub loaded_ok : (es : List Entry) → AllByRecursion FitsEntry es → AreLoadable key es → load_entries key es ≡ Ok (store_behind key es)
  loaded_ok es fit loadable = step (load_entries key es) refl (takes es fit)
    where
      step : (r : Result StoreState ℕ) → load_entries key es ≡ r → TakesAll es r → load_entries key es ≡ Ok (store_behind key es)
      step (Ok s) is t = is ∙ ap Ok t.1
      step (Err i) is t = absurd (t.not_on (taken_front key (i + 1) es loadable))

  one_stop : (es : List Entry) (i j : ℕ) → StopsAt (AreLoadable key) es i → StopsAt (AreLoadable key) es j → (i < j) → ⊥
  one_stop es i j s t lt = s.not_on (subst (AreLoadable key) (shorter (i + 1) j es (omega (arith, lt))) (taken_front key (i + 1) (take j es) t.so_far))
    where
      shorter : (m n : ℕ) (xs : List Entry) → m ≤ n → take m (take n xs) ≡ take m xs
      shorter zero n xs le = refl
      shorter (suc m) zero xs le = absurd (omega arith)
      shorter (suc m) (suc n) [] le = refl
      shorter (suc m) (suc n) (x ∷ xs) le = ap (λ ys. x ∷ ys) (shorter m n xs (omega arith))

  pub loaded_err : (es : List Entry) (index : ℕ) → AllByRecursion FitsEntry es → StopsAt (AreLoadable key) es index → load_entries key es ≡ Err index
  loaded_err es index fit stop = step (load_entries key es) refl (takes es fit)
    where
      step : (r : Result StoreState ℕ) → load_entries key es ≡ r → TakesAll es r → load_entries key es ≡ Err index
      step (Ok s) is t = absurd (stop.not_on (taken_front key (index + 1) es t.0))
      step (Err i) is t =
          let above : i < index → ⊥ = one_stop es i index t stop in
          let below : index < i → ⊥ = one_stop es index i stop t in
          let same : i ≡ index = omega (arith, above, below) in
          is ∙ ap Err same

  -- A store behind entries keeps what every store does.

  abbrev IsHonestBehind : List Entry → Type 0
  IsHonestBehind es = IsHonestAfter (batches_of (drop 1 es)) (store_behind key es)

  honest_next : (front : List Entry) (e : Entry) → AllByRecursion FitsEntry front → FitsEntry e → AreLoadable key front → AreLoadable key (front ++ e ∷ [])
      → IsHonestBehind front → IsHonestBehind (front ++ e ∷ [])
  unfolding store_behind honest_trees
  honest_next [] e fit fits loadable more h =
      let t = (taken_first key e).0 more in
      at_first (new_store key) [] (new_honest key) (signed_of e) [] t.1 refl refl t.0
  honest_next (f ∷ front) e fit fits loadable more h = step (taken_later s e) refl (takes_later f front e fit fits loadable)
    where
      es : List Entry
      es = f ∷ front

      s : StoreState
      s = state es (kept_behind es) (last_signed es) (honest_trees (batches_of front))

      last : (x : Entry) × (slice_get es (length front) ≡ Some x)
      last = last_there f front

      ok_left : (r : Result (List Stored) CommandFault) (d : List Stored) → IsOk r → r ≡ Ok (result_unwrap_or r d)
      ok_left (Ok after) d is = refl
      ok_left (Err why) d is = absurd (cc)

      step : (r : Result StoreState StoreFault) → taken_later s e ≡ r → TakesNext es e r → IsHonestBehind (es ++ e ∷ [])
      step (Err why) is t = absurd (t more)
      step (Ok next) is t =
          let only = later_only s (signed_of last.0) (last_signed_is f front) e next is in
          let after : List Stored = after_work s.tables e.batch.commands in
          let honest : IsHonestAfter (batches_of front ++ e.batch.commands ∷ []) (with_installed (signed_of e) after s) =
          one_more s (batches_of front) h (signed_of e) after only.0.recorded.signed (signed_of last.0) e.batch.commands (last_signed_is f front) fits.batch
          (ok_left (work_all e.batch.commands s.tables) s.tables only.0.accepted) only.0.recorded.record_is in
          subst (λ (bs : List (List Command)). IsHonestAfter bs (store_behind key (es ++ e ∷ []))) (sym (map-append (λ (x : Entry). x.batch.commands) front (e ∷ [])))
          (subst (IsHonestAfter (batches_of front ++ e.batch.commands ∷ [])) (sym only.1 ∙ t.1) honest)

  front_taken : (front rest : List Entry) → AreLoadable key (front ++ rest) → AreLoadable key front
  front_taken front rest all = subst (AreLoadable key) (take_at front rest (length front) refl) (taken_front key (length front) (front ++ rest) all)

  honest_on : (front rest : List Entry) → AllByRecursion FitsEntry front → AllByRecursion FitsEntry rest → AreLoadable key (front ++ rest) → IsHonestBehind front
      → IsHonestBehind (front ++ rest)
  honest_on front [] fit fits loadable h = subst IsHonestBehind (sym (append-nil front)) h
  honest_on front (e ∷ rest) fit fits loadable h =
      let on : AreLoadable key ((front ++ e ∷ []) ++ rest) = subst (AreLoadable key) (sym (append_assoc front (e ∷ []) rest)) loadable in
      subst IsHonestBehind (append_assoc front (e ∷ []) rest)
      (honest_on (front ++ e ∷ []) rest (each_both FitsEntry front (e ∷ []) fit (fits.0, tt)) fits.1 on
      (honest_next front e fit fits.0 (front_taken front (e ∷ rest) loadable) (front_taken (front ++ e ∷ []) rest on) h))

  pub behind_after : (es : List Entry) → AllByRecursion FitsEntry es → AreLoadable key es → IsHonestBehind es
  behind_after es fit loadable = honest_on [] es tt fit loadable (subst (IsHonestAfter []) (sym behind_none) (new_honest key))

  pub behind_honest : (es : List Entry) → AllByRecursion FitsEntry es → AreLoadable key es → IsHonestStore (store_behind key es)
  behind_honest es fit loadable = (batches_of (drop 1 es), behind_after es fit loadable)

  -- One entry more.

  pub behind_key : (es : List Entry) → (store_behind key es).key ≡ key
  unfolding store_behind
  behind_key es = refl

  pub behind_tables : (es : List Entry) → (store_behind key es).tables ≡ honest_trees (batches_of (drop 1 es))
  unfolding store_behind
  behind_tables es = refl

  pub entry_behind : (front : List Entry) (e : Entry) (after : List Stored) → after ≡ honest_trees (batches_of (drop 1 (front ++ e ∷ [])))
      → with_installed (signed_of e) after (store_behind key front) ≡ store_behind key (front ++ e ∷ [])
  unfolding store_behind
  entry_behind [] e after trees = ap (state (e ∷ []) [] (Some (signed_of e))) trees
  entry_behind (f ∷ front) e after trees = behind_more f front key e after trees

  pub entry_honest : (front : List Entry) (e : Entry) (after : List Stored) → AllByRecursion FitsEntry front → FitsEntry e → AreLoadable key (front ++ e ∷ [])
      → after ≡ honest_trees (batches_of (drop 1 (front ++ e ∷ []))) → IsHonestStore (with_installed (signed_of e) after (store_behind key front))
  entry_honest front e after fit fits loadable trees =
      subst IsHonestStore (sym (entry_behind front e after trees)) (behind_honest (front ++ e ∷ []) (each_both FitsEntry front (e ∷ []) fit (fits, tt)) loadable)
