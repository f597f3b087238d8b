-- The replies by the entries of a journal.
use Rattle.std.proofs.Common.{◌≡◌, ℕ, zero, suc, ◌+◌, ◌-◌, ◌<◌, List, [], ◌∷◌, Some, Result, Ok, Err, length, take, drop, refl, sym, ap, subst, ◌∙◌, arith}
use Rattle.std.specs.Prelude.{IfOk, IfSome, Option, option_map, slice_get}
use Rattle.std.specs.Global.{Vec}
use Rattle.std.specs.List.{AllByRecursion}
use Rattle.std.proofs.lemmas.List.{length-take-le, take_all}
use Rattle.std.proofs.lemmas.Option.{slice_get_within}
use Rattle.vo_spec.specs.declared.records.Entry.{Entry}
use Rattle.vo_spec.specs.declared.records.Record.{Record}
use Rattle.vo_spec.specs.Conditions.{Query}
use Rattle.vo_spec.specs.Journals.{FitsEntry, batches_of, last_version}
use Rattle.vo_spec.specs.Owners.{IsLoadable}
use Rattle.vo_spec.specs.Replies.{Reply, reply_bytes}
use Rattle.vo_spec.specs.Honest.{Stored, honest_record, honest_reply, honest_trees, reply_of}
use Rattle.vo_laws.proofs.EntryLaws.{entry_held}
use Rattle.owner_state.specs.Departing.{trees_at}
use Rattle.owner_state.proofs.DepartLaws.{first_trees}
use Rattle.vo_store.specs.declared.fault.ReplyFault.{ReplyFault}
use Rattle.vo_store.specs.declared.fault.ReplyFault.TheVariants as reply
use Rattle.vo_store.specs.Calls.{within_limit}
use Rattle.vo_store.specs.Replying.{HaveMagic, IsKeptIn, IsReplyAt, IsReplyBy, IsTooLarge, IsTooLargeAt, Replies, RepliesAt}
use Rattle.vo_store.proofs.CallLaws.{limit_kept, limit_passed}
use Rattle.vo_store.proofs.ReplyLaws.{journal_fits}

-- The reply by an entry.

slice_take : (es : List Entry) (v : ℕ) (e : Entry) → slice_get es v ≡ Some e → slice_get (take (v + 1) es) v ≡ Some e
slice_take [] v e found = absurd (cc)
slice_take (x ∷ es) zero e found = found
slice_take (x ∷ es) (suc v) e found = ap (λ (n : ℕ). slice_get (take n (x ∷ es)) (suc v)) (let e : suc v + 1 ≡ suc (v + 1) = omega arith in e) ∙ slice_take es v e found

pub reply_is : (q : Query) (es : List Entry) (v : ℕ) (e : Entry) → slice_get es v ≡ Some e → reply_of q (take (v + 1) es) ≡ Some (honest_reply q e.rec e.signature (trees_at v es))
reply_is q es v e found =
    let first : List Entry = take (v + 1) es in
    let within : v < length es = slice_get_within es v e found in
    let last : length first - 1 ≡ v = omega (arith, length-take-le (v + 1) es (omega (arith, within))) in
    let by : Entry → Reply = λ (x : Entry). honest_reply q x.rec x.signature (honest_trees (batches_of (drop 1 first))) in
    ap (λ (i : ℕ). option_map by (slice_get first i)) last ∙ ap (option_map by) (slice_take es v e found) ∙ ap (λ (ss : List Stored). Some (honest_reply q e.rec e.signature ss)) (first_trees v es)

pub found_trees : (es : List Entry) (v : ℕ) (tables : Option (List Stored)) (found : List Stored) → IfSome tables (λ ss. ss ≡ trees_at v es)
    → tables ≡ Some found → found ≡ trees_at v es
found_trees es v tables found is some = subst (λ (o : Option (List Stored)). IfSome o (λ ss. ss ≡ trees_at v es)) some is

-- a call that gives the reply of an entry gives the one of its version
pub by_entry : (q : Query) (es : List Entry) (v : ℕ) (e : Entry) (result : Result (Vec ℕ) ReplyFault) → slice_get es v ≡ Some e
    → Replies result (within_limit (reply_bytes (honest_reply q e.rec e.signature (trees_at v es)))) → (r : Reply) → reply_of q (take (v + 1) es) ≡ Some r
    → Replies result (within_limit (reply_bytes r))
by_entry q es v e result found is r f =
    let same : honest_reply q e.rec e.signature (trees_at v es) ≡ r = let both : Some (honest_reply q e.rec e.signature (trees_at v es)) ≡ Some r = sym (reply_is q es v e found) ∙ f in cc in
    subst (λ (x : Reply). Replies result (within_limit (reply_bytes x))) same is

-- the last entry's is that of all
pub all_of : (q : Query) (es : List Entry) (result : Result (Vec ℕ) ReplyFault) → 0 < length es
    → ((r : Reply) → reply_of q (take (last_version es + 1) es) ≡ Some r → Replies result (within_limit (reply_bytes r))) → (r : Reply) → reply_of q es ≡ Some r
    → Replies result (within_limit (reply_bytes r))
all_of q es result some told r e = told r (ap (reply_of q) (take_all (last_version es + 1) es (omega (arith, some))) ∙ e)

entry_at : (es : List Entry) (v : ℕ) → v < length es → (e : Entry) × (slice_get es v ≡ Some e)
entry_at [] v within = absurd (omega (arith, within))
entry_at (x ∷ es) zero within = (x, refl)
entry_at (x ∷ es) (suc v) within = entry_at es v (omega (arith, within))

has_reply : (q : Query) (es : List Entry) (v : ℕ) → v < length es → (r : Reply) × (reply_of q (take (v + 1) es) ≡ Some r)
has_reply q es v within =
    let e = entry_at es v within in
    (honest_reply q e.0.rec e.0.signature (trees_at v es), reply_is q es v e.0 e.1)

-- a call for a version that is kept
pub at_version : (q : Query) (es : List Entry) (v : ℕ) (result : Result (Vec ℕ) ReplyFault) → 0 < length es → IsKeptIn es v
    → ((r : Reply) → reply_of q (take (v + 1) es) ≡ Some r → Replies result (within_limit (reply_bytes r))) → RepliesAt v q es result
at_version q es v (Err (reply.NoVersion wanted oldest newest)) some kept told = let r = has_reply q es v (omega (arith, some, kept.1)) in absurd (told r.0 r.1)
at_version q es v (Ok bytes) some kept told = (kept, told)
at_version q es v (Err (reply.BadJournal index)) some kept told = (kept, told)
at_version q es v (Err (reply.TooLarge size)) some kept told = (kept, told)
at_version q es v (Err reply.Memory) some kept told = (kept, told)

module _ (key journal : List ℕ) (es : List Entry) (loadable : IsLoadable key journal es) where
  pub entries_fit : AllByRecursion FitsEntry es
  unfolding IsLoadable
  entries_fit = journal_fits journal es loadable.0

  pub entries_magic : HaveMagic es
  unfolding IsLoadable honest_record
  entries_magic version e found = ap (λ (x : Record). x.magic) (entry_held key es version e loadable.1 found).record_is

  pub entries_some : 0 < length es
  unfolding IsLoadable
  entries_some = loadable.2

  module _ (q : Query) where
    -- The reply by the last.

    newest : (r : Reply) × (reply_of q es ≡ Some r)
    newest =
        let r = has_reply q es (last_version es) (omega (arith, entries_some)) in
        (r.0, sym (ap (reply_of q) (take_all (last_version es + 1) es (omega (arith, entries_some)))) ∙ r.1)

    abbrev Tells : Result (Vec ℕ) ReplyFault → Type 0
    Tells result = (r : Reply) → reply_of q es ≡ Some r → Replies result (within_limit (reply_bytes r))

    pub reply_told : (result : Result (Vec ℕ) ReplyFault) → Tells result → IfOk result (λ bytes. IsReplyBy key journal q bytes.items)
    reply_told (Ok bytes) told =
        let w = limit_kept (reply_bytes newest.0) bytes.items (told newest.0 newest.1) in
        ((es, newest.0, loadable, newest.1, w.0), w.1)
    reply_told (Err why) told = tt

    pub large_told : (result : Result (Vec ℕ) ReplyFault) → Tells result → (size : ℕ) → result ≡ Err (reply.TooLarge size) → IsTooLarge key journal q size
    large_told result told size is =
        let w = limit_passed (reply_bytes newest.0) size (subst (λ (x : Result (Vec ℕ) ReplyFault). Replies x (within_limit (reply_bytes newest.0))) is (told newest.0 newest.1)) in
        (reply_bytes newest.0, (es, newest.0, loadable, newest.1, refl), w.0, w.1)

    pub never_bad : (result : Result (Vec ℕ) ReplyFault) → Tells result → (index : ℕ) → result ≡ Err (reply.BadJournal index) → ⊥
    never_bad result told index is = subst (λ (x : Result (Vec ℕ) ReplyFault). Replies x (within_limit (reply_bytes newest.0))) is (told newest.0 newest.1)

    pub always_kept : (result : Result (Vec ℕ) ReplyFault) → Tells result → (version oldest newest : ℕ) → result ≡ Err (reply.NoVersion version oldest newest) → ⊥
    always_kept result told version oldest newest_is is =
        subst (λ (x : Result (Vec ℕ) ReplyFault). Replies x (within_limit (reply_bytes newest.0))) is (told newest.0 newest.1)

    -- The reply by a version.

    module _ (v : ℕ) where
      by_version : IsKeptIn es v → (r : Reply) × (reply_of q (take (v + 1) es) ≡ Some r)
      by_version kept = has_reply q es v (omega (arith, entries_some, kept.1))

      pub reply_told_at : (result : Result (Vec ℕ) ReplyFault) → RepliesAt v q es result → IfOk result (λ bytes. IsReplyAt key journal v q bytes.items)
      reply_told_at (Ok bytes) told =
          let r = by_version told.0 in
          let w = limit_kept (reply_bytes r.0) bytes.items (told.1 r.0 r.1) in
          ((es, r.0, loadable, told.0, r.1, w.0), w.1)
      reply_told_at (Err why) told = tt

      pub large_told_at : (result : Result (Vec ℕ) ReplyFault) → RepliesAt v q es result → (size : ℕ) → result ≡ Err (reply.TooLarge size) → IsTooLargeAt key journal v q size
      large_told_at result told size is =
          let large : RepliesAt v q es (Err (reply.TooLarge size)) = subst (RepliesAt v q es) is told in
          let r = by_version large.0 in
          let w = limit_passed (reply_bytes r.0) size (large.1 r.0 r.1) in
          (reply_bytes r.0, (es, r.0, loadable, large.0, r.1, refl), w.0, w.1)

      pub never_bad_at : (result : Result (Vec ℕ) ReplyFault) → RepliesAt v q es result → (index : ℕ) → result ≡ Err (reply.BadJournal index) → ⊥
      never_bad_at result told index is =
          let bad : RepliesAt v q es (Err (reply.BadJournal index)) = subst (RepliesAt v q es) is told in
          let r = by_version bad.0 in
          bad.1 r.0 r.1
