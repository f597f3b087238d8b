-- Batches that an owner commits to an honest store that stands where it does.
use Rattle.std.proofs.Common.{◌≡◌, ℕ, ◌+◌, ◌<◌, ◌≤◌, List, [], ◌∷◌, ◌++◌, drop, length, Result, Ok, Err, append-nil, append_assoc, refl, sym, ap, ◌∙◌, subst, inl, inr, arith}
use Rattle.std.specs.Prelude.{IsOk, IsSome}
use Rattle.batch_format.proofs.ReaderLaws.{some_is}
use Rattle.std.proofs.lemmas.List.{drop-map, length-append, map-append}
use Rattle.outside.specs.Outputs.{Output}
use Rattle.vo_spec.specs.declared.records.Entry.{Entry}
use Rattle.vo_spec.specs.declared.tables.Batch.{Batch}
use Rattle.vo_spec.specs.declared.tables.Command.{Command}
use Rattle.vo_spec.specs.declared.tables.Table.{Table}
use Rattle.vo_spec.specs.Batches.{FitsBatch}
use Rattle.vo_spec.specs.Honest.{Stored, after_work, honest_proofs, honest_trees, sealed_entry}
use Rattle.vo_spec.specs.Journals.{FitsEntry, batches_of}
use Rattle.vo_spec.specs.Owners.{AreLoadable, IsLoadableEntry}
use Rattle.vo_spec.specs.Replies.{proofs_bytes}
use Rattle.vo_spec.specs.Secret.{Secret, public_of_secret, secret_leaves}
use Rattle.vo_spec.specs.Tables.{apply_batch, tables_after}
use Rattle.vo_laws.proofs.EntryLaws.{taken_grows}
use Rattle.vo_laws.proofs.SealedLaws.{sealed_entry_is_loadable}
use Rattle.vo_laws.proofs.StepLaws.{no_tables_before, trees_follow}
use Rattle.owner_roots.specs.declared.owner_fault.OwnerFault.{OwnerFault}
use Rattle.owner_roots.specs.declared.owner_fault.OwnerFault.TheVariants as owner
use Rattle.owner_roots.specs.declared.roots.Roots.{Roots}
use Rattle.owner_roots.specs.Next.{NextOf}
use Rattle.owner_roots.specs.Owners.{honest_roots}
use Rattle.owner_state.specs.Held.{Held}
use Rattle.owner_state.specs.Sealing.{FitEach, commands_of}
use Rattle.owner_state.specs.Stepping.{AreStepsTo, IsStepTo, signed_entry, step_to}
use Rattle.owner_state.proofs.JournalLaws.{all_more}
use Rattle.owner_state.proofs.OwnerSteps.{step_made}
use Rattle.owner_state.proofs.ReplayLaws.{step_more}
use Rattle.link_frames.specs.Scripts.{Does, behind, others}
use Rattle.vo_store.specs.StoreState.{StoreState}
use Rattle.owner_session.specs.declared.refusals.RefusalCause.TheVariants.{Command as CommandCause}
use Rattle.owner_session.specs.Endings.{Ending, Done, version_line}
use Rattle.owner_session.specs.Runs.{entries_of, state_after}
use Rattle.owner_session.specs.SessionWork.{Judgement, Makes, Refuses, Steps, Appends, Says, batch_commit, commit, commits, ends_with, publication, step, with_first_judgement, with_judgement}
use Rattle.vo_commands.specs.Committing.{IsJudgement, entry_forms, held_behind}
use Rattle.vo_commands.specs.Lines.{command_output, spent_key}
use Rattle.honest_peers.specs.Owning.{ComeTo, EndsPlainly, IsOwnerAfter, IsStoreAfter, refused_with}
use Rattle.honest_peers.proofs.CatchingUp.{IsAt, proofs_short, takes_next}
use Rattle.honest_peers.proofs.Requests.{installs_entry, proposes_batch, proposes_in_vain}
use Rattle.honest_peers.proofs.Sealing.{IsGood, judged, refused_short, sealed_good, sealed_parts}
use Rattle.workload_run.proofs.Sealing.{made_entry, sealable_more}
use Rattle.workload_run.proofs.StoreSteps.{IsProposed, IsRefused, StoreLaws, propose}
use Rattle.honest_peers.proofs.Trading.{Deeds, OwnInput, OwnWork, Runs, input_with}

-- The owner makes the first of what it is said to make.
stepped : (Q : Deeds → Type 0) (s later : StoreState) (ending : Ending) (held : Held)
    (batch : Batch) (proofs : List ℕ) (input : OwnInput) (go : Held → OwnInput → OwnWork)
    → Runs s input.coming later ending (step entry_forms held batch proofs input go)
    → ((judgement : Judgement Held Entry) (rest : OwnInput)
    → IsJudgement held batch proofs judgement → Runs s rest.coming later ending
    (with_judgement entry_forms judgement rest go)
    → Q (Steps held batch proofs judgement ∷ others
    (with_judgement entry_forms judgement rest go).events))
    → Q (others (step entry_forms held batch proofs input go).events)
unfolding step
stepped Q s later ending held batch proofs input go runs goes = by_list input.judgements runs
  where
    by_list : (js : List (Judgement Held Entry)) → Runs s input.coming later ending
        (with_first_judgement entry_forms held batch proofs input.coming js go)
        → Q (others (with_first_judgement entry_forms held batch proofs input.coming js go).events)
    by_list [] r = let none = r.value in absurd (cc)
    by_list (judgement ∷ left) r =
        goes judgement (record { coming = input.coming; judgements = left }) r.judged.0
        (record { answered = r.answered; judged = r.judged.1; value = r.value })

some_entries : (es : List Entry) (batches : List (List Command)) → batches_of es ≡ [] ∷ batches
    → 0 < length es
some_entries [] batches e = absurd (cc)
some_entries (f ∷ es) batches e = omega arith

module _ (secret : Secret) (laws : StoreLaws) (later : StoreState) (ending : Ending) where
  abbrev leaves : ℕ
  leaves = secret_leaves secret

  -- The owner refuses the batch, and the session ends.
  refuses : (batches : List (List Command)) (held : Held) (es : List Entry) (batch : Batch)
      (new : List Batch) (proofs : List ℕ) (t : StoreState) (judgement : Judgement Held Entry)
      (rest : OwnInput) (go : Held → OwnInput → OwnWork) (output : Output)
      → judgement ≡ Refuses CommandCause output.bytes → IsOwnerAfter secret batches held es
      → IsAt secret batches t
      → (ending ≡ refused_with output → ComeTo leaves batches (commands_of (batch ∷ new)) ending
      batches)
      → Runs t rest.coming later ending (with_judgement entry_forms judgement rest go)
      → EndsPlainly secret batches held es (batch ∷ new)
      (Steps held batch proofs judgement ∷ others
      (with_judgement entry_forms judgement rest go).events) ending later
  refuses batches held es batch new proofs t judgement rest go output is own at comes runs =
      subst (λ (j : Judgement Held Entry). EndsPlainly secret batches held es (batch ∷ new)
      (Steps held batch proofs j ∷ others (with_judgement entry_forms j rest go).events) ending
      later) (sym is)
      (ended (subst
      (λ (j : Judgement Held Entry). Runs t rest.coming later ending
      (with_judgement entry_forms j rest go)) is runs))
    where
      ended : Runs t rest.coming later ending (ends_with (refused_with output))
          → EndsPlainly secret batches held es (batch ∷ new)
          (Steps held batch proofs (Refuses CommandCause output.bytes) ∷ []) ending later
      ended r =
          let value = r.value in
          let same : ending ≡ refused_with output = cc in
          let stays : later ≡ t = r.answered in
          record {
            behind = batches;
            comes = comes same;
            owner = subst (λ (xs : List Entry). IsOwnerAfter secret batches held xs)
                (sym (append-nil es)) own;
            store = subst (λ (u : StoreState). IsStoreAfter secret batches u) (sym stays) at.after;
            installed = subst (λ (u : StoreState). IsSome u.installed) (sym stays) at.there;
          }

  module _ (batches : List (List Command)) (held : Held) (es : List Entry) (s : StoreState)
      (batch : Batch) (new : List Batch) (go : Held → OwnInput → OwnWork)
      (own : IsOwnerAfter secret batches held es) (at : IsAt secret batches s)
      (fits : FitsBatch batch.commands) where
    abbrev more : List (List Command)
    more = batches ++ batch.commands ∷ []

    abbrev proofs : List ℕ
    proofs = proofs_bytes (honest_proofs batch.commands s.tables)

    abbrev Q : Deeds → Type 0
    Q deeds = EndsPlainly secret batches held es (batch ∷ new) deeds ending later

    -- what the rest of the batches comes to
    abbrev IsLater : Type 0
    IsLater = (next : Held) (entries : List Entry) (t : StoreState) (rest : OwnInput)
        → IsOwnerAfter secret more next entries → IsAt secret more t
        → Runs t rest.coming later ending (go next rest) → EndsPlainly secret more next entries new
        (others (go next rest).events) ending later

    version_is : held.roots.version ≡ length batches
    version_is = ap (λ (r : Roots). r.version) own.roots

    leaves_are : secret_leaves held.key ≡ leaves
    leaves_are = ap (λ (k : Secret). secret_leaves k) own.key_is

    spent_comes : secret_leaves held.key ≤ held.roots.version + 1 → ending ≡ refused_with spent_key
        → ComeTo leaves batches (commands_of (batch ∷ new)) ending batches
    spent_comes spent is = inl (omega (arith, spent, version_is, leaves_are), is, refl)

    left_is : held.roots.version + 1 < secret_leaves held.key → length batches + 1 < leaves
    left_is left = omega (arith, left, version_is, leaves_are)

    -- roots of the owner by those of the store's tables
    at_roots : (r : Result Roots OwnerFault) → NextOf (honest_roots (length batches) s.tables)
        batch.commands proofs r → NextOf held.roots batch.commands proofs r
    at_roots r next =
        subst (λ (roots : Roots). NextOf roots batch.commands proofs r)
        (ap (honest_roots (length batches)) at.after.honest.tables ∙ sym own.roots) next

    abbrev next_roots_are : Roots
    next_roots_are = honest_roots (length batches + 1) (honest_trees more)

    abbrev entry : Entry
    entry = signed_entry held.key next_roots_are batch.commands proofs

    abbrev behind_batch : Held
    behind_batch = held_behind held (record { entry = entry; roots = next_roots_are })

    -- where the store proposes the batch
    module _ (p : IsProposed s batch.commands) where
      at_pending : IsAt secret batches p.pending
      at_pending = record {
        after = record {
          key_is = p.key_is ∙ at.after.key_is;
          honest =
              (laws.proposed batches batch.commands s p.pending proofs at.after.honest fits
              p.made).0;
        };
        there = subst (λ (o : _). IsSome o) (sym p.installed_is) at.there;
      }

      accepted : IsOk (apply_batch batch.commands (tables_after batches))
      accepted =
          (laws.proposed batches batch.commands s p.pending proofs at.after.honest fits p.made).1

      leads : NextOf held.roots batch.commands proofs (Ok next_roots_are)
      leads =
          let trees : after_work s.tables batch.commands ≡ honest_trees more =
          ap (λ (ss : List Stored). after_work ss batch.commands) at.after.honest.tables
          ∙ sym (trees_follow batches batch.commands) in
          subst (λ (ss : List Stored). NextOf held.roots batch.commands proofs
          (Ok (honest_roots (length batches + 1) ss))) trees
          (at_roots (Ok (honest_roots (length batches + 1) (after_work s.tables batch.commands)))
          (laws.leads batches batch.commands (length batches) s p.pending proofs at.after.honest
          fits p.made))

      entry_is : entry ≡ sealed_entry secret ([] ∷ batches) batch.commands
      entry_is = ap (λ (k : Secret). signed_entry k next_roots_are batch.commands proofs) own.key_is
          ∙ made_entry secret batches batch.commands s.tables at.after.honest.tables

      -- the entry is the owner's step
      stepped_to : length batches + 1 < leaves → IsStepTo secret held.roots entry next_roots_are
      unfolding signed_entry
      stepped_to left =
          let step_is : record { entry = entry; roots = next_roots_are } ≡ step_to secret
          batch.commands proofs next_roots_are =
          ap (λ (k : Secret). step_to k batch.commands proofs next_roots_are) own.key_is in
          step_made secret held.roots batch.commands proofs next_roots_are
          (record { entry = entry; roots = next_roots_are }) (omega (arith, left, version_is))
          leads step_is

      -- the owner behind the batch
      owner_behind : length batches + 1 < leaves → IsOwnerAfter secret more behind_batch
          (es ++ entry ∷ [])
      unfolding AreStepsTo
      owner_behind left =
          let sealable = sealable_more secret batches batch.commands own.sealable fits accepted
          left in
          let good : IsGood secret (sealed_entry secret ([] ∷ batches) batch.commands) =
          sealed_good secret batches batch.commands sealable in
          let some : 0 < length es = some_entries es batches own.batches_are in
          let here : IsOk (apply_batch batch.commands (tables_after ([] ∷ batches))) =
          subst (λ (ts : List Table). IsOk (apply_batch batch.commands ts))
          (sym (no_tables_before batches)) accepted in
          let loadable : IsLoadableEntry (public_of_secret secret) ([] ∷ batches_of (drop 1 es))
          (sealed_entry secret ([] ∷ batches) batch.commands) =
          subst (λ (bs : List (List Command)). IsLoadableEntry (public_of_secret secret) ([] ∷ bs)
          (sealed_entry secret ([] ∷ batches) batch.commands))
          (sym (sym (drop-map (λ (e : Entry). e.batch.commands) 1 es)
          ∙ ap (λ (bs : List (List Command)). drop 1 bs) own.batches_are))
          (sealed_entry_is_loadable secret ([] ∷ batches) batch.commands here good.signed) in
          let entries : es ++ entry ∷ [] ≡ es ++ sealed_entry secret ([] ∷ batches) batch.commands
          ∷ [] = ap (λ (e : Entry). es ++ e ∷ []) entry_is in
          record {
            key_is = own.key_is;
            sealable = sealable;
            batches_are = map-append (λ (e : Entry). e.batch.commands) es (entry ∷ [])
                ∙ ap (λ (bs : List (List Command)). bs ++ entry.batch.commands ∷ []) own.batches_are
                ∙ ap (λ (cs : List Command). [] ∷ batches ++ cs ∷ [])
                (ap (λ (e : Entry). e.batch.commands) entry_is
                ∙ (sealed_parts secret batches batch.commands).0);
            fit = all_more es entry own.fit (subst FitsEntry (sym entry_is) good.fits);
            steps = step_more secret es held.roots entry next_roots_are some own.steps
                (stepped_to left);
            plain = subst (AreLoadable (public_of_secret secret)) (sym entries)
                ((taken_grows (public_of_secret secret) es
                (sealed_entry secret ([] ∷ batches) batch.commands) some).1
                (own.plain, loadable));
            roots = ap (λ (n : ℕ). honest_roots n (honest_trees more))
                (sym (length-append batches (batch.commands ∷ [])));
          }

      -- the batch is committed, and the rest follows
      committed : (line : List ℕ) (deeds : Deeds) → length batches + 1 < leaves
          → EndsPlainly secret more behind_batch (es ++ entry ∷ []) new deeds ending later
          → Q (Steps held batch proofs (Makes entry behind_batch) ∷ Appends entry behind_batch
          ∷ Says line ∷ deeds)
      committed line deeds left ends = record {
        behind = ends.behind;
        comes = inr (inr (left, accepted, ends.comes));
        owner = subst (λ (xs : List Entry). IsOwnerAfter secret ends.behind
            (state_after behind_batch deeds) xs) (append_assoc es (entry ∷ []) (entries_of deeds))
            ends.owner;
        store = ends.store;
        installed = ends.installed;
      }

      makes : (rest : OwnInput) → length batches + 1 < leaves → IsLater
          → Runs p.pending rest.coming later ending
          (with_judgement entry_forms (Makes entry behind_batch) rest go)
          → Q (Steps held batch proofs (Makes entry behind_batch) ∷ others
          (with_judgement entry_forms (Makes entry behind_batch) rest go).events)
      unfolding commit publication
      makes rest left is_later runs =
          let own_now = owner_behind left in
          let good : IsGood secret entry = subst (IsGood secret) (sym entry_is)
          (sealed_good secret batches batch.commands own_now.sealable) in
          let parts = sealed_parts secret batches batch.commands in
          let commands : entry.batch.commands ≡ batch.commands =
          ap (λ (e : Entry). e.batch.commands) entry_is ∙ parts.0 in
          let taken = takes_next secret laws batches batch.commands s entry p at good.fits commands
          (ap (λ (e : Entry). e.rec) entry_is ∙ parts.1) good.signed in
          let line : List ℕ = version_line entry.rec.version in
          installs_entry
          (λ deeds. Q
          (Steps held batch proofs (Makes entry behind_batch) ∷ Appends entry behind_batch
          ∷ deeds)) p.pending later ending rest entry
          (λ last. behind (Does (Says line) ∷ []) (go behind_batch last)) taken.next good.fits
          taken.made
          (record { answered = runs.answered; judged = runs.judged; value = runs.value })
          (λ last t. committed line (others (go behind_batch (input_with last rest)).events) left
          (is_later behind_batch (es ++ entry ∷ []) taken.next (input_with last rest) own_now
          taken.at (record { answered = t.answered; judged = t.judged; value = t.value })))

      stepped_on : (rest : OwnInput) (judgement : Judgement Held Entry) → IsLater
          → IsJudgement held batch proofs judgement
          → Runs p.pending rest.coming later ending (with_judgement entry_forms judgement rest go)
          → Q (Steps held batch proofs judgement ∷ others
          (with_judgement entry_forms judgement rest go).events)
      stepped_on rest judgement is_later made runs =
          elim (judged held batch proofs judgement (Ok next_roots_are) leads made) [
            | inl spent ↦ refuses batches held es batch new proofs p.pending judgement rest go
                spent_key spent.1 own at_pending (spent_comes spent.0) runs
            | inr on ↦
                let made_is : Makes entry behind_batch ≡ judgement = some_is _ _ on.1 in
                subst (λ (j : Judgement Held Entry). Q
                (Steps held batch proofs j ∷ others
                (with_judgement entry_forms j rest go).events)) made_is
                (makes rest (left_is on.0) is_later
                (subst (λ (j : Judgement Held Entry). Runs p.pending rest.coming later ending
                (with_judgement entry_forms j rest go)) (sym made_is) runs))
          ]

    -- where it refuses it
    module _ (f : IsRefused s batch.commands) where
      refused_roots : NextOf held.roots batch.commands proofs (Err (owner.Command f.index f.why))
      refused_roots =
          at_roots (Err (owner.Command f.index f.why))
          (laws.both_refuse batches batch.commands (length batches) s f.index f.why proofs
          at.after.honest fits f.made)

      refused_on : (rest : OwnInput) (judgement : Judgement Held Entry)
          → IsJudgement held batch proofs judgement
          → Runs s rest.coming later ending (with_judgement entry_forms judgement rest go)
          → Q (Steps held batch proofs judgement ∷ others
          (with_judgement entry_forms judgement rest go).events)
      refused_on rest judgement made runs =
          elim (judged held batch proofs judgement (Err (owner.Command f.index f.why)) refused_roots
          made) [
            | inl spent ↦ refuses batches held es batch new proofs s judgement rest go spent_key
                spent.1 own at (spent_comes spent.0) runs
            | inr on ↦
                refuses batches held es batch new proofs s judgement rest go
                (command_output f.index f.why) (sym (some_is _ _ on.1)) own at
                (λ same. inr
                (inl (
                  left_is on.0,
                  (
                    f.index,
                    f.why,
                    laws.refused batches batch.commands s f.index f.why proofs
                        at.after.honest fits f.made,
                    same,
                  ),
                  refl,
                ))) runs
          ]

    abbrev rest_of : List ℕ → OwnInput → OwnWork
    rest_of bytes rest = step entry_forms held batch bytes rest go

    commit_ends : (input : OwnInput) → IsLater → Runs s input.coming later ending
        (batch_commit entry_forms held batch input go)
        → Q (others (batch_commit entry_forms held batch input go).events)
    unfolding batch_commit
    commit_ends input is_later runs =
        elim (propose s batch.commands at.there) [
          | inl p ↦
              proposes_batch Q s later ending input batch rest_of proofs p.pending fits
              (proofs_short secret laws batches batch.commands s p at.after.honest fits) p.made
              runs
              (λ rest r. stepped Q p.pending later ending held batch proofs (input_with rest input)
              go r (λ judgement last made now. stepped_on p last judgement is_later made now))
          | inr f ↦
              proposes_in_vain Q s later ending input batch rest_of proofs f.index f.why fits
              (refused_short held.roots batch.commands proofs f.index f.why (refused_roots f))
              f.made runs
              (λ rest r. stepped Q s later ending held batch proofs (input_with rest input) go r
              (λ judgement last made now. refused_on f last judgement made now))
        ]

  pub commits_end : (new : List Batch) (batches : List (List Command)) (held : Held)
      (es : List Entry) (s : StoreState) (input : OwnInput) → IsOwnerAfter secret batches held es
      → IsAt secret batches s → FitEach new → Runs s input.coming later ending
      (commits entry_forms held new input (λ rest. ends_with Done))
      → EndsPlainly secret batches held es new
      (others (commits entry_forms held new input (λ rest. ends_with Done)).events) ending later
  unfolding commits
  commits_end [] batches held es s input own at fit runs =
      let value = runs.value in
      let same : ending ≡ Done = cc in
      let stays : later ≡ s = runs.answered in
      record {
        behind = batches;
        comes = (same, refl);
        owner = subst (λ (xs : List Entry). IsOwnerAfter secret batches held xs)
            (sym (append-nil es)) own;
        store = subst (λ (u : StoreState). IsStoreAfter secret batches u) (sym stays) at.after;
        installed = subst (λ (u : StoreState). IsSome u.installed) (sym stays) at.there;
      }
  commits_end (batch ∷ new) batches held es s input own at fit runs =
      commit_ends batches held es s batch new
      (λ next rest. commits entry_forms next new rest (λ last. ends_with Done)) own at fit.0
      input
      (λ next entries t rest own_now at_now now. commits_end new (batches ++ batch.commands ∷ [])
      next entries t rest own_now at_now fit.1 now) runs
