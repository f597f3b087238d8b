-- An owner's requests, and an honest store's answers to them.
use Rattle.std.proofs.Common.{◌≡◌, ℕ, ◌+◌, ◌≤◌, Bool, true, List, [], ◌++◌, flat_map, length, Option, Some, Result, Ok, Err, refl, sym, ap, ◌∙◌, subst, arith, le-leb}
use Rattle.std.specs.Prelude.{IsTrue, bytes_eq, option_map, if◌then◌else◌}
use Rattle.std.specs.Option.{option_map_or}
use Rattle.std.proofs.lemmas.Bool.{and_from}
use Rattle.std.proofs.lemmas.List.{length-append}
use Rattle.std.proofs.lemmas.Slice.Eq.{bytes_eq-Decides}
use Rattle.vo_spec.specs.declared.records.Entry.{Entry}
use Rattle.vo_spec.specs.declared.records.Record.{Record}
use Rattle.vo_spec.specs.declared.tables.Batch.{Batch}
use Rattle.vo_spec.specs.declared.tables.Command.{Command}
use Rattle.vo_spec.specs.declared.tables.CommandFault.{CommandFault}
use Rattle.vo_spec.specs.Batches.{FitsBatch, batch_bytes, command_bytes}
use Rattle.vo_spec.specs.Bytes.{block, u16_bytes, u32_bytes, u64_bytes}
use Rattle.vo_spec.specs.Journals.{FitsEntry, max_proofs, max_signature}
use Rattle.vo_spec.specs.Records.{FitsRecord, record_bytes}
use Rattle.row_bytes.proofs.ValueLaws.{u64_length}
use Rattle.batch_format.proofs.BatchLaws.{batch_again}
use Rattle.owner_state.proofs.BlockLaws.{u32_length}
use Rattle.owner_state.proofs.EntryLaws.{record_long}
use Rattle.link_frames.specs.declared.awaits.Awaits.TheVariants as awaits
use Rattle.link_frames.specs.declared.frame_kind.FrameKind.TheVariants as kind
use Rattle.link_frames.specs.Frames.{is_length}
use Rattle.link_frames.specs.Scripts.{others}
use Rattle.store_requests.specs.Bodies.{install_bytes, standing_bytes}
use Rattle.store_requests.proofs.BodyRounds.{install_again}
use Rattle.vo_store.specs.declared.fault.StoreFault.{StoreFault}
use Rattle.vo_store.specs.declared.fault.StoreFault.TheVariants as fault
use Rattle.vo_store.specs.StoreState.{StoreState}
use Rattle.vo_store.specs.Calls.{install_of, proposal_of}
use Rattle.vo_wire.specs.Answering.{KindAndBody, after_install, after_proposal, install_answer, next_after, proofs_answer, proposal_answer, reply_to, standing_of, store_after, version_answer}
use Rattle.owner_session.specs.Endings.{Ending, StandsElsewhere}
use Rattle.owner_session.specs.SessionWork.{ends_with, installation, proposal}
use Rattle.vo_commands.specs.Committing.{entry_forms}
use Rattle.honest_peers.proofs.Trading.{Deeds, OwnInput, OwnWork, Runs, input_with, traded}

-- Lengths.

proposal_long : (commands : List Command) → FitsBatch commands
    → IsTrue (is_length kind.Propose (length (batch_bytes commands)))
unfolding batch_bytes u16_bytes
proposal_long commands fits =
    and_from _ _
    (le-leb 2 (length (batch_bytes commands))
    (omega (
      arith,
      length-append (u16_bytes (length commands))
          (flat_map command_bytes commands),
    )))
    (le-leb (length (batch_bytes commands)) 1048576 fits.size)

install_long : (rec : Record) (signature : List ℕ) → FitsRecord rec
    → length signature ≤ max_signature
    → IsTrue (is_length kind.Install (length (install_bytes rec signature)))
unfolding install_bytes
install_long rec signature fits short =
    let long : length (install_bytes rec signature) ≡ 64 + length signature =
    omega (
      arith,
      length-append (record_bytes rec) (block signature),
      length-append
          (u32_bytes (length signature)) signature,
      u32_length (length signature),
      record_long rec
          fits,
    ) in
    and_from _ _ (le-leb 64 (length (install_bytes rec signature)) (omega (arith, long)))
    (le-leb (length (install_bytes rec signature)) (64 + 65536) (omega (arith, long, short)))

-- Answers.

batch_reply : (s : StoreState) (commands : List Command) → FitsBatch commands
    → reply_to s kind.Propose (batch_bytes commands) ≡ Some (proofs_answer (proposal_of s commands))
unfolding reply_to
batch_reply s commands fits = ap (option_map (proposal_answer s)) (batch_again commands fits)

behind_batch : (s : StoreState) (commands : List Command) → FitsBatch commands
    → next_after s kind.Propose (batch_bytes commands) ≡ store_after
    (λ (p : StoreState × List ℕ). p.0) s (proposal_of s commands)
unfolding next_after
behind_batch s commands fits =
    ap (λ (o : Option (List Command)). option_map_or (after_proposal s) o s)
    (batch_again commands fits)

entry_reply : (s : StoreState) (rec : Record) (signature : List ℕ) → FitsRecord rec
    → length signature ≤ max_signature
    → reply_to s kind.Install (install_bytes rec signature) ≡ Some
    (version_answer rec.version (install_of s rec signature))
unfolding reply_to
entry_reply s rec signature fits short = ap (option_map (install_answer s))
    (install_again rec signature fits short)

behind_entry : (s : StoreState) (rec : Record) (signature : List ℕ) → FitsRecord rec
    → length signature ≤ max_signature
    → next_after s kind.Install (install_bytes rec signature) ≡ store_after
    (λ (next : StoreState). next) s (install_of s rec signature)
unfolding next_after
behind_entry s rec signature fits short =
    ap (λ (o : Option (Record × List ℕ)). option_map_or (after_install s) o s)
    (install_again rec signature fits short)

pub status_reply : (s : StoreState) → reply_to s kind.Status [] ≡ Some
    (kind.Standing, standing_bytes (standing_of s))
unfolding reply_to
status_reply s = refl

pub behind_status : (s : StoreState) → next_after s kind.Status [] ≡ s
unfolding next_after
behind_status s = refl

-- Pieces of a session.

abbrev by_version : OwnInput → (OwnInput → OwnWork) → Bool → List ℕ → OwnWork
by_version input go same rest = if same then go (input_with rest input) else ends_with
    StandsElsewhere

module _ (Q : Deeds → Type 0) (s later : StoreState) (ending : Ending) (input : OwnInput) where
  -- a batch is proposed, and the store goes on to this
  proposes : (batch : Batch) (go : List ℕ → OwnInput → OwnWork) (proofs : List ℕ)
      (next : StoreState) → FitsBatch batch.commands → length proofs ≤ max_proofs
      → proofs_answer (proposal_of s batch.commands) ≡ (kind.Proofs, proofs)
      → store_after (λ (p : StoreState × List ℕ). p.0) s (proposal_of s batch.commands) ≡ next
      → Runs s input.coming later ending (proposal entry_forms batch input go)
      → ((rest : List ℕ) → Runs next rest later ending (go proofs (input_with rest input))
      → Q (others (go proofs (input_with rest input)).events))
      → Q (others (proposal entry_forms batch input go).events)
  unfolding proposal
  proposes batch go proofs next fits short answer after runs goes =
      let reply = batch_reply s batch.commands fits ∙ ap (λ (a : KindAndBody). Some a) answer in
      let on : next_after s kind.Propose (batch_bytes batch.commands) ≡ next =
      behind_batch s batch.commands fits ∙ after in
      traded Q kind.Propose (batch_bytes batch.commands) awaits.Proofs input go s later ending
      (kind.Proofs, proofs) refl (proposal_long batch.commands fits) reply refl
      (le-leb (length proofs) max_proofs short) refl runs
      (λ rest r. goes rest
      (subst (λ (t : StoreState). Runs t rest later ending (go proofs (input_with rest input)))
      on r))

  pub proposes_batch : (batch : Batch) (go : List ℕ → OwnInput → OwnWork) (proofs : List ℕ)
      (pending : StoreState) → FitsBatch batch.commands → length proofs ≤ max_proofs
      → proposal_of s batch.commands ≡ Ok (pending, proofs)
      → Runs s input.coming later ending (proposal entry_forms batch input go)
      → ((rest : List ℕ) → Runs pending rest later ending (go proofs (input_with rest input))
      → Q (others (go proofs (input_with rest input)).events))
      → Q (others (proposal entry_forms batch input go).events)
  proposes_batch batch go proofs pending fits short made = proposes batch go proofs pending fits
      short (ap proofs_answer made) (ap (store_after (λ (p : StoreState × List ℕ). p.0) s) made)

  pub proposes_in_vain : (batch : Batch) (go : List ℕ → OwnInput → OwnWork) (proofs : List ℕ)
      (index : ℕ) (why : CommandFault) → FitsBatch batch.commands → length proofs ≤ max_proofs
      → proposal_of s batch.commands ≡ Err (fault.Command index why proofs)
      → Runs s input.coming later ending (proposal entry_forms batch input go)
      → ((rest : List ℕ) → Runs s rest later ending (go proofs (input_with rest input))
      → Q (others (go proofs (input_with rest input)).events))
      → Q (others (proposal entry_forms batch input go).events)
  proposes_in_vain batch go proofs index why fits short made = proposes batch go proofs s fits short
      (ap proofs_answer made) (ap (store_after (λ (p : StoreState × List ℕ). p.0) s) made)

  -- an entry is installed
  pub installs_entry : (e : Entry) (go : OwnInput → OwnWork) (next : StoreState) → FitsEntry e
      → install_of s e.rec e.signature ≡ Ok next
      → Runs s input.coming later ending (installation entry_forms e input go)
      → ((rest : List ℕ) → Runs next rest later ending (go (input_with rest input))
      → Q (others (go (input_with rest input)).events))
      → Q (others (installation entry_forms e input go).events)
  unfolding installation
  installs_entry e go next fits made runs goes =
      let reply = entry_reply s e.rec e.signature fits.rec fits.signature
      ∙ ap (λ (r : Result StoreState StoreFault). Some (version_answer e.rec.version r)) made in
      let on : next_after s kind.Install (install_bytes e.rec e.signature) ≡ next =
      behind_entry s e.rec e.signature fits.rec fits.signature
      ∙ ap (store_after (λ (t : StoreState). t) s) made in
      let eight : IsTrue (is_length kind.Installed (length (u64_bytes e.rec.version))) =
      subst (λ (n : ℕ). IsTrue (is_length kind.Installed n)) (sym (u64_length e.rec.version))
      refl in
      let same : bytes_eq (u64_bytes e.rec.version) (u64_bytes e.rec.version) ≡ true =
      (bytes_eq-Decides (u64_bytes e.rec.version) (u64_bytes e.rec.version)).1 refl in
      let work_is = λ (rest : List ℕ). ap (λ (b : Bool). by_version input go b rest) same in
      traded Q kind.Install (install_bytes e.rec e.signature) awaits.Installed input
      (λ body rest. if bytes_eq body (u64_bytes e.rec.version) then go rest else ends_with
      StandsElsewhere)
      s later ending (kind.Installed, u64_bytes e.rec.version) refl
      (install_long e.rec e.signature fits.rec fits.signature) reply refl eight refl runs
      (λ rest r. subst (λ (w : OwnWork). Q (others w.events)) (sym (work_is rest))
      (goes rest (subst (λ (w : OwnWork). Runs next rest later ending w) (work_is rest)
      (subst (λ (t : StoreState). Runs t rest later ending
      (by_version input go (bytes_eq (u64_bytes e.rec.version) (u64_bytes e.rec.version)) rest))
      on r))))
