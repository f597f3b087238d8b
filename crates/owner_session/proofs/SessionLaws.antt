-- How a session ends, by how its work stopped and by what was written last.
use Rattle.std.proofs.Common.{◌≡◌, ℕ, ◌<◌, ◌≤◌, List, [], ◌++◌, Option, Some, Err, refl, sym, ap, ◌∙◌, subst, inl, inr, append-nil, arith}
use Rattle.outside.specs.FaultRose.{FaultRose}
use Rattle.outside.specs.Sink.{append_known}
use Rattle.link_frames.specs.Scripts.{Event, IsDone}
use Rattle.outside.specs.Outputs.{Output, Writes, outside_failure}
use Rattle.owner_session.specs.declared.refusals.RefusalCause.TheVariants as causes
use Rattle.owner_session.specs.declared.stop.SessionStatus.{SessionStatus}
use Rattle.owner_session.specs.declared.stop.SessionStatus.TheVariants as statuses
use Rattle.owner_session.specs.declared.stop.SessionReport.{SessionReport}
use Rattle.owner_session.specs.declared.stop.SessionStop.{SessionStop}
use Rattle.owner_session.specs.declared.stop.SessionStop.TheVariants as stop
use Rattle.owner_session.specs.Endings.{Ending, Done, StoreRefuses, StandsElsewhere, OwnerRefuses, BadAnswer, CutAnswer, Reports, output_of, code_of}
use Rattle.owner_session.specs.SessionWork.{Forms, Judgement, Deed, SessionWork, Input, ends_with, session_on, session}
use Rattle.owner_session.specs.Runs.{Snapshot, HasWritten, Reaches, Fails, Halts, input_of, lines_of, continuation, UnlessDisk}
use Rattle.owner_session.specs.Sessions.{WritesLast, WritesEnding, SessionEnds, SessionRuns, SessionIsDone}

-- Counts that rise.

pub rose_later : (a b c : ℕ) → a ≤ b → FaultRose b c → FaultRose a c
rose_later a b c first rose = λ below. let more : b < c = rose below in omega (arith, first, more)

pub rose_before : (a b c : ℕ) → FaultRose a b → b ≤ c → FaultRose a c
rose_before a b c rose then_more = λ below. let more : a < b = rose (omega (arith, then_more, below)) in omega (arith, then_more, more)

-- what is kept unless the disk failed, at a known stop
pub unless_disk : (why known : SessionStop) (P : Type 0) → why ≡ known → UnlessDisk {T = Unit {0}} (Err why) P
    → UnlessDisk {T = Unit {0}} (Err known) P
unless_disk why known P is h = subst (λ (w : SessionStop). UnlessDisk {T = Unit {0}} (Err w) P) is h

-- Last lines.

writes-rose : (output : Output) (P Q : Type 0) → (P → Q) → (status : ℕ) (before after : Option (List ℕ))
    → Writes output P status before after → Writes output Q status before after
writes-rose output P Q wider status before after (inl h) = inl h
writes-rose output P Q wider status before after (inr (inl h)) = inr (inl (h.0, wider h.1, h.2))
writes-rose output P Q wider status before after (inr (inr h)) = inr (inr h)

-- what was written behind the lines of deeds
last : {S B E : Type 0} (output : Output) (P Q : Type 0) → (P → Q) → (status : ℕ) (deeds : List (Deed S B E)) (a b c : Snapshot S E)
    → HasWritten deeds [] a b → Writes output P status b.written c.written → WritesLast output Q status deeds a c
last output P Q wider status deeds a b c wrote h =
    writes-rose output P Q wider status (append_known a.written (lines_of deeds)) c.written
    (subst (λ (w : Option (List ℕ)). Writes output P status w c.written)
    (wrote ∙ ap (append_known a.written) (append-nil (lines_of deeds))) h)

-- the same moment, but for what is written
abbrev pub on_output : {S E : Type 0} → Option (List ℕ) → Snapshot S E → Snapshot S E
on_output written a = record a { written = written }

session-is : {S B E : Type 0} (forms : Forms B E) (state : S) (entries : List E) (batches : List B) (input : Input S E)
    → session forms state entries batches input ≡ session_on forms state entries batches input (λ (rest : Input S E). ends_with Done)
unfolding session
session-is forms state entries batches input = refl

-- no report is of an ending that has nothing to report
reports_other : {S B E : Type 0} (report : SessionReport) (ending : Ending) (OutRose : Type 0) (status : ℕ) (deeds : List (Deed S B E))
    (a b : Snapshot S E) → Reports report ending → WritesLast (output_of ending) OutRose status deeds a b
    → WritesEnding ending OutRose status deeds a b
reports_other report Done OutRose status deeds a b is h = absurd (never_0 report.status (ap (λ (o : Output). o.status) is))
  where
    never_0 : (s : SessionStatus) → code_of s ≡ 0 → ⊥
    never_0 statuses.Refused none = cc none
    never_0 statuses.RefusedCommand none = cc none
    never_0 statuses.BadAnswer none = cc none
reports_other report (StoreRefuses code) OutRose status deeds a b is h = h
reports_other report StandsElsewhere OutRose status deeds a b is h = h
reports_other report (OwnerRefuses cause lines) OutRose status deeds a b is h = h
reports_other report (BadAnswer length) OutRose status deeds a b is h = h
reports_other report (CutAnswer got) OutRose status deeds a b is h = h

module _ {S B E : Type 0} (IsJudgement : S → B → List ℕ → Judgement S E → Type 0) (forms : Forms B E) (batches : List B)
    (LinkRose DiskRose OutRose Kept : Type 0) (KeptWith : E → Type 0) (a b : Snapshot S E) where
  -- all was done
  pub session_finishes : Reaches IsJudgement (session_on forms a.state a.entries batches) continuation a b → Kept
      → SessionRuns forms IsJudgement batches LinkRose DiskRose OutRose Kept KeptWith 0 a b
  session_finishes f kept =
      let finished : SessionWork S B E = record { events = f.events ++ []; value = Some Done } in
      let is : session forms a.state a.entries batches (input_of a (f.judgements ++ [])) ≡ finished =
      session-is forms a.state a.entries batches (input_of a (f.judgements ++ [])) ∙ f.goes_on [] (λ (rest : Input S E). ends_with Done) in
      record {
        judgements = f.judgements ++ [];
        deeds = f.deeds;
        are_judgements = f.are_judgements;
        leads = f.leads;
        ends = subst (λ (w : SessionWork S B E). SessionEnds w LinkRose DiskRose OutRose Kept KeptWith 0 f.deeds a b) (sym is)
            (inl (
              kept,
              (
                Done,
                refl,
                subst (λ (es : List (Event (Deed S B E))). IsDone es f.deeds a.wire b.wire) (sym (append-nil f.events)) f.done,
                (refl, f.wrote),
              ),
            ));
      }

  -- how it stopped, at the whole session
  halted : (K : E → Type 0) (why : SessionStop) (f : Fails IsJudgement K (session_on forms a.state a.entries batches) why a b)
      → Halts K (session forms a.state a.entries batches (input_of a (f.judgements ++ []))) why f.deeds a b
  halted K why f =
      subst (λ (w : SessionWork S B E). Halts K w why f.deeds a b)
      (sym (session-is forms a.state a.entries batches (input_of a (f.judgements ++ [])))) (f.halts [] (λ (rest : Input S E). ends_with Done))

  runs_to : (K : E → Type 0) (why : SessionStop) (f : Fails IsJudgement K (session_on forms a.state a.entries batches) why a b)
      (status : ℕ) (written : Option (List ℕ))
      → SessionEnds (session forms a.state a.entries batches (input_of a (f.judgements ++ []))) LinkRose DiskRose OutRose Kept KeptWith status f.deeds a (on_output written b)
      → SessionRuns forms IsJudgement batches LinkRose DiskRose OutRose Kept KeptWith status a (on_output written b)
  runs_to K why f status written ends = record {
    judgements = f.judgements ++ [];
    deeds = f.deeds;
    are_judgements = f.are_judgements;
    leads = record { state = f.leads.state; entries = f.leads.entries };
    ends = ends;
  }

  -- it came to an ending, whose report was written
  pub session_refused : (why : SessionStop) (report : SessionReport) (P : Type 0) (status code : ℕ) (bytes : List ℕ) (written : Option (List ℕ))
      → why ≡ stop.Refused report → code ≡ code_of report.status → bytes ≡ report.bytes.items
      → Fails IsJudgement KeptWith (session_on forms a.state a.entries batches) why a b → Kept → (P → OutRose)
      → Writes (record { status = code; bytes = bytes }) P status b.written written
      → SessionRuns forms IsJudgement batches LinkRose DiskRose OutRose Kept KeptWith status a (on_output written b)
  session_refused why report P status code bytes written is is_code are_bytes f kept wider h =
      let f' : Fails IsJudgement KeptWith (session_on forms a.state a.entries batches) (stop.Refused report) a b =
      subst (λ (w : SessionStop). Fails IsJudgement KeptWith (session_on forms a.state a.entries batches) w a b) is f in
      let halt = halted KeptWith (stop.Refused report) f' in
      let output : record { status = code; bytes = bytes } ≡ output_of halt.0.0 =
      ap (λ (c : ℕ). record { status = c; bytes = bytes }) is_code
      ∙ ap (λ (b : List ℕ). record { status = code_of report.status; bytes = b }) are_bytes ∙ halt.0.2 in
      runs_to KeptWith (stop.Refused report) f' status written
      (inl (
        kept,
        (
          halt.0.0,
          halt.0.1,
          halt.1,
          reports_other report halt.0.0 OutRose status f'.deeds a (on_output written b) halt.0.2
              (last (output_of halt.0.0) P OutRose wider status f'.deeds a b (on_output written b) halt.2
              (subst (λ (o : Output). Writes o P status b.written written) output h)),
        ),
      ))

  pub session_link_fault : (why : SessionStop) (P : Type 0) (status : ℕ) (written : Option (List ℕ)) → why ≡ stop.LinkFault
      → Fails IsJudgement KeptWith (session_on forms a.state a.entries batches) why a b → LinkRose → Kept → (P → OutRose)
      → Writes outside_failure P status b.written written
      → SessionRuns forms IsJudgement batches LinkRose DiskRose OutRose Kept KeptWith status a (on_output written b)
  session_link_fault why P status written is f rose kept wider h =
      let f' : Fails IsJudgement KeptWith (session_on forms a.state a.entries batches) stop.LinkFault a b =
      subst (λ (w : SessionStop). Fails IsJudgement KeptWith (session_on forms a.state a.entries batches) w a b) is f in
      let halt = halted KeptWith stop.LinkFault f' in
      runs_to KeptWith stop.LinkFault f' status written
      (inr (inl (rose, kept, (halt.0, last outside_failure P OutRose wider status f'.deeds a b (on_output written b) halt.1 h))))

  pub session_disk_fault : (why : SessionStop) (P : Type 0) (status : ℕ) (written : Option (List ℕ)) → why ≡ stop.DiskFault
      → Fails IsJudgement KeptWith (session_on forms a.state a.entries batches) why a b → DiskRose → (P → OutRose)
      → Writes outside_failure P status b.written written
      → SessionRuns forms IsJudgement batches LinkRose DiskRose OutRose Kept KeptWith status a (on_output written b)
  session_disk_fault why P status written is f rose wider h =
      let f' : Fails IsJudgement KeptWith (session_on forms a.state a.entries batches) stop.DiskFault a b =
      subst (λ (w : SessionStop). Fails IsJudgement KeptWith (session_on forms a.state a.entries batches) w a b) is f in
      let halt = halted KeptWith stop.DiskFault f' in
      runs_to KeptWith stop.DiskFault f' status written
      (inr (inr (inl (rose, halt.2, (halt.0, last outside_failure P OutRose wider status f'.deeds a b (on_output written b) halt.1 h)))))

  pub session_output_fault : (why : SessionStop) → why ≡ stop.OutputFault
      → Fails IsJudgement KeptWith (session_on forms a.state a.entries batches) why a b → OutRose → Kept
      → SessionRuns forms IsJudgement batches LinkRose DiskRose OutRose Kept KeptWith 3 a b
  session_output_fault why is f rose kept =
      let f' : Fails IsJudgement KeptWith (session_on forms a.state a.entries batches) stop.OutputFault a b =
      subst (λ (w : SessionStop). Fails IsJudgement KeptWith (session_on forms a.state a.entries batches) w a b) is f in
      let halt = halted KeptWith stop.OutputFault f' in
      runs_to KeptWith stop.OutputFault f' 3 b.written (inr (inr (inr (inl (rose, kept, (refl, halt.0, halt.1))))))

  pub session_wants : (why : SessionStop) → why ≡ stop.Memory
      → Fails IsJudgement KeptWith (session_on forms a.state a.entries batches) why a b → Kept
      → SessionRuns forms IsJudgement batches LinkRose DiskRose OutRose Kept KeptWith 4 a b
  session_wants why is f kept =
      let f' : Fails IsJudgement KeptWith (session_on forms a.state a.entries batches) stop.Memory a b =
      subst (λ (w : SessionStop). Fails IsJudgement KeptWith (session_on forms a.state a.entries batches) w a b) is f in
      let halt = halted KeptWith stop.Memory f' in
      runs_to KeptWith stop.Memory f' 4 b.written (inr (inr (inr (inr (kept, (refl, halt.0, halt.1))))))

-- Status 0.

no_output_0 : (output : Output) (P : Type 0) (before after : Option (List ℕ)) → (output.status ≡ 0 → ⊥)
    → Writes output P 0 before after → ⊥
no_output_0 output P before after other (inl h) = other (sym h.0)
no_output_0 output P before after other (inr (inl h)) = cc (h.0)
no_output_0 output P before after other (inr (inr h)) = cc (h.0)

-- of the endings with status 0 there is one
done_alone : {S B E : Type 0} (ending : Ending) (P : Type 0) (deeds : List (Deed S B E)) (a b : Snapshot S E)
    → WritesEnding ending P 0 deeds a b → (ending ≡ Done) × HasWritten deeds [] a b
done_alone Done P deeds a b h = (refl, h.1)
done_alone (StoreRefuses code) P deeds a b h =
    absurd (no_output_0 (output_of (StoreRefuses code)) P (append_known a.written (lines_of deeds)) b.written (λ is. cc is) h)
done_alone StandsElsewhere P deeds a b h =
    absurd (no_output_0 (output_of StandsElsewhere) P (append_known a.written (lines_of deeds)) b.written (λ is. cc is) h)
done_alone (OwnerRefuses causes.Proofs lines) P deeds a b h =
    absurd (no_output_0 (output_of (OwnerRefuses causes.Proofs lines)) P (append_known a.written (lines_of deeds)) b.written (λ is. cc is) h)
done_alone (OwnerRefuses causes.Command lines) P deeds a b h =
    absurd (no_output_0 (output_of (OwnerRefuses causes.Command lines)) P (append_known a.written (lines_of deeds)) b.written (λ is. cc is) h)
done_alone (BadAnswer length) P deeds a b h =
    absurd (no_output_0 (output_of (BadAnswer length)) P (append_known a.written (lines_of deeds)) b.written (λ is. cc is) h)
done_alone (CutAnswer got) P deeds a b h =
    absurd (no_output_0 (output_of (CutAnswer got)) P (append_known a.written (lines_of deeds)) b.written (λ is. cc is) h)

-- work that ended with 0 was done
ends_done : {S B E : Type 0} (work : SessionWork S B E) (LinkRose DiskRose OutRose Kept : Type 0) (KeptWith : E → Type 0)
    (deeds : List (Deed S B E)) (a b : Snapshot S E)
    → SessionEnds work LinkRose DiskRose OutRose Kept KeptWith 0 deeds a b
    → (work.value ≡ Some Done) × IsDone work.events deeds a.wire b.wire × HasWritten deeds [] a b
ends_done work L D O K W deeds a b (inl h) =
    let alone = done_alone h.1.0 O deeds a b h.1.3 in
    (h.1.1 ∙ ap (λ (e : Ending). Some e) alone.0, h.1.2, alone.1)
ends_done work L D O K W deeds a b (inr (inl h)) =
    absurd (no_output_0 outside_failure O (append_known a.written (lines_of deeds)) b.written (λ is. cc is) h.2.1)
ends_done work L D O K W deeds a b (inr (inr (inl h))) =
    absurd (no_output_0 outside_failure O (append_known a.written (lines_of deeds)) b.written (λ is. cc is) h.2.1)
ends_done work L D O K W deeds a b (inr (inr (inr (inl h)))) = absurd (cc (h.2.0))
ends_done work L D O K W deeds a b (inr (inr (inr (inr h)))) = absurd (cc (h.1.0))

pub session_done_at_0 : {S B E : Type 0} (IsJudgement : S → B → List ℕ → Judgement S E → Type 0) (forms : Forms B E)
    (batches : List B) (LinkRose DiskRose OutRose Kept : Type 0) (KeptWith : E → Type 0) (status : ℕ) (a b : Snapshot S E)
    → status ≡ 0 → SessionRuns forms IsJudgement batches LinkRose DiskRose OutRose Kept KeptWith status a b
    → SessionIsDone forms IsJudgement batches a b
session_done_at_0 {S} {B} {E} IsJudgement forms batches L D O K W status a b zero r =
    let work : SessionWork S B E = session forms a.state a.entries batches (input_of a r.judgements) in
    let done = ends_done work L D O K W r.deeds a b
    (subst (λ (n : ℕ). SessionEnds work L D O K W n r.deeds a b) zero r.ends) in
    record {
      judgements = r.judgements;
      deeds = r.deeds;
      are_judgements = r.are_judgements;
      leads = r.leads;
      ending = done.0;
      done = done.1;
      written = done.2;
    }
