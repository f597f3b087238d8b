-- What calls of a store gave, as answers.
use Rattle.std.proofs.Common.{◌≡◌, ℕ, ◌+◌, ◌-◌, ◌<◌, ◌≤◌, ◌^◌, Bool, true, false, List, length, Option, Some, None, Result, Ok, Err, IfOk, IfSome, IsErr, OnOk, refl, sym, ap, ◌∙◌, subst, arith, leb-true}
use Rattle.std.specs.Prelude.{nat_le, ◌&&◌, if◌then◌else◌}
use Rattle.std.specs.Option.{option_map_or}
use Rattle.std.specs.declared.alloc.AllocError.{AllocError}
use Rattle.vo_spec.specs.Conditions.{Query}
use Rattle.vo_spec.specs.Replies.{max_reply, reply_bytes}
use Rattle.vo_spec.specs.Honest.{honest_reply}
use Rattle.vo_spec.specs.declared.tables.CommandFault.{CommandFault}
use Rattle.link_frames.specs.declared.frame_kind.FrameKind.{FrameKind}
use Rattle.link_frames.specs.declared.frame_kind.FrameKind.TheVariants as kinds
use Rattle.link_frames.specs.declared.frame.Frame.{Frame}
use Rattle.vo_store.specs.declared.fault.StoreFault.{StoreFault}
use Rattle.vo_store.specs.declared.fault.StoreFault.TheVariants as fault
use Rattle.vo_store.specs.declared.signed_record.SignedRecord.{SignedRecord}
use Rattle.vo_store.specs.declared.kept_version.KeptVersion.{KeptVersion}
use Rattle.vo_store.specs.StoreState.{StoreState, oldest_of}
use Rattle.vo_store.specs.Calls.{Gives, answer_of, answer_at_of, kept_at, reply_of_version, within_limit}
use Rattle.vo_wire.specs.Answering.{KindAndBody, answer_by, frame_answer, refusal_answer, code_of, proofs_answer, store_after, reply_to}

abbrev pub IsAnswer : Result (Option Frame) AllocError → Option KindAndBody → Type 0
IsAnswer result due = IfOk result (λ answer. frame_answer answer ≡ due)

abbrev pub FailsAtMemory : StoreFault → Result (Option Frame) AllocError → Type 0
FailsAtMemory why result = why ≡ fault.Memory → IsErr result

same_answer : (result : Result (Option Frame) AllocError) (a b : Option KindAndBody) → a ≡ b → IsAnswer result a → IsAnswer result b
same_answer result a b same h = subst (IsAnswer result) same h

failed_answer : (result : Result (Option Frame) AllocError) (answer : Option KindAndBody) → IsErr result → IsAnswer result answer
failed_answer (Ok frame) answer err = absurd (cc err)
failed_answer (Err why) answer err = tt

on_ok : {P : Type 0} (result : Result (Option Frame) AllocError) → P → OnOk result P
on_ok (Ok frame) p = p
on_ok (Err why) p = tt

-- a refusal, unless memory ran out
pub refused : {X Y : Type 0} (view : X → Y) (to : Result Y StoreFault → KindAndBody) (why : StoreFault) (due : Result Y StoreFault)
    (result : Result (Option Frame) AllocError) → to (Err why) ≡ refusal_answer (code_of why) → Gives view (Err why) due
    → FailsAtMemory why result → IsAnswer result (Some (refusal_answer (code_of why))) → IsAnswer result (Some (to due))
refused view to fault.Memory due result is g memory h = failed_answer result (Some (to due)) (memory refl)
refused view to fault.Empty due result is g memory h = same_answer result _ _ (ap (λ (a : KindAndBody). Some a) (sym is ∙ sym (ap to g))) h
refused view to (fault.TooLarge size) due result is g memory h = same_answer result _ _ (ap (λ (a : KindAndBody). Some a) (sym is ∙ sym (ap to g))) h
refused view to (fault.NoVersion version oldest newest) due result is g memory h = same_answer result _ _ (ap (λ (a : KindAndBody). Some a) (sym is ∙ sym (ap to g))) h
refused view to fault.NothingProposed due result is g memory h = same_answer result _ _ (ap (λ (a : KindAndBody). Some a) (sym is ∙ sym (ap to g))) h
refused view to (fault.WrongRecord want got) due result is g memory h = same_answer result _ _ (ap (λ (a : KindAndBody). Some a) (sym is ∙ sym (ap to g))) h
refused view to fault.BadSignature due result is g memory h = same_answer result _ _ (ap (λ (a : KindAndBody). Some a) (sym is ∙ sym (ap to g))) h
refused view to (fault.Command index because proofs) due result is g memory h = same_answer result _ _ (ap (λ (a : KindAndBody). Some a) (sym is ∙ sym (ap to g))) h

-- the store stays where it refused
pub stayed : {X Y : Type 0} (view : X → Y) (after : Y → StoreState) (why : StoreFault) (due : Result Y StoreFault)
    (result : Result (Option Frame) AllocError) (old new : StoreState) → Gives view (Err why) due → FailsAtMemory why result → new ≡ old
    → OnOk result (new ≡ store_after after old due)
stayed view after fault.Memory due (Ok frame) old new g memory same = absurd (cc (memory refl))
stayed view after fault.Memory due (Err failed) old new g memory same = tt
stayed view after fault.Empty due result old new g memory same = on_ok result (same ∙ sym (ap (store_after after old) g))
stayed view after (fault.TooLarge size) due result old new g memory same = on_ok result (same ∙ sym (ap (store_after after old) g))
stayed view after (fault.NoVersion version oldest newest) due result old new g memory same = on_ok result (same ∙ sym (ap (store_after after old) g))
stayed view after fault.NothingProposed due result old new g memory same = on_ok result (same ∙ sym (ap (store_after after old) g))
stayed view after (fault.WrongRecord want got) due result old new g memory same = on_ok result (same ∙ sym (ap (store_after after old) g))
stayed view after fault.BadSignature due result old new g memory same = on_ok result (same ∙ sym (ap (store_after after old) g))
stayed view after (fault.Command index because proofs) due result old new g memory same = on_ok result (same ∙ sym (ap (store_after after old) g))

-- what is so of the store after an answer
pub on_some : (P : Type 0) (result : Result (Option Frame) AllocError) → OnOk result P → IfOk result (λ answer. IfSome answer (λ _. P))
on_some P (Ok None) p = tt
on_some P (Ok (Some frame)) p = p
on_some P (Err why) p = tt

-- where there is an answer there is one
pub never_none : (P : Type 0) (result : Result (Option Frame) AllocError) (due : KindAndBody) → IsAnswer result (Some due)
    → IfOk result (λ answer. answer ≡ None → P)
never_none P (Ok None) due h = absurd (cc h)
never_none P (Ok (Some frame)) due h = λ e. absurd (cc e)
never_none P (Err why) due h = tt

-- a frame that is no request has no answer
pub no_answer : (s : StoreState) (kind : FrameKind) (body : List ℕ) → (kind ≡ kinds.Query → ⊥) → (kind ≡ kinds.Status → ⊥)
    → (kind ≡ kinds.Propose → ⊥) → (kind ≡ kinds.Install → ⊥) → (kind ≡ kinds.QueryAt → ⊥) → None ≡ reply_to s kind body
unfolding reply_to
no_answer s kinds.Query body query status propose install query_at = absurd (query refl)
no_answer s kinds.Status body query status propose install query_at = absurd (status refl)
no_answer s kinds.Propose body query status propose install query_at = absurd (propose refl)
no_answer s kinds.Install body query status propose install query_at = absurd (install refl)
no_answer s kinds.QueryAt body query status propose install query_at = absurd (query_at refl)
no_answer s kinds.Reply body query status propose install query_at = refl
no_answer s kinds.Standing body query status propose install query_at = refl
no_answer s kinds.Proofs body query status propose install query_at = refl
no_answer s kinds.Installed body query status propose install query_at = refl
no_answer s kinds.Refusal body query status propose install query_at = refl

-- a refusal of a proposal, but of a command
pub refuses_all : (why : StoreFault) → ((index : ℕ) (because : CommandFault) (proofs : List ℕ) → why ≡ fault.Command index because proofs → ⊥)
    → proofs_answer (Err why) ≡ refusal_answer (code_of why)
refuses_all fault.Empty other = refl
refuses_all (fault.TooLarge size) other = refl
refuses_all (fault.NoVersion version oldest newest) other = refl
refuses_all fault.NothingProposed other = refl
refuses_all (fault.WrongRecord want got) other = refl
refuses_all fault.BadSignature other = refl
refuses_all fault.Memory other = refl
refuses_all (fault.Command index because proofs) other = absurd (other index because proofs refl)

-- Replies are within their limit.

abbrev within : Bool → List ℕ → StoreFault → Result (List ℕ) StoreFault
within test bytes why = if test then Ok bytes else Err why

limited : (test : Bool) (bytes reply : List ℕ) (why : StoreFault) → within test bytes why ≡ Ok reply
    → (test ≡ true) × (bytes ≡ reply)
limited true bytes reply why e = (refl, cc)
limited false bytes reply why e = absurd (cc)

within_is : (bytes reply : List ℕ) → within_limit bytes ≡ Ok reply → length reply ≤ max_reply
within_is bytes reply e =
    let h = limited (nat_le (length bytes) max_reply) bytes reply (fault.TooLarge (length bytes)) e in
    subst (λ (b : List ℕ). length b ≤ max_reply) h.1 (leb-true (length bytes) max_reply h.0)

newest_within : (s : StoreState) (q : Query) (reply : List ℕ) → answer_of s q ≡ Ok reply → length reply ≤ max_reply
unfolding answer_of
newest_within s q reply e = step s.installed e
  where
    step : (installed : Option SignedRecord)
        → option_map_or (λ (r : SignedRecord). within_limit (reply_bytes (honest_reply q r.rec r.signature s.tables))) installed (Err fault.Empty) ≡ Ok reply
        → length reply ≤ max_reply
    step None f = absurd (cc)
    step (Some r) f = within_is (reply_bytes (honest_reply q r.rec r.signature s.tables)) reply f

kept_within : (s : StoreState) (version : ℕ) (q : Query) (reply : List ℕ) → answer_at_of s version q ≡ Ok reply
    → length reply ≤ max_reply
unfolding answer_at_of
kept_within s version q reply e = step s.installed e
  where
    if_kept : (test : Bool) (bytes : List ℕ) (why : StoreFault) → (if test then within_limit bytes else Err why) ≡ Ok reply
        → length reply ≤ max_reply
    if_kept true bytes why f = within_is bytes reply f
    if_kept false bytes why f = absurd (cc)

    step : (installed : Option SignedRecord) → option_map_or (reply_of_version q version s) installed (Err fault.Empty) ≡ Ok reply
        → length reply ≤ max_reply
    step None f = absurd (cc)
    step (Some r) f =
        let oldest : ℕ = oldest_of r.rec.version in
        let kept : KeptVersion = kept_at s.earlier r s.tables (version - oldest) in
        if_kept (nat_le oldest version && nat_le version r.rec.version)
        (reply_bytes (honest_reply q kept.signed.rec kept.signed.signature kept.tables))
        (fault.NoVersion version oldest r.rec.version) f

pub reply_within : (s : StoreState) (at : Option ℕ) (q : Query) (reply : List ℕ) → answer_by s at q ≡ Ok reply
    → length reply ≤ max_reply
reply_within s None q reply e = newest_within s q reply e
reply_within s (Some version) q reply e = kept_within s version q reply e

pub reply_short : (s : StoreState) (at : Option ℕ) (q : Query) (reply : List ℕ) → answer_by s at q ≡ Ok reply
    → length reply + 1 < 2 ^ 32
reply_short s at q reply e = omega (arith, reply_within s at q reply e)
