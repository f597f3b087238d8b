-- What is told of two replies by what is known of each.
use Rattle.std.proofs.Common.{◌≡◌, ℕ, List, Some, Result, Ok, Err, refl, sym, ap, ◌∙◌, subst, ◌⊎◌, inl, inr}
use Rattle.vo_spec.specs.declared.checks.CheckFault.{CheckFault}
use Rattle.vo_spec.specs.declared.checks.CheckFault.TheVariants as check
use Rattle.vo_spec.specs.Conditions.{Query}
use Rattle.vo_spec.specs.Replies.{Reply, FitsReply}
use Rattle.vo_spec.specs.Checks.{CheckOf}
use Rattle.reply_meeting.specs.declared.meeting.Meeting.{Meeting}
use Rattle.reply_meeting.specs.declared.meeting.Meeting.TheVariants.{Same, Collides as Collide}
use Rattle.reply_meeting.specs.declared.meeting.MetReplies.{MetReplies}
use Rattle.reply_meeting.specs.declared.meeting.MeetFault.{MeetFault}
use Rattle.reply_meeting.specs.declared.meeting.MeetFault.TheVariants.{First, Second, Memory}
use Rattle.vo_format.specs.View.{reply_of}
use Rattle.reply_meeting.specs.Accepting.{IsAccepted}
use Rattle.tree_collide.specs.Agreements.{HoldsOrCollides}
use Rattle.reply_meeting.specs.Comparing.{ShowTheSame, AreOfReplies}
use Rattle.reply_meeting.specs.Meetings.{IsMeeting, MeetOf, RepliesMeet, first_fault, second_fault}
use Rattle.reply_meeting.proofs.Telling.{shown_same, shown_told}

memory_or_first : (fault : CheckFault) → (first_fault fault ≡ Memory) ⊎ (first_fault fault ≡ First fault)
memory_or_first check.Memory = inl refl
memory_or_first fault = inr refl

memory_or_second : (fault : CheckFault) → (second_fault fault ≡ Memory) ⊎ (second_fault fault ≡ Second fault)
memory_or_second check.Memory = inl refl
memory_or_second fault = inr refl

-- a fault that is want of memory is that result
pub of_fault : (T : Type 0) (told : MeetFault) (all : Type 0) → (told ≡ Memory) ⊎ all → (let r : Result T MeetFault = Err told in r ≡ Err Memory) ⊎ all
of_fault T told all (inl e) = inl (ap (λ (f : MeetFault). Err f) e)
of_fault T told all (inr a) = inr a

module _ (key : List ℕ) (q : Query) (first second : List ℕ) where
  abbrev Refuses : MeetFault → Type 0
  Refuses fault = RepliesMeet key q first second (Err fault)

  pub first_told : (fault : CheckFault) (told : MeetFault) → told ≡ first_fault fault → (fault ≡ check.Memory) ⊎ CheckOf key 0 q first (Err fault) → (told ≡ Memory) ⊎ Refuses told
  unfolding RepliesMeet
  first_told fault told is (inl out) = inl (is ∙ ap first_fault out)
  first_told fault told is (inr refused) = step (memory_or_first fault)
    where
      step : (first_fault fault ≡ Memory) ⊎ (first_fault fault ≡ First fault) → (told ≡ Memory) ⊎ Refuses told
      step (inl e) = inl (is ∙ e)
      step (inr e) = inr (subst Refuses (sym (is ∙ e)) refused)

  pub second_told : (r : Reply) → IsAccepted key q first r → (fault : CheckFault) (told : MeetFault) → told ≡ second_fault fault → (fault ≡ check.Memory) ⊎ CheckOf key 0 q second (Err fault)
      → (told ≡ Memory) ⊎ Refuses told
  unfolding RepliesMeet
  second_told r accepted fault told is (inl out) = inl (is ∙ ap second_fault out)
  second_told r accepted fault told is (inr refused) = step (memory_or_second fault)
    where
      step : (second_fault fault ≡ Memory) ⊎ (second_fault fault ≡ Second fault) → (told ≡ Memory) ⊎ Refuses told
      step (inl e) = inl (is ∙ e)
      step (inr e) = inr (subst Refuses (sym (is ∙ e)) (r, accepted, refused))

  pub meeting_told : (r s : Reply) → IsAccepted key q first r → IsAccepted key q second s → (meeting : Meeting) → IsMeeting r s meeting → RepliesMeet key q first second (Ok (r, s, meeting))
  unfolding RepliesMeet
  meeting_told r s one other meeting is = (one, other, is)

  -- what is told without the replies

  pub fault_alone : (fault : MeetFault) → (let r : Result MetReplies MeetFault = Err fault in r ≡ Err Memory) ⊎ Refuses fault
      → (let r : Result Meeting MeetFault = Err fault in r ≡ Err Memory) ⊎ MeetOf key q first second (Err fault)
  unfolding MeetOf
  fault_alone fault (inl e) = inl (cc)
  fault_alone fault (inr refused) = inr refused

  pub meeting_alone : (met : MetReplies) → (let r : Result MetReplies MeetFault = Ok met in r ≡ Err Memory) ⊎ RepliesMeet key q first second (Ok (reply_of met.first, reply_of met.second, met.meeting))
      → MeetOf key q first second (Ok met.meeting)
  unfolding MeetOf
  meeting_alone met (inl e) = absurd (cc)
  meeting_alone met (inr is) = (reply_of met.first, reply_of met.second, is)

-- of one record

pub none_found : (r s : Reply) → r.rec ≡ s.rec → ShowTheSame r s → IsMeeting r s Same
none_found r s rec same = (rec, shown_same r s same)

pub one_found : (r s : Reply) (found : List ℕ × List ℕ) → FitsReply r → FitsReply s → r.rec ≡ s.rec → HoldsOrCollides (Some found) (ShowTheSame r s) (AreOfReplies r s) → IsMeeting r s (Collide found)
one_found r s found f g rec h = (rec, (λ same. h.0 (shown_told r s f g rec same)), h.1, h.2)
