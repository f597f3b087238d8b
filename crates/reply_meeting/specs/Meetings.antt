-- What two readers learn who put their replies to one query side by side.
use Rattle.std.specs.Prelude.{◌≡◌, ◌≢◌, ℕ, List, ◌∷◌, ◌++◌, length, flat_map, Result, Ok, Err}
use Rattle.vo_spec.specs.declared.checks.CheckFault.{CheckFault}
use Rattle.vo_spec.specs.declared.checks.CheckFault.TheVariants as check
use Rattle.vo_spec.specs.Bytes.{block}
use Rattle.vo_spec.specs.Collides.{Collides}
use Rattle.vo_spec.specs.Conditions.{Query}
use Rattle.vo_spec.specs.Records.{catalog_bytes}
use Rattle.vo_spec.specs.TreeBytes.{tree_bytes}
use Rattle.vo_spec.specs.Replies.{Reply}
use Rattle.vo_spec.specs.Checks.{CheckOf}
use Rattle.reply_meeting.specs.declared.meeting.Meeting.{Meeting}
use Rattle.reply_meeting.specs.declared.meeting.Meeting.TheVariants.{Apart, TwoRecords, Same, Collides as Collide}
use Rattle.reply_meeting.specs.declared.meeting.MeetFault.{MeetFault}
use Rattle.reply_meeting.specs.declared.meeting.MeetFault.TheVariants.{First, Second, Memory}
use Rattle.reply_meeting.specs.Accepting.{IsAccepted}
use Rattle.reply_meeting.specs.Comparing.{AreOfReplies}

-- the bytes of a reply after its signature
abbrev pub shown_bytes : Reply → List ℕ
shown_bytes r = block (catalog_bytes r.catalog) ++ length r.trees ∷ flat_map tree_bytes r.trees

-- The versions differ; or else the records do; or the replies show the same, to the byte; or they
-- don't, and here are two different byte strings with one digest, the first of which the first
-- reply's catalog or one of its trees hashes, and the second that of the second reply at its place.
abbrev pub IsMeeting : Reply → Reply → Meeting → Type 0
IsMeeting r s (Apart one other) = (r.rec.version ≢ s.rec.version) × (one ≡ r.rec.version)
    × (other ≡ s.rec.version)
IsMeeting r s TwoRecords = (r.rec.version ≡ s.rec.version) × (r.rec ≢ s.rec)
IsMeeting r s Same = (r.rec ≡ s.rec) × (shown_bytes r ≡ shown_bytes s)
IsMeeting r s (Collide found) = (r.rec ≡ s.rec) × (shown_bytes r ≢ shown_bytes s)
    × Collides found.0 found.1 × AreOfReplies r s found.0 found.1

-- why they don't meet, by why a client refuses the one
abbrev pub first_fault : CheckFault → MeetFault
first_fault check.Memory = Memory
first_fault fault = First fault

abbrev pub second_fault : CheckFault → MeetFault
second_fault check.Memory = Memory
second_fault fault = Second fault

-- What is said of two replies to a query, by the key: a client who takes any version refuses the
-- first, or the second, so; or takes both, which are these, and they meet so. Want of memory is no
-- answer of this.
unfoldable pub RepliesMeet : List ℕ → Query → List ℕ → List ℕ
    → Result (Reply × Reply × Meeting) MeetFault → Type 0
RepliesMeet key q first second (Err (First fault)) = CheckOf key 0 q first (Err fault)
RepliesMeet key q first second (Err (Second fault)) = (r : Reply) × IsAccepted key q first r
    × CheckOf key 0 q second (Err fault)
RepliesMeet key q first second (Err Memory) = ⊥
RepliesMeet key q first second (Ok met) = IsAccepted key q first met.0
    × IsAccepted key q second met.1 × IsMeeting met.0 met.1 met.2

-- the same of what they are to each other alone
unfoldable pub MeetOf : List ℕ → Query → List ℕ → List ℕ → Result Meeting MeetFault → Type 0
MeetOf key q first second (Err fault) = RepliesMeet key q first second (Err fault)
MeetOf key q first second (Ok meeting) = (r : Reply) × (s : Reply)
    × RepliesMeet key q first second (Ok (r, s, meeting))
