-- Reports as the output of the program.
use Rattle.std.specs.Prelude.{◌≡◌, ℕ, List, Option, Some, None, Result, Ok, Err}
use Rattle.outside.specs.Outputs.{Output, Writes, outside_failure}
use Rattle.vo_commands.specs.declared.report.Status.{Status}
use Rattle.vo_commands.specs.declared.report.Status.TheVariants.{Done, RefusedReply, RefusedInput, Collision, Unsigned, BadJournal, RefusedCommand, BadAnswer}
use Rattle.vo_commands.specs.declared.report.Report.{Report}
use Rattle.vo_commands.specs.declared.report.Stop.{Stop}
use Rattle.vo_commands.specs.declared.report.Stop.TheVariants.{Refused, Outside, Memory}
use Rattle.connections.specs.declared.wire_fault.WireFault.{WireFault}
use Rattle.connections.specs.declared.wire_fault.WireFault.TheVariants as fault
use Rattle.vo_commands.specs.Lines.{store_refusal, bad_frame, cut_off}
use Rattle.vo_commands.specs.Expected.{Expected, Exactly, Allows}

abbrev pub status_code : Status → ℕ
status_code Done = 0
status_code RefusedReply = 1
status_code RefusedInput = 2
status_code Collision = 5
status_code Unsigned = 6
status_code BadJournal = 7
status_code RefusedCommand = 8
status_code BadAnswer = 9

abbrev pub output_of : Report → Output
output_of report = record { status = status_code report.status; bytes = report.bytes.items }

-- A call ends by a fault of the outside; or it has nothing to do with the outside.
abbrev pub FailsOutside : {A : Type 0} → Result A Stop → Type 0
FailsOutside (Ok a) = ⊥
FailsOutside (Err stop) = stop ≡ Outside

abbrev pub StaysInside : {A : Type 0} → Result A Stop → Type 0
StaysInside result = FailsOutside result → ⊥

-- The command's answer is an expected output, unless the outside failed or memory ran out.
abbrev pub Answers : Expected → Result Report Stop → Type 0
Answers expected (Ok report) = Allows expected (output_of report)
Answers expected (Err (Refused report)) = Allows expected (output_of report)
Answers expected (Err Outside) = Unit {0}
Answers expected (Err Memory) = Unit {0}

-- The rest of the work goes on with what was taken of a file, whatever that rest is; or a refusal
-- is expected.
abbrev pub GoesOn : {A B : Type 0} → (A → B) → ((B → Expected) → Expected) → Result A Stop → Type 0
GoesOn {B = B} view expected (Ok taken) = (rest : B → Expected) → expected rest ≡ rest (view taken)
GoesOn {B = B} view expected (Err (Refused report)) =
    (rest : B → Expected) → expected rest ≡ Exactly (output_of report)
GoesOn view expected (Err Outside) = Unit {0}
GoesOn view expected (Err Memory) = Unit {0}

-- these lines are printed
abbrev pub Prints : Output → Stop → Type 0
Prints output (Refused report) = output_of report ≡ output
Prints output Outside = ⊥
Prints output Memory = ⊥

-- Where there is no answer, its refusal is printed, or the outside failed, or memory ran out.
abbrev pub StopsWithout : WireFault → Stop → Type 0
StopsWithout (fault.Refused code) stop = Prints (store_refusal code) stop
StopsWithout (fault.BadFrame length) stop = Prints (bad_frame length) stop
StopsWithout (fault.Cut got) stop = Prints (cut_off got) stop
StopsWithout fault.LinkFault stop = stop ≡ Outside
StopsWithout fault.Memory stop = stop ≡ Memory

-- The text is this; or it is nothing of the sort, and the output says why.
abbrev pub ReadsText : {A B : Type 0} → (A → B) → (B → Type 0) → (Output → Type 0) → Result A Stop
    → Type 0
ReadsText view Is IsRefused (Ok taken) = Is (view taken)
ReadsText {B = B} view Is IsRefused (Err (Refused report)) =
    ((b : B) → Is b → ⊥) × IsRefused (output_of report)
ReadsText view Is IsRefused (Err Outside) = ⊥
ReadsText view Is IsRefused (Err Memory) = Unit {0}

-- after a fault of a text: its output is printed; or it was want of memory, which has none
abbrev pub StopsWith : Option Output → Stop → Type 0
StopsWith told (Refused report) = told ≡ Some (output_of report)
StopsWith told Outside = ⊥
StopsWith told Memory = told ≡ None

-- what is written of a command's answer
abbrev pub WritesOutcome : Result Report Stop → Type 0 → ℕ → Option (List ℕ) → Option (List ℕ)
    → Type 0
WritesOutcome (Ok report) out_rose status before after =
    Writes (output_of report) out_rose status before after
WritesOutcome (Err (Refused report)) out_rose status before after =
    Writes (output_of report) out_rose status before after
WritesOutcome (Err Outside) out_rose status before after =
    Writes outside_failure out_rose status before after
WritesOutcome (Err Memory) out_rose status before after = (status ≡ 4) × (after ≡ before)
