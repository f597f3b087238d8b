-- How a session ends, with the exit status and the lines of each ending.
use Rattle.std.specs.Prelude.{◌≡◌, ℕ, List, [], ◌++◌, codes, decimal, Result, Ok, Err}
use Rattle.std.specs.Global.{Vec}
use Rattle.std.specs.declared.alloc.AllocError.{AllocError}
use Rattle.outside.specs.Outputs.{Output, line}
use Rattle.owner_session.specs.declared.refusals.RefusalCause.{RefusalCause}
use Rattle.owner_session.specs.declared.refusals.RefusalCause.TheVariants.{Proofs, Command}
use Rattle.owner_session.specs.declared.stop.SessionStatus.{SessionStatus}
use Rattle.owner_session.specs.declared.stop.SessionStatus.TheVariants as status
use Rattle.owner_session.specs.declared.stop.SessionReport.{SessionReport}
use Rattle.owner_session.specs.declared.stop.SessionStop.{SessionStop}
use Rattle.owner_session.specs.declared.stop.SessionStop.TheVariants as stop

-- all is done; the store refuses, with this code; its record, or the version that it installed, is
-- another than the journal's; the owner refuses, in these lines; an answer has a bad frame of this
-- length, or is cut off after so many bytes
pub data Ending : Type 0 where
  Done : Ending
  StoreRefuses : (code : ℕ) → Ending
  StandsElsewhere : Ending
  OwnerRefuses : (cause : RefusalCause) (lines : List ℕ) → Ending
  BadAnswer : (length : ℕ) → Ending
  CutAnswer : (got : ℕ) → Ending

abbrev pub number_line : List ℕ → ℕ → List ℕ
number_line phrase number = line (phrase ++ decimal number)

-- what is written once a version is installed
abbrev pub version_line : ℕ → List ℕ
version_line version = number_line (codes "version ") version

abbrev pub status_of : RefusalCause → ℕ
status_of Proofs = 1
status_of Command = 8

abbrev pub output_of : Ending → Output
output_of Done = record { status = 0; bytes = [] }
output_of (StoreRefuses code) =
    record { status = 1; bytes = number_line (codes "refused: store ") code }
output_of StandsElsewhere =
    record { status = 1; bytes = line (codes "refused: store stands elsewhere") }
output_of (OwnerRefuses cause lines) = record { status = status_of cause; bytes = lines }
output_of (BadAnswer length) = record {
  status = 9;
  bytes = number_line (codes "bad frame ") length;
}
output_of (CutAnswer got) = record { status = 9; bytes = number_line (codes "cut ") got }

abbrev pub code_of : SessionStatus → ℕ
code_of status.Refused = 1
code_of status.RefusedCommand = 8
code_of status.BadAnswer = 9

-- the report of an ending
abbrev pub Reports : SessionReport → Ending → Type 0
Reports report ending =
    record { status = code_of report.status; bytes = report.bytes.items } ≡ output_of ending

-- it stops with this ending, or memory ran out before its report was made
abbrev pub StopsWith : Ending → SessionStop → Type 0
StopsWith ending (stop.Refused report) = Reports report ending
StopsWith ending stop.Memory = Unit {0}
StopsWith ending _ = ⊥

-- it is no fault of the disk or of the output
abbrev pub IsOfLink : SessionStop → Type 0
IsOfLink stop.DiskFault = ⊥
IsOfLink stop.OutputFault = ⊥
IsOfLink _ = Unit {0}

-- it stops with this status and these lines, or memory ran out
abbrev pub StopsAs : SessionStatus → Result (Vec ℕ) AllocError → SessionStop → Type 0
StopsAs status (Ok bytes) why = why ≡ stop.Refused (record { status = status; bytes = bytes })
StopsAs status (Err want) why = why ≡ stop.Memory
