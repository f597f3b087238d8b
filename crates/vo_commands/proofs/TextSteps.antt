-- What a fault of a text says of it.
use Rattle.std.proofs.Common.{◌≡◌, List, [], ◌∷◌, Some, Err}
use Rattle.outside.specs.Outputs.{Output}
use Rattle.vo_spec.specs.declared.tables.Batch.{Batch}
use Rattle.sql_text.specs.declared.faults.SqlFault.{SqlFault}
use Rattle.sql_text.specs.declared.faults.SqlFault.TheVariants as fault
use Rattle.sql_text.specs.Texts.{Accepts}
use Rattle.sql_text.specs.Fits.{AllFit}
use Rattle.owner_state.specs.Sealing.{FitEach}
use Rattle.vo_commands.specs.declared.report.Stop.{Stop}
use Rattle.vo_commands.specs.declared.report.Stop.TheVariants.{Refused, Outside, Memory}
use Rattle.vo_commands.specs.Lines.{sql_output}
use Rattle.vo_commands.specs.Reports.{ReadsText, StopsWith, output_of}

-- it would have been accepted
pub not_accepted : {A B : Type 0} (view : B → A) (f : SqlFault) (output : Output) (v : A) → sql_output f ≡ Some output → Accepts view (Err f) v → ⊥
not_accepted view fault.TooLong output v e accepts = accepts
not_accepted view (fault.Token at) output v e accepts = accepts
not_accepted view (fault.Syntax at) output v e accepts = accepts
not_accepted view (fault.Literal at) output v e accepts = accepts
not_accepted view fault.Nesting output v e accepts = accepts
not_accepted view fault.Name output v e accepts = accepts
not_accepted view fault.TooMany output v e accepts = accepts
not_accepted view fault.Memory output v e accepts = absurd (cc)

module _ {A B : Type 0} (view : B → A) (Is : A → Type 0) (IsRefused : Output → Type 0) where
  -- no text is read where there is a fault that is no want of memory
  pub not_read : (f : SqlFault) (stop : Stop) → ((output : Output) → sql_output f ≡ Some output → (a : A) → Is a → ⊥)
      → ((output : Output) → sql_output f ≡ Some output → IsRefused output) → StopsWith (sql_output f) stop → ReadsText view Is IsRefused (Err stop)
  not_read f (Refused report) nothing is stops = (nothing (output_of report) stops, is (output_of report) stops)
  not_read f Outside nothing is stops = absurd stops
  not_read f Memory nothing is stops = tt

pub each_fits : (batches : List Batch) → AllFit batches → FitEach batches
each_fits [] fit = tt
each_fits (batch ∷ batches) fit = (fit.0.1, each_fits batches fit.1)
