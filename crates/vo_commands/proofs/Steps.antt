-- Work on a file, after it was taken.
use Rattle.std.specs.Prelude.{◌≡◌, ℕ, List, Option, Some, None, IfSome, Result, Ok, Err}
use Rattle.std.proofs.Common.{◌∙◌}
use Rattle.outside.specs.Shelf.{Files}
use Rattle.vo_spec.specs.Secret.{Secret}
use Rattle.cli_args.specs.Shapes.{PlainShape}
use Rattle.vo_commands.specs.declared.report.Stop.{Stop}
use Rattle.vo_commands.specs.declared.report.Stop.TheVariants.{Refused, Outside, Memory}
use Rattle.vo_commands.specs.Expected.{Expected, with_file, with_seed, with_secret, seed_limit}
use Rattle.vo_commands.specs.Reports.{GoesOn}

-- The rest of the work goes on with the bytes that were taken.
abbrev pub TakesBytes : Option Files → List ℕ → ℕ → List ℕ → Type 0
TakesBytes o name limit bytes = IfSome o (λ known. (rest : List ℕ → Expected) → with_file known name limit rest ≡ rest bytes)

pub seed_goes_on : (o : Option Files) (name : List ℕ) (shape : PlainShape) (bytes : List ℕ) (r : Result Secret Stop)
    → TakesBytes o name seed_limit bytes → GoesOn (λ (key : Secret). key) (λ rest. with_secret shape rest bytes) r
    → IfSome o (λ known. GoesOn (λ (key : Secret). key) (with_seed known name shape) r)
seed_goes_on None name shape bytes r taken made = _
seed_goes_on (Some known) name shape bytes (Ok key) taken made = λ rest. taken (with_secret shape rest) ∙ made rest
seed_goes_on (Some known) name shape bytes (Err (Refused report)) taken made = λ rest. taken (with_secret shape rest) ∙ made rest
seed_goes_on (Some known) name shape bytes (Err Outside) taken made = _
seed_goes_on (Some known) name shape bytes (Err Memory) taken made = _
