-- How a run ends, from what its work answered and from what was put.
use Rattle.std.proofs.Common.{◌≡◌, subst}
use Rattle.std.specs.Prelude.{ℕ, List, Option, Some, None, IfSome, Result, Ok, Err, refl}
use mathlib.Core.Logic.{inl, inr}
use Rattle.outside.specs.Shelf.{Files}
use Rattle.outside.specs.ConnectionModel.{ConnectionModel}
use Rattle.outside.specs.DiskModel.{DiskModel}
use Rattle.cli_args.specs.PlainRequest.{PlainRequest, Keygen, Seal, Own, Answer, Serve, Check, Ask, Audit, Explain, Meet, Generate}
use Rattle.vo_commands.specs.declared.report.Report.{Report}
use Rattle.vo_commands.specs.declared.report.Stop.{Stop}
use Rattle.vo_commands.specs.declared.report.Stop.TheVariants.{Refused, Outside, Memory}
use Rattle.vo_commands.specs.Expected.{Expected, Ends, UsesNet, command_expected, expected_of}
use Rattle.vo_commands.specs.Reports.{Answers, FailsOutside, WritesOutcome, output_of}
use Rattle.vo_commands.specs.Owning.{OwnEnds}
use Rattle.vo_commands.specs.Serving.{ServeEnds}

-- with nothing, for want of memory
pub ends_empty : (o : Option Expected) (outside_rose out_rose : Type 0) (before : Option (List ℕ))
    → IfSome o (λ expected. Ends expected outside_rose out_rose 4 before before)
ends_empty None outside_rose out_rose before = _
ends_empty (Some expected) outside_rose out_rose before = inl (refl, refl)

-- with what a command came to
outcome_ends : (expected : Expected) (outcome : Result Report Stop) (outside_rose out_rose : Type 0) (status : ℕ) (before after : Option (List ℕ))
    → Answers expected outcome → (FailsOutside outcome → outside_rose) → WritesOutcome outcome out_rose status before after
    → Ends expected outside_rose out_rose status before after
outcome_ends expected (Ok report) outside_rose out_rose status before after answers rose wrote = inr (inl (output_of report, answers, wrote))
outcome_ends expected (Err (Refused report)) outside_rose out_rose status before after answers rose wrote = inr (inl (output_of report, answers, wrote))
outcome_ends expected (Err Outside) outside_rose out_rose status before after answers rose wrote = inr (inr (rose refl, wrote))
outcome_ends expected (Err Memory) outside_rose out_rose status before after answers rose wrote = inl wrote

some_ends : (o : Option Expected) (outcome : Result Report Stop) (outside_rose out_rose : Type 0) (status : ℕ) (before after : Option (List ℕ))
    → IfSome o (λ expected. Answers expected outcome) → (FailsOutside outcome → outside_rose) → WritesOutcome outcome out_rose status before after
    → IfSome o (λ expected. Ends expected outside_rose out_rose status before after)
some_ends None outcome outside_rose out_rose status before after answers rose wrote = _
some_ends (Some expected) outcome outside_rose out_rose status before after answers rose wrote =
    outcome_ends expected outcome outside_rose out_rose status before after answers rose wrote

pub command_ends : (command : PlainRequest) (request : Option PlainRequest) (files : Option Files) (queue : Option (List (List ℕ)))
    (outcome : Result Report Stop) (outside_rose out_rose : Type 0) (status : ℕ) (before after : Option (List ℕ)) → Some command ≡ request
    → IfSome (command_expected command files queue) (λ expected. Answers expected outcome) → (FailsOutside outcome → outside_rose)
    → WritesOutcome outcome out_rose status before after
    → IfSome (expected_of request files queue) (λ expected. Ends expected outside_rose out_rose status before after)
command_ends command request files queue outcome outside_rose out_rose status before after is answers rose wrote =
    subst (λ r. IfSome (expected_of r files queue) (λ expected. Ends expected outside_rose out_rose status before after)) is
    (some_ends (command_expected command files queue) outcome outside_rose out_rose status before after answers rose wrote)

-- the same of `serve`
pub serve_ends_empty : (o : Option Expected) (outside_rose out_rose : Type 0) (faults : ℕ) (wire : Option ConnectionModel) (before : Option (List ℕ))
    → IfSome o (λ expected. ServeEnds expected outside_rose out_rose 4 faults faults wire wire before before)
serve_ends_empty None outside_rose out_rose faults wire before = _
serve_ends_empty (Some expected) outside_rose out_rose faults wire before = inl (inl (refl, refl), refl)

-- nothing was done on the network
pub asks_nothing : (request : Option PlainRequest) (files : Option Files) (before : ConnectionModel) (wire : Option ConnectionModel) → wire ≡ Some before
    → UsesNet request files before wire
asks_nothing None files before wire is = is
asks_nothing (Some (Keygen seed shape)) files before wire is = is
asks_nothing (Some (Seal seed script shape)) files before wire is = is
asks_nothing (Some (Own seed address script shape)) files before wire is = tt
asks_nothing (Some (Answer key journal query at)) files before wire is = is
asks_nothing (Some (Serve address key journal count)) files before wire is = tt
asks_nothing (Some (Check key query reply least)) files before wire is = is
asks_nothing (Some (Ask address key query at least)) files before wire is = inl is
asks_nothing (Some (Audit key journal query reply)) files before wire is = is
asks_nothing (Some (Explain key journal query reply seed shape)) files before wire is = is
asks_nothing (Some (Meet key query first second)) files before wire is = is
asks_nothing (Some (Generate steps number)) files before wire is = is

-- the same of `own`
pub own_ends_empty : (o : Option Expected) (FilesRose NetRose DiskRose OutRose : Type 0) (drive : Option DiskModel) (wire : Option ConnectionModel)
    (written : Option (List ℕ))
    → IfSome o (λ expected. OwnEnds expected FilesRose NetRose DiskRose OutRose 4 drive drive wire wire written written)
own_ends_empty None FilesRose NetRose DiskRose OutRose drive wire written = tt
own_ends_empty (Some expected) FilesRose NetRose DiskRose OutRose drive wire written = inl (inl (refl, refl), refl, refl)

-- what is as it was is so where nothing was to be committed
pub left_as_it_was : {P : Type 0} (Q : Expected → Type 0) (o : Option Expected) → P → IfSome o (λ expected. Q expected → P)
left_as_it_was Q None p = tt
left_as_it_was Q (Some expected) p = λ q. p
