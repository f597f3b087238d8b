-- What a call that takes files leaves of them.
use Rattle.std.specs.Prelude.{◌≡◌, ℕ, ◌≤◌, List, Option, is_some, IfSome, Result}
use Rattle.outside.specs.FaultRose.{FaultRose}
use Rattle.outside.specs.Miss.{CountsMiss}
use Rattle.outside.specs.Shelf.{Files}
use Rattle.outside.specs.Outputs.{outside_failure}
use Rattle.vo_spec.specs.declared.tables.Batch.{Batch}
use Rattle.vo_spec.specs.Conditions.{Query}
use Rattle.sql_text.specs.Scripts.{IsScript}
use Rattle.vo_commands.specs.declared.report.Stop.{Stop}
use Rattle.vo_commands.specs.Expected.{Expected, Exactly, OfQuery, OfScript}
use Rattle.vo_commands.specs.Texts.{IsQueryText}
use Rattle.vo_commands.specs.Reports.{FailsOutside}

-- which files a call takes: the one of this name; or those to which the work comes of which this
-- is expected
pub data Names : Type 0 where
  One : (name : List ℕ) → Names
  Along : (expected : Files → Expected) → Names

-- The work comes to a file that isn't there: what is before that in the order of the words is as it
-- must be.
abbrev pub LacksFile : Expected → Type 0
LacksFile (Exactly output) = output ≡ outside_failure
LacksFile (OfQuery text rest) = (q : Query) × IsQueryText text q × LacksFile (rest q)
LacksFile (OfScript text rest) =
    (batches : List Batch) × IsScript text batches × LacksFile (rest batches)
LacksFile _ = ⊥

-- the misses, by the files that there are
abbrev pub CountsMisses : Names → Files → ℕ → ℕ → Type 0
CountsMisses (One name) files before after = CountsMiss (is_some (files name)) before after
CountsMisses (Along expected) files before after =
    (LacksFile (expected files) → ⊥) → after ≡ before

-- Files after a call that takes these: none has changed, and none is missed but one to which the
-- work comes and that isn't there.
pub record LeavesFiles {S : Type 0} (contents : S → Option Files) (faults misses : S → ℕ)
    (names : Names) (before after : S) : Type 0 where
  pub kept : contents after ≡ contents before
  pub counts : faults before ≤ faults after
  pub missed : IfSome (contents before)
      (λ known. CountsMisses names known (misses before) (misses after))

-- The same of a call that ends so: by a fault of the outside where a file failed, and only there.
pub record TakesFiles {S A : Type 0} (contents : S → Option Files) (faults misses : S → ℕ)
    (names : Names) (before after : S) (result : Result A Stop) : Type 0 where
  pub leaves : LeavesFiles contents faults misses names before after
  pub cause : FailsOutside result → FaultRose (faults before) (faults after)
  pub quiet : (FailsOutside result → ⊥) → faults after ≡ faults before
