-- Batches that an owner of a key may seal, and the honest reply to a query by their journal.
use Rattle.std.specs.Prelude.{◌≡◌, ◌<◌, ◌≤◌, List, [], length, Some}
use Rattle.std.specs.List.{AllByRecursion}
use Rattle.vo_spec.specs.declared.tables.Command.{Command}
use Rattle.vo_spec.specs.declared.checks.Answer.{Answer}
use Rattle.vo_spec.specs.Batches.{FitsBatch}
use Rattle.vo_spec.specs.Tables.{tables_after}
use Rattle.vo_spec.specs.Conditions.{Query}
use Rattle.vo_spec.specs.Results.{result}
use Rattle.vo_spec.specs.Secret.{Secret, secret_leaves}
use Rattle.vo_spec.specs.Replies.{Reply, reply_bytes, max_reply}
use Rattle.vo_spec.specs.Honest.{reply_of, seal_batches}
use Rattle.vo_laws.specs.Sealing.{AreAcceptedAfter, SignsValidly}

-- the key signs validly, and the batches fit their bytes, are accepted one after the other, and
-- leave it a leaf for version 0
pub record AreSealable (secret : Secret) (batches : List (List Command)) : Type 0 where
  pub signs : SignsValidly secret
  pub fit : AllByRecursion FitsBatch batches
  pub accepted : AreAcceptedAfter [] batches
  pub few : length batches < secret_leaves secret

-- a store that has loaded the journal of these batches gives this reply, which isn't over the limit
abbrev pub IsHonestReply : Secret → List (List Command) → Query → Reply → Type 0
IsHonestReply secret batches q r = (reply_of q (seal_batches secret batches) ≡ Some r)
    × (length (reply_bytes r) ≤ max_reply)

-- the query's result on the plain tables after these batches, as the version that they make
abbrev pub plain_answer : List (List Command) → Query → Answer
plain_answer batches q = record {
  version = length batches;
  outcome = result q (tables_after batches);
}
