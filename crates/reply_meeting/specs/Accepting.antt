-- Replies that a client of a key accepts at any version.
use Rattle.std.specs.Prelude.{◌≡◌, ◌⊎◌, ℕ, ◌≤◌, List, map, length, None, Result, Ok, Err}
use Rattle.vo_spec.specs.declared.checks.CheckFault.{CheckFault}
use Rattle.vo_spec.specs.declared.checks.CheckFault.TheVariants.{Memory}
use Rattle.vo_spec.specs.Firsts.{first_some}
use Rattle.vo_spec.specs.Conditions.{Query}
use Rattle.vo_spec.specs.Records.{catalog_digest}
use Rattle.vo_spec.specs.Replies.{Reply, IsReply, max_reply}
use Rattle.vo_spec.specs.Checks.{tables_wanted, trees_of, root_fault, missing_fault, surplus_fault, check_fault, CheckOf}
use Rattle.vo_format.specs.declared.reply.Reply.{Reply as ReadReply}
use Rattle.vo_format.specs.View.{reply_of}

-- The bytes are this reply, within the limit, and no test of a client refuses it.
pub record IsAccepted (key : List ℕ) (q : Query) (bytes : List ℕ) (r : Reply) : Type 0 where
  pub size : length bytes ≤ max_reply
  pub read : IsReply bytes r
  pub passed : check_fault key 0 q r ≡ None

abbrev pub ReadsAccepted : List ℕ → Query → List ℕ → Result ReadReply CheckFault → Type 0
ReadsAccepted key q bytes (Ok reply) = IsAccepted key q bytes (reply_of reply)
ReadsAccepted key q bytes (Err fault) = (fault ≡ Memory) ⊎ CheckOf key 0 q bytes (Err fault)

-- tests of an accepted reply
pub record HasPassed (q : Query) (r : Reply) : Type 0 where
  pub catalog : r.rec.catalog ≡ catalog_digest r.catalog
  pub count : length r.trees ≡ length (tables_wanted q r.catalog)
  pub roots : first_some (map root_fault (trees_of q r)) ≡ None
  pub complete : missing_fault q r ≡ None
  pub minimal : surplus_fault q r ≡ None
