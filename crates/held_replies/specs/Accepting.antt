-- What a client that accepts a reply knows of its record.
use Rattle.std.specs.Prelude.{◌≡◌, ℕ, ◌≤◌, List}
use Rattle.vo_spec.specs.Replies.{Reply, IsReply}
use Rattle.vo_spec.specs.Owners.{IsSigned}

-- The bytes are a reply, whose record is of this version, signed under the key by the version's
-- leaf, and not below the least.
pub record IsSignedReply (key : List ℕ) (least : ℕ) (bytes : List ℕ) (version : ℕ) : Type 0 where
  pub reply : Reply
  pub read : IsReply bytes reply
  pub signed : IsSigned key reply.rec reply.signature
  pub age : least ≤ reply.rec.version
  pub version_is : version ≡ reply.rec.version
