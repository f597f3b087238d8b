-- Batches that an owner may seal.
use Rattle.std.specs.Prelude.{◌≡◌, ℕ, ◌<◌, List, [], ◌∷◌, ◌++◌, Some, IsOk, IsTrue}
use Rattle.vo_spec.specs.declared.tables.Command.{Command}
use Rattle.vo_spec.specs.Tables.{apply_batch, tables_after}
use Rattle.vo_spec.specs.Keys.{leaf_of, lms_valid}
use Rattle.vo_spec.specs.Secret.{Secret, public_of_secret, secret_leaves, lms_signature}

-- each batch is accepted on the tables after those before it
abbrev pub AreAcceptedAfter : List (List Command) → List (List Command) → Type 0
AreAcceptedAfter earlier [] = Unit {0}
AreAcceptedAfter earlier (batch ∷ batches) = IsOk (apply_batch batch (tables_after earlier))
    × AreAcceptedAfter (earlier ++ batch ∷ []) batches

-- whatever a leaf of the key signs is validly signed, by that leaf
abbrev pub SignsValidly : Secret → Type 0
SignsValidly secret = (q : ℕ) (message : List ℕ) → q < secret_leaves secret
    → IsTrue (lms_valid (public_of_secret secret) message (lms_signature secret q message))
    × (leaf_of (public_of_secret secret) (lms_signature secret q message) ≡ Some q)
