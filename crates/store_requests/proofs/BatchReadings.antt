-- What reading a batch says of bytes is what they are.
use Rattle.std.proofs.Common.{◌≡◌, ℕ, List, Option, Some, None, Err, refl, ap, ◌∙◌}
use Rattle.vo_spec.specs.declared.tables.Command.{Command}
use Rattle.vo_spec.specs.Bytes.{IsBytes}
use Rattle.vo_spec.specs.Batches.{IsBatch}
use Rattle.row_bytes.specs.declared.read_fault.ReadFault.TheVariants.{BadForm}
use Rattle.batch_format.specs.BatchReading.{batch_of, BatchRead}
use Rattle.batch_format.proofs.BatchLaws.{batch_found, batch_again}

pub batch_read : (bytes : List ℕ) (commands : List Command) → IsBatch bytes commands → batch_of bytes ≡ Some commands
batch_read bytes commands is = ap batch_of is.encoded ∙ batch_again commands is.fits

-- bytes that are refused are no batch
pub no_batch : (bytes : List ℕ) → IsBytes bytes
    → ((commands : List Command) → IsBatch bytes commands → BatchRead (Err BadForm) (Some commands)) → batch_of bytes ≡ None
no_batch bytes are only = none_of (batch_of bytes) refl
  where
    none_of : (found : Option (List Command)) → batch_of bytes ≡ found → batch_of bytes ≡ None
    none_of None e = e
    none_of (Some commands) e = let no : Some commands ≡ None = only commands (batch_found bytes commands are e) in absurd (cc)
