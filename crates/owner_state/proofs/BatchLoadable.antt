-- What a call that reads a whole batch tells of the batch in a block.
use Rattle.std.proofs.Common.{◌≡◌, ℕ, List, Option, Some, None, Result, Ok, Err, refl, sym, ap, ◌∙◌, inl, inr, ◌⊎◌}
use Rattle.std.specs.Prelude.{IfOk}
use Rattle.vo_spec.specs.declared.tables.Batch.{Batch}
use Rattle.vo_spec.specs.declared.tables.Command.{Command}
use Rattle.vo_spec.specs.Bytes.{IsBytes}
use Rattle.vo_spec.specs.Batches.{IsBatch}
use Rattle.row_bytes.specs.declared.read_fault.ReadFault.{ReadFault}
use Rattle.row_bytes.specs.declared.read_fault.ReadFault.TheVariants.{BadForm, Memory}
use Rattle.batch_format.specs.BatchReading.{batch_of, BatchRead}
use Rattle.batch_format.proofs.ReaderLaws.{no_some}
use Rattle.batch_format.proofs.BatchLaws.{batch_found, batch_again}

-- something, or nothing
pub some_or_none : {A : Type 0} (o : Option A) → (o ≡ None) ⊎ ((x : A) × (o ≡ Some x))
some_or_none None = inl refl
some_or_none (Some x) = inr (x, refl)

pub batch_is_read : (text : List ℕ) (r : Result Batch ReadFault) → IsBytes text → IfOk r (λ batch. IsBatch text batch.commands)
    → ((cs : List Command) → IsBatch text cs → BatchRead r (Some cs)) → BatchRead r (batch_of text)
batch_is_read text (Ok batch) fits found only = ap batch_of found.encoded ∙ batch_again batch.commands found.fits
batch_is_read text (Err BadForm) fits found only =
    elim (some_or_none (batch_of text)) [
      | inl e ↦ e
      | inr x ↦ absurd (no_some x.0 (sym (only x.0 (batch_found text x.0 fits x.1))))
    ]
batch_is_read text (Err Memory) fits found only = tt
