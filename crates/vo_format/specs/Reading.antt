-- What reading gives of replies and proofs, from the front of bytes.
use Rattle.std.specs.Prelude.{ℕ, nat_le, List, length, if◌then◌else◌, Option, Some, None, codes}
use Rattle.vo_spec.specs.declared.records.Magic.{Magic}
use Rattle.vo_spec.specs.declared.records.Record.{Record}
use Rattle.vo_spec.specs.declared.records.Catalog.{Catalog}
use Rattle.vo_spec.specs.Trees.{RowTree}
use Rattle.vo_spec.specs.Fits.{max_levels}
use Rattle.vo_spec.specs.Batches.{max_commands}
use Rattle.vo_spec.specs.Journals.{max_signature, max_proofs}
use Rattle.vo_spec.specs.Replies.{Reply}
use Rattle.row_bytes.specs.Reading.{byte_at, u16_at}
use Rattle.row_bytes.specs.Fields.{◌>>=◌, where_true, block_at, word_at, times, whole}
use Rattle.batch_format.specs.BatchReading.{Reader, two}
use Rattle.version_record.specs.Reading.{record_at, catalog_of_record}
use Rattle.batch_format.specs.TreeReading.{tree_at}

-- Replies.

unfoldable pub signature_at : Reader (List ℕ)
signature_at bytes = block_at bytes >>= λ signature. where_true
    (nat_le (length signature.0) max_signature) signature

-- a catalog behind its length, whose record begins with this
unfoldable pub catalog_block_at : Magic → Reader Catalog
catalog_block_at magic bytes = block_at bytes >>= λ block. catalog_of_record magic block.0 >>=
    λ catalog. Some (catalog, block.1)

-- trees behind a byte that says how many there are
unfoldable pub counted_trees_at : Reader (List RowTree)
counted_trees_at bytes = byte_at bytes >>= λ count. times (tree_at max_levels) count.0 count.1

abbrev pub plain_reply : Record → List ℕ → Catalog → List RowTree → Reply
plain_reply rec signature catalog trees =
    record { rec = rec; signature = signature; catalog = catalog; trees = trees }

unfoldable pub reply_at : Reader Reply
reply_at bytes = word_at (codes "VOR1") bytes >>= λ word. record_at word.1 >>= λ rec.
    signature_at rec.1 >>= λ signature. two (plain_reply rec.0 signature.0)
    (catalog_block_at rec.0.magic) counted_trees_at signature.1

-- Proofs.

unfoldable pub proofs_at : Reader (List RowTree)
proofs_at bytes = word_at (codes "VOU1") bytes >>= λ magic. u16_at magic.1 >>= λ count.
    where_true (nat_le count.0 max_commands) count >>= λ count. times (tree_at max_levels)
    count.0 count.1

-- the proofs that all the bytes are
unfoldable pub proofs_of : List ℕ → Option (List RowTree)
proofs_of bytes = if nat_le (length bytes) max_proofs then whole (proofs_at bytes) else None
