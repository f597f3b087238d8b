-- What reading gives of the head of a reply: the record, its signature and the catalog.
use Rattle.std.specs.Prelude.{◌≡◌, ℕ, nat_le, List, length, Some, None, codes}
use Rattle.vo_spec.specs.declared.records.Magic.{Magic}
use Rattle.vo_spec.specs.declared.records.Record.{Record}
use Rattle.vo_spec.specs.declared.records.Catalog.{Catalog}
use Rattle.vo_spec.specs.Journals.{max_signature}
use Rattle.row_bytes.specs.Reading.{bytes_at}
use Rattle.row_bytes.specs.Fields.{◌>>=◌, where_true, word_at}
use Rattle.batch_format.specs.BatchReading.{Reader, one}
use Rattle.version_record.specs.Reading.{record_at, catalog_of_record}
use Rattle.vo_format.specs.Reading.{signature_at, catalog_block_at}
use Rattle.reply_stream.specs.ReplyHeads.{ReplyHead}
use Rattle.reply_stream.specs.declared.head_state.HeadState.{HeadState}
use Rattle.reply_stream.specs.declared.head_state.HeadState.TheVariants.{Front, SignatureLength, Signature, CatalogLength, Catalog as CatalogBytes, Complete, Invalid}

abbrev pub head : Record → List ℕ → Catalog → ReplyHead
head rec signature catalog = record { rec = rec; signature = signature; catalog = catalog }

-- the first word, and the record behind it
unfoldable pub front_at : Reader Record
front_at bytes = word_at (codes "VOR1") bytes >>= λ word. record_at word.1

-- a catalog behind its length, behind a record and its signature
abbrev pub signed_head_at : Record → List ℕ → Reader ReplyHead
signed_head_at rec signature bytes =
    one (head rec signature) (catalog_block_at rec.magic) bytes

unfoldable pub head_at : Reader ReplyHead
head_at bytes = front_at bytes >>= λ rec. signature_at rec.1 >>= λ signature.
    signed_head_at rec.0 signature.0 signature.1

-- What reading the bytes to come gives of a head that is read in part.

-- a signature of so many bytes
abbrev pub signature_of_size : ℕ → Reader (List ℕ)
signature_of_size size bytes = bytes_at size bytes >>= λ signature.
    where_true (nat_le (length signature.0) max_signature) signature

-- a catalog of so many bytes, whose record begins with this
abbrev pub catalog_of_size : Magic → ℕ → Reader Catalog
catalog_of_size magic size bytes = bytes_at size bytes >>=
    λ block. catalog_of_record magic block.0 >>= λ c. Some (c, block.1)

unfoldable pub rest_of_head : HeadState → Reader ReplyHead
rest_of_head Front bytes = head_at bytes
rest_of_head (SignatureLength rec) bytes =
    signature_at bytes >>= λ signature. signed_head_at rec signature.0 signature.1
rest_of_head (Signature field) bytes = signature_of_size field.size bytes >>= λ signature.
    signed_head_at field.rec signature.0 signature.1
rest_of_head (CatalogLength signed) bytes = signed_head_at signed.rec signed.signature bytes
rest_of_head (CatalogBytes field) bytes =
    one (head field.signed.rec field.signed.signature)
    (catalog_of_size field.signed.rec.magic field.size) bytes
rest_of_head (Complete found) bytes = Some (found, bytes)
rest_of_head Invalid bytes = None

-- whatever comes next, this is what comes of it
pub record Yields (state : HeadState) (read : Reader ReplyHead) : Type 0 where
  pub each : (rest : List ℕ) → rest_of_head state rest ≡ read rest
