-- The bodies of frames that hold records and versions.
use Rattle.std.specs.Prelude.{ℕ, ◌==◌, ◌&&◌, nat_le, if◌then◌else◌, List, [], ◌∷◌, ◌++◌, length, Option, Some, None}
use Rattle.vo_spec.specs.declared.records.Record.{Record}
use Rattle.vo_spec.specs.Bytes.{block, u64_bytes}
use Rattle.vo_spec.specs.Journals.{max_signature}
use Rattle.vo_spec.specs.Records.{record_bytes}
use Rattle.row_bytes.specs.Reading.{byte_at, u64_at}
use Rattle.row_bytes.specs.Fields.{◌>>=◌, where_true, block_at, whole}
use Rattle.version_record.specs.Reading.{record_at}

-- Installs: a record, and its signature behind the length.

unfoldable pub install_bytes : Record → List ℕ → List ℕ
install_bytes rec signature = record_bytes rec ++ block signature

-- the record and the signature that all the bytes are
unfoldable pub install_in : List ℕ → Option (Record × List ℕ)
install_in bytes = record_at bytes >>= λ rec. block_at rec.1 >>= λ signature.
    where_true (length signature.1 == 0 && nat_le (length signature.0) max_signature)
    (rec.0, signature.0)

-- Where a store stands: a byte that says whether a version is installed, and then its record.

unfoldable pub standing_bytes : Option Record → List ℕ
standing_bytes None = 0 ∷ []
standing_bytes (Some rec) = 1 ∷ record_bytes rec

abbrev pub behind_flag : ℕ → List ℕ → Option (Option Record × List ℕ)
behind_flag flag bytes =
    if flag == 0 then Some (None, bytes)
    else if flag == 1 then (record_at bytes >>= λ rec. Some (Some rec.0, rec.1))
    else None

unfoldable pub standing_at : List ℕ → Option (Option Record × List ℕ)
standing_at bytes = byte_at bytes >>= λ flag. behind_flag flag.0 flag.1

unfoldable pub standing_in : List ℕ → Option (Option Record)
standing_in bytes = whole (standing_at bytes)

-- Versions: eight bytes.

unfoldable pub version_in : List ℕ → Option ℕ
version_in bytes = whole (u64_at bytes)

-- Queries of a version: the version, and the text behind it.

unfoldable pub query_at_bytes : ℕ → List ℕ → List ℕ
query_at_bytes version text = u64_bytes version ++ text

-- the version and the text, which may be no query
unfoldable pub query_at_in : List ℕ → Option (ℕ × List ℕ)
query_at_in bytes = u64_at bytes
