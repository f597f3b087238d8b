-- Bodies that are put are read back.
use Rattle.std.proofs.Common.{◌≡◌, ℕ, ◌<◌, ◌≤◌, ◌^◌, false, ltb, List, [], ◌++◌, length, Option, Some, None, IfSome, refl, subst, arith, append_assoc, append-nil, length-append}
use Rattle.std.proofs.lemmas.List.{take_at, drop_at}
use Rattle.std.proofs.lemmas.Bool.{le-leb, le-ltb}
use Rattle.std.proofs.lemmas.Nat.{from_be_bytes-to_be_bytes_4}
use Rattle.vo_spec.specs.declared.records.Record.{Record}
use Rattle.vo_spec.specs.Bytes.{u32_bytes, u32_of, u64_bytes, block}
use Rattle.vo_spec.specs.Journals.{max_signature}
use Rattle.vo_spec.specs.Records.{FitsRecord, record_bytes}
use Rattle.row_bytes.specs.Reading.{u32_at, u64_at, byte_at}
use Rattle.row_bytes.specs.Fields.{block_at}
use Rattle.version_record.specs.Reading.{record_at}
use Rattle.version_record.proofs.RecordLaws.{bytes_read, records_read, u64s_read}
use Rattle.store_requests.specs.Bodies.{install_bytes, install_in, standing_bytes, standing_at, standing_in, version_in, query_at_bytes, query_at_in}

-- Blocks.

u32_again : (n : ℕ) → n < 2 ^ 32 → u32_of (u32_bytes n) ≡ n
unfolding u32_bytes u32_of
u32_again n lt = from_be_bytes-to_be_bytes_4 n lt

u32_length : (n : ℕ) → length (u32_bytes n) ≡ 4
unfolding u32_bytes
u32_length n = refl

u32_read : (n : ℕ) (rest : List ℕ) → n < 2 ^ 32 → u32_at (u32_bytes n ++ rest) ≡ Some (n, rest)
unfolding u32_at
u32_read n rest lt =
    let long : ltb (length (u32_bytes n ++ rest)) 4 ≡ false = le-ltb _ _ (omega (arith, u32_length n, length-append (u32_bytes n) rest)) in
    rw (long, take_at (u32_bytes n) rest 4 (u32_length n), drop_at (u32_bytes n) rest 4 (u32_length n), u32_again n lt) refl

block_read : (text rest : List ℕ) → length text < 2 ^ 32 → block_at (block text ++ rest) ≡ Some (text, rest)
unfolding block_at
block_read text rest short =
    rw (append_assoc (u32_bytes (length text)) text rest, u32_read (length text) (text ++ rest) short) ((bytes_read (length text)).again text rest refl)

-- Bodies.

pub install_again : (rec : Record) (signature : List ℕ) → FitsRecord rec → length signature ≤ max_signature
    → install_in (install_bytes rec signature) ≡ Some (rec, signature)
unfolding install_in install_bytes
install_again rec signature fits short =
    let at_block : block_at (block signature) ≡ Some (signature, []) =
    subst (λ (bytes : List ℕ). block_at bytes ≡ Some (signature, [])) (append-nil (block signature)) (block_read signature [] (omega (arith, short))) in
    rw (records_read.again rec (block signature) fits, at_block, le-leb (length signature) max_signature short) refl

pub standing_again : (standing : Option Record) → IfSome standing FitsRecord → standing_in (standing_bytes standing) ≡ Some standing
unfolding standing_in standing_at standing_bytes byte_at
standing_again None fits = refl
standing_again (Some rec) fits =
    let at_record : record_at (record_bytes rec) ≡ Some (rec, []) =
    subst (λ (bytes : List ℕ). record_at bytes ≡ Some (rec, [])) (append-nil (record_bytes rec)) (records_read.again rec [] fits) in
    rw at_record refl

pub version_again : (version : ℕ) → version < 2 ^ 64 → version_in (u64_bytes version) ≡ Some version
unfolding version_in
version_again version fits =
    let at_version : u64_at (u64_bytes version) ≡ Some (version, []) =
    subst (λ (bytes : List ℕ). u64_at bytes ≡ Some (version, [])) (append-nil (u64_bytes version)) (u64s_read.again version [] fits) in
    rw at_version refl

pub query_at_again : (version : ℕ) (text : List ℕ) → version < 2 ^ 64
    → query_at_in (query_at_bytes version text) ≡ Some (version, text)
unfolding query_at_in query_at_bytes
query_at_again version text fits = u64s_read.again version text fits
