-- How many bytes of a head are held.
use Rattle.std.proofs.Common.{◌≡◌, ℕ, ◌+◌, ◌-◌, ◌^◌, ◌<◌, List, [], ◌++◌, length, Option, Some, None, refl, sym, ap, ◌∙◌, ◌⊎◌, inl, inr, arith}
use Rattle.std.specs.Prelude.{min}
use Rattle.std.proofs.Math.Nat.{min-eq_left}
use Rattle.std.proofs.lemmas.List.{length-append}
use Rattle.vo_spec.specs.declared.records.Record.{Record}
use Rattle.vo_spec.specs.Bytes.{u32_bytes, u64_bytes}
use Rattle.vo_spec.specs.Records.{FitsRecord, magic_bytes, record_bytes}
use Rattle.version_record.proofs.RecordLaws.{magic_long}
use Rattle.tree_stream.proofs.HeldLaws.{length-u64}
use Rattle.reply_stream.specs.ReplyHeads.{ReplyHead}
use Rattle.reply_stream.specs.declared.head_state.HeadState.{HeadState}
use Rattle.reply_stream.specs.declared.head_state.HeadState.TheVariants.{Front, SignatureLength, Signature, CatalogLength, Catalog, Complete, Invalid}
use Rattle.reply_stream.specs.declared.head_stream.HeadStream.{HeadStream}
use Rattle.reply_stream.specs.HeadFields.{field_size, taken_count}
use Rattle.reply_stream.specs.HeadFronts.{TookFields, front_bytes}
use Rattle.reply_stream.specs.Heads.{rest_of_head}
use Rattle.reply_stream.specs.HeadStreams.{IsBehind, head_of, held_in}
use Rattle.reply_stream.proofs.HeadFronts.{u32_size}

front_length : (rec : Record) → FitsRecord rec → length (front_bytes rec) ≡ 64
unfolding record_bytes
front_length rec fits =
    let magic : List ℕ = magic_bytes rec.magic in
    omega (
      arith,
      magic_long rec.magic,
      fits.id,
      fits.catalog,
      length-u64 rec.version,
      length-append (magic ++ rec.id ++ u64_bytes rec.version) rec.catalog,
      length-append (magic ++ rec.id) (u64_bytes rec.version),
      length-append magic rec.id,
    )

-- what was taken is counted, where a field is to come
taken_is : (state : HeadState) (taken : List ℕ) (size : ℕ) → field_size state ≡ Some size → TookFields state taken → taken_count state ≡ length taken
taken_is Front taken size is took = sym (ap (λ (t : List ℕ). length t) took)
taken_is (SignatureLength rec) taken size is took = omega (arith, ap (λ (t : List ℕ). length t) took.1, front_length rec took.0)
taken_is (Signature field) taken size is took =
    omega (arith, ap (λ (t : List ℕ). length t) took.1, front_length field.rec took.0, u32_size field.size, length-append (front_bytes field.rec) (u32_bytes field.size))
taken_is (CatalogLength signed) taken size is took =
    let s : List ℕ = signed.signature in
    omega (
      arith,
      ap (λ (t : List ℕ). length t) took.2,
      front_length signed.rec took.0,
      u32_size (length s),
      length-append (front_bytes signed.rec) (u32_bytes (length s) ++ s),
      length-append (u32_bytes (length s)) s,
    )
taken_is (Catalog field) taken size is took =
    let s : List ℕ = field.signed.signature in
    omega (
      arith,
      ap (λ (t : List ℕ). length t) took.2,
      front_length field.signed.rec took.0,
      u32_size (length s),
      u32_size field.size,
      length-append (front_bytes field.signed.rec) ((u32_bytes (length s) ++ s) ++ u32_bytes field.size),
      length-append (u32_bytes (length s) ++ s) (u32_bytes field.size),
      length-append (u32_bytes (length s)) s,
    )
taken_is (Complete found) taken size is took = absurd cc
taken_is Invalid taken size is took = absurd cc

pub held_front : (stream : HeadStream) (bytes : List ℕ) (count : ℕ) → count ≡ min (held_in stream) (2 ^ 64 - 1) → head_of stream [] ≡ None → IsBehind stream bytes → length bytes < 2 ^ 64
    → (count ≡ length bytes) ⊎ ((count ≡ 0) × ((more : List ℕ) → head_of stream more ≡ None))
unfolding head_of rest_of_head
held_front stream bytes count is none behind few = by stream.state refl
  where
    all : length bytes ≡ length behind.taken + length stream.held.items
    all = ap (λ (t : List ℕ). length t) behind.parts ∙ length-append behind.taken stream.held.items

    going : (size : ℕ) → field_size stream.state ≡ Some size → count ≡ length bytes
    going size e =
        let same : held_in stream ≡ length bytes = ap (λ (n : ℕ). n + length stream.held.items) (taken_is stream.state behind.taken size e behind.took) ∙ sym all in
        is ∙ ap (λ (n : ℕ). min n (2 ^ 64 - 1)) same ∙ min-eq_left (omega (arith, few))

    by : (state : HeadState) → stream.state ≡ state → (count ≡ length bytes) ⊎ ((count ≡ 0) × ((more : List ℕ) → head_of stream more ≡ None))
    by Front e = inl (going 64 (ap field_size e))
    by (SignatureLength rec) e = inl (going 4 (ap field_size e))
    by (Signature field) e = inl (going field.size (ap field_size e))
    by (CatalogLength signed) e = inl (going 4 (ap field_size e))
    by (Catalog field) e = inl (going field.size (ap field_size e))
    by (Complete found) e =
        let lost : (let some : Option (ReplyHead × List ℕ) = Some (found, stream.held.items ++ []) in some ≡ None) = sym (ap (λ (s : HeadState). rest_of_head s (stream.held.items ++ [])) e) ∙ none in
        absurd cc
    by Invalid e =
        let held : stream.held.items ≡ [] = stream.kept (ap field_size e) in
        let nothing : held_in stream ≡ 0 = omega (arith, ap taken_count e, ap (λ (t : List ℕ). length t) held) in
        inr (is ∙ ap (λ (n : ℕ). min n (2 ^ 64 - 1)) nothing, λ more. ap (λ (s : HeadState). rest_of_head s (stream.held.items ++ more)) e)
