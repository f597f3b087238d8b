use Rattle.std.proofs.Common.{◌≡◌, ℕ, List, [], ◌++◌, length, drop, replicate, refl, ap, ◌∙◌, append-nil, length-append, arith}
use Rattle.vo_spec.specs.Records.{record_bytes}
use Rattle.version_record.proofs.Laid.{laid}
use Rattle.version_record.proofs.records.record_bytes.Goals as goal

pub returns : goal.returns
unfolding record_bytes
returns c =
    let zeros : List ℕ = replicate 60 0 in
    let magic : List ℕ = c.magic_bytes.result in
    let id : List ℕ = c.args.rec.now.id in
    let version : List ℕ = c.u64_bytes.result in
    let catalog : List ℕ = c.as_bytes.result.now in
    let magic_long : length magic ≡ 4 = c.put_chunk.ensures.len in
    let id_long : length id ≡ 16 = c.put_chunk-2.ensures.len in
    let version_long : length version ≡ 8 = c.put_chunk-3.ensures.len in
    let catalog_long : length catalog ≡ 32 = c.put_chunk-4.ensures.len in
    let one : c.put_chunk.new.bytes ≡ magic ++ drop (length magic) zeros = laid [] zeros magic zeros _ 0 refl refl c.put_chunk.ensures.put in
    let two : c.put_chunk-2.new.bytes ≡ (magic ++ id) ++ drop (length id) (drop (length magic) zeros) = laid magic (drop (length magic) zeros) id _ _ 4 magic_long one c.put_chunk-2.ensures.put in
    let front : length (magic ++ id) ≡ 20 = length-append magic id ∙ omega (arith, magic_long, id_long) in
    let three : c.put_chunk-3.new.bytes ≡ ((magic ++ id) ++ version) ++ drop (length version) (drop (length id) (drop (length magic) zeros)) =
    laid (magic ++ id) (drop (length id) (drop (length magic) zeros)) version _ _ 20 front two c.put_chunk-3.ensures.put in
    let longer : length ((magic ++ id) ++ version) ≡ 28 = length-append (magic ++ id) version ∙ omega (arith, front, version_long) in
    let four : c.put_chunk-4.new.bytes ≡ (((magic ++ id) ++ version) ++ catalog) ++ drop (length catalog) (drop (length version) (drop (length id) (drop (length magic) zeros))) =
    laid ((magic ++ id) ++ version) (drop (length version) (drop (length id) (drop (length magic) zeros))) catalog _ _ 28 longer three c.put_chunk-4.ensures.put in
    let nothing : drop (length catalog) (drop (length version) (drop (length id) (drop (length magic) zeros))) ≡ [] = rw (catalog_long, version_long, id_long, magic_long) refl in
    four ∙ ap (λ rest. (((magic ++ id) ++ version) ++ catalog) ++ rest) nothing ∙ append-nil (((magic ++ id) ++ version) ++ catalog)
    ∙ rw (c.magic_bytes.ensures, c.u64_bytes.ensures, c.as_bytes.ensures.value) refl
