-- An entry that is read is encoded so, and what is encoded so is read; slots too.
use Rattle.std.proofs.Common.{◌≡◌, ℕ, ◌+◌, ◌≤◌, eqb, List, [], ◌∷◌, ◌++◌, length, Option, Some, None, codes, refl, sym, ap, subst, ◌∙◌, append_assoc, append-nil, arith, inl, inr}
use Rattle.std.proofs.lemmas.Bool.{eqb-true}
use Rattle.std.proofs.lemmas.List.{length-append}
use Rattle.vo_spec.specs.declared.tables.Command.{Command}
use Rattle.vo_spec.specs.declared.records.Entry.{Entry}
use Rattle.vo_spec.specs.declared.records.Record.{Record}
use Rattle.vo_spec.specs.Bytes.{IsBytes, block, u32_bytes, u64_bytes}
use Rattle.vo_spec.specs.Batches.{FitsBatch, batch_bytes}
use Rattle.vo_spec.specs.Records.{FitsRecord, record_bytes, magic_bytes}
use Rattle.vo_spec.specs.Journals.{FitsEntry, entry_bytes, slot, max_proofs, max_signature}
use Rattle.row_bytes.proofs.Readers.{IsBytes-rest, chosen}
use Rattle.row_bytes.proofs.ValueLaws.{u64_length}
use Rattle.batch_format.specs.BatchReading.{batch_of, one, two, three, four}
use Rattle.batch_format.proofs.ReaderLaws.{Took, IsReader, took_then, no_some, next_found, next_again}
use Rattle.batch_format.proofs.BatchLaws.{one_found, batch_found, batch_again}
use Rattle.version_record.specs.Reading.{record_at}
use Rattle.version_record.proofs.RecordLaws.{magic_long, words_read, records_read, whole_is}
use Rattle.owner_state.specs.Reading.{within, limited_at, batch_at, entry_with, entry_at, entry_of, slot_at}
use Rattle.owner_state.proofs.BlockLaws.{IsShort, HasAtMost, IsWholeReader, u32_length, limited_read, within_read}

-- Parts of an entry.

whole_batches : IsWholeReader batch_of batch_bytes FitsBatch
whole_batches = record {
  found = λ bytes cs fits e. let is = batch_found bytes cs fits e in (is.encoded, is.fits);
  again = batch_again;
  short = λ cs fits. omega (arith, fits.size);
}

abbrev batch_block : List Command → List ℕ
batch_block cs = block (batch_bytes cs)

batches_read : IsReader batch_at batch_block FitsBatch
unfolding batch_at
batches_read = within_read batch_of batch_bytes FitsBatch whole_batches

proofs_read : IsReader (limited_at max_proofs) block (HasAtMost max_proofs)
proofs_read = limited_read max_proofs (omega arith)

signatures_read : IsReader (limited_at max_signature) block (HasAtMost max_signature)
signatures_read = limited_read max_signature (omega arith)

-- Entries.

entry_found : (bytes : List ℕ) (x : Entry) (rest : List ℕ) → IsBytes bytes → entry_at bytes ≡ Some (x, rest) → Took bytes (entry_bytes x) rest × FitsEntry x
unfolding entry_at entry_bytes
entry_found bytes x rest fits e =
    let y : Entry × List ℕ = (x, rest) in
    let m = next_found (words_read (codes "VOE1")) (λ m. four entry_with batch_at (limited_at max_proofs) record_at (limited_at max_signature)) bytes y fits e in
    let a = next_found batches_read (λ cs. three (entry_with cs) (limited_at max_proofs) record_at (limited_at max_signature)) m.1 y m.2.behind m.4 in
    let b = next_found proofs_read (λ p. two (entry_with a.0 p) record_at (limited_at max_signature)) a.1 y a.2.behind a.4 in
    let c = next_found records_read (λ r. one (entry_with a.0 b.0 r) (limited_at max_signature)) b.1 y b.2.behind b.4 in
    let d = one_found signatures_read (entry_with a.0 b.0 c.0) c.1 y c.2.behind c.4 in
    let first : Took bytes (codes "VOE1") m.1 = subst (λ (w : List ℕ). Took bytes w m.1) m.3 m.2 in
    let ma = took_then bytes (codes "VOE1") m.1 (batch_block a.0) a.1 first a.2 in
    let mab = took_then bytes (codes "VOE1" ++ batch_block a.0) a.1 (block b.0) b.1 ma b.2 in
    let mabc = took_then bytes (codes "VOE1" ++ batch_block a.0 ++ block b.0) b.1 (record_bytes c.0) c.1 mab c.2 in
    let all = took_then bytes (codes "VOE1" ++ batch_block a.0 ++ block b.0 ++ record_bytes c.0) c.1 (block d.0) d.1 mabc d.2 in
    subst (λ (p : Entry × List ℕ). Took bytes (entry_bytes p.0) p.1 × FitsEntry p.0) d.4
    (all, record { batch = a.3; proofs = b.3; rec = c.3; signature = d.3 })

entry_again : (x : Entry) (rest : List ℕ) → FitsEntry x → entry_at (entry_bytes x ++ rest) ≡ Some (x, rest)
unfolding entry_at entry_bytes
entry_again x rest fits =
    let word : List ℕ = codes "VOE1" in
    let cs : List Command = x.batch.commands in
    let last : List ℕ = block x.signature ++ rest in
    let later : List ℕ = record_bytes x.rec ++ last in
    let behind : List ℕ = block x.proofs ++ later in
    ap entry_at (append_assoc (word ++ batch_block cs ++ block x.proofs ++ record_bytes x.rec) (block x.signature) rest
    ∙ append_assoc (word ++ batch_block cs ++ block x.proofs) (record_bytes x.rec) last
    ∙ append_assoc (word ++ batch_block cs) (block x.proofs) later
    ∙ append_assoc word (batch_block cs) behind)
    ∙ next_again (words_read (codes "VOE1")) (λ m. four entry_with batch_at (limited_at max_proofs) record_at (limited_at max_signature)) word (batch_block cs ++ behind) refl
    ∙ next_again batches_read (λ cs. three (entry_with cs) (limited_at max_proofs) record_at (limited_at max_signature)) cs behind fits.batch
    ∙ next_again proofs_read (λ p. two (entry_with cs p) record_at (limited_at max_signature)) x.proofs later fits.proofs
    ∙ next_again records_read (λ r. one (entry_with cs x.proofs r) (limited_at max_signature)) x.rec last fits.rec
    ∙ next_again signatures_read (λ s rest. let made : Option (Entry × List ℕ) = Some (entry_with cs x.proofs x.rec s, rest) in made) x.signature rest fits.signature

-- How long an entry is.

block_length : (text : List ℕ) → length (block text) ≡ 4 + length text
block_length text = length-append (u32_bytes (length text)) text ∙ ap (λ n. n + length text) (u32_length (length text))

pub record_long : (rec : Record) → FitsRecord rec → length (record_bytes rec) ≡ 60
unfolding record_bytes
record_long rec fits =
    omega (
      arith,
      length-append (magic_bytes rec.magic ++ rec.id ++ u64_bytes rec.version) rec.catalog,
      length-append (magic_bytes rec.magic ++ rec.id) (u64_bytes rec.version),
      length-append (magic_bytes rec.magic) rec.id,
      magic_long rec.magic,
      u64_length rec.version,
      fits.id,
      fits.catalog,
    )

pub entry_long : (x : Entry) → FitsEntry x → length (entry_bytes x) ≡ 76 + length (batch_bytes x.batch.commands) + length x.proofs + length x.signature
unfolding entry_bytes
entry_long x fits =
    let word : List ℕ = codes "VOE1" in
    let cs : List Command = x.batch.commands in
    omega (
      arith,
      length-append (word ++ batch_block cs ++ block x.proofs ++ record_bytes x.rec) (block x.signature),
      length-append (word ++ batch_block cs ++ block x.proofs) (record_bytes x.rec),
      length-append (word ++ batch_block cs) (block x.proofs),
      length-append word (batch_block cs),
      block_length (batch_bytes cs),
      block_length x.proofs,
      record_long x.rec fits.rec,
      block_length x.signature,
    )

pub entry_short : (x : Entry) → FitsEntry x → IsShort (entry_bytes x)
entry_short x fits = omega (arith, entry_long x fits, fits.batch.size, fits.proofs, fits.signature)

-- Slots.

whole_entries : IsWholeReader entry_of entry_bytes FitsEntry
unfolding entry_of
whole_entries = record {
  found = λ bytes x fits e.
      let f = entry_found bytes x [] fits (whole_is (entry_at bytes) x e) in
      (f.0.parts ∙ append-nil (entry_bytes x), f.1);
  again = λ x fits. ap (λ (t : List ℕ). entry_of t) (sym (append-nil (entry_bytes x))) ∙ rw (entry_again x [] fits) refl;
  short = entry_short;
}

abbrev entry_block : Entry → List ℕ
entry_block x = block (entry_bytes x)

entry_blocks_read : IsReader (within entry_of) entry_block FitsEntry
entry_blocks_read = within_read entry_of entry_bytes FitsEntry whole_entries

pub slot_found : (bytes : List ℕ) (x : Entry) (rest : List ℕ) → IsBytes bytes → slot_at bytes ≡ Some (x, rest) → Took bytes (slot x) rest × FitsEntry x
unfolding slot_at
slot_found [] x rest fits e = absurd cc
slot_found (gate ∷ bytes) x rest fits e =
    elim (chosen (eqb gate 1) (within entry_of bytes) None (Some (x, rest)) e) [
      | inl a ↦
          let f = entry_blocks_read.found bytes x rest (IsBytes-rest gate bytes fits) a.1 in
          (record { parts = ap (λ (g : ℕ). g ∷ bytes) (eqb-true gate 1 a.0) ∙ ap (λ (t : List ℕ). 1 ∷ t) f.0.parts; behind = f.0.behind }, f.1)
      | inr a ↦ absurd (no_some (x, rest) a.1)
    ]

pub slot_again : (x : Entry) (rest : List ℕ) → FitsEntry x → slot_at (slot x ++ rest) ≡ Some (x, rest)
unfolding slot_at
slot_again x rest fits = entry_blocks_read.again x rest fits

pub slot_long : (x : Entry) → 5 ≤ length (slot x)
slot_long x = omega (arith, block_length (entry_bytes x))
