-- How long slots are.
use Rattle.std.proofs.Common.{◌≡◌, ◌+◌, ◌*◌, ◌^◌, ◌≤◌, List, [], ◌∷◌, ◌++◌, length, sym, ap, ◌∙◌, arith}
use Rattle.std.specs.List.{AllByRecursion, flat_map}
use Rattle.std.proofs.lemmas.List.{length-append, flat_map_more}
use Rattle.vo_spec.specs.declared.records.Entry.{Entry}
use Rattle.vo_spec.specs.Batches.{batch_bytes}
use Rattle.vo_spec.specs.Bytes.{block, u32_bytes}
use Rattle.vo_spec.specs.Journals.{FitsEntry, entry_bytes, slot}
use Rattle.owner_state.proofs.BlockLaws.{u32_length}
use Rattle.owner_state.proofs.EntryLaws.{entry_long}
use Rattle.owner_journal.specs.Resting.{behind_gate, end_of}

pub behind_short : (e : Entry) → FitsEntry e → length (behind_gate e) ≤ 2 ^ 28
behind_short e fits =
    omega (
      arith,
      length-append (block (entry_bytes e)) (0 ∷ []),
      length-append (u32_bytes (length (entry_bytes e))) (entry_bytes e),
      u32_length (length (entry_bytes e)),
      entry_long e fits,
      fits.batch.size,
      fits.proofs,
      fits.signature,
    )

pub slot_sum : (e : Entry) → FitsEntry e → length (slot e) ≡ 81 + length (batch_bytes e.batch.commands) + length e.proofs + length e.signature
slot_sum e fits =
    omega (arith, length-append (u32_bytes (length (entry_bytes e))) (entry_bytes e), u32_length (length (entry_bytes e)), entry_long e fits)

slot_length : (e : Entry) → length (slot e) ≡ length (behind_gate e)
slot_length e = omega (arith, length-append (block (entry_bytes e)) (0 ∷ []))

-- the gate of an entry's slot and what stands behind it, up to the next gate
pub end_more : (es : List Entry) (e : Entry) → end_of (es ++ e ∷ []) ≡ end_of es + length (behind_gate e)
end_more es e =
    sym (ap length (flat_map_more slot [] es e)) ∙ length-append (flat_map slot es) (slot e) ∙ ap (λ n. end_of es + n) (slot_length e)

pub slots_short : (es : List Entry) → AllByRecursion FitsEntry es → end_of es ≤ length es * 2 ^ 28
slots_short [] all = omega arith
slots_short (e ∷ es) all =
    omega (arith, length-append (slot e) (flat_map slot es), slot_length e, behind_short e all.0, slots_short es all.1)
