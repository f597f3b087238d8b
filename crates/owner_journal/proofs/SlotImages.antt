-- Journals in the images that a crash may leave while a slot is written.
use Rattle.std.proofs.Common.{◌≡◌, ℕ, ◌+◌, ◌⊎◌, inl, inr, List, [], ◌∷◌, ◌++◌, length, drop, get_or, sym, ap, subst, ◌∙◌, append_assoc, arith}
use Rattle.std.specs.List.{AllByRecursion, flat_map}
use Rattle.std.proofs.lemmas.List.{length-append, flat_map_more}
use Rattle.vo_spec.specs.declared.records.Entry.{Entry}
use Rattle.vo_spec.specs.Bytes.{block}
use Rattle.vo_spec.specs.Journals.{FitsEntry, entry_bytes, slot, IsClosed, IsJournal}
use Rattle.outside.specs.DiskModel.{overwrite_at}
use Rattle.outside.specs.Moments.{IsTornImage}
use Rattle.owner_journal.specs.Slots.{WhileSlot}
use Rattle.owner_journal.specs.Resting.{HoldsWith, behind_gate, end_of}
use Rattle.owner_journal.proofs.ByteRuns.{torn_front, torn_byte, written_over}

pub all_with : (es : List Entry) (e : Entry) → AllByRecursion FitsEntry es → FitsEntry e → AllByRecursion FitsEntry (es ++ e ∷ [])
all_with [] e all fits = (fits, tt)
all_with (x ∷ es) e all fits = (all.0, all_with es e all.1 fits)

-- slots and a closed gate are a journal
pub is_journal : (bytes : List ℕ) (es : List Entry) (rest : List ℕ) → AllByRecursion FitsEntry es → IsClosed rest → bytes ≡ flat_map slot es ++ rest → IsJournal bytes es
is_journal bytes [] rest fits shut parts = inr (subst IsClosed (sym parts) shut)
is_journal bytes (e ∷ es) rest fits shut parts = (fits, rest, shut, parts)

-- the slots of these entries, an open gate, and what stands behind it, are a journal of one more
pub opened : (bytes : List ℕ) (es : List Entry) (e : Entry) (tail : List ℕ) → AllByRecursion FitsEntry es → FitsEntry e → bytes ≡ flat_map slot es ++ (1 ∷ (behind_gate e ++ tail)) → bytes ≡ flat_map slot (es ++ e ∷ []) ++ (0 ∷ tail)
opened bytes es e tail all fits parts =
    parts ∙ ap (λ (t : List ℕ). flat_map slot es ++ (1 ∷ t)) (append_assoc (block (entry_bytes e)) (0 ∷ []) tail)
    ∙ sym (append_assoc (flat_map slot es) (slot e) (0 ∷ tail))
    ∙ ap (λ (t : List ℕ). t ++ (0 ∷ tail)) (flat_map_more slot [] es e)

-- behind a closed gate
pub holds_behind : (es : List Entry) (e : Entry) (rest image : List ℕ) → AllByRecursion FitsEntry es → IsClosed rest
    → IsTornImage (end_of es + 1) (length (behind_gate e)) (flat_map slot es ++ rest) image → IsJournal image es
holds_behind es e [] image all shut torn = absurd shut
holds_behind es e (gate ∷ more) image all shut torn =
    let front : List ℕ = flat_map slot es ++ gate ∷ [] in
    let long : length front ≡ end_of es + 1 = length-append (flat_map slot es) (gate ∷ []) in
    let parts : flat_map slot es ++ (gate ∷ more) ≡ front ++ more = sym (append_assoc (flat_map slot es) (gate ∷ []) more) in
    let stays = torn_front front more image (end_of es + 1) (length (behind_gate e)) (omega arith) (subst (λ (t : List ℕ). IsTornImage (end_of es + 1) (length (behind_gate e)) t image) parts torn) in
    is_journal image es (gate ∷ drop (length front) image) all shut (stays ∙ append_assoc (flat_map slot es) (gate ∷ []) (drop (length front) image))

-- what stood behind a gate is now this
abbrev pub written_behind : Entry → List ℕ → List ℕ
written_behind e more = behind_gate e ++ drop (length (behind_gate e)) more

pub behind_parts : (es : List Entry) (e : Entry) (gate : ℕ) (more : List ℕ)
    → overwrite_at (end_of es + 1) (behind_gate e) (flat_map slot es ++ (gate ∷ more)) ≡ flat_map slot es ++ (gate ∷ written_behind e more)
behind_parts es e gate more =
    let front : List ℕ = flat_map slot es ++ gate ∷ [] in
    let long : length front ≡ end_of es + 1 = length-append (flat_map slot es) (gate ∷ []) in
    ap (λ (t : List ℕ). overwrite_at (end_of es + 1) (behind_gate e) t) (sym (append_assoc (flat_map slot es) (gate ∷ []) more))
    ∙ ap (λ (n : ℕ). overwrite_at n (behind_gate e) (front ++ more)) (sym long)
    ∙ written_over front (behind_gate e) more
    ∙ append_assoc (flat_map slot es) (gate ∷ []) (written_behind e more)

open_or_closed : (gate : ℕ) → (gate ≡ 1) ⊎ (gate ≡ 1 → ⊥)
open_or_closed gate = grind arith

-- whatever the gate is
any_gate : (es : List Entry) (e : Entry) (gate : ℕ) (tail image : List ℕ) → AllByRecursion FitsEntry es → FitsEntry e
    → image ≡ flat_map slot es ++ (gate ∷ (behind_gate e ++ tail)) → (gate ≡ 1) ⊎ (gate ≡ 1 → ⊥) → HoldsWith es e image
any_gate es e gate tail image all fits parts (inl is) =
    let open_parts = parts ∙ ap (λ (g : ℕ). flat_map slot es ++ (g ∷ (behind_gate e ++ tail))) is in
    inr (is_journal image (es ++ e ∷ []) (0 ∷ tail) (all_with es e all fits) (λ same. omega (arith, same)) (opened image es e tail all fits open_parts))
any_gate es e gate tail image all fits parts (inr shut) =
    inl (is_journal image es (gate ∷ (behind_gate e ++ tail)) all shut parts)

-- while the gate is opened
pub holds_gate : (es : List Entry) (e : Entry) (rest image : List ℕ) → AllByRecursion FitsEntry es → FitsEntry e → IsClosed rest
    → IsTornImage (end_of es) 1 (overwrite_at (end_of es + 1) (behind_gate e) (flat_map slot es ++ rest)) image → HoldsWith es e image
holds_gate es e [] image all fits shut torn = absurd shut
holds_gate es e (gate ∷ more) image all fits shut torn =
    let here = subst (λ (t : List ℕ). IsTornImage (end_of es) 1 t image) (behind_parts es e gate more) torn in
    let parts = torn_byte (flat_map slot es) gate (written_behind e more) image here in
    any_gate es e (get_or image (end_of es) 0) (drop (length (behind_gate e)) more) image all fits parts (open_or_closed (get_or image (end_of es) 0))

-- meanwhile
pub holds_with : (es : List Entry) (e : Entry) (contents rest image : List ℕ) → AllByRecursion FitsEntry es → FitsEntry e → IsClosed rest → contents ≡ flat_map slot es ++ rest
    → WhileSlot (end_of es) (behind_gate e) contents image → HoldsWith es e image
holds_with es e contents rest image all fits shut parts (inl torn) =
    inl (holds_behind es e rest image all shut (subst (λ (t : List ℕ). IsTornImage (end_of es + 1) (length (behind_gate e)) t image) parts torn))
holds_with es e contents rest image all fits shut parts (inr torn) =
    holds_gate es e rest image all fits shut
    (subst (λ (t : List ℕ). IsTornImage (end_of es) 1 (overwrite_at (end_of es + 1) (behind_gate e) t) image) parts torn)

-- at the end
pub slot_parts : (es : List Entry) (e : Entry) (contents rest : List ℕ) → AllByRecursion FitsEntry es → FitsEntry e → IsClosed rest → contents ≡ flat_map slot es ++ rest
    → (tail : List ℕ) × (overwrite_at (end_of es) (1 ∷ []) (overwrite_at (end_of es + 1) (behind_gate e) contents) ≡ flat_map slot (es ++ e ∷ []) ++ (0 ∷ tail))
slot_parts es e contents [] all fits shut parts = absurd shut
slot_parts es e contents (gate ∷ more) all fits shut parts =
    let tail : List ℕ = drop (length (behind_gate e)) more in
    let behind = ap (overwrite_at (end_of es + 1) (behind_gate e)) parts ∙ behind_parts es e gate more in
    let gate_over = ap (overwrite_at (end_of es) (1 ∷ [])) behind ∙ written_over (flat_map slot es) (1 ∷ []) (gate ∷ written_behind e more) in
    (tail, opened _ es e tail all fits gate_over)
