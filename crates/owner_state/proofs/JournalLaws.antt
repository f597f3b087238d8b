-- Journals: which entries can be read from the front, and how they end.
use Rattle.std.proofs.Common.{◌≡◌, ℕ, ◌+◌, ◌<◌, ◌≤◌, Bool, true, false, cond, eqb, List, [], ◌∷◌, ◌++◌, length, take, Option, Some, None, refl, sym, ap, subst, ◌∙◌, append_assoc, append-nil, arith, inl, inr}
use Rattle.std.specs.List.{AllByRecursion, flat_map}
use Rattle.std.proofs.lemmas.Bool.{ne_eqb}
use Rattle.std.proofs.lemmas.List.{take_at, length-append, flat_map_more}
use Rattle.vo_spec.specs.declared.records.Entry.{Entry}
use Rattle.vo_spec.specs.Bytes.{IsBytes}
use Rattle.vo_spec.specs.Journals.{FitsEntry, slot, Begins, IsClosed, IsJournal, IsDamaged}
use Rattle.row_bytes.specs.Reading.{u32_at}
use Rattle.row_bytes.specs.Fields.{block_at, Found}
use Rattle.row_bytes.proofs.Readers.{IsBytes-after}
use Rattle.batch_format.proofs.ReaderLaws.{some_is, no_some}
use Rattle.owner_state.specs.Reading.{within, entry_of, slot_at}
use Rattle.owner_state.specs.Endings.{StopsAt, EndsClosed, EndsAt, EndsSo, behind}
use Rattle.owner_state.specs.declared.slot_reading.Ending.{Ending}
use Rattle.owner_state.specs.declared.slot_reading.Ending.TheVariants.{Closed, Damaged}
use Rattle.owner_state.proofs.BatchLoadable.{some_or_none}
use Rattle.owner_state.proofs.EntryLaws.{slot_found, slot_again, slot_long}

-- One slot more.

pub all_more : (es : List Entry) (e : Entry) → AllByRecursion FitsEntry es → FitsEntry e → AllByRecursion FitsEntry (es ++ e ∷ [])
all_more [] e all fits = (fits, tt)
all_more (x ∷ es) e all fits = (all.0, all_more es e all.1 fits)

abbrev pub InFront : List ℕ → List Entry → List ℕ → Type 0
InFront bytes es rest = AllByRecursion FitsEntry es × (bytes ≡ flat_map slot es ++ rest)

pub one_more : (bytes : List ℕ) (es : List Entry) (rest : List ℕ) (e : Entry) (new : List ℕ) → IsBytes rest → InFront bytes es rest
    → slot_at rest ≡ Some (e, new) → InFront bytes (es ++ e ∷ []) new
one_more bytes es rest e new fits front read =
    let f = slot_found rest e new fits read in (
      all_more es e front.0 f.1,
      front.1 ∙ ap (λ (t : List ℕ). flat_map slot es ++ t) f.0.parts ∙ sym (append_assoc (flat_map slot es) (slot e) new)
          ∙ ap (λ (t : List ℕ). t ++ new) (flat_map_more slot [] es e),
    )

pub shorter : (rest : List ℕ) (e : Entry) (new : List ℕ) → IsBytes rest → slot_at rest ≡ Some (e, new) → length new < length rest
shorter rest e new fits read =
    let f = slot_found rest e new fits read in
    omega (arith, ap length f.0.parts, length-append (slot e) new, slot_long e)

-- what a call took that found a slot
pub slot_taken : (r : Option Entry) (e : Entry) (old new : List ℕ) (read : Option (Entry × List ℕ))
    → Found (λ (e : Entry). e) r old new read → r ≡ Some e → read ≡ Some (e, new)
slot_taken None e old new read found is = absurd (no_some e is)
slot_taken (Some x) e old new read found is = found ∙ ap (λ (y : Entry). Some (y, new)) (some_is x e is)

-- Bytes have one reading.

-- of two lists of entries in front of bytes, the one that stops holds the other
fronts_agree : (xs es : List Entry) (a b : List ℕ) → AllByRecursion FitsEntry xs → AllByRecursion FitsEntry es → flat_map slot xs ++ a ≡ flat_map slot es ++ b
    → slot_at b ≡ None → (ys : List Entry) × AllByRecursion FitsEntry ys × (es ≡ xs ++ ys) × (a ≡ flat_map slot ys ++ b)
fronts_agree [] es a b fx fe e stop = (es, fe, refl, e)
fronts_agree (x ∷ xs) [] a b fx fe e stop =
    let rest : List ℕ = flat_map slot xs ++ a in
    let read : slot_at b ≡ Some (x, rest) = ap slot_at (sym e ∙ append_assoc (slot x) (flat_map slot xs) a) ∙ slot_again x rest fx.0 in
    absurd (no_some (x, rest) (sym stop ∙ read))
fronts_agree (x ∷ xs) (y ∷ es) a b fx fe e stop =
    let r : List ℕ = flat_map slot xs ++ a in
    let s : List ℕ = flat_map slot es ++ b in
    let same : slot x ++ r ≡ slot y ++ s = sym (append_assoc (slot x) (flat_map slot xs) a) ∙ e ∙ append_assoc (slot y) (flat_map slot es) b in
    let both : (x, r) ≡ (y, s) = some_is (x, r) (y, s) (sym (slot_again x r fx.0) ∙ ap slot_at same ∙ slot_again y s fe.0) in
    let f = fronts_agree xs es a b fx.1 fe.1 (ap (λ (p : Entry × List ℕ). p.1) both) stop in
    (f.0, f.1, ap (λ (z : Entry). z ∷ es) (sym (ap (λ (p : Entry × List ℕ). p.0) both)) ∙ ap (λ (zs : List Entry). x ∷ zs) f.2, f.3)

pub only_first : (bytes : List ℕ) (es : List Entry) (rest : List ℕ) (xs : List Entry) → StopsAt bytes es rest → Begins bytes xs
    → (xs ≡ take (length xs) es) × (length xs ≤ length es)
only_first bytes es rest xs s b =
    let f = fronts_agree xs es b.1 rest b.0 s.0 (sym b.2 ∙ s.1) s.2 in
    (sym (ap (take (length xs)) f.2 ∙ take_at xs f.0 (length xs) refl), omega (arith, ap length f.2, length-append xs f.0))

-- where both stop they are one
one_stop : (bytes : List ℕ) (xs es : List Entry) (a b : List ℕ) → StopsAt bytes xs a → StopsAt bytes es b → (xs ≡ es) × (a ≡ b)
one_stop bytes xs es a b s t =
    let f = fronts_agree xs es a b s.0 t.0 (sym s.1 ∙ t.1) t.2 in
    nothing_more f.0 f.1 f.2 f.3
  where
    nothing_more : (ys : List Entry) → AllByRecursion FitsEntry ys → es ≡ xs ++ ys → a ≡ flat_map slot ys ++ b → (xs ≡ es) × (a ≡ b)
    nothing_more [] fits e i = (sym (e ∙ append-nil xs), i)
    nothing_more (y ∷ ys) fits e i =
        let rest : List ℕ = flat_map slot ys ++ b in
        absurd (no_some (y, rest) (sym s.2 ∙ ap slot_at (i ∙ append_assoc (slot y) (flat_map slot ys) b) ∙ slot_again y rest fits.0))

-- Where no slot can be.

abbrev no_slot : Option (Entry × List ℕ)
no_slot = None

closed_stops : (bytes : List ℕ) → IsClosed bytes → slot_at bytes ≡ None
unfolding slot_at
closed_stops [] c = refl
closed_stops (gate ∷ bytes) c = ap (λ (b : Bool). cond b (within entry_of bytes) no_slot) (ne_eqb gate 1 c)

short_stops : (bytes : List ℕ) → length bytes < 2 → slot_at bytes ≡ None
unfolding slot_at block_at u32_at
short_stops [] short = refl
short_stops (gate ∷ []) short = either (eqb gate 1)
  where
    either : (b : Bool) → cond b no_slot no_slot ≡ no_slot
    either true = refl
    either false = refl
short_stops (gate ∷ byte ∷ bytes) short = absurd (omega (arith, short))

-- Journals.

pub is_journal : (bytes : List ℕ) (es : List Entry) (rest : List ℕ) → StopsAt bytes es rest → EndsClosed bytes rest → IsJournal bytes es
is_journal bytes [] rest s (inl short) = inl short
is_journal bytes [] rest s (inr shut) = inr (subst IsClosed (sym s.1) shut)
is_journal bytes (e ∷ es) rest s (inl short) =
    absurd (omega (arith, ap length (s.1 ∙ append_assoc (slot e) (flat_map slot es) rest), length-append (slot e) (flat_map slot es ++ rest), slot_long e, short))
is_journal bytes (e ∷ es) rest s (inr shut) = (s.0, rest, shut, s.1)

pub journal_stops : (bytes : List ℕ) (es : List Entry) → IsJournal bytes es → (rest : List ℕ) × StopsAt bytes es rest × EndsClosed bytes rest
journal_stops bytes [] (inl short) = (bytes, (tt, refl, short_stops bytes short), inl short)
journal_stops bytes [] (inr shut) = (bytes, (tt, refl, closed_stops bytes shut), inr shut)
journal_stops bytes (e ∷ es) j = (j.1, (j.0, j.3, closed_stops j.1 j.2), inr j.2)

pub one_journal : (bytes : List ℕ) (xs es : List Entry) → IsJournal bytes xs → IsJournal bytes es → xs ≡ es
one_journal bytes xs es i j =
    let s = journal_stops bytes xs i in
    let t = journal_stops bytes es j in
    (one_stop bytes xs es s.0 t.0 s.1 t.1).0

-- Damage.

pub is_damaged : (bytes : List ℕ) (es : List Entry) (rest : List ℕ) → StopsAt bytes es rest → (EndsClosed bytes rest → ⊥) → IsDamaged bytes es
is_damaged bytes es rest s not_closed = (
  (s.0, rest, s.1),
  (λ more j.
      let t = journal_stops bytes more j in
      not_closed (subst (EndsClosed bytes) (one_stop bytes more es t.0 rest t.1 s).1 t.2)),
  (λ e b. omega (arith, (only_first bytes es rest (es ++ e ∷ []) s b).1, length-append es (e ∷ []))),
)

damage_stops : (bytes : List ℕ) (es : List Entry) → IsBytes bytes → IsDamaged bytes es → (rest : List ℕ) × StopsAt bytes es rest
damage_stops bytes es fits d =
    let rest : List ℕ = d.0.1 in
    elim (some_or_none (slot_at rest)) [
      | inl e ↦ (rest, (d.0.0, d.0.2, e))
      | inr x ↦
          let m = one_more bytes es rest x.0.0 x.0.1 (IsBytes-after (flat_map slot es) rest bytes d.0.2 fits) (d.0.0, d.0.2) x.1 in
          absurd (d.2 x.0.0 (m.0, x.0.1, m.1))
    ]

pub one_damage : (bytes : List ℕ) (xs es : List Entry) → IsBytes bytes → IsDamaged bytes xs → IsDamaged bytes es → xs ≡ es
one_damage bytes xs es fits d k =
    let s = damage_stops bytes xs fits d in
    let t = damage_stops bytes es fits k in
    (one_stop bytes xs es s.0 t.0 s.1 t.1).0

-- Ends.

pub front_long : (bytes : List ℕ) (es : List Entry) (rest : List ℕ) → bytes ≡ flat_map slot es ++ rest → length bytes ≡ behind es + length rest
front_long bytes es rest e = ap length e ∙ length-append (flat_map slot es) rest

pub ends_so : (bytes : List ℕ) (es : List Entry) (rest : List ℕ) (end : Ending) → StopsAt bytes es rest → EndsAt bytes rest end → EndsSo bytes es end
ends_so bytes es rest (Closed at) s end = (is_journal bytes es rest s end.0, omega (arith, end.1, front_long bytes es rest s.1))
ends_so bytes es rest (Damaged at) s end = (is_damaged bytes es rest s end.0, omega (arith, end.1, front_long bytes es rest s.1))
