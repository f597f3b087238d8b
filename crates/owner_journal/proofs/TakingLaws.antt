-- Slots that are taken from the end of the bytes of entries, one after the other.
use Rattle.std.proofs.Common.{◌≡◌, ℕ, zero, suc, ◌+◌, ◌-◌, ◌*◌, ◌^◌, ◌<◌, ◌≤◌, List, [], ◌∷◌, ◌++◌, map, reverse, length, get_or, slice_index_or, take, drop, refl, sym, ap, subst, ◌∙◌, append_assoc, append-nil, arith, inl, inr}
use mathlib.Core.List.{reverse-append, map-append}
use Rattle.std.specs.List.{AllByRecursion, flat_map}
use Rattle.std.proofs.lemmas.List.{at_drop_more, take_at, drop_at, take-append-drop, length-append, flat_map_more}
use Rattle.vo_spec.specs.declared.records.Entry.{Entry}
use Rattle.vo_spec.specs.Journals.{FitsEntry, slot, Begins, IsClosed, IsJournal}
use Rattle.owner_state.proofs.EntryLaws.{slot_long}
use Rattle.owner_journal.specs.Taking.{AreSlotsOf, IsMeasured, slot_counts}
use Rattle.owner_journal.specs.Resting.{end_of}
use Rattle.owner_journal.proofs.Sizes.{slots_short}
use Rattle.owner_journal.proofs.SlotImages.{is_journal}

-- Lists from the end.

split_end : (e : Entry) (es : List Entry) → (fs : List Entry) × (f : Entry) × (e ∷ es ≡ fs ++ f ∷ [])
split_end e [] = ([], e, refl)
split_end e (x ∷ es) =
    let r = split_end x es in
    (e ∷ r.0, r.1, ap (λ (zs : List Entry). e ∷ zs) r.2)

same_parts : (a b : ℕ) (xs ys : List ℕ) → a ∷ xs ≡ b ∷ ys → (a ≡ b) × (xs ≡ ys)
same_parts a b xs ys e = (cc, cc)

turned : (fs : List Entry) (f : Entry) → reverse (slot_counts (fs ++ f ∷ [])) ≡ length (slot f) ∷ reverse (slot_counts fs)
turned fs f =
    ap reverse (map-append (λ (e : Entry). length (slot e)) fs (f ∷ [])) ∙ reverse-append (slot_counts fs) (length (slot f) ∷ [])

pub none_left : (xs : List ℕ) (i : ℕ) → length xs ≤ i → drop i xs ≡ []
none_left [] zero all = refl
none_left [] (suc i) all = refl
none_left (y ∷ xs) zero all = absurd (omega (arith, all))
none_left (y ∷ xs) (suc i) all = none_left xs i (omega (arith, all))

all_front : (fs : List Entry) (f : Entry) → AllByRecursion FitsEntry (fs ++ f ∷ []) → AllByRecursion FitsEntry fs × FitsEntry f
all_front [] f all = (tt, all.0)
all_front (x ∷ fs) f all =
    let r = all_front fs f all.1 in
    ((all.0, r.0), r.1)

-- The last slot.

-- the bytes are slots of these entries, and that of one more behind them, of so many bytes
record HasLast (bytes : List ℕ) (n : ℕ) (ns : List ℕ) : Type 0 where
  pub entries : List Entry
  pub last : Entry
  pub fit : AllByRecursion FitsEntry entries
  pub fits : FitsEntry last
  pub parts : bytes ≡ flat_map slot entries ++ slot last
  pub count : length (slot last) ≡ n
  pub counts : reverse (slot_counts entries) ≡ ns

has_last : (bytes : List ℕ) (es : List Entry) (n : ℕ) (ns : List ℕ) → AreSlotsOf bytes es → reverse (slot_counts es) ≡ n ∷ ns → HasLast bytes n ns
has_last bytes [] n ns are is = absurd (cc)
has_last bytes (x ∷ es) n ns are is =
    let r = split_end x es in
    let all = all_front r.0 r.1 (subst (AllByRecursion FitsEntry) r.2 are.0) in
    let both : (length (slot r.1) ≡ n) × (reverse (slot_counts r.0) ≡ ns) =
    same_parts (length (slot r.1)) n (reverse (slot_counts r.0)) ns (sym (turned r.0 r.1) ∙ ap (λ (zs : List Entry). reverse (slot_counts zs)) (sym r.2) ∙ is) in
    record {
      entries = r.0;
      last = r.1;
      fit = all.0;
      fits = all.1;
      parts = are.1 ∙ ap (flat_map slot) r.2 ∙ sym (flat_map_more slot [] r.0 r.1);
      count = both.0;
      counts = both.1;
    }

place_of : (bytes : List ℕ) (n : ℕ) (ns : List ℕ) (l : HasLast bytes n ns) → length (flat_map slot l.entries) ≡ length bytes - n
place_of bytes n ns l = omega (arith, ap length l.parts, length-append (flat_map slot l.entries) (slot l.last), l.count)

-- Some slots are taken, and the bytes of the others are left.
pub record IsTaking (first bytes counts : List ℕ) (done : List Entry) : Type 0 where
  pub entries : List Entry
  pub slots : AreSlotsOf bytes entries
  pub counts_are : reverse (slot_counts entries) ≡ counts
  pub fit : AllByRecursion FitsEntry (reverse done)
  pub parts : first ≡ bytes ++ flat_map slot (reverse done)

pub nothing_taken : (bytes counts : List ℕ) (es : List Entry) → AreSlotsOf bytes es → counts ≡ reverse (slot_counts es) → IsTaking bytes bytes counts []
nothing_taken bytes counts es are is =
    record { entries = es; slots = are; counts_are = sym is; fit = tt; parts = sym (append-nil bytes) }

pub next_count : (first bytes counts : List ℕ) (i : ℕ) (done : List Entry) → i < length counts → IsTaking first bytes (drop i counts) done
    → IsTaking first bytes (get_or counts i 0 ∷ drop (i + 1) counts) done
next_count first bytes counts i done more t =
    subst (λ (ns : List ℕ). IsTaking first bytes ns done) (at_drop_more (λ (ns : List ℕ). ns) counts i 0 more) t

module _ (first bytes : List ℕ) (n : ℕ) (ns : List ℕ) (done : List Entry) (t : IsTaking first bytes (n ∷ ns) done) where
  here : HasLast bytes n ns
  here = has_last bytes t.entries n ns t.slots t.counts_are

  pub within : n ≤ length bytes
  within = omega (arith, ap length here.parts, length-append (flat_map slot here.entries) (slot here.last), here.count)

  pub last_slot : (e : Entry) × FitsEntry e × (drop (length bytes - n) bytes ≡ slot e)
  last_slot = (
    here.last,
    here.fits,
    ap (drop (length bytes - n)) here.parts ∙ drop_at (flat_map slot here.entries) (slot here.last) (length bytes - n) (place_of bytes n ns here),
  )

  pub one_taken : (new : List ℕ) (e : Entry) → FitsEntry e → drop (length bytes - n) bytes ≡ slot e → new ≡ take (length bytes - n) bytes
      → IsTaking first new ns (done ++ e ∷ [])
  one_taken new e fits is left =
      let turn : reverse (done ++ e ∷ []) ≡ e ∷ reverse done = reverse-append done (e ∷ []) in
      let cut : bytes ≡ new ++ slot e =
      sym (take-append-drop (length bytes - n) bytes) ∙ ap (λ (s : List ℕ). take (length bytes - n) bytes ++ s) is ∙ ap (λ (s : List ℕ). s ++ slot e) (sym left) in
      record {
        entries = here.entries;
        slots = (
          here.fit,
          left ∙ ap (take (length bytes - n)) here.parts ∙ take_at (flat_map slot here.entries) (slot here.last) (length bytes - n) (place_of bytes n ns here),
        );
        counts_are = here.counts;
        fit = subst (AllByRecursion FitsEntry) (sym turn) (fits, t.fit);
        parts = t.parts ∙ ap (λ (s : List ℕ). s ++ flat_map slot (reverse done)) cut ∙ append_assoc new (slot e) (flat_map slot (reverse done))
            ∙ ap (λ (es : List Entry). new ++ flat_map slot es) (sym turn);
      }

pub all_taken : (first bytes : List ℕ) (done : List Entry) → IsTaking first bytes [] done → AreSlotsOf first (reverse done)
all_taken first bytes done t = by t.entries t.slots t.counts_are
  where
    by : (es : List Entry) → AreSlotsOf bytes es → reverse (slot_counts es) ≡ [] → AreSlotsOf first (reverse done)
    by [] are is = (t.fit, t.parts ∙ ap (λ (s : List ℕ). s ++ flat_map slot (reverse done)) are.1)
    by (x ∷ es) are is =
        let r = split_end x es in
        let some : length (slot r.1) ∷ reverse (slot_counts r.0) ≡ [] = sym (turned r.0 r.1) ∙ ap (λ (zs : List Entry). reverse (slot_counts zs)) (sym r.2) ∙ is in
        absurd (cc)

-- A slot alone.

pub first_is : (bytes : List ℕ) (es : List Entry) → ((fs : List Entry) → Begins bytes fs → (fs ≡ take (length fs) es) × (length fs ≤ length es))
    → (e : Entry) → FitsEntry e → bytes ≡ slot e → (xs : List Entry) × (es ≡ e ∷ xs)
first_is bytes es only e fits is = by es (only (e ∷ []) ((fits, tt), [], is ∙ sym (append-nil (slot e)) ∙ sym (append-nil (slot e ++ []))))
  where
    by : (gs : List Entry) → (e ∷ [] ≡ take 1 gs) × (1 ≤ length gs) → (xs : List Entry) × (gs ≡ e ∷ xs)
    by [] both = absurd (omega (arith, both.1))
    by (g ∷ gs) both =
        let same : e ≡ g = cc in
        (gs, ap (λ (z : Entry). z ∷ gs) (sym same))

-- the first of them
pub removed_is : (items es xs : List Entry) (e r : Entry) → items ≡ es → es ≡ e ∷ xs → r ≡ slice_index_or items 0 r → r ≡ e
removed_is items es xs e r same is first = first ∙ ap (λ (zs : List Entry). slice_index_or zs 0 r) (same ∙ is)

-- A journal by its slots.

no_slots : (es : List Entry) → flat_map slot es ≡ [] → es ≡ []
no_slots [] is = refl
no_slots (e ∷ es) is = absurd (omega (arith, ap length is, length-append (slot e) (flat_map slot es), slot_long e))

pub journal_of_slots : (bytes : List ℕ) (es fs : List Entry) → IsJournal bytes es → AllByRecursion FitsEntry fs → flat_map slot es ≡ flat_map slot fs → IsJournal bytes fs
journal_of_slots bytes [] fs journal all same = subst (IsJournal bytes) (sym (no_slots fs (sym same))) journal
journal_of_slots bytes (e ∷ es) fs journal all same =
    is_journal bytes fs journal.1 all journal.2 (journal.3 ∙ ap (λ (s : List ℕ). s ++ journal.1) same)

-- the bytes in front of the gate are the slots
pub cut_at_gate : (bytes : List ℕ) (es : List Entry) → IsJournal bytes es → take (length (flat_map slot es)) bytes ≡ flat_map slot es
cut_at_gate bytes [] journal = refl
cut_at_gate bytes (e ∷ es) journal =
    ap (take (length (flat_map slot (e ∷ es)))) journal.3 ∙ take_at (flat_map slot (e ∷ es)) journal.1 (length (flat_map slot (e ∷ es))) refl

module _ (bytes counts cut : List ℕ) (gate : ℕ) (m : IsMeasured bytes counts gate) (is : cut ≡ take gate bytes) where
  slots_are : cut ≡ flat_map slot m.entries
  slots_are = is ∙ ap (λ (n : ℕ). take n bytes) m.gate_is ∙ cut_at_gate bytes m.entries m.journal

  pub cut_slots : (es : List Entry) × AreSlotsOf cut es × (counts ≡ slot_counts es)
  cut_slots = (m.entries, (m.fit, slots_are), m.counts_are)

  module _ (es : List Entry) (all : AreSlotsOf cut es) where
    same_slots : flat_map slot m.entries ≡ flat_map slot es
    same_slots = sym slots_are ∙ all.1

    pub cut_journal : IsJournal bytes es
    cut_journal = journal_of_slots bytes m.entries es m.journal all.0 same_slots

    pub cut_gate : gate ≡ end_of es
    cut_gate = m.gate_is ∙ ap length same_slots

    pub cut_short : gate ≤ length es * 2 ^ 28
    cut_short = subst (λ (n : ℕ). n ≤ length es * 2 ^ 28) (sym cut_gate) (slots_short es all.0)
