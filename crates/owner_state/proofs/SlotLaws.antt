-- What the slots that bytes begin with tell of journals of some sort.
use Rattle.std.proofs.Common.{◌≡◌, ℕ, zero, suc, ◌+◌, ◌<◌, ◌≤◌, List, [], ◌∷◌, ◌++◌, length, take, drop, refl, sym, ap, ◌∙◌, subst, append_assoc, arith}
use Rattle.std.specs.List.{flat_map}
use Rattle.std.proofs.lemmas.List.{append_cancel_left, take-append-drop, length-take-le, length-append}
use Rattle.std.proofs.lemmas.Grind.{flat_map-append}
use Rattle.vo_spec.specs.declared.records.Entry.{Entry}
use Rattle.vo_spec.specs.Journals.{FitsEntry, slot, Begins, IsClosed, IsJournal}
use Rattle.vo_spec.specs.Owners.{IsJournalOf, FailsAt}
use Rattle.vo_laws.proofs.TreeFits.{each_loadable}
use Rattle.owner_state.specs.declared.slot_reading.Ending.{Ending}
use Rattle.owner_state.specs.declared.slot_reading.Ending.TheVariants.{Closed, Damaged}
use Rattle.owner_state.specs.Endings.{EndsSo}
use Rattle.owner_state.specs.Walking.{StopsAt, IsWhole}

-- the bytes begin with these entries, and with no others
pub record AreSlots (bytes : List ℕ) (es : List Entry) : Type 0 where
  pub begins : Begins bytes es
  pub only : (fs : List Entry) → Begins bytes fs → (fs ≡ take (length fs) es) × (length fs ≤ length es)

-- the first entries, and the slots of the others behind them
front : (bytes : List ℕ) (es : List Entry) (n : ℕ) (b : Begins bytes es) → bytes ≡ flat_map slot (take n es) ++ (flat_map slot (drop n es) ++ b.1)
front bytes es n b =
    b.2 ∙ ap (λ (fs : List Entry). flat_map slot fs ++ b.1) (sym (take-append-drop n es))
    ∙ ap (λ (t : List ℕ). t ++ b.1) (flat_map-append slot (take n es) (drop n es))
    ∙ append_assoc (flat_map slot (take n es)) (flat_map slot (drop n es)) b.1

pub begins_front : (bytes : List ℕ) (es : List Entry) (n : ℕ) → Begins bytes es → Begins bytes (take n es)
begins_front bytes es n b = (each_loadable FitsEntry n es b.0, flat_map slot (drop n es) ++ b.1, front bytes es n b)

-- behind fewer entries the next gate is open
still_open : (es : List Entry) (n : ℕ) (rest : List ℕ) → n < length es → IsClosed (flat_map slot (drop n es) ++ rest) → ⊥
still_open [] n rest lt shut = absurd (omega arith)
still_open (e ∷ es) zero rest lt shut = shut refl
still_open (e ∷ es) (suc n) rest lt shut = still_open es n rest (omega arith) shut

no_shorter : (bytes : List ℕ) (es : List Entry) (n : ℕ) → Begins bytes es → n < length es → IsJournal bytes (take n es) → 0 < length (take n es) → ⊥
no_shorter bytes es n b lt journal some = step (take n es) refl journal some
  where
    step : (fs : List Entry) → fs ≡ take n es → IsJournal bytes fs → 0 < length fs → ⊥
    step [] same j some = absurd (omega arith)
    step (f ∷ fs) same j some =
        let e : flat_map slot (take n es) ++ j.1 ≡ flat_map slot (take n es) ++ (flat_map slot (drop n es) ++ b.1) =
        ap (λ (gs : List Entry). flat_map slot gs ++ j.1) (sym same) ∙ sym j.3 ∙ front bytes es n b in
        still_open es n b.1 lt (subst IsClosed (append_cancel_left (flat_map slot (take n es)) j.1 (flat_map slot (drop n es) ++ b.1) e) j.2)

-- A walk that stops inside.
pub fails_inside : (Are : List Entry → Type 0) (bytes : List ℕ) (es : List Entry) (n : ℕ) → AreSlots bytes es → StopsAt Are es n → FailsAt Are bytes n
fails_inside Are bytes es n s stop =
    let within : n < length es = stop.within in
    let long : length (take n es) ≡ n = length-take-le n es (omega arith) in (
      take n es,
      begins_front bytes es n s.begins,
      stop.so_far,
      long,
      (λ j. no_shorter bytes es n s.begins stop.within j.0 j.2),
      (λ e b are.
          stop.not_on
          (subst Are ((s.only (take n es ++ e ∷ []) b).0 ∙ ap (λ (k : ℕ). take k es) (length-append (take n es) (e ∷ []) ∙ ap (λ (k : ℕ). k + 1) long)) are)),
    )

-- A walk that comes to the end.

pub fails_behind : (Are : List Entry → Type 0) (bytes : List ℕ) (es : List Entry) → AreSlots bytes es → Are es → (IsJournalOf Are bytes es → ⊥) → FailsAt Are bytes (length es)
fails_behind Are bytes es s are broken = (
  es,
  s.begins,
  are,
  refl,
  broken,
  (λ e b more. omega (arith, (s.only (es ++ e ∷ []) b).1, length-append es (e ∷ []))),
)

pub whole : (Are : List Entry → Type 0) (bytes : List ℕ) (es : List Entry) (ending : Ending) → EndsSo bytes es ending → IsWhole es ending → Are es → IsJournalOf Are bytes es
whole Are bytes es (Closed at) ends is are = (ends.0, are, is)
whole Are bytes es (Damaged at) ends is are = absurd is

pub not_whole : (Are : List Entry → Type 0) (bytes : List ℕ) (es : List Entry) (ending : Ending) → EndsSo bytes es ending → (IsWhole es ending → ⊥) → IsJournalOf Are bytes es → ⊥
not_whole Are bytes es (Closed at) ends broken j = broken j.2
not_whole Are bytes es (Damaged at) ends broken j = ends.0.1 es j.0
