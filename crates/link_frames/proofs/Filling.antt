-- Bytes that are taken piece by piece.
use Rattle.std.proofs.Common.{◌≡◌, ℕ, ◌+◌, ◌-◌, ◌<◌, ◌≤◌, Bool, List, [], ◌++◌, length, take, drop, Option, Some, IfSome, Result, Ok, Err, IsErr, refl, sym, ap, ◌∙◌, subst, arith, append_assoc, append-nil, length-append}
use Rattle.std.proofs.lemmas.List.{drop-drop, drop_all, length-drop, length-take, take_at, drop_at, take-take, drop-take, take-append-drop, length-take-le}
use borrow.Rule.Slice.PartMut.{put_mid}
use Rattle.outside.specs.ConnectionModel.{ConnectionModel, take_from, take_known, Gets}
use Rattle.outside.specs.Miss.{CountsMiss}
use Rattle.link_frames.specs.Reading.{Took, TookAtMost, TookFewer, StaysWhereItStands, Fills, Gathered, GathersBytes}
use Rattle.link_frames.specs.declared.interrupted.Interrupted.{Interrupted}
use Rattle.link_frames.specs.declared.interrupted.Interrupted.TheVariants as interrupted
use Rattle.link_frames.proofs.ReadLaws.{took_later}

take_more : (m n : ℕ) (xs : List ℕ) → take m xs ++ take n (drop m xs) ≡ take (m + n) xs
take_more m n xs =
    ap (λ (ys : List ℕ). ys ++ take n (drop m xs)) (sym (take-take m (m + n) xs (omega arith)))
    ∙ ap (λ (ys : List ℕ). take m (take (m + n) xs) ++ ys) (sym (drop-take m n xs))
    ∙ take-append-drop m (take (m + n) xs)

-- what one call took of a connection of which some bytes were taken before
gets_at : (filled n : ℕ) (old now : List ℕ) (before : ConnectionModel) (wire : Option ConnectionModel)
    → Took filled before wire → IfSome wire (λ (w : ConnectionModel). Gets n w.coming old now)
    → Gets n (drop filled before.coming) old now
gets_at filled n old now before wire took g =
    subst (λ (o : Option ConnectionModel). IfSome o (λ (w : ConnectionModel). Gets n w.coming old now)) took g

got_at : (filled n : ℕ) (before : ConnectionModel) (wire later : Option ConnectionModel)
    → Took filled before wire → later ≡ take_known n wire → Took (filled + n) before later
got_at filled n before wire later took l = took_later filled n before later (l ∙ ap (take_known n) took)

-- a count that stayed where the connection stood, and then again after something was done on it
pub stays_on : (first wire : Option ConnectionModel) (old now later : ℕ)
    → ((before : ConnectionModel) → first ≡ Some before → (mid : ConnectionModel) × (wire ≡ Some mid) × (mid.stands ≡ before.stands))
    → StaysWhereItStands first old now → StaysWhereItStands wire now later → StaysWhereItStands first old later
stays_on first wire old now later known stay again = λ w is stands.
    let mid = known w is in
    again mid.0 mid.1 (mid.2 ∙ stands) ∙ stay w is stands

-- a connection of which some bytes were taken stands as before
pub misses_stay : (k : ℕ) (first wire : Option ConnectionModel) (old now later : ℕ)
    → ((before : ConnectionModel) → first ≡ Some before → Took k before wire)
    → StaysWhereItStands first old now
    → IfSome wire (λ (w : ConnectionModel). CountsMiss w.stands now later)
    → StaysWhereItStands first old later
misses_stay k first wire old now later known stay misses = λ w is stands.
    let counts : CountsMiss w.stands now later =
    subst (λ (o : Option ConnectionModel). IfSome o (λ (w : ConnectionModel). CountsMiss w.stands now later)) (known w is) misses in
    let same : later ≡ now = subst (λ (b : Bool). CountsMiss b now later) stands counts in
    same ∙ stay w is stands

-- one call counts no miss where the connection stands
pub counted : (wire : Option ConnectionModel) (old later : ℕ)
    → IfSome wire (λ (w : ConnectionModel). CountsMiss w.stands old later) → StaysWhereItStands wire old later
counted wire old later misses = misses_stay 0 wire wire old old later (λ w is. is) (λ w is stands. refl) misses

-- The buffer.

-- the first n bytes of what comes are in the buffer's front
abbrev pub FilledTo : ℕ → List ℕ → List ℕ → ConnectionModel → Option ConnectionModel → Type 0
FilledTo n old now before wire =
    (n ≤ length before.coming) × (now ≡ take n before.coming ++ drop n old) × Took n before wire

pub filled_none : (old : List ℕ) (before : ConnectionModel) (wire : Option ConnectionModel) → wire ≡ Some before
    → FilledTo 0 old old before wire
filled_none old before wire is = (omega arith, refl, is)

put_behind : (filled n : ℕ) (coming old now piece : List ℕ) → filled ≤ length coming
    → now ≡ take filled coming ++ drop filled old
    → piece ≡ take n (drop filled coming) ++ drop n (drop filled now)
    → put_mid filled (length now - filled) now piece ≡ take (filled + n) coming ++ drop (filled + n) old
put_behind filled n coming old now piece within is came =
    let front : length (take filled coming) ≡ filled = length-take-le filled coming within in
    let first : take filled now ≡ take filled coming =
    ap (take filled) is ∙ take_at (take filled coming) (drop filled old) filled front in
    let rest : drop filled now ≡ drop filled old =
    ap (drop filled) is ∙ drop_at (take filled coming) (drop filled old) filled front in
    let past : drop (length now - filled) (drop filled now) ≡ [] =
    drop_all (length now - filled) (drop filled now) (omega (arith, length-drop filled now)) in
    let piece_is : piece ≡ take n (drop filled coming) ++ drop (filled + n) old =
    came ∙ ap (λ (ys : List ℕ). take n (drop filled coming) ++ drop n ys) rest
    ∙ ap (λ (ys : List ℕ). take n (drop filled coming) ++ ys) (drop-drop n filled old) in
    ap (λ (ys : List ℕ). take filled now ++ (piece ++ ys)) past
    ∙ ap (λ (ys : List ℕ). take filled now ++ ys) (append-nil piece)
    ∙ ap (λ (ys : List ℕ). ys ++ piece) first
    ∙ ap (λ (ys : List ℕ). take filled coming ++ ys) piece_is
    ∙ sym (append_assoc (take filled coming) (take n (drop filled coming)) (drop (filled + n) old))
    ∙ ap (λ (ys : List ℕ). ys ++ drop (filled + n) old) (take_more filled n coming)

-- a call took n bytes more into the rest of the buffer
pub filled_more : (filled n : ℕ) (old now rest piece : List ℕ) (before : ConnectionModel)
    (wire later : Option ConnectionModel) → rest ≡ drop filled now → FilledTo filled old now before wire
    → IfSome wire (λ (w : ConnectionModel). Gets n w.coming rest piece) → later ≡ take_known n wire
    → FilledTo (filled + n) old (put_mid filled (length now - filled) now piece) before later
filled_more filled n old now rest piece before wire later is h g l =
    let gets : Gets n (drop filled before.coming) (drop filled now) piece =
    subst (λ (bytes : List ℕ). Gets n (drop filled before.coming) bytes piece) is
    (gets_at filled n rest piece before wire h.2 g) in
    let left : n ≤ length before.coming - filled = omega (arith, gets.fits, length-drop filled before.coming) in (
      omega (arith, h.0),
      put_behind filled n before.coming old now piece h.0 h.1 gets.filled,
      got_at filled n before wire later h.2 l,
    )

-- the buffer is filled so far
pub record IsFilling (filled : ℕ) (old now : List ℕ) (first wire : Option ConnectionModel)
    (old_faults faults old_misses misses : ℕ) : Type 0 where
  pub within : filled ≤ length old
  pub known : (before : ConnectionModel) → first ≡ Some before → FilledTo filled old now before wire
  pub counts : faults ≡ old_faults
  pub stays : StaysWhereItStands first old_misses misses

-- nothing more comes
pub filled_end : (E : Type 0) (filled n : ℕ) (old now rest piece : List ℕ) (before : ConnectionModel)
    (wire later : Option ConnectionModel) → n ≡ 0 → filled < length now → length now ≡ length old
    → rest ≡ drop filled now → FilledTo filled old now before wire
    → IfSome wire (λ (w : ConnectionModel). Gets n w.coming rest piece) → later ≡ take_known n wire
    → Fills {E = E} old (put_mid filled (length now - filled) now piece) (Ok filled) before later
filled_end E filled n old now rest piece before wire later zero_ room same is h g l =
    let gets : Gets n (drop filled before.coming) (drop filled now) piece =
    subst (λ (bytes : List ℕ). Gets n (drop filled before.coming) bytes piece) is
    (gets_at filled n rest piece before wire h.2 g) in
    let some : 0 < length (drop filled now) = omega (arith, length-drop filled now) in
    let none : drop filled before.coming ≡ [] = (gets.end some).0 zero_ in
    let all : length before.coming - filled ≡ 0 = sym (length-drop filled before.coming) ∙ ap length none in
    let nothing : filled + n ≡ filled = omega arith in
    let new : List ℕ = put_mid filled (length now - filled) now piece in
    let more : FilledTo filled old new before later =
    subst (λ (k : ℕ). FilledTo k old new before later) nothing
    (filled_more filled n old now rest piece before wire later is h g l) in
    (omega (arith, h.0), more.1, more.2)

-- how far the buffer is filled by one call more
pub filled_within : (filled n : ℕ) (now : List ℕ) → filled ≤ length now
    → n ≤ length (take (length now - filled) (drop filled now)) → filled + n ≤ length now
filled_within filled n now within fits =
    let rest : length (take (length now - filled) (drop filled now)) ≤ length now - filled =
    omega (arith, length-take (length now - filled) (drop filled now)) in
    omega arith

-- a fault, after some bytes
pub fills_err : (E : Type 0) (old new : List ℕ) (result : Result ℕ E) (before : ConnectionModel)
    (wire : Option ConnectionModel) → IsErr result
    → TookFewer (length old) before wire → Fills old new result before wire
fills_err E old new (Ok n) before wire err t = absurd (cc err)
fills_err E old new (Err fault) before wire err t = t

-- there is no more room
pub filled_full : (E : Type 0) (filled : ℕ) (old now : List ℕ) (before : ConnectionModel)
    (wire : Option ConnectionModel) → length old ≤ filled → filled ≤ length old
    → FilledTo filled old now before wire → Fills {E = E} old now (Ok filled) before wire
filled_full E filled old now before wire full within h = (omega (arith, h.0), h.1, h.2)

-- Pieces that are handed on.

-- a call took n bytes, and they were added
pub one_piece : (n : ℕ) (old now room piece : List ℕ) (before : ConnectionModel) (wire later : Option ConnectionModel)
    → wire ≡ Some before → IfSome wire (λ (w : ConnectionModel). Gets n w.coming room piece) → later ≡ take_known n wire
    → now ≡ old ++ take n piece → Gathered (length room) old now (Ok n) before later
one_piece n old now room piece before wire later is g l added =
    let gets : Gets n before.coming room piece = gets_at 0 n room piece before wire is g in
    let front : take n piece ≡ take n before.coming =
    ap (take n) gets.filled ∙ take_at (take n before.coming) (drop n room) n (length-take-le n before.coming gets.fits) in
    (gets.fits, added ∙ ap (λ (ys : List ℕ). old ++ ys) front, gets.end, l ∙ ap (take_known n) is)

-- the first n bytes of what comes were added
abbrev pub HandedTo : ℕ → List ℕ → List ℕ → ConnectionModel → Option ConnectionModel → Type 0
HandedTo n old now before wire =
    (n ≤ length before.coming) × (now ≡ old ++ take n before.coming) × Took n before wire

pub handed_none : (old : List ℕ) (before : ConnectionModel) (wire : Option ConnectionModel) → wire ≡ Some before
    → HandedTo 0 old old before wire
handed_none old before wire is = (omega arith, sym (append-nil old), is)

pub handed_more : (handed n room : ℕ) (old now new : List ℕ) (before : ConnectionModel)
    (wire later : Option ConnectionModel) → HandedTo handed old now before wire
    → ((w : ConnectionModel) → wire ≡ Some w → Gathered room now new (Ok n) w later)
    → HandedTo (handed + n) old new before later
handed_more handed n room old now new before wire later h known =
    let g : Gathered room now new (Ok n) (take_from handed before) later = known (take_from handed before) h.2 in
    let left : n ≤ length before.coming - handed = omega (arith, g.0, length-drop handed before.coming) in (
      omega (arith, h.0),
      g.1 ∙ ap (λ (ys : List ℕ). ys ++ take n (drop handed before.coming)) h.1
          ∙ append_assoc old (take handed before.coming) (take n (drop handed before.coming))
          ∙ ap (λ (ys : List ℕ). old ++ ys) (take_more handed n before.coming),
      took_later handed n before later g.3,
    )

-- pieces were handed on so far
pub record IsHanding (handed count : ℕ) (old now : List ℕ) (first wire : Option ConnectionModel)
    (old_faults faults old_misses misses : ℕ) : Type 0 where
  pub within : handed ≤ count
  pub grows : length now ≡ length old + handed
  pub known : (before : ConnectionModel) → first ≡ Some before → HandedTo handed old now before wire
  pub counts : faults ≡ old_faults
  pub stays : StaysWhereItStands first old_misses misses

pub handed_end : (handed n count room : ℕ) (old now new : List ℕ) (before : ConnectionModel)
    (wire later : Option ConnectionModel) → n ≡ 0 → handed < count → 0 < room
    → HandedTo handed old now before wire
    → ((w : ConnectionModel) → wire ≡ Some w → Gathered room now new (Ok n) w later)
    → GathersBytes count old new (Ok handed) before later
handed_end handed n count room old now new before wire later zero_ some wide h known =
    let g : Gathered room now new (Ok n) (take_from handed before) later = known (take_from handed before) h.2 in
    let none : drop handed before.coming ≡ [] = (g.2 wide).0 zero_ in
    let all : length before.coming - handed ≡ 0 = sym (length-drop handed before.coming) ∙ ap length none in
    let nothing : handed + n ≡ handed = omega arith in
    let more : HandedTo handed old new before later =
    subst (λ (k : ℕ). HandedTo k old new before later) nothing
    (handed_more handed n room old now new before wire later h known) in
    (omega (arith, h.0), more.1, more.2)

-- a fault, after some bytes
pub hands_err : (handed count room : ℕ) (old now new : List ℕ) (fault : Interrupted) (before : ConnectionModel)
    (wire : Option ConnectionModel) → handed < count → handed ≤ length before.coming → room ≤ count - handed
    → Gathered room now new (Err fault) (take_from handed before) wire
    → GathersBytes count old new (Err fault) before wire
hands_err handed count room old now new interrupted.LinkFault before wire below there fits t =
    (handed + 0, omega (arith, below), omega (arith, there), took_later handed 0 before wire t)
hands_err handed count room old now new interrupted.Memory before wire below there fits t = (
  handed + t.0,
  omega (arith, below, fits, t.1),
  omega (arith, there, t.2, length-drop handed before.coming),
  took_later handed t.0 before wire t.3,
)

-- as many bytes were added as were taken
pub piece_grows : (n : ℕ) (old now piece : List ℕ) → n ≤ length piece → now ≡ old ++ take n piece
    → length now ≡ length old + n
piece_grows n old now piece within added =
    ap length added ∙ length-append old (take n piece)
    ∙ ap (λ (k : ℕ). length old + k) (length-take-le n piece within)

pub handed_all : (handed count : ℕ) (old now : List ℕ) (before : ConnectionModel) (wire : Option ConnectionModel)
    → count ≤ handed → handed ≤ count → HandedTo handed old now before wire
    → GathersBytes count old now (Ok handed) before wire
handed_all handed count old now before wire full within h = (omega (arith, h.0), h.1, h.2)
