-- What is taken of pieces, step by step.
use Rattle.std.proofs.Common.{◌≡◌, ℕ, ◌+◌, ◌<◌, ◌≤◌, eqb, List, [], ◌∷◌, ◌++◌, length, take, drop, Some, None, refl, sym, ap, subst, ◌∙◌, append-nil, append_assoc, arith, Result, Ok, Err, ◌⊎◌, inl, inr}
use Rattle.std.specs.Prelude.{IfOk, OnOk, OnErr, IsOk, IsErr, IsTrue, true, false}
use Rattle.std.specs.Borrow.{Bor}
use Rattle.std.specs.declared.alloc.AllocError.{AllocError}
use Rattle.std.proofs.lemmas.Bool.{false≢true, eqb-true}
use Rattle.std.proofs.lemmas.List.{length-take-le, length-append, take_at, take-append-drop}
use Rattle.vo_spec.specs.Bytes.{IsBytes}
use Rattle.row_bytes.proofs.Readers.{IsBytes-after}
use Rattle.batch_format.specs.BatchReading.{Reader}
use Rattle.tree_stream.specs.declared.findings.Summary.{Summary}
use Rattle.tree_stream.specs.declared.machine.Machine.{Machine}
use Rattle.tree_stream.specs.declared.state.State.{State}
use Rattle.tree_stream.specs.declared.state.State.TheVariants.{Invalid}
use Rattle.tree_stream.specs.Machines.{summary_of_machine, IsAt, Takes, Passes, Advances, EndsWith, Grows, StopsInRow}
use Rattle.vo_spec.specs.Scans.{in_interval}
use Rattle.tree_stream.specs.declared.stream.TreeStream.{TreeStream}
use Rattle.tree_stream.specs.declared.target.Target.{Target}
use Rattle.tree_stream.specs.Places.{EndsInRow, HasNeededByte}
use Rattle.tree_stream.specs.Streams.{IsBehind, target_in}
use Rattle.tree_stream.proofs.PlaceLaws.{ends_in_row}
use Rattle.tree_stream.specs.Remaining.{rest_of_node}
use Rattle.tree_stream.specs.Summaries.{is_settled, summary_with, summary_from, CanEnd, IsInNeededRow}
use Rattle.tree_stream.specs.Tokens.{token_size}
use Rattle.tree_stream.proofs.AllBytes.{IsBytes-before, IsBytes-append}
use Rattle.tree_stream.proofs.ShortLaws.{settled_is}
use Rattle.tree_stream.proofs.Sizes.{token_is, token_positive}

pub size_positive : (state : State) (bytes : List ℕ) → 0 < token_size state bytes
size_positive state bytes = omega (arith, token_positive state, (token_is state).grows [] bytes)

-- so many bytes in front are a whole token
pub token_whole : (state : State) (bytes token : List ℕ) (size : ℕ) → size ≡ token_size state bytes → size ≤ length bytes → token ≡ take size bytes → length token ≡ token_size state token
token_whole state bytes token size is le front =
    let n : ℕ = token_size state bytes in
    ap (λ (t : List ℕ). length t) (front ∙ ap (λ (k : ℕ). take k bytes) is)
    ∙ length-take-le n bytes (omega (arith, is, le))
    ∙ sym ((token_is state).front bytes (omega (arith, is, le)))
    ∙ ap (token_size state) (sym (front ∙ ap (λ (k : ℕ). take k bytes) is))

pub split_is : (size : ℕ) (left token behind : List ℕ) → token ≡ take size left → behind ≡ drop size left → left ≡ token ++ behind
split_is size left token behind front back =
    sym (take-append-drop size left) ∙ ap (λ (t : List ℕ). t ++ drop size left) (sym front) ∙ ap (λ (t : List ℕ). token ++ t) (sym back)

-- so is what was filled up and is no shorter than its size
pub filled_whole : (state : State) (partial front all : List ℕ) → all ≡ partial ++ front → length partial + length front ≤ token_size state partial → token_size state all ≤ length all → length all ≡ token_size state all
filled_whole state partial front all is within le =
    let grown : token_size state partial ≤ token_size state (partial ++ front) = (token_is state).grows partial front in
    let size : token_size state all ≡ token_size state (partial ++ front) = ap (token_size state) is in
    let len : length all ≡ length partial + length front = ap (λ (t : List ℕ). length t) is ∙ length-append partial front in
    omega (arith, grown, size, len, within, le)

-- it grew to its size, or by all bytes that there were
pub is_filled : (count size : ℕ) (left : List ℕ) → (count ≡ size) ⊎ ((count < size) × (left ≡ [])) → size ≤ count → count ≡ size
is_filled count size left (inl is) le = is
is_filled count size left (inr less) le = absurd (omega (arith, less.0, le))

pub none_behind : (count size : ℕ) (left : List ℕ) → (count ≡ size) ⊎ ((count < size) × (left ≡ [])) → count < size → left ≡ []
none_behind count size left (inl is) less = absurd (omega (arith, is, less))
none_behind count size left (inr none) less = none.1

pub grows_on : (old front all new piece left end : List ℕ) → all ≡ old ++ front → piece ≡ front ++ left → Grows all new left end → Grows old new piece end
grows_on old front all new piece left end is parts more = record {
  front = front ++ more.front;
  parts = parts ∙ ap (λ (t : List ℕ). front ++ t) more.parts ∙ sym (append_assoc front more.front end);
  grown = more.grown ∙ ap (λ (t : List ℕ). t ++ more.front) is ∙ append_assoc old front more.front;
}

-- a piece by whose bytes a token became whole
pub grew_some : (state : State) (partial front left piece all : List ℕ) → all ≡ partial ++ front → piece ≡ front ++ left → length partial < token_size state partial → length all ≡ token_size state all → 0 < length piece
grew_some state partial front left piece all is parts short whole =
    let grown : token_size state partial ≤ token_size state (partial ++ front) = (token_is state).grows partial front in
    let size : token_size state all ≡ token_size state (partial ++ front) = ap (token_size state) is in
    let len : length all ≡ length partial + length front = ap (λ (t : List ℕ). length t) is ∙ length-append partial front in
    omega (arith, grown, size, len, short, whole, ap (λ (t : List ℕ). length t) parts, length-append front left)

pub invalid_none : (machine : Machine) → machine.state ≡ Invalid → (bytes : List ℕ) → summary_of_machine machine bytes ≡ None
unfolding summary_from summary_with rest_of_node
invalid_none machine is bytes = ap (λ (state : State). summary_from machine.context state bytes) is

pub passes_on : (before old new : Reader Summary) (bytes left token behind : List ℕ) → Passes before old bytes left → ((rest : List ℕ) → new rest ≡ old (token ++ rest)) → left ≡ token ++ behind
    → Passes before new bytes behind
passes_on before old new bytes left token behind a same is = record {
  taken = a.taken ++ token;
  parts = a.parts ∙ ap (λ (l : List ℕ). a.taken ++ l) is ∙ sym (append_assoc a.taken token behind);
  each = λ rest. same rest ∙ a.each (token ++ rest) ∙ ap before (sym (append_assoc a.taken token rest));
}

pub passes_back : (before old : Reader Summary) (bytes left token behind : List ℕ) → IsBytes bytes → Passes before old bytes left → left ≡ token ++ behind → CanEnd (λ rest. old (token ++ rest)) → CanEnd before
passes_back before old bytes left token behind fits a is can =
    let token_fits : IsBytes token = IsBytes-before token behind left is (IsBytes-after a.taken left bytes a.parts fits) in
    record {
      bytes = a.taken ++ (token ++ can.bytes);
      are_bytes = IsBytes-append a.taken (token ++ can.bytes) (IsBytes-before a.taken left bytes a.parts fits) (IsBytes-append token can.bytes token_fits can.are_bytes);
      found = can.found;
      each = λ rest.
          ap before (append_assoc a.taken (token ++ can.bytes) rest ∙ ap (λ (t : List ℕ). a.taken ++ t) (append_assoc token can.bytes rest))
          ∙ sym (a.each (token ++ (can.bytes ++ rest)))
          ∙ can.each rest;
    }

pub passes_of : (old new : Machine) (bytes left : List ℕ) → Advances old new bytes left → Passes (summary_of_machine old) (summary_of_machine new) bytes left
passes_of old new bytes left a = record { taken = a.taken; parts = a.parts; each = a.each }

abbrev Moves : Machine → Machine → List ℕ → Type 0
Moves old new taken = (before : List ℕ) → IsAt old before → IsAt new (before ++ taken)

moved_on : (first old new : Machine) (taken token : List ℕ) → Moves first old taken → Moves old new token → Moves first new (taken ++ token)
moved_on first old new taken token a b = λ before at.
    let P : List ℕ → Type 0 = λ bytes. IsAt new bytes in
    subst P (append_assoc before taken token) (b (before ++ taken) (a before at))

stays : (machine : Machine) → Moves machine machine []
stays machine = λ before at.
    let P : List ℕ → Type 0 = λ bytes. IsAt machine bytes in
    subst P (sym (append-nil before)) at

pub goes_on : (first old new : Machine) (bytes left token behind : List ℕ) → Advances first old bytes left → Takes old new token → left ≡ token ++ behind → Advances first new bytes behind
unfolding passes_on passes_of
goes_on first old new bytes left token behind a t is =
    let p = passes_on (summary_of_machine first) (summary_of_machine old) (summary_of_machine new) bytes left token behind (passes_of first old bytes left a) t.each is in
    record { taken = a.taken ++ token; parts = p.parts; each = p.each; moves = moved_on first old new a.taken token a.moves t.moves }

-- first some bytes, and then those that they left
pub and_then : (first old new : Machine) (bytes left behind : List ℕ) → Advances first old bytes left → Advances old new left behind → Advances first new bytes behind
and_then first old new bytes left behind a b = record {
  taken = a.taken ++ b.taken;
  parts = a.parts ∙ ap (λ (l : List ℕ). a.taken ++ l) b.parts ∙ sym (append_assoc a.taken b.taken behind);
  each = λ rest. b.each rest ∙ a.each (b.taken ++ rest) ∙ ap (summary_of_machine first) (sym (append_assoc a.taken b.taken rest));
  moves = moved_on first old new a.taken b.taken a.moves b.moves;
}

-- Sizes.

pub empty_short : (state : State) (bytes : List ℕ) → bytes ≡ [] → length bytes < token_size state bytes
empty_short state bytes is = let size : token_size state bytes ≡ token_size state [] = ap (token_size state) is in omega (arith, size, ap (λ (t : List ℕ). length t) is, token_positive state)

-- Calls.

-- what is behind some bytes of a piece, where nothing is held in front of it
pub ok_ends : (r : Result (Bor (List ℕ)) AllocError) (old new : Machine) (bytes kept : List ℕ) → IfOk r (λ left. Advances old new bytes (kept ++ left.now)) → IfOk r (λ left. EndsWith bytes left.now)
ok_ends (Ok left) old new bytes kept a = (a.taken ++ kept, a.parts ∙ sym (append_assoc a.taken kept left.now))
ok_ends (Err e) old new bytes kept a = tt

pub ends_later : (r : Result (Bor (List ℕ)) AllocError) (piece left : List ℕ) → EndsWith piece left → IfOk r (λ end. EndsWith left end.now) → IfOk r (λ end. EndsWith piece end.now)
ends_later (Ok end) piece left a b = (a.0 ++ b.0, a.1 ∙ ap (λ (t : List ℕ). a.0 ++ t) b.1 ∙ sym (append_assoc a.0 b.0 end.now))
ends_later (Err e) piece left a b = tt

pub ok_of : {T E : Type 0} (r : Result T E) (P : Type 0) → IsOk r → OnOk r P → P
ok_of (Ok x) P is p = p
ok_of (Err e) P is p = absurd (false≢true is)

pub longer_way : (machine : Machine) (partial front all : List ℕ) → IsBytes front → all ≡ partial ++ front → CanEnd (λ rest. summary_of_machine machine (all ++ rest)) → CanEnd (λ rest. summary_of_machine machine (partial ++ rest))
longer_way machine partial front all fits is can =
    let regroup : (rest : List ℕ) → partial ++ ((front ++ can.bytes) ++ rest) ≡ all ++ (can.bytes ++ rest) = λ rest.
    ap (λ (t : List ℕ). partial ++ t) (append_assoc front can.bytes rest) ∙ sym (append_assoc partial front (can.bytes ++ rest)) ∙ ap (λ (t : List ℕ). t ++ (can.bytes ++ rest)) (sym is) in
    record {
      bytes = front ++ can.bytes;
      are_bytes = IsBytes-append front can.bytes fits can.are_bytes;
      found = can.found;
      each = λ rest. ap (summary_of_machine machine) (regroup rest) ∙ can.each rest;
    }

pub same_bytes : (machine : Machine) (bytes left : List ℕ) → left ≡ bytes → Advances machine machine bytes left
same_bytes machine bytes left is = record { taken = []; parts = sym is; each = λ rest. refl; moves = stays machine }

-- the bytes of a token that was filled up, and those behind them
pub filled_is : (partial front left piece all : List ℕ) → all ≡ partial ++ front → piece ≡ front ++ left → all ++ left ≡ partial ++ piece
filled_is partial front left piece all is parts = ap (λ (t : List ℕ). t ++ left) is ∙ append_assoc partial front left ∙ ap (λ (t : List ℕ). partial ++ t) (sym parts)

pub filled_taken : (old new : Machine) (partial front left piece all kept : List ℕ) → all ≡ partial ++ front → piece ≡ front ++ left → Takes old new all → kept ≡ [] → Advances old new (partial ++ piece) (kept ++ left)
filled_taken old new partial front left piece all kept is parts taken none = record {
  taken = all;
  parts = sym (filled_is partial front left piece all is parts) ∙ ap (λ (k : List ℕ). all ++ (k ++ left)) (sym none);
  each = taken.each;
  moves = taken.moves;
}

pub ok_advances : (r : Result (Bor (List ℕ)) AllocError) (first old new : Machine) (bytes partial left kept : List ℕ) → partial ≡ [] → Advances first old bytes (partial ++ left)
    → IfOk r (λ end. Advances old new left (kept ++ end.now)) → IfOk r (λ end. Advances first new bytes (kept ++ end.now))
ok_advances (Ok end) first old new bytes partial left kept none a b =
    let all : Advances first old bytes left = record { taken = a.taken; parts = a.parts ∙ ap (λ (p : List ℕ). a.taken ++ (p ++ left)) none; each = a.each; moves = a.moves } in
    and_then first old new bytes left (kept ++ end.now) all b
ok_advances (Err e) first old new bytes partial left kept none a b = tt

pub left_is_taken : (A : Type 0) (xs left : List ℕ) → eqb (length xs) 0 ≡ false → (xs ≡ []) ⊎ (left ≡ []) → (left ≡ []) ⊎ A
left_is_taken A xs left some (inl none) = let empty : eqb (length xs) 0 ≡ true = ap (λ (t : List ℕ). eqb (length t) 0) none in absurd (false≢true (sym some ∙ empty))
left_is_taken A xs left some (inr none) = inl none

same_front : (xs ys left : List ℕ) → xs ++ left ≡ ys ++ left → xs ≡ ys
same_front xs ys left e =
    let len : length xs ≡ length ys = omega (arith, length-append xs left, length-append ys left, ap (λ (t : List ℕ). length t) e) in
    sym (take_at xs left (length ys) len) ∙ ap (take (length ys)) e ∙ take_at ys left (length ys) refl

pub way_behind : (first old : Machine) (partial piece kept left : List ℕ) → IsBytes piece → kept ≡ [] → Advances first old (partial ++ piece) (kept ++ left) → EndsWith piece left → CanEnd (summary_of_machine old)
    → CanEnd (λ rest. summary_of_machine first (partial ++ rest))
way_behind first old partial piece kept left fits none a ends can =
    let front : List ℕ = ends.0 in
    let parts : (partial ++ front) ++ left ≡ a.taken ++ left =
    append_assoc partial front left ∙ ap (λ (t : List ℕ). partial ++ t) (sym ends.1) ∙ a.parts ∙ ap (λ (k : List ℕ). a.taken ++ (k ++ left)) none in
    let taken : partial ++ front ≡ a.taken = same_front (partial ++ front) a.taken left parts in
    let regroup : (rest : List ℕ) → partial ++ ((front ++ can.bytes) ++ rest) ≡ a.taken ++ (can.bytes ++ rest) = λ rest.
    ap (λ (t : List ℕ). partial ++ t) (append_assoc front can.bytes rest) ∙ sym (append_assoc partial front (can.bytes ++ rest)) ∙ ap (λ (t : List ℕ). t ++ (can.bytes ++ rest)) taken in
    record {
      bytes = front ++ can.bytes;
      are_bytes = IsBytes-append front can.bytes (IsBytes-before front left piece ends.1 fits) can.are_bytes;
      found = can.found;
      each = λ rest. ap (summary_of_machine first) (regroup rest) ∙ sym (a.each (can.bytes ++ rest)) ∙ can.each rest;
    }

-- The stream.

pub piece_taken : (r : Result (Bor (List ℕ)) AllocError) (old new : Machine) (partial piece kept : List ℕ) → IfOk r (λ left. Advances old new (partial ++ piece) (kept ++ left.now))
    → IfOk r (λ left. (more : List ℕ) → summary_of_machine new (kept ++ (left.now ++ more)) ≡ summary_of_machine old (partial ++ (piece ++ more)))
piece_taken (Ok left) old new partial piece kept a = λ more.
    a.each (kept ++ (left.now ++ more))
    ∙ ap (summary_of_machine old)
    (ap (λ (t : List ℕ). a.taken ++ t) (sym (append_assoc kept left.now more))
    ∙ sym (append_assoc a.taken (kept ++ left.now) more)
    ∙ ap (λ (t : List ℕ). t ++ more) (sym a.parts)
    ∙ append_assoc partial piece more)
piece_taken (Err e) old new partial piece kept a = tt

pub none_after : {T : Type 0} (r : Result T AllocError) (new : Machine) (kept : List ℕ) → OnErr r (new.state ≡ Invalid) → OnErr r ((more : List ℕ) → summary_of_machine new (kept ++ more) ≡ None)
none_after (Ok done) new kept is = tt
none_after (Err e) new kept is = λ more. invalid_none new is (kept ++ more)

abbrev Settled : Machine → List ℕ → Type 0
Settled machine kept =
    ((more : List ℕ) → summary_of_machine machine (kept ++ more) ≡ None)
    ⊎ ((found : Summary) × ((more : List ℕ) → summary_of_machine machine (kept ++ more) ≡ Some (found, more)))

settled_with : (machine : Machine) (kept : List ℕ) → kept ≡ [] → is_settled machine.state ≡ true → Settled machine kept
settled_with machine kept none settled =
    elim (settled_is machine.context machine.state settled) [
      | inl nowhere ↦ inl (λ more. ap (λ (k : List ℕ). summary_of_machine machine (k ++ more)) none ∙ nowhere more)
      | inr found ↦ inr (found.0, λ more. ap (λ (k : List ℕ). summary_of_machine machine (k ++ more)) none ∙ found.1 more)
    ]

pub all_or_settled : (r : Result (Bor (List ℕ)) AllocError) (machine : Machine) (kept : List ℕ) → (IsTrue (is_settled machine.state) → kept ≡ []) → IfOk r (λ left. (left.now ≡ []) ⊎ IsTrue (is_settled machine.state))
    → IfOk r (λ left. (left.now ≡ []) ⊎ Settled machine kept)
all_or_settled (Ok left) machine kept none (inl all) = inl all
all_or_settled (Ok left) machine kept none (inr settled) = inr (settled_with machine kept (none settled) settled)
all_or_settled (Err e) machine kept none all = tt

no_way : (f : Reader Summary) → CanEnd f → ((more : List ℕ) → IsBytes more → f more ≡ None) → ⊥
no_way f can none =
    let found : Summary × List ℕ = (can.found, []) in
    let stuck : None ≡ Some found = sym (none can.bytes can.are_bytes) ∙ ap f (sym (append-nil can.bytes)) ∙ can.each [] in
    absurd cc

pub dead_is_ok : {T : Type 0} (r : Result T AllocError) (f : Reader Summary) → (IsErr r → CanEnd f) → ((more : List ℕ) → IsBytes more → f more ≡ None) → IsOk r
dead_is_ok (Ok done) f way none = refl
dead_is_ok (Err e) f way none = absurd (no_way f (way refl) none)

pub no_length : (xs : List ℕ) → eqb (length xs) 0 ≡ true → xs ≡ []
no_length [] is = refl
no_length (x ∷ xs) is = absurd (omega (arith, eqb-true (length (x ∷ xs)) 0 is))

-- Where memory runs out.

pub stops_here : (first old : Machine) (bytes left : List ℕ) → Advances first old bytes left → old.context.target ≡ first.context.target → IsInNeededRow old.context old.state → 0 < length left → StopsInRow first [] bytes
stops_here first old bytes left a same inside some = record {
  reached = old;
  taken = a.taken;
  part = [];
  front = a.taken;
  left = left;
  parts = a.parts;
  some = some;
  all = sym (append-nil a.taken);
  short = empty_short old.state [] refl;
  moves = a.moves;
  target = same;
  inside = inside;
}

-- in the token that is in front
pub stops_first : (machine : Machine) (partial piece : List ℕ) → IsInNeededRow machine.context machine.state → length partial < token_size machine.state partial → 0 < length piece → StopsInRow machine partial piece
stops_first machine partial piece inside short some = record {
  reached = machine;
  taken = [];
  part = partial;
  front = [];
  left = piece;
  parts = refl;
  some = some;
  all = append-nil partial;
  short = short;
  moves = stays machine;
  target = refl;
  inside = inside;
}

pub stops_later : (first old : Machine) (partial piece kept left : List ℕ) → kept ≡ [] → Advances first old (partial ++ piece) (kept ++ left) → EndsWith piece left → old.context.target ≡ first.context.target → StopsInRow old [] left
    → StopsInRow first partial piece
stops_later first old partial piece kept left none a ends same stops =
    let begun : List ℕ = ends.0 in
    let parts : (partial ++ begun) ++ left ≡ a.taken ++ left =
    append_assoc partial begun left ∙ ap (λ (t : List ℕ). partial ++ t) (sym ends.1) ∙ a.parts ∙ ap (λ (k : List ℕ). a.taken ++ (k ++ left)) none in
    let taken : partial ++ begun ≡ a.taken = same_front (partial ++ begun) a.taken left parts in
    record {
      reached = stops.reached;
      taken = a.taken ++ stops.taken;
      part = stops.part;
      front = begun ++ stops.front;
      left = stops.left;
      parts = ends.1 ∙ ap (λ (t : List ℕ). begun ++ t) stops.parts ∙ sym (append_assoc begun stops.front stops.left);
      some = stops.some;
      all = sym (append_assoc partial begun stops.front)
          ∙ ap (λ (t : List ℕ). t ++ stops.front) taken
          ∙ ap (λ (t : List ℕ). a.taken ++ t) stops.all
          ∙ sym (append_assoc a.taken stops.taken stops.part);
      short = stops.short;
      moves = moved_on first old stops.reached a.taken stops.taken a.moves stops.moves;
      target = stops.target ∙ same;
      inside = stops.inside;
    }

-- The stream, in the bytes of a tree.

pub behind_piece : (r : Result (Bor (List ℕ)) AllocError) (old new : TreeStream) (piece : List ℕ) → IfOk r (λ left. Advances old.machine new.machine (old.partial.items ++ piece) (new.partial.items ++ left.now))
    → IfOk r (λ left. EndsWith piece left.now)
    → IfOk r (λ left. (bytes : List ℕ) → IsBehind old bytes → (front : List ℕ) × (piece ≡ front ++ left.now) × IsBehind new (bytes ++ front))
behind_piece (Ok left) old new piece a ends = λ bytes b.
    let front : List ℕ = ends.0 in
    let all : (old.partial.items ++ front) ++ left.now ≡ (a.taken ++ new.partial.items) ++ left.now =
    append_assoc old.partial.items front left.now
    ∙ ap (λ (t : List ℕ). old.partial.items ++ t) (sym ends.1)
    ∙ a.parts
    ∙ sym (append_assoc a.taken new.partial.items left.now) in (
      front,
      ends.1,
      record {
        taken = b.taken ++ a.taken;
        at = a.moves b.taken b.at;
        parts =
            ap (λ (t : List ℕ). t ++ front) b.parts
            ∙ append_assoc b.taken old.partial.items front
            ∙ ap (λ (t : List ℕ). b.taken ++ t) (same_front (old.partial.items ++ front) (a.taken ++ new.partial.items) left.now all)
            ∙ sym (append_assoc b.taken a.taken new.partial.items);
      },
    )
behind_piece (Err e) old new piece a ends = tt

pub has_needed_byte : (old : TreeStream) (piece bytes : List ℕ) → StopsInRow old.machine old.partial.items piece → IsBehind old bytes → HasNeededByte (target_in old).interval bytes piece
has_needed_byte old piece bytes s b =
    let context = s.reached.context in
    let e = ends_in_row context s.reached.state (b.taken ++ s.taken) s.part (s.moves b.taken b.at).0 s.inside s.short in
    let P : List ℕ → Type 0 = λ t. EndsInRow context.last_key.items t in
    let Q : Target → Type 0 = λ target. IsTrue (in_interval target.interval context.last_key.items) in
    let is : (b.taken ++ s.taken) ++ s.part ≡ bytes ++ s.front =
    append_assoc b.taken s.taken s.part ∙ ap (λ (t : List ℕ). b.taken ++ t) (sym s.all) ∙ sym (append_assoc b.taken old.partial.items s.front) ∙ ap (λ (t : List ℕ). t ++ s.front) (sym b.parts) in
    record {
      key = context.last_key.items;
      front = s.front;
      left = s.left;
      parts = s.parts;
      some = s.some;
      inside = subst P is e.0;
      needed = subst Q s.target e.1;
    }
