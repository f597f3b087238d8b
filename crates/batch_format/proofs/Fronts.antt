-- What stays in front of bytes that are put at the end.
use Rattle.std.proofs.Common.{◌≡◌, ℕ, List, Vec, ◌++◌, length, take, drop, refl, sym, ap, ◌∙◌, append_assoc}
use Rattle.std.proofs.Math.Seq.{take-append_seam, take-length}
use Rattle.std.proofs.lemmas.List.{take-append-drop}
use Rattle.row_bytes.specs.Writing.{WritesSome}
use Rattle.batch_format.specs.Writing.{StaysInFront}

-- with nothing put
pub stays_itself : (old new : List ℕ) → new ≡ old → StaysInFront old new
stays_itself old new e = ap (take (length old)) e ∙ take-length old

-- with something put
pub stays_before : (old more new : List ℕ) → new ≡ old ++ more → StaysInFront old new
stays_before old more new e = ap (take (length old)) e ∙ take-append_seam old more

-- behind something that was put
pub stays_behind : (old more between new : List ℕ) → between ≡ old ++ more → StaysInFront between new
    → StaysInFront old new
stays_behind old more between new e h =
    let rest : List ℕ = drop (length between) new in
    stays_before old (more ++ rest) new
    (sym (take-append-drop (length between) new) ∙ ap (λ t. t ++ rest) (h ∙ e) ∙ append_assoc old more rest)

-- with what a call wrote that failed on its way
pub stays_written : {Z : Type 0} (old new : Vec ℕ Z) → WritesSome (λ (out : Vec ℕ Z) bytes. out.items ≡ bytes) old new → StaysInFront old.items new.items
stays_written old new some = stays_before old.items some.written new.items (some.writes old.items refl)
