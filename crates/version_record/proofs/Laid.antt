-- Bytes that are written over others from the front on.
use Rattle.std.proofs.Common.{◌≡◌, ℕ, ◌+◌, List, ◌++◌, length, take, drop, sym, ap, ◌∙◌}
use Rattle.std.proofs.Math.Seq.{drop-append-add, take-append_seam}

-- a piece put at a place, behind what stands in front of that place
pub laid : (front rest piece bytes new : List ℕ) (at : ℕ) → length front ≡ at → bytes ≡ front ++ rest
    → new ≡ take at bytes ++ piece ++ drop (at + length piece) bytes → new ≡ (front ++ piece) ++ drop (length piece) rest
laid front rest piece bytes new at long is put =
    put ∙ ap (λ n. take n bytes ++ piece ++ drop (n + length piece) bytes) (sym long)
    ∙ ap (λ b. take (length front) b ++ piece ++ drop (length front + length piece) b) is
    ∙ ap (λ f. f ++ piece ++ drop (length front + length piece) (front ++ rest)) (take-append_seam front rest)
    ∙ ap (λ r. front ++ piece ++ r) (drop-append-add front rest (length piece))
