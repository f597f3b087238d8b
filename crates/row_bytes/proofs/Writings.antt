-- What several calls have written, one after another, and what is left of it behind an error.
use Rattle.std.proofs.Common.{◌≡◌, ℕ, List, ◌++◌, length, take, subst, ap, ◌∙◌, append_assoc}
use Rattle.std.proofs.Math.Seq.{take-append_seam}
use Rattle.row_bytes.specs.Writing.{Writes, WritesSome}

-- some bytes behind those that were written
pub some_behind : {W : Type 0} (HoldsBytes : W → List ℕ → Type 0) (old between new : W) (bytes : List ℕ)
    → Writes HoldsBytes old between bytes → WritesSome HoldsBytes between new → WritesSome HoldsBytes old new
some_behind HoldsBytes old between new bytes first some = record {
  written = bytes ++ some.written;
  writes = λ before h. subst (HoldsBytes new) (append_assoc before bytes some.written)
      (some.writes (before ++ bytes) (first.writes before h));
}

-- bytes behind which something was written, cut back to as many as they were
pub cut_back : (old new cut more : List ℕ) (count : ℕ) → count ≡ length old → cut ≡ take count new → new ≡ old ++ more → cut ≡ old
cut_back old new cut more count c is e =
    is ∙ ap (λ (n : ℕ). take n new) c ∙ ap (take (length old)) e ∙ take-append_seam old more
