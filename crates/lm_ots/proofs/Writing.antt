-- What several calls have written, one after another.
use Rattle.std.proofs.Common.{ℕ, ◌+◌, List, ◌++◌, subst, append_assoc}
use Rattle.row_bytes.specs.Writing.{Writes}
use Rattle.vo_spec.specs.Bytes.{join_pieces}
use Rattle.vo_spec.specs.Ots.{public_text}
use Rattle.lm_ots.proofs.Pieces.{public_text_more}

pub written_on : {W : Type 0} (HoldsBytes : W → List ℕ → Type 0) (old between new : W) (first second : List ℕ)
    → Writes HoldsBytes old between first → Writes HoldsBytes between new second → Writes HoldsBytes old new (first ++ second)
written_on HoldsBytes old between new first second a b = record {
  writes = λ before h. subst (HoldsBytes new) (append_assoc before first second) (b.writes (before ++ first) (a.writes before h));
}

-- the text of a public key is written on by the next end
pub end_written : {W : Type 0} (HoldsBytes : W → List ℕ → Type 0) (old between new : W) (id : List ℕ) (q : ℕ) (ends : ℕ → List ℕ) (i : ℕ)
    → Writes HoldsBytes old between (public_text id q (join_pieces ends i)) → Writes HoldsBytes between new (ends i)
    → Writes HoldsBytes old new (public_text id q (join_pieces ends (i + 1)))
end_written HoldsBytes old between new id q ends i before here =
    subst (λ (text : List ℕ). Writes HoldsBytes old new text) (public_text_more id q ends i)
    (written_on HoldsBytes old between new (public_text id q (join_pieces ends i)) (ends i) before here)
