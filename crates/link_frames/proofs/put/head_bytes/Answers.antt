use Rattle.std.proofs.Common.{ℕ, List, [], ◌∷◌, ◌++◌, length, refl, ap, ◌∙◌}
use Rattle.link_frames.proofs.FrameLaws.{length-u32}
use Rattle.link_frames.proofs.Putting.{four}
use Rattle.link_frames.proofs.put.head_bytes.Goals as goal

pub returns : goal.returns
returns c =
    four c.u32_bytes.result c.code.result (ap length c.u32_bytes.ensures ∙ length-u32 c.args.length)
    ∙ ap (λ (bytes : List ℕ). bytes ++ c.code.result ∷ []) c.u32_bytes.ensures ∙ rw c.code.ensures refl
