use Rattle.std.proofs.Common.{◌≡◌, ℕ, [], ◌∷◌, Ok, Err, refl}
use Rattle.link_frames.specs.declared.frame_kind.FrameKind.TheVariants.{Refusal}
use Rattle.link_frames.specs.Frames.{Coming, Whole}
use Rattle.link_frames.proofs.ReadLaws.{code_behind}
use Rattle.link_frames.proofs.receive.receive_behind.Goals as goal

-- the code of what comes first, a refusal
abbrev IsCode : Coming → ℕ → Type 0
IsCode first code = first ≡ Whole Refusal (code ∷ [])

pub returns-in-Ok-clause-known : goal.returns-in-Ok-clause-known
returns-in-Ok-clause-known g c =
    λ before is.
    let h = code_behind IsCode c.args.head.kind c.args.head.length (Ok c.in-Ok.code) before (g.L.Link.wire c.read_code.new.link)
    c.in-Refusal.is c.requires (c.in-Ok.ensures.known before is) in
    ((refl, h.0), h.1)

pub returns-in-Err-clause-known : goal.returns-in-Err-clause-known
returns-in-Err-clause-known g c =
    λ before is. code_behind IsCode c.args.head.kind c.args.head.length (Err c.in-Err.fault) before
    (g.L.Link.wire c.read_code.new.link) c.in-Refusal.is c.requires (c.in-Err.ensures.known before is)
