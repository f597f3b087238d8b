use Rattle.std.proofs.Common.{ℕ, List, refl, sym, ap, ◌∙◌, Some}
use Rattle.link_frames.specs.declared.frame_kind.FrameKind.TheVariants.{Installed}
use Rattle.vo_wire.specs.Answering.{KindAndBody, version_answer, store_after}
use Rattle.vo_wire.proofs.AnswerLaws.{refused, stayed}
use Rattle.vo_wire.proofs.versions.install.Goals as goal

pub returns-in-Ok-clause-answer : goal.returns-in-Ok-clause-answer
returns-in-Ok-clause-answer c =
    ap (λ (body : List ℕ). Some (Installed, body)) (c.in_ok-body.ensures.items ∙ c.u64_bytes.ensures)
    ∙ ap (λ (a : KindAndBody). Some a) (sym (ap (version_answer c.args.signed.now.rec.version) c.in-Ok.ensures.answer))

pub returns-in-Ok-clause-next : goal.returns-in-Ok-clause-next
returns-in-Ok-clause-next c = sym (ap (store_after (λ next. next) c.args.store.now) c.in-Ok.ensures.answer)

pub returns-in-Err-clause-answer : goal.returns-in-Err-clause-answer
returns-in-Err-clause-answer c =
    refused {X = Unit {0}} (λ _. c.install.new.self) (version_answer c.args.signed.now.rec.version) c.in-Err.fault _ c.refusal_by.result refl c.in-Err.ensures.answer
    c.refusal_by.ensures.memory c.refusal_by.ensures.answer

pub returns-in-Err-clause-next : goal.returns-in-Err-clause-next
returns-in-Err-clause-next c =
    stayed {X = Unit {0}} (λ _. c.install.new.self) (λ next. next) c.in-Err.fault _ c.refusal_by.result c.args.store.now c.install.new.self c.in-Err.ensures.answer
    c.refusal_by.ensures.memory c.in-Err.ensures.left
