use Rattle.std.proofs.Common.{◌≡◌, ℕ, List, Err, sym, ap, ◌∙◌, subst, Some}
use Rattle.std.specs.Global.{Vec}
use Rattle.vo_store.specs.declared.fault.StoreFault.{StoreFault}
use Rattle.vo_store.specs.declared.fault.StoreFault.TheVariants.{Command}
use Rattle.vo_store.specs.Calls.{Gives, proposal_of}
use Rattle.link_frames.specs.declared.frame_kind.FrameKind.TheVariants.{Proofs}
use Rattle.vo_wire.specs.Answering.{KindAndBody, proofs_answer, store_after}
use Rattle.vo_wire.proofs.versions.propose.Goals as goal

pub returns-in-Ok-clause-answer : goal.returns-in-Ok-clause-answer
returns-in-Ok-clause-answer c = ap (λ (a : KindAndBody). Some a) (sym (ap proofs_answer c.in-Ok.ensures.answer))

pub returns-in-Ok-clause-next : goal.returns-in-Ok-clause-next
returns-in-Ok-clause-next c = sym (ap (store_after (λ proposal. proposal.0) c.args.store.now) c.in-Ok.ensures.answer)

pub returns-in-Err-Command-clause-answer : goal.returns-in-Err-Command-clause-answer
returns-in-Err-Command-clause-answer c =
    let refused_is : proposal_of c.args.store.now c.args.batch.now.commands ≡ Err (Command c.in-Err-Command.field-0-0 c.in-Err-Command.field-0-1 c.in-Err-Command.proofs) =
    subst
    (λ (why : StoreFault). Gives {X = Vec ℕ} (λ proofs. (c.propose.new.self, proofs.items)) (Err why) (proposal_of c.args.store.now c.args.batch.now.commands))
    c.in-Err-Command.field-0-is c.in-Err-Command.ensures.answer in
    ap (λ (body : List ℕ). Some (Proofs, body)) c.into_vec.ensures ∙ ap (λ (a : KindAndBody). Some a) (sym (ap proofs_answer refused_is))
