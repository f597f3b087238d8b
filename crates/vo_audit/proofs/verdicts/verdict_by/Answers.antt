use Rattle.std.proofs.Common.{List, ℕ, Option, refl, subst}
use Rattle.vo_spec.specs.Conditions.{query_of}
use Rattle.vo_format.specs.View.{reply_of}
use Rattle.vo_audit.specs.Auditing.{CollidesOr, IsPartOf}
use Rattle.vo_audit.specs.Showing.{AreOfReply}
use Rattle.vo_audit.proofs.FindingLaws.{shown_is_result}
use Rattle.vo_audit.proofs.verdicts.verdict_by.Goals as goal

pub returns-in-None-clause-held : goal.returns-in-None-clause-held
returns-in-None-clause-held c = λ plain stand fit.
    let q = query_of c.args.query.now in
    let r = reply_of c.args.reply.now in
    let part : IsPartOf q r c.args.tables.now =
    subst (λ (found : Option (List ℕ × List ℕ)). CollidesOr found (IsPartOf q r c.args.tables.now) (AreOfReply q r c.args.tables.now)) c.in-None.is c.in_ok-evidence.ensures in
    (shown_is_result q r c.args.answer.now c.args.tables.now plain stand fit c.requires.passed c.requires.answer part, refl)
