use Rattle.std.proofs.Common.{◌≡◌, ◌+◌, ◌≤◌, false, length, sym, ap, ◌∙◌, arith}
use Rattle.std.specs.Prelude.{is_some}
use Rattle.vo_spec.specs.Replies.{max_reply}
use Rattle.reply_stream.specs.Lengths.{excess}
use Rattle.vo_check.specs.Checkings.{CheckingModel}
use Rattle.vo_check.proofs.CheckingLaws.{not_over}
use Rattle.vo_check.proofs.checking.Checking.feed.Goals as goal

pub returns-clause-over : goal.returns-clause-over
returns-clause-over c = λ long.
    let same : length c.self.inside.log.bytes ≡ length c.args.self.now.bytes = ap (λ (m : CheckingModel). length m.bytes) c.self.view_is in
    let none : is_some (excess c.add.new.self) ≡ false = sym (ap is_some c.excess.ensures) ∙ sym c.is_some.ensures ∙ c.if-is_some.false in
    let within : length c.self.inside.log.bytes + length c.args.piece.now ≤ max_reply =
    not_over (length c.self.inside.log.bytes) (length c.args.piece.now) c.self.inside.count c.add.new.self c.self.invariant.1 c.add.ensures none in
    absurd (omega (arith, long, within, same))
