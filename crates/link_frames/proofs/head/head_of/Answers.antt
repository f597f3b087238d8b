use Rattle.std.proofs.Common.{sym, ◌∙◌}
use Rattle.link_frames.proofs.ReadLaws.{head_unknown, head_refused, head_known}
use Rattle.link_frames.proofs.head.head_of.Goals as goal

pub returns-in_default-clause-known : goal.returns-in_default-clause-known
returns-in_default-clause-known c =
    λ bytes. head_unknown c.args.awaits c.args.length c.args.code bytes c.requires (sym c.from_code.ensures ∙ c.in_default.is)

pub returns-then-not-allows-clause-known : goal.returns-then-not-allows-clause-known
returns-then-not-allows-clause-known c =
    λ bytes. head_refused c.args.awaits c.args.length c.args.code c.in-Some.kind bytes c.requires
    (sym c.from_code.ensures ∙ c.in-Some.is) (sym c.allows.ensures ∙ c.if-not-allows.true)

pub returns-clause-known : goal.returns-clause-known
returns-clause-known c =
    λ bytes. head_known c.args.awaits c.args.length c.args.code c.in-Some.kind bytes
    (sym c.from_code.ensures ∙ c.in-Some.is) (sym c.allows.ensures ∙ c.if-not-allows.false)

pub returns-clause-allowed : goal.returns-clause-allowed
returns-clause-allowed c = sym c.allows.ensures ∙ c.if-not-allows.false
