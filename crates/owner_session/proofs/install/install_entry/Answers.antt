use Rattle.owner_session.proofs.WireLaws.{version_checked, not_installed}
use Rattle.owner_session.proofs.install.install_entry.Goals as goal

pub returns-in-Ok-clause-known : goal.returns-in-Ok-clause-known
returns-in-Ok-clause-known g c =
    λ entry before there is. version_checked g.O.SessionOwner.IsJudgement g.O.SessionOwner.forms entry c.in-Ok.answer c.deref.result.now c.version.result
    c.check_version.result before (g.L.Link.wire c.put_install.new.link) c.deref.ensures.value (c.version.ensures entry there)
    (c.in-Ok.ensures.known entry before there is) c.check_version.ensures.version

pub returns-in-Err-clause-known : goal.returns-in-Err-clause-known
returns-in-Err-clause-known g c =
    λ entry before there is. not_installed g.O.SessionOwner.IsJudgement g.O.SessionOwner.forms entry c.in-Err.stop before
    (g.L.Link.wire c.put_install.new.link) (c.in-Err.ensures.known entry before there is)
