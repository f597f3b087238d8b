use Rattle.vo_commands.specs.Expected.{ask_expected, queue_of}
use Rattle.vo_commands.specs.Reports.{Answers}
use Rattle.vo_commands.proofs.NetSteps.{by_files}
use Rattle.vo_commands.proofs.top.run_command.Goals as goal

pub returns-in-Ask-clause-known : goal.returns-in-Ask-clause-known
returns-in-Ask-clause-known g c =
    rw c.in-Ask.is (by_files (λ known. ask_expected c.in-Ask.key.now c.in-Ask.query.now c.in-Ask.at c.in-Ask.least known (queue_of (g.N.Link.wire c.args.net.now)))
    (λ expected. Answers expected c.ask.result) _ c.ask.ensures.known)

pub returns-in-Seal-clause-files : goal.returns-in-Seal-clause-files
returns-in-Seal-clause-files g c = rw c.in-Seal.is c.seal.ensures.files.leaves

pub returns-in-Check-clause-files : goal.returns-in-Check-clause-files
returns-in-Check-clause-files g c = rw c.in-Check.is c.check.ensures.files.leaves

pub returns-in-Ask-clause-files : goal.returns-in-Ask-clause-files
returns-in-Ask-clause-files g c = rw c.in-Ask.is c.ask.ensures.files

pub returns-in-Meet-clause-files : goal.returns-in-Meet-clause-files
returns-in-Meet-clause-files g c = rw c.in-Meet.is c.meet.ensures.files.leaves

pub returns-in-Keygen-clause-files : goal.returns-in-Keygen-clause-files
returns-in-Keygen-clause-files g c = rw c.in-Keygen.is c.keygen.ensures.files.leaves

pub returns-in-Audit-clause-files : goal.returns-in-Audit-clause-files
returns-in-Audit-clause-files g c = rw c.in-Audit.is c.audit.ensures.files.leaves

pub returns-in-Generate-clause-known : goal.returns-in-Generate-clause-known
returns-in-Generate-clause-known g c = rw c.in-Generate.is c.generate.ensures.known
