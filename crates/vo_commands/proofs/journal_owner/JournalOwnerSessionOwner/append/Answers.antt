use Rattle.std.proofs.Common.{ap, ◌∙◌}
use Rattle.owner_journal.specs.Entries.{entries_of}
use Rattle.owner_state.specs.Held.{Held}
use Rattle.vo_commands.proofs.OwnerLaws.{count_appended, few_entries, versions_appended}
use Rattle.vo_commands.proofs.journal_owner.JournalOwnerSessionOwner.append.Goals as goal

pub append-requires-clause-count : goal.append-requires-clause-count
append-requires-clause-count g c =
    few_entries c.args.self.now.owner c.args.step (entries_of c.args.self.now.journal) c.requires.follows c.args.self.now.count

pub invariant_of-self-clause-count : goal.invariant_of-self-clause-count
invariant_of-self-clause-count g c =
    count_appended c.args.self.now.owner c.args.step (entries_of c.args.self.now.journal) (entries_of c.append.new.journal) c.prepare.new.self.roots
    c.requires.follows c.args.self.now.count c.in-Ok.ensures.ok
    (ap (λ (h : Held). h.roots) c.prepare.ensures ∙ c.advance.ensures.roots)

pub invariant_of-self-clause-versions : goal.invariant_of-self-clause-versions
invariant_of-self-clause-versions g c =
    versions_appended c.args.self.now.owner c.args.step (entries_of c.args.self.now.journal) (entries_of c.append.new.journal) c.requires.follows
    c.args.self.now.versions c.args.self.now.count c.in-Ok.ensures.ok
