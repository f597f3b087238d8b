use Rattle.std.proofs.Common.{◌≡◌, refl, subst}
use Rattle.vo_spec.specs.declared.records.Entry.{Entry}
use Rattle.outside.specs.Moments.{IfKnown, LeavesOnly}
use Rattle.owner_journal.specs.Resting.{IsAtRest, HoldsWith, behind_gate, end_of}
use Rattle.owner_journal.specs.Slots.{slot_down}
use Rattle.owner_journal.proofs.Cases.{where_ok}
use Rattle.owner_journal.proofs.RestLaws.{same_leaves, appended_rests, appended_holds}
use Rattle.owner_journal.proofs.journal.Journal.append.Goals as goal

pub returns-then-self-clause-any_moment : goal.returns-then-self-clause-any_moment
returns-then-self-clause-any_moment g c =
    same_leaves (g.D.Disk.drive c.args.disk.now) (g.D.Disk.drive c.args.disk.now) c.args.self.now.entries.items c.args.entry.now refl

pub returns-in_err-behind-clause-any_moment : goal.returns-in_err-behind-clause-any_moment
returns-in_err-behind-clause-any_moment g c =
    same_leaves (g.D.Disk.drive c.args.disk.now) (g.D.Disk.drive c.args.disk.now) c.args.self.now.entries.items c.args.entry.now refl

pub returns-in_err-copy-clause-any_moment : goal.returns-in_err-copy-clause-any_moment
returns-in_err-copy-clause-any_moment g c =
    same_leaves (g.D.Disk.drive c.args.disk.now) (g.D.Disk.drive c.args.disk.now) c.args.self.now.entries.items c.args.entry.now refl

pub returns-clause-any_moment : goal.returns-clause-any_moment
returns-clause-any_moment g c =
    subst (λ (e : Entry). IfKnown (g.D.Disk.drive c.args.disk.now) (g.D.Disk.drive c.put.new.disk) (λ before after. IsAtRest c.args.self.now.entries.items before → LeavesOnly before after (HoldsWith c.args.self.now.entries.items e)))
    c.in_ok-copy.ensures c.put.ensures.any_moment

pub returns-clause-at_rest : goal.returns-clause-at_rest
returns-clause-at_rest g c =
    let es = c.args.self.now.entries.items in
    let old = g.D.Disk.drive c.args.disk.now in
    let new = g.D.Disk.drive c.put.new.disk in
    where_ok c.put.result (new ≡ slot_down (end_of es) (behind_gate c.in_ok-copy.copy) old) _
    (λ exact. appended_rests old new es c.args.entry.now c.requires.fits (subst (λ (e : Entry). new ≡ slot_down (end_of es) (behind_gate e) old) c.in_ok-copy.ensures exact)) c.put.ensures.exact

pub returns-clause-holds : goal.returns-clause-holds
returns-clause-holds g c =
    let es = c.args.self.now.entries.items in
    let old = g.D.Disk.drive c.args.disk.now in
    let new = g.D.Disk.drive c.put.new.disk in
    where_ok c.put.result (new ≡ slot_down (end_of es) (behind_gate c.in_ok-copy.copy) old) _
    (λ exact. appended_holds old new es c.args.entry.now c.requires.fits (subst (λ (e : Entry). new ≡ slot_down (end_of es) (behind_gate e) old) c.in_ok-copy.ensures exact)) c.put.ensures.exact
