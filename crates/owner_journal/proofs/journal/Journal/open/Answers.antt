use Rattle.std.proofs.Common.{◌≡◌, ◌<◌, ◌≤◌, List, [], ◌∷◌, length, Option, IfSome, sym, ap, subst, ◌∙◌}
use Rattle.vo_spec.specs.declared.records.Entry.{Entry}
use Rattle.vo_spec.specs.Journals.{IsJournal}
use Rattle.outside.specs.DiskModel.{DiskModel, MayLeave}
use Rattle.outside.specs.Moments.{IfKnown, LeavesOnly, persist_known}
use Rattle.owner_journal.specs.Resting.{IsAtRest, IsFaultOf}
use Rattle.owner_journal.specs.Entries.{entries_of}
use Rattle.owner_journal.proofs.Cases.{where_ok, of_ok, if_ok, if_err, on_ok}
use Rattle.owner_journal.proofs.OpenLaws.{settled_leaves, no_damage, empty_found, first_gate_rests, first_gate_leaves, some_holds, seen_down, down_seen, read_rests, not_later, not_first, is_so, is_short, is_long}
use Rattle.owner_journal.proofs.journal.Journal.open.Goals as goal

pub returns-in_err-end-clause-any_moment : goal.returns-in_err-end-clause-any_moment
returns-in_err-end-clause-any_moment g c =
    settled_leaves (g.D.Disk.drive c.args.disk.now) (g.D.Disk.drive c.settle.new.disk) c.settle.ensures.any_moment

-- An empty disk.

pub returns-then-end-lt2-clause-found : goal.returns-then-end-lt2-clause-found
returns-then-end-lt2-clause-found g c =
    if_ok c.close_first.result (λ journal. entries_of journal ≡ []) _
    (λ journal none. empty_found (g.D.Disk.drive c.args.disk.now) (entries_of journal) c.in_ok-end.end c.if-end-lt2.true c.in_ok-end.ensures.len none) c.close_first.ensures.empty

pub returns-then-end-lt2-clause-damaged : goal.returns-then-end-lt2-clause-damaged
returns-then-end-lt2-clause-damaged g c =
    if_err c.close_first.result _ _ (λ fault none. no_damage fault (g.D.Disk.drive c.args.disk.now) none) c.close_first.ensures.fault

pub returns-then-end-lt2-clause-first : goal.returns-then-end-lt2-clause-first
returns-then-end-lt2-clause-first g c =
    where_ok c.close_first.result _ _
    (λ same. is_so (g.D.Disk.drive c.args.disk.now) (λ before. length before.seen < 2) _ (same ∙ ap (persist_known 0 (0 ∷ [])) c.in_ok-end.ensures.ok)) c.close_first.ensures.ok

pub returns-then-end-lt2-clause-later : goal.returns-then-end-lt2-clause-later
returns-then-end-lt2-clause-later g c =
    on_ok c.close_first.result _ (not_later (g.D.Disk.drive c.args.disk.now) (g.D.Disk.drive c.close_first.new.disk) c.in_ok-end.end _ c.if-end-lt2.true c.in_ok-end.ensures.len)

pub returns-then-end-lt2-clause-at_rest : goal.returns-then-end-lt2-clause-at_rest
returns-then-end-lt2-clause-at_rest g c =
    let old = g.D.Disk.drive c.args.disk.now in
    let mid = g.D.Disk.drive c.settle.new.disk in
    let new = g.D.Disk.drive c.close_first.new.disk in
    of_ok c.close_first.result (new ≡ persist_known 0 (0 ∷ []) mid) (λ journal. entries_of journal ≡ []) _
    (λ journal same none. subst (λ (es : List Entry). IfSome new (IsAtRest es)) (sym none) (first_gate_rests old new (same ∙ ap (persist_known 0 (0 ∷ [])) c.in_ok-end.ensures.ok)))
    c.close_first.ensures.ok c.close_first.ensures.empty

pub returns-then-end-lt2-clause-holds : goal.returns-then-end-lt2-clause-holds
returns-then-end-lt2-clause-holds g c =
    let old = g.D.Disk.drive c.args.disk.now in
    let mid = g.D.Disk.drive c.settle.new.disk in
    let new = g.D.Disk.drive c.close_first.new.disk in
    of_ok c.close_first.result (new ≡ persist_known 0 (0 ∷ []) mid) (λ journal. entries_of journal ≡ []) _
    (λ journal same none. some_holds new (entries_of journal)
    (subst (λ (es : List Entry). IfSome new (IsAtRest es)) (sym none) (first_gate_rests old new (same ∙ ap (persist_known 0 (0 ∷ [])) c.in_ok-end.ensures.ok))))
    c.close_first.ensures.ok c.close_first.ensures.empty

pub returns-then-end-lt2-clause-any_moment : goal.returns-then-end-lt2-clause-any_moment
returns-then-end-lt2-clause-any_moment g c =
    let old = g.D.Disk.drive c.args.disk.now in
    first_gate_leaves old (g.D.Disk.drive c.settle.new.disk) (g.D.Disk.drive c.close_first.new.disk) (g.met.D.Disk.sees c.args.disk.now) c.in_ok-end.ensures.ok
    (is_short old c.in_ok-end.end c.if-end-lt2.true c.in_ok-end.ensures.len) c.settle.ensures.any_moment c.close_first.ensures.any_moment

-- A disk that is read.

pub read_journal-requires : goal.read_journal-requires
read_journal-requires g c =
    (down_seen (g.D.Disk.drive c.args.disk.now) (g.D.Disk.drive c.settle.new.disk) (λ bytes. c.in_ok-end.end ≡ length bytes) c.in_ok-end.ensures.ok c.in_ok-end.ensures.len)

pub returns-else-end-lt2-clause-found : goal.returns-else-end-lt2-clause-found
returns-else-end-lt2-clause-found g c =
    if_ok c.read_journal.result _ _
    (λ journal is. seen_down (g.D.Disk.drive c.args.disk.now) (g.D.Disk.drive c.settle.new.disk) (λ bytes. IsJournal bytes (entries_of journal)) c.in_ok-end.ensures.ok is)
    c.read_journal.ensures.found

pub returns-else-end-lt2-clause-damaged : goal.returns-else-end-lt2-clause-damaged
returns-else-end-lt2-clause-damaged g c =
    if_err c.read_journal.result _ _
    (λ fault is. seen_down (g.D.Disk.drive c.args.disk.now) (g.D.Disk.drive c.settle.new.disk) (λ bytes. IsFaultOf bytes fault) c.in_ok-end.ensures.ok is)
    c.read_journal.ensures.damaged

pub returns-else-end-lt2-clause-first : goal.returns-else-end-lt2-clause-first
returns-else-end-lt2-clause-first g c =
    on_ok c.read_journal.result _ (not_first (g.D.Disk.drive c.args.disk.now) (g.D.Disk.drive c.read_journal.new.disk) c.in_ok-end.end _ c.if-end-lt2.false c.in_ok-end.ensures.len)

pub returns-else-end-lt2-clause-later : goal.returns-else-end-lt2-clause-later
returns-else-end-lt2-clause-later g c =
    on_ok c.read_journal.result _ (is_so (g.D.Disk.drive c.args.disk.now) (λ before. 2 ≤ length before.seen) _ (c.read_journal.ensures.kept ∙ c.in_ok-end.ensures.ok))

pub returns-else-end-lt2-clause-at_rest : goal.returns-else-end-lt2-clause-at_rest
returns-else-end-lt2-clause-at_rest g c =
    let old = g.D.Disk.drive c.args.disk.now in
    let mid = g.D.Disk.drive c.settle.new.disk in
    let new = g.D.Disk.drive c.read_journal.new.disk in
    if_ok c.read_journal.result _ _
    (λ journal is. read_rests old new (entries_of journal) (c.read_journal.ensures.kept ∙ c.in_ok-end.ensures.ok) (is_long old c.in_ok-end.end c.if-end-lt2.false c.in_ok-end.ensures.len)
    (seen_down old mid (λ bytes. IsJournal bytes (entries_of journal)) c.in_ok-end.ensures.ok is))
    c.read_journal.ensures.found

pub returns-else-end-lt2-clause-holds : goal.returns-else-end-lt2-clause-holds
returns-else-end-lt2-clause-holds g c =
    let old = g.D.Disk.drive c.args.disk.now in
    let mid = g.D.Disk.drive c.settle.new.disk in
    let new = g.D.Disk.drive c.read_journal.new.disk in
    if_ok c.read_journal.result _ _
    (λ journal is. some_holds new (entries_of journal)
    (read_rests old new (entries_of journal) (c.read_journal.ensures.kept ∙ c.in_ok-end.ensures.ok) (is_long old c.in_ok-end.end c.if-end-lt2.false c.in_ok-end.ensures.len)
    (seen_down old mid (λ bytes. IsJournal bytes (entries_of journal)) c.in_ok-end.ensures.ok is)))
    c.read_journal.ensures.found

pub returns-else-end-lt2-clause-any_moment : goal.returns-else-end-lt2-clause-any_moment
returns-else-end-lt2-clause-any_moment g c =
    let old = g.D.Disk.drive c.args.disk.now in
    let new = g.D.Disk.drive c.read_journal.new.disk in
    settled_leaves old new
    (subst (λ (o : Option DiskModel). IfKnown old o (λ before after. LeavesOnly before after (MayLeave before))) (sym c.read_journal.ensures.kept) c.settle.ensures.any_moment)
