use Rattle.std.proofs.Common.{◌≡◌, ℕ, List, Some, None, length, take, sym, subst, arith}
use Rattle.vo_spec.specs.declared.records.Entry.{Entry}
use Rattle.owner_roots.specs.Owners.{AreOwned, AreOwnedTo}
use Rattle.owner_state.specs.Owning.{Leads}
use Rattle.owner_state.proofs.LeadLaws.{behind_more, owned_behind, owned_no_more, take_next}
use Rattle.owner_state.proofs.owned_entries.owned.Goals as goal

pub returns-in-None-clause-owned : goal.returns-in-None-clause-owned
returns-in-None-clause-owned c = owned_behind c.args.key.now (take c.loop-index.index c.args.entries.now) c.loop-index.roots c.loop-index.invariant.behind

pub returns-in-None-clause-most : goal.returns-in-None-clause-most
returns-in-None-clause-most c =
    let key = c.args.key.now in
    let es : List Entry = c.args.entries.now in
    let n = c.loop-index.index in
    let e = c.index-entries-index.result in
    let never : Leads key c.loop-index.roots e None = subst (Leads key c.loop-index.roots e) c.in-None.is c.in_ok-after.ensures in
    λ within owned.
    owned_no_more key (take n es) c.loop-index.roots e c.loop-index.invariant.behind never
    (subst (AreOwned key) (take_next es n e within c.index-entries-index.is) owned)

pub loop-index-preserved : goal.loop-index-preserved
loop-index-preserved c =
    let key = c.args.key.now in
    let es : List Entry = c.args.entries.now in
    let n = c.loop-index.index in
    let e = c.index-entries-index.result in
    let leads : Leads key c.loop-index.roots e (Some c.in-Some.after) = subst (Leads key c.loop-index.roots e) c.in-Some.is c.in_ok-after.ensures in
    record {
      behind = subst (λ (fs : List Entry). AreOwnedTo key fs c.in-Some.after) (sym (take_next es n e c.loop-index-test.true c.index-entries-index.is))
          (behind_more key (take n es) c.loop-index.roots e c.in-Some.after c.loop-index.invariant.behind leads.0);
      fits = leads.1;
    }

pub returns-clause-owned : goal.returns-clause-owned
returns-clause-owned c =
    let es : List Entry = c.args.entries.now in
    let index-end = c.loop-index.auto.index-end in
    let test = c.loop-index-test.false in
    let same : c.loop-index.index ≡ length es = omega arith in
    subst (λ (k : ℕ). AreOwned c.args.key.now (take k es)) same (owned_behind c.args.key.now (take c.loop-index.index es) c.loop-index.roots c.loop-index.invariant.behind)
