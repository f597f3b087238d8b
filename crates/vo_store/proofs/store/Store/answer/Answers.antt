use Rattle.std.proofs.Common.{◌≡◌, Err, subst}
use Rattle.vo_spec.specs.Conditions.{query_of}
use Rattle.vo_store.specs.StoreState.{StoreState}
use Rattle.vo_store.specs.Calls.{Gives, answer_of}
use Rattle.vo_store.specs.declared.fault.StoreFault.TheVariants.{Empty}
use Rattle.vo_store.proofs.CallLaws.{answer_none, answer_some}
use Rattle.vo_store.proofs.HonestLaws.{installed_fits, installed_magic, installed_short}
use Rattle.vo_store.proofs.store.Store.answer.Goals as goal

pub answer_by_tables-requires-clause-signed : goal.answer_by_tables-requires-clause-signed
answer_by_tables-requires-clause-signed c =
    installed_fits (record { key = c.self.inside.key; earlier = c.self.inside.earlier.items; installed = c.self.inside.installed; tables = c.self.inside.tables; pending = c.self.inside.pending }) c.self.invariant c.in-Some.installed c.in-Some.is

pub answer_by_tables-requires-clause-short : goal.answer_by_tables-requires-clause-short
answer_by_tables-requires-clause-short c =
    installed_short (record { key = c.self.inside.key; earlier = c.self.inside.earlier.items; installed = c.self.inside.installed; tables = c.self.inside.tables; pending = c.self.inside.pending }) c.self.invariant c.in-Some.installed c.in-Some.is

pub answer_by_tables-requires-clause-magic : goal.answer_by_tables-requires-clause-magic
answer_by_tables-requires-clause-magic c =
    installed_magic (record { key = c.self.inside.key; earlier = c.self.inside.earlier.items; installed = c.self.inside.installed; tables = c.self.inside.tables; pending = c.self.inside.pending }) c.self.invariant c.in-Some.installed c.in-Some.is

pub returns-in-Some : goal.returns-in-Some
returns-in-Some c =
    let s : StoreState = record { key = c.self.inside.key; earlier = c.self.inside.earlier.items; installed = c.self.inside.installed; tables = c.self.inside.tables; pending = c.self.inside.pending } in
    subst (λ (t : StoreState). Gives (λ bytes. bytes.items) c.answer_by_tables.result (answer_of t (query_of c.args.query.now))) c.self.view_is
    (subst (Gives (λ bytes. bytes.items) c.answer_by_tables.result) (answer_some s (query_of c.args.query.now) c.in-Some.installed c.in-Some.is) c.answer_by_tables.ensures)

pub returns-in-None : goal.returns-in-None
returns-in-None c =
    let s : StoreState = record { key = c.self.inside.key; earlier = c.self.inside.earlier.items; installed = c.self.inside.installed; tables = c.self.inside.tables; pending = c.self.inside.pending } in
    subst (λ (t : StoreState). answer_of t (query_of c.args.query.now) ≡ Err Empty) c.self.view_is (answer_none s (query_of c.args.query.now) c.in-None.is)
