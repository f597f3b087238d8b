use Rattle.std.proofs.Common.{◌≡◌, arith, false, true, List, Result, Ok, Err, ap, subst, ◌∙◌, ℕ}
use Rattle.std.specs.Global.{Vec}
use Rattle.std.specs.Prelude.{is_none}
use Rattle.vo_spec.specs.Honest.{Stored}
use Rattle.vo_store.specs.declared.fault.StoreFault.{StoreFault}
use Rattle.vo_store.specs.declared.fault.StoreFault.TheVariants.{Empty}
use Rattle.vo_store.specs.StoreState.{StoreState, with_pending}
use Rattle.vo_store.specs.Calls.{Gives, proposal_of}
use Rattle.vo_store.proofs.CallLaws.{fault_on, go, on_trees, proposal_by, proposal_none, proposal_ok, propose_honest}
use Rattle.vo_store.proofs.TableLaws.{proofs_fit}
use Rattle.vo_store.proofs.store.Store.propose.Goals as goal

pub returns-then-is_none-clause-answer : goal.returns-then-is_none-clause-answer
returns-then-is_none-clause-answer c =
    let s : StoreState = record { key = c.self.inside.key; earlier = c.self.inside.earlier.items; installed = c.self.inside.installed; tables = c.self.inside.tables; pending = c.self.inside.pending } in
    let none : is_none s.installed ≡ true = grind (arith, c.is_none.ensures, c.if-is_none.true) in
    subst (λ (t : StoreState). proposal_of t c.args.batch.now.commands ≡ Err Empty) c.self.view_is (proposal_none s c.args.batch.now.commands none)

pub invariant_of-self : goal.invariant_of-self
invariant_of-self c =
    let s : StoreState = record { key = c.self.inside.key; earlier = c.self.inside.earlier.items; installed = c.self.inside.installed; tables = c.self.inside.tables; pending = c.self.inside.pending } in
    let some : is_none s.installed ≡ false = grind (arith, c.is_none.ensures, c.if-is_none.false) in
    propose_honest s c.self.invariant c.args.batch.now.commands c.in-Ok.field-0.after c.in-Ok.field-0.proofs.items c.requires some c.in-Ok.ensures

pub returns-in-Ok-clause-answer : goal.returns-in-Ok-clause-answer
returns-in-Ok-clause-answer c =
    let s : StoreState = record { key = c.self.inside.key; earlier = c.self.inside.earlier.items; installed = c.self.inside.installed; tables = c.self.inside.tables; pending = c.self.inside.pending } in
    let some : is_none s.installed ≡ false = grind (arith, c.is_none.ensures, c.if-is_none.false) in
    subst (λ (t : StoreState). proposal_of t c.args.batch.now.commands ≡ Ok (with_pending c.in-Ok.field-0.after s, c.in-Ok.field-0.proofs.items)) c.self.view_is
    (proposal_ok s c.args.batch.now.commands c.in-Ok.field-0.after c.in-Ok.field-0.proofs.items some c.in-Ok.ensures)

pub returns-in-Err-clause-answer : goal.returns-in-Err-clause-answer
returns-in-Err-clause-answer c =
    let s : StoreState = record { key = c.self.inside.key; earlier = c.self.inside.earlier.items; installed = c.self.inside.installed; tables = c.self.inside.tables; pending = c.self.inside.pending } in
    let some : is_none s.installed ≡ false = grind (arith, c.is_none.ensures, c.if-is_none.false) in
    subst (λ (r : Result (StoreState × List ℕ) StoreFault). Gives (λ (x : StoreState × List ℕ). x) (Err c.in-Err.fault) r)
    (proposal_by s c.args.batch.now.commands some ∙ ap (λ (t : StoreState). proposal_of t c.args.batch.now.commands) c.self.view_is)
    (fault_on (λ (x : List Stored × List ℕ). x) (λ (x : StoreState × List ℕ). x) (go s c.args.batch.now.commands) c.in-Err.fault (on_trees s c.args.batch.now.commands) c.in-Err.ensures)

pub returns-in-Ok-clause-fits : goal.returns-in-Ok-clause-fits
returns-in-Ok-clause-fits c =
    let s : StoreState = record { key = c.self.inside.key; earlier = c.self.inside.earlier.items; installed = c.self.inside.installed; tables = c.self.inside.tables; pending = c.self.inside.pending } in
    let some : is_none s.installed ≡ false = grind (arith, c.is_none.ensures, c.if-is_none.false) in
    proofs_fit c.self.invariant.0 c.args.batch.now.commands s c.self.invariant.1 c.requires (with_pending c.in-Ok.field-0.after s) (Ok c.in-Ok.field-0.proofs)
    (proposal_ok s c.args.batch.now.commands c.in-Ok.field-0.after c.in-Ok.field-0.proofs.items some c.in-Ok.ensures)

pub returns-in-Err-clause-fits : goal.returns-in-Err-clause-fits
returns-in-Err-clause-fits c =
    let s : StoreState = record { key = c.self.inside.key; earlier = c.self.inside.earlier.items; installed = c.self.inside.installed; tables = c.self.inside.tables; pending = c.self.inside.pending } in
    let some : is_none s.installed ≡ false = grind (arith, c.is_none.ensures, c.if-is_none.false) in
    let view : Vec ℕ → StoreState × List ℕ = λ (proofs : Vec ℕ). (s, proofs.items) in
    proofs_fit c.self.invariant.0 c.args.batch.now.commands s c.self.invariant.1 c.requires s (Err c.in-Err.fault)
    (subst (λ (r : Result (StoreState × List ℕ) StoreFault). Gives view (Err c.in-Err.fault) r) (proposal_by s c.args.batch.now.commands some)
    (fault_on (λ (x : List Stored × List ℕ). x) view (go s c.args.batch.now.commands) c.in-Err.fault (on_trees s c.args.batch.now.commands) c.in-Err.ensures))
