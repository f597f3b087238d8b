use Rattle.std.proofs.Common.{◌≡◌, List, Some, Result, Ok, Err, ap, sym, subst, ◌∙◌, ℕ}
use Rattle.vo_spec.specs.Honest.{Stored, honest_record}
use Rattle.vo_store.specs.declared.fault.StoreFault.{StoreFault}
use Rattle.vo_store.specs.declared.fault.StoreFault.TheVariants.{NothingProposed}
use Rattle.vo_store.specs.declared.signed_record.SignedRecord.{SignedRecord}
use Rattle.vo_store.specs.StoreState.{StoreState, with_installed}
use Rattle.vo_store.specs.HonestStores.{IsHonestStore}
use Rattle.vo_store.specs.Calls.{Gives, install_of, next_version, signed_record}
use Rattle.vo_store.proofs.CallLaws.{fault_on, install_by, install_go, install_honest, install_none, install_ok}
use Rattle.vo_store.proofs.HonestLaws.{next_below}
use Rattle.vo_store.proofs.store.Store.install.Goals as goal

pub returns-in-None-clause-answer : goal.returns-in-None-clause-answer
returns-in-None-clause-answer c =
    let s : StoreState = record { key = c.self.inside.key; earlier = c.self.inside.earlier.items; installed = c.self.inside.installed; tables = c.self.inside.tables; pending = c.self.inside.pending } in
    subst (λ (t : StoreState). install_of t c.args.rec.now c.args.signature.now ≡ Err NothingProposed) c.self.view_is (install_none s c.args.rec.now c.args.signature.now c.in-None.is)

pub next_version-version-requires : goal.next_version-version-requires
next_version-version-requires c = next_below (record { key = c.self.inside.key; earlier = c.self.inside.earlier.items; installed = c.self.inside.installed; tables = c.self.inside.tables; pending = c.self.inside.pending }) c.self.invariant

pub install_version-requires : goal.install_version-requires
install_version-requires c =
    let s : StoreState = record { key = c.self.inside.key; earlier = c.self.inside.earlier.items; installed = c.self.inside.installed; tables = c.self.inside.tables; pending = c.self.inside.pending } in
    let after : List Stored = c.in_ok-after-in-Some.after in
    let pending : s.pending ≡ Some after = c.in-Some.is ∙ ap Some (sym c.in_ok-after-in-Some.ensures) in
    subst (λ (t : StoreState). IsHonestStore (with_installed c.in-Ok.installed after t)) c.self.view_is
    (install_honest s c.self.invariant c.args.rec.now c.args.signature.now after c.in-Ok.installed pending
    (subst (λ (n : ℕ). signed_record s.key (honest_record s.key n after) c.args.rec.now c.args.signature.now ≡ Ok c.in-Ok.installed) c.next_version-version.ensures c.in-Ok.ensures))

pub returns-in_ok-install_version-in-Ok-clause-answer : goal.returns-in_ok-install_version-in-Ok-clause-answer
returns-in_ok-install_version-in-Ok-clause-answer c =
    let s : StoreState = record { key = c.self.inside.key; earlier = c.self.inside.earlier.items; installed = c.self.inside.installed; tables = c.self.inside.tables; pending = c.self.inside.pending } in
    let after : List Stored = c.in_ok-after-in-Some.after in
    let pending : s.pending ≡ Some after = c.in-Some.is ∙ ap Some (sym c.in_ok-after-in-Some.ensures) in
    subst (λ (t : StoreState). install_of t c.args.rec.now c.args.signature.now ≡ Ok (with_installed c.in-Ok.installed after t)) c.self.view_is
    (install_ok s c.args.rec.now c.args.signature.now after c.in-Ok.installed pending
    (subst (λ (n : ℕ). signed_record s.key (honest_record s.key n after) c.args.rec.now c.args.signature.now ≡ Ok c.in-Ok.installed) c.next_version-version.ensures c.in-Ok.ensures))
    ∙ ap Ok (sym c.in_ok-install_version-in-Ok.ensures.done)

pub returns-in-Err-clause-answer : goal.returns-in-Err-clause-answer
returns-in-Err-clause-answer c =
    let s : StoreState = record { key = c.self.inside.key; earlier = c.self.inside.earlier.items; installed = c.self.inside.installed; tables = c.self.inside.tables; pending = c.self.inside.pending } in
    let after : List Stored = c.in_ok-after-in-Some.after in
    let pending : s.pending ≡ Some after = c.in-Some.is ∙ ap Some (sym c.in_ok-after-in-Some.ensures) in
    subst (λ (r : Result StoreState StoreFault). Gives (λ (x : StoreState). x) (Err c.in-Err.fault) r)
    (install_by s c.args.rec.now c.args.signature.now after pending ∙ ap (λ (t : StoreState). install_of t c.args.rec.now c.args.signature.now) c.self.view_is)
    (fault_on (λ (x : SignedRecord). x) (λ (x : StoreState). x) (install_go s c.args.rec.now c.args.signature.now after) c.in-Err.fault
    (signed_record s.key (honest_record s.key (next_version s.installed) after) c.args.rec.now c.args.signature.now)
    (subst (λ (n : ℕ). Gives (λ (x : SignedRecord). x) (Err c.in-Err.fault) (signed_record s.key (honest_record s.key n after) c.args.rec.now c.args.signature.now)) c.next_version-version.ensures c.in-Err.ensures))
