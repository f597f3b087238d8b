use Rattle.std.proofs.Common.{◌≡◌, ◌≤◌, ℕ, List, length, sym, subst}
use Rattle.std.specs.Prelude.{IfOk}
use Rattle.vo_spec.specs.declared.tables.Command.{Command}
use Rattle.vo_spec.specs.declared.records.Entry.{Entry}
use Rattle.vo_spec.specs.Batches.{FitsBatch}
use Rattle.vo_spec.specs.Journals.{max_proofs}
use Rattle.owner_state.specs.Stepping.{signed_entry}
use Rattle.owner_state.proofs.steps.sign_copy.Goals as goal

pub sign_entry-requires-clause-batch : goal.sign_entry-requires-clause-batch
sign_entry-requires-clause-batch c = subst FitsBatch (sym c.in_ok-batch.ensures) c.requires.batch

pub sign_entry-requires-clause-proofs : goal.sign_entry-requires-clause-proofs
sign_entry-requires-clause-proofs c = subst (λ (bytes : List ℕ). length bytes ≤ max_proofs) (sym c.in_ok-proofs.ensures.items) c.requires.proofs

pub returns-clause-value : goal.returns-clause-value
returns-clause-value c =
    let commands : List Command = c.in_ok-batch.batch.commands in
    subst (λ (b : List Command). IfOk c.sign_entry.result (λ (e : Entry). e ≡ signed_entry c.args.key.now c.args.roots.now b c.args.proofs.now)) c.in_ok-batch.ensures
    (subst (λ (bytes : List ℕ). IfOk c.sign_entry.result (λ (e : Entry). e ≡ signed_entry c.args.key.now c.args.roots.now commands bytes)) c.in_ok-proofs.ensures.items c.sign_entry.ensures.value)
