use Rattle.std.proofs.Common.{◌≡◌, ℕ, ◌+◌, List, Ok, Err, length, ap, ◌∙◌, sym, subst, arith}
use Rattle.std.proofs.lemmas.List.{length-map}
use Rattle.vo_spec.specs.declared.tables.Batch.{Batch}
use Rattle.vo_spec.specs.declared.tables.Command.{Command}
use Rattle.vo_spec.specs.Secret.{Secret}
use Rattle.owner_roots.specs.declared.roots.Roots.{Roots}
use Rattle.owner_state.specs.SealResults.{Seals}
use Rattle.owner_state.specs.Sealing.{commands_of}
use Rattle.owner_state.proofs.SealSteps.{all_sealed, each_fits, first_sealed, next_is, next_sealed, not_sealed, ready}
use Rattle.owner_state.proofs.sealing.seal_each.Goals as goal

pub loop-batch-init : goal.loop-batch-init
loop-batch-init c =
    first_sealed c.args.key.now (commands_of c.args.batches.now) c.in_ok-sealed.sealed c.in_ok-sealed.ensures.at c.in_ok-sealed.ensures.tables c.in_ok-sealed.ensures.slots

pub seal_next-requires-clause-standing : goal.seal_next-requires-clause-standing
seal_next-requires-clause-standing c =
    (ready (commands_of c.args.batches.now) c.loop-batch.batch-index c.batch-item.result.commands c.loop-batch.sealed.tables (each_fits c.args.batches.now c.requires)
    (next_is c.args.batches.now c.loop-batch.batch-index c.batch-item.result c.loop-batch-test.true c.batch-item.is) c.loop-batch.invariant.trees).standing

pub seal_next-requires-clause-proofs : goal.seal_next-requires-clause-proofs
seal_next-requires-clause-proofs c =
    (ready (commands_of c.args.batches.now) c.loop-batch.batch-index c.batch-item.result.commands c.loop-batch.sealed.tables (each_fits c.args.batches.now c.requires)
    (next_is c.args.batches.now c.loop-batch.batch-index c.batch-item.result c.loop-batch-test.true c.batch-item.is) c.loop-batch.invariant.trees).proofs

pub loop-batch-preserved : goal.loop-batch-preserved
loop-batch-preserved c =
    let secret : Secret = c.args.key.now in
    let before = c.loop-batch.sealed in
    let batch : List Command = c.batch-item.result.commands in
    let at = c.loop-batch.invariant.at in
    let seals : Seals secret (c.loop-batch.batch-index + 1) before batch (Ok c.in-Ok.next) =
    subst (λ (v : ℕ). Seals secret (v + 1) before batch (Ok c.in-Ok.next)) (ap (λ (r : Roots). r.version) at.roots)
    (subst (λ (k : Secret). Seals k (before.owner.roots.version + 1) before batch (Ok c.in-Ok.next)) at.key c.in-Ok.ensures) in
    next_sealed secret (commands_of c.args.batches.now) c.loop-batch.batch-index batch before c.in-Ok.next (each_fits c.args.batches.now c.requires) c.loop-batch.invariant
    (next_is c.args.batches.now c.loop-batch.batch-index c.batch-item.result c.loop-batch-test.true c.batch-item.is) seals

pub returns-in-Err-clause-fault : goal.returns-in-Err-clause-fault
returns-in-Err-clause-fault c =
    let secret : Secret = c.args.key.now in
    let before = c.loop-batch.sealed in
    let batch : List Command = c.batch-item.result.commands in
    let at = c.loop-batch.invariant.at in
    let seals : Seals secret (c.loop-batch.batch-index + 1) before batch (Err c.in-Err.fault) =
    subst (λ (v : ℕ). Seals secret (v + 1) before batch (Err c.in-Err.fault)) (ap (λ (r : Roots). r.version) at.roots)
    (subst (λ (k : Secret). Seals k (before.owner.roots.version + 1) before batch (Err c.in-Err.fault)) at.key c.in-Err.ensures) in
    λ known. not_sealed secret (commands_of c.args.batches.now) c.loop-batch.batch-index batch before c.in-Err.fault (each_fits c.args.batches.now c.requires)
    c.loop-batch.invariant (next_is c.args.batches.now c.loop-batch.batch-index c.batch-item.result c.loop-batch-test.true c.batch-item.is) seals known

pub returns-clause-sealed : goal.returns-clause-sealed
returns-clause-sealed c =
    let index-end = c.loop-batch.auto.batch-index-end in
    let test = c.loop-batch-test.false in
    let all : c.loop-batch.batch-index ≡ length c.args.batches.now = omega arith in
    (all_sealed c.args.key.now (commands_of c.args.batches.now) c.loop-batch.batch-index c.loop-batch.sealed c.loop-batch.invariant
    (all ∙ sym (length-map c.args.batches.now (λ (b : Batch). b.commands)))).1

pub returns-clause-slots : goal.returns-clause-slots
returns-clause-slots c =
    let index-end = c.loop-batch.auto.batch-index-end in
    let test = c.loop-batch-test.false in
    let all : c.loop-batch.batch-index ≡ length c.args.batches.now = omega arith in
    (all_sealed c.args.key.now (commands_of c.args.batches.now) c.loop-batch.batch-index c.loop-batch.sealed c.loop-batch.invariant
    (all ∙ sym (length-map c.args.batches.now (λ (b : Batch). b.commands)))).0
