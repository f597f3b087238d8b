use Rattle.std.proofs.Common.{◌≡◌, length, ap, ◌∙◌, arith}
use Rattle.vo_spec.specs.declared.tables.Batch.{Batch}
use Rattle.vo_spec.specs.Batches.{batch_bytes}
use Rattle.owner_journal.proofs.Sizes.{slot_sum}
use Rattle.owner_journal.proofs.taking.slot_count.Goals as goal

pub returns : goal.returns
returns c =
    let e = c.args.entry.now in
    let batch : length c.in_ok-batch.batch.items ≡ length (batch_bytes e.batch.commands) =
    ap length (c.in_ok-batch.ensures ∙ ap (λ (b : Batch). batch_bytes b.commands) c.batch.ensures) in
    omega (arith, c.len.ensures, c.in_ok-batch.batch.ok.0, batch, ap length c.proofs.ensures, ap length c.signature.ensures, slot_sum e c.requires)
