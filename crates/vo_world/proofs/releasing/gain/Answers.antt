use Rattle.std.proofs.Common.{ap, ◌∙◌}
use Rattle.std.specs.Prelude.{List, take}
use Rattle.vo_spec.specs.declared.records.Entry.{Entry}
use Rattle.vo_spec.specs.declared.records.Record.{Record}
use Rattle.vo_world.specs.Steps.{gain_records, with_record}
use Rattle.vo_world.specs.WorldModel.{records_of}
use Rattle.vo_world.proofs.HeldRecords.{gain_more, gain_none}
use Rattle.vo_world.proofs.releasing.gain.Goals as goal

pub loop-entry-init : goal.loop-entry-init
loop-entry-init c = (c.in_ok-gained.ensures {u = tt}).items ∙ gain_none c.args.released.now

pub loop-entry-preserved : goal.loop-entry-preserved
loop-entry-preserved c =
    c.in_ok-add_record.ensures {u = tt}
    ∙ ap (λ (gained : List Record). with_record gained c.entry-item.result.rec) c.loop-entry.invariant
    ∙ ap (λ (e : Entry). with_record (gain_records c.args.released.now (records_of (take c.loop-entry.entry-index c.args.entries.now))) e.rec) c.entry-item.is
    ∙ gain_more c.args.released.now c.args.entries.now c.loop-entry.entry-index c.entry-item.result c.loop-entry-test.true
