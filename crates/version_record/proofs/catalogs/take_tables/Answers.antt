use Rattle.std.proofs.Common.{◌<◌, ◌∙◌, arith}
use Rattle.std.specs.Global.{Vec}
use Rattle.vo_spec.specs.declared.records.CatalogTable.{CatalogTable}
use Rattle.row_bytes.proofs.Rounds.{times_step, times_fails}
use Rattle.version_record.specs.Reading.{catalog_table_at}
use Rattle.version_record.proofs.catalogs.take_tables.Goals as goal

pub returns-in-Err : goal.returns-in-Err
returns-in-Err c =
    let more : c.loop.counter < c.args.count = omega arith in
    times_fails catalog_table_at (λ table. table) (λ (tables : Vec CatalogTable). tables.items) c.in-Err.fault c.loop.tables.items c.args.count c.loop.counter c.loop.ahead c.take_table.new.cursor _ _ more c.in-Err.ensures c.loop.invariant

pub loop-preserved : goal.loop-preserved
loop-preserved c =
    let more : c.loop.counter < c.args.count = omega arith in
    rw c.in_ok-push-in-Ok.ensures.items
    (times_step catalog_table_at c.loop.tables.items c.args.count c.loop.counter c.loop.ahead c.in-Ok.table c.take_table.new.cursor more c.in-Ok.ensures ∙ c.loop.invariant)
