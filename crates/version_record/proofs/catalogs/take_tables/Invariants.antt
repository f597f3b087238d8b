use Rattle.std.proofs.Common.{◌≡◌, ◌-◌}
use Rattle.row_bytes.specs.Fields.{times, with_front}
use Rattle.version_record.specs.Reading.{catalog_table_at}
use Rattle.version_record.proofs.catalogs.take_tables.Given as goal

-- the tables so far and those that are left are all of them
abbrev pub invariant-loop : goal.invariant-loop
invariant-loop l =
    with_front l.tables.items (times catalog_table_at (l.count - l.counter) l.ahead) ≡ times catalog_table_at l.fn.count l.fn.cursor
