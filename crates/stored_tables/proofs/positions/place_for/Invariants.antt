use Rattle.std.proofs.Common.{◌≡◌, ◌++◌, take, drop}
use Rattle.vo_spec.specs.Honest.{put_stored}
use Rattle.stored_tables.specs.View.{stored_in, stored_of}
use Rattle.stored_tables.proofs.positions.place_for.Given as goal

-- the table comes after those so far
abbrev pub invariant-loop-at : goal.invariant-loop-at
invariant-loop-at l =
    put_stored (stored_of l.table) (stored_in l.tables) ≡ take l.at (stored_in l.tables) ++ put_stored (stored_of l.table) (drop l.at (stored_in l.tables))
