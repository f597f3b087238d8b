use Rattle.std.proofs.Common.{◌≡◌, ◌+◌, drop}
use Rattle.owner_roots.specs.Next.{place_for}
use Rattle.owner_roots.proofs.places.place_for.Given as goal

abbrev pub invariant-loop-table : goal.invariant-loop-table
invariant-loop-table l = (l.place ≡ l.table-index) × (l.place + place_for l.name (drop l.table-index l.tables) ≡ place_for l.name l.tables)
