-- The tables whose trees a query wants of a reply.
use Rattle.std.specs.Prelude.{ℕ, ◌==◌, if◌then◌else◌, List}
use Rattle.std.specs.Option.{option_map_or}
use Rattle.vo_spec.specs.Conditions.{Query}

-- the table whose tree stands at this place: the left one's is first
abbrev pub table_at : Query → ℕ → List ℕ
table_at q place = if place == 0 then q.left.table
    else option_map_or (λ j. j.right.table) q.join q.left.table
