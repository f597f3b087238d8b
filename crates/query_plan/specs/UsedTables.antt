-- How many trees a query reads.
use Rattle.std.specs.Prelude.{ℕ, Bool, ◌==◌, ◌||◌, List, length}
use Rattle.std.specs.Borrow.{Bor}
use Rattle.vo_spec.specs.Results.{BoundSource}
use Rattle.vo_spec.specs.Needs.{same_table}

abbrev pub has_one_tree : List BoundSource → Bool
has_one_tree ss = length ss == 1 || same_table ss

-- names that are lent are seen as the names
abbrev pub lent_name : Bor (List ℕ) → List ℕ
lent_name name = name.now
