-- The check of a reply, as bytes that are gathered.
use Rattle.std.specs.Prelude.{ℕ, cond, List, ◌∷◌}
use Rattle.vo_check.specs.Checkings.{CheckingModel}

-- The bytes of the reply so far, behind one that says whether a piece found no memory: besides the
-- query they are all of the check.
abbrev pub check_bytes : CheckingModel → List ℕ
check_bytes c = cond c.is_out_of_memory 1 0 ∷ c.bytes
