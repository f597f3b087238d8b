use Rattle.std.proofs.Common.{◌≡◌, ◌++◌, take}
use Rattle.mb_tree.proofs.rows.push_entries.Given as goal

-- the rows so far are put there
abbrev pub invariant-loop-entry : goal.invariant-loop-entry
invariant-loop-entry l = l.rows.items ≡ l.fn.rows.items ++ take l.entry-index l.entries
