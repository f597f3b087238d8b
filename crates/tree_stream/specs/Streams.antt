-- What comes of a stream and of the bytes to come: those of a token that isn't whole are not taken
-- yet.
use Rattle.std.specs.Prelude.{ℕ, ◌+◌, List, length, ◌++◌, Some, None, ◌≡◌, ◌⊎◌}
use Rattle.batch_format.specs.BatchReading.{Reader}
use Rattle.tree_stream.specs.declared.target.Target.{Target}
use Rattle.tree_stream.specs.declared.findings.Summary.{Summary}
use Rattle.tree_stream.specs.declared.stream.TreeStream.{TreeStream}
use Rattle.tree_stream.specs.Keeping.{kept_count}
use Rattle.tree_stream.specs.Machines.{IsAt, summary_of_machine}

unfoldable pub summary_of : TreeStream → Reader Summary
summary_of stream bytes = summary_of_machine stream.machine (stream.partial.items ++ bytes)

-- how many bytes are held: of rows that were found, and of a token that isn't whole
abbrev pub held_in : TreeStream → ℕ
held_in stream = kept_count stream.machine.context stream.machine.state
    + length stream.partial.items

-- what the tree is read for
abbrev pub target_in : TreeStream → Target
target_in stream = stream.machine.context.target

-- the stream took these bytes of a tree, which the bytes of a token that isn't whole come behind
pub record IsBehind (stream : TreeStream) (bytes : List ℕ) : Type 0 where
  pub taken : List ℕ
  pub at : IsAt stream.machine taken
  pub parts : bytes ≡ taken ++ stream.partial.items

-- it takes no more bytes: they come behind the tree, or the bytes before them are no tree
abbrev pub IsSettled : TreeStream → Type 0
IsSettled stream =
    ((more : List ℕ) → summary_of stream more ≡ None)
    ⊎ ((found : Summary) × ((more : List ℕ) → summary_of stream more ≡ Some (found, more)))
