-- What comes of a stream of trees and of the bytes to come.
use Rattle.std.specs.Prelude.{ℕ, List, Option}
use Rattle.tree_stream.specs.declared.target.Target.{Target}
use Rattle.reply_stream.specs.declared.trees_summary.TreesSummary.{TreesSummary}
use Rattle.reply_stream.specs.declared.trees_stream.TreesStream.{TreesStream}
use Rattle.reply_stream.specs.ReplyTrees.{rest_of_trees, CanBecomeTrees, IsStateBehind, held_at}

abbrev pub trees_summary_of : TreesStream → List ℕ → Option TreesSummary
trees_summary_of stream bytes = rest_of_trees stream.state bytes

-- some bytes make trees of it
abbrev pub CanEnd : TreesStream → Type 0
CanEnd stream = CanBecomeTrees stream.state

-- the stream took these bytes behind the catalog's last byte, and reads the first tree for the target
abbrev pub IsBehind : Target → TreesStream → List ℕ → Type 0
IsBehind target stream bytes = IsStateBehind target stream.state bytes

-- how many bytes are held: of rows that were found, and of a token that isn't whole
abbrev pub held_in : TreesStream → ℕ
held_in stream = held_at stream.state
