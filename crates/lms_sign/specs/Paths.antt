-- What is hashed along a path.
use Rattle.std.specs.Prelude.{◌==◌, ℕ, ◌/◌, ◌%◌, List, if◌then◌else◌}
use Rattle.vo_spec.specs.Lms.{inner_text}

-- what is hashed for the node above node r, from r's digest and its sibling's: an odd r is the right
-- child
unfoldable pub parent_text : List ℕ → ℕ → List ℕ → List ℕ → List ℕ
parent_text id r node sibling = if r % 2 == 1 then inner_text id (r / 2) sibling node
    else inner_text id (r / 2) node sibling
