-- A stream of a tree that is read for nothing never wants memory.
use Rattle.std.proofs.Common.{◌≡◌, ℕ, true, false, List, [], ◌∷◌, Result, Ok, Err, refl, sym, ap, ◌∙◌}
use Rattle.std.specs.Prelude.{IsErr, IsOk}
use Rattle.std.specs.declared.alloc.AllocError.{AllocError}
use Rattle.std.proofs.lemmas.Bool.{false≢true}
use Rattle.vo_spec.specs.Scans.{in_interval}
use Rattle.tree_stream.specs.declared.target.Target.{Target}
use Rattle.tree_stream.specs.declared.context.Context.{Context}
use Rattle.tree_stream.specs.declared.state.State.{State}
use Rattle.tree_stream.specs.declared.state.State.TheVariants.{Node, Separator, Key, Row, Cell, Complete, Invalid}
use Rattle.tree_stream.specs.declared.stream.TreeStream.{TreeStream}
use Rattle.tree_stream.specs.Findings.{no_target}
use Rattle.tree_stream.specs.Summaries.{IsInNeededRow}
use Rattle.tree_stream.specs.Machines.{StopsInRow}
use Rattle.tree_stream.specs.Streams.{target_in}

-- no key is above the first key and below it
none_between : (key : List ℕ) → in_interval no_target.interval key ≡ false
none_between [] = refl
none_between (byte ∷ bytes) = refl

pub no_key : (target : Target) (key : List ℕ) → target ≡ no_target → in_interval target.interval key ≡ true → ⊥
no_key target key is inside =
    false≢true (sym (none_between key) ∙ sym (ap (λ (t : Target). in_interval t.interval key) is) ∙ inside)

no_row : (context : Context) (state : State) → context.target ≡ no_target → IsInNeededRow context state → ⊥
no_row context (Row leaf) is inside = no_key context.target context.last_key.items is inside
no_row context (Cell row) is inside = no_key context.target context.last_key.items is inside
no_row context (Node visited) is inside = inside
no_row context (Separator head) is inside = inside
no_row context (Key leaf) is inside = inside
no_row context (Complete digest) is inside = inside
no_row context Invalid is inside = inside

pub quiet : {T : Type 0} (r : Result T AllocError) (old : TreeStream) (piece : List ℕ) → (IsErr r → StopsInRow old.machine old.partial.items piece) → target_in old ≡ no_target → IsOk r
quiet (Ok done) old piece stops is = refl
quiet (Err e) old piece stops is =
    let s = stops refl in
    absurd (no_row s.reached.context s.reached.state (s.target ∙ is) s.inside)
