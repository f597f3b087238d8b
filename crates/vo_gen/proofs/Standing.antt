-- Which keys stand behind one more step.
use Rattle.std.proofs.Common.{◌≡◌, ℕ, ◌+◌, ◌<◌, ◌%◌, Bool, false, not, ◌&&◌, ◌==◌, if◌then◌else◌, List, length, slice_index_or, slice_set, add-one, arith, refl}
use Rattle.std.proofs.lemmas.Grind.{common_steps}
use Rattle.vo_gen.specs.Workload.{stands, step, key_at, mark_at, is_even, insertion, deletion, change}

pub stands_none : (word : ℕ → ℕ) (keys key : ℕ) → stands word keys 0 key ≡ false
unfolding stands
stands_none word keys key = refl

pub stands_more : (word : ℕ → ℕ) (keys i key : ℕ) → stands word keys (i + 1) key
    ≡ (if key_at word keys i == key then not (stands word keys i key && is_even (mark_at word keys i))
    else stands word keys i key)
unfolding stands
stands_more word keys i key = rw add-one

pub step_is : (word : ℕ → ℕ) (keys i : ℕ) → step word keys i
    ≡ (if not (stands word keys i (key_at word keys i))
    then insertion (key_at word keys i) (mark_at word keys i) (mark_at word keys i % keys)
    else if is_even (mark_at word keys i) then deletion (key_at word keys i)
    else change (key_at word keys i) (mark_at word keys i % keys))
unfolding step
step_is word keys i = refl

-- one more step, with what stands of its key set so
pub marked : (word : ℕ → ℕ) (keys i place : ℕ) (b : Bool) (xs : List Bool)
    → place ≡ key_at word keys i → length xs ≡ keys → place < keys
    → b ≡ not (stands word keys i place && is_even (mark_at word keys i))
    → ((k : ℕ) → k < keys → slice_index_or xs k false ≡ stands word keys i k)
    → (k : ℕ) → k < keys
    → slice_index_or (slice_set xs place b) k false ≡ stands word keys (i + 1) k
marked word keys i place b xs at len below is each k within =
    grind (arith, common_steps, stands_more word keys i k, each k within)
