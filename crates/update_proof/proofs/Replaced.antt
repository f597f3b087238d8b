-- What stands in lists of which one item is replaced.
use Rattle.std.specs.Prelude.{Result, Ok, Err, IfOk}
use Rattle.std.specs.Result.{IsOkAnd}

-- of the item that was made
pub item_put : {T E : Type 0} (r : Result T E) (P Q : T → Type 0) → IfOk r P → IsOkAnd r Q → (x : T) × P x × Q x
item_put (Ok x) P Q made put = (x, made, put)
item_put (Err e) P Q made put = absurd put
