-- What a result is, it is alone.
use Rattle.std.proofs.Common.{◌≡◌, Result, Ok, Err, IsErr}

-- what is a value is no error
pub no_err : {T E : Type 0} (r : Result T E) (x : T) (f : E) → r ≡ Ok x → r ≡ Err f → ⊥
no_err r x f is e = absurd (cc)

pub one_error : {T E : Type 0} (r : Result T E) (f g : E) → r ≡ Err f → r ≡ Err g → f ≡ g
one_error r f g is e = cc

pub ok_no_err : {T E : Type 0} (r : Result T E) (x : T) → r ≡ Ok x → IsErr r → ⊥
ok_no_err (Ok y) x is e = absurd (cc)
ok_no_err (Err f) x is e = absurd (cc)
