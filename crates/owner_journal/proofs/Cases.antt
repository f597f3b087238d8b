-- How a call ended.
use Rattle.std.proofs.Common.{Result, Ok, Err, OnOk, IfOk, IfErr}

pub where_ok : {A E : Type 0} (r : Result A E) (P Q : Type 0) → (P → Q) → OnOk r P → OnOk r Q
where_ok (Ok value) P Q step ok = step ok
where_ok (Err fault) P Q step ok = tt

-- of the value that a call gives, and of what else is known where it gives one
pub of_ok : {A E : Type 0} (r : Result A E) (P : Type 0) (Q S : A → Type 0) → ((value : A) → P → Q value → S value) → OnOk r P → IfOk r Q → IfOk r S
of_ok (Ok value) P Q S step ok of = step value ok of
of_ok (Err fault) P Q S step ok of = tt

pub if_ok : {A E : Type 0} (r : Result A E) (P Q : A → Type 0) → ((value : A) → P value → Q value) → IfOk r P → IfOk r Q
if_ok (Ok value) P Q step ok = step value ok
if_ok (Err fault) P Q step ok = tt

pub if_err : {A E : Type 0} (r : Result A E) (P Q : E → Type 0) → ((fault : E) → P fault → Q fault) → IfErr r P → IfErr r Q
if_err (Ok value) P Q step err = tt
if_err (Err fault) P Q step err = step fault err

pub on_ok : {A E : Type 0} (r : Result A E) (P : Type 0) → P → OnOk r P
on_ok (Ok value) P holds = holds
on_ok (Err fault) P holds = tt
