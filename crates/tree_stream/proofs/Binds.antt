-- Readers in turn: grouped another way, with equal continuations, and so many of one kind.
use Rattle.std.proofs.Common.{◌≡◌, ℕ, zero, suc, List, [], ◌∷◌, length, Option, Some, None, refl, sym, ap, ◌∙◌}
use Rattle.row_bytes.specs.Fields.{◌>>=◌, times}
use Rattle.batch_format.specs.BatchReading.{Reader}
use Rattle.batch_format.proofs.ReaderLaws.{bound, some_is}

pub bind_assoc : {A B C : Type 0} (o : Option A) (f : A → Option B) (g : B → Option C) → ((o >>= f) >>= g) ≡ (o >>= λ x. f x >>= g)
bind_assoc None f g = refl
bind_assoc (Some x) f g = refl

pub bind_same : {A B : Type 0} (o : Option A) (f g : A → Option B) → ((x : A) → f x ≡ g x) → (o >>= f) ≡ (o >>= g)
bind_same None f g same = refl
bind_same (Some x) f g same = same x

-- equal at what was read
pub bind_at : {A B : Type 0} (o : Option A) (f g : A → Option B) → ((x : A) → o ≡ Some x → f x ≡ g x) → (o >>= f) ≡ (o >>= g)
bind_at None f g same = refl
bind_at (Some x) f g same = same x refl

pub bind_some : {A : Type 0} (o : Option A) → (o >>= λ x. Some x) ≡ o
bind_some None = refl
bind_some (Some x) = refl

pub bind_none : {A B : Type 0} (o : Option A) (f : A → Option B) → o ≡ None → (o >>= f) ≡ None
bind_none {A = A} o f e = ap (λ (p : Option A). p >>= f) e

-- what is read is known
pub bind_is : {A B : Type 0} (o : Option A) (x : A) (f : A → Option B) → o ≡ Some x → (o >>= f) ≡ f x
bind_is {A = A} o x f e = ap (λ (p : Option A). p >>= f) e

pub times_length : {A : Type 0} (read : Reader A) (n : ℕ) (bytes : List ℕ) (xs : List A) (rest : List ℕ) → times read n bytes ≡ Some (xs, rest) → length xs ≡ n
times_length {A} read zero bytes xs rest e =
    let start : List A × List ℕ = ([], bytes) in
    ap (λ (p : List A × List ℕ). length p.0) (sym (some_is start (xs, rest) e))
times_length {A} read (suc n) bytes xs rest e =
    let a = bound (read bytes) (λ first. times read n first.1 >>= λ others. Some (first.0 ∷ others.0, others.1)) (xs, rest) e in
    let b = bound (times read n a.0.1) (λ others. Some (a.0.0 ∷ others.0, others.1)) (xs, rest) a.2 in
    let made : List A × List ℕ = (a.0.0 ∷ b.0.0, b.0.1) in
    ap (λ (p : List A × List ℕ). length p.0) (sym (some_is made (xs, rest) b.2))
    ∙ ap (λ (k : ℕ). suc k) (times_length read n a.0.1 b.0.0 b.0.1 b.1)
