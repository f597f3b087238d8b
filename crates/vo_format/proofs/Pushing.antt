-- Reading so many things in a row, each straight behind those that were read before it.
use Rattle.std.proofs.Common.{◌≡◌, ℕ, ◌+◌, ◌-◌, ◌<◌, List, [], ◌∷◌, ◌++◌, Option, Some, None, Err, refl, ap}
use Rattle.row_bytes.specs.declared.read_fault.ReadFault.{ReadFault}
use Rattle.row_bytes.specs.declared.read_fault.ReadFault.TheVariants.{BadForm, Memory}
use Rattle.row_bytes.specs.Fields.{◌>>=◌, times, with_front, FoundOr}
use Rattle.row_bytes.proofs.Rounds.{times_step, times_fails}
use Rattle.batch_format.specs.BatchReading.{one}
use Rattle.vo_format.specs.Taking.{TakesOr}

-- what was read, behind others
abbrev put : {A : Type 0} → List A → A × List ℕ → List A × List ℕ
put front x = (front ++ x.0 ∷ [], x.1)

abbrev behind : {A : Type 0} → List A → A × List ℕ → Option (List A × List ℕ)
behind front x = Some (put front x)

module _ {A : Type 0} (read : List ℕ → Option (A × List ℕ)) where
  step_of : (front more : List A) (count counter : ℕ) (bytes rest : List ℕ) (found : Option (A × List ℕ))
      → read bytes ≡ found → counter < count
      → (found >>= behind front) ≡ Some (more, rest)
      → with_front more (times read (count - (counter + 1)) rest) ≡ with_front front (times read (count - counter) bytes)
  step_of front more count counter bytes rest None is lt e = cc
  step_of front more count counter bytes rest (Some x) is lt e =
      let pair : put front x ≡ (more, rest) = cc in
      let items : front ++ x.0 ∷ [] ≡ more = ap (λ (p : List A × List ℕ). p.0) pair in
      let left : x.1 ≡ rest = ap (λ (p : List A × List ℕ). p.1) pair in
      rw (← items, ← left) (times_step read front count counter bytes x.0 x.1 lt is)

  pub push_step : (front more : List A) (count counter : ℕ) (bytes rest : List ℕ) → counter < count
      → one (λ x. front ++ x ∷ []) read bytes ≡ Some (more, rest)
      → with_front more (times read (count - (counter + 1)) rest) ≡ with_front front (times read (count - counter) bytes)
  push_step front more count counter bytes rest lt e = step_of front more count counter bytes rest (read bytes) refl lt e

  none_read : (front : List A) (found : Option (A × List ℕ)) → (found >>= behind front) ≡ None → found ≡ None
  none_read front None e = refl
  none_read front (Some x) e = cc

  -- one of them that isn't read stops them all
  pub stops : (front : List A) (count counter : ℕ) (bytes : List ℕ) (all : Option (List A × List ℕ)) → counter < count
      → read bytes ≡ None → with_front front (times read (count - counter) bytes) ≡ all → all ≡ None
  stops front count counter bytes all lt none is =
      (times_fails read {X = A} (λ x. x) (λ (xs : List A). xs) BadForm front count counter bytes bytes bytes all lt (none, refl) is).0

  pub push_fails : {X Y : Type 0} (view : X → List A) (views : Y → List A) (fault : ReadFault) (front : List A)
      (count counter : ℕ) (bytes left end : List ℕ) (all : Option (List A × List ℕ)) → counter < count
      → TakesOr view (Err fault) left (one (λ x. front ++ x ∷ []) read bytes)
      → with_front front (times read (count - counter) bytes) ≡ all → TakesOr views (Err fault) end all
  push_fails view views BadForm front count counter bytes left end all lt e is =
      stops front count counter bytes all lt (none_read front (read bytes) e) is
  push_fails view views Memory front count counter bytes left end all lt e is = tt

-- where nothing was taken, no matter what is left
pub no_matter_left : {X A : Type 0} (view : X → A) (fault : ReadFault) (old left : List ℕ) (all : Option (A × List ℕ))
    → FoundOr view (Err fault) old old all → TakesOr view (Err fault) left all
no_matter_left view BadForm old left all is = is.0
no_matter_left view Memory old left all is = tt
