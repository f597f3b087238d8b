-- Reading so many things in a row, one after another.
use Rattle.std.proofs.Common.{◌≡◌, ℕ, suc, ◌+◌, ◌-◌, ◌<◌, List, [], ◌∷◌, ◌++◌, Option, Some, None, Err, refl, sym, ap, ◌∙◌, append_assoc, append-nil, arith}
use Rattle.row_bytes.specs.declared.read_fault.ReadFault.{ReadFault}
use Rattle.row_bytes.specs.declared.read_fault.ReadFault.TheVariants.{BadForm, Memory}
use Rattle.row_bytes.specs.Fields.{◌>>=◌, times, with_front, FoundOr}

pub front_none : {A : Type 0} (r : Option (List A × List ℕ)) → with_front [] r ≡ r
front_none None = refl
front_none (Some found) = refl

front_one : {A : Type 0} (front : List A) (x : A) (r : Option (List A × List ℕ))
    → with_front front (r >>= λ others. Some (x ∷ others.0, others.1)) ≡ with_front (front ++ x ∷ []) r
front_one front x None = refl
front_one front x (Some others) = ap (λ xs. Some (xs, others.1)) (sym (append_assoc front (x ∷ []) others.0))

module _ {A : Type 0} (read : List ℕ → Option (A × List ℕ)) where
  pub times_done : (front : List A) (count counter : ℕ) (bytes : List ℕ) → count - counter ≡ 0
      → with_front front (times read (count - counter) bytes) ≡ Some (front, bytes)
  times_done front count counter bytes e = rw e (ap (λ xs. Some (xs, bytes)) (append-nil front))

  one_more : (n : ℕ) (bytes : List ℕ) (x : A) (rest : List ℕ) → read bytes ≡ Some (x, rest)
      → times read (suc n) bytes ≡ (times read n rest >>= λ others. Some (x ∷ others.0, others.1))
  one_more n bytes x rest e = rw e refl

  pub times_step : (front : List A) (count counter : ℕ) (bytes : List ℕ) (x : A) (rest : List ℕ) → counter < count
      → read bytes ≡ Some (x, rest)
      → with_front (front ++ x ∷ []) (times read (count - (counter + 1)) rest) ≡ with_front front (times read (count - counter) bytes)
  times_step front count counter bytes x rest lt e =
      let more : count - counter ≡ suc (count - (counter + 1)) = omega arith in
      sym (rw more (ap (with_front front) (one_more (count - (counter + 1)) bytes x rest e) ∙ front_one front x (times read (count - (counter + 1)) rest)))

  none_more : (n : ℕ) (bytes : List ℕ) → read bytes ≡ None → times read (suc n) bytes ≡ None
  none_more n bytes e = rw e refl

  times_stops : (front : List A) (count counter : ℕ) (bytes : List ℕ) → counter < count → read bytes ≡ None
      → with_front front (times read (count - counter) bytes) ≡ None
  times_stops front count counter bytes lt e =
      let more : count - counter ≡ suc (count - (counter + 1)) = omega arith in
      rw more (ap (with_front front) (none_more (count - (counter + 1)) bytes e))

  -- one of them that isn't read stops them all, and nothing was taken
  pub times_fails : {X Y : Type 0} (view : X → A) (views : Y → List A) (fault : ReadFault) (front : List A)
      (count counter : ℕ) (bytes left start : List ℕ) (all : Option (List A × List ℕ)) → counter < count
      → FoundOr view (Err fault) bytes left (read bytes)
      → with_front front (times read (count - counter) bytes) ≡ all → FoundOr views (Err fault) start start all
  times_fails view views BadForm front count counter bytes left start all lt e is =
      (sym is ∙ times_stops front count counter bytes lt e.0, refl)
  times_fails view views Memory front count counter bytes left start all lt e is = refl
