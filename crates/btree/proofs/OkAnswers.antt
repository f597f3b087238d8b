-- What follows of the answers of calls.
use Rattle.std.proofs.Common.{◌≡◌, Result, Ok, Err, refl, sym, subst}
use Rattle.vo_spec.specs.declared.trees.UpdateFault.{UpdateFault}
use Rattle.vo_spec.specs.declared.trees.UpdateFault.TheVariants.{DuplicateKey, NoRow, Missing, Memory}
use Rattle.btree.specs.Answers.{Answers}

pub record OkAnswer {A B : Type 0} (R : A → B → Type 0) (a : A) (r : Result B UpdateFault) : Type 0 where
  pub value : B
  pub is : r ≡ Ok value
  pub holds : R a value

pub ok_answer : {A B : Type 0} (R : A → B → Type 0) (a : A) (r : Result B UpdateFault) → Answers R (Ok a) r → OkAnswer R a r
ok_answer R a (Ok b) h = record { value = b; is = refl; holds = h }
ok_answer R a (Err fault) h = absurd h

-- and back
pub answers : {A B : Type 0} (R : A → B → Type 0) (a : A) (b : B) (r : Result B UpdateFault) → r ≡ Ok b → R a b → Answers R (Ok a) r
answers R a b r is h = let P : Result _ UpdateFault → Type 0 = λ x. Answers R (Ok a) x in subst P (sym is) h

-- a fault that is handed on
pub pass_fault : {A B C D : Type 0} (R : A → B → Type 0) (S : C → D → Type 0) (fault : UpdateFault) (r : Result B UpdateFault) (s : Result D UpdateFault)
    → Answers R (Err fault) r → ((f : UpdateFault) → r ≡ Err f → s ≡ Err f) → Answers S (Err fault) s
pass_fault R S DuplicateKey r s h on = on DuplicateKey h
pass_fault R S NoRow r s h on = on NoRow h
pass_fault R S Missing r s h on = on Missing h
pass_fault R S Memory r s h on = tt
