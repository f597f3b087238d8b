-- Journals that hold records, and lists of which each has something.
use Rattle.std.proofs.Common.{◌≡◌, ℕ, zero, suc, ◌<◌, List, [], ◌∷◌, ◌++◌, length, Option, Some, None, option_map, slice_get, refl, ap, subst, ◌∙◌, arith}
use Rattle.std.specs.Prelude.{Contains, slice_index_or}
use Rattle.std.specs.List.{AllByRecursion}
use Rattle.vo_spec.specs.declared.records.Entry.{Entry}
use Rattle.vo_spec.specs.declared.records.Record.{Record}
use Rattle.vo_spec.specs.Journals.{Holds}

-- Journals that hold records.

found_in_front : (es more : List Entry) (v : ℕ) (e : Entry) → slice_get es v ≡ Some e → slice_get (es ++ more) v ≡ Some e
found_in_front [] more v e found = absurd (cc)
found_in_front (f ∷ es) more zero e found = found
found_in_front (f ∷ es) more (suc v) e found = found_in_front es more v e found

-- the entry that has the record
pub held_entry : (es : List Entry) (r : Record) → Holds es r → (e : Entry) × (slice_get es r.version ≡ Some e) × (e.rec ≡ r)
unfolding Holds
held_entry es r holds = by (slice_get es r.version) refl
  where
    by : (o : Option Entry) → slice_get es r.version ≡ o → (e : Entry) × (slice_get es r.version ≡ Some e) × (e.rec ≡ r)
    by None is = absurd (cc)
    by (Some e) is = (e, is, cc)

pub held_at : (es : List Entry) (r : Record) (e : Entry) → slice_get es r.version ≡ Some e → e.rec ≡ r → Holds es r
unfolding Holds
held_at es r e found is = ap (option_map (λ (x : Entry). x.rec)) found ∙ ap Some is

pub held_in_front : (es more : List Entry) (r : Record) → Holds es r → Holds (es ++ more) r
held_in_front es more r holds =
    let at = held_entry es r holds in
    held_at (es ++ more) r at.0 (found_in_front es more r.version at.0 at.1) at.2

pub one_held : (es : List Entry) (a b : Record) → Holds es a → Holds es b → a.version ≡ b.version → a ≡ b
unfolding Holds
one_held es a b first second same = cc

pub none_held : (r : Record) → Holds [] r → ⊥
unfolding Holds
none_held r holds = absurd (cc)

-- Of lists.

pub each : {X : Type 0} (P Q : X → Type 0) (xs : List X) → ((x : X) → P x → Q x) → AllByRecursion P xs → AllByRecursion Q xs
each P Q [] step all = tt
each P Q (x ∷ xs) step all = (step x all.0, each P Q xs step all.1)

pub both : {X : Type 0} (P : X → Type 0) (a b : List X) → AllByRecursion P a → AllByRecursion P b → AllByRecursion P (a ++ b)
both P [] b first second = second
both P (x ∷ a) b first second = (first.0, both P a b first.1 second)

pub one_of : {X : Type 0} (P : X → Type 0) (xs : List X) (x : X) → AllByRecursion P xs → Contains xs x → P x
one_of {X = X} P xs x all one = at xs all one.0 one.1 one.2
  where
    at : (ys : List X) → AllByRecursion P ys → (k : ℕ) → k < length ys → slice_index_or ys k x ≡ x → P x
    at [] all k within is = absurd (omega (arith, within))
    at (y ∷ ys) all zero within is = subst P is all.0
    at (y ∷ ys) all (suc k) within is = at ys all.1 k (omega (arith, within)) is
