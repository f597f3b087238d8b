-- What a client says of bytes is a step of the world.
use Rattle.std.proofs.Common.{◌≡◌, ◌≢◌, ℕ, suc, zero, ◌<◌, List, [], ◌∷◌, ◌++◌, length, map, get_or, Result, Ok, Err, IsErrOf, refl, sym, ap, subst, ◌∙◌, arith, inl, inr}
use Rattle.std.specs.Prelude.{◌⊎◌, slice_index, slice_set}
use Rattle.std.specs.List.{AllByRecursion}
use Rattle.std.proofs.lemmas.List.{map-set, get_or-map, set-get_or, length-map}
use Rattle.outside.specs.DiskModel.{now}
use Rattle.vo_spec.specs.declared.checks.Answer.{Answer}
use Rattle.vo_spec.specs.declared.checks.CheckFault.{CheckFault}
use Rattle.vo_spec.specs.declared.checks.CheckFault.TheVariants.{Memory}
use Rattle.vo_spec.specs.declared.queries.QueryText.{QueryText}
use Rattle.vo_spec.specs.Checks.{CheckOf}
use Rattle.vo_spec.specs.Conditions.{Query, query_of}
use Rattle.vo_spec.specs.Secret.{public_of_secret}
use Rattle.vo_check.specs.declared.client.Client.{Client}
use Rattle.vo_world.specs.declared.events.Said.TheVariants as said
use Rattle.vo_world.specs.Keeping.{Trusts}
use Rattle.vo_world.specs.Steps.{Receives, begun, gain_records}
use Rattle.vo_world.specs.WorldModel.{WorldModel, least_of, records_of}
use Rattle.vo_world.proofs.Models.{same_model}
use Rattle.vo_world.proofs.StepLaws.{reply_of}

all_at : {X : Type 0} (P : X → Type 0) (xs : List X) (i : ℕ) (d : X) → AllByRecursion P xs → i < length xs → P (get_or xs i d)
all_at P [] i d all within = absurd (omega (arith, within))
all_at P (x ∷ xs) zero d all within = all.0
all_at P (x ∷ xs) (suc i) d all within = all_at P xs i d all.1 (omega (arith, within))

pub all_set : {X : Type 0} (P : X → Type 0) (xs : List X) (i : ℕ) (y : X) → AllByRecursion P xs → P y → AllByRecursion P (slice_set xs i y)
all_set P [] i y all p = tt
all_set P (x ∷ xs) zero y all p = (p, all.1)
all_set P (x ∷ xs) (suc i) y all p = (all.0, all_set P xs i y all.1 p)

same_check : (key other : List ℕ) (least low : ℕ) (q : Query) (bytes fed : List ℕ) (answer : Result Answer CheckFault) → key ≡ other → least ≡ low → fed ≡ bytes
    → CheckOf key least q fed answer → CheckOf other low q bytes answer
same_check key other least low q bytes fed answer k l b checked =
    subst (λ (k : List ℕ). CheckOf k low q bytes answer) k (subst (λ (n : ℕ). CheckOf key n q bytes answer) l (subst (λ (bs : List ℕ). CheckOf key least q bs answer) b checked))

-- the client of this number, which checks the bytes
module _ (w : WorldModel) (clients : List Client) (i : ℕ) (query : QueryText) (bytes fed : List ℕ) (was : Client)
    (leasts : w.leasts ≡ map least_of clients) (within : i < length w.leasts) (here : was ≡ get_or clients i was)
    (trust : AllByRecursion (Trusts (public_of_secret w.key)) clients) (same : fed ≡ bytes) where
  inside : i < length clients
  inside = let long : length w.leasts ≡ length clients = ap length leasts ∙ length-map clients least_of in omega (arith, within, long)

  pub trusts : Trusts (public_of_secret w.key) was
  trusts = subst (Trusts (public_of_secret w.key)) (sym here) (all_at (Trusts (public_of_secret w.key)) clients i was trust inside)

  least_at : was.least ≡ slice_index w.leasts i
  least_at =
      ap (λ (c : Client). c.least) here ∙ sym (get_or-map least_of clients i was 0 inside) ∙ ap (λ (ns : List ℕ). slice_index ns i) (sym leasts)

  checked : (answer : Result Answer CheckFault) → answer ≢ Err Memory → (answer ≡ Err Memory) ⊎ CheckOf was.key was.least (query_of query) fed answer
      → CheckOf (public_of_secret w.key) (slice_index w.leasts i) (query_of query) bytes answer
  checked answer other (inl memory) = absurd (other memory)
  checked answer other (inr is) =
      same_check was.key (public_of_secret w.key) was.least (slice_index w.leasts i) (query_of query) bytes fed answer trusts least_at same is

  pub trust_more : (new : Client) → new.key ≡ was.key → AllByRecursion (Trusts (public_of_secret w.key)) (slice_set clients i new)
  trust_more new key = all_set (Trusts (public_of_secret w.key)) clients i new trust (key ∙ trusts)

  pub acceptance : (new : Client) (answer : Answer) (after : WorldModel)
      → (Ok answer ≡ Err Memory) ⊎ CheckOf was.key was.least (query_of query) fed (Ok answer) → new.least ≡ answer.version
      → after.key ≡ w.key → after.roots ≡ w.roots → after.entries ≡ w.entries → after.drive ≡ w.drive → after.since ≡ now w.drive
      → after.leasts ≡ map least_of (slice_set clients i new) → after.accepted ≡ w.accepted ++ reply_of i query bytes answer.version ∷ []
      → after.released ≡ gain_records w.released (records_of w.entries)
      → Receives w i query bytes (said.Accepted answer) after
  acceptance new answer after is least key roots entries drive since later more released =
      let set : after.leasts ≡ slice_set w.leasts i answer.version =
      later ∙ map-set least_of clients i new ∙ ap (λ (ns : List ℕ). slice_set ns i new.least) (sym leasts) ∙ ap (slice_set w.leasts i) least in (
        Ok answer,
        checked (Ok answer) (λ e. absurd (cc)) is,
        (refl, same_model _ _ key roots entries drive since set more released),
      )

  pub refusal : (new : Client) (fault : CheckFault) (after : WorldModel) → fault ≢ Memory
      → IsErrOf {T = Answer} (Err fault) Memory ⊎ CheckOf was.key was.least (query_of query) fed (Err fault) → new ≡ was
      → after.key ≡ w.key → after.roots ≡ w.roots → after.entries ≡ w.entries → after.drive ≡ w.drive → after.since ≡ now w.drive
      → after.leasts ≡ map least_of (slice_set clients i new) → after.accepted ≡ w.accepted
      → after.released ≡ gain_records w.released (records_of w.entries)
      → Receives w i query bytes (said.Refused fault) after
  refusal new fault after other is same_client key roots entries drive since later more released =
      let set : after.leasts ≡ w.leasts =
      later ∙ ap (λ (c : Client). map least_of (slice_set clients i c)) (same_client ∙ here) ∙ ap (map least_of) (set-get_or clients i was) ∙ sym leasts in (
        Err fault,
        checked (Err fault) (λ e. other (cc e)) is,
        (refl, same_model _ _ key roots entries drive since set more released),
      )
