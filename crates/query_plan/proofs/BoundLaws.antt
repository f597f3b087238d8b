-- The parts of a condition, bound one by one, and what they share, from the back.
use Rattle.std.proofs.Common.{◌≡◌, ℕ, ◌+◌, ◌-◌, ◌<◌, ◌≤◌, List, [], ◌∷◌, length, get_or, take, drop, map, refl, sym, ap, ◌∙◌, arith}
use Rattle.std.proofs.lemmas.List.{take_all, at_drop_more}
use Rattle.vo_spec.specs.declared.keys.Interval.{Interval}
use Rattle.vo_spec.specs.declared.queries.Cond.{Cond, fold-roll-Cond}
use Rattle.vo_spec.specs.declared.queries.Cond.TheVariants as cond_of
use Rattle.vo_spec.specs.Conditions.{every, some, more, with_tests, with_tests_in, conditions, condition_of}
use Rattle.vo_spec.specs.Results.{BoundSource}
use Rattle.vo_spec.specs.Needs.{intersection, interval_by_all}
use Rattle.query_plan.specs.declared.bound_cond.BoundCond.{BoundCond, fold-roll-BoundCond}
use Rattle.query_plan.specs.declared.bound_cond.BoundCond.TheVariants as bound_of
use Rattle.query_plan.specs.BoundConditions.{bound_test_interval, bound_interval}
use Rattle.query_plan.specs.BoundQueries.{bound_test, bound_condition}
use Rattle.query_plan.specs.BoundViews.{parts_seen, condition_seen}

-- an AND or an OR of bound parts is the bound one

all_seen : (bound : List BoundCond) → condition_seen (bound_of.All bound) ≡ every (parts_seen (map condition_seen bound))
all_seen bound = ap condition_seen (sym (bound_of.rolls-All bound)) ∙ search fold-roll-BoundCond

any_seen : (bound : List BoundCond) → condition_seen (bound_of.Any bound) ≡ some (parts_seen (map condition_seen bound))
any_seen bound = ap condition_seen (sym (bound_of.rolls-Any bound)) ∙ search fold-roll-BoundCond

all_is : (parts : List Cond) → condition_of (cond_of.All parts) ≡ every (conditions (map condition_of parts))
all_is parts = ap condition_of (sym (cond_of.rolls-All parts)) ∙ search fold-roll-Cond

any_is : (parts : List Cond) → condition_of (cond_of.Any parts) ≡ some (conditions (map condition_of parts))
any_is parts = ap condition_of (sym (cond_of.rolls-Any parts)) ∙ search fold-roll-Cond

module _ (ss : List BoundSource) (parts : List Cond) (bound : List BoundCond)
    (same : parts_seen (map condition_seen bound) ≡ with_tests_in (bound_test ss) (conditions (map condition_of parts))) where
  pub all_bound : condition_seen (bound_of.All bound) ≡ bound_condition ss (condition_of (cond_of.All parts))
  all_bound = all_seen bound ∙ ap every same ∙ ap (with_tests (bound_test ss)) (sym (all_is parts))

  pub any_bound : condition_seen (bound_of.Any bound) ≡ bound_condition ss (condition_of (cond_of.Any parts))
  any_bound = any_seen bound ∙ ap some same ∙ ap (with_tests (bound_test ss)) (sym (any_is parts))

pub bound_parts : (ss : List BoundSource) (parts : List Cond)
    → with_tests_in (bound_test ss) (conditions (map condition_of parts)) ≡ parts_seen (map (λ c. bound_condition ss (condition_of c)) parts)
bound_parts ss [] = refl
bound_parts ss (c ∷ cs) = ap (more (bound_condition ss (condition_of c))) (bound_parts ss cs)

-- once all parts are bound
pub each_bound : (ss : List BoundSource) (parts : List Cond) (i : ℕ) (items : List BoundCond) → length parts ≤ i
    → map condition_seen items ≡ map (λ c. bound_condition ss (condition_of c)) (take i parts)
    → parts_seen (map condition_seen items) ≡ with_tests_in (bound_test ss) (conditions (map condition_of parts))
each_bound ss parts i items h e =
    ap parts_seen (e ∙ ap (map (λ c. bound_condition ss (condition_of c))) (take_all i parts h)) ∙ sym (bound_parts ss parts)

module _ (key : ℕ) where
  abbrev shared : List BoundCond → Interval
  shared parts = interval_by_all (bound_test_interval key) (parts_seen (map condition_seen parts))

  -- with the part before them
  pub one_further : (parts : List BoundCond) (i : ℕ) (x : BoundCond) → 0 < i → i ≤ length parts → x ≡ get_or parts (i - 1) x
      → shared (drop (i - 1) parts) ≡ intersection (bound_interval key (condition_seen x)) (shared (drop i parts))
  one_further parts i x above within is =
      let next : i - 1 + 1 ≡ i = omega arith in
      at_drop_more shared parts (i - 1) x (omega arith)
      ∙ ap (λ y. intersection (bound_interval key (condition_seen y)) (shared (drop (i - 1 + 1) parts))) (sym is)
      ∙ ap (λ n. intersection (bound_interval key (condition_seen x)) (shared (drop n parts))) next
