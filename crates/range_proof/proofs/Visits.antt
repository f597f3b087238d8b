-- Which needs can have a key of a node: those whose scans don't visit it have none of its place in
-- the tree.
use Rattle.std.proofs.Common.{◌≡◌, ℕ, Bool, true, false, cond, List, [], ◌∷◌, ◌++◌, Option, Some, None, inl, inr, refl, ap, ◌∙◌}
use Rattle.std.specs.Prelude.{◌&&◌, not, filter, flat_map}
use Rattle.std.proofs.lemmas.Bool.{and_parts, and_from, and_cases, not-true, not-false, not_from_false, not_from_true}
use Rattle.vo_spec.specs.declared.keys.Bound.{Bound}
use Rattle.vo_spec.specs.declared.keys.Bound.TheVariants.{Absent, Inclusive, Exclusive}
use Rattle.vo_spec.specs.declared.needs.Need.{Need}
use Rattle.vo_spec.specs.Values.{key_lt}
use Rattle.vo_spec.specs.Scans.{is_above, is_below, in_interval, is_empty_interval, ends_above, begins_below, visits}
use Rattle.vo_spec.specs.Pruning.{at_root, descend, needed_columns, is_any}
use Rattle.vo_spec.specs.Representation.{is_from, is_before}
use Rattle.vo_laws.proofs.KeyOrder.{key_lt_back, key_le_le, key_lt_le, key_lt_lt}
use Rattle.vo_laws.proofs.SeenLaws.{empty_has_none}
use Rattle.range_proof.specs.ActiveNeeds.{CoverKeys, max_lower, min_upper}

-- needs that don't have the key name nothing of it
named_kept : (stays : Need → Bool) (key : List ℕ) → ((need : Need) → stays need ≡ false → in_interval need.interval key ≡ false)
    → (needs : List Need) → needed_columns (filter stays needs) key ≡ needed_columns needs key
named_kept stays key f [] = refl
named_kept stays key f (n ∷ ns) = step (stays n) refl (named_kept stays key f ns)
  where
    first : (b : Bool) (xs ys : List Need) → needed_columns xs key ≡ needed_columns ys key
        → flat_map (λ (need : Need). need.columns) (cond b (n ∷ filter (λ need. in_interval need.interval key) xs) (filter (λ need. in_interval need.interval key) xs))
        ≡ flat_map (λ (need : Need). need.columns) (cond b (n ∷ filter (λ need. in_interval need.interval key) ys) (filter (λ need. in_interval need.interval key) ys))
    first true xs ys e = ap (λ columns. n.columns ++ columns) e
    first false xs ys e = e

    step : (b : Bool) → stays n ≡ b → needed_columns (filter stays ns) key ≡ needed_columns ns key → needed_columns (cond b (n ∷ filter stays ns) (filter stays ns)) key ≡ needed_columns (n ∷ ns) key
    step true e rest = first (in_interval n.interval key) (filter stays ns) ns rest
    step false e rest = rw (f n e) rest

-- at the root, where needs without keys are left out
pub cover_at_root : (needs : List Need) → CoverKeys needs (at_root needs) None None
cover_at_root needs some key e =
    named_kept (λ need. not (is_empty_interval need.interval)) key
    (λ need left_out. empty_has_none need.interval key (not-false (is_empty_interval need.interval) left_out)) needs

-- What a scan passes by.

low_passed : (low : Bound) (upper : Option (List ℕ)) (key : List ℕ) → ends_above low upper ≡ false → is_before upper key ≡ true → is_above low key ≡ false
low_passed Absent upper key e b = absurd (cc)
low_passed low None key e b = absurd (cc)
low_passed (Inclusive low) (Some s) key e b = not_from_true (key_lt key low) (key_lt_le key s low b e)
low_passed (Exclusive low) (Some s) key e b = key_lt_back key low (key_lt_le key s low b e)

high_passed : (high : Bound) (lower : Option (List ℕ)) (key : List ℕ) → begins_below high lower ≡ false → is_from lower key ≡ true → is_below high key ≡ false
high_passed Absent lower key e b = absurd (cc)
high_passed high None key e b = absurd (cc)
high_passed (Inclusive high) (Some s) key e b =
    not_from_true (key_lt high key) (key_lt_le high s key (not-false (key_lt high s) e) (not-true (key_lt key s) b))
high_passed (Exclusive high) (Some s) key e b = key_le_le high s key e (not-true (key_lt key s) b)

passed : (lower upper : Option (List ℕ)) (key : List ℕ) → is_from lower key ≡ true → is_before upper key ≡ true
    → (need : Need) → visits need.interval lower upper ≡ false → in_interval need.interval key ≡ false
passed lower upper key from before need e = elim (and_cases (ends_above need.interval.low upper) (begins_below need.interval.high lower) e) [
  | inl f ↦ rw (low_passed need.interval.low upper key f before) refl
  | inr f ↦ outside (is_above need.interval.low key) (high_passed need.interval.high lower key f from)
]
  where
    outside : (b : Bool) → is_below need.interval.high key ≡ false → (b && is_below need.interval.high key) ≡ false
    outside true f = f
    outside false f = refl

-- The narrower of two separators lets pass what both do.

max_lower_parts : (a b : Option (List ℕ)) (key : List ℕ) → is_from (max_lower a b) key ≡ true → (is_from a key ≡ true) × (is_from b key ≡ true)
max_lower_parts None b key e = (refl, e)
max_lower_parts (Some a) None key e = (e, refl)
max_lower_parts (Some a) (Some b) key e = step (key_lt a b) refl e
  where
    step : (less : Bool) → key_lt a b ≡ less → is_from (cond less (Some b) (Some a)) key ≡ true → (is_from (Some a) key ≡ true) × (is_from (Some b) key ≡ true)
    step true f g = (not_from_false (key_lt key a) (key_le_le a b key (key_lt_back a b f) (not-true (key_lt key b) g)), g)
    step false f g = (g, not_from_false (key_lt key b) (key_le_le b a key f (not-true (key_lt key a) g)))

min_upper_parts : (a b : Option (List ℕ)) (key : List ℕ) → is_before (min_upper a b) key ≡ true → (is_before a key ≡ true) × (is_before b key ≡ true)
min_upper_parts None b key e = (refl, e)
min_upper_parts (Some a) None key e = (e, refl)
min_upper_parts (Some a) (Some b) key e = step (key_lt b a) refl e
  where
    step : (less : Bool) → key_lt b a ≡ less → is_before (cond less (Some b) (Some a)) key ≡ true → (is_before (Some a) key ≡ true) × (is_before (Some b) key ≡ true)
    step true f g = (key_lt_lt key b a g f, g)
    step false f g = (g, key_lt_le key a b g f)

-- what is left of a list was there before
any_before : {A : Type 0} (stays : A → Bool) (xs : List A) → is_any (filter stays xs) ≡ true → is_any xs ≡ true
any_before stays [] e = e
any_before stays (x ∷ xs) e = refl

-- at a child, where those are left out that don't go on to it
pub cover_below : (all active : List Need) (from to lower upper : Option (List ℕ)) → CoverKeys all active from to
    → CoverKeys all (descend active lower upper) (max_lower from lower) (min_upper to upper)
cover_below all active from to lower upper s some key e =
    let ends = and_parts (is_from (max_lower from lower) key) (is_before (min_upper to upper) key) e in
    let above = max_lower_parts from lower key ends.0 in
    let below = min_upper_parts to upper key ends.1 in
    named_kept (λ need. visits need.interval lower upper) key (passed lower upper key above.1 below.1) active
    ∙ s (any_before (λ need. visits need.interval lower upper) active some) key (and_from (is_from from key) (is_before to key) above.0 below.0)

-- of a need alone
pub goes_alone : (need : Need) (lower upper : Option (List ℕ)) → visits need.interval lower upper ≡ true → descend (need ∷ []) lower upper ≡ need ∷ []
goes_alone need lower upper e = ap (λ b. cond b (need ∷ []) []) e

pub passes_by : (need : Need) (lower upper : Option (List ℕ)) → visits need.interval lower upper ≡ false → descend (need ∷ []) lower upper ≡ []
passes_by need lower upper e = ap (λ b. cond b (need ∷ []) []) e
