-- The tests under which a rule can be read one token ahead, each by recursion on the rule.
use Rattle.std.specs.Prelude.{Bool, true, false, not, ◌&&◌, ◌||◌, if◌then◌else◌, List, [], ◌∷◌, ◌++◌}
use Rattle.std.specs.List.{list_any, list_all}
use Rattle.grammar.specs.Language.{Language}
use Rattle.grammar.specs.Rule.{Rule, Grammar, nothing, token, both, either, many, means, inside}

abbrev pub has : (l : Language) → List l.Kind → l.Kind → Bool
has l ks k = list_any (λ a. l.same a k) ks

-- no kind in both
abbrev pub are_apart : (l : Language) → List l.Kind → List l.Kind → Bool
are_apart l ks more = list_all (λ k. not (has l ks k)) more

abbrev pub are_among : (l : Language) → List l.Kind → List l.Kind → Bool
are_among l ks all = list_all (λ k. has l all k) ks

-- the empty text is one of its texts
abbrev pub is_nullable : {l : Language} {A : Type 0} → Rule l A → Bool
is_nullable (nothing a) = true
is_nullable (token k) = false
is_nullable (both p q) = is_nullable p && is_nullable q
is_nullable (either p q) = is_nullable p || is_nullable q
is_nullable (many limit p) = true
is_nullable (means f p) = is_nullable p
is_nullable (inside k n) = false

-- the kinds that its texts begin with
abbrev pub first : {l : Language} {A : Type 0} → Rule l A → List l.Kind
first (nothing a) = []
first (token k) = k ∷ []
first (both p q) = first p ++ (if is_nullable p then first q else [])
first (either p q) = first p ++ first q
first (many limit p) = first p
first (means f p) = first p
first (inside k n) = k ∷ []

-- the kinds with which a text of it could go on
abbrev pub goes_on : {l : Language} {A : Type 0} → Grammar l → Rule l A → List l.Kind
goes_on g (nothing a) = []
goes_on g (token k) = []
goes_on g (both p q) = goes_on g q ++ (if is_nullable q then goes_on g p else [])
goes_on g (either p q) = goes_on g p ++ goes_on g q ++ (if is_nullable q then first p else [])
goes_on g (many limit p) = goes_on g p ++ first p
goes_on g (means f p) = goes_on g p
goes_on g (inside k n) = g.after n

-- one token decides at each choice
abbrev pub is_predictive : {l : Language} {A : Type 0} → Grammar l → Rule l A → Bool
is_predictive g (nothing a) = true
is_predictive g (token k) = true
is_predictive {l} g (both p q) = are_apart l (goes_on g p) (first q) && is_predictive g p
    && is_predictive g q
is_predictive {l} g (either p q) = not (is_nullable p) && are_apart l (first p) (first q)
    && is_predictive g p && is_predictive g q
is_predictive {l} g (many limit p) = not (is_nullable p) && are_apart l (goes_on g p) (first p)
    && is_predictive g p
is_predictive g (means f p) = is_predictive g p
is_predictive g (inside k n) = true

-- one of its texts has nothing inside
abbrev pub is_plain : {l : Language} {A : Type 0} → Rule l A → Bool
is_plain (nothing a) = true
is_plain (token k) = true
is_plain (both p q) = is_plain p && is_plain q
is_plain (either p q) = is_plain p || is_plain q
is_plain (many limit p) = true
is_plain (means f p) = is_plain p
is_plain (inside k n) = false

-- what has begun can be completed with no further level
abbrev pub is_completable : {l : Language} {A : Type 0} → Rule l A → Bool
is_completable (nothing a) = true
is_completable (token k) = true
is_completable (both p q) = is_plain q && is_completable p && is_completable q
is_completable (either p q) = is_completable p && is_completable q
is_completable (many limit p) = is_completable p
is_completable (means f p) = is_completable p
is_completable (inside k n) = true

abbrev pub is_good_rule : {l : Language} {A : Type 0} → Grammar l → Rule l A → Bool
is_good_rule g p = is_plain p && is_completable p && is_predictive g p

-- the rule and those of all nonterminals pass the tests
abbrev pub is_good : {l : Language} {A : Type 0} → Grammar l → Rule l A → Bool
is_good {l} g p = is_good_rule g p
    && l.every (λ n. is_good_rule g (g.rule n) && are_among l (goes_on g (g.rule n)) (g.after n))
