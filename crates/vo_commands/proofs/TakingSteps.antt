-- Files that are taken one after another.
use Rattle.std.proofs.Common.{◌≡◌, ◌≤◌, ℕ, List, Option, Some, None, Result, refl, sym, subst, ◌∙◌, arith}
use Rattle.std.specs.Prelude.{IfSome, is_some}
use Rattle.outside.specs.Miss.{CountsMiss}
use Rattle.outside.specs.Shelf.{Files}
use Rattle.owner_session.proofs.SessionLaws.{rose_later}
use Rattle.vo_commands.specs.declared.report.Stop.{Stop}
use Rattle.vo_spec.specs.Conditions.{Query}
use Rattle.vo_commands.specs.Texts.{IsQueryText}
use Rattle.vo_commands.specs.Expected.{Expected, OfQuery, with_contents}
use Rattle.vo_commands.specs.Reports.{FailsOutside}
use Rattle.vo_commands.specs.Taking.{CountsMisses, LacksFile, Names, One, Along, LeavesFiles, TakesFiles}

-- the work comes to the file of this name, whatever files there are
abbrev pub ComesTo : List ℕ → (Files → Expected) → Type 0
ComesTo name expected = (known : Files) → known name ≡ None → LacksFile (expected known)

pub lacks_it : (found : Option (List ℕ)) (name : List ℕ) (limit : ℕ) (rest : List ℕ → Expected) → found ≡ None
    → LacksFile (with_contents found name limit rest)
lacks_it None name limit rest is = refl
lacks_it (Some bytes) name limit rest is = absurd (cc)

no_miss : {A : Type 0} (o : Option A) (before after : ℕ) → (o ≡ None → ⊥) → CountsMiss (is_some o) before after → after ≡ before
no_miss (Some a) before after there c = c
no_miss None before after there c = absurd (there refl)

abbrev Misses : Names → ℕ → ℕ → Files → Type 0
Misses names before after known = CountsMisses names known before after

one_missed : (o : Option Files) (name : List ℕ) (expected : Files → Expected) (x y : ℕ) → ComesTo name expected
    → IfSome o (Misses (One name) x y) → IfSome o (Misses (Along expected) x y)
one_missed None name expected x y comes one = tt
one_missed (Some known) name expected x y comes one = λ there. no_miss (known name) x y (λ none. there (comes known none)) one

-- what the rest of the work lacks the whole lacks
abbrev GoesThrough : (Files → Expected) → (Files → Expected) → Files → Type 0
GoesThrough expected rest known = LacksFile (rest known) → LacksFile (expected known)

more_missed : (o p : Option Files) (name : List ℕ) (expected rest : Files → Expected) (x y z : ℕ) → ComesTo name expected
    → IfSome o (GoesThrough expected rest) → p ≡ o → IfSome o (Misses (One name) x y) → IfSome p (Misses (Along rest) y z)
    → IfSome o (Misses (Along expected) x z)
more_missed o p name expected rest x y z comes goes same one more = step o goes one (subst (λ o. IfSome o (Misses (Along rest) y z)) same more)
  where
    step : (o : Option Files) → IfSome o (GoesThrough expected rest) → IfSome o (Misses (One name) x y) → IfSome o (Misses (Along rest) y z) → IfSome o (Misses (Along expected) x z)
    step None goes one more = tt
    step (Some known) goes one more = λ there. more (λ lacks. there (goes lacks)) ∙ no_miss (known name) x y (λ none. there (comes known none)) one

-- What the rest of the work lacks, of what the rest of the work is once a file was taken.
pub lacks_behind : {B : Type 0} (expected : Files → (B → Expected) → Expected) (b : B) (rest : Files → B → Expected) (o : Option Files)
    → IfSome o (λ known. (rest : B → Expected) → expected known rest ≡ rest b)
    → IfSome o (λ known. LacksFile (rest known b) → LacksFile (expected known (rest known)))
lacks_behind expected b rest None goes = tt
lacks_behind expected b rest (Some known) goes = λ lacks. subst LacksFile (sym (goes (rest known))) lacks

-- and once a query was read
pub lacks_query : (text : List ℕ) (q : Query) (rest : Files → Query → Expected) (expected : Files → Expected) (o : Option Files) → IsQueryText text q
    → IfSome o (λ known. LacksFile (OfQuery text (rest known)) → LacksFile (expected known))
    → IfSome o (λ known. LacksFile (rest known q) → LacksFile (expected known))
lacks_query text q rest expected None is goes = tt
lacks_query text q rest expected (Some known) is goes = λ lacks. goes (q, is, lacks)

missed_of_query : (text : List ℕ) (q : Query) (rest : Files → Query → Expected) (o : Option Files) (x y : ℕ) → IsQueryText text q
    → IfSome o (Misses (Along (λ known. rest known q)) x y) → IfSome o (Misses (Along (λ known. OfQuery text (rest known))) x y)
missed_of_query text q rest None x y is missed = tt
missed_of_query text q rest (Some known) x y is missed = λ there. missed (λ lacks. there (q, is, lacks))

module _ {S : Type 0} {contents : S → Option Files} {faults misses : S → ℕ} where
  -- the work ends with the first file that it comes to
  pub leaves_first : (name : List ℕ) (expected : Files → Expected) (before after : S) → ComesTo name expected
      → LeavesFiles contents faults misses (One name) before after → LeavesFiles contents faults misses (Along expected) before after
  leaves_first name expected before after comes took = record {
    kept = took.kept;
    counts = took.counts;
    missed = one_missed (contents before) name expected (misses before) (misses after) comes took.missed;
  }

  -- a file is taken, and then those to which the rest of the work comes
  pub leaves_more : (name : List ℕ) (expected rest : Files → Expected) (before between after : S) → ComesTo name expected
      → IfSome (contents before) (λ known. LacksFile (rest known) → LacksFile (expected known))
      → LeavesFiles contents faults misses (One name) before between → LeavesFiles contents faults misses (Along rest) between after
      → LeavesFiles contents faults misses (Along expected) before after
  leaves_more name expected rest before between after comes goes first more =
      let x : faults before ≤ faults between = first.counts in
      let y : faults between ≤ faults after = more.counts in
      record {
        kept = more.kept ∙ first.kept;
        counts = omega (arith, x, y);
        missed = more_missed (contents before) (contents between) name expected rest (misses before) (misses between) (misses after) comes goes first.kept first.missed more.missed;
      }

  -- the same of calls that end so

  -- the work on a query is that on its text
  pub takes_query : {B : Type 0} (text : List ℕ) (q : Query) (rest : Files → Query → Expected) (before after : S) (t : Result B Stop) → IsQueryText text q
      → TakesFiles contents faults misses (Along (λ known. rest known q)) before after t → TakesFiles contents faults misses (Along (λ known. OfQuery text (rest known))) before after t
  takes_query text q rest before after t is took = record {
    leaves = record {
      kept = took.leaves.kept;
      counts = took.leaves.counts;
      missed = missed_of_query text q rest (contents before) (misses before) (misses after) is took.leaves.missed;
    };
    cause = took.cause;
    quiet = took.quiet;
  }

  pub takes_first : {A B : Type 0} (name : List ℕ) (expected : Files → Expected) (before after : S) (r : Result A Stop) (t : Result B Stop)
      → (FailsOutside t → FailsOutside r) → (FailsOutside r → FailsOutside t) → ComesTo name expected
      → TakesFiles contents faults misses (One name) before after r → TakesFiles contents faults misses (Along expected) before after t
  takes_first name expected before after r t to fro comes took = record {
    leaves = leaves_first name expected before after comes took.leaves;
    cause = λ e. took.cause (to e);
    quiet = λ other. took.quiet (λ e. other (fro e));
  }

  pub takes_more : {A B : Type 0} (name : List ℕ) (expected rest : Files → Expected) (before between after : S) (r : Result A Stop) (t : Result B Stop)
      → (FailsOutside r → ⊥) → ComesTo name expected → IfSome (contents before) (λ known. LacksFile (rest known) → LacksFile (expected known))
      → TakesFiles contents faults misses (One name) before between r → TakesFiles contents faults misses (Along rest) between after t
      → TakesFiles contents faults misses (Along expected) before after t
  takes_more name expected rest before between after r t fine comes goes first more = record {
    leaves = leaves_more name expected rest before between after comes goes first.leaves more.leaves;
    cause = λ e. rose_later (faults before) (faults between) (faults after) first.leaves.counts (more.cause e);
    quiet = λ other. more.quiet other ∙ first.quiet fine;
  }
