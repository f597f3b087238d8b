-- Lists of events.
use Rattle.std.proofs.Common.{◌≡◌, ℕ, ◌<◌, All, List, [], ◌∷◌, ◌++◌, length, take, get_or, Result, Ok, Err, OnErr, refl, sym, ap, subst, ◌∙◌, arith, length-append}
use Rattle.std.proofs.Math.Seq.{take-append_seam}
use Rattle.vo_world.specs.declared.events.Event.{Event}
use Rattle.vo_world.specs.declared.events.Said.{Said}
use Rattle.vo_world.specs.Keeping.{Keeps}
use Rattle.vo_world.specs.Runs.{Runs}
use Rattle.vo_world.specs.Steps.{FitsEvent, Steps}
use Rattle.vo_world.specs.WorldModel.{WorldModel}
use Rattle.vo_world.proofs.StepLaws.{same_clients, step_keeps}

pub run_keeps : (w : WorldModel) (events : List Event) (said : List Said) (after : WorldModel) → Keeps w → Runs w events said after → Keeps after
run_keeps w [] [] after keeps same = subst Keeps same keeps
run_keeps w (event ∷ events) (says ∷ said) after keeps (mid, fits, steps, runs) =
    run_keeps mid events said after (step_keeps w event says mid keeps fits steps) runs
run_keeps w [] (says ∷ said) after keeps runs = absurd runs
run_keeps w (event ∷ events) [] after keeps runs = absurd runs

-- one event more
pub run_more : (w : WorldModel) (events : List Event) (said : List Said) (mid : WorldModel) (event : Event) (says : Said) (after : WorldModel)
    → Runs w events said mid → FitsEvent (length mid.leasts) event → Steps mid event says after → Runs w (events ++ event ∷ []) (said ++ says ∷ []) after
run_more w [] [] mid event says after same fits steps =
    (after, subst (λ (v : WorldModel). FitsEvent (length v.leasts) event) (sym same) fits, subst (λ (v : WorldModel). Steps v event says after) (sym same) steps, refl)
run_more w (first ∷ events) (told ∷ said) mid event says after (next, fit, step, runs) fits steps =
    (next, fit, step, run_more next events said mid event says after runs fits steps)
run_more w [] (told ∷ said) mid event says after runs fits steps = absurd runs
run_more w (first ∷ events) [] mid event says after runs fits steps = absurd runs

pub run_clients : (w : WorldModel) (events : List Event) (said : List Said) (after : WorldModel) → Runs w events said after → length after.leasts ≡ length w.leasts
run_clients w [] [] after same = ap (λ (v : WorldModel). length v.leasts) (sym same)
run_clients w (event ∷ events) (says ∷ said) after (mid, fits, steps, runs) =
    run_clients mid events said after runs ∙ same_clients w event says mid steps
run_clients w [] (says ∷ said) after runs = absurd runs
run_clients w (event ∷ events) [] after runs = absurd runs

-- Events that come one after the other out of a list.

middle : {X : Type 0} (ys : List X) (x : X) (zs : List X) (d : X) → get_or (ys ++ x ∷ zs) (length ys) d ≡ x
middle [] x zs d = refl
middle (y ∷ ys) x zs d = middle ys x zs d

pub fits_there : (clients : ℕ) (all ys zs : List Event) (event : Event) → ys ++ event ∷ zs ≡ all → All (FitsEvent clients) all → FitsEvent clients event
fits_there clients all ys zs event is fits =
    let within : length ys < length all = omega (arith, ap length is, length-append ys (event ∷ zs)) in
    subst (FitsEvent clients) (ap (λ (es : List Event). get_or es (length ys) event) (sym is) ∙ middle ys event zs event) (fits (length ys) event within)

pub front_runs : (w : WorldModel) (all ys zs : List Event) (said : List Said) (after : WorldModel) → ys ++ zs ≡ all → Runs w ys said after
    → (count : ℕ) × (said : List Said) × Runs w (take count all) said after
front_runs w all ys zs said after is runs =
    (length ys, said, subst (λ (es : List Event). Runs w es said after) (sym (take-append_seam ys zs) ∙ ap (take (length ys)) is) runs)

pub on_err : {T E P : Type 0} (r : Result T E) → P → OnErr r P
on_err (Ok x) p = tt
on_err (Err e) p = p
