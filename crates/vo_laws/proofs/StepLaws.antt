-- Trees and tables batch by batch: what one more makes of them, and that both accept it or refuse
-- it.
use Rattle.std.proofs.Common.{◌≡◌, ℕ, List, [], ◌∷◌, ◌++◌, Result, Ok, Err, refl, ap, ◌∙◌, arith}
use Rattle.std.specs.Prelude.{◌↔◌, IsOk}
use Rattle.std.specs.List.{AllByRecursion}
use Rattle.std.proofs.lemmas.List.{length-append}
use Rattle.std.proofs.lemmas.List.Sums.{fold-append}
use Rattle.vo_spec.specs.declared.tables.Command.{Command}
use Rattle.vo_spec.specs.declared.tables.CommandFault.{CommandFault}
use Rattle.vo_spec.specs.declared.tables.Table.{Table}
use Rattle.vo_spec.specs.Bytes.{u16_bytes}
use Rattle.vo_spec.specs.Tables.{apply_batch, after_batch, tables_after}
use Rattle.vo_spec.specs.Batches.{batch_bytes, FitsBatch}
use Rattle.vo_spec.specs.Honest.{Stored, work_all, after_work, honest_trees}
use Rattle.vo_laws.proofs.ByteLengths.{length-u16}
use Rattle.vo_laws.proofs.RepresentationLaws.{InStepFrom, batch_in_step, stands}

pub trees_follow : (batches : List (List Command)) (batch : List Command) → honest_trees (batches ++ batch ∷ []) ≡ after_work (honest_trees batches) batch
unfolding honest_trees
trees_follow batches batch = fold-append after_work [] batches (batch ∷ [])

pub tables_follow : (batches : List (List Command)) (batch : List Command) → tables_after (batches ++ batch ∷ []) ≡ after_batch (tables_after batches) batch
unfolding tables_after
tables_follow batches batch = fold-append after_batch [] batches (batch ∷ [])

-- A batch of no commands before others makes no difference.

pub no_commands_fit : FitsBatch []
unfolding batch_bytes
no_commands_fit = record { count = omega arith; each = tt; size = omega (arith, length-append (u16_bytes 0) [], length-u16 0) }

pub no_tables_before : (batches : List (List Command)) → tables_after ([] ∷ batches) ≡ tables_after batches
unfolding tables_after
no_tables_before batches = refl

pub no_trees_before : (batches : List (List Command)) → honest_trees ([] ∷ batches) ≡ honest_trees batches
unfolding honest_trees
no_trees_before batches = refl

-- A batch is accepted or refused on both.

in_step : (batches : List (List Command)) (batch : List Command) → AllByRecursion FitsBatch batches → FitsBatch batch
    → InStepFrom (work_all batch (honest_trees batches)) (apply_batch batch (tables_after batches))
in_step batches batch fits batch_fits =
    let s = stands batches fits in
    batch_in_step 0 batch (honest_trees batches) (tables_after batches) batch_fits.each s.0 s.1

both_accept : (r : Result (List Stored) CommandFault) (s : Result (List Table) (ℕ × CommandFault)) → InStepFrom r s → IsOk r ↔ IsOk s
both_accept (Ok stored) (Ok tables) i = (λ ok. refl, λ ok. refl)
both_accept (Ok stored) (Err fault) i = absurd i
both_accept (Err fault) (Ok tables) i = absurd i
both_accept (Err fault) (Err other) i = (λ ok. absurd (cc), λ ok. absurd (cc))

both_refuse : (r : Result (List Stored) CommandFault) (s : Result (List Table) (ℕ × CommandFault)) (index : ℕ) (fault : CommandFault) → InStepFrom r s → s ≡ Err (index, fault) → r ≡ Err fault
both_refuse r (Ok tables) index fault i e = absurd (cc)
both_refuse (Ok stored) (Err other) index fault i e = absurd i
both_refuse (Err first) (Err other) index fault i e = let same : other ≡ (index, fault) = cc in ap Err i ∙ ap (λ (p : ℕ × CommandFault). Err p.1) same

pub both_take : (batches : List (List Command)) (batch : List Command) → AllByRecursion FitsBatch batches → FitsBatch batch
    → IsOk (work_all batch (honest_trees batches)) ↔ IsOk (apply_batch batch (tables_after batches))
both_take batches batch fits batch_fits = both_accept (work_all batch (honest_trees batches)) (apply_batch batch (tables_after batches)) (in_step batches batch fits batch_fits)

pub same_refusal : (batches : List (List Command)) (batch : List Command) (index : ℕ) (fault : CommandFault) → AllByRecursion FitsBatch batches → FitsBatch batch
    → apply_batch batch (tables_after batches) ≡ Err (index, fault) → work_all batch (honest_trees batches) ≡ Err fault
same_refusal batches batch index fault fits batch_fits e =
    both_refuse (work_all batch (honest_trees batches)) (apply_batch batch (tables_after batches)) index fault (in_step batches batch fits batch_fits) e
