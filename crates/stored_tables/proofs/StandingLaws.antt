-- Trees go on to stand for plain tables.
use Rattle.std.proofs.Common.{◌≡◌, ℕ, ◌+◌, true, cond, List, [], ◌∷◌, ◌++◌, Some, Result, Ok, Err, take, drop, sym, ap, ◌∙◌, subst, arith}
use Rattle.std.specs.Prelude.{bytes_eq, IfOk}
use Rattle.std.specs.List.{AllByRecursion}
use Rattle.vo_spec.specs.declared.tables.Table.{Table}
use Rattle.vo_spec.specs.declared.tables.Command.{Command}
use Rattle.vo_spec.specs.declared.tables.CommandFault.{CommandFault}
use Rattle.vo_spec.specs.Batches.{FitsCommand}
use Rattle.vo_spec.specs.Tables.{table_named, apply}
use Rattle.vo_spec.specs.Honest.{Stored, RepresentsTable, RepresentTables, work}
use Rattle.vo_laws.specs.FittingTables.{FitsTable}
use Rattle.vo_laws.proofs.RepresentationLaws.{InStep, FitAfter, command_in_step}
use Rattle.vo_laws.proofs.StoredFits.{SeparatedAfter, work_separated}
use Rattle.table_list.specs.Changes.{Returns}
use Rattle.table_list.specs.declared.fault.ApplyFault.{ApplyFault}
use Rattle.stored_tables.specs.Representation.{IsStanding}
use Rattle.stored_tables.specs.Positions.{is_named, IsUnlike, IsAt}
use Rattle.stored_tables.proofs.ListLaws.{parted_at}

pub nothing_standing : IsStanding []
nothing_standing = record { tables = []; stand = tt; fit = record { each = tt; rising = tt; count = omega arith }; separated = tt }

pub kept_standing : (c : Command) (stored new : List Stored) → FitsCommand c → IsStanding stored → work c stored ≡ Ok new → IsStanding new
kept_standing c stored new fits s e =
    let i = command_in_step c stored s.tables fits s.stand s.fit in
    step (work c stored) (apply c s.tables) e i.0 i.1 (work_separated c stored s.tables s.stand s.fit s.separated)
  where
    step : (r : Result (List Stored) CommandFault) (a : Result (List Table) CommandFault) → r ≡ Ok new → InStep r a → FitAfter a → SeparatedAfter r → IsStanding new
    step (Ok after) (Ok tables) e i f l = let same : after ≡ new = cc in subst IsStanding same (record { tables = tables; stand = i; fit = f; separated = l })
    step (Ok after) (Err fault) e i f l = absurd i
    step (Err fault) (Ok tables) e i f l = absurd i
    step (Err fault) (Err other) e i f l = absurd (cc)

-- the plain table for which the one of this name stands
pub record StandsAt (name : List ℕ) (s : Stored) (tables : List Table) : Type 0 where
  pub table : Table
  pub found : table_named name tables ≡ Some table
  pub stands : RepresentsTable s table
  pub fits : FitsTable table

standing_among : (name : List ℕ) (before : List Stored) (s : Stored) (after : List Stored) (tables : List Table) → AllByRecursion (IsUnlike name) before → is_named name s ≡ true
    → RepresentTables (before ++ s ∷ after) tables → AllByRecursion FitsTable tables → StandsAt name s tables
standing_among name [] s after [] unlike named zs fits = absurd zs
standing_among name [] s after (t ∷ tables) unlike named zs fits = record {
  table = t;
  found = ap (λ n. cond (bytes_eq n name) (Some t) (table_named name tables)) (sym zs.0.name) ∙ ap (λ b. cond b (Some t) (table_named name tables)) named;
  stands = zs.0;
  fits = fits.0;
}
standing_among name (b ∷ before) s after [] unlike named zs fits = absurd zs
standing_among name (b ∷ before) s after (t ∷ tables) unlike named zs fits =
    let rest = standing_among name before s after tables unlike.1 named zs.1 fits.1 in
    record {
      table = rest.table;
      found = ap (λ n. cond (bytes_eq n name) (Some t) (table_named name tables)) (sym zs.0.name) ∙ ap (λ c. cond c (Some t) (table_named name tables)) unlike.0 ∙ rest.found;
      stands = rest.stands;
      fits = rest.fits;
    }

pub plain_at : (name : List ℕ) (stored : List Stored) (at : ℕ) (s : Stored) (standing : IsStanding stored) → IsAt name stored at s → StandsAt name s standing.tables
plain_at name stored at s standing is =
    standing_among name (take at stored) s (drop (at + 1) stored) standing.tables is.before is.named
    (subst (λ ss. RepresentTables ss standing.tables) (parted_at stored at s is.there) standing.stand) standing.fit.each

-- what a call gives of a command goes on to stand
pub gives_standing : {X : Type 0} (view : X → List Stored) (c : Command) (stored : List Stored) (r : Result X ApplyFault) → FitsCommand c
    → IsStanding stored → Returns view r (work c stored) → IfOk r (λ x. IsStanding (view x))
gives_standing view c stored (Ok x) fits s gives = kept_standing c stored (view x) fits s gives
gives_standing view c stored (Err fault) fits s gives = tt
