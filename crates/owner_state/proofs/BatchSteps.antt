-- One command more of a batch: what is left to do of it, and the proofs that are left to write.
use Rattle.std.proofs.Common.{◌≡◌, ℕ, ◌+◌, ◌≤◌, cond, List, [], ◌∷◌, ◌++◌, length, map, Option, Some, None, Result, Ok, Err, refl, sym, ap, ◌∙◌, append_assoc, append-nil, arith}
use Rattle.std.specs.Prelude.{is_some, flat_map}
use Rattle.std.specs.List.{AllByRecursion}
use Rattle.std.specs.Result.{result_unwrap_or}
use Rattle.std.proofs.lemmas.Grind.{flat_map-append}
use Rattle.std.proofs.lemmas.List.{length-append}
use Rattle.vo_spec.specs.declared.tables.Command.{Command}
use Rattle.vo_spec.specs.declared.tables.CommandFault.{CommandFault}
use Rattle.vo_spec.specs.Firsts.{unless, and_then}
use Rattle.vo_spec.specs.Tables.{refusal}
use Rattle.vo_spec.specs.Batches.{FitsCommand}
use Rattle.vo_spec.specs.Trees.{RowTree}
use Rattle.vo_spec.specs.TreeBytes.{tree_bytes}
use Rattle.vo_spec.specs.Inserts.{result_map}
use Rattle.vo_spec.specs.Honest.{Stored, stored_table_header, changed_trees, work, command_proof, honest_proofs}
use Rattle.stored_tables.specs.Working.{numbered_work, work_from}
use Rattle.owner_state.specs.BatchProofs.{allowed_proof}

abbrev headers_refuse : Command → List Stored → Option CommandFault
headers_refuse c stored = refusal c (map stored_table_header stored)

-- the proofs of the commands behind one that made this
abbrev behind : List Command → Result (List Stored) CommandFault → List RowTree
behind cs r = result_unwrap_or (result_map (honest_proofs cs) r) []

-- a command that is accepted is refused by no table header, and its proof stands before those of
-- the commands behind it
pub proofs_on : (c : Command) (cs : List Command) (stored after : List Stored) → work c stored ≡ Ok after
    → honest_proofs (c ∷ cs) stored ≡ allowed_proof c stored ++ honest_proofs cs after
unfolding work
proofs_on c cs stored after w = step (headers_refuse c stored) w ∙ ap (λ r. allowed_proof c stored ++ behind cs r) w
  where
    step : (r : Option CommandFault) → and_then (changed_trees c) (unless r stored) ≡ Ok after
        → cond (is_some r) [] (command_proof c stored ++ behind cs (work c stored)) ≡ cond (is_some r) [] (command_proof c stored) ++ behind cs (work c stored)
    step None e = refl
    step (Some fault) e = absurd (cc)

-- the proofs of a batch whose first command is refused
pub proofs_up_to : (c : Command) (cs : List Command) (stored : List Stored) (fault : CommandFault) → work c stored ≡ Err fault → honest_proofs (c ∷ cs) stored ≡ allowed_proof c stored
proofs_up_to c cs stored fault w =
    ap (λ r. cond (is_some (headers_refuse c stored)) [] (command_proof c stored ++ behind cs r)) w
    ∙ ap (cond (is_some (headers_refuse c stored)) []) (append-nil (command_proof c stored))

-- What is left to do leads where all of it led; and behind the trees that are written, those that
-- are left are all of the batch.
pub record IsLeft (index : ℕ) (left all : List Command) (stored before : List Stored) (bytes begun : List ℕ) (count : ℕ) : Type 0 where
  pub answer : work_from index left stored ≡ work_from 0 all before
  pub ends : bytes ++ flat_map tree_bytes (honest_proofs left stored) ≡ begun ++ flat_map tree_bytes (honest_proofs all before)
  pub counted : count + length (honest_proofs left stored) ≡ length (honest_proofs all before)
  pub few : count ≤ index
  pub fits : AllByRecursion FitsCommand left

-- what a command adds to what is written
pub record IsPut (c : Command) (stored : List Stored) (bytes more : List ℕ) (count next : ℕ) : Type 0 where
  pub bytes_are : more ≡ bytes ++ flat_map tree_bytes (allowed_proof c stored)
  pub counted : next ≡ count + length (allowed_proof c stored)
  pub few : next ≤ count + 1

module _ (index : ℕ) (c : Command) (cs all : List Command) (stored before : List Stored) (bytes begun more : List ℕ) (count next : ℕ)
    (l : IsLeft index (c ∷ cs) all stored before bytes begun count) (p : IsPut c stored bytes more count next) where
  abbrev here : List RowTree
  here = allowed_proof c stored

  pub one_done : (after : List Stored) → work c stored ≡ Ok after → IsLeft (index + 1) cs all after before more begun next
  one_done after w =
      let rest : List RowTree = honest_proofs cs after in
      let on : honest_proofs (c ∷ cs) stored ≡ here ++ rest = proofs_on c cs stored after w in
      record {
        answer = ap (λ r. and_then (work_from (index + 1) cs) (numbered_work index r)) (sym w) ∙ l.answer;
        ends = ap (λ (t : List ℕ). t ++ flat_map tree_bytes rest) p.bytes_are ∙ append_assoc bytes (flat_map tree_bytes here) (flat_map tree_bytes rest)
            ∙ ap (λ (t : List ℕ). bytes ++ t) (sym (flat_map-append tree_bytes here rest) ∙ ap (flat_map tree_bytes) (sym on)) ∙ l.ends;
        counted = omega (arith, p.counted, length-append here rest, ap length on, l.counted);
        few = omega (arith, p.few, l.few);
        fits = l.fits.1;
      }

  -- where the command is refused, all of the batch's trees are written
  pub all_put : (fault : CommandFault) → work c stored ≡ Err fault → more ≡ begun ++ flat_map tree_bytes (honest_proofs all before)
  all_put fault w = p.bytes_are ∙ ap (λ ts. bytes ++ flat_map tree_bytes ts) (sym (proofs_up_to c cs stored fault w)) ∙ l.ends

  pub all_counted : (fault : CommandFault) → work c stored ≡ Err fault → next ≡ length (honest_proofs all before)
  all_counted fault w = p.counted ∙ ap (λ (ts : List RowTree). count + length ts) (sym (proofs_up_to c cs stored fault w)) ∙ l.counted

  pub answer_refused : (fault : CommandFault) → work c stored ≡ Err fault → work_from 0 all before ≡ Err (index, fault)
  answer_refused fault w = sym l.answer ∙ ap (λ r. and_then (work_from (index + 1) cs) (numbered_work index r)) w
