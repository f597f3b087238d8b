-- What a command looks at, as a call returns it.
use Rattle.std.proofs.Common.{◌≡◌, List, Option, Result, Ok, Err, sym, subst, ◌∙◌}
use Rattle.std.specs.Prelude.{IfOk}
use Rattle.std.specs.List.{AllByRecursion}
use Rattle.std.specs.declared.alloc.AllocError.{AllocError}
use Rattle.vo_spec.specs.declared.tables.Command.{Command}
use Rattle.vo_spec.specs.declared.tables.Command.TheVariants.{Create, Drop, Insert, Update, Delete}
use Rattle.vo_spec.specs.Values.{key_of}
use Rattle.vo_spec.specs.Tables.{value_at}
use Rattle.vo_spec.specs.Fits.{FitsTree}
use Rattle.vo_spec.specs.Honest.{Stored, proof_on, command_proof}
use Rattle.vo_laws.proofs.PrunedFits.{insert_proof_fits}
use Rattle.vo_laws.proofs.ChangeProofs.{remove_proof_fits, replace_proof_fits}
use Rattle.mb_tree.specs.declared.parts.PartTree.{PartTree}
use Rattle.stored_tables.specs.View.{proof_list}

-- it is within the limits of a tree
proofs_fit : (c : Command) (s : Stored) → FitsTree s.tree → AllByRecursion FitsTree (proof_on c s)
proofs_fit (Create name columns key) s fits = tt
proofs_fit (Drop name) s fits = tt
proofs_fit (Insert name values) s fits = (insert_proof_fits (key_of (value_at values s.schema.key)) s.tree fits, tt)
proofs_fit (Update name sets column value) s fits = (replace_proof_fits (key_of value) s.tree fits, tt)
proofs_fit (Delete name column value) s fits = (remove_proof_fits (key_of value) s.tree fits, tt)

abbrev pub IsProofOn : Command → Stored → Result (Option PartTree) AllocError → Type 0
IsProofOn c s result = IfOk result (λ proof. proof_list proof ≡ proof_on c s)

pub as_found : (r : Result (Option PartTree) AllocError) (c : Command) (stored : List Stored) (s : Stored) → command_proof c stored ≡ proof_on c s → IsProofOn c s r
    → IfOk r (λ proof. proof_list proof ≡ command_proof c stored)
as_found (Ok proof) c stored s is honest = honest ∙ sym is
as_found (Err fault) c stored s is honest = tt

pub found_fits : (r : Result (Option PartTree) AllocError) (c : Command) (s : Stored) → FitsTree s.tree → IsProofOn c s r
    → IfOk r (λ proof. AllByRecursion FitsTree (proof_list proof))
found_fits (Ok proof) c s fits honest = subst (AllByRecursion FitsTree) (sym honest) (proofs_fit c s fits)
found_fits (Err fault) c s fits honest = tt
