-- The proofs of changes, as operations have them.
use Rattle.std.specs.Prelude.{ℕ, Bool, if◌then◌else◌, Result, Ok, Err}
use Rattle.vo_spec.specs.declared.trees.ScanFault.{ScanFault}
use Rattle.vo_spec.specs.declared.trees.ScanFault.TheVariants.{Missing}
use Rattle.vo_spec.specs.Trees.{RowTree}
use Rattle.vo_spec.specs.Inserts.{insert_is_missing, insert_has_surplus, insert_proof}
use Rattle.vo_spec.specs.Removes.{replace_proof, remove_proof}
use Rattle.mb_update.specs.declared.ops.Op.{Op}
use Rattle.mb_update.specs.declared.ops.Op.TheVariants.{Insert, Replace, Remove, Put, Set}
pub use Rattle.vo_laws.specs.UpdateProofs.{lacks, replace_is_missing, rows_surplus, replace_has_surplus, replace_has_surplus_in, remove_is_missing, opened_sibling_surplus, sibling_surplus, first_surplus, remove_has_surplus, remove_has_surplus_in, remove_has_surplus_after}

-- Missing where something is, else the answer
abbrev pub missing_or : Bool → Bool → Result Bool ScanFault
missing_or missing answer = if missing then Err Missing else Ok answer

-- What a tree has open in the proof of a change. A row that is exchanged isn't looked at, so its proof
-- is that of an insertion of the key.
abbrev pub update_proof : Op → RowTree → RowTree
update_proof (Insert row) = insert_proof row.key
update_proof (Replace key sets) = replace_proof key
update_proof (Remove key) = remove_proof key
update_proof (Put key part) = insert_proof key
update_proof (Set key part) = insert_proof key

-- the change looks at a stub, or at what it can't go on with
abbrev pub update_is_missing : Op → RowTree → Bool
update_is_missing (Insert row) = insert_is_missing row.key
update_is_missing (Replace key sets) = replace_is_missing key
update_is_missing (Remove key) = remove_is_missing key
update_is_missing (Put key part) = insert_is_missing key
update_is_missing (Set key part) = insert_is_missing key

-- what the change doesn't look at is open
abbrev pub update_has_surplus : Op → RowTree → Bool
update_has_surplus (Insert row) = insert_has_surplus row.key
update_has_surplus (Replace key sets) = replace_has_surplus key
update_has_surplus (Remove key) = remove_has_surplus key
update_has_surplus (Put key part) = insert_has_surplus key
update_has_surplus (Set key part) = insert_has_surplus key
