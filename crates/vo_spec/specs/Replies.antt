-- Replies of a store, and the proofs that go with a batch, as bytes.
use Rattle.std.specs.Prelude.{◌≡◌, ℕ, ◌<◌, ◌≤◌, List, ◌∷◌, ◌++◌, length, flat_map, codes}
use Rattle.std.specs.List.{AllByRecursion}
use Rattle.vo_spec.specs.declared.records.Record.{Record}
use Rattle.vo_spec.specs.declared.records.Catalog.{Catalog}
use Rattle.vo_spec.specs.Bytes.{u16_bytes, block}
use Rattle.vo_spec.specs.Batches.{max_commands}
use Rattle.vo_spec.specs.Records.{FitsRecord, record_bytes, FitsCatalog, catalog_bytes, magic_of}
use Rattle.vo_spec.specs.Journals.{max_signature, max_proofs}
use Rattle.vo_spec.specs.Trees.{RowTree}
use Rattle.vo_spec.specs.Fits.{FitsTree}
use Rattle.vo_spec.specs.TreeBytes.{tree_bytes}

-- how many bytes a reply may have
abbrev pub max_reply : ℕ
max_reply = 67108864

pub record Reply : Type 0 where
  pub rec : Record
  pub signature : List ℕ
  pub catalog : Catalog
  pub trees : List RowTree

unfoldable pub reply_bytes : Reply → List ℕ
reply_bytes r =
    codes "VOR1" ++ record_bytes r.rec ++ block r.signature ++ block (catalog_bytes r.catalog)
    ++ length r.trees ∷ flat_map tree_bytes r.trees

pub record FitsReply (r : Reply) : Type 0 where
  pub rec : FitsRecord r.rec
  pub signature : length r.signature ≤ max_signature
  pub catalog : FitsCatalog r.catalog
  pub count : length r.trees < 256
  pub trees : AllByRecursion FitsTree r.trees
  pub magic : r.rec.magic ≡ magic_of r.catalog

-- The bytes are this reply.
pub record IsReply (bytes : List ℕ) (r : Reply) : Type 0 where
  pub fits : FitsReply r
  pub encoded : bytes ≡ reply_bytes r

abbrev pub IsNoReply : List ℕ → Type 0
IsNoReply bytes = (r : Reply) → IsReply bytes r → ⊥

-- Proofs: a tree for each command of a batch that changes rows.

unfoldable pub proofs_bytes : List RowTree → List ℕ
proofs_bytes trees = codes "VOU1" ++ u16_bytes (length trees) ++ flat_map tree_bytes trees

pub record FitsProofs (trees : List RowTree) : Type 0 where
  pub count : length trees ≤ max_commands
  pub each : AllByRecursion FitsTree trees
  pub size : length (proofs_bytes trees) ≤ max_proofs

-- The bytes are these proofs.
pub record AreProofs (bytes : List ℕ) (trees : List RowTree) : Type 0 where
  pub fits : FitsProofs trees
  pub encoded : bytes ≡ proofs_bytes trees
