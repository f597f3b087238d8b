-- A slot that is written to a disk, and what a crash may leave meanwhile.
use Rattle.std.specs.Prelude.{◌⊎◌, ℕ, ◌+◌, List, [], ◌∷◌, length, Option}
use Rattle.outside.specs.DiskModel.{DiskModel, overwrite_at}
use Rattle.outside.specs.Moments.{IsTornImage, persist_known}

-- what stands behind a gate was put down, and then the gate as an open one
abbrev pub slot_down : ℕ → List ℕ → Option DiskModel → Option DiskModel
slot_down gate behind drive = persist_known gate (1 ∷ []) (persist_known (gate + 1) behind drive)

-- what a crash may leave meanwhile, of a disk that had these contents down
abbrev pub WhileSlot : ℕ → List ℕ → List ℕ → List ℕ → Type 0
WhileSlot gate behind contents image = IsTornImage (gate + 1) (length behind) contents image
    ⊎ IsTornImage gate 1 (overwrite_at (gate + 1) behind contents) image
