-- What crashes may leave while calls go on.
use Rattle.std.specs.Prelude.{◌≡◌, ℕ, List, [], ◌∷◌, ◌++◌, Option, Some, None}
use Rattle.outside.specs.declared.room.Room.{Room}
use Rattle.outside.specs.DiskModel.{Call, DiskModel, IsImage, LeftSince, crashed_at, now, write_known, sync_known, room_after}

-- nothing was written since the last sync: a crash now leaves what reads give
abbrev pub IsDown : DiskModel → Type 0
IsDown drive = crashed_at drive (now drive) ≡ record { contents = drive.seen; ranges = [] }

-- what a crash may leave while count bytes are written from a place on over these, which were down
abbrev pub IsTornImage : ℕ → ℕ → List ℕ → List ℕ → Type 0
IsTornImage place count contents image =
    IsImage (record { contents = contents; ranges = (place, count) ∷ [] }) image

-- The later disk is the earlier one and some calls more, and a crash at any moment since leaves
-- what has P.
pub record LeavesOnly (before after : DiskModel) (P : List ℕ → Type 0) : Type 0 where
  pub first : after.first ≡ before.first
  pub more : (calls : List Call) × (after.calls ≡ before.calls ++ calls)
  pub each : (image : List ℕ) → LeftSince after (now before) image → P image

-- a relation of what a disk was and is, where that is known; a disk that was known stays known
abbrev pub IfKnown : Option DiskModel → Option DiskModel → (DiskModel → DiskModel → Type 0) → Type 0
IfKnown None None R = Unit {0}
IfKnown (Some before) (Some after) R = R before after
IfKnown None (Some after) R = ⊥
IfKnown (Some before) None R = ⊥

-- a piece was written, and then put down
abbrev pub persist_known : ℕ → List ℕ → Option DiskModel → Option DiskModel
persist_known place piece drive = sync_known (write_known place piece drive)

-- what that leaves of the room, where it is known
abbrev pub room_down : ℕ → Option Room → Option Room
room_down count room = room_after 0 (room_after count room)
