-- A disk with one file: what reads give, what was done to it, and what a crash may leave.
use Rattle.std.specs.Prelude.{◌≡◌, ℕ, ◌+◌, ◌-◌, ◌<◌, ◌≤◌, ◌==◌, ◌&&◌, ◌||◌, max, min, cond, Bool, not, IsTrue, List, [], ◌∷◌, ◌++◌, length, take, drop, replicate, fold, Option, option_map, nat_lt, nat_le, slice_index}
use Rattle.std.specs.List.{list_any}
use Rattle.outside.specs.declared.room.Room.{Room}

-- a call that changed what a crash may leave: a write of count bytes from a place on, which may
-- have failed, or a sync that put these contents down
pub data Call : Type 0 where
  Wrote : (place count : ℕ) → Call
  Synced : (contents : List ℕ) → Call

pub record DiskModel : Type 0 where
  pub seen : List ℕ  -- what reads give
  pub first : List ℕ  -- what was down before the calls
  pub calls : List Call  -- oldest first

-- these contents, put down
abbrev pub fresh : List ℕ → DiskModel
fresh contents = record { seen = contents; first = contents; calls = [] }

-- how many bytes are wanting before a write past the end: zeros are read there
abbrev pub gap : ℕ → List ℕ → List ℕ → ℕ
gap place piece seen = cond (length piece == 0) 0 (place - length seen)

-- these bytes with the piece written over them
abbrev pub overwrite_at : ℕ → List ℕ → List ℕ → List ℕ
overwrite_at place piece seen =
    (take place seen ++ replicate (gap place piece seen) 0)
    ++ piece ++ drop (place + length piece) seen

-- a write of count bytes was begun, and reads give these bytes now
abbrev pub write_leaving : ℕ → ℕ → List ℕ → DiskModel → DiskModel
write_leaving place count seen drive = record drive {
  seen = seen;
  calls = drive.calls ++ Wrote place count ∷ [];
}

abbrev pub write_on : ℕ → List ℕ → DiskModel → DiskModel
write_on place piece drive =
    write_leaving place (length piece) (overwrite_at place piece drive.seen) drive

abbrev pub sync_now : DiskModel → DiskModel
sync_now drive = record drive { calls = drive.calls ++ Synced drive.seen ∷ [] }

-- the same, where the disk is known
abbrev pub fail_write_known : ℕ → ℕ → List ℕ → Option DiskModel → Option DiskModel
fail_write_known place count seen drive = option_map (write_leaving place count seen) drive

abbrev pub write_known : ℕ → List ℕ → Option DiskModel → Option DiskModel
write_known place piece drive = option_map (write_on place piece) drive

abbrev pub sync_known : Option DiskModel → Option DiskModel
sync_known drive = option_map sync_now drive

-- room for contents up to end, and for so many writes and syncs that write so many bytes in all
pub record HasRoom (end bytes calls : ℕ) (room : Room) : Type 0 where
  pub to_end : end ≤ room.end
  pub for_bytes : bytes ≤ room.bytes
  pub for_calls : calls ≤ room.calls

abbrev pub NoLess : Room → Room → Type 0
NoLess before after = HasRoom before.end before.bytes before.calls after

-- the room that a call which writes so many bytes leaves
abbrev pub less_room : ℕ → Room → Room
less_room count room = record room { bytes = room.bytes - count; calls = room.calls - 1 }

abbrev pub room_after : ℕ → Option Room → Option Room
room_after count room = option_map (less_room count) room

-- what was down at the last sync, and the ranges written since, each as a place and a count
pub record Down : Type 0 where
  pub contents : List ℕ
  pub ranges : List (ℕ × ℕ)

abbrev pub down_after : Down → Call → Down
down_after down (Wrote place count) = record down { ranges = (place, count) ∷ down.ranges }
down_after down (Synced contents) = record { contents = contents; ranges = [] }

-- a moment is the number of calls before it
abbrev pub crashed_at : DiskModel → ℕ → Down
crashed_at drive moment =
    fold down_after (record { contents = drive.first; ranges = [] }) (take moment drive.calls)

abbrev pub now : DiskModel → ℕ
now drive = length drive.calls

-- a range has this place
abbrev pub has : ℕ → ℕ × ℕ → Bool
has k range = nat_le range.0 k && nat_lt k (range.0 + range.1)

abbrev pub is_written : ℕ → List (ℕ × ℕ) → Bool
is_written k ranges = list_any (has k) ranges

-- where a range ends; one of no bytes writes no place
abbrev pub range_end : ℕ × ℕ → ℕ
range_end range = cond (range.1 == 0) 0 (range.0 + range.1)

-- the furthest written place, or the old end where that is further
abbrev pub furthest : ℕ → List (ℕ × ℕ) → ℕ
furthest end [] = end
furthest end (range ∷ ranges) = max (range_end range) (furthest end ranges)

-- a crash may leave these bytes: what was down keeps its bytes but where a write was begun, and
-- past the old end up to the furthest written place there may be any
pub record IsImage (down : Down) (image : List ℕ) : Type 0 where
  pub no_shorter : length down.contents ≤ length image
  pub no_longer : length image ≤ furthest (length down.contents) down.ranges
  pub stays : (k : ℕ) → k < length down.contents → IsTrue (not (is_written k down.ranges))
      → slice_index image k ≡ slice_index down.contents k

-- a crash takes this byte from the lost ones: one is there, and a write was begun at its place or
-- what was down ends before it
abbrev pub is_lost : Down → List ℕ → ℕ → Bool
is_lost down lost k =
    nat_lt k (length lost) && (is_written k down.ranges || nat_le (length down.contents) k)

-- the byte at a place of what a crash leaves with these lost bytes
abbrev pub byte_after : Down → List ℕ → ℕ → ℕ
byte_after down lost k =
    cond (is_lost down lost k) (slice_index lost k) (slice_index down.contents k)

-- of the images, the one that these lost bytes make: it is as long as what was down, or as the lost
-- bytes and the writes both reach where that is further
pub record IsImageWith (down : Down) (lost image : List ℕ) : Type 0 where
  pub long : length image
      ≡ max (length down.contents)
      (min (length lost) (furthest (length down.contents) down.ranges))
  pub bytes : (k : ℕ) → k < length image → slice_index image k ≡ byte_after down lost k

-- a crash now may leave it
abbrev pub MayLeave : DiskModel → List ℕ → Type 0
MayLeave drive image = IsImage (crashed_at drive (now drive)) image

-- a crash at this moment or some later one may have left it
abbrev pub LeftSince : DiskModel → ℕ → List ℕ → Type 0
LeftSince drive since image =
    (moment : ℕ) × (since ≤ moment) × (moment ≤ now drive) × IsImage (crashed_at drive moment) image
