-- Room for calls, and what is left of it.
use Rattle.std.proofs.Common.{ℕ, ◌+◌, ◌≤◌, Option, Some, None, IfSome, arith}
use Rattle.outside.specs.declared.room.Room.{Room}
use Rattle.outside.specs.DiskModel.{HasRoom, room_after}

pub less_room : (room : Option Room) (end bytes calls to few times : ℕ) → to ≤ end → few ≤ bytes → times ≤ calls → IfSome room (HasRoom end bytes calls) → IfSome room (HasRoom to few times)
less_room None end bytes calls to few times a b c has = tt
less_room (Some room) end bytes calls to few times a b c has =
    record { to_end = omega (arith, has.to_end); for_bytes = omega (arith, has.for_bytes); for_calls = omega (arith, has.for_calls) }

-- a call that writes so many bytes leaves the rest
pub room_left : (room : Option Room) (end bytes more calls : ℕ) → IfSome room (HasRoom end (bytes + more) (calls + 1)) → IfSome (room_after bytes room) (HasRoom end more calls)
room_left None end bytes more calls has = tt
room_left (Some room) end bytes more calls has =
    record { to_end = has.to_end; for_bytes = omega (arith, has.for_bytes); for_calls = omega (arith, has.for_calls) }
