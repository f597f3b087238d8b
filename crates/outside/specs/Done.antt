-- The calls that a disk in memory has kept, oldest first, the bytes of all writes in one log.
use Rattle.std.specs.Prelude.{ℕ, ◌+◌, Bool, true, List, [], ◌∷◌, take, drop, fold, nat_le}
use Rattle.outside.specs.DiskModel.{Call, Wrote, Synced, overwrite_at}
use Rattle.outside.specs.declared.mem_disk.done.Done.{Done}
use Rattle.outside.specs.declared.mem_disk.done.Done.TheVariants.{Write, Sync}

-- what reads give once this was done
abbrev pub seen_next : List ℕ → List ℕ → Done → List ℕ
seen_next log seen (Write at from kept lost) = overwrite_at at (take kept (drop from log)) seen
seen_next log seen Sync = seen

-- the same call as a crash sees it, by what reads gave
abbrev pub call_of : List ℕ → Done → Call
call_of seen (Write at from kept lost) = Wrote at (kept + lost)
call_of seen Sync = Synced seen

-- what reads give after all of it
abbrev pub seen_after : List ℕ → List ℕ → List Done → List ℕ
seen_after log seen done = fold (seen_next log) seen done

-- the calls as a crash sees them
abbrev pub calls_after : List ℕ → List ℕ → List Done → List Call
calls_after log seen [] = []
calls_after log seen (one ∷ done) = call_of seen one ∷ calls_after log (seen_next log seen one) done

-- the bytes of a write lie in a log of this length
abbrev pub is_within : ℕ → Done → Bool
is_within len (Write at from kept lost) = nat_le (from + kept) len
is_within len Sync = true
