use Rattle.std.proofs.Common.{◌≡◌, ◌++◌, ◌∷◌, length, take}
use Rattle.std.specs.List.{flat_map}
use Rattle.vo_spec.specs.Batches.{set_bytes}
use Rattle.batch_format.proofs.writing.put_sets.Given as goal

abbrev pub invariant-loop-part : goal.invariant-loop-part
invariant-loop-part l = l.out.items ≡ l.fn.out.items ++ length l.sets ∷ flat_map set_bytes (take l.part-index l.sets)
