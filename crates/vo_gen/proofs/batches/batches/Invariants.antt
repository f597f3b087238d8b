use Rattle.std.proofs.Common.{◌≡◌, ◌*◌, min, [], ◌∷◌, map}
use Rattle.std.specs.List.{range_with_len}
use Rattle.vo_gen.specs.Words.{word_of}
use Rattle.vo_gen.specs.Workload.{creation, batch_at}
use Rattle.vo_gen.proofs.batches.batches.Given as goal

-- the batches so far are made, and hold the steps so far
abbrev pub invariant-loop-j : goal.invariant-loop-j
invariant-loop-j l = record {
  drawn : l.drawing ≡ record l.fn.drawing { steps = min l.n (100 * l.j) };
  made : l.batches.items ≡ (record { commands = creation ∷ [] })
      ∷ map (batch_at (word_of l.fn.drawing.key) l.n) (range_with_len 0 l.j);
}
