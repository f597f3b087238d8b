use Rattle.std.proofs.Common.{◌≡◌, ◌+◌}
use Rattle.vo_gen.specs.Words.{word_of}
use Rattle.vo_gen.specs.Workload.{steps_from}
use Rattle.vo_gen.proofs.drawing.Drawing.batch.Given as goal

-- the steps so far are drawn
abbrev pub invariant-loop-drawn : goal.invariant-loop-drawn
invariant-loop-drawn l = record {
  drawn : l.self ≡ record l.fn.self { steps = l.fn.self.steps + l._drawn };
  made : l.commands.items
      ≡ (steps_from (word_of l.fn.self.key) l.fn.self.keys l.fn.self.steps l._drawn).commands;
}
