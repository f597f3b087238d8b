use Rattle.std.proofs.Common.{arith, ◌≡◌, ◌+◌, [], ◌∷◌, ◌++◌, ap, ◌∙◌}
use Rattle.std.proofs.lemmas.List.FromFn.{map-range_with_len_more}
use Rattle.vo_gen.specs.Words.{word_of}
use Rattle.vo_gen.specs.Workload.{step, Drawing}
use Rattle.vo_gen.proofs.drawing.Drawing.batch.Goals as goal

pub loop-drawn-preserved : goal.loop-drawn-preserved
loop-drawn-preserved c =
    let key : c.loop-drawn.self.key ≡ c.args.self.now.key =
    ap (λ (d : Drawing). d.key) c.loop-drawn.invariant.drawn in
    let keys : c.loop-drawn.self.keys ≡ c.args.self.now.keys =
    ap (λ (d : Drawing). d.keys) c.loop-drawn.invariant.drawn in
    let steps : c.loop-drawn.self.steps ≡ c.args.self.now.steps + c.loop-drawn._drawn =
    ap (λ (d : Drawing). d.steps) c.loop-drawn.invariant.drawn in
    let next : c.args.self.now.steps + c.loop-drawn._drawn + 1
    ≡ c.args.self.now.steps + (c.loop-drawn._drawn + 1) = omega arith in
    let more = map-range_with_len_more (step (word_of c.args.self.now.key) c.args.self.now.keys)
    c.args.self.now.steps c.loop-drawn._drawn
    (c.args.self.now.steps + c.loop-drawn._drawn) (omega arith) in
    let pushed : c.push.new.self.items
    ≡ c.loop-drawn.commands.items ++ c.in_ok-command.field-0 ∷ [] =
    c.in_ok-push.ensures.items in
    let item : c.in_ok-command.field-0
    ≡ step (word_of c.args.self.now.key) c.args.self.now.keys
    (c.args.self.now.steps + c.loop-drawn._drawn) =
    c.in_ok-command.ensures ∙ c.step.ensures.step ∙ cc in
    record {
      drawn = c.step.ensures.rest ∙ cc;
      made = cc;
    }
