use Rattle.std.proofs.Common.{arith, ◌≡◌, ◌+◌, ◌-◌, ◌*◌, ◌<◌, min, [], ◌∷◌, ◌++◌, ap, ◌∙◌}
use Rattle.std.proofs.lemmas.List.FromFn.{map-range_with_len_more}
use Rattle.vo_gen.specs.Words.{word_of}
use Rattle.vo_gen.specs.Workload.{batch_at, Drawing}
use Rattle.vo_gen.proofs.batches.batches.Goals as goal

pub loop-j-preserved : goal.loop-j-preserved
loop-j-preserved c =
    let key : c.loop-j.drawing.key ≡ c.args.drawing.now.key =
    ap (λ (d : Drawing). d.key) c.loop-j.invariant.drawn in
    let keys : c.loop-j.drawing.keys ≡ c.args.drawing.now.keys =
    ap (λ (d : Drawing). d.keys) c.loop-j.invariant.drawn in
    let steps : c.loop-j.drawing.steps ≡ min c.args.n (100 * c.loop-j.j) =
    ap (λ (d : Drawing). d.steps) c.loop-j.invariant.drawn in
    let left : 100 * c.loop-j.j < c.args.n = omega arith in
    let start : c.loop-j.drawing.steps ≡ 100 * c.loop-j.j = omega arith in
    let count : c.min.result ≡ min (c.args.n - 100 * c.loop-j.j) 100 = omega arith in
    let next : c.loop-j.drawing.steps + c.min.result ≡ min c.args.n (100 * (c.loop-j.j + 1)) =
    omega arith in
    let more = map-range_with_len_more (batch_at (word_of c.args.drawing.now.key) c.args.n)
    0 c.loop-j.j c.loop-j.j (omega arith) in
    let pushed : c.push-in-loop-j.new.self.items
    ≡ c.loop-j.batches.items ++ c.in_ok-batch.field-0 ∷ [] = c.in_ok-push-2.ensures.items in
    let item : c.in_ok-batch.field-0 ≡ batch_at (word_of c.args.drawing.now.key) c.args.n c.loop-j.j =
    rw (← c.requires.keys, ← key, ← keys, ← count, ← start) c.in_ok-batch.ensures.batch in
    record {
      drawn = c.in_ok-batch.ensures.rest ∙ cc;
      made = pushed ∙ cc;
    }
