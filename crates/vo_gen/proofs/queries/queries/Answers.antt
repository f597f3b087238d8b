use Rattle.std.proofs.Common.{arith, ◌≡◌, ◌+◌, ◌*◌, [], ◌∷◌, ◌++◌, ap, ◌∙◌}
use Rattle.std.proofs.lemmas.List.FromFn.{map-range_with_len_more}
use Rattle.vo_gen.specs.Words.{word_of, Drawn}
use Rattle.vo_gen.specs.Workload.{query, keys_for}
use Rattle.vo_gen.proofs.queries.queries.Goals as goal

pub loop-j-preserved : goal.loop-j-preserved
loop-j-preserved c =
    let key : c.loop-j.words.key ≡ c.args.words.now.key =
    ap (λ (d : Drawn). d.key) c.loop-j.invariant.drawn in
    let place : c.loop-j.words.place ≡ 2 * (c.args.n + c.loop-j.j) =
    ap (λ (d : Drawn). d.place) c.loop-j.invariant.drawn in
    let next : c.loop-j.words.place + 2 ≡ 2 * (c.args.n + (c.loop-j.j + 1)) = omega arith in
    let more = map-range_with_len_more
    (query (word_of c.args.words.now.key) (keys_for c.args.n) c.args.n)
    0 c.loop-j.j c.loop-j.j (omega arith) in
    let pushed : c.push.new.self.items
    ≡ c.loop-j.queries.items ++ c.in_ok-query.field-0 ∷ [] = c.in_ok-push.ensures.items in
    let item : c.in_ok-query.field-0
    ≡ query (word_of c.args.words.now.key) (keys_for c.args.n) c.args.n c.loop-j.j =
    c.in_ok-query.ensures.query ∙ cc in
    record {
      drawn = c.in_ok-query.ensures.words ∙ cc;
      made = cc;
    }
