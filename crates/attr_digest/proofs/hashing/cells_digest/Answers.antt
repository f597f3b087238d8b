use Rattle.std.proofs.Common.{◌≡◌, ◌+◌, ◌*◌, ◌≤◌, ◌++◌, ◌∙◌, length, refl, ap, arith}
use Rattle.std.proofs.lemmas.Slice.{take-put_mid}
use Rattle.attr_digest.proofs.Digests.{cell_digests_more}
use Rattle.attr_digest.proofs.hashing.cells_digest.Goals as goal

pub loop-column-preserved : goal.loop-column-preserved
loop-column-preserved c =
    let i = c.loop-column.column in
    let bytes = c.loop-column.bytes in
    let out = c.write_digest.new.out in
    let room : 2 + 32 * i ≤ length bytes = omega arith in
    let end : 2 + 32 * (i + 1) ≡ (2 + 32 * i) + length out = omega arith in
    let more = cell_digests_more c.args.cells.now i c.index-cells-column.result c.loop-column-test.true c.index-cells-column.is in
    take-put_mid _ _ bytes out _ end room ∙ ap (λ t. t ++ out) c.loop-column.invariant
    ∙ (rw (c.write_digest.ensures, more) refl)
