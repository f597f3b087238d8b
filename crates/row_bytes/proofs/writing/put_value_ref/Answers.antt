use Rattle.std.proofs.Common.{refl, arith}
use Rattle.std.proofs.lemmas.Result.{on_err_weaker}
use Rattle.row_bytes.proofs.Writings.{cut_back}
use Rattle.row_bytes.proofs.writing.put_value_ref.Goals as goal

pub returns-then-is_err-clause-err : goal.returns-then-is_err-clause-err
returns-then-is_err-clause-err c =
    let old = c.args.out.now.items in
    on_err_weaker c.write_value-written.result
    (λ some. cut_back old _ _ some.written _ (grind arith) c.truncate.ensures.items (some.writes old refl))
    c.write_value-written.ensures.err
