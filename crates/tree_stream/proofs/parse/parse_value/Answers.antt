use Rattle.std.proofs.Common.{List, ℕ, ap, sym, ◌∙◌}
use Rattle.std.specs.Result.{result_ok}
use Rattle.vo_spec.specs.Lent.{value_of}
use Rattle.row_bytes.specs.Reading.{value_at}
use Rattle.batch_format.specs.BatchReading.{any_value_at}
use Rattle.tree_stream.proofs.WholeTokens.{value_token, value_none}
use Rattle.tree_stream.proofs.parse.parse_value.Goals as goal

pub returns-in-Ok : goal.returns-in-Ok
returns-in-Ok c =
    (value_token (value_of c.in-Ok.value) c.args.bytes.now c.take_value.new.cursor c.in-Ok.ensures.found.0 c.requires (sym c.new-cursor.ensures ∙ c.in-Ok.ensures.found.1), c.in-Ok.ensures.found.0)

pub returns-in-Err : goal.returns-in-Err
unfolding any_value_at
returns-in-Err c = λ rest.
    value_none c.args.bytes.now rest c.requires
    (ap (λ (bytes : List ℕ). result_ok (value_at bytes)) (sym c.new-cursor.ensures) ∙ ap result_ok c.in-Err.ensures.exact.0)
