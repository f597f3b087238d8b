use Rattle.std.proofs.Common.{ℕ, List, length, ap, arith}
use Rattle.std.specs.Int.{w64, cast_unsigned}
use Rattle.vo_spec.specs.declared.values.Value.{Value}
use Rattle.vo_spec.specs.Values.{value_bytes}
use Rattle.tree_stream.proofs.HeldLaws.{length-u64, length-string}
use Rattle.tree_stream.proofs.held.value_length.Goals as goal

pub returns-in-Int : goal.returns-in-Int
returns-in-Int c = omega (arith, ap (λ (v : Value). length (value_bytes v)) c.in-Int.is, length-u64 (cast_unsigned w64 c.in-Int.field-0))

pub returns-in-Text : goal.returns-in-Text
returns-in-Text c = omega (arith, ap (λ (v : Value). length (value_bytes v)) c.in-Text.is, length-string c.in-Text.text, ap (λ (t : List ℕ). length t) c.as_bytes.ensures)
