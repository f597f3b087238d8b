use Rattle.std.proofs.Common.{◌≡◌, drop}
use Rattle.cli_args.specs.Numbers.{with_digits}
use Rattle.cli_args.proofs.numbers.with_digits.Given as goal

-- what the digits behind give with those so far is what all give
abbrev pub invariant-loop-digit : goal.invariant-loop-digit
invariant-loop-digit l = with_digits l.number (drop l.digit-index l.digits) ≡ with_digits 0 l.digits
