-- What the words say of a key besides its seed.
use Rattle.std.specs.Prelude.{ℕ}
use Rattle.cli_args.specs.declared.request.Height.{Height}
use Rattle.cli_args.specs.declared.request.Height.TheVariants.{Five, Ten}
use Rattle.cli_args.specs.declared.request.Levels.{Levels}
use Rattle.cli_args.specs.declared.request.Levels.TheVariants.{One, Two}
use Rattle.cli_args.specs.declared.request.KeyShape.{KeyShape}

-- the height of a key's trees and the number of its levels
pub record PlainShape : Type 0 where
  pub height : ℕ
  pub levels : ℕ

abbrev pub height_number : Height → ℕ
height_number Five = 5
height_number Ten = 10

abbrev pub levels_number : Levels → ℕ
levels_number One = 1
levels_number Two = 2

abbrev pub plain_shape : KeyShape → PlainShape
plain_shape shape = record {
  height = height_number shape.height;
  levels = levels_number shape.levels;
}
