-- The name of a loan that is nobody's.
use Rattle.std.specs.Borrow.{GName}

abbrev pub no_name : GName
no_name = 0
