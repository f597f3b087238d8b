-- Needs that are lent are seen as the needs.
use Rattle.std.specs.Borrow.{Bor}
use Rattle.vo_spec.specs.declared.needs.Need.{Need}

abbrev pub lent_need : Bor Need → Need
lent_need need = need.now
