use Rattle.std.proofs.Common.{sym, subst}
use Rattle.std.proofs.lemmas.Result.{IfOk-weaker}
use Rattle.stored_tables.specs.Representation.{IsStanding}
use Rattle.stored_tables.proofs.hashing.hash_tables.Goals as goal

pub returns-clause-standing : goal.returns-clause-standing
returns-clause-standing c = IfOk-weaker c.hash_each.result _ _ (λ same e. subst IsStanding (sym e) c.requires) c.hash_each.ensures
