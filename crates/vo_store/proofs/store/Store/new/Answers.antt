use Rattle.std.proofs.Common.{[]}
use Rattle.vo_store.proofs.HonestLaws.{new_honest}
use Rattle.vo_store.proofs.store.Store.new.Goals as goal

pub invariant_of-result : goal.invariant_of-result
invariant_of-result c = rw (c.new.ensures.items, c.new-2.ensures, c.new-3.ensures) ([], new_honest c.args.key)
