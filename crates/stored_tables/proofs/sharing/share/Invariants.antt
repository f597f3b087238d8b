use Rattle.std.proofs.Common.{◌≡◌, ◌++◌, map, take}
use Rattle.stored_tables.proofs.sharing.share.Given as goal

abbrev pub invariant-loop-item : goal.invariant-loop-item
invariant-loop-item g l = map (λ x. x.value) l.out.items ≡ map (λ x. x.value) l.fn.out.items ++ map (λ x. x.value) (take l.item-index l.items)
