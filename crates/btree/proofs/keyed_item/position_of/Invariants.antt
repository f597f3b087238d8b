use Rattle.std.proofs.Common.{◌≡◌, ◌+◌, drop, bytes_eq}
use Rattle.std.specs.List.{position_or_len}
use Rattle.btree.proofs.keyed_item.position_of.Given as goal

-- no item so far has the key
abbrev pub invariant-loop-place : goal.invariant-loop-place
invariant-loop-place g l =
    position_or_len (λ item. bytes_eq (g.T.KeyedItem.key item) l.key) l.items
    ≡ l.place + position_or_len (λ item. bytes_eq (g.T.KeyedItem.key item) l.key) (drop l.place l.items)
