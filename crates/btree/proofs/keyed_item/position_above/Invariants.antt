use Rattle.std.proofs.Common.{◌≡◌, ◌+◌, drop}
use Rattle.std.specs.List.{position_or_len}
use Rattle.vo_spec.specs.Values.{key_lt}
use Rattle.btree.proofs.keyed_item.position_above.Given as goal

-- no item so far is above the key
abbrev pub invariant-loop-place : goal.invariant-loop-place
invariant-loop-place g l =
    position_or_len (λ item. key_lt l.key (g.T.KeyedItem.key item)) l.items
    ≡ l.place + position_or_len (λ item. key_lt l.key (g.T.KeyedItem.key item)) (drop l.place l.items)
