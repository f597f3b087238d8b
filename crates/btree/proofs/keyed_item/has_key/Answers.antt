use Rattle.std.proofs.Common.{bytes_eq, length, nat_lt, sym, ap, ◌∙◌}
use Rattle.btree.proofs.Positions.{any_placed}
use Rattle.btree.proofs.keyed_item.has_key.Goals as goal

pub returns : goal.returns
returns g c =
    ap (λ n. nat_lt n (length c.args.items.now)) c.position_of.ensures.place
    ∙ sym (any_placed (λ item. bytes_eq (g.T.KeyedItem.key item) c.args.key.now) c.args.items.now)
