use Rattle.std.proofs.Common.{◌≡◌, [], ◌∷◌, ◌++◌, take, drop, ap, ◌∙◌, append_assoc}
use Rattle.std.proofs.lemmas.Result.{IfOk-weaker}
use Rattle.btree.proofs.lists.with_item.Goals as goal

pub returns : goal.returns
returns g c =
    let before = take c.args.from c.args.items.now in
    let after = drop c.args.to c.args.items.now in
    IfOk-weaker c.replace_range.result _ (λ new. new.items ≡ before ++ c.args.item ∷ after)
    (λ new h. h ∙ ap (λ l. before ++ l ++ after) c.in_ok-list_of_one.ensures ∙ append_assoc before (c.args.item ∷ []) after) c.replace_range.ensures
