-- A fold over what is left of a list, one step on and at the end.
use Rattle.std.proofs.Common.{◌≡◌, ℕ, ◌+◌, ◌<◌, List, length, get_or, drop, map}
use Rattle.std.specs.Prelude.{fold}
use Rattle.std.proofs.lemmas.List.{drop_more}

pub one_more : {A X Y : Type 0} (step : A → Y → A) (view : X → Y) (items : List X) (i : ℕ) (d : X) (old new whole : A)
    → i < length items → new ≡ step old (view (get_or items i d)) → fold step old (map view (drop i items)) ≡ whole
    → fold step new (map view (drop (i + 1) items)) ≡ whole
one_more step view items i d old new whole below stepped left = rw stepped (rw (drop_more items i d below) at left)
