-- Scripts that stop as their link fails.
use Rattle.std.proofs.Common.{◌≡◌, List, [], ◌∷◌, ◌++◌, refl, sym, ap, inl, inr}
use Rattle.outside.specs.ConnectionModel.{ConnectionModel, take_from, send_on}
use Rattle.link_frames.specs.Scripts.{Event, Puts, Takes, Does, wire_next, others, IsDone, Stops}
use Rattle.owner_session.specs.Stopping.{StopsOnLink}

-- it is one way to stop
pub on_link_stops : {X : Type 0} (events : List (Event X)) (done : List X) (before after : ConnectionModel)
    → StopsOnLink events done before after → Stops events done before after
on_link_stops [] done before after s = absurd s
on_link_stops (Puts frame ∷ events) done before after (inl h) = inl h
on_link_stops (Takes count ∷ events) done before after (inl h) = inl (h.0, (h.1.0, h.1.1, h.1.3))
on_link_stops (Does x ∷ events) done before after (inl h) = absurd h.1
on_link_stops (event ∷ events) done before after (inr h) =
    inr (h.0, h.1, on_link_stops events h.0 (wire_next event before) after h.2)

-- what stops after something was done stops in both together
pub on_link-append : {X : Type 0} (es fs : List (Event X)) (xs ys : List X) (before mid after : ConnectionModel)
    → IsDone es xs before mid → StopsOnLink fs ys mid after → StopsOnLink (es ++ fs) (xs ++ ys) before after
on_link-append [] fs xs ys before mid after d s =
    let none : xs ≡ [] = d.others_are in
    let same : before ≡ mid = sym d.wire_is in
    rw (none, same) s
on_link-append (Puts frame ∷ es) fs xs ys before mid after d s =
    let rest : IsDone es xs (send_on frame before) mid = record { others_are = d.others_are; wire_is = d.wire_is } in
    inr (xs ++ ys, refl, on_link-append es fs xs ys (send_on frame before) mid after rest s)
on_link-append (Takes count ∷ es) fs xs ys before mid after d s =
    let rest : IsDone es xs (take_from count before) mid = record { others_are = d.others_are; wire_is = d.wire_is } in
    inr (xs ++ ys, refl, on_link-append es fs xs ys (take_from count before) mid after rest s)
on_link-append (Does x ∷ es) fs xs ys before mid after d s =
    let rest : IsDone es (others es) before mid = record { others_are = refl; wire_is = d.wire_is } in
    inr (others es ++ ys, ap (λ zs. zs ++ ys) d.others_are, on_link-append es fs (others es) ys before mid after rest s)
