-- Scripts that are put together.
use Rattle.std.proofs.Common.{◌≡◌, List, [], ◌∷◌, ◌++◌, refl, sym, ap, ◌∙◌, inr, append_assoc}
use Rattle.outside.specs.ConnectionModel.{ConnectionModel, take_from, send_on}
use Rattle.link_frames.specs.Scripts.{Event, Puts, Takes, Does, Script, behind, wire_next, wire_after, others, IsDone, Stops}

others-append : {X : Type 0} (es fs : List (Event X)) → others (es ++ fs) ≡ others es ++ others fs
others-append [] fs = refl
others-append (Puts frame ∷ es) fs = others-append es fs
others-append (Takes count ∷ es) fs = others-append es fs
others-append (Does x ∷ es) fs = ap (λ xs. x ∷ xs) (others-append es fs)

wire_after-append : {X : Type 0} (es fs : List (Event X)) (w : ConnectionModel)
    → wire_after (es ++ fs) w ≡ wire_after fs (wire_after es w)
wire_after-append [] fs w = refl
wire_after-append (e ∷ es) fs w = wire_after-append es fs (wire_next e w)

pub behind-behind : {X A : Type 0} (es fs : List (Event X)) (s : Script X A)
    → behind es (behind fs s) ≡ behind (es ++ fs) s
behind-behind {X} {A} es fs s =
    let with_events : List (Event X) → Script X A = λ gs. record s { events = gs } in
    ap with_events (sym (append_assoc es fs s.events))

-- what is done, and then done besides, is done at once
pub done-append : {X : Type 0} (es fs : List (Event X)) (xs ys : List X) (before mid after : ConnectionModel)
    → IsDone es xs before mid → IsDone fs ys mid after → IsDone (es ++ fs) (xs ++ ys) before after
done-append es fs xs ys before mid after d l = record {
  others_are = rw (d.others_are, l.others_are) (sym (others-append es fs));
  wire_is = l.wire_is ∙ ap (wire_after fs) d.wire_is ∙ sym (wire_after-append es fs before);
}

-- what stops after something was done stops in both together
pub stops-append : {X : Type 0} (es fs : List (Event X)) (xs ys : List X) (before mid after : ConnectionModel)
    → IsDone es xs before mid → Stops fs ys mid after → Stops (es ++ fs) (xs ++ ys) before after
stops-append [] fs xs ys before mid after d s =
    let none : xs ≡ [] = d.others_are in
    let same : before ≡ mid = sym d.wire_is in
    rw (none, same) s
stops-append (Puts frame ∷ es) fs xs ys before mid after d s =
    let rest : IsDone es xs (send_on frame before) mid = record { others_are = d.others_are; wire_is = d.wire_is } in
    inr (xs ++ ys, refl, stops-append es fs xs ys (send_on frame before) mid after rest s)
stops-append (Takes count ∷ es) fs xs ys before mid after d s =
    let rest : IsDone es xs (take_from count before) mid = record { others_are = d.others_are; wire_is = d.wire_is } in
    inr (xs ++ ys, refl, stops-append es fs xs ys (take_from count before) mid after rest s)
stops-append (Does x ∷ es) fs xs ys before mid after d s =
    let rest : IsDone es (others es) before mid = record { others_are = refl; wire_is = d.wire_is } in
    inr (others es ++ ys, ap (λ zs. zs ++ ys) d.others_are, stops-append es fs (others es) ys before mid after rest s)

-- a connection that stands stands after any events
pub stands-after : {X : Type 0} (es : List (Event X)) (w : ConnectionModel) → (wire_after es w).stands ≡ w.stands
stands-after [] w = refl
stands-after (Puts frame ∷ es) w = stands-after es (send_on frame w)
stands-after (Takes count ∷ es) w = stands-after es (take_from count w)
stands-after (Does x ∷ es) w = stands-after es w
