-- What a list of events makes of a world, one after the other.
use Rattle.std.specs.Prelude.{◌≡◌, List, [], ◌∷◌, length}
use Rattle.vo_world.specs.declared.events.Event.{Event}
use Rattle.vo_world.specs.declared.events.Said.{Said}
use Rattle.vo_world.specs.Steps.{FitsEvent, Steps}
use Rattle.vo_world.specs.WorldModel.{WorldModel}

-- Each event fits the world as it comes, and is a step of it.
abbrev pub Runs : WorldModel → List Event → List Said → WorldModel → Type 0
Runs w [] [] after = w ≡ after
Runs w (event ∷ events) (says ∷ more) after = (mid : WorldModel)
    × FitsEvent (length w.leasts) event × Steps w event says mid × Runs mid events more after
Runs w [] (says ∷ more) after = ⊥
Runs w (event ∷ events) [] after = ⊥
