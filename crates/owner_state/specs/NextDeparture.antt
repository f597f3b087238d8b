-- One entry more beside the honest trees.
use Rattle.std.specs.Prelude.{◌≡◌, ◌≢◌, ℕ, List, Option, Some, None}
use Rattle.vo_spec.specs.declared.records.Catalog.{Catalog}
use Rattle.vo_spec.specs.Honest.{Stored, catalog_of}
use Rattle.owner_state.specs.declared.departures.Departure.{Departure}

-- Once departed, it stays so. The entry of this number departs where the catalog behind it isn't
-- that of the trees after its batch; these are those before.
abbrev pub DepartsNext : Option Departure → ℕ → List Stored → Catalog → List Stored
    → Option Departure → Type 0
DepartsNext (Some d) index stored catalog after now = now ≡ Some d
DepartsNext None index stored catalog after None = catalog ≡ catalog_of after
DepartsNext None index stored catalog after (Some d) =
    (d.index ≡ index) × (d.tables ≡ stored) × (catalog ≢ catalog_of after)
