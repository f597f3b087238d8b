-- Names that rise, table by table.
use Rattle.std.proofs.Common.{◌≡◌, Bool, true, false, List, ◌∷◌, sym, ap, ◌∙◌}
use Rattle.std.specs.Prelude.{◌&&◌}
use Rattle.vo_spec.specs.declared.records.CatalogTable.{CatalogTable}
use Rattle.vo_spec.specs.Values.{key_lt}
use Rattle.vo_spec.specs.Records.{are_rising}
use Rattle.version_record.specs.Reading.{names_of}

-- the first name is below the second, and they rise from there on
pub rising_on : (tables others rest : List CatalogTable) (first second : CatalogTable) → tables ≡ first ∷ others → others ≡ second ∷ rest
    → are_rising (names_of tables) ≡ (key_lt first.name second.name && are_rising (names_of others))
rising_on tables others rest first second e f =
    ap (λ ts. are_rising (names_of ts)) (e ∙ ap (λ ts. first ∷ ts) f)
    ∙ ap (λ ts. key_lt first.name second.name && are_rising (names_of ts)) (sym f)

pub rising_if : (tables others rest : List CatalogTable) (first second : CatalogTable) (lt answer : Bool) → tables ≡ first ∷ others → others ≡ second ∷ rest
    → lt ≡ key_lt first.name second.name → lt ≡ true → answer ≡ are_rising (names_of others) → answer ≡ are_rising (names_of tables)
rising_if tables others rest first second lt answer e f is held a =
    a ∙ ap (λ b. b && are_rising (names_of others)) (sym held ∙ is) ∙ sym (rising_on tables others rest first second e f)

pub rising_not : (tables others rest : List CatalogTable) (first second : CatalogTable) (lt : Bool) → tables ≡ first ∷ others → others ≡ second ∷ rest
    → lt ≡ key_lt first.name second.name → lt ≡ false → lt ≡ are_rising (names_of tables)
rising_not tables others rest first second lt e f is failed =
    failed ∙ ap (λ b. b && are_rising (names_of others)) (sym failed ∙ is) ∙ sym (rising_on tables others rest first second e f)
