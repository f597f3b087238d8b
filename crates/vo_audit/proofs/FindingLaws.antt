-- What is found where a fact fails.
use Rattle.std.proofs.Common.{◌≡◌, ◌≢◌, ℕ, ◌∷◌, List, true, false, map, Option, Some, None, Result, Ok, Err, is_some, inr, refl, sym, ap, ◌∙◌}
use Rattle.std.specs.Prelude.{IfOk}
use Rattle.vo_spec.specs.declared.records.Catalog.{Catalog}
use Rattle.vo_spec.specs.declared.checks.Answer.{Answer}
use Rattle.vo_spec.specs.declared.queries.QueryFault.{QueryFault}
use Rattle.vo_spec.specs.declared.tables.Table.{Table}
use Rattle.vo_spec.specs.Collides.{Collides}
use Rattle.vo_spec.specs.Conditions.{Query}
use Rattle.vo_spec.specs.Results.{binding_fault, result}
use Rattle.vo_spec.specs.Tables.{table_header_of}
use Rattle.vo_spec.specs.Records.{FitsCatalog, catalog_bytes, catalog_digest, table_headers}
use Rattle.vo_spec.specs.Checks.{seen_outcome}
use Rattle.vo_spec.specs.Replies.{Reply}
use Rattle.vo_spec.specs.Honest.{Stored, RepresentTables, catalog_of}
use Rattle.vo_laws.specs.FittingTables.{FitTables}
use Rattle.vo_laws.proofs.CatalogEncoding.{catalog_told}
use Rattle.vo_laws.proofs.TablesByName.{same_table_headers}
use Rattle.vo_laws.proofs.ExactOutcomes.{exact}
use Rattle.tree_collide.specs.Agreements.{HoldsOrCollides}
use Rattle.tree_collide.specs.Preimages.{OfStrings}
use Rattle.vo_audit.specs.Auditing.{CollidesOr, HasPassed, IsPartOf, seen_answer}

pub preimages_collide : (a b : Catalog) (first second : List ℕ) → catalog_digest a ≡ catalog_digest b → first ≡ 5 ∷ catalog_bytes a → second ≡ 5 ∷ catalog_bytes b
    → first ≢ second → Collides first second
unfolding catalog_digest
preimages_collide a b first second same first_is second_is differ = record { differ = differ; agree = rw (first_is, second_is) same }

pub not_found : (found : Option (List ℕ × List ℕ)) (fact : Type 0) (Are : OfStrings) → is_some found ≡ false → CollidesOr found fact Are → fact
not_found None fact Are e finds = finds
not_found (Some pair) fact Are e finds = absurd (cc)

-- what is found of one tree is found of all
pub found_of_all : (found : Option (List ℕ × List ℕ)) (fact all : Type 0) (Are Others : OfStrings) → is_some found ≡ true → HoldsOrCollides found fact Are
    → ((x y : List ℕ) → Are x y → Others x y) → CollidesOr found all Others
found_of_all None fact all Are Others e holds on = absurd (cc)
found_of_all (Some pair) fact all Are Others e holds on = (holds.1, on pair.0 pair.1 holds.2)

pub none_found : (found : Option (List ℕ × List ℕ)) (fact : Type 0) (Are : OfStrings) → is_some found ≡ false → HoldsOrCollides found fact Are → fact
none_found None fact Are e holds = holds
none_found (Some pair) fact Are e holds = absurd (cc)

-- and of what is more
pub found_of_more : (found : Option (List ℕ × List ℕ)) (fact all : Type 0) (Are Others : OfStrings) → is_some found ≡ true → CollidesOr found fact Are
    → ((x y : List ℕ) → Are x y → Others x y) → CollidesOr found all Others
found_of_more None fact all Are Others e finds on = absurd (cc)
found_of_more (Some pair) fact all Are Others e finds on = (finds.0, on pair.0 pair.1 finds.1)

pub or_result : {E : Type 0} (given : Result (Option (List ℕ × List ℕ)) E) (fact all : Type 0) (Are Others : OfStrings) → IfOk given (λ found. CollidesOr found fact Are) → (fact → all)
    → ((x y : List ℕ) → Are x y → Others x y) → IfOk given (λ found. CollidesOr found all Others)
or_result (Ok None) fact all Are Others finds gives on = gives finds
or_result (Ok (Some pair)) fact all Are Others finds gives on = (finds.0, on pair.0 pair.1 finds.1)
or_result (Err fault) fact all Are Others finds gives on = tt

pub same_catalog : (a b kept : Catalog) (first second : List ℕ) → FitsCatalog a → FitsCatalog kept → kept ≡ b → first ≡ 5 ∷ catalog_bytes a → second ≡ 5 ∷ catalog_bytes kept
    → first ≡ second → a ≡ b
same_catalog a b kept first second a_fits kept_fits kept_is first_is second_is same =
    let bytes : catalog_bytes a ≡ catalog_bytes kept = cc in catalog_told a kept a_fits kept_fits bytes ∙ kept_is

-- a query that does not bind shows its fault, whatever trees there are
same_fault : (q : Query) (r : Reply) (stored : List Stored) (tables : List Table) (fault : QueryFault) → RepresentTables stored tables → r.catalog ≡ catalog_of stored
    → binding_fault (table_headers r.catalog) q ≡ Some fault → seen_outcome q r.catalog r.trees ≡ result q tables
unfolding seen_outcome result
same_fault q r stored tables fault stand catalog is =
    let same : table_headers r.catalog ≡ map table_header_of tables = ap table_headers catalog ∙ same_table_headers stored tables stand in
    let there : binding_fault (map table_header_of tables) q ≡ Some fault = ap (λ hs. binding_fault hs q) (sym same) ∙ is in
    rw (is, there) refl

-- a reply that shows parts of these tables answers with the query's result
pub shown_is_result : (q : Query) (r : Reply) (answer : Answer) (stored : List Stored) (tables : List Table) → RepresentTables stored tables → FitTables tables
    → HasPassed q r → answer ≡ seen_answer q r → IsPartOf q r stored → answer.outcome ≡ result q tables
shown_is_result q r answer stored tables stand fit passed answer_is part = ap (λ (a : Answer). a.outcome) answer_is ∙ step (binding_fault (table_headers r.catalog) q) refl
  where
    step : (o : Option QueryFault) → binding_fault (table_headers r.catalog) q ≡ o → seen_outcome q r.catalog r.trees ≡ result q tables
    step None binds = exact q r stored tables stand (inr fit) (passed.numbers binds) part.catalog part.trees passed.complete
    step (Some fault) is = same_fault q r stored tables fault stand part.catalog is
