-- A hasher of catalogs, table by table.
use Rattle.std.proofs.Common.{◌≡◌, ℕ, Bool, true, false, List, [], ◌∷◌, ◌++◌, refl, sym, ap, subst, ◌∙◌, append_assoc, append-nil}
use Rattle.std.specs.Prelude.{◌||◌, if◌then◌else◌}
use Rattle.std.specs.List.{flat_map, list_any}
use Rattle.std.proofs.lemmas.List.Folds.{list_any-append}
use Rattle.vo_spec.specs.declared.records.CatalogTable.{CatalogTable}
use Rattle.vo_spec.specs.declared.records.Magic.{Magic}
use Rattle.vo_spec.specs.declared.records.Magic.TheVariants.{Vrec, Vrc2}
use Rattle.vo_spec.specs.Bytes.{u16_bytes}
use Rattle.vo_spec.specs.Records.{catalog_table_bytes, has_nullable, magic_of}
use Rattle.tagged_hash.specs.Holding.{HoldsBytes}
use Rattle.version_record.specs.declared.catalog_hasher.CatalogHasher.{CatalogHasher}
use Rattle.version_record.specs.Hashing.{HoldsTables, catalog}

pub holds_none : (hasher : CatalogHasher) (n : ℕ) → HoldsBytes hasher.hasher (5 ∷ u16_bytes n) → hasher.magic ≡ Vrec → HoldsTables hasher n []
holds_none hasher n holds magic = record {
  bytes = subst (HoldsBytes hasher.hasher) (sym (append-nil (5 ∷ u16_bytes n))) holds;
  magic = magic;
}

-- the magic with one table more
chosen_by : (before one : Bool) → (if before || (one || false) then Vrc2 else Vrec) ≡ (if one then Vrc2 else if before then Vrc2 else Vrec)
chosen_by true true = refl
chosen_by true false = refl
chosen_by false true = refl
chosen_by false false = refl

magic_more : (tables : List CatalogTable) (t : CatalogTable) → magic_of (catalog (tables ++ t ∷ [])) ≡ (if has_nullable t then Vrc2 else magic_of (catalog tables))
magic_more tables t =
    ap (λ (b : Bool). if b then Vrc2 else Vrec) (list_any-append has_nullable tables (t ∷ []))
    ∙ chosen_by (list_any has_nullable tables) (has_nullable t)

flat_more : (tables : List CatalogTable) (t : CatalogTable) → flat_map catalog_table_bytes (tables ++ t ∷ []) ≡ flat_map catalog_table_bytes tables ++ catalog_table_bytes t
flat_more [] t = append-nil (catalog_table_bytes t)
flat_more (first ∷ tables) t =
    ap (λ (bytes : List ℕ). catalog_table_bytes first ++ bytes) (flat_more tables t)
    ∙ sym (append_assoc (catalog_table_bytes first) (flat_map catalog_table_bytes tables) (catalog_table_bytes t))

pub holds_more : (old new : CatalogHasher) (n : ℕ) (tables : List CatalogTable) (t : CatalogTable) → HoldsTables old n tables
    → ((bytes : List ℕ) → HoldsBytes old.hasher bytes → HoldsBytes new.hasher (bytes ++ catalog_table_bytes t))
    → new.magic ≡ (if has_nullable t then Vrc2 else old.magic) → HoldsTables new n (tables ++ t ∷ [])
holds_more old new n tables t holds writes magic =
    let front : List ℕ = 5 ∷ u16_bytes n in
    let joined : (front ++ flat_map catalog_table_bytes tables) ++ catalog_table_bytes t ≡ front ++ flat_map catalog_table_bytes (tables ++ t ∷ []) =
    append_assoc front (flat_map catalog_table_bytes tables) (catalog_table_bytes t) ∙ ap (λ (bytes : List ℕ). front ++ bytes) (sym (flat_more tables t)) in
    record {
      bytes = subst (HoldsBytes new.hasher) joined (writes (front ++ flat_map catalog_table_bytes tables) holds.bytes);
      magic = magic ∙ ap (λ (m : Magic). if has_nullable t then Vrc2 else m) holds.magic ∙ sym (magic_more tables t);
    }
