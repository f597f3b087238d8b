-- The bytes of a reply's head, field by field, as far as they came.
use Rattle.std.specs.Prelude.{◌≡◌, ℕ, ◌≤◌, ◌<◌, List, [], ◌∷◌, ◌++◌, length, flat_map, codes}
use Rattle.vo_spec.specs.declared.records.Record.{Record}
use Rattle.vo_spec.specs.Bytes.{block, u32_bytes}
use Rattle.vo_spec.specs.Journals.{max_signature}
use Rattle.vo_spec.specs.Records.{FitsRecord, max_catalog, record_bytes}
use Rattle.reply_stream.specs.declared.head_state.HeadState.{HeadState}
use Rattle.reply_stream.specs.declared.head_state.HeadState.TheVariants.{Front, SignatureLength, Signature, CatalogLength, Catalog, Complete, Invalid}

-- the first word, and the record behind it
abbrev pub front_bytes : Record → List ℕ
front_bytes rec = codes "VOR1" ++ record_bytes rec

-- that, the signature behind its length, and the catalog's bytes behind theirs
abbrev pub head_fields : Record → List ℕ → List ℕ → List (List ℕ)
head_fields rec signature catalog =
    front_bytes rec ∷ u32_bytes (length signature) ∷ signature ∷ u32_bytes (length catalog)
    ∷ catalog ∷ []

-- The bytes are the first fields of a head within its limits, and fewer bytes than the next field
-- has. Only those of the catalog, which is the last field, may be any.
pub record IsHeadFront (bytes : List ℕ) : Type 0 where
  pub rec : Record
  pub signature : List ℕ
  pub catalog : List ℕ
  pub fits : FitsRecord rec
  pub signature_within : length signature ≤ max_signature
  pub catalog_within : length catalog ≤ max_catalog
  pub whole : List (List ℕ)
  pub field : List ℕ
  pub later : List (List ℕ)
  pub part : List ℕ
  pub fields_are : head_fields rec signature catalog ≡ whole ++ field ∷ later
  pub short : length part < length field
  pub bytes_are : bytes ≡ flat_map (λ (f : List ℕ). f) whole ++ part

-- the state took these bytes, which are whole fields
abbrev pub TookFields : HeadState → List ℕ → Type 0
TookFields Front bytes = bytes ≡ []
TookFields (SignatureLength rec) bytes = FitsRecord rec × (bytes ≡ front_bytes rec)
TookFields (Signature field) bytes =
    FitsRecord field.rec × (bytes ≡ front_bytes field.rec ++ u32_bytes field.size)
TookFields (CatalogLength signed) bytes =
    FitsRecord signed.rec × (length signed.signature ≤ max_signature)
    × (bytes ≡ front_bytes signed.rec ++ block signed.signature)
TookFields (Catalog field) bytes =
    FitsRecord field.signed.rec × (length field.signed.signature ≤ max_signature)
    × (bytes ≡ front_bytes field.signed.rec
    ++ (block field.signed.signature ++ u32_bytes field.size))
TookFields (Complete found) bytes = Unit {0}
TookFields Invalid bytes = Unit {0}

-- it took the whole fields among these bytes, and the others are held
pub record IsBehindBytes (state : HeadState) (held bytes : List ℕ) : Type 0 where
  pub taken : List ℕ
  pub took : TookFields state taken
  pub parts : bytes ≡ taken ++ held
