-- The fields of a head, one of which is taken at a time.
use Rattle.std.specs.Prelude.{◌≡◌, ℕ, ◌+◌, ◌≤◌, List, [], length, Option, Some, None}
use Rattle.reply_stream.specs.ReplyHeads.{head_size}
use Rattle.reply_stream.specs.declared.head_state.HeadState.{HeadState}
use Rattle.reply_stream.specs.declared.head_state.HeadState.TheVariants.{Front, SignatureLength, Signature, CatalogLength, Catalog, Complete, Invalid}

-- how many bytes the next field has, if one comes
abbrev pub field_size : HeadState → Option ℕ
field_size Front = Some 64
field_size (SignatureLength rec) = Some 4
field_size (Signature field) = Some field.size
field_size (CatalogLength signed) = Some 4
field_size (Catalog field) = Some field.size
field_size (Complete found) = None
field_size Invalid = None

-- how many fields may still come
abbrev pub fields_left : HeadState → ℕ
fields_left Front = 5
fields_left (SignatureLength rec) = 4
fields_left (Signature field) = 3
fields_left (CatalogLength signed) = 2
fields_left (Catalog field) = 1
fields_left (Complete found) = 0
fields_left Invalid = 0

-- how many bytes the fields have that were taken
abbrev pub taken_count : HeadState → ℕ
taken_count Front = 0
taken_count (SignatureLength rec) = 64
taken_count (Signature field) = 68
taken_count (CatalogLength signed) = 68 + length signed.signature
taken_count (Catalog field) = 72 + length field.signed.signature
taken_count (Complete found) = head_size found
taken_count Invalid = 0

-- bytes of the next field are no more than it has, and there are none where no field comes
abbrev pub FitField : Option ℕ → List ℕ → Type 0
FitField (Some size) held = length held ≤ size
FitField None held = held ≡ []
