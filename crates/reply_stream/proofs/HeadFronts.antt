-- The fields of a head that came, one after another.
use Rattle.std.proofs.Common.{◌≡◌, ℕ, ◌≤◌, ◌<◌, List, [], ◌∷◌, ◌++◌, length, Option, Some, None, Result, Ok, Err, refl, sym, ap, subst, ◌∙◌, append_assoc, append-nil, arith, ◌⊎◌, inl, inr}
use Rattle.std.specs.Prelude.{IfOk, IsErr, IsOk, codes, replicate}
use Rattle.std.proofs.lemmas.Bool.{false≢true}
use Rattle.std.specs.Borrow.{Bor}
use Rattle.std.specs.declared.alloc.AllocError.{AllocError}
use Rattle.std.proofs.lemmas.List.{length-replicate}
use Rattle.std.proofs.lemmas.Nat.{be_bytes_4}
use Rattle.vo_spec.specs.declared.records.Magic.TheVariants.{Vrec}
use Rattle.vo_spec.specs.declared.records.Record.{Record}
use Rattle.vo_spec.specs.Bytes.{IsBytes, block, u32_bytes, u32_of, u64_bytes}
use Rattle.vo_spec.specs.Journals.{max_signature}
use Rattle.vo_spec.specs.Records.{FitsRecord, record_bytes}
use Rattle.row_bytes.specs.Fields.{whole, word_at}
use Rattle.batch_format.proofs.ReaderLaws.{bound}
use Rattle.version_record.specs.Reading.{record_at}
use Rattle.version_record.proofs.RecordLaws.{records_read, whole_is, words_read}
use Rattle.reply_stream.specs.declared.head_state.HeadState.{HeadState}
use Rattle.reply_stream.specs.declared.head_state.HeadState.TheVariants.{Front, SignatureLength, Signature, CatalogLength, Catalog, Complete, Invalid}
use Rattle.reply_stream.specs.declared.head_state.SignatureField.{SignatureField}
use Rattle.reply_stream.specs.declared.head_state.SignedRecord.{SignedRecord}
use Rattle.reply_stream.specs.declared.head_stream.HeadStream.{HeadStream}
use Rattle.reply_stream.specs.Heads.{front_at}
use Rattle.reply_stream.specs.HeadFields.{field_size}
use Rattle.reply_stream.specs.HeadFronts.{front_bytes, IsHeadFront, TookFields, IsBehindBytes}
use Rattle.reply_stream.proofs.HeadLaws.{some_size}

u32_same : (bytes : List ℕ) → length bytes ≡ 4 → IsBytes bytes → u32_bytes (u32_of bytes) ≡ bytes
unfolding u32_bytes u32_of
u32_same bytes len fits = be_bytes_4 bytes _ len fits refl

pub u32_size : (n : ℕ) → length (u32_bytes n) ≡ 4
unfolding u32_bytes
u32_size n = refl

-- Fields that are taken.

pub front_took : (token : List ℕ) (rec : Record) → IsBytes token → Some rec ≡ whole (front_at token) → FitsRecord rec × (token ≡ front_bytes rec)
unfolding front_at
front_took token rec fits e =
    let y : Record × List ℕ = (rec, []) in
    let m = bound (word_at (codes "VOR1") token) (λ magic. record_at magic.1) y (whole_is (front_at token) rec (sym e)) in
    let w = (words_read (codes "VOR1")).found token m.0.0 m.0.1 fits m.1 in
    let r = records_read.found m.0.1 rec [] w.0.behind m.2 in (
      r.1,
      w.0.parts
          ∙ ap (λ (t : List ℕ). t ++ m.0.1) w.1
          ∙ ap (λ (t : List ℕ). codes "VOR1" ++ t) (r.0.parts ∙ append-nil (record_bytes rec)),
    )

length_is : (token : List ℕ) (size : ℕ) → length token ≡ 4 → IsBytes token → size ≡ u32_of token → token ≡ u32_bytes size
length_is token size len fits is = sym (u32_same token len fits) ∙ ap u32_bytes (sym is)

pub signature_length_took : (rec : Record) (size : ℕ) (token taken : List ℕ) → length token ≡ 4 → IsBytes token → size ≡ u32_of token → TookFields (SignatureLength rec) taken
    → FitsRecord rec × (taken ++ token ≡ front_bytes rec ++ u32_bytes size)
signature_length_took rec size token taken len fits is took = (
  took.0,
  ap (λ (t : List ℕ). t ++ token) took.1 ∙ ap (λ (t : List ℕ). front_bytes rec ++ t) (length_is token size len fits is),
)

pub signature_took : (field : SignatureField) (signed : SignedRecord) (token taken : List ℕ) → length token ≡ field.size → field.size ≤ max_signature → signed.rec ≡ field.rec → signed.signature ≡ token
    → TookFields (Signature field) taken → TookFields (CatalogLength signed) (taken ++ token)
signature_took field signed token taken len within same is took = (
  subst FitsRecord (sym same) took.0,
  omega (arith, ap (λ (t : List ℕ). length t) is, len, within),
  ap (λ (t : List ℕ). t ++ token) took.1
      ∙ append_assoc (front_bytes field.rec) (u32_bytes field.size) token
      ∙ ap (λ (n : ℕ). front_bytes field.rec ++ (u32_bytes n ++ token)) (sym len)
      ∙ ap (λ (t : List ℕ). front_bytes field.rec ++ block t) (sym is)
      ∙ ap (λ (r : Record). front_bytes r ++ block signed.signature) (sym same),
)

pub catalog_length_took : (signed : SignedRecord) (size : ℕ) (token taken : List ℕ) → length token ≡ 4 → IsBytes token → size ≡ u32_of token → TookFields (CatalogLength signed) taken
    → FitsRecord signed.rec × (length signed.signature ≤ max_signature) × (taken ++ token ≡ front_bytes signed.rec ++ (block signed.signature ++ u32_bytes size))
catalog_length_took signed size token taken len fits is took = (
  took.0,
  took.1,
  ap (λ (t : List ℕ). t ++ token) took.2
      ∙ append_assoc (front_bytes signed.rec) (block signed.signature) token
      ∙ ap (λ (t : List ℕ). front_bytes signed.rec ++ (block signed.signature ++ t)) (length_is token size len fits is),
)

-- No field comes any more.

pub settled_took : (state : HeadState) (taken : List ℕ) → field_size state ≡ None → TookFields state taken
settled_took Front taken none = absurd cc
settled_took (SignatureLength rec) taken none = absurd cc
settled_took (Signature field) taken none = absurd cc
settled_took (CatalogLength signed) taken none = absurd cc
settled_took (Catalog field) taken none = absurd cc
settled_took (Complete found) taken none = tt
settled_took Invalid taken none = tt

pub settled_behind : (old state : HeadState) (held kept bytes : List ℕ) → field_size state ≡ None → kept ≡ [] → IsBehindBytes old held bytes → (piece : List ℕ) → IsBehindBytes state kept (bytes ++ piece)
settled_behind old state held kept bytes none no_held behind piece = record {
  taken = bytes ++ piece;
  took = settled_took state (bytes ++ piece) none;
  parts = sym (append-nil (bytes ++ piece)) ∙ ap (λ (t : List ℕ). (bytes ++ piece) ++ t) (sym no_held);
}

-- Pieces.

pub held_behind : (state : HeadState) (held piece all bytes : List ℕ) → all ≡ held ++ piece → IsBehindBytes state held bytes → IsBehindBytes state all (bytes ++ piece)
held_behind state held piece all bytes is behind = record {
  taken = behind.taken;
  took = behind.took;
  parts = ap (λ (t : List ℕ). t ++ piece) behind.parts ∙ append_assoc behind.taken held piece ∙ ap (λ (t : List ℕ). behind.taken ++ t) (sym is);
}

pub went_behind : (r : Result (Bor (List ℕ)) AllocError) (old mid new : HeadState) (held front behind piece none kept : List ℕ) → none ≡ [] → piece ≡ front ++ behind
    → ((taken : List ℕ) → TookFields old taken → TookFields mid (taken ++ (held ++ front)))
    → IfOk r (λ left. (bytes : List ℕ) → IsBehindBytes mid none bytes → IsBehindBytes new kept (bytes ++ behind))
    → IfOk r (λ left. (bytes : List ℕ) → IsBehindBytes old held bytes → IsBehindBytes new kept (bytes ++ piece))
went_behind (Err e) old mid new held front behind piece none kept is parts taken on = tt
went_behind (Ok left) old mid new held front behind piece none kept is parts taken on = λ bytes b.
    let all : List ℕ = b.taken ++ (held ++ front) in
    let at_mid : IsBehindBytes mid none all =
    record { taken = all; took = taken b.taken b.took; parts = sym (append-nil all) ∙ ap (λ (t : List ℕ). all ++ t) (sym is) } in
    let P : List ℕ → Type 0 = λ t. IsBehindBytes new kept t in
    let same : all ++ behind ≡ bytes ++ piece =
    append_assoc b.taken (held ++ front) behind
    ∙ ap (λ (t : List ℕ). b.taken ++ t) (append_assoc held front behind ∙ ap (λ (t : List ℕ). held ++ t) (sym parts))
    ∙ sym (append_assoc b.taken held piece)
    ∙ ap (λ (t : List ℕ). t ++ piece) (sym b.parts) in
    subst P same (on all at_mid)

-- What came is the front of a head, where a field is to come.

abbrev zeros : ℕ → List ℕ
zeros n = replicate n 0

abbrev no_record : Record
no_record = record {
  magic = Vrec;
  id = 0 ∷ 0 ∷ 0 ∷ 0 ∷ 0 ∷ 0 ∷ 0 ∷ 0 ∷ 0 ∷ 0 ∷ 0 ∷ 0 ∷ 0 ∷ 0 ∷ 0 ∷ 0 ∷ [];
  version = 0;
  catalog = 0 ∷ 0 ∷ 0 ∷ 0 ∷ 0 ∷ 0 ∷ 0 ∷ 0 ∷ 0 ∷ 0 ∷ 0 ∷ 0 ∷ 0 ∷ 0 ∷ 0 ∷ 0 ∷ 0 ∷ 0 ∷ 0 ∷ 0 ∷ 0 ∷ 0 ∷ 0 ∷ 0 ∷ 0 ∷ 0 ∷ 0 ∷ 0 ∷ 0 ∷ 0 ∷ 0 ∷ 0 ∷ [];
}

no_record_fits : FitsRecord no_record
no_record_fits = record { id = refl; version = omega arith; catalog = refl }

front_size : length (front_bytes no_record) ≡ 64
unfolding record_bytes u64_bytes
front_size = refl

pub is_front : (state : HeadState) (held bytes : List ℕ) (size : ℕ) → field_size state ≡ Some size → length held < size → IsBehindBytes state held bytes → IsHeadFront bytes
is_front Front held bytes size is few b = record {
  rec = no_record;
  signature = [];
  catalog = [];
  fits = no_record_fits;
  signature_within = omega arith;
  catalog_within = omega arith;
  whole = [];
  field = front_bytes no_record;
  later = u32_bytes 0 ∷ [] ∷ u32_bytes 0 ∷ [] ∷ [];
  part = held;
  fields_are = refl;
  short = omega (arith, few, some_size 64 size is, front_size);
  bytes_are = b.parts ∙ ap (λ (t : List ℕ). t ++ held) b.took;
}
is_front (SignatureLength rec) held bytes size is few b = record {
  rec = rec;
  signature = [];
  catalog = [];
  fits = b.took.0;
  signature_within = omega arith;
  catalog_within = omega arith;
  whole = front_bytes rec ∷ [];
  field = u32_bytes 0;
  later = [] ∷ u32_bytes 0 ∷ [] ∷ [];
  part = held;
  fields_are = refl;
  short = omega (arith, few, some_size 4 size is, u32_size 0);
  bytes_are = b.parts ∙ ap (λ (t : List ℕ). t ++ held) (b.took.1 ∙ sym (append-nil (front_bytes rec)));
}
is_front (Signature field) held bytes size is few b =
    let n : length (zeros field.size) ≡ field.size = length-replicate field.size 0 in
    record {
      rec = field.rec;
      signature = zeros field.size;
      catalog = [];
      fits = b.took.0;
      signature_within = omega (arith, n, field.within);
      catalog_within = omega arith;
      whole = front_bytes field.rec ∷ u32_bytes (length (zeros field.size)) ∷ [];
      field = zeros field.size;
      later = u32_bytes 0 ∷ [] ∷ [];
      part = held;
      fields_are = refl;
      short = omega (arith, few, some_size field.size size is, n);
      bytes_are =
          b.parts
          ∙ ap (λ (t : List ℕ). t ++ held)
          (b.took.1
          ∙ ap (λ (k : ℕ). front_bytes field.rec ++ u32_bytes k) (sym n)
          ∙ ap (λ (t : List ℕ). front_bytes field.rec ++ t) (sym (append-nil (u32_bytes (length (zeros field.size))))));
    }
is_front (CatalogLength signed) held bytes size is few b = record {
  rec = signed.rec;
  signature = signed.signature;
  catalog = [];
  fits = b.took.0;
  signature_within = b.took.1;
  catalog_within = omega arith;
  whole = front_bytes signed.rec ∷ u32_bytes (length signed.signature) ∷ signed.signature ∷ [];
  field = u32_bytes 0;
  later = [] ∷ [];
  part = held;
  fields_are = refl;
  short = omega (arith, few, some_size 4 size is, u32_size 0);
  bytes_are =
      b.parts
      ∙ ap (λ (t : List ℕ). t ++ held)
      (b.took.2 ∙ ap (λ (t : List ℕ). front_bytes signed.rec ++ (u32_bytes (length signed.signature) ++ t)) (sym (append-nil signed.signature)));
}
is_front (Catalog field) held bytes size is few b =
    let n : length (zeros field.size) ≡ field.size = length-replicate field.size 0 in
    let signature : List ℕ = field.signed.signature in
    record {
      rec = field.signed.rec;
      signature = signature;
      catalog = zeros field.size;
      fits = b.took.0;
      signature_within = b.took.1;
      catalog_within = omega (arith, n, field.within);
      whole = front_bytes field.signed.rec ∷ u32_bytes (length signature) ∷ signature ∷ u32_bytes (length (zeros field.size)) ∷ [];
      field = zeros field.size;
      later = [];
      part = held;
      fields_are = refl;
      short = omega (arith, few, some_size field.size size is, n);
      bytes_are =
          b.parts
          ∙ ap (λ (t : List ℕ). t ++ held)
          (b.took.2
          ∙ ap (λ (t : List ℕ). front_bytes field.signed.rec ++ t)
          (append_assoc (u32_bytes (length signature)) signature (u32_bytes field.size)
          ∙ ap (λ (t : List ℕ). u32_bytes (length signature) ++ (signature ++ t))
          (ap u32_bytes (sym n) ∙ sym (append-nil (u32_bytes (length (zeros field.size)))))));
    }
is_front (Complete found) held bytes size is few b = absurd cc
is_front Invalid held bytes size is few b = absurd cc

size_or_none : (state : HeadState) → ((size : ℕ) × (field_size state ≡ Some size)) ⊎ (field_size state ≡ None)
size_or_none state = by (field_size state) refl
  where
    by : (o : Option ℕ) → field_size state ≡ o → ((size : ℕ) × (field_size state ≡ Some size)) ⊎ (field_size state ≡ None)
    by (Some size) is = inl (size, is)
    by None is = inr is

-- unless none is
pub front_or_settled : (stream : HeadStream) (bytes : List ℕ) → IsBehindBytes stream.state stream.held.items bytes → IsHeadFront bytes ⊎ (field_size stream.state ≡ None)
front_or_settled stream bytes behind =
    elim (size_or_none stream.state) [
      | inl some ↦ inl (is_front stream.state stream.held.items bytes some.0 some.1 (stream.short some.0 some.1) behind)
      | inr none ↦ inr none
    ]

pub front_before : {T : Type 0} (r : Result T AllocError) (stream : HeadStream) (bytes : List ℕ) → IsBehindBytes stream.state stream.held.items bytes → (field_size stream.state ≡ None → IsOk r) → IsErr r → IsHeadFront bytes
front_before (Ok done) stream bytes behind memory err = absurd (false≢true err)
front_before (Err e) stream bytes behind memory err =
    elim (front_or_settled stream bytes behind) [
      | inl front ↦ front
      | inr none ↦ absurd (false≢true (memory none))
    ]
