-- The fields of a head, one after another: what comes of a state and a field in front.
use Rattle.std.proofs.Common.{◌≡◌, ℕ, ◌<◌, ◌≤◌, Bool, true, false, leb, ltb, List, ◌++◌, length, take, Option, Some, None, Result, Ok, Err, refl, sym, ap, ◌∙◌, arith, inl, inr}
use Rattle.std.specs.Prelude.{IfOk}
use Rattle.std.specs.declared.alloc.AllocError.{AllocError}
use Rattle.std.proofs.lemmas.Bool.{cases_Bool, ltb-false, le-ltb, lt-ltb, le-leb, lt-leb}
use Rattle.std.proofs.lemmas.List.{take_at, drop_at, length-append, length-take-le}
use Rattle.vo_spec.specs.declared.records.Magic.{Magic}
use Rattle.vo_spec.specs.declared.records.Record.{Record}
use Rattle.vo_spec.specs.declared.records.Catalog.{Catalog}
use Rattle.vo_spec.specs.Bytes.{u32_of}
use Rattle.vo_spec.specs.Journals.{max_signature}
use Rattle.row_bytes.specs.declared.read_fault.ReadFault.{ReadFault}
use Rattle.row_bytes.specs.declared.read_fault.ReadFault.TheVariants.{BadForm, Memory}
use Rattle.row_bytes.specs.Reading.{bytes_at, u32_at}
use Rattle.row_bytes.specs.Fields.{◌>>=◌, where_true, block_at, whole, ReadsAs}
use Rattle.version_record.specs.Reading.{catalog_of_record}
use Rattle.vo_format.specs.Reading.{signature_at, catalog_block_at}
use Rattle.tree_stream.proofs.Binds.{bind_assoc, bind_none}
use Rattle.reply_stream.specs.ReplyHeads.{ReplyHead}
use Rattle.reply_stream.specs.declared.head_state.HeadState.{HeadState}
use Rattle.reply_stream.specs.declared.head_state.HeadState.TheVariants.{Front, SignatureLength, Signature, CatalogLength, Catalog as CatalogBytes, Complete, Invalid}
use Rattle.reply_stream.specs.declared.head_state.SignatureField.{SignatureField}
use Rattle.reply_stream.specs.declared.head_state.SignedRecord.{SignedRecord}
use Rattle.reply_stream.specs.declared.head_state.CatalogField.{CatalogField}
use Rattle.vo_spec.specs.Records.{max_catalog}
use Rattle.reply_stream.specs.Heads.{head, front_at, signed_head_at, head_at, catalog_of_size, signature_of_size, rest_of_head, Yields}
use Rattle.reply_stream.specs.HeadFields.{field_size}
use Rattle.reply_stream.proofs.CatalogSizes.{too_long_for_record}
use Rattle.reply_stream.proofs.Locals.{front_local, bytes_local, token_read, too_few}

-- Tokens.

pub four_read : (token rest : List ℕ) → length token ≡ 4 → u32_at (token ++ rest) ≡ Some (u32_of token, rest)
unfolding u32_at
four_read token rest len =
    let long : ltb (length (token ++ rest)) 4 ≡ false = le-ltb (length (token ++ rest)) 4 (omega (arith, len, length-append token rest)) in
    rw (long, take_at token rest 4 len, drop_at token rest 4 len) refl

pub exactly_read : (n : ℕ) (token rest : List ℕ) → length token ≡ n → bytes_at n (token ++ rest) ≡ Some (token, rest)
unfolding bytes_at
exactly_read n token rest len =
    let long : ltb (length (token ++ rest)) n ≡ false = le-ltb (length (token ++ rest)) n (omega (arith, len, length-append token rest)) in
    rw (long, take_at token rest n len, drop_at token rest n len) refl

too_few_for_length : (bytes : List ℕ) → length bytes < 4 → u32_at bytes ≡ None
unfolding u32_at
too_few_for_length bytes few = rw (lt-ltb (length bytes) 4 few) refl

block_read : (token rest : List ℕ) → length token ≡ 4 → block_at (token ++ rest) ≡ bytes_at (u32_of token) rest
unfolding block_at
block_read token rest len = ap (λ (o : Option (ℕ × List ℕ)). o >>= λ count. bytes_at count.0 count.1) (four_read token rest len)

no_block : (bytes : List ℕ) → length bytes < 4 → block_at bytes ≡ None
unfolding block_at
no_block bytes few = ap (λ (o : Option (ℕ × List ℕ)). o >>= λ count. bytes_at count.0 count.1) (too_few_for_length bytes few)

-- The first word and the record.

abbrev after_record : Record × List ℕ → Option (ReplyHead × List ℕ)
after_record rec = signature_at rec.1 >>= λ signature. signed_head_at rec.0 signature.0 signature.1

front_whole : (token rest : List ℕ) → length token ≡ 64 → rest_of_head Front (token ++ rest) ≡ (whole (front_at token) >>= λ rec. after_record (rec, rest))
unfolding rest_of_head head_at
front_whole token rest len =
    ap (λ (o : Option (Record × List ℕ)). o >>= after_record) (token_read front_at 64 token rest front_local len)
    ∙ bind_assoc (whole (front_at token)) (λ rec. let o : Option (Record × List ℕ) = Some (rec, rest) in o) after_record

pub front_step : (token rest : List ℕ) (rec : Record) → length token ≡ 64 → Some rec ≡ whole (front_at token) → rest_of_head (SignatureLength rec) rest ≡ rest_of_head Front (token ++ rest)
unfolding rest_of_head
front_step token rest rec len read =
    ap (λ (o : Option Record). o >>= λ rec. after_record (rec, rest)) read ∙ sym (front_whole token rest len)

pub no_front : (token rest : List ℕ) → length token ≡ 64 → None ≡ whole (front_at token) → rest_of_head Invalid rest ≡ rest_of_head Front (token ++ rest)
unfolding rest_of_head
no_front token rest len read =
    ap (λ (o : Option Record). o >>= λ rec. after_record (rec, rest)) read ∙ sym (front_whole token rest len)

-- The signature behind its length.

signature_read : (token rest : List ℕ) → length token ≡ 4 → signature_at (token ++ rest) ≡ signature_of_size (u32_of token) rest
unfolding signature_at
signature_read token rest len =
    ap (λ (o : Option (List ℕ × List ℕ)). o >>= λ s. where_true (leb (length s.0) max_signature) s) (block_read token rest len)

pub signature_length_step : (rec : Record) (token rest : List ℕ) (field : SignatureField) → length token ≡ 4 → field.rec ≡ rec → field.size ≡ u32_of token
    → rest_of_head (Signature field) rest ≡ rest_of_head (SignatureLength rec) (token ++ rest)
unfolding rest_of_head
signature_length_step rec token rest field len same size =
    ap (λ (r : Record). signature_of_size field.size rest >>= λ s. signed_head_at r s.0 s.1) same
    ∙ ap (λ (n : ℕ). signature_of_size n rest >>= λ s. signed_head_at rec s.0 s.1) size
    ∙ sym (ap (λ (o : Option (List ℕ × List ℕ)). o >>= λ s. signed_head_at rec s.0 s.1) (signature_read token rest len))

too_long : (n : ℕ) (bytes : List ℕ) → max_signature < n → signature_of_size n bytes ≡ None
unfolding bytes_at
too_long n bytes long =
    elim (cases_Bool (ltb (length bytes) n)) [
      | inl t ↦ rw t refl
      | inr f ↦
          let len : length (take n bytes) ≡ n = length-take-le n bytes (ltb-false (length bytes) n f) in
          let over : leb (length (take n bytes)) max_signature ≡ false = lt-leb (length (take n bytes)) max_signature (omega (arith, len, long)) in
          rw (f, over) refl
    ]

pub no_signature : (rec : Record) (token rest : List ℕ) → length token ≡ 4 → max_signature < u32_of token → rest_of_head Invalid rest ≡ rest_of_head (SignatureLength rec) (token ++ rest)
unfolding rest_of_head
no_signature rec token rest len long =
    sym (ap (λ (o : Option (List ℕ × List ℕ)). o >>= λ s. signed_head_at rec s.0 s.1) (signature_read token rest len ∙ too_long (u32_of token) rest long))

signature_whole : (n : ℕ) (token rest : List ℕ) → length token ≡ n → n ≤ max_signature → signature_of_size n (token ++ rest) ≡ Some (token, rest)
signature_whole n token rest len within =
    let fits : leb (length token) max_signature ≡ true = le-leb (length token) max_signature (omega (arith, len, within)) in
    ap (λ (o : Option (List ℕ × List ℕ)). o >>= λ s. where_true (leb (length s.0) max_signature) s) (exactly_read n token rest len)
    ∙ ap (λ (b : Bool). where_true b (let s : List ℕ × List ℕ = (token, rest) in s)) fits

pub signature_step : (field : SignatureField) (signed : SignedRecord) (token rest : List ℕ) → length token ≡ field.size → field.size ≤ max_signature → signed.rec ≡ field.rec → signed.signature ≡ token
    → rest_of_head (CatalogLength signed) rest ≡ rest_of_head (Signature field) (token ++ rest)
unfolding rest_of_head
signature_step field signed token rest len within same is =
    ap (λ (r : Record). signed_head_at r signed.signature rest) same
    ∙ ap (λ (s : List ℕ). signed_head_at field.rec s rest) is
    ∙ sym (ap (λ (o : Option (List ℕ × List ℕ)). o >>= λ s. signed_head_at field.rec s.0 s.1) (signature_whole field.size token rest len within))

-- The catalog behind its length.

catalog_read : (magic : Magic) (token rest : List ℕ) → length token ≡ 4 → catalog_block_at magic (token ++ rest) ≡ catalog_of_size magic (u32_of token) rest
unfolding catalog_block_at
catalog_read magic token rest len =
    ap (λ (o : Option (List ℕ × List ℕ)). o >>= λ block. catalog_of_record magic block.0 >>= λ c. let r : Option (Catalog × List ℕ) = Some (c, block.1) in r) (block_read token rest len)

abbrev with_catalog : SignedRecord → Catalog × List ℕ → Option (ReplyHead × List ℕ)
with_catalog signed c = Some (head signed.rec signed.signature c.0, c.1)

no_catalog_so_long : (magic : Magic) (n : ℕ) (bytes : List ℕ) → max_catalog < n → catalog_of_size magic n bytes ≡ None
unfolding bytes_at
no_catalog_so_long magic n bytes long =
    elim (cases_Bool (ltb (length bytes) n)) [
      | inl t ↦ rw t refl
      | inr f ↦
          let len : length (take n bytes) ≡ n = length-take-le n bytes (ltb-false (length bytes) n f) in
          let none : catalog_of_record magic (take n bytes) ≡ None = too_long_for_record magic (take n bytes) (omega (arith, len, long)) in
          rw (f, none) refl
    ]

pub catalog_length_step : (signed : SignedRecord) (field : CatalogField) (token rest : List ℕ) → length token ≡ 4 → field.signed ≡ signed → field.size ≡ u32_of token
    → rest_of_head (CatalogBytes field) rest ≡ rest_of_head (CatalogLength signed) (token ++ rest)
unfolding rest_of_head
catalog_length_step signed field token rest len same size =
    ap (λ (s : SignedRecord). catalog_of_size s.rec.magic field.size rest >>= with_catalog s) same
    ∙ ap (λ (n : ℕ). catalog_of_size signed.rec.magic n rest >>= with_catalog signed) size
    ∙ sym (ap (λ (o : Option (Catalog × List ℕ)). o >>= with_catalog signed) (catalog_read signed.rec.magic token rest len))

pub no_catalog_length : (signed : SignedRecord) (token rest : List ℕ) → length token ≡ 4 → max_catalog < u32_of token → rest_of_head Invalid rest ≡ rest_of_head (CatalogLength signed) (token ++ rest)
unfolding rest_of_head
no_catalog_length signed token rest len long =
    sym (ap (λ (o : Option (Catalog × List ℕ)). o >>= with_catalog signed) (catalog_read signed.rec.magic token rest len ∙ no_catalog_so_long signed.rec.magic (u32_of token) rest long))

catalog_whole : (magic : Magic) (n : ℕ) (token rest : List ℕ) → length token ≡ n → catalog_of_size magic n (token ++ rest) ≡ (catalog_of_record magic token >>= λ c. Some (c, rest))
catalog_whole magic n token rest len =
    ap (λ (o : Option (List ℕ × List ℕ)). o >>= λ block. catalog_of_record magic block.0 >>= λ c. let r : Option (Catalog × List ℕ) = Some (c, block.1) in r) (exactly_read n token rest len)

-- what reading the catalog's bytes gives, for the record before them
abbrev pub catalog_in : CatalogField → List ℕ → Option Catalog
catalog_in field token = catalog_of_record field.signed.rec.magic token

pub catalog_step : (field : CatalogField) (found : ReplyHead) (token rest : List ℕ) (c : Catalog) → length token ≡ field.size → catalog_in field token ≡ Some c
    → found ≡ head field.signed.rec field.signed.signature c → rest_of_head (Complete found) rest ≡ rest_of_head (CatalogBytes field) (token ++ rest)
unfolding rest_of_head
catalog_step field found token rest c len read is =
    ap (λ (h : ReplyHead). let r : Option (ReplyHead × List ℕ) = Some (h, rest) in r) is
    ∙ sym (ap (λ (o : Option (Catalog × List ℕ)). o >>= with_catalog field.signed)
    (catalog_whole field.signed.rec.magic field.size token rest len ∙ ap (λ (o : Option Catalog). o >>= λ c. let r : Option (Catalog × List ℕ) = Some (c, rest) in r) read))

pub no_catalog : (field : CatalogField) (token rest : List ℕ) → length token ≡ field.size → catalog_in field token ≡ None → rest_of_head Invalid rest ≡ rest_of_head (CatalogBytes field) (token ++ rest)
unfolding rest_of_head
no_catalog field token rest len read =
    sym (ap (λ (o : Option (Catalog × List ℕ)). o >>= with_catalog field.signed)
    (catalog_whole field.signed.rec.magic field.size token rest len ∙ ap (λ (o : Option Catalog). o >>= λ c. let r : Option (Catalog × List ℕ) = Some (c, rest) in r) read))

none_read : {A : Type 0} (fault : ReadFault) (read : Option A) → fault ≡ BadForm → ReadsAs (λ (x : A). x) (Err fault) read → read ≡ None
none_read BadForm read is none = none
none_read Memory read is none = absurd cc

pub bad_catalog : (r : Result HeadState AllocError) (field : CatalogField) (fault : ReadFault) (token : List ℕ) → length token ≡ field.size → ReadsAs (λ (c : Catalog). c) (Err fault) (catalog_in field token)
    → IfOk r (λ state. (fault ≡ BadForm) × (state ≡ Invalid)) → IfOk r (λ state. Yields state (λ rest. rest_of_head (CatalogBytes field) (token ++ rest)))
bad_catalog (Err e) field fault token len read is = tt
bad_catalog (Ok state) field fault token len read is = record {
  each = λ rest. ap (λ (s : HeadState). rest_of_head s rest) is.1 ∙ no_catalog field token rest len (none_read fault (catalog_in field token) is.0 read);
}

-- Less than a field.

pub some_size : (a b : ℕ) → Some a ≡ Some b → a ≡ b
some_size a b e = cc

pub short_none : (state : HeadState) (bytes : List ℕ) (size : ℕ) → field_size state ≡ Some size → length bytes < size → rest_of_head state bytes ≡ None
unfolding rest_of_head head_at signature_at catalog_block_at
short_none Front bytes size is few = bind_none (front_at bytes) after_record (too_few front_at 64 bytes front_local (omega (arith, few, some_size 64 size is)))
short_none (SignatureLength rec) bytes size is few = ap (λ (o : Option (List ℕ × List ℕ)). (o >>= λ s. where_true (leb (length s.0) max_signature) s) >>= λ s. signed_head_at rec s.0 s.1) (no_block bytes (omega (arith, few, some_size 4 size is)))
short_none (Signature field) bytes size is few =
    ap (λ (o : Option (List ℕ × List ℕ)). (o >>= λ s. where_true (leb (length s.0) max_signature) s) >>= λ s. signed_head_at field.rec s.0 s.1) (too_few (bytes_at field.size) field.size bytes (bytes_local field.size) (omega (arith, few, some_size field.size size is)))
short_none (CatalogLength signed) bytes size is few =
    ap (λ (o : Option (List ℕ × List ℕ)). (o >>= λ block. catalog_of_record signed.rec.magic block.0 >>= λ c. let r : Option (Catalog × List ℕ) = Some (c, block.1) in r) >>= with_catalog signed) (no_block bytes (omega (arith, few, some_size 4 size is)))
short_none (CatalogBytes field) bytes size is few =
    ap (λ (o : Option (List ℕ × List ℕ)). (o >>= λ block. catalog_of_record field.signed.rec.magic block.0 >>= λ c. let r : Option (Catalog × List ℕ) = Some (c, block.1) in r) >>= with_catalog field.signed) (too_few (bytes_at field.size) field.size bytes (bytes_local field.size) (omega (arith, few, some_size field.size size is)))
short_none (Complete found) bytes size is few = absurd cc
short_none Invalid bytes size is few = refl
