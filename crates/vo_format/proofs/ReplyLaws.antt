-- A reply that is read is spelled so, and what is spelled so is read.
use Rattle.std.proofs.Common.{◌≡◌, ℕ, ◌<◌, ◌≤◌, leb, List, [], ◌∷◌, ◌++◌, length, Option, Some, None, Result, Ok, Err, codes, refl, sym, ap, subst, ◌∙◌, append_assoc, append-nil, arith}
use Rattle.std.specs.Prelude.{IfOk}
use Rattle.std.specs.List.{AllByRecursion, flat_map}
use Rattle.std.proofs.lemmas.Bool.{leb-true, le-leb}
use Rattle.vo_spec.specs.declared.records.Magic.{Magic}
use Rattle.vo_spec.specs.declared.records.Record.{Record}
use Rattle.vo_spec.specs.declared.records.Catalog.{Catalog}
use Rattle.vo_spec.specs.Bytes.{IsBytes, block}
use Rattle.vo_spec.specs.Journals.{max_signature}
use Rattle.vo_spec.specs.Records.{record_bytes, catalog_bytes, magic_of, FitsCatalog}
use Rattle.vo_spec.specs.Trees.{RowTree}
use Rattle.vo_spec.specs.Fits.{FitsTree, max_levels}
use Rattle.vo_spec.specs.TreeBytes.{tree_bytes}
use Rattle.vo_spec.specs.Replies.{Reply as Plain, reply_bytes, FitsReply, IsReply, IsNoReply}
use Rattle.row_bytes.specs.declared.read_fault.ReadFault.{ReadFault}
use Rattle.row_bytes.specs.declared.read_fault.ReadFault.TheVariants.{BadForm}
use Rattle.row_bytes.specs.Reading.{byte_at}
use Rattle.row_bytes.specs.Fields.{◌>>=◌, where_true, block_at, whole, ReadsAs}
use Rattle.row_bytes.proofs.Readers.{IsBytes-rest}
use Rattle.batch_format.specs.BatchReading.{Reader, one, two}
use Rattle.batch_format.proofs.ReaderLaws.{Took, IsReader, some_is, bound, tested, took_then, no_some, next_found, next_again, times_found, times_again}
use Rattle.batch_format.proofs.BatchLaws.{one_found}
use Rattle.version_record.specs.Reading.{record_at, catalog_of_record}
use Rattle.version_record.proofs.RecordLaws.{words_read, records_read, whole_is}
use Rattle.version_record.proofs.CatalogLaws.{of_record_found, of_record_again}
use Rattle.vo_format.specs.declared.reply.Reply.{Reply}
use Rattle.vo_format.specs.View.{reply_of}
use Rattle.batch_format.specs.TreeReading.{tree_at}
use Rattle.vo_format.specs.Reading.{signature_at, catalog_block_at, counted_trees_at, plain_reply, reply_at}
use Rattle.vo_format.proofs.CatalogSizes.{catalog_is_short}
use Rattle.vo_format.proofs.BlockLaws.{block_found, block_again}
use Rattle.batch_format.proofs.TreeLaws.{trees_read}

-- Signatures.

abbrev IsSignature : List ℕ → Type 0
IsSignature s = length s ≤ max_signature

signature_found : (bytes s rest : List ℕ) → IsBytes bytes → signature_at bytes ≡ Some (s, rest) → Took bytes (block s) rest × IsSignature s
unfolding signature_at
signature_found bytes s rest fits e =
    let b = bound (block_at bytes) (λ s. where_true (leb (length s.0) max_signature) s) (s, rest) e in
    let t = tested (leb (length b.0.0) max_signature) b.0 (s, rest) b.2 in
    subst (λ (p : List ℕ × List ℕ). Took bytes (block p.0) p.1 × IsSignature p.0) t.1
    ((block_found bytes b.0.0 b.0.1 fits b.1).0, leb-true (length b.0.0) max_signature t.0)

signature_again : (s rest : List ℕ) → IsSignature s → signature_at (block s ++ rest) ≡ Some (s, rest)
unfolding signature_at
signature_again s rest fits = rw (block_again s rest (omega (arith, fits)), le-leb (length s) max_signature fits) refl

signatures_law : IsReader signature_at block IsSignature
signatures_law = record { found = signature_found; again = signature_again }

-- Catalogs.

abbrev catalog_block : Catalog → List ℕ
catalog_block c = block (catalog_bytes c)

abbrev IsCatalogOf : Magic → Catalog → Type 0
IsCatalogOf magic c = FitsCatalog c × (magic ≡ magic_of c)

catalog_found : (magic : Magic) (bytes : List ℕ) (c : Catalog) (rest : List ℕ) → IsBytes bytes → catalog_block_at magic bytes ≡ Some (c, rest) → Took bytes (catalog_block c) rest × IsCatalogOf magic c
unfolding catalog_block_at
catalog_found magic bytes c rest fits e =
    let a = bound (block_at bytes) (λ block. catalog_of_record magic block.0 >>= λ catalog. Some (catalog, block.1)) (c, rest) e in
    let b = bound (catalog_of_record magic a.0.0) (λ catalog. Some (catalog, a.0.1)) (c, rest) a.2 in
    let t = block_found bytes a.0.0 a.0.1 fits a.1 in
    let is = of_record_found magic a.0.0 b.0 t.1 b.1 in
    subst (λ (p : Catalog × List ℕ). Took bytes (catalog_block p.0) p.1 × IsCatalogOf magic p.0) (some_is (b.0, a.0.1) (c, rest) b.2)
    (subst (λ (w : List ℕ). Took bytes (block w) a.0.1) is.0.encoded t.0, (is.0.fits, is.1))

catalog_with : (c : Catalog) (rest : List ℕ) → FitsCatalog c → catalog_block_at (magic_of c) (catalog_block c ++ rest) ≡ Some (c, rest)
unfolding catalog_block_at
catalog_with c rest fits = rw (block_again (catalog_bytes c) rest (catalog_is_short c fits), of_record_again c fits) refl

catalog_again : (magic : Magic) (c : Catalog) (rest : List ℕ) → IsCatalogOf magic c → catalog_block_at magic (catalog_block c ++ rest) ≡ Some (c, rest)
catalog_again magic c rest is = ap (λ (m : Magic). catalog_block_at m (catalog_block c ++ rest)) is.1 ∙ catalog_with c rest is.0

catalogs_law : (magic : Magic) → IsReader (catalog_block_at magic) catalog_block (IsCatalogOf magic)
catalogs_law magic = record { found = catalog_found magic; again = catalog_again magic }

-- Trees.

abbrev counted_trees : List RowTree → List ℕ
counted_trees ts = length ts ∷ flat_map tree_bytes ts

abbrev AreTrees : List RowTree → Type 0
AreTrees ts = (length ts < 256) × AllByRecursion FitsTree ts

trees_found : (bytes : List ℕ) (ts : List RowTree) (rest : List ℕ) → IsBytes bytes → counted_trees_at bytes ≡ Some (ts, rest) → Took bytes (counted_trees ts) rest × AreTrees ts
unfolding counted_trees_at byte_at
trees_found [] ts rest fits e = absurd cc
trees_found (n ∷ bytes) ts rest fits e =
    let f = times_found (tree_at max_levels) tree_bytes FitsTree trees_read n bytes ts rest (IsBytes-rest n bytes fits) e in
    let small : n < 256 = fits 0 in (
      subst (λ (k : ℕ). Took (n ∷ bytes) (k ∷ flat_map tree_bytes ts) rest) (sym f.1) (record { parts = ap (λ (t : List ℕ). n ∷ t) f.0.parts; behind = f.0.behind }),
      (subst (λ (k : ℕ). k < 256) (sym f.1) small, f.2),
    )

trees_again : (ts : List RowTree) (rest : List ℕ) → AreTrees ts → counted_trees_at (counted_trees ts ++ rest) ≡ Some (ts, rest)
unfolding counted_trees_at byte_at
trees_again ts rest fits = times_again (tree_at max_levels) tree_bytes FitsTree trees_read ts rest fits.1

counted_law : IsReader counted_trees_at counted_trees AreTrees
counted_law = record { found = trees_found; again = trees_again }

-- Replies.

abbrev behind_signature : Record → List ℕ → Reader Plain
behind_signature rec signature = two (plain_reply rec signature) (catalog_block_at rec.magic) counted_trees_at

abbrev behind_record : Record → Reader Plain
behind_record rec bytes = signature_at bytes >>= λ signature. behind_signature rec signature.0 signature.1

abbrev behind_word : List ℕ → Reader Plain
behind_word word bytes = record_at bytes >>= λ rec. behind_record rec.0 rec.1

pub reply_found : (bytes : List ℕ) (r : Plain) (rest : List ℕ) → IsBytes bytes → reply_at bytes ≡ Some (r, rest) → Took bytes (reply_bytes r) rest × FitsReply r
unfolding reply_at reply_bytes
reply_found bytes r rest fits e =
    let y : Plain × List ℕ = (r, rest) in
    let word : List ℕ = codes "VOR1" in
    let m = next_found (words_read word) behind_word bytes y fits e in
    let a = next_found records_read behind_record m.1 y m.2.behind m.4 in
    let b = next_found signatures_law (behind_signature a.0) a.1 y a.2.behind a.4 in
    let c = next_found (catalogs_law a.0.magic) (λ c. one (plain_reply a.0 b.0 c) counted_trees_at) b.1 y b.2.behind b.4 in
    let d = one_found counted_law (plain_reply a.0 b.0 c.0) c.1 y c.2.behind c.4 in
    let first : Took bytes word m.1 = subst (λ (w : List ℕ). Took bytes w m.1) m.3 m.2 in
    let ma = took_then bytes word m.1 (record_bytes a.0) a.1 first a.2 in
    let mab = took_then bytes (word ++ record_bytes a.0) a.1 (block b.0) b.1 ma b.2 in
    let mabc = took_then bytes (word ++ record_bytes a.0 ++ block b.0) b.1 (catalog_block c.0) c.1 mab c.2 in
    let all = took_then bytes (word ++ record_bytes a.0 ++ block b.0 ++ catalog_block c.0) c.1 (counted_trees d.0) d.1 mabc d.2 in
    subst (λ (p : Plain × List ℕ). Took bytes (reply_bytes p.0) p.1 × FitsReply p.0) d.4
    (all, record { rec = a.3; signature = b.3; catalog = c.3.0; count = d.3.0; trees = d.3.1; magic = c.3.1 })

pub reply_again : (r : Plain) (rest : List ℕ) → FitsReply r → reply_at (reply_bytes r ++ rest) ≡ Some (r, rest)
unfolding reply_at reply_bytes
reply_again r rest fits =
    let word : List ℕ = codes "VOR1" in
    let ends : List ℕ = counted_trees r.trees ++ rest in
    ap reply_at (append_assoc (word ++ record_bytes r.rec ++ block r.signature ++ catalog_block r.catalog) (counted_trees r.trees) rest
    ∙ append_assoc (word ++ record_bytes r.rec ++ block r.signature) (catalog_block r.catalog) ends
    ∙ append_assoc (word ++ record_bytes r.rec) (block r.signature) (catalog_block r.catalog ++ ends)
    ∙ append_assoc word (record_bytes r.rec) (block r.signature ++ (catalog_block r.catalog ++ ends)))
    ∙ next_again (words_read word) behind_word word (record_bytes r.rec ++ (block r.signature ++ (catalog_block r.catalog ++ ends))) refl
    ∙ next_again records_read behind_record r.rec (block r.signature ++ (catalog_block r.catalog ++ ends)) fits.rec
    ∙ next_again signatures_law (behind_signature r.rec) r.signature (catalog_block r.catalog ++ ends) fits.signature
    ∙ next_again (catalogs_law r.rec.magic) (λ c. one (plain_reply r.rec r.signature c) counted_trees_at) r.catalog ends (fits.catalog, fits.magic)
    ∙ next_again counted_law (λ ts rest. let made : Option (Plain × List ℕ) = Some (plain_reply r.rec r.signature r.catalog ts, rest) in made) r.trees rest (fits.count, fits.trees)

-- What the call ensures.

whole_reply : (bytes : List ℕ) (r : Plain) → IsReply bytes r → whole (reply_at bytes) ≡ Some r
whole_reply bytes r is =
    ap (λ (t : List ℕ). whole (reply_at t)) (is.encoded ∙ sym (append-nil (reply_bytes r))) ∙ ap whole (reply_again r [] is.fits)

pub is_reply : (bytes : List ℕ) (r : Result Reply ReadFault) → IsBytes bytes → ReadsAs reply_of r (whole (reply_at bytes)) → IfOk r (λ reply. IsReply bytes (reply_of reply))
is_reply bytes (Ok reply) fits read =
    let f = reply_found bytes (reply_of reply) [] fits (whole_is (reply_at bytes) (reply_of reply) read) in
    record { fits = f.1; encoded = f.0.parts ∙ append-nil (reply_bytes (reply_of reply)) }
is_reply bytes (Err fault) fits read = tt

pub is_none : (bytes : List ℕ) (r : Result Reply ReadFault) → ReadsAs reply_of r (whole (reply_at bytes)) → r ≡ Err BadForm → IsNoReply bytes
is_none bytes r read bad plain is =
    let nothing : whole (reply_at bytes) ≡ None = subst (λ (s : Result Reply ReadFault). ReadsAs reply_of s (whole (reply_at bytes))) bad read in
    no_some plain (sym nothing ∙ whole_reply bytes plain is)

pub reply_is_read : (bytes : List ℕ) (r : Result Reply ReadFault) (plain : Plain) → ReadsAs reply_of r (whole (reply_at bytes)) → IsReply bytes plain → ReadsAs reply_of r (Some plain)
reply_is_read bytes r plain read is = subst (ReadsAs reply_of r) (whole_reply bytes plain is) read
