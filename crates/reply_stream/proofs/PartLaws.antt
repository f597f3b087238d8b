-- Reading the head and then the trees is reading the reply.
use Rattle.std.proofs.Common.{◌≡◌, ℕ, List, [], ◌∷◌, Option, Some, None, refl, sym, ap, ◌∙◌, append-nil}
use Rattle.std.specs.Prelude.{codes, option_map}
use Rattle.vo_spec.specs.declared.records.Record.{Record}
use Rattle.vo_spec.specs.declared.records.Catalog.{Catalog}
use Rattle.vo_spec.specs.Bytes.{IsBytes}
use Rattle.vo_spec.specs.Fits.{max_levels}
use Rattle.vo_spec.specs.Replies.{Reply, IsReply, reply_bytes}
use Rattle.vo_spec.specs.Trees.{RowTree}
use Rattle.row_bytes.specs.Reading.{byte_at}
use Rattle.row_bytes.specs.Fields.{◌>>=◌, word_at, times, whole}
use Rattle.batch_format.proofs.ReaderLaws.{some_is}
use Rattle.version_record.specs.Reading.{record_at}
use Rattle.version_record.proofs.RecordLaws.{whole_is}
use Rattle.vo_format.specs.Reading.{signature_at, catalog_block_at, counted_trees_at, plain_reply, reply_at}
use Rattle.vo_format.proofs.ReplyLaws.{reply_found, reply_again}
use Rattle.batch_format.specs.TreeReading.{tree_at}
use Rattle.tree_stream.specs.declared.target.Target.{Target}
use Rattle.tree_stream.proofs.Binds.{bind_assoc, bind_same}
use Rattle.reply_stream.specs.ReplyHeads.{ReplyHead}
use Rattle.reply_stream.specs.declared.trees_summary.TreesSummary.{TreesSummary}
use Rattle.reply_stream.specs.Heads.{head, front_at, head_at}
use Rattle.reply_stream.specs.ReplyTrees.{trees_summary, trees_at}
use Rattle.reply_stream.specs.ReplyParts.{Parts, reply_parts, parts_of}

abbrev Trees : Type 0
Trees = List RowTree × List ℕ

abbrev Summed : Target → Trees → Option (TreesSummary × List ℕ)
Summed target ps = Some (trees_summary target ps.0, ps.1)

trees_are : (target : Target) (bytes : List ℕ) → trees_at target bytes ≡ (counted_trees_at bytes >>= Summed target)
unfolding trees_at counted_trees_at
trees_are target bytes = sym (bind_assoc (byte_at bytes) (λ count. times (tree_at max_levels) count.0 count.1) (Summed target))

-- the reply behind its head
abbrev reply_of : ReplyHead → Trees → Option (Reply × List ℕ)
reply_of h ps = Some (plain_reply h.rec h.signature h.catalog ps.0, ps.1)

abbrev behind_head : ReplyHead × List ℕ → Option (Reply × List ℕ)
behind_head h = counted_trees_at h.1 >>= reply_of h.0

head_first : (bytes : List ℕ) → reply_at bytes ≡ (head_at bytes >>= behind_head)
unfolding reply_at head_at front_at
head_first bytes =
    let of_catalog : Record → List ℕ → Catalog × List ℕ → Option (ReplyHead × List ℕ) = λ rec s c. Some (head rec s c.0, c.1) in
    let of_signature : Record → List ℕ × List ℕ → Option (ReplyHead × List ℕ) = λ rec s. catalog_block_at rec.magic s.1 >>= of_catalog rec s.0 in
    let of_record : Record × List ℕ → Option (ReplyHead × List ℕ) = λ rec. signature_at rec.1 >>= of_signature rec.0 in
    let record_behind : List ℕ × List ℕ → Option (Record × List ℕ) = λ magic. record_at magic.1 in
    let all_catalog : Record → List ℕ → Catalog × List ℕ → Option (Reply × List ℕ) = λ rec s c. behind_head (head rec s c.0, c.1) in
    let all_signature : Record → List ℕ × List ℕ → Option (Reply × List ℕ) = λ rec s. catalog_block_at rec.magic s.1 >>= all_catalog rec s.0 in
    let all_record : Record × List ℕ → Option (Reply × List ℕ) = λ rec. signature_at rec.1 >>= all_signature rec.0 in
    sym (bind_assoc (word_at (codes "VOR1") bytes >>= record_behind) of_record behind_head
    ∙ bind_assoc (word_at (codes "VOR1") bytes) record_behind (λ rec. of_record rec >>= behind_head)
    ∙ bind_same (word_at (codes "VOR1") bytes) (λ magic. record_behind magic >>= λ rec. of_record rec >>= behind_head) (λ magic. record_behind magic >>= all_record)
    (λ magic. bind_same (record_behind magic) (λ rec. of_record rec >>= behind_head) all_record
    (λ rec. bind_assoc (signature_at rec.1) (of_signature rec.0) behind_head
    ∙ bind_same (signature_at rec.1) (λ s. of_signature rec.0 s >>= behind_head) (all_signature rec.0)
    (λ s. bind_assoc (catalog_block_at rec.0.magic s.1) (of_catalog rec.0 s.0) behind_head))))

-- what is left is whole, or isn't, whatever is made of what was read
whole_parts : (plan : ReplyHead → Target) (h : ReplyHead) (o : Option Trees)
    → (whole (o >>= Summed (plan h)) >>= λ trees. let p : Option Parts = Some (h, trees) in p) ≡ option_map (parts_of plan) (whole (o >>= reply_of h))
whole_parts plan h None = refl
whole_parts plan h (Some (ps, [])) = refl
whole_parts plan h (Some (ps, byte ∷ bytes)) = refl

parts_behind : (plan : ReplyHead → Target) (h : ReplyHead × List ℕ)
    → (whole (trees_at (plan h.0) h.1) >>= λ trees. let p : Option Parts = Some (h.0, trees) in p) ≡ option_map (parts_of plan) (whole (behind_head h))
parts_behind plan h =
    ap (λ (o : Option (TreesSummary × List ℕ)). whole o >>= λ trees. let p : Option Parts = Some (h.0, trees) in p) (trees_are (plan h.0) h.1)
    ∙ whole_parts plan h.0 (counted_trees_at h.1)

by_head : (plan : ReplyHead → Target) (o : Option (ReplyHead × List ℕ))
    → (o >>= λ h. whole (trees_at (plan h.0) h.1) >>= λ trees. let p : Option Parts = Some (h.0, trees) in p) ≡ option_map (parts_of plan) (whole (o >>= behind_head))
by_head plan None = refl
by_head plan (Some h) = parts_behind plan h

pub parts_are : (plan : ReplyHead → Target) (bytes : List ℕ) → reply_parts plan bytes ≡ option_map (parts_of plan) (whole (reply_at bytes))
unfolding reply_parts
parts_are plan bytes = by_head plan (head_at bytes) ∙ ap (λ (o : Option (Reply × List ℕ)). option_map (parts_of plan) (whole o)) (sym (head_first bytes))

pub parts_again : (plan : ReplyHead → Target) (bytes : List ℕ) (r : Reply) → IsReply bytes r → reply_parts plan bytes ≡ Some (parts_of plan r)
parts_again plan bytes r is =
    parts_are plan bytes
    ∙ ap (λ (t : List ℕ). option_map (parts_of plan) (whole (reply_at t))) (is.encoded ∙ sym (append-nil (reply_bytes r)))
    ∙ ap (λ (o : Option (Reply × List ℕ)). option_map (parts_of plan) (whole o)) (reply_again r [] is.fits)

mapped : {A B : Type 0} (f : A → B) (o : Option A) (y : B) → option_map f o ≡ Some y → (x : A) × (o ≡ Some x) × (y ≡ f x)
mapped f None y e = absurd cc
mapped f (Some x) y e = (x, refl, sym (some_is (f x) y e))

pub parts_found : (plan : ReplyHead → Target) (bytes : List ℕ) (parts : Parts) → IsBytes bytes → reply_parts plan bytes ≡ Some parts → (r : Reply) × IsReply bytes r × (parts ≡ parts_of plan r)
parts_found plan bytes parts fits e =
    let all = mapped (parts_of plan) (whole (reply_at bytes)) parts (sym (parts_are plan bytes) ∙ e) in
    let found = reply_found bytes all.0 [] fits (whole_is (reply_at bytes) all.0 all.1) in
    (all.0, record { fits = found.1; encoded = found.0.parts ∙ append-nil (reply_bytes all.0) }, all.2)
