-- Proofs that are read are spelled so, and what is spelled so is read.
use Rattle.std.proofs.Common.{◌≡◌, ℕ, ◌≤◌, leb, List, [], ◌++◌, length, Option, Some, None, Result, Ok, Err, codes, refl, sym, ap, subst, ◌∙◌, append_assoc, append-nil, arith, inl, inr}
use Rattle.std.specs.Prelude.{IfOk}
use Rattle.std.specs.Global.{Vec}
use Rattle.std.specs.List.{AllByRecursion, flat_map}
use Rattle.std.proofs.lemmas.Bool.{leb-true, le-leb}
use Rattle.vo_spec.specs.Bytes.{IsBytes, u16_bytes}
use Rattle.vo_spec.specs.Batches.{max_commands}
use Rattle.vo_spec.specs.Journals.{max_proofs}
use Rattle.vo_spec.specs.Trees.{RowTree}
use Rattle.vo_spec.specs.Fits.{FitsTree, max_levels}
use Rattle.vo_spec.specs.TreeBytes.{tree_bytes}
use Rattle.vo_spec.specs.Replies.{proofs_bytes, AreProofs}
use Rattle.row_bytes.specs.declared.read_fault.ReadFault.{ReadFault}
use Rattle.row_bytes.specs.declared.read_fault.ReadFault.TheVariants.{BadForm}
use Rattle.row_bytes.specs.Reading.{u16_at}
use Rattle.row_bytes.specs.Fields.{◌>>=◌, where_true, times, whole, ReadsAs}
use Rattle.row_bytes.proofs.Readers.{chosen}
use Rattle.batch_format.specs.BatchReading.{Reader}
use Rattle.batch_format.proofs.ReaderLaws.{Took, bound, tested, took_then, no_some, next_found, next_again, times_found, times_again}
use Rattle.batch_format.proofs.BatchLaws.{u16_found, u16_read}
use Rattle.version_record.proofs.RecordLaws.{words_read, whole_is}
use Rattle.mb_tree.specs.declared.parts.PartTree.{PartTree}
use Rattle.vo_format.specs.View.{row_trees_of}
use Rattle.batch_format.specs.TreeReading.{tree_at}
use Rattle.vo_format.specs.Reading.{proofs_at, proofs_of}
use Rattle.batch_format.proofs.TreeLaws.{trees_read}

abbrev so_many : ℕ × List ℕ → Option (List RowTree × List ℕ)
so_many count = times (tree_at max_levels) count.0 count.1

abbrev counted_trees : ℕ × List ℕ → Option (List RowTree × List ℕ)
counted_trees count = where_true (leb count.0 max_commands) count >>= so_many

abbrev behind_word : List ℕ → Reader (List RowTree)
behind_word word bytes = u16_at bytes >>= counted_trees

proofs_found : (bytes : List ℕ) (ts : List RowTree) (rest : List ℕ) → IsBytes bytes → proofs_at bytes ≡ Some (ts, rest) → (bytes ≡ proofs_bytes ts ++ rest) × (length ts ≤ max_commands) × AllByRecursion FitsTree ts
unfolding proofs_at proofs_bytes
proofs_found bytes ts rest fits e =
    let y : List RowTree × List ℕ = (ts, rest) in
    let word : List ℕ = codes "VOU1" in
    let m = next_found (words_read word) behind_word bytes y fits e in
    let a = bound (u16_at m.1) counted_trees y m.4 in
    let n = u16_found m.1 a.0.0 a.0.1 m.2.behind a.1 in
    let b = bound (where_true (leb a.0.0 max_commands) a.0) so_many y a.2 in
    let few = tested (leb a.0.0 max_commands) a.0 b.0 b.1 in
    let read : times (tree_at max_levels) a.0.0 a.0.1 ≡ Some y = ap so_many few.1 ∙ b.2 in
    let f = times_found (tree_at max_levels) tree_bytes FitsTree trees_read a.0.0 a.0.1 ts rest n.behind read in
    let first : Took bytes word m.1 = subst (λ (w : List ℕ). Took bytes w m.1) m.3 m.2 in
    let head = took_then bytes word m.1 (u16_bytes a.0.0) a.0.1 first n in
    let all = took_then bytes (word ++ u16_bytes a.0.0) a.0.1 (flat_map tree_bytes ts) rest head f.0 in
    let most : a.0.0 ≤ max_commands = leb-true a.0.0 max_commands few.0 in
    (all.parts ∙ ap (λ (k : ℕ). word ++ u16_bytes k ++ flat_map tree_bytes ts ++ rest) (sym f.1), subst (λ (k : ℕ). k ≤ max_commands) (sym f.1) most, f.2)

proofs_again : (ts : List RowTree) (rest : List ℕ) → length ts ≤ max_commands → AllByRecursion FitsTree ts → proofs_at (proofs_bytes ts ++ rest) ≡ Some (ts, rest)
unfolding proofs_at proofs_bytes
proofs_again ts rest few fits =
    let word : List ℕ = codes "VOU1" in
    let ends : List ℕ = flat_map tree_bytes ts ++ rest in
    ap proofs_at (append_assoc (word ++ u16_bytes (length ts)) (flat_map tree_bytes ts) rest ∙ append_assoc word (u16_bytes (length ts)) ends)
    ∙ next_again (words_read word) behind_word word (u16_bytes (length ts) ++ ends) refl
    ∙ rw (
      u16_read (length ts) ends (omega (arith, few)),
      le-leb (length ts) max_commands few,
      times_again (tree_at max_levels) tree_bytes FitsTree trees_read ts rest fits,
    ) refl

pub proofs_are : (bytes : List ℕ) (ts : List RowTree) → IsBytes bytes → proofs_of bytes ≡ Some ts → AreProofs bytes ts
unfolding proofs_of
proofs_are bytes ts fits e =
    elim (chosen (leb (length bytes) max_proofs) (whole (proofs_at bytes)) None (Some ts) e) [
      | inl a ↦
          let f = proofs_found bytes ts [] fits (whole_is (proofs_at bytes) ts a.1) in
          let encoded : bytes ≡ proofs_bytes ts = f.0 ∙ append-nil (proofs_bytes ts) in
          record { fits = record { count = f.1; each = f.2; size = subst (λ (t : List ℕ). length t ≤ max_proofs) encoded (leb-true (length bytes) max_proofs a.0) }; encoded = encoded }
      | inr a ↦ absurd (no_some ts a.1)
    ]

pub whole_proofs : (bytes : List ℕ) (ts : List RowTree) → AreProofs bytes ts → proofs_of bytes ≡ Some ts
unfolding proofs_of
whole_proofs bytes ts is =
    let again : proofs_at (proofs_bytes ts) ≡ Some (ts, []) = ap proofs_at (sym (append-nil (proofs_bytes ts))) ∙ proofs_again ts [] is.fits.count is.fits.each in
    ap proofs_of is.encoded ∙ rw (le-leb (length (proofs_bytes ts)) max_proofs is.fits.size, again) refl

-- What the call ensures.

pub are_proofs : (bytes : List ℕ) (r : Result (Vec PartTree) ReadFault) → IsBytes bytes → ReadsAs row_trees_of r (proofs_of bytes) → IfOk r (λ trees. AreProofs bytes (row_trees_of trees))
are_proofs bytes (Ok trees) fits read = proofs_are bytes (row_trees_of trees) fits read
are_proofs bytes (Err fault) fits read = tt

pub are_none : (bytes : List ℕ) (r : Result (Vec PartTree) ReadFault) → ReadsAs row_trees_of r (proofs_of bytes) → r ≡ Err BadForm → (ts : List RowTree) → AreProofs bytes ts → ⊥
are_none bytes r read bad ts is =
    let nothing : proofs_of bytes ≡ None = subst (λ (s : Result (Vec PartTree) ReadFault). ReadsAs row_trees_of s (proofs_of bytes)) bad read in
    no_some ts (sym nothing ∙ whole_proofs bytes ts is)

pub proofs_are_read : (bytes : List ℕ) (r : Result (Vec PartTree) ReadFault) (ts : List RowTree) → ReadsAs row_trees_of r (proofs_of bytes) → AreProofs bytes ts → ReadsAs row_trees_of r (Some ts)
proofs_are_read bytes r ts read is = subst (ReadsAs row_trees_of r) (whole_proofs bytes ts is) read
