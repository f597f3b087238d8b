-- What prunes has the preimage of what it prunes.
use Rattle.std.proofs.Common.{◌≡◌, ℕ, suc, ◌+◌, true, List, [], ◌∷◌, ◌++◌, length, flat_map, refl, ap, ◌∙◌}
use Rattle.std.specs.List.{AllZip}
use Rattle.sha2.specs.Sha256.{sha256}
use Rattle.vo_spec.specs.declared.cells.Cell.{Cell}
use Rattle.vo_spec.specs.declared.cells.Cell.TheVariants.{Shown, Hidden}
use Rattle.vo_spec.specs.declared.cells.RowPart.{RowPart}
use Rattle.vo_spec.specs.declared.cells.RowPart.TheVariants.{Digest as Closed, Cells}
use Rattle.vo_spec.specs.declared.cells.PartEntry.{PartEntry}
use Rattle.vo_spec.specs.Bytes.{string}
use Rattle.vo_spec.specs.Cells.{cell_digest, cell_digests, row_bytes, row_digest, entry_bytes, attribute_bytes, CellPrunes, CellsPrune, RowPrunes, EntryPrunes}
use Rattle.vo_spec.specs.Parts.{stub, leaf, inner, none, more, count, child_bytes, leaf_bytes, inner_bytes, PrunesEach}
use Rattle.vo_spec.specs.Trees.{RowTree, RowTrees, digest, preimage, row_family, Prunes}
use Rattle.tree_collide.specs.Agreements.{is_open}

cell_kept : (n : ℕ) (c d : Cell) → CellPrunes n c d → cell_digest n c ≡ cell_digest n d
cell_kept n (Hidden h) d p = p
cell_kept n (Shown v) (Shown w) p = ap (λ x. sha256 (attribute_bytes n x)) p
cell_kept n (Shown v) (Hidden h) p = absurd p

cells_kept : (n : ℕ) (cs ds : List Cell) → CellsPrune n cs ds → (length cs ≡ length ds) × (cell_digests n cs ≡ cell_digests n ds)
cells_kept n [] [] p = (refl, refl)
cells_kept n [] (d ∷ ds) p = absurd p
cells_kept n (c ∷ cs) [] p = absurd p
cells_kept n (c ∷ cs) (d ∷ ds) p =
    let first : cell_digest n c ≡ cell_digest n d = cell_kept n c d p.0 in
    let rest = cells_kept (n + 1) cs ds p.1 in
    let lengths : length cs ≡ length ds = rest.0 in
    let digests : cell_digests (n + 1) cs ≡ cell_digests (n + 1) ds = rest.1 in
    (ap (λ k. suc k) lengths, cc)

pub row_bytes_kept : (cs ds : List Cell) → CellsPrune 0 cs ds → row_bytes cs ≡ row_bytes ds
row_bytes_kept cs ds p =
    let both = cells_kept 0 cs ds p in
    let lengths : length cs ≡ length ds = both.0 in
    let digests : cell_digests 0 cs ≡ cell_digests 0 ds = both.1 in cc

row_kept : (r s : RowPart) → RowPrunes r s → row_digest r ≡ row_digest s
row_kept (Closed d) s p = p
row_kept (Cells cs) (Cells ds) p = ap sha256 (row_bytes_kept cs ds p)
row_kept (Cells cs) (Closed d) p = absurd p

entries_kept : (es fs : List PartEntry) → AllZip EntryPrunes es fs → (length es ≡ length fs) × (flat_map entry_bytes es ≡ flat_map entry_bytes fs)
entries_kept [] [] p = (refl, refl)
entries_kept [] (f ∷ fs) p = absurd p
entries_kept (e ∷ es) [] p = absurd p
entries_kept (e ∷ es) (f ∷ fs) p =
    let key : e.key ≡ f.key = p.0.key in
    let row : row_digest e.row ≡ row_digest f.row = row_kept e.row f.row p.0.row in
    let rest = entries_kept es fs p.1 in
    let lengths : length es ≡ length fs = rest.0 in
    let bytes : flat_map entry_bytes es ≡ flat_map entry_bytes fs = rest.1 in
    let first : string e.key ++ row_digest e.row ≡ string f.key ++ row_digest f.row = ap (λ k. string k ++ row_digest e.row) key ∙ ap (λ d. string f.key ++ d) row in
    (ap (λ k. suc k) lengths, ap (λ b. b ++ flat_map entry_bytes es) first ∙ ap (λ b. (string f.key ++ row_digest f.row) ++ b) bytes)

pub leaf_kept : (es fs : List PartEntry) → AllZip EntryPrunes es fs → leaf_bytes row_family es ≡ leaf_bytes row_family fs
leaf_kept es fs p =
    let both = entries_kept es fs p in
    let lengths : length es ≡ length fs = both.0 in
    let bytes : flat_map entry_bytes es ≡ flat_map entry_bytes fs = both.1 in cc

mutual
  digest_kept : (p t : RowTree) → Prunes p t → digest p ≡ digest t
  digest_kept (stub d) t h = h
  digest_kept (leaf es) (stub d) h = absurd h
  digest_kept (leaf es) (leaf fs) h = ap sha256 (leaf_kept es fs h)
  digest_kept (leaf es) (inner ts qs) h = absurd h
  digest_kept (inner ss ps) (stub d) h = absurd h
  digest_kept (inner ss ps) (leaf fs) h = absurd h
  digest_kept (inner ss ps) (inner ts qs) h =
      let both = children_kept ps qs h.1 in
      ap (λ s. sha256 (inner_bytes row_family s ps)) h.0
      ∙ ap (λ n. sha256 ((4 ∷ n ∷ flat_map string ts) ++ child_bytes row_family ps)) both.0
      ∙ ap (λ b. sha256 ((4 ∷ count qs ∷ flat_map string ts) ++ b)) both.1

  children_kept : (ps qs : RowTrees) → PrunesEach row_family EntryPrunes ps qs → (count ps ≡ count qs) × (child_bytes row_family ps ≡ child_bytes row_family qs)
  children_kept none none h = (refl, refl)
  children_kept none (more n q qs) h = absurd h
  children_kept (more m p ps) none h = absurd h
  children_kept (more m p ps) (more n q qs) h =
      let rest = children_kept ps qs h.2 in
      (ap (λ k. k + 1) rest.0, ap (λ d. d ++ child_bytes row_family ps) (digest_kept p q h.1) ∙ ap (λ b. digest q ++ b) rest.1)

pub inner_kept : (ss ts : List (List ℕ)) (ps qs : RowTrees) → (ss ≡ ts) × PrunesEach row_family EntryPrunes ps qs → inner_bytes row_family ss ps ≡ inner_bytes row_family ts qs
inner_kept ss ts ps qs h =
    let both = children_kept ps qs h.1 in
    ap (λ s. inner_bytes row_family s ps) h.0
    ∙ ap (λ n. (4 ∷ n ∷ flat_map string ts) ++ child_bytes row_family ps) both.0
    ∙ ap (λ b. (4 ∷ count qs ∷ flat_map string ts) ++ b) both.1

pub preimage_kept : (p t : RowTree) → is_open p ≡ true → Prunes p t → preimage p ≡ preimage t
preimage_kept (stub d) t o h = absurd (cc)
preimage_kept (leaf es) (stub d) o h = absurd h
preimage_kept (leaf es) (leaf fs) o h = leaf_kept es fs h
preimage_kept (leaf es) (inner ts qs) o h = absurd h
preimage_kept (inner ss ps) (stub d) o h = absurd h
preimage_kept (inner ss ps) (leaf fs) o h = absurd h
preimage_kept (inner ss ps) (inner ts qs) o h = inner_kept ss ts ps qs h

pub open_hash : (t : RowTree) → is_open t ≡ true → digest t ≡ sha256 (preimage t)
open_hash (stub d) o = absurd (cc)
open_hash (leaf es) o = refl
open_hash (inner ss ps) o = refl
