-- A preimage is that of one node only: equal preimages have equal keys, separators and digests.
use Rattle.std.proofs.Common.{◌≡◌, ℕ, suc, true, ◌+◌, List, [], ◌∷◌, ◌++◌, length, flat_map, sym, ap, ◌∙◌, arith, append_assoc, All}
use Rattle.sha2.proofs.Facts256.{length-sha256}
use Rattle.vo_spec.specs.declared.values.Value.{Value}
use Rattle.vo_spec.specs.declared.cells.Cell.{Cell}
use Rattle.vo_spec.specs.declared.cells.Cell.TheVariants.{Shown, Hidden}
use Rattle.vo_spec.specs.declared.cells.RowPart.{RowPart}
use Rattle.vo_spec.specs.declared.cells.RowPart.TheVariants.{Digest as Closed, Cells}
use Rattle.vo_spec.specs.declared.cells.PartEntry.{PartEntry}
use Rattle.vo_spec.specs.Bytes.{string}
use Rattle.vo_spec.specs.Values.{value_bytes, FitsValue}
use Rattle.vo_spec.specs.Cells.{cell_digest, cell_digests, row_bytes, row_digest, entry_bytes, attribute_bytes}
use Rattle.vo_spec.specs.Parts.{stub, leaf, inner, none, more, count, child_bytes, leaf_bytes, inner_bytes}
use Rattle.vo_spec.specs.Trees.{RowTree, RowTrees, digest, preimage, row_family}
use Rattle.vo_spec.specs.Fits.{FitsCell, FitsRowPart, FitsEntry, FitsPart, FitsEach}
use Rattle.vo_laws.proofs.ToldBytes.{same_pieces, string_told, strings_told}
use Rattle.row_bytes.proofs.ValueLaws.{one_value}
use Rattle.tree_collide.specs.Agreements.{SameCells, SameEntries, SameNodes, IsLike, is_open}

cell_digest_length : (column : ℕ) (c : Cell) → FitsCell c → length (cell_digest column c) ≡ 32
cell_digest_length column (Shown v) f = length-sha256 (attribute_bytes column v)
cell_digest_length column (Hidden d) f = f

row_digest_length : (r : RowPart) → FitsRowPart r → length (row_digest r) ≡ 32
row_digest_length (Closed d) f = f
row_digest_length (Cells cs) f = length-sha256 (row_bytes cs)

digest_length : (t : RowTree) → FitsPart t → length (digest t) ≡ 32
digest_length (stub d) f = f
digest_length (leaf es) f = length-sha256 (leaf_bytes row_family es)
digest_length (inner ss ps) f = length-sha256 (inner_bytes row_family ss ps)

pub cells_same : (n : ℕ) (cs ds : List Cell) → length cs ≡ length ds → All FitsCell cs → All FitsCell ds → cell_digests n cs ≡ cell_digests n ds → SameCells n cs ds
cells_same n [] [] h f g e = tt
cells_same n [] (d ∷ ds) h f g e = absurd (omega arith)
cells_same n (c ∷ cs) [] h f g e = absurd (omega arith)
cells_same n (c ∷ cs) (d ∷ ds) h f g e =
    let both = same_pieces (cell_digest n c) (cell_digest n d) (cell_digests (n + 1) cs) (cell_digests (n + 1) ds) (cell_digest_length n c (f 0 c (omega arith)) ∙ sym (cell_digest_length n d (g 0 d (omega arith)))) e in
    (both.0, cells_same (n + 1) cs ds (omega arith) (λ k x l. f (suc k) x (omega arith)) (λ k x l. g (suc k) x (omega arith)) both.1)

pub entries_same : (es fs : List PartEntry) → length es ≡ length fs → All FitsEntry es → All FitsEntry fs → flat_map entry_bytes es ≡ flat_map entry_bytes fs → SameEntries es fs
entries_same [] [] h f g e = tt
entries_same [] (x ∷ fs) h f g e = absurd (omega arith)
entries_same (x ∷ es) [] h f g e = absurd (omega arith)
entries_same (x ∷ es) (y ∷ fs) h f g e =
    let fx = f 0 x (omega arith) in
    let fy = g 0 y (omega arith) in
    let whole : string x.key ++ (row_digest x.row ++ flat_map entry_bytes es) ≡ string y.key ++ (row_digest y.row ++ flat_map entry_bytes fs)
    = sym (append_assoc (string x.key) (row_digest x.row) (flat_map entry_bytes es)) ∙ e ∙ append_assoc (string y.key) (row_digest y.row) (flat_map entry_bytes fs) in
    let keys = string_told x.key y.key _ _ fx.key fy.key whole in
    let rows = same_pieces (row_digest x.row) (row_digest y.row) _ _ (row_digest_length x.row fx.row ∙ sym (row_digest_length y.row fy.row)) keys.1 in
    (keys.0, rows.0, entries_same es fs (omega arith) (λ k z l. f (suc k) z (omega arith)) (λ k z l. g (suc k) z (omega arith)) rows.1)

nodes_same : (ps qs : RowTrees) → count ps ≡ count qs → FitsEach FitsEntry ps → FitsEach FitsEntry qs → child_bytes row_family ps ≡ child_bytes row_family qs → SameNodes ps qs
nodes_same none none h f g e = tt
nodes_same none (more n q qs) h f g e = absurd (omega arith)
nodes_same (more m p ps) none h f g e = absurd (omega arith)
nodes_same (more m p ps) (more n q qs) h f g e =
    let both = same_pieces (digest p) (digest q) (child_bytes row_family ps) (child_bytes row_family qs) (digest_length p f.0 ∙ sym (digest_length q g.0)) e in
    (both.0, nodes_same ps qs (omega arith) f.1 g.1 both.1)

pub leaf_same : (es fs : List PartEntry) → All FitsEntry es → All FitsEntry fs → leaf_bytes row_family es ≡ leaf_bytes row_family fs → SameEntries es fs
leaf_same es fs f g e =
    let counts : length es ≡ length fs = cc in
    let rest : flat_map entry_bytes es ≡ flat_map entry_bytes fs = cc in
    entries_same es fs counts f g rest

pub inner_same : (ss ts : List (List ℕ)) (ps qs : RowTrees) → FitsPart (inner ss ps) → FitsPart (inner ts qs) → inner_bytes row_family ss ps ≡ inner_bytes row_family ts qs → (ss ≡ ts) × SameNodes ps qs
inner_same ss ts ps qs f g e =
    let counts : count ps ≡ count qs = cc in
    let rest : flat_map string ss ++ child_bytes row_family ps ≡ flat_map string ts ++ child_bytes row_family qs = cc in
    let a : length ss + 1 ≡ count ps = f.2 in
    let b : length ts + 1 ≡ count qs = g.2 in
    let both = strings_told ss ts _ _ (omega arith) f.3 g.3 rest in
    (both.0, nodes_same ps qs counts f.4 g.4 both.1)

pub row_same : (cs ds : List Cell) → All FitsCell cs → All FitsCell ds → row_bytes cs ≡ row_bytes ds → SameCells 0 cs ds
row_same cs ds f g e =
    let counts : length cs ≡ length ds = cc in
    let rest : cell_digests 0 cs ≡ cell_digests 0 ds = cc in
    cells_same 0 cs ds counts f g rest

pub attribute_same : (column : ℕ) (v w : Value) → FitsValue v → FitsValue w → attribute_bytes column v ≡ attribute_bytes column w → v ≡ w
attribute_same column v w f g e =
    let bytes : value_bytes v ≡ value_bytes w = cc in
    (one_value v w [] [] f g (ap (λ b. b ++ []) bytes)).0

-- open nodes of one preimage
pub like : (p t : RowTree) → FitsPart p → FitsPart t → preimage p ≡ preimage t → is_open p ≡ true → IsLike p t
like (stub d) t f g e h = absurd (cc)
like (leaf es) (stub d) f g e h = absurd (cc)
like (leaf es) (leaf fs) f g e h = leaf_same es fs f.1 g.1 e
like (leaf es) (inner ts qs) f g e h = absurd (cc)
like (inner ss ps) (stub d) f g e h = absurd (cc)
like (inner ss ps) (leaf fs) f g e h = absurd (cc)
like (inner ss ps) (inner ts qs) f g e h = inner_same ss ts ps qs f g e
