-- What whole tokens are the encoding of, and which begin nothing.
use Rattle.std.proofs.Common.{◌≡◌, ℕ, suc, ◌+◌, ◌-◌, ◌<◌, ◌≤◌, Bool, true, false, cond, eqb, leb, ltb, List, [], ◌∷◌, ◌++◌, length, take, drop, Option, Some, None, Result, Err, refl, sym, ap, ◌∙◌, append_assoc, append-nil, arith, inl, inr}
use Rattle.std.specs.Int.{w64, cast_signed}
use Rattle.std.specs.Result.{result_ok}
use Rattle.std.proofs.lemmas.Bool.{cases_lt, cases_Bool, ltb-false, lt-ltb, le-ltb, leb-true, le-leb, lt-leb, ne_eqb}
use Rattle.std.proofs.lemmas.List.{take_at, take-append-drop, take-append-le, drop-append-le, length-append, length-take-le, length-drop}
use Rattle.vo_spec.specs.declared.values.Value.{Value}
use Rattle.vo_spec.specs.declared.values.Value.TheVariants.{Null, Int, Text, Bool as Truth}
use Rattle.vo_spec.specs.declared.cells.Cell.{Cell}
use Rattle.vo_spec.specs.declared.cells.Cell.TheVariants.{Shown}
use Rattle.vo_spec.specs.declared.cells.RowPart.{RowPart}
use Rattle.vo_spec.specs.declared.cells.RowPart.TheVariants.{Cells}
use Rattle.vo_spec.specs.Bytes.{IsBytes, u16_bytes, u16_of, u64_of, string}
use Rattle.vo_spec.specs.Values.{value_bytes, FitsValue, max_text}
use Rattle.vo_spec.specs.Firsts.{unless}
use Rattle.vo_spec.specs.Tables.{max_key}
use Rattle.vo_spec.specs.Parts.{leaf}
use Rattle.vo_spec.specs.Fits.{max_fill, max_cells}
use Rattle.vo_spec.specs.Trees.{RowTree}
use Rattle.row_bytes.specs.declared.fault.FormFault.{FormFault}
use Rattle.row_bytes.specs.declared.fault.FormFault.TheVariants.{Short}
use Rattle.row_bytes.specs.Reading.{bytes_at, u16_at, value_at, int_at, text_at, bool_at, text_fault}
use Rattle.row_bytes.specs.Fields.{◌>>=◌, where_true, string_at, times}
use Rattle.row_bytes.proofs.Readers.{IsBytes-take}
use Rattle.row_bytes.proofs.ValueLaws.{u16_same, u16_again, u16_length, u64_length}
use Rattle.batch_format.specs.BatchReading.{Reader, one, two, any_value_at}
use Rattle.batch_format.proofs.ReaderLaws.{all_true}
use Rattle.batch_format.specs.TreeReading.{count_within, key_at, cell_at, cells_at, row_at, entry_at, leaf_at, inner_at, inner_node, node_at}
use Rattle.tree_stream.specs.Tokens.{string_size, value_size}
use Rattle.tree_stream.proofs.Binds.{bind_none}

-- Nodes, rows and cells that are none.

pub no_leaf : (child : Reader RowTree) (bytes : List ℕ) → count_within 0 max_fill bytes ≡ None → node_at child (1 ∷ bytes) ≡ None
unfolding node_at leaf_at
no_leaf child bytes none = bind_none (count_within 0 max_fill bytes) (λ count. one leaf (times entry_at count.0) count.1) none

pub no_inner : (child : Reader RowTree) (bytes : List ℕ) → count_within 2 max_fill bytes ≡ None → node_at child (2 ∷ bytes) ≡ None
unfolding node_at inner_at
no_inner child bytes none = bind_none (count_within 2 max_fill bytes) (λ count. two inner_node (times key_at (count.0 - 1)) (times child count.0) count.1) none

pub no_node : (child : Reader RowTree) (byte : ℕ) (bytes : List ℕ) → (byte ≡ 0 → ⊥) → (byte ≡ 1 → ⊥) → (byte ≡ 2 → ⊥) → node_at child (byte ∷ bytes) ≡ None
unfolding node_at
no_node child byte bytes a b c = rw (ne_eqb byte 0 a, ne_eqb byte 1 b, ne_eqb byte 2 c) refl

pub no_cells : (bytes : List ℕ) → count_within 0 max_cells bytes ≡ None → row_at (1 ∷ bytes) ≡ None
unfolding row_at cells_at
no_cells bytes none =
    let open_row : List Cell × List ℕ → Option (RowPart × List ℕ) = λ cells. Some (Cells cells.0, cells.1) in
    ap (λ (o : Option (ℕ × List ℕ)). (o >>= λ count. times cell_at count.0 count.1) >>= open_row) none

pub no_row_begins : (byte : ℕ) (bytes : List ℕ) → (byte ≡ 0 → ⊥) → (byte ≡ 1 → ⊥) → row_at (byte ∷ bytes) ≡ None
unfolding row_at
no_row_begins byte bytes a b = rw (ne_eqb byte 0 a, ne_eqb byte 1 b) refl

pub no_shown : (bytes : List ℕ) → any_value_at bytes ≡ None → cell_at (1 ∷ bytes) ≡ None
unfolding cell_at
no_shown bytes none =
    let show : Value × List ℕ → Option (Cell × List ℕ) = λ v. Some (Shown v.0, v.1) in
    bind_none (any_value_at bytes) show none

pub no_cell_begins : (byte : ℕ) (bytes : List ℕ) → (byte ≡ 0 → ⊥) → (byte ≡ 1 → ⊥) → cell_at (byte ∷ bytes) ≡ None
unfolding cell_at
no_cell_begins byte bytes a b = rw (ne_eqb byte 0 a, ne_eqb byte 1 b) refl

-- Strings behind their length.

pub string_is : (most : ℕ) (bytes : List ℕ) → 2 ≤ length bytes → string_size most bytes ≡ cond (leb (u16_of (take 2 bytes)) most) (2 + u16_of (take 2 bytes)) 2
unfolding string_size
string_is most bytes long = rw (le-ltb (length bytes) 2 long) refl

pub string_long : (most : ℕ) (bytes : List ℕ) → length bytes ≡ string_size most bytes → 2 ≤ length bytes
unfolding string_size
string_long most bytes len =
    elim (cases_Bool (ltb (length bytes) 2)) [
      | inl t ↦ let size : string_size most bytes ≡ 2 = rw t refl in omega (arith, len, size)
      | inr f ↦ ltb-false (length bytes) 2 f
    ]

-- how long the string is, where it is within the limit
string_whole : (most : ℕ) (bytes : List ℕ) → length bytes ≡ string_size most bytes → u16_of (take 2 bytes) ≤ most → length (drop 2 bytes) ≡ u16_of (take 2 bytes)
string_whole most bytes len few =
    let n : ℕ = u16_of (take 2 bytes) in
    let size : string_size most bytes ≡ 2 + n = string_is most bytes (string_long most bytes len) ∙ ap (λ (b : Bool). cond b (2 + n) 2) (le-leb n most few) in
    omega (arith, length-drop 2 bytes, len, size)

pub key_token : (token : List ℕ) → IsBytes token → length token ≡ string_size max_key token → u16_of (take 2 token) ≤ max_key
    → (token ≡ string (drop 2 token)) × (length (drop 2 token) ≤ max_key)
key_token token fits len few =
    let long : 2 ≤ length token = string_long max_key token len in
    let all : length (drop 2 token) ≡ u16_of (take 2 token) = string_whole max_key token len few in (
      sym (take-append-drop 2 token)
          ∙ ap (λ (t : List ℕ). t ++ drop 2 token) (sym (u16_same (take 2 token) (length-take-le 2 token long) (IsBytes-take 2 token fits)))
          ∙ ap (λ (n : ℕ). u16_bytes n ++ drop 2 token) (sym all),
      omega (arith, all, few),
    )

u16_front : (token rest : List ℕ) → 2 ≤ length token → u16_at (token ++ rest) ≡ Some (u16_of (take 2 token), drop 2 token ++ rest)
unfolding u16_at
u16_front token rest long =
    rw (le-ltb (length (token ++ rest)) 2 (omega (arith, length-append token rest, long)), take-append-le 2 token rest long, drop-append-le 2 token rest long) refl

long_key : (n : ℕ) (bytes : List ℕ) → max_key < n → (bytes_at n bytes >>= λ key. where_true (leb (length key.0) max_key) key) ≡ None
unfolding bytes_at
long_key n bytes more =
    elim (cases_Bool (ltb (length bytes) n)) [
      | inl t ↦ rw t refl
      | inr f ↦ rw (f, length-take-le n bytes (ltb-false (length bytes) n f), lt-leb n max_key more) refl
    ]

pub no_key_token : (token rest : List ℕ) → length token ≡ string_size max_key token → max_key < u16_of (take 2 token) → key_at (token ++ rest) ≡ None
unfolding key_at string_at
no_key_token token rest len more =
    ap (λ (o : Option (ℕ × List ℕ)). (o >>= λ count. bytes_at count.0 count.1) >>= λ key. where_true (leb (length key.0) max_key) key) (u16_front token rest (string_long max_key token len))
    ∙ long_key (u16_of (take 2 token)) (drop 2 token ++ rest) more

-- Values.

text_short : (s : List ℕ) → FitsValue (Text s) → length s ≤ max_text
text_short s fits = leb-true (length s) max_text (all_true _ _ (all_true _ _ fits).0).0

text_whole : (s rest : List ℕ) → length s ≤ max_text → string_size max_text (string s ++ rest) ≡ length (string s)
text_whole s rest few =
    let n : ℕ = length s in
    let bytes : List ℕ = string s ++ rest in
    let front : take 2 bytes ≡ u16_bytes n = ap (take 2) (append_assoc (u16_bytes n) s rest) ∙ take_at (u16_bytes n) (s ++ rest) 2 (u16_length n) in
    let counted : u16_of (take 2 bytes) ≡ n = ap u16_of front ∙ u16_again n (omega (arith, few)) in
    let all : length (string s) ≡ 2 + n = omega (arith, length-append (u16_bytes n) s, u16_length n) in
    string_is max_text bytes (omega (arith, length-append (string s) rest, all))
    ∙ ap (λ (m : ℕ). cond (leb m max_text) (2 + m) 2) counted
    ∙ ap (λ (b : Bool). cond b (2 + n) 2) (le-leb n max_text few)
    ∙ sym all

value_whole : (v : Value) (rest : List ℕ) → FitsValue v → value_size (value_bytes v ++ rest) ≡ length (value_bytes v)
unfolding value_size
value_whole Null rest fits = refl
value_whole (Int z) rest fits = sym (ap (λ (n : ℕ). suc n) (u64_length _))
value_whole (Text s) rest fits = ap (λ (n : ℕ). suc n) (text_whole s rest (text_short s fits))
value_whole (Truth b) rest fits = refl

nothing_behind : (front rest : List ℕ) → length (front ++ rest) ≡ length front → front ++ rest ≡ front
nothing_behind front [] len = append-nil front
nothing_behind front (byte ∷ rest) len = absurd (omega (arith, length-append front (byte ∷ rest), len))

pub value_token : (v : Value) (bytes rest : List ℕ) → FitsValue v → length bytes ≡ value_size bytes → bytes ≡ value_bytes v ++ rest → bytes ≡ value_bytes v
value_token v bytes rest fits len parts =
    parts ∙ nothing_behind (value_bytes v) rest (sym (ap (λ (t : List ℕ). length t) parts) ∙ len ∙ ap value_size parts ∙ value_whole v rest fits)

abbrev Read : Type 0
Read = Value × List ℕ

abbrev text_result : Bool → Bool → Option FormFault → Read → Result Read FormFault
text_result no_length no_text fault x = cond no_length (Err Short) (cond no_text (Err Short) (unless fault x))

text_in : List ℕ → List ℕ
text_in bytes = take (u16_of (take 2 bytes)) (drop 2 bytes)

text_read : List ℕ → Read
text_read bytes = (Text (text_in bytes), drop (u16_of (take 2 bytes)) (drop 2 bytes))

text_is : (bytes : List ℕ) → text_at bytes ≡ text_result (ltb (length bytes) 2) (ltb (length (drop 2 bytes)) (u16_of (take 2 bytes))) (text_fault max_text (text_in bytes)) (text_read bytes)
unfolding text_at text_read text_in
text_is bytes = refl

fault_stays : (no_length no_text : Bool) (fault : Option FormFault) (x y : Read) → result_ok (text_result false false fault x) ≡ None → result_ok (text_result no_length no_text fault y) ≡ None
fault_stays true no_text fault x y none = refl
fault_stays false true fault x y none = refl
fault_stays false false None x y none = absurd cc
fault_stays false false (Some fault) x y none = refl

too_long : (no_length no_text : Bool) (text : List ℕ) (x : Read) → (no_text ≡ false → max_text < length text) → result_ok (text_result no_length no_text (text_fault max_text text) x) ≡ None
too_long true no_text text x long = refl
too_long false true text x long = refl
too_long false false text x long = rw (lt-ltb max_text (length text) (long refl)) refl

text_none : (bytes more : List ℕ) → length bytes ≡ string_size max_text bytes → result_ok (text_at bytes) ≡ None → result_ok (text_at (bytes ++ more)) ≡ None
unfolding text_in
text_none bytes more len none =
    let n : ℕ = u16_of (take 2 bytes) in
    let all : List ℕ = bytes ++ more in
    let m : ℕ = u16_of (take 2 all) in
    let long : 2 ≤ length bytes = string_long max_text bytes len in
    let count : m ≡ n = ap u16_of (take-append-le 2 bytes more long) in
    let no_length : Bool = ltb (length all) 2 in
    let no_text : Bool = ltb (length (drop 2 all)) m in
    elim (cases_lt max_text n) [
      | inl beyond ↦
          ap result_ok (text_is all)
          ∙ too_long no_length no_text (text_in all) (text_read all)
          (λ e. omega (arith, length-take-le m (drop 2 all) (ltb-false (length (drop 2 all)) m e), count, beyond))
      | inr few ↦
          let whole : length (drop 2 bytes) ≡ n = string_whole max_text bytes len few in
          let same : text_in all ≡ text_in bytes =
          ap (λ (k : ℕ). take k (drop 2 all)) count
          ∙ ap (take n) (drop-append-le 2 bytes more long)
          ∙ take-append-le n (drop 2 bytes) more (omega (arith, whole)) in
          let fault : Option FormFault = text_fault max_text (text_in bytes) in
          let x : Read = text_read bytes in
          let old : result_ok (text_result false false fault x) ≡ None =
          sym (ap (λ (b : Bool). result_ok (text_result b (ltb (length (drop 2 bytes)) n) fault x)) (le-ltb (length bytes) 2 long)
          ∙ ap (λ (b : Bool). result_ok (text_result false b fault x)) (le-ltb (length (drop 2 bytes)) n (omega (arith, whole))))
          ∙ sym (ap result_ok (text_is bytes)) ∙ none in
          ap result_ok (text_is all)
          ∙ ap (λ (t : List ℕ). result_ok (text_result no_length no_text (text_fault max_text t) (text_read all))) same
          ∙ fault_stays no_length no_text fault x (text_read all) old
    ]

bool_none : (bytes more : List ℕ) → length bytes ≡ 1 → result_ok (bool_at bytes) ≡ None → result_ok (bool_at (bytes ++ more)) ≡ None
unfolding bool_at
bool_none [] more len none = absurd (omega (arith, len))
bool_none (byte ∷ bytes) more len none =
    elim (cases_Bool (ltb byte 2)) [
      | inl t ↦ let read : result_ok (bool_at (byte ∷ bytes)) ≡ Some (Truth (eqb byte 1), bytes) = rw t refl in absurd cc
      | inr f ↦ rw f refl
    ]

pub value_none : (bytes more : List ℕ) → length bytes ≡ value_size bytes → any_value_at bytes ≡ None → any_value_at (bytes ++ more) ≡ None
unfolding any_value_at value_at value_size int_at
value_none [] more len none = absurd (omega (arith, len))
value_none (kind ∷ bytes) more len none =
    elim (cases_Bool (eqb kind 0)) [
      | inl n ↦
          let read : any_value_at (kind ∷ bytes) ≡ Some (Null, bytes) = rw n refl in
          absurd cc
      | inr n ↦ elim (cases_Bool (eqb kind 1)) [
        | inl t ↦
            let size : value_size (kind ∷ bytes) ≡ 9 = rw t refl in
            let eight : 8 ≤ length bytes = omega (arith, len, size) in
            let read : any_value_at (kind ∷ bytes) ≡ Some (Int (cast_signed w64 (u64_of (take 8 bytes))), drop 8 bytes) = rw (n, t, le-ltb (length bytes) 8 eight) refl in
            absurd cc
        | inr f ↦ elim (cases_Bool (eqb kind 2)) [
          | inl t ↦
              let size : value_size (kind ∷ bytes) ≡ suc (string_size max_text bytes) = rw (f, t) refl in
              let old : result_ok (text_at bytes) ≡ any_value_at (kind ∷ bytes) = rw (n, f, t) refl in
              let new : any_value_at (kind ∷ bytes ++ more) ≡ result_ok (text_at (bytes ++ more)) = rw (n, f, t) refl in
              new ∙ text_none bytes more (omega (arith, len, size)) (old ∙ none)
          | inr g ↦ elim (cases_Bool (eqb kind 3)) [
            | inl t ↦
                let size : value_size (kind ∷ bytes) ≡ 2 = rw (f, g, t) refl in
                let old : result_ok (bool_at bytes) ≡ any_value_at (kind ∷ bytes) = rw (n, f, g, t) refl in
                let new : any_value_at (kind ∷ bytes ++ more) ≡ result_ok (bool_at (bytes ++ more)) = rw (n, f, g, t) refl in
                new ∙ bool_none bytes more (omega (arith, len, size)) (old ∙ none)
            | inr h ↦ rw (n, f, g, h) refl
          ]
        ]
      ]
    ]
