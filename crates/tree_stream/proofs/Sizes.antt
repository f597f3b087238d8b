-- The sizes of tokens: so many of the bytes have that size themselves, and more bytes make it no smaller.
use Rattle.std.proofs.Common.{◌≡◌, ℕ, suc, ◌+◌, ◌<◌, ◌≤◌, Bool, true, false, cond, eqb, leb, ltb, List, [], ◌∷◌, ◌++◌, length, take, refl, sym, ap, ◌∙◌, arith, inl, inr}
use Rattle.std.proofs.lemmas.Bool.{cases_Bool, ltb-false, leb-true}
use Rattle.std.proofs.lemmas.List.{take-append-le, take-take, length-append, length-take-le}
use Rattle.vo_spec.specs.Bytes.{u16_of}
use Rattle.vo_spec.specs.Values.{max_text}
use Rattle.vo_spec.specs.Tables.{max_key}
use Rattle.tree_stream.specs.declared.state.State.{State}
use Rattle.tree_stream.specs.declared.state.State.TheVariants.{Node, Separator, Key, Row, Cell, Complete, Invalid}
use Rattle.tree_stream.specs.Summaries.{is_settled}
use Rattle.tree_stream.specs.Tokens.{node_size, string_size, row_size, value_size, cell_size, token_size}
use Rattle.tree_stream.proofs.WholeTokens.{string_is}

pub record IsSize (size : List ℕ → ℕ) : Type 0 where
  pub front : (bytes : List ℕ) → size bytes ≤ length bytes → size (take (size bytes) bytes) ≡ size bytes
  pub grows : (bytes more : List ℕ) → size bytes ≤ size (bytes ++ more)

pub record IsSmallSize (most : ℕ) (size : List ℕ → ℕ) : Type 0 where
  pub is_size : IsSize size
  pub small : (bytes : List ℕ) → size bytes ≤ most

same_size : (most : ℕ) (size other : List ℕ → ℕ) → IsSmallSize most other → ((bytes : List ℕ) → size bytes ≡ other bytes) → IsSmallSize most size
same_size most size other is same = record {
  is_size = record {
    front = λ bytes le.
        same (take (size bytes) bytes)
        ∙ ap (λ (n : ℕ). other (take n bytes)) (same bytes)
        ∙ is.is_size.front bytes (omega (arith, same bytes, le))
        ∙ sym (same bytes);
    grows = λ bytes more. omega (arith, same bytes, same (bytes ++ more), is.is_size.grows bytes more);
  };
  small = λ bytes. omega (arith, same bytes, is.small bytes);
}

fixed : (most n : ℕ) → n ≤ most → IsSmallSize most (λ bytes. n)
fixed most n le = record { is_size = record { front = λ bytes h. refl; grows = λ bytes more. omega arith }; small = λ bytes. le }

either : (most : ℕ) (test : Bool) (size other : List ℕ → ℕ) → IsSmallSize most size → IsSmallSize most other → IsSmallSize most (λ bytes. cond test (size bytes) (other bytes))
either most true size other is_size is_other = is_size
either most false size other is_size is_other = is_other

-- a byte, and so many more as it says
abbrev size_behind_tag : (ℕ → List ℕ → ℕ) → List ℕ → ℕ
size_behind_tag behind [] = 1
size_behind_tag behind (byte ∷ bytes) = suc (behind byte bytes)

tagged_front : (most : ℕ) (behind : ℕ → List ℕ → ℕ) → ((byte : ℕ) → IsSmallSize most (behind byte)) → (bytes : List ℕ) → size_behind_tag behind bytes ≤ length bytes
    → size_behind_tag behind (take (size_behind_tag behind bytes) bytes) ≡ size_behind_tag behind bytes
tagged_front most behind is [] le = absurd (omega (arith, le))
tagged_front most behind is (byte ∷ bytes) le = ap (λ (n : ℕ). suc n) ((is byte).is_size.front bytes (omega (arith, le)))

tagged_grows : (most : ℕ) (behind : ℕ → List ℕ → ℕ) → ((byte : ℕ) → IsSmallSize most (behind byte)) → (bytes more : List ℕ) → size_behind_tag behind bytes ≤ size_behind_tag behind (bytes ++ more)
tagged_grows most behind is [] [] = omega arith
tagged_grows most behind is [] (byte ∷ more) = omega arith
tagged_grows most behind is (byte ∷ bytes) more = omega (arith, (is byte).is_size.grows bytes more)

tagged_small : (most : ℕ) (behind : ℕ → List ℕ → ℕ) → ((byte : ℕ) → IsSmallSize most (behind byte)) → (bytes : List ℕ) → size_behind_tag behind bytes ≤ suc most
tagged_small most behind is [] = omega arith
tagged_small most behind is (byte ∷ bytes) = omega (arith, (is byte).small bytes)

tagged_size : (most : ℕ) (behind : ℕ → List ℕ → ℕ) → ((byte : ℕ) → IsSmallSize most (behind byte)) → IsSmallSize (suc most) (size_behind_tag behind)
tagged_size most behind is = record {
  is_size = record { front = tagged_front most behind is; grows = tagged_grows most behind is };
  small = tagged_small most behind is;
}

-- Strings.

two : (most : ℕ) (bytes : List ℕ) → 2 ≤ string_size most bytes
unfolding string_size
two most bytes =
    elim (cases_Bool (ltb (length bytes) 2)) [
      | inl t ↦ rw t (omega arith)
      | inr f ↦ elim (cases_Bool (leb (u16_of (take 2 bytes)) most)) [
        | inl t ↦ rw (f, t) (omega arith)
        | inr g ↦ rw (f, g) (omega arith)
      ]
    ]

string_small : (most : ℕ) (bytes : List ℕ) → string_size most bytes ≤ 2 + most
unfolding string_size
string_small most bytes =
    elim (cases_Bool (ltb (length bytes) 2)) [
      | inl t ↦ rw t (omega arith)
      | inr f ↦ elim (cases_Bool (leb (u16_of (take 2 bytes)) most)) [
        | inl t ↦ rw (f, t) (omega (arith, leb-true (u16_of (take 2 bytes)) most t))
        | inr g ↦ rw (f, g) (omega arith)
      ]
    ]

abbrev string_by : ℕ → ℕ → ℕ
string_by most n = cond (leb n most) (2 + n) 2

string_front : (most : ℕ) (bytes : List ℕ) → string_size most bytes ≤ length bytes → string_size most (take (string_size most bytes) bytes) ≡ string_size most bytes
string_front most bytes le =
    let n : ℕ = string_size most bytes in
    let least : 2 ≤ n = two most bytes in
    let len : length (take n bytes) ≡ n = length-take-le n bytes le in
    string_is most (take n bytes) (omega (arith, len, least))
    ∙ ap (λ (t : List ℕ). string_by most (u16_of t)) (take-take 2 n bytes least)
    ∙ sym (string_is most bytes (omega (arith, le, least)))

string_grows : (most : ℕ) (bytes more : List ℕ) → string_size most bytes ≤ string_size most (bytes ++ more)
unfolding string_size
string_grows most bytes more =
    elim (cases_Bool (ltb (length bytes) 2)) [
      | inl t ↦ let short : string_size most bytes ≡ 2 = rw t refl in omega (arith, short, two most (bytes ++ more))
      | inr f ↦
          let long : 2 ≤ length bytes = ltb-false (length bytes) 2 f in
          let same : string_size most (bytes ++ more) ≡ string_size most bytes =
          string_is most (bytes ++ more) (omega (arith, length-append bytes more, long))
          ∙ ap (λ (t : List ℕ). string_by most (u16_of t)) (take-append-le 2 bytes more long)
          ∙ sym (string_is most bytes long) in
          omega (arith, same)
    ]

strings : (most : ℕ) → IsSmallSize (2 + most) (string_size most)
strings most = record { is_size = record { front = string_front most; grows = string_grows most }; small = string_small most }

-- Tokens.

node_by : (a b c : Bool) → cond a 33 (cond b 2 (cond c 2 1)) ≡ suc (cond a 32 (cond b 1 (cond c 1 0)))
node_by true b c = refl
node_by false true c = refl
node_by false false true = refl
node_by false false false = refl

abbrev behind_node : ℕ → List ℕ → ℕ
behind_node byte bytes = cond (eqb byte 0) 32 (cond (eqb byte 1) 1 (cond (eqb byte 2) 1 0))

node_same : (bytes : List ℕ) → node_size bytes ≡ size_behind_tag behind_node bytes
unfolding node_size
node_same [] = refl
node_same (byte ∷ bytes) = node_by (eqb byte 0) (eqb byte 1) (eqb byte 2)

nodes : IsSmallSize 1028 node_size
nodes =
    same_size 1028 node_size (size_behind_tag behind_node) (tagged_size 1027 behind_node
    (λ byte. either 1027 (eqb byte 0) (λ bytes. 32) (λ bytes. cond (eqb byte 1) 1 (cond (eqb byte 2) 1 0)) (fixed 1027 32 (omega arith))
    (either 1027 (eqb byte 1) (λ bytes. 1) (λ bytes. cond (eqb byte 2) 1 0) (fixed 1027 1 (omega arith))
    (either 1027 (eqb byte 2) (λ bytes. 1) (λ bytes. 0) (fixed 1027 1 (omega arith)) (fixed 1027 0 (omega arith)))))) node_same

row_by : (a b : Bool) → cond a 33 (cond b 2 1) ≡ suc (cond a 32 (cond b 1 0))
row_by true b = refl
row_by false true = refl
row_by false false = refl

abbrev behind_row : ℕ → List ℕ → ℕ
behind_row byte bytes = cond (eqb byte 0) 32 (cond (eqb byte 1) 1 0)

row_same : (bytes : List ℕ) → row_size bytes ≡ size_behind_tag behind_row bytes
unfolding row_size
row_same [] = refl
row_same (byte ∷ bytes) = row_by (eqb byte 0) (eqb byte 1)

rows : IsSmallSize 1028 row_size
rows =
    same_size 1028 row_size (size_behind_tag behind_row) (tagged_size 1027 behind_row
    (λ byte. either 1027 (eqb byte 0) (λ bytes. 32) (λ bytes. cond (eqb byte 1) 1 0) (fixed 1027 32 (omega arith))
    (either 1027 (eqb byte 1) (λ bytes. 1) (λ bytes. 0) (fixed 1027 1 (omega arith)) (fixed 1027 0 (omega arith))))) row_same

value_by : (a b c : Bool) (n : ℕ) → cond a 9 (cond b (suc n) (cond c 2 1)) ≡ suc (cond a 8 (cond b n (cond c 1 0)))
value_by true b c n = refl
value_by false true c n = refl
value_by false false true n = refl
value_by false false false n = refl

abbrev behind_value : ℕ → List ℕ → ℕ
behind_value byte bytes = cond (eqb byte 1) 8 (cond (eqb byte 2) (string_size max_text bytes) (cond (eqb byte 3) 1 0))

value_same : (bytes : List ℕ) → value_size bytes ≡ size_behind_tag behind_value bytes
unfolding value_size
value_same [] = refl
value_same (byte ∷ bytes) = value_by (eqb byte 1) (eqb byte 2) (eqb byte 3) (string_size max_text bytes)

values : IsSmallSize 1027 value_size
values =
    same_size 1027 value_size (size_behind_tag behind_value) (tagged_size 1026 behind_value
    (λ byte. either 1026 (eqb byte 1) (λ bytes. 8) (λ bytes. cond (eqb byte 2) (string_size max_text bytes) (cond (eqb byte 3) 1 0)) (fixed 1026 8 (omega arith))
    (either 1026 (eqb byte 2) (string_size max_text) (λ bytes. cond (eqb byte 3) 1 0) (strings max_text)
    (either 1026 (eqb byte 3) (λ bytes. 1) (λ bytes. 0) (fixed 1026 1 (omega arith)) (fixed 1026 0 (omega arith)))))) value_same

cell_by : (a b : Bool) (n : ℕ) → cond a 33 (cond b (suc n) 1) ≡ suc (cond a 32 (cond b n 0))
cell_by true b n = refl
cell_by false true n = refl
cell_by false false n = refl

abbrev behind_cell : ℕ → List ℕ → ℕ
behind_cell byte bytes = cond (eqb byte 0) 32 (cond (eqb byte 1) (value_size bytes) 0)

cell_same : (bytes : List ℕ) → cell_size bytes ≡ size_behind_tag behind_cell bytes
unfolding cell_size
cell_same [] = refl
cell_same (byte ∷ bytes) = cell_by (eqb byte 0) (eqb byte 1) (value_size bytes)

cells : IsSmallSize 1028 cell_size
cells =
    same_size 1028 cell_size (size_behind_tag behind_cell) (tagged_size 1027 behind_cell
    (λ byte. either 1027 (eqb byte 0) (λ bytes. 32) (λ bytes. cond (eqb byte 1) (value_size bytes) 0) (fixed 1027 32 (omega arith))
    (either 1027 (eqb byte 1) value_size (λ bytes. 0) values (fixed 1027 0 (omega arith))))) cell_same

pub token_is : (state : State) → IsSize (token_size state)
unfolding token_size
token_is (Node visited) = nodes.is_size
token_is (Separator head) = (strings max_key).is_size
token_is (Key leaf) = (strings max_key).is_size
token_is (Row leaf) = rows.is_size
token_is (Cell row) = cells.is_size
token_is (Complete digest) = record { front = λ bytes le. absurd (omega (arith, le)); grows = λ bytes more. omega (arith, length-append bytes more) }
token_is Invalid = record { front = λ bytes le. absurd (omega (arith, le)); grows = λ bytes more. omega (arith, length-append bytes more) }

pub token_small : (state : State) (bytes : List ℕ) → is_settled state ≡ false → token_size state bytes ≤ 1028
unfolding token_size
token_small (Node visited) bytes reading = nodes.small bytes
token_small (Separator head) bytes reading = omega (arith, string_small max_key bytes)
token_small (Key leaf) bytes reading = omega (arith, string_small max_key bytes)
token_small (Row leaf) bytes reading = rows.small bytes
token_small (Cell row) bytes reading = cells.small bytes
token_small (Complete digest) bytes reading = absurd cc
token_small Invalid bytes reading = absurd cc

-- no token is whole before its first byte
pub token_positive : (state : State) → 0 < token_size state []
unfolding token_size node_size string_size row_size cell_size
token_positive (Node visited) = omega arith
token_positive (Separator head) = omega arith
token_positive (Key leaf) = omega arith
token_positive (Row leaf) = omega arith
token_positive (Cell row) = omega arith
token_positive (Complete digest) = omega arith
token_positive Invalid = omega arith
