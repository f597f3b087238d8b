-- Two texts that are the same have the same parts.
use Rattle.std.proofs.Common.{◌≡◌, ℕ, zero, suc, ◌/◌, ◌%◌, ◌<◌, List, [], ◌∷◌, ◌++◌, length, take, drop, refl, sym, ap, ◌∙◌, append_assoc, arith, below_more}
use Rattle.std.specs.Prelude.{Bool, true, false, ◌==◌, if◌then◌else◌}
use Rattle.std.proofs.lemmas.List.{append_cancel_left, length-append, take_at, drop_at}
use Rattle.vo_spec.specs.Bytes.{u16_bytes, u32_bytes, join_pieces}
use Rattle.vo_spec.specs.Ots.{step_text, message_text, public_text}
use Rattle.vo_spec.specs.Lms.{leaf_text, inner_text}
use Rattle.lms_sign.specs.Paths.{parent_text}

pub split : (x y x' y' : List ℕ) → length x ≡ length x' → x ++ y ≡ x' ++ y' → (x ≡ x') × (y ≡ y')
split x y x' y' long same =
    let n = length x' in (
      sym (take_at x y n long) ∙ ap (take n) same ∙ take_at x' y' n refl,
      sym (drop_at x y n long) ∙ ap (drop n) same ∙ drop_at x' y' n refl,
    )

-- the parts of a text behind its front
behind : (front x y x' y' : List ℕ) → length x ≡ length x' → front ++ x ++ y ≡ front ++ x' ++ y' → (x ≡ x') × (y ≡ y')
behind front x y x' y' long same =
    split x y x' y' long
    (append_cancel_left front (x ++ y) (x' ++ y') (sym (append_assoc front x y) ∙ same ∙ append_assoc front x' y'))

pub key_of_leaf_text : (id : List ℕ) (r : ℕ) (key key' : List ℕ) → leaf_text id r key ≡ leaf_text id r key' → key ≡ key'
unfolding leaf_text
key_of_leaf_text id r key key' same = append_cancel_left (id ++ u32_bytes r ++ u16_bytes 0x8282) key key' same

pub value_of_step_text : (id : List ℕ) (q i j : ℕ) (value value' : List ℕ) → step_text id q i j value ≡ step_text id q i j value' → value ≡ value'
unfolding step_text
value_of_step_text id q i j value value' same = append_cancel_left (id ++ u32_bytes q ++ u16_bytes i ++ j ∷ []) value value' same

pub message_of_text : (id : List ℕ) (q : ℕ) (random message random' message' : List ℕ) → length random ≡ length random'
    → message_text id q random message ≡ message_text id q random' message' → message ≡ message'
unfolding message_text
message_of_text id q random message random' message' long same =
    (behind (id ++ u32_bytes q ++ u16_bytes 0x8181) random message random' message' long same).1

node_chosen : (odd : Bool) (id : List ℕ) (r : ℕ) (node sibling node' sibling' : List ℕ)
    → length node ≡ length node' → length sibling ≡ length sibling'
    → (if odd then inner_text id r sibling node else inner_text id r node sibling) ≡ (if odd then inner_text id r sibling' node' else inner_text id r node' sibling')
    → node ≡ node'
unfolding inner_text
node_chosen true id r node sibling node' sibling' a b same =
    (behind (id ++ u32_bytes r ++ u16_bytes 0x8383) sibling node sibling' node' b same).1
node_chosen false id r node sibling node' sibling' a b same =
    (behind (id ++ u32_bytes r ++ u16_bytes 0x8383) node sibling node' sibling' a same).0

pub node_of_text : (id : List ℕ) (r : ℕ) (node sibling node' sibling' : List ℕ)
    → length node ≡ length node' → length sibling ≡ length sibling'
    → parent_text id r node sibling ≡ parent_text id r node' sibling' → node ≡ node'
unfolding parent_text
node_of_text id r node sibling node' sibling' a b same =
    node_chosen (r % 2 == 1) id (r / 2) node sibling node' sibling' a b same

lengths_same : (f g : ℕ → List ℕ) (n : ℕ) → ((k : ℕ) → k < n → length (f k) ≡ length (g k))
    → length (join_pieces f n) ≡ length (join_pieces g n)
unfolding join_pieces
lengths_same f g zero long = refl
lengths_same f g (suc n) long =
    let earlier = lengths_same f g n (λ k inside. long k (omega arith)) in
    let last : length (f n) ≡ length (g n) = long n (omega arith) in
    omega (arith, length-append (join_pieces f n) (f n), length-append (join_pieces g n) (g n), earlier, last)

pieces_same : (f g : ℕ → List ℕ) (n : ℕ) → ((k : ℕ) → k < n → length (f k) ≡ length (g k)) → join_pieces f n ≡ join_pieces g n
    → (i : ℕ) → i < n → f i ≡ g i
unfolding join_pieces
pieces_same f g zero long same i inside = absurd (omega arith)
pieces_same f g (suc n) long same i inside =
    let before : (k : ℕ) → k < n → length (f k) ≡ length (g k) = λ k h. long k (omega arith) in
    let two = split (join_pieces f n) (f n) (join_pieces g n) (g n) (lengths_same f g n before) same in
    let earlier : (k : ℕ) → k < n → f k ≡ g k = pieces_same f g n before two.0 in
    below_more (λ k. f k ≡ g k) n earlier two.1 i (omega arith)

pub ends_of_text : (id : List ℕ) (q : ℕ) (ends ends' : ℕ → List ℕ) (n : ℕ) → ((k : ℕ) → k < n → length (ends k) ≡ length (ends' k))
    → public_text id q (join_pieces ends n) ≡ public_text id q (join_pieces ends' n) → (i : ℕ) → i < n → ends i ≡ ends' i
unfolding public_text
ends_of_text id q ends ends' n long same =
    pieces_same ends ends' n long
    (append_cancel_left (id ++ u32_bytes q ++ u16_bytes 0x8080) (join_pieces ends n) (join_pieces ends' n) same)
