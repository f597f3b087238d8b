-- Valid signatures of keys of one level and of two.
use Rattle.std.proofs.Common.{◌≡◌, ℕ, suc, ◌+◌, ◌*◌, ◌/◌, ◌%◌, ◌^◌, ◌<◌, ◌≤◌, List, length, take, drop, Some, None, refl, sym, ap, ◌∙◌, subst, add-zero, arith}
use Rattle.std.specs.Prelude.{◌≢◌, Bool, true, false, nat_le, ◌==◌, ◌&&◌, if◌then◌else◌, bytes_eq}
use Rattle.std.specs.Option.{option_map_or}
use Rattle.std.proofs.lemmas.Bool.{and_parts, eqb-true, cond-true, cond-false}
use Rattle.std.proofs.lemmas.List.{get_or-drop, get_or-take}
use Rattle.std.proofs.lemmas.Nat.{div-add-mod'}
use Rattle.std.proofs.lemmas.Slice.Eq.{bytes_eq-Decides}
use Rattle.std.proofs.Math.Nat.{div-eq_of_lt-le}
use Rattle.vo_spec.specs.declared.records.Record.{Record}
use Rattle.vo_spec.specs.declared.signatures.Levels.{Levels}
use Rattle.vo_spec.specs.declared.signatures.Levels.TheVariants.{One, Two}
use Rattle.vo_spec.specs.Bytes.{u32_at}
use Rattle.vo_spec.specs.LmsSets.{lms_of, leaves_of, lms_signature_len}
use Rattle.vo_spec.specs.Lms.{tree_valid, tree_leaves, tree_signature_len}
use Rattle.vo_spec.specs.Keys.{key_bytes, upper_signature, lower_key, lower_signature, valid_by, pair_valid, lms_valid, leaf_by, leaf_of}
use Rattle.vo_spec.specs.SecretTrees.{SecretTree, tree_node, public_of_tree}
use Rattle.vo_spec.specs.Secret.{Secret, lower_tree, public_of_secret}
use Rattle.vo_laws.proofs.KeyLaws.{length-public_of_tree}
use Rattle.lms_sign.proofs.Keys.{leaves_few, pair_tests, valid-key, valid_by_two, leaf_of-key, leaf_count-key, tree_leaves-bytes, tree_signature_len-bytes}
use Rattle.lms_sign.proofs.ValidSignatures.{told_of_valid, id_of_valid}
use Rattle.lms_forge.specs.Forgeries.{forgery_by, forgery_of, forgery_of_upper, forgery_of_lower}

-- The leaf that a valid signature of a tree says.

chosen : (long : Bool) (n m : ℕ) → (if long then Some n else None) ≡ Some m → n ≡ m
chosen true n m e = cc
chosen false n m e = absurd cc

valid_whole : (tree message signature : List ℕ) → tree_valid tree message signature ≡ true → length tree ≡ 56
unfolding tree_valid
valid_whole tree message signature valid = eqb-true (length tree) 56 (and_parts (length tree == 56) _ valid).0

pub leaf_told : (tree message signature : List ℕ) → tree_valid tree message signature ≡ true → u32_at signature 0 < tree_leaves tree
leaf_told tree message signature valid =
    let whole = valid_whole tree message signature valid in
    let is = told_of_valid tree message signature (valid-key One tree message signature whole ∙ valid) in
    let leaf : u32_at signature 0 ≡ is.leaf =
    chosen (nat_le 4 (length signature)) (u32_at signature 0) is.leaf (sym (leaf_of-key One tree signature whole) ∙ is.leaf_is) in
    let inside : is.leaf < tree_leaves tree = subst (λ n. is.leaf < n) (leaf_count-key One tree whole) is.leaf_in in
    subst (λ n. n < tree_leaves tree) (sym leaf) inside

pub leaves_told : (tree : SecretTree) → tree_leaves (public_of_tree tree) ≡ leaves_of tree.lms
unfolding public_of_tree
leaves_told tree = tree_leaves-bytes tree.lms tree.ots tree.id (tree_node tree 1)

-- Of one level.

valid_by_levels : (levels : Levels) (tree : SecretTree) (message signature : List ℕ) → length tree.id ≡ 16
    → lms_valid (key_bytes levels (public_of_tree tree)) message signature ≡ true
    → valid_by levels (key_bytes levels (public_of_tree tree)) message signature ≡ true
valid_by_levels levels tree message signature sixteen valid =
    sym (valid-key levels (public_of_tree tree) message signature (length-public_of_tree tree sixteen)) ∙ valid

leaf_by_levels : (levels : Levels) (tree : SecretTree) (signature : List ℕ) (version : ℕ) → length tree.id ≡ 16
    → leaf_of (key_bytes levels (public_of_tree tree)) signature ≡ Some version
    → leaf_by levels (public_of_tree tree) signature ≡ Some version
leaf_by_levels levels tree signature version sixteen leaf =
    sym (leaf_of-key levels (public_of_tree tree) signature (length-public_of_tree tree sixteen)) ∙ leaf

pub valid_at : (levels : Levels) (secret : Secret) (message signature : List ℕ) → secret.levels ≡ levels
    → lms_valid (public_of_secret secret) message signature ≡ true
    → valid_by levels (key_bytes levels (public_of_tree secret.tree)) message signature ≡ true
unfolding public_of_secret
valid_at levels secret message signature is valid =
    let sixteen = id_of_valid secret message signature valid in
    subst (λ l. valid_by l (key_bytes l (public_of_tree secret.tree)) message signature ≡ true) is
    (valid_by_levels secret.levels secret.tree message signature sixteen valid)

pub leaf_at : (levels : Levels) (secret : Secret) (message signature : List ℕ) (version : ℕ) → secret.levels ≡ levels
    → lms_valid (public_of_secret secret) message signature ≡ true → leaf_of (public_of_secret secret) signature ≡ Some version
    → leaf_by levels (public_of_tree secret.tree) signature ≡ Some version
unfolding public_of_secret
leaf_at levels secret message signature version is valid leaf =
    let sixteen = id_of_valid secret message signature valid in
    subst (λ l. leaf_by l (public_of_tree secret.tree) signature ≡ Some version) is
    (leaf_by_levels secret.levels secret.tree signature version sixteen leaf)

pub one_leaf : (secret : Secret) (message signature : List ℕ) (version : ℕ) → secret.levels ≡ One
    → lms_valid (public_of_secret secret) message signature ≡ true → leaf_of (public_of_secret secret) signature ≡ Some version
    → u32_at signature 0 ≡ version
one_leaf secret message signature version is valid leaf =
    chosen (nat_le 4 (length signature)) (u32_at signature 0) version (leaf_at One secret message signature version is valid leaf)

pub pair_valid_at : (secret : Secret) (message signature : List ℕ) → secret.levels ≡ Two
    → lms_valid (public_of_secret secret) message signature ≡ true → pair_valid (public_of_tree secret.tree) message signature ≡ true
pair_valid_at secret message signature is valid =
    sym (valid_by_two (public_of_tree secret.tree) message signature) ∙ valid_at Two secret message signature is valid

pub one_small : (secret : Secret) (message signature : List ℕ) (version : ℕ) → secret.levels ≡ One
    → lms_valid (public_of_secret secret) message signature ≡ true → leaf_of (public_of_secret secret) signature ≡ Some version
    → version < 2 ^ 32
one_small secret message signature version is valid leaf =
    let tree = secret.tree in
    let told = leaf_told (public_of_tree tree) message signature (valid_at One secret message signature is valid) in
    omega (arith, told, leaves_told tree, leaves_few tree.lms, one_leaf secret message signature version is valid leaf)

-- Of two levels.

number_behind : (bytes : List ℕ) (n : ℕ) → u32_at (drop n bytes) 0 ≡ u32_at bytes n
unfolding u32_at
number_behind bytes n =
    rw (get_or-drop n bytes 0 0, get_or-drop n bytes 1 0, get_or-drop n bytes 2 0, get_or-drop n bytes 3 0, add-zero) refl

number_within : (bytes : List ℕ) (n : ℕ) → 4 ≤ n → u32_at (take n bytes) 0 ≡ u32_at bytes 0
unfolding u32_at
number_within bytes n long =
    rw (
      get_or-take n bytes 0 0 (omega (arith, long)),
      get_or-take n bytes 1 0 (omega (arith, long)),
      get_or-take n bytes 2 0 (omega (arith, long)),
      get_or-take n bytes 3 0 (omega (arith, long)),
    ) refl

divided : (a b n v : ℕ) → b < n → a * n + b ≡ v → (v / n ≡ a) × (v % n ≡ b)
divided a b n v below is =
    let next : suc a * n ≡ a * n + n = omega arith in
    let quotient : v / n ≡ a = div-eq_of_lt-le {k = a} n {m = v} (omega (arith, is)) (omega (arith, is, next, below)) in
    let whole = div-add-mod' v n in
    (quotient, omega (arith, is, subst (λ d. d * n + v % n ≡ v) quotient whole))

len_told : (tree : SecretTree) → tree_signature_len (public_of_tree tree) ≡ lms_signature_len tree.lms tree.ots
unfolding public_of_tree
len_told tree = tree_signature_len-bytes tree.lms tree.ots tree.id (tree_node tree 1)

-- what a valid signature of two levels is like, by the leaf of a version
pub record IsByPair (tree : SecretTree) (message signature : List ℕ) (version : ℕ) : Type 0 where
  pub is : (length signature == 60 + 2 * tree_signature_len (public_of_tree tree)) && (u32_at signature 0 == 1) ≡ true
  pub upper_valid : tree_valid (public_of_tree tree) (lower_key (public_of_tree tree) signature)
      (upper_signature (public_of_tree tree) signature) ≡ true
  pub lower_valid : tree_valid (lower_key (public_of_tree tree) signature) message
      (lower_signature (public_of_tree tree) signature) ≡ true
  pub upper_leaf : u32_at (upper_signature (public_of_tree tree) signature) 0 ≡ version / leaves_of tree.lms
  pub lower_leaf : u32_at (lower_signature (public_of_tree tree) signature) 0 ≡ version % leaves_of tree.lms
  pub upper_small : version / leaves_of tree.lms < 2 ^ 32
  pub lower_small : version % leaves_of tree.lms < 2 ^ 32

pub by_pair : (tree : SecretTree) (message signature : List ℕ) (version : ℕ) → pair_valid (public_of_tree tree) message signature ≡ true
    → leaf_by Two (public_of_tree tree) signature ≡ Some version → IsByPair tree message signature version
by_pair tree message signature version valid leaf =
    let upper = public_of_tree tree in
    let lower = lower_key upper signature in
    let n = tree_signature_len upper in
    let leaves = leaves_of tree.lms in
    let tests = and_parts _ _ (sym (pair_tests upper message signature) ∙ valid) in
    let more = and_parts _ _ tests.1 in
    let alike = and_parts (u32_at lower 0 == u32_at upper 0) (u32_at lower 4 == u32_at upper 4) more.0 in
    let both = and_parts (tree_valid upper lower (upper_signature upper signature)) _ more.1 in
    let len = eqb-true (length signature) (60 + 2 * n) (and_parts _ _ tests.0).0 in
    let same : tree_leaves lower ≡ tree_leaves upper =
    ap (λ c. option_map_or leaves_of (lms_of c) 0) (eqb-true (u32_at lower 0) (u32_at upper 0) alike.0) in
    let first = leaf_told upper lower (upper_signature upper signature) both.0 in
    let second = leaf_told lower message (lower_signature upper signature) both.1 in
    let first_in : u32_at (upper_signature upper signature) 0 < leaves = subst (λ m. u32_at (upper_signature upper signature) 0 < m) (leaves_told tree) first in
    let second_in : u32_at (lower_signature upper signature) 0 < leaves = subst (λ m. u32_at (lower_signature upper signature) 0 < m) (same ∙ leaves_told tree) second in
    let long : 4 ≤ n = omega (arith, len_told tree) in
    let at_four : u32_at (upper_signature upper signature) 0 ≡ u32_at signature 4 =
    number_within (drop 4 signature) n long ∙ number_behind signature 4 in
    let at_end : u32_at (lower_signature upper signature) 0 ≡ u32_at signature (60 + n) = number_behind signature (60 + n) in
    let said : u32_at signature 4 * tree_leaves upper + u32_at signature (60 + n) ≡ version =
    chosen (nat_le (60 + n + 4) (length signature)) (u32_at signature 4 * tree_leaves upper + u32_at signature (60 + n)) version leaf in
    let sum : u32_at (upper_signature upper signature) 0 * leaves + u32_at (lower_signature upper signature) 0 ≡ version =
    rw (at_four, at_end, ← leaves_told tree) said in
    let parts = divided (u32_at (upper_signature upper signature) 0) (u32_at (lower_signature upper signature) 0) leaves version second_in sum in
    let few = leaves_few tree.lms in
    record {
      is = tests.0;
      upper_valid = both.0;
      lower_valid = both.1;
      upper_leaf = sym parts.0;
      lower_leaf = sym parts.1;
      upper_small = rw parts.0 (omega (arith, few, first_in));
      lower_small = rw parts.1 (omega (arith, few, second_in));
    }

-- Which forgery it is.

pub forgery_at : (levels : Levels) (secret : Secret) (signed : List Record) (rec : Record) (signature : List ℕ) → secret.levels ≡ levels
    → forgery_by levels secret.tree signed rec signature ≡ forgery_of secret signed rec signature
unfolding forgery_of
forgery_at levels secret signed rec signature is = ap (λ l. forgery_by l secret.tree signed rec signature) (sym is)

-- the owner's key of the lower tree that a version is in
abbrev own_key : SecretTree → ℕ → List ℕ
own_key tree version = public_of_tree (lower_tree tree (version / leaves_of tree.lms))

pub by_lower : (tree : SecretTree) (signed : List Record) (rec : Record) (signature : List ℕ)
    → lower_key (public_of_tree tree) signature ≡ own_key tree rec.version
    → forgery_of_lower tree signed rec signature ≡ forgery_by Two tree signed rec signature
by_lower tree signed rec signature same =
    sym (cond-true (bytes_eq (lower_key (public_of_tree tree) signature) (own_key tree rec.version)) _ _
    ((bytes_eq-Decides (lower_key (public_of_tree tree) signature) (own_key tree rec.version)).1 same))

not_equal : (b : Bool) → (b ≡ true → ⊥) → b ≡ false
not_equal true not = absurd (not refl)
not_equal false not = refl

pub by_upper : (tree : SecretTree) (signed : List Record) (rec : Record) (signature : List ℕ)
    → lower_key (public_of_tree tree) signature ≢ own_key tree rec.version
    → forgery_of_upper tree signed rec signature ≡ forgery_by Two tree signed rec signature
by_upper tree signed rec signature differ =
    let test = bytes_eq (lower_key (public_of_tree tree) signature) (own_key tree rec.version) in
    sym (cond-false test _ _
    (not_equal test (λ e. differ ((bytes_eq-Decides (lower_key (public_of_tree tree) signature) (own_key tree rec.version)).0 e))))
