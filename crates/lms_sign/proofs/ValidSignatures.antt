-- What a valid signature is like: as long as its key's are, by one of its leaves.
use Rattle.std.proofs.Common.{◌≡◌, ℕ, suc, ◌+◌, ◌*◌, ◌^◌, ◌<◌, ◌≤◌, List, ◌++◌, length, take, drop, refl, sym, ap, ◌∙◌, subst, get_or, add-zero, lit<, arith}
use Rattle.std.specs.Prelude.{Bool, true, false, Option, Some, None, nat_le, ◌==◌, ◌&&◌, if◌then◌else◌}
use Rattle.std.specs.Option.{option_map_or}
use Rattle.std.proofs.lemmas.Bool.{and_parts, eqb-true, ltb-true, le-leb, cond-true}
use Rattle.std.proofs.lemmas.Bool.Decides.{nat_tests}
use Rattle.std.proofs.lemmas.List.{get_or-drop, get_or-take, length-append}
use Rattle.std.proofs.Math.Nat.{mul-le-mul}
use Rattle.vo_spec.specs.declared.signatures.OtsType.{OtsType}
use Rattle.vo_spec.specs.declared.signatures.LmsType.{LmsType}
use Rattle.vo_spec.specs.declared.signatures.LmsType.TheVariants.{H5, H10, H15, H20, H25}
use Rattle.vo_spec.specs.declared.signatures.Levels.{Levels}
use Rattle.vo_spec.specs.declared.signatures.Levels.TheVariants.{One, Two}
use Rattle.vo_spec.specs.Bytes.{u32_bytes, u32_at}
use Rattle.vo_spec.specs.LmsSets.{lms_of, lms_code_of, leaves_of, lms_signature_len}
use Rattle.vo_spec.specs.OtsSets.{ots_code_of}
use Rattle.vo_spec.specs.Lms.{is_lms_form, is_valid_under, is_valid_by, tree_lms, tree_ots, tree_id, tree_root, tree_key_bytes, tree_valid, tree_leaves, tree_signature_len}
use Rattle.vo_spec.specs.Keys.{key_bytes, levels_of, tree_by, key_tree, upper_signature, lower_key, lower_signature, valid_by, pair_valid, lms_valid, leaf_by, leaf_of, leaves_at, leaf_count, signature_len_at, key_signature_len}
use Rattle.vo_spec.specs.SecretTrees.{SecretTree, tree_node, public_of_tree}
use Rattle.vo_spec.specs.Secret.{Secret, public_of_secret}
use Rattle.vo_laws.proofs.KeyLaws.{length-tree_node}
use Rattle.lm_ots.proofs.Pieces.{length-u32_bytes, u32_at-front}
use Rattle.lms_sign.proofs.Forms.{HasForm, has_form}
use Rattle.lms_sign.proofs.Keys.{leaves_few, pair_tests}
use Rattle.lms_sign.proofs.SignatureLaws.{first_code}

-- Of one tree.

pub record IsValid (tree signature : List ℕ) : Type 0 where
  pub whole : length tree ≡ 56
  pub len_is : length signature ≡ tree_signature_len tree
  pub leaf_in : u32_at signature 0 < tree_leaves tree
  pub long : 4 ≤ length signature

by_sets : (lms : Option LmsType) (ots : Option OtsType) (tree message signature : List ℕ) → length tree ≡ 56 → tree_lms tree ≡ lms → tree_ots tree ≡ ots
    → is_valid_by lms ots (tree_id tree) (tree_root tree) message signature ≡ true → IsValid tree signature
unfolding is_valid_under
by_sets (Some lms) (Some ots) tree message signature whole l o valid =
    let form = has_form lms ots signature (and_parts _ _ (and_parts _ _ valid).0).0 in
    let len : tree_signature_len tree ≡ lms_signature_len lms ots = rw (l, o) refl in
    let leaves : tree_leaves tree ≡ leaves_of lms = rw l refl in
    record {
      whole = whole;
      len_is = form.len_is ∙ sym len;
      leaf_in = rw leaves form.leaf_in;
      long = omega (arith, form.len_is);
    }
by_sets (Some lms) None tree message signature whole l o valid = absurd cc
by_sets None ots tree message signature whole l o valid = absurd cc

tree_told : (tree message signature : List ℕ) → tree_valid tree message signature ≡ true → IsValid tree signature
unfolding tree_valid
tree_told tree message signature valid =
    let both = and_parts (length tree == 56) _ valid in
    by_sets (tree_lms tree) (tree_ots tree) tree message signature (eqb-true (length tree) 56 both.0) refl refl both.1

-- Of two levels.

number_behind : (bytes : List ℕ) (n : ℕ) → u32_at (drop n bytes) 0 ≡ u32_at bytes n
unfolding u32_at
number_behind bytes n =
    rw (get_or-drop n bytes 0 0, get_or-drop n bytes 1 0, get_or-drop n bytes 2 0, get_or-drop n bytes 3 0, add-zero) refl

number_within : (bytes : List ℕ) (n : ℕ) → 4 ≤ n → u32_at (take n bytes) 0 ≡ u32_at bytes 0
unfolding u32_at
number_within bytes n long =
    rw (
      get_or-take n bytes 0 0 (omega (arith, long)),
      get_or-take n bytes 1 0 (omega (arith, long)),
      get_or-take n bytes 2 0 (omega (arith, long)),
      get_or-take n bytes 3 0 (omega (arith, long)),
    ) refl

below_square : (a b n : ℕ) → a < n → b < n → a * n + b < n * n
below_square a b n first second =
    let rows : suc a * n ≤ n * n = mul-le-mul first (omega arith) in
    omega (arith, rows, second)

pub record IsPair (upper signature : List ℕ) : Type 0 where
  pub whole : length upper ≡ 56
  pub len_is : length signature ≡ 60 + 2 * tree_signature_len upper
  pub leaf_is : leaf_by Two upper signature ≡ Some (u32_at signature 4 * tree_leaves upper + u32_at signature (60 + tree_signature_len upper))
  pub leaf_in : u32_at signature 4 * tree_leaves upper + u32_at signature (60 + tree_signature_len upper) < tree_leaves upper * tree_leaves upper

pair_told : (upper message signature : List ℕ) → pair_valid upper message signature ≡ true → IsPair upper signature
pair_told upper message signature valid =
    let n = tree_signature_len upper in
    let lower = lower_key upper signature in
    let tests = and_parts _ _ (sym (pair_tests upper message signature) ∙ valid) in
    let more = and_parts _ _ tests.1 in
    let alike = and_parts (u32_at lower 0 == u32_at upper 0) (u32_at lower 4 == u32_at upper 4) more.0 in
    let both = and_parts (tree_valid upper lower (upper_signature upper signature)) _ more.1 in
    let len = eqb-true (length signature) (60 + 2 * n) (and_parts _ _ tests.0).0 in
    let first = tree_told upper lower (upper_signature upper signature) both.0 in
    let second = tree_told lower message (lower_signature upper signature) both.1 in
    let same : tree_leaves lower ≡ tree_leaves upper =
    ap (λ c. option_map_or leaves_of (lms_of c) 0) (eqb-true (u32_at lower 0) (u32_at upper 0) alike.0) in
    let at_four : u32_at (upper_signature upper signature) 0 ≡ u32_at signature 4 =
    number_within (drop 4 signature) n (omega (arith, first.len_is, first.long)) ∙ number_behind signature 4 in
    let a = subst (λ x. x < tree_leaves upper) at_four first.leaf_in in
    let b = subst (λ x. x < tree_leaves upper) (number_behind signature (60 + n))
    (subst (λ m. u32_at (lower_signature upper signature) 0 < m) same second.leaf_in) in
    let long : 60 + n + 4 ≤ length signature =
    omega (arith, len, first.len_is, first.long) in
    record {
      whole = first.whole;
      len_is = len;
      leaf_is = cond-true (nat_le (60 + n + 4) (length signature)) _ _ (le-leb _ _ long);
      leaf_in = below_square _ _ _ a b;
    }

-- Of one level or of two.

-- a signature is one of the key's
pub record IsOne (key signature : List ℕ) : Type 0 where
  pub whole : length (key_tree key) ≡ 56
  pub len_is : length signature ≡ key_signature_len key
  pub leaf : ℕ
  pub leaf_is : leaf_of key signature ≡ Some leaf
  pub leaf_in : leaf < leaf_count key

by_levels : (levels : Levels) (key message signature : List ℕ) → levels_of key ≡ levels
    → valid_by levels key message signature ≡ true → IsOne key signature
unfolding leaf_of leaf_count key_signature_len
by_levels One key message signature is valid =
    let told = tree_told key message signature valid in
    record {
      whole = rw is told.whole;
      len_is = rw is told.len_is;
      leaf = u32_at signature 0;
      leaf_is = rw is (cond-true (nat_le 4 (length signature)) _ _ (le-leb _ _ told.long));
      leaf_in = rw is told.leaf_in;
    }
by_levels Two key message signature is valid =
    let upper = drop 4 key in
    let told = pair_told upper message signature (and_parts (u32_at key 0 == 2) _ valid).1 in
    record {
      whole = rw is told.whole;
      len_is = rw is told.len_is;
      leaf = u32_at signature 4 * tree_leaves upper + u32_at signature (60 + tree_signature_len upper);
      leaf_is = rw is told.leaf_is;
      leaf_in = rw is told.leaf_in;
    }

pub told_of_valid : (key message signature : List ℕ) → lms_valid key message signature ≡ true → IsOne key signature
unfolding lms_valid
told_of_valid key message signature valid = by_levels (levels_of key) key message signature refl valid

-- A key has fewer leaves than a version can say.

few_by : (lms : Option LmsType) → option_map_or leaves_of lms 0 ≤ 33554432
few_by (Some lms) = leaves_few lms
few_by None = omega arith

pub few_at : (levels : Levels) (leaves : ℕ) → leaves ≤ 33554432 → leaves_at levels leaves ≤ 1125899906842624
few_at One leaves few = omega (arith, few)
few_at Two leaves few = let square : leaves * leaves ≤ 33554432 * 33554432 = mul-le-mul few few in square

pub leaf_count_few : (key : List ℕ) → leaf_count key ≤ 1125899906842624
unfolding leaf_count
leaf_count_few key = few_at (levels_of key) (tree_leaves (key_tree key)) (few_by (tree_lms (key_tree key)))

-- A secret key under whose public one a signature is valid has an identifier of 16 bytes.

length-tree : (tree : SecretTree) → length (public_of_tree tree) ≡ 40 + length tree.id
unfolding public_of_tree tree_key_bytes
length-tree tree =
    let first = u32_bytes (lms_code_of tree.lms) in
    let second = u32_bytes (ots_code_of tree.ots) in
    omega (
      arith,
      length-append (first ++ second ++ tree.id) (tree_node tree 1),
      length-append (first ++ second) tree.id,
      length-append first second,
      length-u32_bytes (lms_code_of tree.lms),
      length-u32_bytes (ots_code_of tree.ots),
      length-tree_node tree 1,
    )

no_set : (lms : LmsType) → lms_code_of lms ≡ 2 → ⊥
no_set H5 e = cc
no_set H10 e = cc
no_set H15 e = cc
no_set H20 e = cc
no_set H25 e = cc

-- where the key has one level, its first number names a set, and of two it is 2
sixteen_by : (levels read : Levels) (tree : SecretTree) (message signature : List ℕ) → levels_of (key_bytes levels (public_of_tree tree)) ≡ read
    → valid_by read (key_bytes levels (public_of_tree tree)) message signature ≡ true → length tree.id ≡ 16
sixteen_by One One tree message signature is valid =
    omega (arith, length-tree tree, (tree_told (public_of_tree tree) message signature valid).whole)
sixteen_by One Two tree message signature is valid =
    let two = eqb-true (u32_at (public_of_tree tree) 0) 2 (and_parts (u32_at (public_of_tree tree) 0 == 2) _ valid).0 in
    absurd (no_set tree.lms (sym (first_code tree) ∙ two))
sixteen_by Two Two tree message signature is valid = sixty (length (u32_bytes 2 ++ public_of_tree tree) == 60) refl
  where
    sixty : (b : Bool) → (length (u32_bytes 2 ++ public_of_tree tree) == 60) ≡ b → length tree.id ≡ 16
    sixty true e = omega (arith, eqb-true (length (u32_bytes 2 ++ public_of_tree tree)) 60 e, length-append (u32_bytes 2) (public_of_tree tree), length-u32_bytes 2, length-tree tree)
    sixty false e = let other : One ≡ Two = rw e at is in absurd cc
sixteen_by Two One tree message signature is valid =
    absurd (no_key (u32_at-front 2 (public_of_tree tree) (lit< tt)) valid)
  where
    no_key : u32_at (u32_bytes 2 ++ public_of_tree tree) 0 ≡ 2 → tree_valid (u32_bytes 2 ++ public_of_tree tree) message signature ≡ true → ⊥
    no_key two v =
        let none : tree_leaves (u32_bytes 2 ++ public_of_tree tree) ≡ 0 = ap (λ c. option_map_or leaves_of (lms_of c) 0) two in
        omega (arith, none, (tree_told (u32_bytes 2 ++ public_of_tree tree) message signature v).leaf_in)

pub id_of_valid : (secret : Secret) (message signature : List ℕ) → lms_valid (public_of_secret secret) message signature ≡ true
    → length secret.tree.id ≡ 16
unfolding lms_valid public_of_secret
id_of_valid secret message signature valid =
    sixteen_by secret.levels (levels_of (key_bytes secret.levels (public_of_tree secret.tree))) secret.tree message signature refl valid
