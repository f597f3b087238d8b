-- What a secret key signs is valid under its public key, by the leaf that it says.
use Rattle.std.proofs.Common.{◌≡◌, ℕ, ◌+◌, ◌*◌, ◌/◌, ◌%◌, ◌≤◌, ◌<◌, List, ◌++◌, length, refl, sym, ap, ◌∙◌, subst, append_assoc, arith}
use Rattle.std.specs.Prelude.{true, Some, nat_le}
use Rattle.std.proofs.lemmas.Bool.{and_from, eq-eqb, le-leb, cond-true}
use Rattle.std.proofs.lemmas.List.{length-take-le}
use Rattle.std.proofs.lemmas.Nat.{div-add-mod', pow_pos}
use Rattle.std.proofs.Math.Nat.{div-lt_iff_lt-mul, mod-lt}
use Rattle.vo_spec.specs.Sha256.{sha256}
use Rattle.tagged_hash.proofs.Lengths.{length-sha256}
use Rattle.vo_spec.specs.declared.signatures.LmsType.{LmsType}
use Rattle.vo_spec.specs.declared.signatures.Levels.{Levels}
use Rattle.vo_spec.specs.declared.signatures.Levels.TheVariants.{One, Two}
use Rattle.vo_spec.specs.Bytes.{u32_bytes, u32_at}
use Rattle.vo_spec.specs.Journals.{max_signature}
use Rattle.vo_spec.specs.OtsSets.{ots_code_of}
use Rattle.vo_spec.specs.Ots.{step_text}
use Rattle.vo_spec.specs.LmsSets.{lms_code_of, height_of, leaves_of, lms_signature_len}
use Rattle.vo_spec.specs.Lms.{tree_valid, tree_leaves, tree_signature_len}
use Rattle.vo_spec.specs.Keys.{key_tree, key_bytes, valid_by, pair_valid, lms_valid, leaf_by, leaf_of, leaves_at, leaf_count, signature_len_at, key_signature_len}
use Rattle.vo_spec.specs.SecretTrees.{SecretTree, tree_node, public_of_tree, tree_signature}
use Rattle.vo_spec.specs.Secret.{Secret, lower_tree, signature_by, public_of_secret, secret_leaves, lms_signature}
use Rattle.vo_laws.proofs.KeyLaws.{length-public_of_tree, tree_read_back, levels_of_public, tree_of_public}
use Rattle.lm_ots.proofs.Pieces.{length-u32_bytes, u32_at-front}
use Rattle.vo_laws.proofs.SealedLaws.{set_short}
use Rattle.lms_sign.proofs.Keys.{leaves_few, first_code-bytes, second_code-bytes, tree_leaves-bytes}
use Rattle.lms_sign.proofs.TreeSignatures.{leaf_front, leaf_read, length-tree_signature, signed_valid as tree_signed_valid, signed_len as tree_signed_len}
use Rattle.lms_sign.proofs.PairParts.{AreParts, length-parts, second_found, third_found, last_found, second_number, last_number}

some_leaves : (lms : LmsType) → 0 < leaves_of lms
some_leaves lms = pow_pos (height_of lms)

-- Leaves of lower trees.

tree_of_leaf : (lms : LmsType) (q : ℕ) → q < leaves_of lms * leaves_of lms → q / leaves_of lms < leaves_of lms
tree_of_leaf lms q below = (div-lt_iff_lt-mul (some_leaves lms)).1 below

pub leaf_in_tree : (lms : LmsType) (q : ℕ) → q % leaves_of lms < leaves_of lms
leaf_in_tree lms q = mod-lt q (some_leaves lms)

-- Parts of a tree's key.

pub first_code : (tree : SecretTree) → u32_at (public_of_tree tree) 0 ≡ lms_code_of tree.lms
unfolding public_of_tree
first_code tree = first_code-bytes tree.lms tree.ots tree.id (tree_node tree 1)

second_code : (tree : SecretTree) → u32_at (public_of_tree tree) 4 ≡ ots_code_of tree.ots
unfolding public_of_tree
second_code tree = second_code-bytes tree.lms tree.ots tree.id (tree_node tree 1)

leaves_told : (tree : SecretTree) → tree_leaves (public_of_tree tree) ≡ leaves_of tree.lms
unfolding public_of_tree
leaves_told tree = tree_leaves-bytes tree.lms tree.ots tree.id (tree_node tree 1)

-- A signature of two levels.

module _ (tree : SecretTree) (q : ℕ) (message : List ℕ) where
  abbrev upper : List ℕ
  upper = public_of_tree tree

  abbrev u : ℕ
  u = q / leaves_of tree.lms

  abbrev leaf : ℕ
  leaf = q % leaves_of tree.lms

  abbrev lower : SecretTree
  lower = lower_tree tree u

  lms_is : lower.lms ≡ tree.lms
  unfolding lower_tree
  lms_is = refl

  ots_is : lower.ots ≡ tree.ots
  unfolding lower_tree
  ots_is = refl

  lower_sixteen : length lower.id ≡ 16
  unfolding lower_tree
  lower_sixteen =
      let text = step_text tree.id u 0xffff 0xff tree.seed in
      length-take-le 16 (sha256 text) (omega (arith, length-sha256 text))

  few : leaves_of tree.lms ≤ 33554432
  few = leaves_few tree.lms

  leaf_in : leaf < leaves_of tree.lms
  leaf_in = leaf_in_tree tree.lms q

  abbrev above : List ℕ
  above = tree_signature tree u (public_of_tree lower)

  abbrev below : List ℕ
  below = tree_signature lower leaf message

  abbrev n : ℕ
  n = tree_signature_len upper

  parts : AreParts (u32_bytes 1) above (public_of_tree lower) below n
  parts = record {
    first = length-u32_bytes 1;
    second = tree_signed_len tree u (public_of_tree lower);
    third = length-public_of_tree lower lower_sixteen;
  }

  abbrev signature : List ℕ
  signature = signature_by Two tree q message

  below_len : length below ≡ n
  below_len =
      length-tree_signature lower leaf message
      ∙ ap (λ l. lms_signature_len l lower.ots) lms_is
      ∙ ap (lms_signature_len tree.lms) ots_is
      ∙ sym (length-tree_signature tree u (public_of_tree lower))
      ∙ tree_signed_len tree u (public_of_tree lower)

  pub pair_len : length signature ≡ 60 + 2 * n
  pair_len = length-parts (u32_bytes 1) above (public_of_tree lower) below n parts ∙ rw below_len (omega arith)

  leads_one : u32_at signature 0 ≡ 1
  leads_one =
      ap (λ bytes. u32_at bytes 0)
      (append_assoc (u32_bytes 1 ++ above) (public_of_tree lower) below ∙ append_assoc (u32_bytes 1) above (public_of_tree lower ++ below))
      ∙ u32_at-front 1 (above ++ (public_of_tree lower ++ below)) (omega arith)

  codes_same : (u32_at (public_of_tree lower) 0 ≡ u32_at upper 0) × (u32_at (public_of_tree lower) 4 ≡ u32_at upper 4)
  codes_same = (
    first_code lower ∙ ap lms_code_of lms_is ∙ sym (first_code tree),
    second_code lower ∙ ap ots_code_of ots_is ∙ sym (second_code tree),
  )

  module _ (sixteen : length tree.id ≡ 16) (inside : q < leaves_of tree.lms * leaves_of tree.lms) where
    u_in : u < leaves_of tree.lms
    u_in = tree_of_leaf tree.lms q inside

    above_valid : tree_valid upper (public_of_tree lower) above ≡ true
    above_valid = tree_signed_valid tree u (public_of_tree lower) sixteen u_in

    below_valid : tree_valid (public_of_tree lower) message below ≡ true
    below_valid = tree_signed_valid lower leaf message lower_sixteen (subst (λ l. leaf < leaves_of l) (sym lms_is) leaf_in)

    pub pair_signed : pair_valid upper message signature ≡ true
    unfolding pair_valid
    pair_signed =
        let second = second_found (u32_bytes 1) above (public_of_tree lower) below n parts in
        let third = third_found (u32_bytes 1) above (public_of_tree lower) below n parts in
        let last = last_found (u32_bytes 1) above (public_of_tree lower) below n parts in
        rw (third, second, last)
        (and_from _ _ (and_from _ _ (and_from _ _ (and_from _ _ (and_from _ _
        (eq-eqb _ _ pair_len) (eq-eqb _ _ leads_one)) (eq-eqb _ _ codes_same.0)) (eq-eqb _ _ codes_same.1)) above_valid) below_valid)

    pub pair_leaf : leaf_by Two upper signature ≡ Some q
    pair_leaf =
        let long : 60 + n + 4 ≤ length signature = rw pair_len (omega (arith, below_long)) in
        let first : u32_at signature 4 ≡ u =
        second_number (u32_bytes 1) above (public_of_tree lower) below n parts
        ∙ leaf_front tree u (public_of_tree lower) (public_of_tree lower ++ below) (omega (arith, few, u_in)) in
        let second : u32_at signature (60 + n) ≡ leaf =
        last_number (u32_bytes 1) above (public_of_tree lower) below n parts
        ∙ leaf_read lower leaf message (omega (arith, few, leaf_in)) in
        cond-true (nat_le (60 + n + 4) (length signature)) _ _ (le-leb _ _ long)
        ∙ ap Some (rw (first, second, leaves_told tree) (div-add-mod' q (leaves_of tree.lms)))
      where
        below_long : 4 ≤ n
        below_long = rw (← tree_signed_len tree u (public_of_tree lower), length-tree_signature tree u (public_of_tree lower)) (omega arith)

-- Keys of one level and of two.

one_leaf : (tree : SecretTree) (q : ℕ) (message : List ℕ) → q < leaves_of tree.lms
    → leaf_by One (public_of_tree tree) (tree_signature tree q message) ≡ Some q
one_leaf tree q message inside =
    let few = leaves_few tree.lms in
    let whole = length-tree_signature tree q message in
    let long : 4 ≤ length (tree_signature tree q message) = omega arith in
    cond-true (nat_le 4 (length (tree_signature tree q message))) _ _ (le-leb _ _ long)
    ∙ ap Some (leaf_read tree q message (omega arith))

valid_at : (levels : Levels) (tree : SecretTree) (q : ℕ) (message : List ℕ) → length tree.id ≡ 16 → q < leaves_at levels (leaves_of tree.lms)
    → valid_by levels (key_bytes levels (public_of_tree tree)) message (signature_by levels tree q message) ≡ true
valid_at One tree q message sixteen inside = tree_signed_valid tree q message sixteen inside
valid_at Two tree q message sixteen inside =
    let two : u32_at (u32_bytes 2 ++ public_of_tree tree) 0 ≡ 2 = u32_at-front 2 (public_of_tree tree) (omega arith) in
    and_from _ _ (eq-eqb _ _ two)
    (subst (λ upper. pair_valid upper message (signature_by Two tree q message) ≡ true) (sym (tree_read_back Two (public_of_tree tree)))
    (pair_signed tree q message sixteen inside))

leaf_at : (levels : Levels) (tree : SecretTree) (q : ℕ) (message : List ℕ) → length tree.id ≡ 16 → q < leaves_at levels (leaves_of tree.lms)
    → leaf_by levels (public_of_tree tree) (signature_by levels tree q message) ≡ Some q
leaf_at One tree q message sixteen inside = one_leaf tree q message inside
leaf_at Two tree q message sixteen inside = pair_leaf tree q message sixteen inside

len_at : (levels : Levels) (tree : SecretTree) (q : ℕ) (message : List ℕ)
    → length (signature_by levels tree q message) ≡ signature_len_at levels (tree_signature_len (public_of_tree tree))
len_at One tree q message = tree_signed_len tree q message
len_at Two tree q message = pair_len tree q message

valid_of_secret : (secret : Secret) (q : ℕ) (message : List ℕ) → length secret.tree.id ≡ 16 → q < secret_leaves secret
    → valid_by secret.levels (public_of_secret secret) message (signature_by secret.levels secret.tree q message) ≡ true
unfolding public_of_secret
valid_of_secret secret q message sixteen inside = valid_at secret.levels secret.tree q message sixteen inside

pub signed_valid : (secret : Secret) (q : ℕ) (message : List ℕ) → length secret.tree.id ≡ 16 → q < secret_leaves secret
    → lms_valid (public_of_secret secret) message (lms_signature secret q message) ≡ true
unfolding lms_valid lms_signature
signed_valid secret q message sixteen inside =
    ap (λ levels. valid_by levels (public_of_secret secret) message (signature_by secret.levels secret.tree q message)) (levels_of_public secret sixteen)
    ∙ valid_of_secret secret q message sixteen inside

pub signed_leaf : (secret : Secret) (q : ℕ) (message : List ℕ) → length secret.tree.id ≡ 16 → q < secret_leaves secret
    → leaf_of (public_of_secret secret) (lms_signature secret q message) ≡ Some q
unfolding leaf_of lms_signature
signed_leaf secret q message sixteen inside =
    ap (λ levels. leaf_by levels (key_tree (public_of_secret secret)) (signature_by secret.levels secret.tree q message)) (levels_of_public secret sixteen)
    ∙ ap (λ tree. leaf_by secret.levels tree (signature_by secret.levels secret.tree q message)) (tree_of_public secret sixteen)
    ∙ leaf_at secret.levels secret.tree q message sixteen inside

pub signed_len : (secret : Secret) (q : ℕ) (message : List ℕ) → length secret.tree.id ≡ 16
    → length (lms_signature secret q message) ≡ key_signature_len (public_of_secret secret)
unfolding key_signature_len lms_signature
signed_len secret q message sixteen =
    len_at secret.levels secret.tree q message
    ∙ sym (
    ap (λ levels. signature_len_at levels (tree_signature_len (key_tree (public_of_secret secret)))) (levels_of_public secret sixteen)
    ∙ ap (λ tree. signature_len_at secret.levels (tree_signature_len tree)) (tree_of_public secret sixteen))

short_at : (levels : Levels) (n : ℕ) → n ≤ 9324 → signature_len_at levels n ≤ max_signature
short_at One n few = omega (arith, few)
short_at Two n few = omega (arith, few)

-- whatever the key, what it signs is short enough for a journal
pub signed_short : (secret : Secret) (q : ℕ) (message : List ℕ) → length (lms_signature secret q message) ≤ max_signature
unfolding lms_signature
signed_short secret q message =
    let tree = secret.tree in
    let n = tree_signature_len (public_of_tree tree) in
    let few : n ≤ 9324 =
    subst (λ m. m ≤ 9324) (sym (length-tree_signature tree q message) ∙ tree_signed_len tree q message) (set_short tree.lms tree.ots) in
    subst (λ m. m ≤ max_signature) (sym (len_at secret.levels tree q message)) (short_at secret.levels n few)

pub leaf_count_told : (secret : Secret) → length secret.tree.id ≡ 16 → leaf_count (public_of_secret secret) ≡ secret_leaves secret
unfolding leaf_count
leaf_count_told secret sixteen =
    ap (λ levels. leaves_at levels (tree_leaves (key_tree (public_of_secret secret)))) (levels_of_public secret sixteen)
    ∙ ap (λ tree. leaves_at secret.levels (tree_leaves tree)) (tree_of_public secret sixteen)
    ∙ ap (leaves_at secret.levels) (leaves_told secret.tree)
