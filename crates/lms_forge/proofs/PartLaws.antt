-- What is found at the parts of a signature, and where nothing is.
use Rattle.std.proofs.Common.{◌≡◌, ℕ, ◌+◌, ◌-◌, ◌*◌, ◌^◌, ◌≤◌, ◌<◌, List, Option, Some, None, length, drop, sym, ◌∙◌, arith}
use Rattle.std.specs.Prelude.{IsTrue, false, is_some}
use Rattle.std.proofs.lemmas.List.{length-take-le, length-drop}
use Rattle.vo_spec.specs.Sha256.{sha256}
use Rattle.tagged_hash.proofs.Lengths.{length-sha256}
use Rattle.vo_spec.specs.Collides.{Collides}
use Rattle.vo_spec.specs.Bytes.{digest_at}
use Rattle.vo_spec.specs.OtsSets.{width_of, count_of}
use Rattle.vo_spec.specs.LmsSets.{height_of}
use Rattle.vo_spec.specs.Ots.{coef, step_text, secret, public_end, candidate_end, is_ots_form}
use Rattle.vo_spec.specs.Lms.{leaf_text, ots_part}
use Rattle.vo_spec.specs.SecretTrees.{SecretTree}
use Rattle.lm_ots.proofs.Chaining.{length-advance}
use Rattle.lm_ots.proofs.Forms.{length_by_form}
use Rattle.lms_forge.specs.Comparing.{Compared, ComparedBelow}
use Rattle.lms_forge.specs.Chains.{ChainsCompared}
use Rattle.lms_forge.specs.Parts.{PartsCompared}
use Rattle.lms_forge.specs.Places.{Place, above, leaf, public_key, chain_step, AreOnWay, leaf_number, forged_key_text, own_key_text, forged_above, own_above}
use Rattle.lms_forge.proofs.Splitting.{ends_of_text}

pub same_below : (first second : ℕ → List ℕ) (n : ℕ) (found : Option (List ℕ × List ℕ)) → is_some found ≡ false
    → ComparedBelow first second n found → (k : ℕ) → k < n → first k ≡ second k
same_below first second n None none same = same
same_below first second n (Some found) none compared = absurd cc

pub length-digest_at : (part : List ℕ) (at : ℕ) → at + 32 ≤ length part → length (digest_at part at) ≡ 32
unfolding digest_at
length-digest_at part at long = length-take-le 32 (drop at part) (omega (arith, length-drop at part))

module _ (tree : SecretTree) (q : ℕ) (digits signature : List ℕ) where
  abbrev part : List ℕ
  part = ots_part tree.ots signature

  abbrev key : List ℕ
  key = sha256 (forged_key_text tree q digits part)

  -- Strings that collide at a place.
  abbrev FoundOnWay : List ℕ × List ℕ → Type 0
  FoundOnWay found = (place : Place) × AreOnWay tree q digits signature place found.0 found.1 × Collides found.0 found.1

  pub found_above : (found : List ℕ × List ℕ) → ComparedBelow (forged_above tree q signature key) (own_above tree q) (height_of tree.lms) (Some found)
      → FoundOnWay found
  found_above found (k, inside, compared) = (above k, (inside, compared.0, compared.1), compared.2)

  pub found_leaf : (found : List ℕ × List ℕ)
      → Compared (leaf_text tree.id (leaf_number tree q) key) (leaf_text tree.id (leaf_number tree q) (sha256 (own_key_text tree q))) (Some found)
      → FoundOnWay found
  found_leaf found compared = (leaf, (compared.0, compared.1), compared.2)

  pub found_key : (found : List ℕ × List ℕ) → Compared (forged_key_text tree q digits part) (own_key_text tree q) (Some found) → FoundOnWay found
  found_key found compared = (public_key, (compared.0, compared.1), compared.2)

  pub found_chain : (found : List ℕ × List ℕ) → ChainsCompared tree q digits part (Some found) → FoundOnWay found
  found_chain found (i, inside, (j, low, high, compared)) = (chain_step i j, (inside, low, high, compared.0, compared.1), compared.2)

  -- where the key's text is the owner's, the chains' ends are
  pub ends_same : IsTrue (is_ots_form tree.ots part) → forged_key_text tree q digits part ≡ own_key_text tree q
      → (i : ℕ) → i < count_of tree.ots → candidate_end tree.id q tree.ots digits part i ≡ public_end tree.id q tree.ots tree.seed i
  ends_same form same =
      let whole = length_by_form tree.ots part form in
      let long : (k : ℕ) → k < count_of tree.ots → length (candidate_end tree.id q tree.ots digits part k) ≡ length (public_end tree.id q tree.ots tree.seed k) =
      λ k inside.
      let digit = coef digits k (width_of tree.ots) in
      length-advance tree.id q k digit (2 ^ width_of tree.ots - 1 - digit) (digest_at part (36 + 32 * k)) (length-digest_at part (36 + 32 * k) (omega (arith, whole, inside)))
      ∙ sym (length-advance tree.id q k 0 (2 ^ width_of tree.ots - 1) (secret tree.id q tree.seed k) (length-sha256 (step_text tree.id q k 0xff tree.seed))) in
      ends_of_text tree.id q (candidate_end tree.id q tree.ots digits part) (public_end tree.id q tree.ots tree.seed) (count_of tree.ots) long same

  pub parts_compared : (found : Option (List ℕ × List ℕ))
      → ((level : ℕ) → level < height_of tree.lms → forged_above tree q signature key level ≡ own_above tree q level)
      → leaf_text tree.id (leaf_number tree q) key ≡ leaf_text tree.id (leaf_number tree q) (sha256 (own_key_text tree q))
      → forged_key_text tree q digits part ≡ own_key_text tree q
      → ChainsCompared tree q digits part found → PartsCompared tree q digits signature found
  parts_compared None above_same leaf_same key_same values = record {
    above_same = above_same;
    leaf_same = leaf_same;
    key_same = key_same;
    values_own = values;
  }
  parts_compared (Some found) above_same leaf_same key_same compared = found_chain found compared
