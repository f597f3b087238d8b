-- What the comparisons of a forgery's parts say together.
use Rattle.std.proofs.Common.{◌≡◌, ℕ, ◌-◌, ◌<◌, List, Option, Some, None, refl, sym, ap, ◌∙◌, subst, arith}
use Rattle.std.specs.Prelude.{false, is_some, option_map, unwrap_or}
use Rattle.vo_spec.specs.Sha256.{sha256}
use Rattle.vo_spec.specs.Collides.{Collides}
use Rattle.vo_spec.specs.Bytes.{digest_at}
use Rattle.vo_spec.specs.Ots.{step_text, advance, secret, randomizer, message_text, digits_of, public_end}
use Rattle.lm_ots.proofs.Chaining.{advance_rest}
use Rattle.vo_spec.specs.SecretTrees.{SecretTree}
use Rattle.lms_forge.specs.Forgeries.{Forgery}
use Rattle.lms_forge.specs.ChainValues.{one_time, forged_digits, last_digit, forged_value, value_shown_by, known_value}
use Rattle.lms_forge.specs.Places.{Place, above, leaf, public_key, message_digest, chain_step, AreOnWay, AreMessages, AreHashedAt}
use Rattle.lms_forge.specs.Parts.{SameParts, PartsCompared}
use Rattle.lms_forge.specs.Lowering.{own_digit, FirstLower, AreOthers, ReleasedCompared, own_digits_of}
use Rattle.lms_forge.specs.Explaining.{CollideAtPlace, IsFromChain}

module _ (f : Forgery) where
  abbrev random : List ℕ
  random = digest_at (one_time f) 4

  -- Collisions that are found.

  hashed_there : (place : Place) (first second : List ℕ) → AreOnWay f.tree f.leaf (forged_digits f) f.signature place first second
      → AreHashedAt f place first second
  hashed_there (above level) first second on_way = on_way
  hashed_there leaf first second on_way = on_way
  hashed_there public_key first second on_way = on_way
  hashed_there message_digest first second on_way = absurd on_way
  hashed_there (chain_step i j) first second on_way = on_way

  pub found_on_way : (found : List ℕ × List ℕ) → PartsCompared f.tree f.leaf (forged_digits f) f.signature (Some found)
      → CollideAtPlace f found.0 found.1
  found_on_way found (place, on_way, collides) = (place, hashed_there place found.0 found.1 on_way, collides)

  messages_found : (released : Option (List ℕ)) (found : List ℕ × List ℕ) → ReleasedCompared f.tree f.leaf random f.message released (Some found)
      → AreMessages f released found.0 found.1 × Collides found.0 found.1
  messages_found None found compared = absurd compared
  messages_found (Some own) found (first_is, second_is, collides) = ((first_is, second_is), collides)

  pub found_messages : (found : List ℕ × List ℕ) → ReleasedCompared f.tree f.leaf random f.message f.released (Some found)
      → CollideAtPlace f found.0 found.1
  found_messages found compared = let two = messages_found f.released found compared in (message_digest, two.0, two.1)

  -- Nothing is found.

  messages_apart : (released : Option (List ℕ)) (found : Option (List ℕ × List ℕ)) → is_some found ≡ false
      → ReleasedCompared f.tree f.leaf random f.message released found
      → (first second : List ℕ) → AreMessages f released first second → sha256 first ≡ sha256 second → ⊥
  messages_apart None found none compared first second messages agree = absurd messages
  messages_apart (Some own) None none compared first second messages agree =
      compared (sym (ap sha256 messages.0) ∙ agree ∙ ap sha256 messages.1)
  messages_apart (Some own) (Some found) none compared first second messages agree = absurd cc

  same_steps : SameParts f.tree f.leaf (forged_digits f) f.signature → (i j : ℕ) (first second : List ℕ)
      → AreOnWay f.tree f.leaf (forged_digits f) f.signature (chain_step i j) first second → first ≡ second
  same_steps same i j first second (inside, low, high, first_is, second_is) =
      let digit = (forged_value f i).0 in
      let start = secret f.tree.id f.leaf f.tree.seed i in
      first_is
      ∙ ap (λ (value : List ℕ). step_text f.tree.id f.leaf i j (advance f.tree.id f.leaf i digit (j - digit) value)) (same.values_own i inside)
      ∙ ap (step_text f.tree.id f.leaf i j) (advance_rest f.tree.id f.leaf i digit j start low)
      ∙ sym second_is

  none_at : SameParts f.tree f.leaf (forged_digits f) f.signature
      → ((first second : List ℕ) → AreMessages f f.released first second → sha256 first ≡ sha256 second → ⊥)
      → (place : Place) (first second : List ℕ) → AreHashedAt f place first second → Collides first second → ⊥
  none_at same apart (above level) first second (inside, first_is, second_is) collides =
      collides.differ (first_is ∙ same.above_same level inside ∙ sym second_is)
  none_at same apart leaf first second (first_is, second_is) collides =
      collides.differ (first_is ∙ same.leaf_same ∙ sym second_is)
  none_at same apart public_key first second (first_is, second_is) collides =
      collides.differ (first_is ∙ same.key_same ∙ sym second_is)
  none_at same apart message_digest first second messages collides = apart first second messages collides.agree
  none_at same apart (chain_step i j) first second on_way collides =
      collides.differ (same_steps same i j first second on_way)

  -- Chains.

  digits_others : (released : Option (List ℕ)) (found : Option (List ℕ × List ℕ)) → is_some found ≡ false
      → ReleasedCompared f.tree f.leaf random f.message released found
      → AreOthers f.tree.ots (forged_digits f) (own_digits_of f.tree f.leaf released)
  unfolding digits_of
  digits_others None found none compared = (message_text f.tree.id f.leaf random f.message, refl)
  digits_others (Some own) None none compared = (
    message_text f.tree.id f.leaf random f.message,
    message_text f.tree.id f.leaf (randomizer f.tree.id f.leaf f.tree.seed) own,
    refl,
    refl,
    compared,
  )
  digits_others (Some own) (Some found) none compared = absurd cc

  pub are_others : (found : Option (List ℕ × List ℕ)) → is_some found ≡ false
      → ReleasedCompared f.tree f.leaf random f.message f.released found
      → AreOthers f.tree.ots (forged_digits f) (own_digits_of f.tree f.leaf f.released)
  are_others found none compared = digits_others f.released found none compared

  -- what is known where this message was released, or none
  abbrev known_by : Option (List ℕ) → ℕ → ℕ × List ℕ
  known_by released i = unwrap_or (option_map (value_shown_by f i) released) (last_digit f, public_end f.tree.id f.leaf f.tree.ots f.tree.seed i)

  known_digit : (released : Option (List ℕ)) (i : ℕ) → own_digit f.tree.ots (own_digits_of f.tree f.leaf released) i ≡ (known_by released i).0
  known_digit None i = refl
  known_digit (Some own) i = refl

  value_at_digit : (released : Option (List ℕ)) (i : ℕ)
      → (known_by released i).1 ≡ advance f.tree.id f.leaf i 0 (known_by released i).0 (secret f.tree.id f.leaf f.tree.seed i)
  value_at_digit None i = refl
  value_at_digit (Some own) i = refl

  pub from_chain : (i : ℕ) (found : Option (List ℕ × List ℕ)) → SameParts f.tree f.leaf (forged_digits f) f.signature
      → is_some found ≡ false → ReleasedCompared f.tree f.leaf random f.message f.released found
      → FirstLower f.tree.ots (forged_digits f) (own_digits_of f.tree f.leaf f.released) i
      → (step : ℕ) (bytes : List ℕ) → step ≡ (forged_value f i).0 → bytes ≡ (forged_value f i).1
      → IsFromChain f f.level f.leaf i step bytes
  from_chain i found same none compared first step bytes step_is bytes_are =
      let digit = (forged_value f i).0 in
      let last = (known_value f i).0 in
      let start = secret f.tree.id f.leaf f.tree.seed i in
      let lower : digit < last = subst (λ n. digit < n) (known_digit f.released i) first.lower in
      record {
        level_is = refl;
        leaf_is = refl;
        chain_in = first.inside;
        step_is = step_is;
        bytes_are = bytes_are;
        leads_to = record {
          before = lower;
          leads = ap (advance f.tree.id f.leaf i digit (last - digit)) (same.values_own i first.inside)
              ∙ advance_rest f.tree.id f.leaf i digit last start (omega arith)
              ∙ sym (value_at_digit f.released i);
        };
        earliest = λ k below lower. first.earliest k below (subst (λ n. (forged_value f k).0 < n) (sym (known_digit f.released k)) lower);
        none_collide = λ first second at. none_at same (messages_apart f.released found none compared) at.0 first second at.1 at.2;
      }

-- nothing is found at the parts only where they are the owner's
pub parts_same : (tree : SecretTree) (q : ℕ) (digits signature : List ℕ) (found : Option (List ℕ × List ℕ)) → is_some found ≡ false
    → PartsCompared tree q digits signature found → SameParts tree q digits signature
parts_same tree q digits signature None none same = same
parts_same tree q digits signature (Some found) none compared = absurd cc
