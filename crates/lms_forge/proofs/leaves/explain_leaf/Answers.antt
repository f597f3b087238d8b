use Rattle.std.proofs.Common.{◌≡◌, ℕ, List, length, subst, arith}
use Rattle.std.specs.Prelude.{option_copied}
use Rattle.vo_spec.specs.Bytes.{digest_at}
use Rattle.vo_spec.specs.OtsSets.{ots_signature_len}
use Rattle.vo_spec.specs.Ots.{digits_of}
use Rattle.vo_spec.specs.Lms.{ots_part}
use Rattle.lm_ots.proofs.Forms.{length_by_form}
use Rattle.lms_forge.specs.Forgeries.{forgery}
use Rattle.lms_forge.specs.ChainValues.{forged_digits}
use Rattle.lms_forge.specs.Parts.{PartsCompared}
use Rattle.lms_forge.specs.Lowering.{ReleasedCompared}
use Rattle.lms_forge.proofs.ExplainLaws.{are_others, from_chain, parts_same}
use Rattle.lms_forge.proofs.Findings.{left_none}
use Rattle.lms_forge.proofs.LeafLaws.{by_leaf}
use Rattle.lms_forge.proofs.PartLaws.{length-digest_at}
use Rattle.lms_forge.proofs.leaves.explain_leaf.Goals as goal

pub ots_part-part-requires : goal.ots_part-part-requires
ots_part-part-requires c =
    let by = by_leaf c.args.tree.now c.args.leaf c.args.message.now c.args.signature.now c.id-id.ensures.sixteen c.requires.valid c.requires.leaf in
    rw c.ots-ots.ensures (omega (arith, by.whole))

pub randomizer_of-random-requires : goal.randomizer_of-random-requires
randomizer_of-random-requires c =
    let tree = c.args.tree.now in
    let by = by_leaf tree c.args.leaf c.args.message.now c.args.signature.now c.id-id.ensures.sixteen c.requires.valid c.requires.leaf in
    let part : length (ots_part tree.ots c.args.signature.now) ≡ ots_signature_len tree.ots = length_by_form tree.ots (ots_part tree.ots c.args.signature.now) by.form in
    rw (c.ots_part-part.ensures, c.ots-ots.ensures, part) (omega arith)

pub compare_parts-requires : goal.compare_parts-requires
compare_parts-requires c =
    let tree = c.args.tree.now in
    let by = by_leaf tree c.args.leaf c.args.message.now c.args.signature.now c.id-id.ensures.sixteen c.requires.valid c.requires.leaf in
    let digits_are : c.digits_of-digits.result ≡ digits_of tree.id c.args.leaf tree.ots (digest_at (ots_part tree.ots c.args.signature.now) 4) c.args.message.now =
    rw (c.id-id.ensures.value, c.ots-ots.ensures, c.randomizer_of-random.ensures, c.ots_part-part.ensures, c.ots-ots.ensures) at c.digits_of-digits.ensures in
    record {
      whole = by.whole;
      leaf = by.leaf_in;
      form = by.form;
      root = rw digits_are by.root;
    }

pub compare_released-requires : goal.compare_released-requires
compare_released-requires c =
    let tree = c.args.tree.now in
    let by = by_leaf tree c.args.leaf c.args.message.now c.args.signature.now c.id-id.ensures.sixteen c.requires.valid c.requires.leaf in
    let part : length (ots_part tree.ots c.args.signature.now) ≡ ots_signature_len tree.ots = length_by_form tree.ots (ots_part tree.ots c.args.signature.now) by.form in
    record {
      full = rw (c.randomizer_of-random.ensures, c.ots_part-part.ensures, c.ots-ots.ensures)
          (length-digest_at (ots_part tree.ots c.args.signature.now) 4 (omega (arith, part)));
      differ = c.requires.other;
    }

pub first_lower-chain-requires : goal.first_lower-chain-requires
first_lower-chain-requires c =
    let tree = c.args.tree.now in
    let signature = c.args.signature.now in
    let message = c.args.message.now in
    let f = forgery tree c.args.level c.args.leaf message signature (option_copied c.args.released) in
    let digits_are : c.digits_of-digits.result ≡ forged_digits f =
    rw (c.id-id.ensures.value, c.ots-ots.ensures, c.randomizer_of-random.ensures, c.ots_part-part.ensures, c.ots-ots.ensures) at c.digits_of-digits.ensures in
    let random_is : c.randomizer_of-random.result ≡ digest_at (ots_part tree.ots signature) 4 =
    rw (c.ots_part-part.ensures, c.ots-ots.ensures) at c.randomizer_of-random.ensures in
    let compared = subst (λ (r : List ℕ). ReleasedCompared tree c.args.leaf r message (option_copied c.args.released) c.in_ok-found-2.field-0) random_is c.in_ok-found-2.ensures in
    rw (c.ots-ots.ensures, digits_are, c.own_digits-own.ensures)
    (are_others f c.in_ok-found-2.field-0 (left_none c.in_ok-found-2.field-0 c.in_default-2.not-Some) compared)

pub chain_value-requires-clause-form : goal.chain_value-requires-clause-form
chain_value-requires-clause-form c =
    let by = by_leaf c.args.tree.now c.args.leaf c.args.message.now c.args.signature.now c.id-id.ensures.sixteen c.requires.valid c.requires.leaf in
    rw (c.ots_part-part.ensures, c.ots-ots.ensures) by.form

pub returns : goal.returns
returns c =
    let tree = c.args.tree.now in
    let signature = c.args.signature.now in
    let message = c.args.message.now in
    let f = forgery tree c.args.level c.args.leaf message signature (option_copied c.args.released) in
    let digits_are : c.digits_of-digits.result ≡ forged_digits f =
    rw (c.id-id.ensures.value, c.ots-ots.ensures, c.randomizer_of-random.ensures, c.ots_part-part.ensures, c.ots-ots.ensures) at c.digits_of-digits.ensures in
    let random_is : c.randomizer_of-random.result ≡ digest_at (ots_part tree.ots signature) 4 =
    rw (c.ots_part-part.ensures, c.ots-ots.ensures) at c.randomizer_of-random.ensures in
    let compared = subst (λ (r : List ℕ). ReleasedCompared tree c.args.leaf r message (option_copied c.args.released) c.in_ok-found-2.field-0) random_is c.in_ok-found-2.ensures in
    let parts = subst (λ (d : List ℕ). PartsCompared tree c.args.leaf d signature c.in_ok-found.field-0) digits_are c.in_ok-found.ensures in
    let same = parts_same tree c.args.leaf (forged_digits f) signature c.in_ok-found.field-0 (left_none c.in_ok-found.field-0 c.in_default.not-Some) parts in
    let first = rw (c.ots-ots.ensures, digits_are, c.own_digits-own.ensures) at c.first_lower-chain.ensures in
    from_chain f c.first_lower-chain.result c.in_ok-found-2.field-0 same (left_none c.in_ok-found-2.field-0 c.in_default-2.not-Some) compared first
    c.coef.result c.chain_value.result
    (rw (digits_are, c.width.ensures, c.ots-ots.ensures) at c.coef.ensures.value)
    (rw (c.ots_part-part.ensures, c.ots-ots.ensures) at c.chain_value.ensures)
