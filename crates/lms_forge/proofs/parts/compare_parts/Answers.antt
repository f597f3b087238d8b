use Rattle.std.proofs.Common.{◌≡◌, ℕ, List, sym, ◌∙◌, subst}
use Rattle.std.proofs.lemmas.Result.{IfOk-weaker}
use Rattle.vo_spec.specs.Sha256.{sha256}
use Rattle.vo_spec.specs.LmsSets.{height_of}
use Rattle.vo_spec.specs.Lms.{leaf_text, ots_part}
use Rattle.lms_forge.specs.Chains.{ChainsCompared}
use Rattle.lms_forge.specs.Comparing.{ComparedBelow}
use Rattle.lms_forge.specs.Parts.{PartsCompared}
use Rattle.lms_forge.specs.Places.{leaf_number, forged_key_text, own_key_text, forged_above, own_above}
use Rattle.lms_forge.proofs.Findings.{left_none, nothing_found}
use Rattle.lms_forge.proofs.PathLaws.{leaf_agrees}
use Rattle.lms_forge.proofs.PartLaws.{same_below, found_above, ends_same, parts_compared}
use Rattle.lms_forge.proofs.Splitting.{key_of_leaf_text}
use Rattle.lms_forge.proofs.parts.compare_parts.Goals as goal

pub returns-in-Some : goal.returns-in-Some
returns-in-Some c =
    let tree = c.args.tree.now in
    let q = c.args.q in
    let digits = c.args.digits.now in
    let signature = c.args.signature.now in
    let key = sha256 (forged_key_text tree q digits (ots_part tree.ots signature)) in
    let key_is : c.digest_of-key.result ≡ key = rw (c.deref.ensures.value, c.in_ok-forged.ensures, c.ots_part-part.ensures, c.ots.ensures) at c.digest_of-key.ensures in
    let compared = subst (λ (k : List ℕ). ComparedBelow (forged_above tree q signature k) (own_above tree q) (height_of tree.lms) c.in_ok-found.field-0) key_is c.in_ok-found.ensures in
    found_above tree q digits signature c.in-Some.found
    (subst (λ found. ComparedBelow (forged_above tree q signature key) (own_above tree q) (height_of tree.lms) found) c.in-Some.is compared)

pub compare_leaf-requires-clause-agree : goal.compare_leaf-requires-clause-agree
compare_leaf-requires-clause-agree c =
    let tree = c.args.tree.now in
    let q = c.args.q in
    let key = c.digest_of-key.result in
    let own_is : c.digest_of.result ≡ sha256 (own_key_text tree q) = rw (c.deref-2.ensures.value, c.in_ok-own.ensures) at c.digest_of.ensures in
    let above = same_below (forged_above tree q c.args.signature.now key) (own_above tree q) (height_of tree.lms) c.in_ok-found.field-0
    (left_none c.in_ok-found.field-0 c.in_default.not-Some) c.in_ok-found.ensures in
    rw own_is (leaf_agrees tree q c.args.signature.now key c.requires.whole above)

pub compare-requires : goal.compare-requires
compare-requires c =
    let tree = c.args.tree.now in
    let q = c.args.q in
    let key = c.digest_of-key.result in
    let leaf = leaf_text tree.id (leaf_number tree q) in
    let same = nothing_found (leaf key) (leaf c.digest_of.result) c.in_ok-found-2.field-0 (left_none c.in_ok-found-2.field-0 c.in_default-2.not-Some) c.in_ok-found-2.ensures in
    let forged : sha256 c.in_ok-forged.forged.items ≡ key = rw c.deref.ensures.value at (sym c.digest_of-key.ensures) in
    let own : c.digest_of.result ≡ sha256 c.in_ok-own.own.items = rw c.deref-2.ensures.value at c.digest_of.ensures in
    forged ∙ key_of_leaf_text tree.id (leaf_number tree q) key c.digest_of.result same ∙ own

pub compare_chains-requires-clause-ends : goal.compare_chains-requires-clause-ends
compare_chains-requires-clause-ends c =
    let tree = c.args.tree.now in
    let q = c.args.q in
    let digits = c.args.digits.now in
    let signature = c.args.signature.now in
    let forged_is = rw (c.ots_part-part.ensures, c.ots.ensures) at c.in_ok-forged.ensures in
    let same = nothing_found c.in_ok-forged.forged.items c.in_ok-own.own.items c.compare.result (left_none c.compare.result c.in_default-compare.not-Some) c.compare.ensures in
    rw (c.ots_part-part.ensures, c.ots.ensures)
    (ends_same tree q digits signature c.requires.form (sym forged_is ∙ same ∙ c.in_ok-own.ensures))

pub returns : goal.returns
returns c =
    let tree = c.args.tree.now in
    let q = c.args.q in
    let digits = c.args.digits.now in
    let signature = c.args.signature.now in
    let part = ots_part tree.ots signature in
    let key = sha256 (forged_key_text tree q digits part) in
    let part_is : c.ots_part-part.result.now ≡ part = rw c.ots.ensures at c.ots_part-part.ensures in
    let key_is : c.digest_of-key.result ≡ key = rw (c.deref.ensures.value, c.in_ok-forged.ensures, c.ots_part-part.ensures, c.ots.ensures) at c.digest_of-key.ensures in
    let own_is : c.digest_of.result ≡ sha256 (own_key_text tree q) = rw (c.deref-2.ensures.value, c.in_ok-own.ensures) at c.digest_of.ensures in
    let forged_is = rw (c.ots_part-part.ensures, c.ots.ensures) at c.in_ok-forged.ensures in
    let above = subst (λ (k : List ℕ). ComparedBelow (forged_above tree q signature k) (own_above tree q) (height_of tree.lms) c.in_ok-found.field-0) key_is c.in_ok-found.ensures in
    let above_same = same_below (forged_above tree q signature key) (own_above tree q) (height_of tree.lms) c.in_ok-found.field-0
    (left_none c.in_ok-found.field-0 c.in_default.not-Some) above in
    let leaf = leaf_text tree.id (leaf_number tree q) in
    let leaf_same = nothing_found (leaf c.digest_of-key.result) (leaf c.digest_of.result) c.in_ok-found-2.field-0 (left_none c.in_ok-found-2.field-0 c.in_default-2.not-Some) c.in_ok-found-2.ensures in
    let leaves = rw (key_is, own_is) at leaf_same in
    let same = nothing_found c.in_ok-forged.forged.items c.in_ok-own.own.items c.compare.result (left_none c.compare.result c.in_default-compare.not-Some) c.compare.ensures in
    IfOk-weaker c.compare_chains.result (ChainsCompared tree q digits part) (PartsCompared tree q digits signature)
    (λ found compared. parts_compared tree q digits signature found above_same leaves (sym forged_is ∙ same ∙ c.in_ok-own.ensures) compared)
    (rw part_is at c.compare_chains.ensures)
