use Rattle.std.proofs.Common.{◌≡◌, ℕ, ◌+◌, ◌*◌, ◌/◌, List, length, sym, ◌∙◌, subst, arith}
use Rattle.std.specs.Prelude.{◌==◌, ◌&&◌, true, false, IfOk}
use Rattle.vo_spec.specs.Bytes.{u32_at}
use Rattle.vo_spec.specs.Records.{record_bytes}
use Rattle.vo_spec.specs.LmsSets.{leaves_of}
use Rattle.vo_spec.specs.Lms.{tree_valid, tree_signature_len}
use Rattle.vo_spec.specs.Keys.{lower_key, lower_signature}
use Rattle.vo_spec.specs.SecretTrees.{public_of_tree}
use Rattle.vo_spec.specs.Secret.{lower_tree}
use Rattle.lms_forge.specs.Explaining.{Explains}
use Rattle.lms_forge.specs.Forgeries.{Forgery}
use Rattle.lms_forge.proofs.Findings.{told_other, told_same}
use Rattle.lms_forge.proofs.LevelLaws.{by_pair, by_lower, by_upper}
use Rattle.lms_forge.proofs.levels.explain_pair.Goals as goal

pub overflow_cast-u : goal.overflow_cast-u
overflow_cast-u c =
    let tree = c.args.key.now.tree in
    let by = by_pair tree (record_bytes c.args.rec.now) c.args.signature.now c.args.rec.now.version c.requires.valid c.requires.leaf in
    let leaves_is : c.from-leaves.result ≡ leaves_of tree.lms = rw c.tree-tree.ensures at (c.from-leaves.ensures ∙ c.leaves.ensures.value) in
    let small = by.upper_small in
    rw leaves_is (omega arith)

pub unreachable-requires : goal.unreachable-requires
unreachable-requires c =
    let tree = c.args.key.now.tree in
    let signature = c.args.signature.now in
    let by = by_pair tree (record_bytes c.args.rec.now) signature c.args.rec.now.version c.requires.valid c.requires.leaf in
    let key_is : c.key.result ≡ public_of_tree tree = rw c.tree-tree.ensures at c.key.ensures in
    let other : false ≡ true =
    subst (λ (k : List ℕ). false ≡ (length signature == 60 + 2 * tree_signature_len k) && (u32_at signature 0 == 1)) key_is c.in_default.ensures.is ∙ by.is in
    cc

pub explain_upper-requires-clause-valid : goal.explain_upper-requires-clause-valid
explain_upper-requires-clause-valid c =
    let tree = c.args.key.now.tree in
    let by = by_pair tree (record_bytes c.args.rec.now) c.args.signature.now c.args.rec.now.version c.requires.valid c.requires.leaf in
    let key_is : c.key.result ≡ public_of_tree tree = rw c.tree-tree.ensures at c.key.ensures in
    rw (c.tree-tree.ensures, c.in-Some.ensures.key, c.in-Some.ensures.upper, key_is) by.upper_valid

pub explain_upper-requires-clause-leaf : goal.explain_upper-requires-clause-leaf
explain_upper-requires-clause-leaf c =
    let tree = c.args.key.now.tree in
    let by = by_pair tree (record_bytes c.args.rec.now) c.args.signature.now c.args.rec.now.version c.requires.valid c.requires.leaf in
    let key_is : c.key.result ≡ public_of_tree tree = rw c.tree-tree.ensures at c.key.ensures in
    let leaves_is : c.from-leaves.result ≡ leaves_of tree.lms = rw c.tree-tree.ensures at (c.from-leaves.ensures ∙ c.leaves.ensures.value) in
    rw (c.in-Some.ensures.upper, key_is, leaves_is) by.upper_leaf

pub returns-then-ne : goal.returns-then-ne
returns-then-ne c =
    let tree = c.args.key.now.tree in
    let signature = c.args.signature.now in
    let key_is : c.key.result ≡ public_of_tree tree = rw c.tree-tree.ensures at c.key.ensures in
    let leaves_is : c.from-leaves.result ≡ leaves_of tree.lms = rw c.tree-tree.ensures at (c.from-leaves.ensures ∙ c.leaves.ensures.value) in
    let own_is : c.in_ok-own_key.own_key.items ≡ public_of_tree (lower_tree tree (c.args.rec.now.version / leaves_of tree.lms)) =
    rw (c.new.ensures.items, c.key-2.ensures, c.in_ok-lower.ensures, leaves_is) at c.in_ok-own_key.ensures in
    let lower_is : c.in-Some.pair.key.now ≡ lower_key (public_of_tree tree) signature = rw key_is at c.in-Some.ensures.key in
    let differ = rw (lower_is, c.as_slice.ensures.value, own_is) at (told_other c.in-Some.pair.key.now c.as_slice.result.now c.ne.result c.ne.ensures c.if-ne.true) in
    subst (λ (f : Forgery). IfOk c.explain_upper.result (Explains f))
    (by_upper tree c.args.signed.now c.args.rec.now signature differ)
    (rw (c.tree-tree.ensures, lower_is, c.in-Some.ensures.upper, key_is, leaves_is, c.deref.ensures.value, own_is) at c.explain_upper.ensures)

pub explain_record-requires-clause-valid : goal.explain_record-requires-clause-valid
explain_record-requires-clause-valid c =
    let tree = c.args.key.now.tree in
    let signature = c.args.signature.now in
    let message = record_bytes c.args.rec.now in
    let by = by_pair tree message signature c.args.rec.now.version c.requires.valid c.requires.leaf in
    let key_is : c.key.result ≡ public_of_tree tree = rw c.tree-tree.ensures at c.key.ensures in
    let lower_is : c.in-Some.pair.key.now ≡ lower_key (public_of_tree tree) signature = rw key_is at c.in-Some.ensures.key in
    let own_is : c.in_ok-own_key.own_key.items ≡ public_of_tree c.in_ok-lower.lower =
    rw (c.new.ensures.items, c.key-2.ensures) at c.in_ok-own_key.ensures in
    let same = told_same c.in-Some.pair.key.now c.as_slice.result.now c.ne.result c.ne.ensures c.if-ne.false in
    let key_same : lower_key (public_of_tree tree) signature ≡ public_of_tree c.in_ok-lower.lower = sym lower_is ∙ same ∙ c.as_slice.ensures.value ∙ own_is in
    rw (c.in-Some.ensures.lower, key_is)
    (subst (λ (k : List ℕ). tree_valid k message (lower_signature (public_of_tree tree) signature) ≡ true) key_same by.lower_valid)

pub explain_record-requires-clause-leaf : goal.explain_record-requires-clause-leaf
explain_record-requires-clause-leaf c =
    let tree = c.args.key.now.tree in
    let by = by_pair tree (record_bytes c.args.rec.now) c.args.signature.now c.args.rec.now.version c.requires.valid c.requires.leaf in
    let key_is : c.key.result ≡ public_of_tree tree = rw c.tree-tree.ensures at c.key.ensures in
    let leaves_is : c.from-leaves.result ≡ leaves_of tree.lms = rw c.tree-tree.ensures at (c.from-leaves.ensures ∙ c.leaves.ensures.value) in
    rw (c.in-Some.ensures.lower, key_is, leaves_is) by.lower_leaf

pub returns : goal.returns
returns c =
    let tree = c.args.key.now.tree in
    let signature = c.args.signature.now in
    let key_is : c.key.result ≡ public_of_tree tree = rw c.tree-tree.ensures at c.key.ensures in
    let leaves_is : c.from-leaves.result ≡ leaves_of tree.lms = rw c.tree-tree.ensures at (c.from-leaves.ensures ∙ c.leaves.ensures.value) in
    let own_is : c.in_ok-own_key.own_key.items ≡ public_of_tree (lower_tree tree (c.args.rec.now.version / leaves_of tree.lms)) =
    rw (c.new.ensures.items, c.key-2.ensures, c.in_ok-lower.ensures, leaves_is) at c.in_ok-own_key.ensures in
    let lower_is : c.in-Some.pair.key.now ≡ lower_key (public_of_tree tree) signature = rw key_is at c.in-Some.ensures.key in
    let same = told_same c.in-Some.pair.key.now c.as_slice.result.now c.ne.result c.ne.ensures c.if-ne.false in
    subst (λ (f : Forgery). IfOk c.explain_record.result (Explains f))
    (by_lower tree c.args.signed.now c.args.rec.now signature (sym lower_is ∙ same ∙ c.as_slice.ensures.value ∙ own_is))
    (rw (c.in_ok-lower.ensures, c.in-Some.ensures.lower, key_is, leaves_is) at c.explain_record.ensures)
