use Rattle.std.proofs.Common.{◌≡◌, ◌++◌, Vec, ℕ, Global, append_assoc}
use Rattle.std.proofs.lemmas.Result.{IfOk-weaker}
use Rattle.vo_spec.specs.Bytes.{join_pieces}
use Rattle.vo_spec.specs.LmsSets.{height_of}
use Rattle.vo_spec.specs.SecretTrees.{path_node, tree_signature}
use Rattle.lms_sign.proofs.secret_tree.SecretTree.sign_onto.Goals as goal

pub returns : goal.returns
unfolding tree_signature
returns c =
    IfOk-weaker c.put_path.result
    (λ (put : Vec ℕ Global). put.items ≡ c.extend_from_slice-2.new.self.items ++ join_pieces (path_node c.args.self.now c.args.q) (height_of c.args.self.now.lms))
    (λ (put : Vec ℕ Global). put.items ≡ c.args.bytes.items ++ tree_signature c.args.self.now c.args.q c.args.message.now)
    (λ put made. rw (
      made,
      c.in_ok-extend_from_slice-2.ensures.items,
      c.u32_bytes-2.ensures,
      c.code.ensures,
      c.in_ok-bytes.ensures,
      c.in_ok-extend_from_slice.ensures.items,
      c.u32_bytes.ensures,
      ← c.self.view_is,
    ) (simp append_assoc))
    c.put_path.ensures
