use Rattle.std.proofs.Common.{append_assoc}
use Rattle.vo_spec.specs.Lms.{tree_key_bytes}
use Rattle.lms_sign.proofs.lms_key.LmsKey.put_onto.Goals as goal

pub returns : goal.returns
unfolding tree_key_bytes
returns c =
    rw (
      ← c.self.view_is,
      c.in_ok-extend_from_slice-4.ensures.items,
      c.in_ok-extend_from_slice-3.ensures.items,
      c.in_ok-extend_from_slice-2.ensures.items,
      c.in_ok-extend_from_slice.ensures.items,
      c.u32_bytes.ensures,
      c.code.ensures,
      c.u32_bytes-2.ensures,
      c.code-2.ensures,
      c.as_bytes.ensures.value,
    )
    (simp append_assoc)
