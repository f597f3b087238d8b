use Rattle.std.proofs.Common.{sym, ap, ◌∙◌}
use Rattle.std.specs.Prelude.{◌==◌}
use Rattle.std.proofs.lemmas.Bool.{and_parts, eqb-true}
use Rattle.vo_spec.specs.Bytes.{u32_at}
use Rattle.vo_spec.specs.OtsSets.{ots_of}
use Rattle.vo_spec.specs.LmsSets.{lms_of}
use Rattle.vo_spec.specs.Lms.{tree_lms, tree_ots}
use Rattle.lms_sign.specs.KeyParts.{tree_lms-bytes, tree_ots-bytes}
use Rattle.lms_sign.proofs.lms_key.LmsKey.read_alike.Goals as goal

pub of_sets-requires-clause-lms : goal.of_sets-requires-clause-lms
of_sets-requires-clause-lms c =
    let bytes = c.args.bytes.now in
    let key = c.args.self.now in
    let same = eqb-true (u32_at bytes 0) (u32_at key 0)
    (and_parts (u32_at bytes 0 == u32_at key 0) (u32_at bytes 4 == u32_at key 4) (sym c.if-not-is_alike.ensures)).0 in
    ap lms_of same
    ∙ sym (ap tree_lms c.self.view_is) ∙ tree_lms-bytes c.self.inside.lms c.self.inside.ots c.self.inside.id c.self.inside.root

pub of_sets-requires-clause-ots : goal.of_sets-requires-clause-ots
of_sets-requires-clause-ots c =
    let bytes = c.args.bytes.now in
    let key = c.args.self.now in
    let same = eqb-true (u32_at bytes 4) (u32_at key 4)
    (and_parts (u32_at bytes 0 == u32_at key 0) (u32_at bytes 4 == u32_at key 4) (sym c.if-not-is_alike.ensures)).1 in
    ap ots_of same
    ∙ sym (ap tree_ots c.self.view_is) ∙ tree_ots-bytes c.self.inside.lms c.self.inside.ots c.self.inside.id c.self.inside.root
