use Rattle.lms_forge.proofs.PathLaws.{texts_agree}
use Rattle.lms_forge.proofs.paths.compare_above.Goals as goal

pub compare-requires : goal.compare-requires
compare-requires c =
    rw (c.in_ok-first.ensures, c.in_ok-second.ensures)
    (texts_agree c.args.tree.now c.args.q c.args.signature.now c.args.key.now c.args.level c.requires.leaf c.requires.level c.requires.agree)
