use Rattle.std.proofs.Common.{◌∙◌, sym}
use Rattle.held_replies.proofs.LeafLaws.{other_leaf}
use Rattle.held_replies.proofs.record_faults.leaf_fault.Goals as goal

pub returns-in-Some : goal.returns-in-Some
returns-in-Some c = other_leaf c.args.key.now c.args.signature.now c.args.rec.now c.in-Some.q (sym c.leaf_of.ensures ∙ c.in-Some.is) c.if-q-version.true
