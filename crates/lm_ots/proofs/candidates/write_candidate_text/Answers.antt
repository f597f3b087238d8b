use Rattle.std.proofs.Common.{append-nil}
use Rattle.vo_spec.specs.Bytes.{join_pieces}
use Rattle.vo_spec.specs.Ots.{candidate_end, public_text}
use Rattle.lm_ots.proofs.Writing.{end_written}
use Rattle.lm_ots.proofs.candidates.write_candidate_text.Goals as goal

pub loop-i-init : goal.loop-i-init
unfolding join_pieces public_text
loop-i-init g c = rw append-nil c.in_ok-write_prefix.ensures

pub loop-i-preserved : goal.loop-i-preserved
loop-i-preserved g c =
    let ends = candidate_end c.args.id.now c.args.q c.args.ots c.args.digits.now c.args.signature.now in
    let here = rw (c.as_bytes.ensures.value, c.candidate_end.ensures) at c.in_ok-write.ensures.ok in
    end_written g.S.ByteSink.HoldsBytes _ _ _ c.args.id.now c.args.q ends c.loop-i.i c.loop-i.invariant here
