-- The values so far are the owner's own.
use Rattle.std.proofs.Common.{◌≡◌, ℕ, ◌+◌, ◌*◌, ◌<◌}
use Rattle.vo_spec.specs.Bytes.{digest_at}
use Rattle.vo_spec.specs.Ots.{signed_value}
use Rattle.lms_forge.proofs.chains.compare_chains.Given as goal

abbrev pub invariant-loop-i : goal.invariant-loop-i
invariant-loop-i l = (k : ℕ) → k < l.i
    → digest_at l.part (36 + 32 * k) ≡ signed_value l.tree.id l.q l.tree.ots l.tree.seed l.digits k
