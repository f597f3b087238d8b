use Rattle.vo_laws.proofs.OneCut.{only_cut}
use Rattle.vo_laws.proofs.CutProofs.{cut_kept, cut_canonical}
use Rattle.vo_laws.proofs.limits.cut_needs_have_one_proof.Goals as goal

pub returns : goal.returns
returns c = record { kept = cut_kept; canonical = cut_canonical; only = only_cut }
