use Rattle.std.proofs.Common.{ap}
use Rattle.vo_commands.specs.Committing.{refusal_of}
use Rattle.vo_commands.proofs.owner_refusals.owner_refusal.Goals as goal

pub returns-in-Command : goal.returns-in-Command
returns-in-Command c = c.refused_step.ensures c.args.fault _ (ap refusal_of c.in-Command.is) c.command_refusal.ensures

pub returns-in-ProofForm : goal.returns-in-ProofForm
returns-in-ProofForm c = c.refused_step-in-ProofForm.ensures c.args.fault _ (ap refusal_of c.in-ProofForm.is) c.proof_refusal.ensures

pub returns-in-ProofRoot : goal.returns-in-ProofRoot
returns-in-ProofRoot c =
    c.refused_step-in-ProofRoot.ensures c.args.fault _ (ap refusal_of c.in-ProofRoot.is)
    (rw (c.as_bytes.ensures.value, c.as_bytes-in-ProofRoot.ensures.value) at c.proof_refusal-in-ProofRoot.ensures)

pub returns-in-ProofMissing : goal.returns-in-ProofMissing
returns-in-ProofMissing c = c.refused_step-in-ProofMissing.ensures c.args.fault _ (ap refusal_of c.in-ProofMissing.is) c.proof_refusal-in-ProofMissing.ensures

pub returns-in-ProofSurplus : goal.returns-in-ProofSurplus
returns-in-ProofSurplus c = c.refused_step-in-ProofSurplus.ensures c.args.fault _ (ap refusal_of c.in-ProofSurplus.is) c.proof_refusal-in-ProofSurplus.ensures

pub returns-in-KeySpent : goal.returns-in-KeySpent
returns-in-KeySpent c = c.refused_step-in-KeySpent.ensures c.args.fault _ (ap refusal_of c.in-KeySpent.is) c.spent_key.ensures
