use Rattle.vo_commands.proofs.explanations.push_explanation.Goals as goal

pub returns-in-Collides : goal.returns-in-Collides
returns-in-Collides c = rw c.in-Collides.is c.push_collision.ensures

pub returns-in-Chain : goal.returns-in-Chain
returns-in-Chain c =
    rw c.in-Chain.is (rw (c.into.ensures, c.into-in-Chain.ensures, c.into-in-Chain-2.ensures, c.into-in-Chain-3.ensures) at c.push_chain.ensures)
