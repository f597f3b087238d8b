use Rattle.grammar.proofs.WholeReading.{judged, parsed}
use Rattle.grammar.proofs.reads_exactly.Goals as goal

pub returns-clause-judged : goal.returns-clause-judged
returns-clause-judged g c =
    let r = g.G.Predictive in
    λ levels ts real. judged r.language r.is_language r.grammar r.start r.good levels ts real

pub returns-clause-complete : goal.returns-clause-complete
returns-clause-complete g c =
    let r = g.G.Predictive in
    λ levels ts v s. parsed r.language r.is_language r.grammar r.start r.good levels ts v s
