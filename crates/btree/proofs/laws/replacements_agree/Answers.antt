use Rattle.btree.proofs.ReplacePrunes.{edited_agrees}
use Rattle.btree.proofs.laws.replacements_agree.Goals as goal

pub returns : goal.returns
returns g c =
    let F = g.F.PruningFamily in
    λ edit other key p t edits_agree. edited_agrees F.family F.EntryPrunes F.same_key F.same_annotation edit other edits_agree key p t
