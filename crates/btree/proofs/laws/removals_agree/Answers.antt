use Rattle.btree.proofs.RemovePrunes.{removed_agrees}
use Rattle.btree.proofs.laws.removals_agree.Goals as goal

pub returns : goal.returns
returns g c =
    let F = g.F.PruningFamily in
    removed_agrees F.family F.EntryPrunes F.same_key F.same_annotation
