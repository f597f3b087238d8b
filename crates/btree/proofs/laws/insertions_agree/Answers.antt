use Rattle.btree.proofs.InsertPrunes.{inserted_agrees}
use Rattle.btree.proofs.laws.insertions_agree.Goals as goal

pub returns : goal.returns
returns g c =
    let F = g.F.PruningFamily in
    λ e f p t new. inserted_agrees F.family F.EntryPrunes F.same_key e f new F.same_annotation p t
