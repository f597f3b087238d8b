use Rattle.vo_laws.proofs.CutShows.{cut_shows}
use Rattle.vo_laws.proofs.limits.cut_proofs_show_the_first_rows.Goals as goal

pub returns : goal.returns
returns c = cut_shows
