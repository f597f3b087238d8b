use Rattle.std.proofs.Common.{rules, ◌≡◌, ◌≢◌}
use Rattle.reply_meeting.proofs.Telling.{same_catalogs, preimages_collide}
use Rattle.reply_meeting.proofs.catalogs.compare_catalogs.Goals as goal

pub returns-then-eq : goal.returns-then-eq
returns-then-eq c =
    let same : c.in_ok-one.one.items ≡ c.in_ok-other.other.items = search rules in
    same_catalogs c.args.first.now c.args.second.now _ _ c.requires.fits c.requires.second_fits c.in_ok-one.ensures c.in_ok-other.ensures same

pub new-requires : goal.new-requires
new-requires c =
    let differ : c.in_ok-one.one.items ≢ c.in_ok-other.other.items = search rules in
    preimages_collide c.args.first.now c.args.second.now _ _ c.requires.fits c.requires.second_fits c.requires.same c.in_ok-one.ensures c.in_ok-other.ensures differ
