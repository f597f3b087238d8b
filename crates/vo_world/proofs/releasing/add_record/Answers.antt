use Rattle.std.proofs.Common.{◌≡◌, true}
use Rattle.std.specs.List.{list_any}
use Rattle.vo_store.specs.Calls.{same_record}
use Rattle.vo_world.proofs.HeldRecords.{with_old}
use Rattle.vo_world.proofs.releasing.add_record.Goals as goal

pub returns-then-is_released : goal.returns-then-is_released
returns-then-is_released c =
    let one : list_any (same_record c.args.rec.now) c.args.released.now.items ≡ true = cc in
    with_old c.args.released.now.items c.args.rec.now one
