use Rattle.std.proofs.Common.{◌≡◌, ◌+◌, List, map, replicate, sym, subst}
use Rattle.std.specs.List.{AllByRecursion}
use Rattle.vo_check.specs.declared.client.Client.{Client}
use Rattle.vo_world.specs.Keeping.{Trusts}
use Rattle.vo_world.specs.WorldModel.{least_of}
use Rattle.vo_world.proofs.Clients.{leasts_more}
use Rattle.vo_world.proofs.HeldRecords.{all_more}
use Rattle.vo_world.proofs.opening.new_clients.Goals as goal

pub loop-number-preserved : goal.loop-number-preserved
loop-number-preserved c =
    let more = (c.in_ok-push.ensures {u = tt}).items in
    record {
      leasts = subst (λ (xs : List Client). map least_of xs ≡ replicate (c.loop-number._number + 1) 0) (sym more)
          (leasts_more c.loop-number.clients.items c.new.result c.loop-number._number c.loop-number.invariant.leasts c.new.ensures.least);
      keys = subst (AllByRecursion (Trusts c.args.key)) (sym more)
          (all_more (Trusts c.args.key) c.loop-number.clients.items c.new.result c.loop-number.invariant.keys c.new.ensures.key);
    }
