use Rattle.std.proofs.Common.{List, ℕ, sym, subst}
use Rattle.std.specs.List.{AllByRecursion}
use Rattle.vo_world.specs.Keeping.{Keeps, Trusts}
use Rattle.vo_world.proofs.Models.{start_is}
use Rattle.vo_world.proofs.StepLaws.{start_keeps}
use Rattle.vo_world.proofs.world.World.new.Goals as goal

pub invariant_of-result : goal.invariant_of-result
invariant_of-result c =
    let begun = (c.in_ok-journal.ensures {u = tt}).begun in
    record {
      keeps = subst Keeps (sym (start_is _ c.args.clients begun.roots begun.entries begun.drive c.moment-since.ensures (c.in_ok-clients.ensures {u = tt}).leasts c.new.ensures.items c.new-2.ensures.items))
          (start_keeps c.args.key c.args.clients begun.signs);
      own_key = begun.own_key;
      works = begun.works;
      trust = subst (λ (k : List ℕ). AllByRecursion (Trusts k) c.in_ok-clients.clients.items) c.public.ensures.value (c.in_ok-clients.ensures {u = tt}).keys;
    }

pub returns-clause-start : goal.returns-clause-start
returns-clause-start c =
    let begun = (c.in_ok-journal.ensures {u = tt}).begun in
    start_is _ c.args.clients begun.roots begun.entries begun.drive c.moment-since.ensures (c.in_ok-clients.ensures {u = tt}).leasts c.new.ensures.items c.new-2.ensures.items
