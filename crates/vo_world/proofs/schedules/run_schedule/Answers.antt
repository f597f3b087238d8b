use Rattle.std.proofs.Common.{All, length, sym, ap, subst, ◌∙◌}
use Rattle.vo_world.specs.Runs.{Runs}
use Rattle.vo_world.specs.Steps.{FitsEvent}
use Rattle.vo_world.specs.WorldModel.{WorldModel}
use Rattle.vo_world.proofs.Models.{start_count}
use Rattle.vo_world.proofs.SoundLaws.{run_sound}
use Rattle.vo_world.proofs.schedules.run_schedule.Goals as goal

pub run-requires : goal.run-requires
run-requires c =
    let clients = ap (λ (v : WorldModel). length v.leasts) c.in_ok-world.ensures.start ∙ start_count c.args.key c.args.clients in
    subst (λ n. All (FitsEvent n) c.args.events.items) (sym clients) c.requires

pub returns-clause-sound : goal.returns-clause-sound
returns-clause-sound c =
    run_sound c.args.key c.args.clients c.args.events.items c.in_ok-said.said.items c.run.new.self c.in_ok-world.ensures.signs
    (subst (λ (v : WorldModel). Runs v c.args.events.items c.in_ok-said.said.items c.run.new.self) c.in_ok-world.ensures.start c.in_ok-said.ensures.ok)
