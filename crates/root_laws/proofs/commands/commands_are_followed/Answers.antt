use Rattle.stored_tables.proofs.StandingLaws.{kept_standing}
use Rattle.root_laws.proofs.CommandSteps.{command_followed, command_accepted}
use Rattle.root_laws.proofs.TakenTrees.{tree_taken}
use Rattle.root_laws.proofs.commands.commands_are_followed.Goals as goal

pub returns : goal.returns
returns c = record {
  followed = λ index c trees stored standing parts. command_followed index c trees stored standing.tables standing.stand standing.fit parts;
  accepted = λ index c trees stored tables standing parts e. command_accepted index c trees stored standing.tables tables standing.stand standing.fit parts e;
  taken = tree_taken;
  stands = kept_standing;
}
