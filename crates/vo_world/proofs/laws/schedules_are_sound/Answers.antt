use Rattle.vo_world.proofs.SoundLaws.{run_sound}
use Rattle.vo_world.proofs.laws.schedules_are_sound.Goals as goal

pub returns : goal.returns
returns c = run_sound
