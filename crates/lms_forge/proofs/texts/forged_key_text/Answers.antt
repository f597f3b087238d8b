use Rattle.std.proofs.Common.{[], rules}
use Rattle.lms_forge.proofs.texts.forged_key_text.Goals as goal

pub returns : goal.returns
returns c = rw (c.id.ensures.value, c.ots.ensures) at (c.in_ok-write_candidate_text.ensures.writes [] (search rules))
