use Rattle.std.proofs.Common.{[], rules}
use Rattle.lms_forge.proofs.texts.message_text.Goals as goal

pub returns : goal.returns
returns c = rw c.id.ensures.value at (c.in_ok-write_message_text.ensures.writes [] (search rules))
