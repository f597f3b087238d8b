use Rattle.link_frames.proofs.FrameLaws.{read_back}
use Rattle.link_frames.proofs.laws.frames_read_back.Goals as goal

pub returns : goal.returns
returns c = read_back
