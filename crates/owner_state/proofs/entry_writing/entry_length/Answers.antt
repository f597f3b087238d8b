use Rattle.std.proofs.Common.{sym}
use Rattle.owner_state.proofs.EntryLaws.{entry_long}
use Rattle.owner_state.proofs.entry_writing.entry_length.Goals as goal

pub returns : goal.returns
returns c =
    rw (c.requires.batch, c.len.ensures, c.len-2.ensures) (sym (entry_long c.args.entry.now c.requires.fits))
