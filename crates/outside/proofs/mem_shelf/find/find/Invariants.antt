use Rattle.std.proofs.Common.{◌≡◌, drop}
use Rattle.outside.specs.MemShelf.{file_at}
use Rattle.outside.proofs.mem_shelf.find.find.Given as goal

abbrev pub invariant-loop-file : goal.invariant-loop-file
invariant-loop-file l = file_at (drop l.file-index l.files) l.name ≡ file_at l.files l.name
