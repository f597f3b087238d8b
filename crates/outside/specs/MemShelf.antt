-- Files that are kept in memory.
use Rattle.std.specs.Prelude.{ℕ, List, [], ◌∷◌, Option, Some, None, nat_eq, string_bytes, cond}
use Rattle.std.specs.Cmp.Lexicographic.{pointwise}
use Rattle.outside.specs.declared.mem_shelf.NamedFile.{NamedFile}
use Rattle.outside.specs.declared.mem_shelf.MemShelf.{MemShelf}

abbrev pub files_of : {P : Type 0} → MemShelf P → List NamedFile
files_of shelf = shelf.files.items

abbrev pub misses_of : {P : Type 0} → MemShelf P → ℕ
misses_of shelf = shelf.misses

abbrev pub plan_of : {P : Type 0} → MemShelf P → P
plan_of shelf = shelf.failures

-- the bytes of the first file of that name
abbrev pub file_at : List NamedFile → List ℕ → Option (List ℕ)
file_at [] name = None
file_at (file ∷ files) name =
    cond (pointwise nat_eq (string_bytes file.name) name) (Some file.bytes.items)
    (file_at files name)
