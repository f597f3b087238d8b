-- The line that a server writes where a connection has ended.
use Rattle.std.specs.Prelude.{◌≢◌, ℕ, ◌+◌, List, [], ◌∷◌, ◌++◌, codes, decimal}
use Rattle.link_frames.specs.declared.end.End.{End}
use Rattle.link_frames.specs.declared.end.End.TheVariants as ended

-- Where memory runs out a connection has no line.
abbrev pub HasLine : End → Type 0
HasLine end = end ≢ ended.Memory

-- the rest of the line: how the connection ended
abbrev pub end_words : End → List ℕ
end_words ended.Closed = codes " closed\n"
end_words (ended.BadFrame length) = codes " bad frame " ++ (decimal length ++ codes "\n")
end_words (ended.Cut got) = codes " cut " ++ (decimal got ++ codes "\n")
end_words ended.LinkFault = codes " fault\n"
end_words ended.Turns = codes " turns\n"
end_words ended.Memory = []

-- the line of the connection of this number
unfoldable pub end_line : ℕ → End → List ℕ
end_line number end = codes "connection " ++ (decimal number ++ end_words end)

-- the lines of connections, the first of them of this number
abbrev pub end_lines : ℕ → List End → List ℕ
end_lines number [] = []
end_lines number (end ∷ ends) = end_line number end ++ end_lines (number + 1) ends
