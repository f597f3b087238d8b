-- The names of tables, columns and aliases.
use Rattle.std.specs.Prelude.{ℕ, Bool, false, not, ◌&&◌, ◌||◌, ◌==◌, nat_le, List, [], ◌∷◌, length, IsTrue}
use Rattle.std.specs.List.{list_all}

abbrev pub is_digit : ℕ → Bool
is_digit byte = nat_le 48 byte && nat_le byte 57

-- a small letter, a digit or `_`
abbrev pub is_name_byte : ℕ → Bool
is_name_byte byte = (nat_le 97 byte && nat_le byte 122) || is_digit byte || byte == 95

-- how many bytes a name may have
abbrev pub max_name : ℕ
max_name = 63

-- such bytes, at least one, of which the first is no digit
abbrev pub is_name : List ℕ → Bool
is_name [] = false
is_name (first ∷ others) = nat_le (length (first ∷ others)) max_name && not (is_digit first)
    && list_all is_name_byte (first ∷ others)

abbrev pub FitsName : List ℕ → Type 0
FitsName name = IsTrue (is_name name)
