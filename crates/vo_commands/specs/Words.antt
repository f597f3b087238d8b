-- Words of a line as they are printed.
use Rattle.std.specs.Prelude.{ℕ, List, decimal}
use Rattle.hex.specs.Hex.{encode_lower}
use Rattle.vo_commands.specs.declared.piece.Word.{Word}
use Rattle.vo_commands.specs.declared.piece.Word.TheVariants.{Phrase, Name, Number, Hexadecimal}

abbrev pub word_text : Word → List ℕ
word_text (Phrase phrase) = phrase.now
word_text (Name name) = name.now
word_text (Number n) = decimal n
word_text (Hexadecimal bytes) = encode_lower bytes.now
