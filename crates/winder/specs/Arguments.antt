-- What an argument of the command line says.
use Rattle.std.specs.Prelude.{◌≡◌, ℕ, ◌^◌, ◌<◌, List, Some, None, Option}
use Rattle.std.specs.Str.Parse.{IsNumeral, digits_value}

-- the text is one hexadecimal digit or more and nothing else, and its value fits a word
abbrev pub IsWord : List ℕ → Type 0
IsWord text = IsNumeral 16 text × (digits_value 16 text < 2 ^ 16)

-- the word that the text spells, or none
abbrev pub Spelled : List ℕ → Option ℕ → Type 0
Spelled text (Some bits) = IsWord text × (bits ≡ digits_value 16 text)
Spelled text None = IsWord text → ⊥
