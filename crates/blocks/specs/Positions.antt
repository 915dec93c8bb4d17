-- The positions of a record, by the index of their first words in it.
use Rattle.std.specs.Prelude.{ℕ, zero, suc, ◌+◌, List, [], ◌∷◌, ℤ, Option}
use Rattle.words.specs.Words.{position_start, position_value, four_decimal}
use Rattle.words.specs.declared.axis.AxisId.{AxisId}
use Rattle.words.specs.declared.fault.Question.TheVariants.{Digits}
use Rattle.blocks.specs.Directory.{word_at}
use Rattle.blocks.specs.Questions.{Asked, ask}

-- the position that word i of the record at `at` and the next one spell
abbrev pub position : List ℕ → ℕ → ℕ → ℤ
position ws at i = position_value (word_at ws (at + i)) (word_at ws (at + i + 1))

-- the digits and fixed bits of n positions, the first of them at word i, word after word
abbrev pub position_digits : List ℕ → Option AxisId → ℕ → ℕ → ℕ → List Asked
position_digits ws axis at i zero = []
position_digits ws axis at i (suc n) =
    ask Digits axis (at + i) (position_start (word_at ws (at + i)))
    ∷ ask Digits axis (at + i + 1) (four_decimal (word_at ws (at + i + 1)))
    ∷ position_digits ws axis at (i + 2) n
