-- The number words of a record, by their index in it.
use Rattle.std.specs.Prelude.{ℕ, zero, suc, ◌+◌, List, [], ◌∷◌, Option, slice_set}
use Rattle.words.specs.Words.{four_decimal, four_digits}
use Rattle.words.specs.declared.axis.AxisId.{AxisId}
use Rattle.words.specs.declared.fault.Question.TheVariants.{Digits}
use Rattle.blocks.specs.Directory.{word_at}
use Rattle.blocks.specs.Questions.{Asked, ask}

-- the number that word i of the record at `at` spells
abbrev pub number : List ℕ → ℕ → ℕ → ℕ
number ws at i = four_digits (word_at ws (at + i))

-- the digits of words i, i + 1 and so on, n of them, in turn
abbrev pub number_digits : List ℕ → Option AxisId → ℕ → ℕ → ℕ → List Asked
number_digits ws axis at i zero = []
number_digits ws axis at i (suc n) =
    ask Digits axis (at + i) (four_decimal (word_at ws (at + i))) ∷ number_digits ws axis at (i + 1) n

-- a list into which others are put from place i on, one after the other
abbrev pub filled : {X : Type 0} → List X → ℕ → List X → List X
filled xs i [] = xs
filled xs i (y ∷ ys) = filled (slice_set xs i y) (i + 1) ys
