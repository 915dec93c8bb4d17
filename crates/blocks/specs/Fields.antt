-- The fields of a record: values of one or more words each, one behind the other.
use Rattle.std.specs.Prelude.{ℕ, zero, suc, ◌+◌, List, [], ◌∷◌, ◌++◌}
use Rattle.words.specs.declared.axis.AxisId.{AxisId}
use Rattle.words.specs.declared.word.Word.{Word}
use Rattle.blocks.specs.Directory.{word_at}
use Rattle.blocks.specs.Questions.{Asked}

-- a word of a block, read for an axis
abbrev pub word_for : List ℕ → AxisId → ℕ → Word
word_for ws axis i = record { bits = word_at ws i; axis = axis; index = i }

-- the questions about n fields of so many words each, the first of them at word i; those about one field depend on where it starts
abbrev pub fields_digits : (ℕ → List Asked) → ℕ → ℕ → ℕ → List Asked
fields_digits digits words i zero = []
fields_digits digits words i (suc n) = digits i ++ fields_digits digits words (i + words) n

-- the values of these fields
abbrev pub fields_from : {X : Type 0} → (ℕ → X) → ℕ → ℕ → ℕ → List X
fields_from value words i zero = []
fields_from value words i (suc n) = value i ∷ fields_from value words (i + words) n
