-- The words of a block, read for an axis.
use Rattle.std.specs.Prelude.{ℕ, ◌+◌, List, Option, Some, None, cond, nat_lt, length, slice_index}
use Rattle.words.specs.declared.axis.AxisId.{AxisId}
use Rattle.words.specs.declared.pair.WordPair.{WordPair}
use Rattle.words.specs.declared.word.Word.{Word}

-- the word of that index, with its index and the axis that it is read for; none past the end
abbrev pub word_of : List ℕ → AxisId → ℕ → Option Word
word_of words axis index =
    cond (nat_lt index (length words)) (Some (record { bits = slice_index words index; axis = axis; index = index })) None

-- two words that are both there
abbrev pub both : Option Word → Option Word → Option WordPair
both (Some first) (Some second) = Some (record { first = first; second = second })
both (Some first) None = None
both None second = None

-- that word and the one behind it, if both are there
abbrev pub pair_of : List ℕ → AxisId → ℕ → Option WordPair
pair_of words axis index = both (word_of words axis index) (word_of words axis (index + 1))
