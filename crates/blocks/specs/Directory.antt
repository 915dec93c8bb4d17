-- Blocks with a directory: their kinds, where their records lie, and the questions up to the axis words.
use Rattle.std.specs.Prelude.{ℕ, zero, suc, ◌+◌, ◌*◌, ◌≤◌, cond, ◌&&◌, List, [], ◌∷◌, ◌++◌, length, Some, None, Option, ◌==◌, nat_le, nat_lt, slice_index}
use Rattle.words.specs.Faults.{axis_number}
use Rattle.words.specs.declared.axis.AxisId.{AxisId}
use Rattle.words.specs.declared.axis.AxisId.TheVariants.{One, Two, Three}
use Rattle.words.specs.declared.by_axis.ByAxis.{ByAxis}
use Rattle.words.specs.declared.fault.Question.TheVariants as q
use Rattle.blocks.specs.declared.kinds.Kind.{Kind}
use Rattle.blocks.specs.declared.kinds.Kind.TheVariants.{Parameters, Commands, Presets}
use Rattle.blocks.specs.Questions.{Asked, ask}

-- the number that word 0 of a block bears
abbrev pub kind_number : Kind → ℕ
kind_number Parameters = 1
kind_number Commands = 3
kind_number Presets = 4

-- how many words a record of the kind has
abbrev pub record_length : Kind → ℕ
record_length Parameters = 17
record_length Commands = 3
record_length Presets = 3

-- the word of an index; the questions that come first see to it that it is there
abbrev pub word_at : List ℕ → ℕ → ℕ
word_at ws i = slice_index ws i

-- the number of records
abbrev pub record_count : List ℕ → ℕ
record_count ws = word_at ws 1

-- where the first of n records starts: behind the directory
abbrev pub records_start : ℕ → ℕ
records_start n = 2 + 2 * n

-- where n records of a length start, when the first starts at `at`: each other one starts where the one before it ends
abbrev pub starts_from : ℕ → ℕ → ℕ → List ℕ
starts_from len at zero = []
starts_from len at (suc n) = at ∷ starts_from len (at + len) n

-- where the last of them ends
abbrev pub end_from : ℕ → ℕ → ℕ → ℕ
end_from len at zero = at
end_from len at (suc n) = end_from len (at + len) n

-- where the records of a block start, which have `len` words each
abbrev pub starts : ℕ → List ℕ → List ℕ
starts len ws = starts_from len (records_start (record_count ws)) (record_count ws)

-- where such a block ends
abbrev pub block_end : ℕ → List ℕ → ℕ
block_end len ws = end_from len (records_start (record_count ws)) (record_count ws)

-- two words at least, and the right kind; one to three records, and all words of the directory
abbrev pub count_questions : Kind → List ℕ → List Asked
count_questions k ws =
    ask q.Kind None 0 (nat_le 2 (length ws))
    ∷ ask q.Kind None 0 (word_at ws 0 == kind_number k)
    ∷ ask q.Directory None 1 (nat_le 1 (record_count ws) && nat_le (record_count ws) 3)
    ∷ ask q.Directory None 0 (nat_le (records_start (record_count ws)) (length ws))
    ∷ []

-- from pair i on, counted from 0, a pair for each record: where it starts, and its length
abbrev pub pairs_from : ℕ → List ℕ → ℕ → List ℕ → List Asked
pairs_from len ws i [] = []
pairs_from len ws i (at ∷ more) =
    ask q.Pairs None (2 + 2 * i) (word_at ws (2 + 2 * i) == at)
    ∷ ask q.Pairs None (2 + 2 * i + 1) (word_at ws (2 + 2 * i + 1) == len)
    ∷ pairs_from len ws (i + 1) more

-- the block ends where its last record does
abbrev pub end_question : ℕ → List ℕ → Asked
end_question len ws = ask q.Pairs None 0 (length ws == block_end len ws)

-- the pairs, and then the end of the block
abbrev pub pair_questions : ℕ → List ℕ → List Asked
pair_questions len ws = pairs_from len ws 0 (starts len ws) ++ end_question len ws ∷ []

-- the axis word of each record: above the one before it, the first above 0, and at most 3
abbrev pub axes_from : List ℕ → ℕ → List ℕ → List Asked
axes_from ws above [] = []
axes_from ws above (at ∷ more) =
    ask q.Axis None at (nat_lt above (word_at ws at) && nat_le (word_at ws at) 3) ∷ axes_from ws (word_at ws at) more

abbrev pub axis_questions : ℕ → List ℕ → List Asked
axis_questions len ws = axes_from ws 0 (starts len ws)

-- where the records lie and whose they are
abbrev pub start_questions : ℕ → List ℕ → List Asked
start_questions len ws = pair_questions len ws ++ axis_questions len ws

-- all questions up to the axis words, in their order
abbrev pub directory_questions : Kind → List ℕ → List Asked
directory_questions k ws = count_questions k ws ++ start_questions (record_length k) ws

-- the axis whose number stands in an axis word
abbrev pub axis_of : ℕ → Option AxisId
axis_of n = cond (n == 1) (Some One) (cond (n == 2) (Some Two) (cond (n == 3) (Some Three) None))

-- the first of the given starts whose axis word is the number n
abbrev pub start_of : List ℕ → ℕ → List ℕ → Option ℕ
start_of ws n [] = None
start_of ws n (at ∷ more) = cond (word_at ws at == n) (Some at) (start_of ws n more)

-- where the record of each axis starts
abbrev pub starts_by_axis : ℕ → List ℕ → ByAxis (Option ℕ)
starts_by_axis len ws =
    record { one = start_of ws (axis_number One) (starts len ws); two = start_of ws (axis_number Two) (starts len ws); three = start_of ws (axis_number Three) (starts len ws) }

-- a record that starts there lies inside the block
abbrev pub Inside : ℕ → List ℕ → Option ℕ → Type 0
Inside len ws None = Unit {0}
Inside len ws (Some at) = at + len ≤ length ws

-- each record that is there lies inside the block
pub record StartsInside (len : ℕ) (ws : List ℕ) (s : ByAxis (Option ℕ)) : Type 0 where
  pub one_inside : Inside len ws s.one
  pub two_inside : Inside len ws s.two
  pub three_inside : Inside len ws s.three
