-- Preset blocks. A record is the axis and a position without an incremental mark.
use Rattle.std.specs.Prelude.{ℕ, ◌+◌, List, [], ◌∷◌, ◌++◌, ℤ, Option}
use Rattle.words.specs.Words.{position_start, position_value, four_decimal}
use Rattle.words.specs.declared.axis.AxisId.{AxisId}
use Rattle.words.specs.declared.by_axis.ByAxis.{ByAxis}
use Rattle.words.specs.declared.fault.Question.TheVariants.{Digits}
use Rattle.blocks.specs.declared.kinds.Kind.TheVariants.{Presets}
use Rattle.blocks.specs.declared.records.Record.{Record}
use Rattle.blocks.specs.Directory.{word_at, directory_questions, starts_by_axis}
use Rattle.blocks.specs.Questions.{Asked, ask}
use Rattle.blocks.specs.Records.{in_turn, records_from}

-- the position in words 1 and 2 of the record
abbrev pub preset_value : List ℕ → ℕ → ℤ
preset_value ws at = position_value (word_at ws (at + 1)) (word_at ws (at + 2))

-- its digits and fixed bits; every position is in range
abbrev pub preset_digits : List ℕ → Option AxisId → ℕ → List Asked
preset_digits ws axis at =
    ask Digits axis (at + 1) (position_start (word_at ws (at + 1)))
    ∷ ask Digits axis (at + 2) (four_decimal (word_at ws (at + 2)))
    ∷ []

-- all questions of a preset block
abbrev pub preset_questions : List ℕ → List Asked
preset_questions ws = directory_questions Presets ws ++ in_turn 3 ws (preset_digits ws)

-- what an accepted preset block says
abbrev pub presets : List ℕ → ByAxis (Option (Record ℤ))
presets ws = records_from (preset_value ws) (starts_by_axis 3 ws)
