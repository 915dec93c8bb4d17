-- What the words behind a control word say, and the questions that are put to them. A move starts at `at` with its control word.
use Rattle.std.specs.Prelude.{ℕ, ◌+◌, Bool, cond, ◌&&◌, List, [], ◌∷◌, ◌++◌, Some, None, Option, nat_le}
use Rattle.words.specs.Readings.{marked}
use Rattle.words.specs.Words.{on, four_decimal, four_digits, seven_digits, position_start, position_value, target_start, dwell_start}
use Rattle.words.specs.declared.axis.AxisId.{AxisId}
use Rattle.words.specs.declared.fault.Question.TheVariants.{Digits, Range}
use Rattle.words.specs.declared.word.Bit.TheVariants.{B10, B15}
use Rattle.moves.specs.declared.moves.Action.{Action}
use Rattle.moves.specs.declared.moves.Action.TheVariants as the
use Rattle.blocks.specs.Bounds.{rate_max}
use Rattle.blocks.specs.Directory.{word_at}
use Rattle.blocks.specs.Questions.{Asked, ask}
use Rattle.movesets.specs.Control.{has_feedrate, is_preset, is_dwell}

-- the two words behind the control word: the first, whose form the kind of move gives, and the second
abbrev pub pair_digits : List ℕ → Option AxisId → ℕ → (ℕ → Bool) → List Asked
pair_digits ws axis at first_right =
    ask Digits axis (at + 1) (first_right (word_at ws (at + 1))) ∷ ask Digits axis (at + 2) (four_decimal (word_at ws (at + 2))) ∷ []

-- the local feedrate, in the fourth word of a move: its digits, then its range
abbrev pub feedrate_questions : List ℕ → Option AxisId → ℕ → List Asked
feedrate_questions ws axis at =
    ask Digits axis (at + 3) (four_decimal (word_at ws (at + 3)))
    ∷ ask Range axis (at + 3) (nat_le 1 (four_digits (word_at ws (at + 3))) && nat_le (four_digits (word_at ws (at + 3))) rate_max)
    ∷ []

-- they are asked, and there is a feedrate, where the control word says so
unfoldable pub local_questions : List ℕ → Option AxisId → ℕ → List Asked
local_questions ws axis at = cond (has_feedrate (word_at ws at)) (feedrate_questions ws axis at) []

unfoldable pub local_feedrate : List ℕ → ℕ → Option ℕ
local_feedrate ws at = cond (has_feedrate (word_at ws at)) (Some (four_digits (word_at ws (at + 3)))) None

-- a move or a move with offset
abbrev pub travel_questions : List ℕ → Option AxisId → ℕ → List Asked
travel_questions ws axis at = pair_digits ws axis at target_start ++ local_questions ws axis at

abbrev pub travel_action : List ℕ → ℕ → Action
travel_action ws at =
    the.Travel (record {
      target = marked (on B15 (word_at ws (at + 1))) (position_value (word_at ws (at + 1)) (word_at ws (at + 2)));
      with_offset = on B10 (word_at ws at);
      feedrate = local_feedrate ws at;
    })

-- a preset, whose position has no incremental mark
abbrev pub preset_questions : List ℕ → Option AxisId → ℕ → List Asked
preset_questions ws axis at = pair_digits ws axis at position_start

abbrev pub preset_action : List ℕ → ℕ → Action
preset_action ws at = the.Preset (position_value (word_at ws (at + 1)) (word_at ws (at + 2)))

-- a dwell: 20 to 9,999,990 milliseconds, asked at the first of its two words
abbrev pub dwell_time : List ℕ → ℕ → ℕ
dwell_time ws at = seven_digits (word_at ws (at + 1)) (word_at ws (at + 2))

abbrev pub dwell_questions : List ℕ → Option AxisId → ℕ → List Asked
dwell_questions ws axis at =
    pair_digits ws axis at dwell_start ++ ask Range axis (at + 1) (nat_le 20 (dwell_time ws at) && nat_le (dwell_time ws at) 9999990) ∷ []

abbrev pub dwell_action : List ℕ → ℕ → Action
dwell_action ws at = the.Dwell (dwell_time ws at)

-- by the kind of move
unfoldable pub action_questions : List ℕ → Option AxisId → ℕ → List Asked
action_questions ws axis at =
    cond (is_dwell (word_at ws at)) (dwell_questions ws axis at) (cond (is_preset (word_at ws at)) (preset_questions ws axis at) (travel_questions ws axis at))

unfoldable pub action_of : List ℕ → ℕ → Action
action_of ws at =
    cond (is_dwell (word_at ws at)) (dwell_action ws at) (cond (is_preset (word_at ws at)) (preset_action ws at) (travel_action ws at))
