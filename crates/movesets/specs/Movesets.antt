-- Movesets: their questions, move by move, and their moves.
use Rattle.std.specs.Prelude.{ℕ, zero, suc, ◌+◌, ◌-◌, ◌&&◌, List, [], ◌∷◌, ◌++◌, length, replicate, Option, nat_le, nat_lt}
use Rattle.words.specs.Words.{on}
use Rattle.words.specs.declared.axis.AxisId.{AxisId}
use Rattle.words.specs.declared.fault.Question.TheVariants as q
use Rattle.words.specs.declared.word.Bit.TheVariants.{B16, B17}
use Rattle.moves.specs.Moves.{moves_max, no_move}
use Rattle.moves.specs.declared.moves.Move.{Move}
use Rattle.moves.specs.declared.moves.Moveset.{Moveset}
use Rattle.blocks.specs.Directory.{word_at}
use Rattle.blocks.specs.Numbers.{filled}
use Rattle.blocks.specs.Questions.{Asked, ask}
use Rattle.movesets.specs.Actions.{action_questions, action_of}
use Rattle.movesets.specs.Control.{control_right, move_length}

-- the control word of a move is there and right, and so are the other words of the move there
abbrev pub control_questions : List ℕ → Option AxisId → ℕ → List Asked
control_questions ws axis at =
    ask q.Length axis 0 (nat_lt at (length ws))
    ∷ ask q.Control axis at (control_right (word_at ws at))
    ∷ ask q.Length axis 0 (nat_le (at + move_length (word_at ws at)) (length ws))
    ∷ []

-- the move that starts at `at`
unfoldable pub move_questions : List ℕ → Option AxisId → ℕ → List Asked
move_questions ws axis at = control_questions ws axis at ++ action_questions ws axis at

unfoldable pub move_of : List ℕ → ℕ → Move
move_of ws at = record { action = action_of ws at; halt = on B16 (word_at ws at); continuous = on B17 (word_at ws at) }

-- where the move behind it starts
abbrev pub next_start : List ℕ → ℕ → ℕ
next_start ws at = at + move_length (word_at ws at)

-- n moves, the first of which starts at `at`; then no word is left over, and there is no word 64
abbrev pub moves_asked : List ℕ → Option AxisId → ℕ → ℕ → List Asked
moves_asked ws axis at zero = ask q.Length axis at (nat_le (length ws) at) ∷ ask q.Length axis 64 (nat_le (length ws) 64) ∷ []
moves_asked ws axis at (suc n) = move_questions ws axis at ++ moves_asked ws axis (next_start ws at) n

abbrev pub moves_from : List ℕ → ℕ → ℕ → List Move
moves_from ws at zero = []
moves_from ws at (suc n) = move_of ws at ∷ moves_from ws (next_start ws at) n

-- word 0 is 512 and the number of moves
abbrev pub move_count : List ℕ → ℕ
move_count ws = word_at ws 0 - 512

abbrev pub count_questions : List ℕ → Option AxisId → List Asked
count_questions ws axis =
    ask q.Kind axis 0 (nat_le 1 (length ws)) ∷ ask q.Kind axis 0 (nat_le 513 (word_at ws 0) && nat_le (word_at ws 0) 533) ∷ []

-- all questions of a moveset of an axis
abbrev pub moveset_questions : List ℕ → Option AxisId → List Asked
moveset_questions ws axis = count_questions ws axis ++ moves_asked ws axis 1 (move_count ws)

-- what an accepted moveset says: its moves, one after the other in the slots that there are, and how many they are
abbrev pub moveset_of : List ℕ → Moveset
moveset_of ws =
    record { moves = filled (replicate moves_max no_move) 0 (moves_from ws 1 (move_count ws)); count = move_count ws }
