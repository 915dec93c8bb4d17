-- Completing a move, and what comes after it.
use Rattle.std.specs.Prelude.{◌+◌, Bool, false, cond, ℤ, Some, None, Option}
use Rattle.moves.specs.declared.moves.Move.{Move}
use Rattle.moves.specs.declared.state.Mode.TheVariants.{Rest, Waiting}
use Rattle.moves.specs.declared.state.State.{State}
use Rattle.moves.specs.State.{with_mode, with_coordinates, ended_at, position_of, stored_move}
use Rattle.moves.specs.SetUp.{set_up}

-- whether a move asks for a start before the next one
abbrev pub halts : Option Move → Bool
halts None = false
halts (Some m) = m.halt

-- After the last move the axis rests, after a halt it waits, and else the next move is set up.
abbrev pub go_on : ℤ → State → State
go_on place s =
    elim (stored_move s.program (s.program.current + 1)) [
      | None ↦ with_mode Rest s
      | Some next ↦ cond (halts (stored_move s.program s.program.current)) (with_mode Waiting s) (set_up place (s.program.current + 1) s)
    ]

-- the move's target, which its endpoint is as a programmed position, becomes the last endpoint
abbrev pub arrive : ℤ → State → State
arrive endpoint s = with_coordinates (ended_at (position_of s.coordinates endpoint) s.coordinates) s

-- a move that ends at an endpoint is completed
abbrev pub complete : ℤ → ℤ → State → State
complete endpoint place s = go_on place (arrive endpoint s)
