-- What a command does to the state of an axis. Whether it is allowed is asked before.
use Rattle.std.specs.Prelude.{ℕ, ◌+◌, false, ℤ, pos, ◌-ℤ◌, Some, None, Option}
use Rattle.modes.specs.declared.commands.Command.{Command}
use Rattle.modes.specs.declared.commands.Command.TheVariants.{Begin, Start, SlideStop, SearchHome, JogForward, JogReverse, Reset, Override}
use Rattle.moves.specs.declared.moves.Moveset.{Moveset}
use Rattle.moves.specs.declared.parameters.Parameters.{Parameters}
use Rattle.moves.specs.declared.state.Direction.{Direction}
use Rattle.moves.specs.declared.state.Direction.TheVariants.{Plus, Minus}
use Rattle.moves.specs.declared.state.Mode.{Mode}
use Rattle.moves.specs.declared.state.Mode.TheVariants.{Unset, Down, Rest, Moving, Settling, Dwelling, Waiting, Stopping, Jogging, Homing, Creeping}
use Rattle.moves.specs.declared.state.State.{State}
use Rattle.moves.specs.SetUp.{set_up}
use Rattle.moves.specs.State.{with_motion, with_mode, with_note, with_program, with_coordinates, with_held, lose_home}

-- the code of a command
abbrev pub command_code : Command → ℕ
command_code Begin = 1
command_code Start = 2
command_code SlideStop = 3
command_code SearchHome = 4
command_code JogForward = 5
command_code JogReverse = 6
command_code Reset = 7
command_code (Override percent) = 8

-- A dwell and a wait end at once; anything that may be in motion stops. Axes that have no parameters or are down stay.
abbrev pub stopped_mode : Mode → Mode
stopped_mode Unset = Unset
stopped_mode Down = Down
stopped_mode Rest = Rest
stopped_mode (Moving leg) = Stopping
stopped_mode (Settling endpoint) = Stopping
stopped_mode (Dwelling ticks) = Rest
stopped_mode Waiting = Rest
stopped_mode Stopping = Stopping
stopped_mode Jogging = Stopping
stopped_mode Homing = Stopping
stopped_mode Creeping = Stopping

-- in a direction, in a mode, at the present speed
abbrev pub driven : Mode → Direction → State → State
driven m way s = with_motion (record { mode = m; speed = s.motion.speed; direction = way }) s

abbrev pub with_override : ℕ → State → State
with_override percent s =
    record {
      parameters = s.parameters;
      motion = s.motion;
      coordinates = s.coordinates;
      program = s.program;
      note = s.note;
      override_percent = percent;
      homed = s.homed;
      held = s.held;
    }

-- The state after a command, with the drive at a place.
abbrev pub after_command : Command → ℤ → State → State
after_command Begin place s = set_up place 0 (with_note None s)
after_command Start place s = set_up place (s.program.current + 1) s
after_command SlideStop place s = with_mode (stopped_mode s.motion.mode) s
after_command SearchHome place s = driven Homing Minus (lose_home place (with_note None s))
after_command JogForward place s = driven Jogging Plus s
after_command JogReverse place s = driven Jogging Minus s
after_command Reset place s = with_mode Rest (with_note None s)
after_command (Override percent) place s = with_override percent s

-- Accepted parameters put the axis down, without home, moveset or note; direction and held load stay. Its drive is named 0.
abbrev pub with_parameters : Parameters → State → State
with_parameters p s =
    record {
      parameters = p;
      motion = record { mode = Down; speed = 0; direction = s.motion.direction };
      coordinates = record { base = pos 0; accumulator = pos 0; last_endpoint = pos 0 };
      program = record { moveset = None; current = 0 };
      note = None;
      override_percent = 100;
      homed = false;
      held = s.held;
    }

-- an accepted moveset takes the place of the one before
abbrev pub with_moveset : Moveset → State → State
with_moveset m s = with_program (record { moveset = Some m; current = 0 }) s

-- Loading a held preset: the place where the axis stands gets that position.
abbrev pub loaded : ℤ → Option ℤ → State → State
loaded place None s = s
loaded place (Some preset) s =
    with_held None (with_coordinates (record { base = place -ℤ preset; accumulator = pos 0; last_endpoint = preset }) s)
