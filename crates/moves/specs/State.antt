-- The parts of an axis's state that the rules change, each by a function of its own.
use Rattle.std.specs.Prelude.{ℕ, Bool, false, ◌||◌, ℤ, pos, ◌-ℤ◌, neg_ℤ, ◌≤ℤ◌, Some, None, Option, int_lt}
use Rattle.moves.specs.declared.parameters.Parameters.{Parameters}
use Rattle.moves.specs.declared.state.Coordinates.{Coordinates}
use Rattle.moves.specs.declared.state.Direction.{Direction}
use Rattle.moves.specs.declared.state.Direction.TheVariants.{Plus, Minus}
use Rattle.moves.specs.declared.state.Mode.{Mode}
use Rattle.moves.specs.declared.state.Mode.TheVariants.{Unset, Rest}
use Rattle.moves.specs.declared.state.Motion.{Motion}
use Rattle.moves.specs.declared.state.Note.{Note}
use Rattle.moves.specs.declared.state.Program.{Program}
use Rattle.moves.specs.declared.state.State.{State}
use Rattle.moves.specs.declared.moves.Move.{Move}
use Rattle.moves.specs.Moves.{move_at}

abbrev pub with_motion : Motion → State → State
with_motion m s =
    record {
      parameters = s.parameters;
      motion = m;
      coordinates = s.coordinates;
      program = s.program;
      note = s.note;
      override_percent = s.override_percent;
      homed = s.homed;
      held = s.held;
    }

abbrev pub with_coordinates : Coordinates → State → State
with_coordinates c s =
    record {
      parameters = s.parameters;
      motion = s.motion;
      coordinates = c;
      program = s.program;
      note = s.note;
      override_percent = s.override_percent;
      homed = s.homed;
      held = s.held;
    }

abbrev pub with_program : Program → State → State
with_program p s =
    record {
      parameters = s.parameters;
      motion = s.motion;
      coordinates = s.coordinates;
      program = p;
      note = s.note;
      override_percent = s.override_percent;
      homed = s.homed;
      held = s.held;
    }

abbrev pub with_note : Option Note → State → State
with_note n s =
    record {
      parameters = s.parameters;
      motion = s.motion;
      coordinates = s.coordinates;
      program = s.program;
      note = n;
      override_percent = s.override_percent;
      homed = s.homed;
      held = s.held;
    }

abbrev pub with_homed : Bool → State → State
with_homed h s =
    record {
      parameters = s.parameters;
      motion = s.motion;
      coordinates = s.coordinates;
      program = s.program;
      note = s.note;
      override_percent = s.override_percent;
      homed = h;
      held = s.held;
    }

abbrev pub with_held : Option ℤ → State → State
with_held p s =
    record {
      parameters = s.parameters;
      motion = s.motion;
      coordinates = s.coordinates;
      program = s.program;
      note = s.note;
      override_percent = s.override_percent;
      homed = s.homed;
      held = p;
    }

-- another mode, at the same speed and direction
abbrev pub with_mode : Mode → State → State
with_mode m s = with_motion (record { mode = m; speed = s.motion.speed; direction = s.motion.direction }) s

-- another mode and speed, in the same direction
abbrev pub with_speed : Mode → ℕ → State → State
with_speed m v s = with_motion (record { mode = m; speed = v; direction = s.motion.direction }) s

-- the index of the move that is set up
abbrev pub with_current : ℕ → State → State
with_current i s = with_program (record { moveset = s.program.moveset; current = i }) s

-- the coordinates with another last endpoint
abbrev pub ended_at : ℤ → Coordinates → Coordinates
ended_at e c = record { base = c.base; accumulator = c.accumulator; last_endpoint = e }

-- a place of the drive, as a programmed position
abbrev pub position_of : Coordinates → ℤ → ℤ
position_of c place = place -ℤ c.base -ℤ c.accumulator

-- Losing home: positions are the drive's places again, and the last endpoint is where it stands.
abbrev pub lose_home : ℤ → State → State
lose_home place s =
    with_homed false (with_coordinates (record { base = pos 0; accumulator = pos 0; last_endpoint = place }) s)

-- the axis comes to rest with a note, and all else stays
abbrev pub rest_with : Note → State → State
rest_with n s = with_note (Some n) (with_mode Rest s)

-- that many counts in a direction
abbrev pub signed : Direction → ℕ → ℤ
signed Plus v = pos v
signed Minus v = neg_ℤ (pos v)

-- the move of an index of the moveset that the axis holds
abbrev pub stored_move : Program → ℕ → Option Move
stored_move p i = elim p.moveset [ None ↦ None | Some m ↦ move_at m i ]

-- z is a number from -n to n
abbrev pub Within : ℕ → ℤ → Type 0
Within n z = (neg_ℤ (pos n) ≤ℤ z) × (z ≤ℤ pos n)

-- the largest size of a position that can be shown
abbrev pub shown_max : ℤ
shown_max = pos 19999999

-- z is beyond what a position can show
abbrev pub beyond_shown : ℤ → Bool
beyond_shown z = int_lt z (neg_ℤ shown_max) || int_lt shown_max z

abbrev pub no_parameters : Parameters
no_parameters =
    record {
      low = pos 0;
      high = pos 0;
      home = pos 0;
      offset = pos 0;
      feedrate = 0;
      acceleration = 0;
      deceleration = 0;
      jog_rate = 0;
      home_rate = 0;
      creep_rate = 0;
      band = 0;
      following_limit = 0;
    }

-- an axis before any call: no parameters, all numbers 0, direction plus, override 100
abbrev pub new_state : State
new_state =
    record {
      parameters = no_parameters;
      motion = record { mode = Unset; speed = 0; direction = Plus };
      coordinates = record { base = pos 0; accumulator = pos 0; last_endpoint = pos 0 };
      program = record { moveset = None; current = 0 };
      note = None;
      override_percent = 100;
      homed = false;
      held = None;
    }
