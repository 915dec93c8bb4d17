-- The search for home.
use Rattle.std.specs.Prelude.{ℕ, Bool, true, cond, ◌&&◌, ℤ, Some, None, Option, ◌==◌, nat_le}
use Rattle.motion.specs.Planning.{planned_speed}
use Rattle.modes.specs.declared.input.Seen.{Seen}
use Rattle.moves.specs.declared.state.Mode.{Mode}
use Rattle.moves.specs.declared.state.Mode.TheVariants.{Rest, Stopping, Creeping}
use Rattle.moves.specs.declared.state.Note.TheVariants.{HomeNotFound}
use Rattle.moves.specs.declared.state.State.{State}
use Rattle.modes.specs.Rates.{rates_at}
use Rattle.moves.specs.State.{with_speed, with_note, with_homed, with_coordinates, ended_at}
use Rattle.modes.specs.Jogging.{reach_room}

-- Searching home in a mode, at a rate: an axis that comes to the end of the reach has not found it.
abbrev pub search_by : Mode → ℕ → ℕ → State → State
search_by m room v s = cond (v == room) (with_note (Some HomeNotFound) (with_speed Stopping v s)) (with_speed m v s)

abbrev pub search_home : Mode → ℕ → Seen → State → State
search_home m rate seen s =
    search_by m (reach_room seen s) (planned_speed (rates_at rate s) s.motion.speed (reach_room seen s)) s

-- Home is found: the place is named home.
abbrev pub found : State → State
found s =
    with_homed true (with_coordinates (ended_at s.parameters.home s.coordinates) (with_speed Rest 0 s))

-- Creeping: home is at the marker, if the axis came to it at no more than the creep rate.
abbrev pub at_home : Bool → State → Bool
at_home marker s = marker && nat_le s.motion.speed s.parameters.creep_rate

abbrev pub creep : Bool → Seen → State → State
creep marker seen s = cond (at_home marker s) (found s) (search_home Creeping s.parameters.creep_rate seen s)

-- the place that a creeping axis names, if it finds home
abbrev pub crept_home : Bool → State → Option ℤ
crept_home marker s = cond (at_home marker s) (Some s.parameters.home) None
