-- Jogging, and the room that an axis has within its limits or its reach.
use Rattle.std.specs.Prelude.{ℕ, cond, ℤ, ◌-ℤ◌, neg_ℤ, ◌==◌, int_lt, unsigned_abs}
use Rattle.motion.specs.Planning.{planned_speed}
use Rattle.modes.specs.declared.input.Seen.{Seen}
use Rattle.moves.specs.declared.state.Direction.{Direction}
use Rattle.moves.specs.declared.state.Direction.TheVariants.{Plus, Minus}
use Rattle.moves.specs.declared.state.Mode.TheVariants.{Stopping, Jogging}
use Rattle.moves.specs.declared.state.State.{State}
use Rattle.modes.specs.Rates.{rates_at}
use Rattle.moves.specs.State.{with_speed}

-- how far it is up to a place; 0 where that lies behind
abbrev pub up_to : ℤ → ℤ → ℕ
up_to from to = cond (int_lt from to) (unsigned_abs (to -ℤ from)) 0

-- the room from a place to a bound on the side of the direction
abbrev pub room_to : Direction → ℤ → ℤ → ℤ → ℕ
room_to Plus low high place = up_to place high
room_to Minus low high place = up_to low place

-- the room within the reach
abbrev pub reach_room : Seen → State → ℕ
reach_room seen s = room_to s.motion.direction (neg_ℤ seen.reach) seen.reach seen.place

-- the room within the travel limits, or within the reach on an axis that is not homed
abbrev pub jog_room : Seen → State → ℕ
jog_room seen s =
    cond s.homed (room_to s.motion.direction s.parameters.low s.parameters.high seen.place) (reach_room seen s)

-- Jogging: at the jog rate, until no distance is left.
abbrev pub jog_by : ℕ → ℕ → State → State
jog_by room v s = with_speed (cond (v == room) Stopping Jogging) v s

abbrev pub jog : Seen → State → State
jog seen s =
    jog_by (jog_room seen s) (planned_speed (rates_at s.parameters.jog_rate s) s.motion.speed (jog_room seen s)) s
