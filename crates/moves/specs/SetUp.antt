-- Setting up a move: where it goes, and what notes it may make instead.
use Rattle.std.specs.Prelude.{ℕ, ◌+◌, ◌*◌, ◌/◌, Bool, cond, not, ◌&&◌, ◌||◌, ℤ, pos, ◌+ℤ◌, ◌-ℤ◌, unsigned_abs, Some, None, Ok, Err, Result, ◌==◌, int_lt}
use Rattle.words.specs.declared.position.Target.{Target}
use Rattle.words.specs.declared.position.Target.TheVariants.{Absolute, Incremental}
use Rattle.moves.specs.declared.moves.Action.{Action}
use Rattle.moves.specs.declared.moves.Action.TheVariants.{Travel, Preset, Dwell}
use Rattle.moves.specs.declared.moves.Travel.{Travel as Travels}
use Rattle.moves.specs.declared.parameters.Parameters.{Parameters}
use Rattle.moves.specs.declared.set_up.Destination.{Destination}
use Rattle.moves.specs.declared.state.Coordinates.{Coordinates}
use Rattle.moves.specs.declared.state.Direction.TheVariants.{Plus, Minus}
use Rattle.moves.specs.declared.state.Mode.TheVariants.{Moving, Settling, Dwelling}
use Rattle.moves.specs.declared.state.Motion.{Motion}
use Rattle.moves.specs.declared.state.Note.{Note}
use Rattle.moves.specs.declared.state.Note.TheVariants.{OutsideLimits, OutOfRange}
use Rattle.moves.specs.declared.state.State.{State}
use Rattle.moves.specs.State.{with_motion, with_coordinates, with_mode, with_current, rest_with, stored_move, beyond_shown}

-- the target: the position itself, or so many counts on from the last endpoint
abbrev pub target_from : ℤ → Target → ℤ
target_from from (Absolute p) = p
target_from from (Incremental p) = from +ℤ p

-- the accumulator with which a move runs: a move with offset adds the offset first
abbrev pub accumulated : Parameters → ℤ → Bool → ℤ
accumulated p accumulator with_offset = cond with_offset (accumulator +ℤ p.offset) accumulator

-- z is outside the travel limits
abbrev pub outside : Parameters → ℤ → Bool
outside p z = int_lt z p.low || int_lt p.high z

-- An accumulator beyond what can be shown is noted before an endpoint outside the limits.
abbrev pub checked : Parameters → ℤ → ℤ → Result Destination Note
checked p accumulator endpoint =
    cond (beyond_shown accumulator) (Err OutOfRange) (cond (outside p endpoint) (Err OutsideLimits) (Ok (record { accumulator = accumulator; endpoint = endpoint })))

-- Where a move goes from a last endpoint, or the note that its set-up makes.
abbrev pub destination : Parameters → Coordinates → ℤ → Travels → Result Destination Note
destination p c from t =
    checked p (accumulated p c.accumulator t.with_offset) (target_from from t.target +ℤ c.base +ℤ accumulated p c.accumulator t.with_offset)

-- Toward an endpoint: at it already, the axis settles; else it moves there.
abbrev pub heading : ℤ → ℤ → Motion → Motion
heading place endpoint m =
    cond (unsigned_abs (endpoint -ℤ place) == 0)
    (record { mode = Settling endpoint; speed = m.speed; direction = m.direction })
    (record {
      mode = Moving (record { endpoint = endpoint; left = unsigned_abs (endpoint -ℤ place); length = unsigned_abs (endpoint -ℤ place) });
      speed = m.speed;
      direction = cond (int_lt endpoint place) Minus Plus;
    })

-- move i is set up to go to a destination
abbrev pub head_for : ℤ → ℕ → Destination → State → State
head_for place i d s =
    with_current i (with_coordinates (record { base = s.coordinates.base; accumulator = d.accumulator; last_endpoint = s.coordinates.last_endpoint }) (with_motion (heading place d.endpoint s.motion) s))

-- a move or a move with offset
abbrev pub set_up_travel : ℤ → ℕ → Travels → State → State
set_up_travel place i t s =
    elim (destination s.parameters s.coordinates s.coordinates.last_endpoint t) [ Err note ↦ rest_with note s | Ok d ↦ head_for place i d s ]

-- under that base, both limits can be shown as positions
abbrev pub limits_show : Parameters → ℤ → Bool
limits_show p base = not (beyond_shown (p.low -ℤ base)) && not (beyond_shown (p.high -ℤ base))

-- A preset names the place where the axis stands; its target is the preset itself.
abbrev pub set_up_preset : ℤ → ℕ → ℤ → State → State
set_up_preset place i preset s =
    cond (limits_show s.parameters (place -ℤ preset))
    (with_current i (with_coordinates (record { base = place -ℤ preset; accumulator = pos 0; last_endpoint = s.coordinates.last_endpoint }) (with_mode (Settling place) s)))
    (rest_with OutOfRange s)

-- a dwell of so many milliseconds lasts 5 twelfths of a tick for each, rounded up
abbrev pub dwell_ticks : ℕ → ℕ
dwell_ticks ms = (5 * ms + 11) / 12

-- the set-up of one action as move i
abbrev pub set_up_action : ℤ → ℕ → Action → State → State
set_up_action place i (Travel t) s = set_up_travel place i t s
set_up_action place i (Preset p) s = set_up_preset place i p s
set_up_action place i (Dwell ms) s = with_current i (with_mode (Dwelling (dwell_ticks ms)) s)

-- Setting up move i of the moveset; where there is none, nothing changes.
abbrev pub set_up : ℤ → ℕ → State → State
set_up place i s = elim (stored_move s.program i) [ None ↦ s | Some m ↦ set_up_action place i m.action s ]
