-- The rates in force.
use Rattle.std.specs.Prelude.{ℕ, ◌*◌, ◌/◌, min, Some, None, Option}
use Rattle.motion.specs.declared.rates.Rates.{Rates}
use Rattle.moves.specs.declared.moves.Action.{Action}
use Rattle.moves.specs.declared.moves.Action.TheVariants.{Travel, Preset, Dwell}
use Rattle.moves.specs.declared.moves.Move.{Move}
use Rattle.moves.specs.declared.state.State.{State}
use Rattle.moves.specs.State.{stored_move}

-- the axis's acceleration and deceleration with a feedrate
abbrev pub rates_at : ℕ → State → Rates
rates_at f s =
    record { feedrate = f; acceleration = s.parameters.acceleration; deceleration = s.parameters.deceleration }

abbrev pub or_else : Option ℕ → ℕ → ℕ
or_else None f = f
or_else (Some own) f = own

-- the feedrate of an action: its own, or else the parameters'
abbrev pub action_feedrate : ℕ → Action → ℕ
action_feedrate f (Travel t) = or_else t.feedrate f
action_feedrate f (Preset p) = f
action_feedrate f (Dwell ms) = f

abbrev pub feedrate_of : ℕ → Option Move → ℕ
feedrate_of f None = f
feedrate_of f (Some m) = action_feedrate f m.action

-- A feedrate under an override in hundredths, rounded down. Rates up to 7,996 and overrides up to 127 stay at 10,154 or below;
-- the bound of 16 bits, which they do not reach, lets every speed fit its type.
abbrev pub scaled : ℕ → ℕ → ℕ
scaled f percent = min (f * percent / 100) 65535

-- the rates of the move under way: the override scales its feedrate, also where that is its own
abbrev pub move_rates : State → Rates
move_rates s =
    rates_at (scaled (feedrate_of s.parameters.feedrate (stored_move s.program s.program.current)) s.override_percent) s
