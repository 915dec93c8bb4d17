-- Which speed an axis takes in its next tick.
use Rattle.std.specs.Prelude.{ℕ, zero, suc, ◌+◌, ◌-◌, ◌≤◌, min, max, true, false, nat_le}
use Rattle.motion.specs.declared.rates.Rates.{Rates}
use Rattle.motion.specs.Braking.{braking}

-- The highest speed that may follow the speed v: v raised by the acceleration, held at the feedrate;
-- or what the deceleration leaves of v, if that is more. Differences stop at 0.
abbrev pub speed_cap : Rates → ℕ → ℕ
speed_cap rates v = max (min (v + rates.acceleration) rates.feedrate) (v - rates.deceleration)

-- The rule: w is the greatest speed up to a top speed from which the axis can brake within the room.
pub record Planned (top d room w : ℕ) : Type 0 where
  -- it does not pass the top speed
  pub capped : w ≤ top
  -- its braking distance fits the room
  pub fits : braking d w ≤ room
  -- every speed up to the top speed whose braking distance fits the room is at most it
  pub greatest : (u : ℕ) → u ≤ top → braking d u ≤ room → u ≤ w

-- w is planned from the speed v with that much room.
abbrev pub PlannedFrom : Rates → ℕ → ℕ → ℕ → Type 0
PlannedFrom rates v room w = Planned (speed_cap rates v) rates.deceleration room w

-- The first speed, counted down from the given one, whose braking distance fits the room.
abbrev pub fastest_fitting : ℕ → ℕ → ℕ → ℕ
fastest_fitting zero d room = zero
fastest_fitting (suc w) d room = elim (nat_le (braking d (suc w)) room) [ true ↦ suc w | false ↦ fastest_fitting w d room ]

-- The planned speed as a function, by which examples can be computed.
abbrev pub planned_speed : Rates → ℕ → ℕ → ℕ
planned_speed rates v room = fastest_fitting (speed_cap rates v) rates.deceleration room
