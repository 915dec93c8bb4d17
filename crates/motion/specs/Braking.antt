-- How far an axis still travels from a speed, if it slows down as fast as it may.
-- Speeds are counts per tick, a deceleration is counts per tick taken off in each tick, distances are counts.
use Rattle.std.specs.Prelude.{ℕ, zero, suc, ◌+◌, ◌-◌, max}

-- The distance travelled in at most that many ticks: nothing from rest; else this tick's speed,
-- and then what is travelled from the speed less the deceleration, never below 0.
-- A deceleration of 0 is read as 1. Parameters never allow 0; without this an axis would brake for ever.
abbrev pub braking_in : ℕ → ℕ → ℕ → ℕ
braking_in zero d w = zero
braking_in (suc ticks) d zero = zero
braking_in (suc ticks) d (suc w) = suc w + braking_in ticks d (suc w - max d 1)

-- The braking distance of the speed w at the deceleration d.
-- Each tick takes off at least 1, so that w ticks are always enough to come to rest.
abbrev pub braking : ℕ → ℕ → ℕ
braking d w = braking_in w d w
