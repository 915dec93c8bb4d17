use Rattle.std.proofs.Common.{ℕ, ◌-◌, ◌≤◌}
use Rattle.motion.specs.Braking.{braking}
use Rattle.motion.proofs.rates.fastest_fitting.Given as goal

-- The answer lies between `low` and `high`: `low` fits, and no speed above `high` does.
abbrev pub invariant-loop-low : goal.invariant-loop-low
invariant-loop-low l = (l.low ≤ l.high) × (l.high ≤ l.top) × (braking l.deceleration l.low ≤ l.room) × ((u : ℕ) → u ≤ l.top → braking l.deceleration u ≤ l.room → u ≤ l.high)

abbrev pub decreases-loop-low : goal.decreases-loop-low
decreases-loop-low l = l.high - l.low
