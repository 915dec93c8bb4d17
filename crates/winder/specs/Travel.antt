-- How a move goes on from tick to tick.
use Rattle.std.specs.Prelude.{ℕ, ◌-◌, cond, ℤ, pos, int_lt, unsigned_abs}
use Rattle.motion.specs.declared.rates.Rates.{Rates}
use Rattle.motion.specs.Planning.{planned_speed}
use Rattle.moves.specs.declared.state.Direction.TheVariants.{Plus, Minus}
use Rattle.moves.specs.State.{signed}
use Rattle.winder.specs.declared.travel.Move.{Move}

-- a move by z counts that has not begun
abbrev pub new_move : ℤ → Move
new_move z = record { left = unsigned_abs z; speed = 0; direction = cond (int_lt z (pos 0)) Minus Plus }

-- the room of a move is what is left of it
abbrev pub next_speed : Rates → Move → ℕ
next_speed rates m = planned_speed rates m.speed m.left

abbrev pub next_step : Rates → Move → ℤ
next_step rates m = signed m.direction (next_speed rates m)

abbrev pub advanced : Rates → Move → Move
advanced rates m = record { left = m.left - next_speed rates m; speed = next_speed rates m; direction = m.direction }
