-- The modes in which an axis stands or comes to a stand.
use Rattle.std.specs.Prelude.{ℕ, ◌-◌, Bool, cond, ℤ, nat_le, unsigned_abs}
use Rattle.moves.specs.declared.state.Mode.TheVariants.{Rest, Dwelling, Stopping}
use Rattle.moves.specs.declared.state.State.{State}
use Rattle.moves.specs.Completing.{complete, go_on, arrive}
use Rattle.moves.specs.State.{with_speed}

-- the same mode, with no step
abbrev pub still : State → State
still s = with_speed s.motion.mode 0 s

-- Dwelling: one tick fewer, and at 0 the dwell is completed; its target is the last endpoint.
abbrev pub dwell : ℤ → ℕ → State → State
dwell place ticks s = cond (nat_le ticks 1) (go_on place (still s)) (with_speed (Dwelling (ticks - 1)) 0 s)

-- the size of a gap is at most a limit
abbrev pub gap_within : ℤ → ℕ → Bool
gap_within gap limit = nat_le (unsigned_abs gap) limit

-- Settling: the move is completed once the gap is within the band.
abbrev pub settle : ℤ → ℤ → Bool → State → State
settle endpoint place in_band s = cond in_band (complete endpoint place (still s)) (still s)

-- Stopping: the speed falls by the deceleration; at 0 the axis rests, and its last endpoint is where it stands.
abbrev pub slow_down : ℤ → State → State
slow_down place s =
    cond (nat_le s.motion.speed s.parameters.deceleration)
    (arrive place (with_speed Rest 0 s))
    (with_speed Stopping (s.motion.speed - s.parameters.deceleration) s)
