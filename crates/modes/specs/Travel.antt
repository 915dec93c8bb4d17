-- Moving, and running into a partner.
use Rattle.std.specs.Prelude.{ℕ, ◌+◌, ◌-◌, cond, not, ◌&&◌, is_some, Some, None, Option, ◌==◌, nat_le}
use Rattle.motion.specs.Planning.{planned_speed}
use Rattle.moves.specs.declared.partner.Partner.{Partner}
use Rattle.moves.specs.declared.state.Leg.{Leg}
use Rattle.moves.specs.declared.state.Mode.TheVariants.{Moving, Settling}
use Rattle.moves.specs.declared.state.State.{State}
use Rattle.moves.specs.Partner.{partner, partner_length}
use Rattle.modes.specs.Rates.{move_rates}
use Rattle.moves.specs.State.{with_mode, with_speed, with_coordinates, with_current, position_of}

-- a leg that is v counts nearer its end
abbrev pub nearer : Leg → ℕ → Leg
nearer leg v = record { endpoint = leg.endpoint; left = leg.left - v; length = leg.length }

-- the partner as the leg under way, with what is left of both once v counts of them are stepped
abbrev pub second_leg : Leg → Partner → ℕ → Leg
second_leg leg p v = record { endpoint = p.destination.endpoint; left = leg.left + p.length - v; length = p.length }

-- this move is completed, and its partner is the current one
abbrev pub blend : Leg → Partner → State → State
blend leg p s =
    with_current (s.program.current + 1)
    (with_coordinates (record { base = s.coordinates.base; accumulator = p.destination.accumulator; last_endpoint = position_of s.coordinates leg.endpoint }) s)

-- a move that has nothing left and no partner settles
abbrev pub settle_at_end : Leg → State → State
settle_at_end leg s = cond (leg.left == 0 && not (is_some (partner s leg))) (with_mode (Settling leg.endpoint) s) s

-- the axis goes on along a leg
abbrev pub follow : Leg → ℕ → State → State
follow leg v s = settle_at_end leg (with_speed (Moving leg) v s)

-- this move is completed, and the axis goes on along its partner
abbrev pub run_into : Leg → Partner → ℕ → State → State
run_into leg p v s = follow (second_leg leg p v) v (blend leg p s)

-- A speed of at least what is left runs into the partner.
abbrev pub travel_by : Leg → Option Partner → ℕ → State → State
travel_by leg None v s = follow (nearer leg v) v s
travel_by leg (Some p) v s = cond (nat_le leg.left v) (run_into leg p v s) (follow (nearer leg v) v s)

-- Moving: the room is what is left, and the partner's length.
abbrev pub travel_room : Leg → State → ℕ
travel_room leg s = leg.left + partner_length (partner s leg)

abbrev pub travel : Leg → State → State
travel leg s = travel_by leg (partner s leg) (planned_speed (move_rates s) s.motion.speed (travel_room leg s)) s
