-- The partner of a move: the move after it, where the axis may run into it without coming to rest.
use Rattle.std.specs.Prelude.{ℕ, ◌+◌, ◌^◌, ◌<◌, Bool, cond, not, ◌&&◌, ℤ, ◌-ℤ◌, Some, None, Ok, Err, Option, Result, int_lt, nat_lt, unsigned_abs}
use Rattle.moves.specs.declared.moves.Action.{Action}
use Rattle.moves.specs.declared.moves.Action.TheVariants.{Travel, Preset, Dwell}
use Rattle.moves.specs.declared.moves.Move.{Move}
use Rattle.moves.specs.declared.partner.Partner.{Partner}
use Rattle.moves.specs.declared.set_up.Destination.{Destination}
use Rattle.moves.specs.declared.state.Direction.{Direction}
use Rattle.moves.specs.declared.state.Direction.TheVariants.{Plus, Minus}
use Rattle.moves.specs.declared.state.Leg.{Leg}
use Rattle.moves.specs.declared.state.Note.{Note}
use Rattle.moves.specs.declared.state.State.{State}
use Rattle.moves.specs.Moves.{moves_max}
use Rattle.moves.specs.State.{Within, position_of, stored_move}
use Rattle.moves.specs.SetUp.{destination}

-- the way from one place to another has a length, and runs in that direction
abbrev pub leads : Direction → ℤ → ℤ → Bool
leads Plus from to = int_lt from to
leads Minus from to = int_lt to from

-- this move may run into the next one: it is continuous without halt, and had a length when it was set up
abbrev pub runs_on : Move → Leg → Bool
runs_on m leg = m.continuous && not m.halt && nat_lt 0 leg.length

-- The next move, if it would be set up without a note, has a length from this endpoint and runs the same way.
abbrev pub joined : Direction → ℤ → Result Destination Note → Option Partner
joined way endpoint (Err note) = None
joined way endpoint (Ok d) =
    cond (leads way endpoint d.endpoint) (Some (record { destination = d; length = unsigned_abs (d.endpoint -ℤ endpoint) })) None

-- The next move is set up as from the end of this one. Presets and dwells are no partners.
abbrev pub partner_by : State → Leg → Action → Option Partner
partner_by s leg (Travel t) =
    joined s.motion.direction leg.endpoint (destination s.parameters s.coordinates (position_of s.coordinates leg.endpoint) t)
partner_by s leg (Preset p) = None
partner_by s leg (Dwell ms) = None

abbrev pub partner_after : State → Leg → Move → Option Move → Option Partner
partner_after s leg this None = None
partner_after s leg this (Some next) = cond (runs_on this leg) (partner_by s leg next.action) None

-- the partner of the move under way
abbrev pub partner : State → Leg → Option Partner
partner s leg =
    elim (stored_move s.program s.program.current)
    [ None ↦ None | Some this ↦ partner_after s leg this (stored_move s.program (s.program.current + 1)) ]

-- the counts that a partner adds to the room
abbrev pub partner_length : Option Partner → ℕ
partner_length None = 0
partner_length (Some p) = p.length

-- What a partner keeps to: there is a move after the current one, and the accumulator that it brings can be shown.
pub record Joins (s : State) (p : Partner) : Type 0 where
  pub next : s.program.current + 1 < moves_max
  pub accumulator_within : Within (2 ^ 25) p.destination.accumulator
