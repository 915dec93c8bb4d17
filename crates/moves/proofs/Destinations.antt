-- What destinations and partners keep to, by their definitions.
use Rattle.std.proofs.Common.{◌≡◌, ◌^◌, ℤ, Some, Ok, Err, Result, refl, arith}
use Rattle.std.proofs.lemmas.Int.{ints}
use Rattle.moves.specs.declared.moves.Action.{Action}
use Rattle.moves.specs.declared.moves.Action.TheVariants.{Travel, Preset, Dwell}
use Rattle.moves.specs.declared.moves.Travel.{Travel as Travels}
use Rattle.moves.specs.declared.parameters.Parameters.{Parameters}
use Rattle.moves.specs.declared.partner.Partner.{Partner}
use Rattle.moves.specs.declared.set_up.Destination.{Destination}
use Rattle.moves.specs.declared.state.Coordinates.{Coordinates}
use Rattle.moves.specs.declared.state.Direction.{Direction}
use Rattle.moves.specs.declared.state.Leg.{Leg}
use Rattle.moves.specs.declared.state.Note.{Note}
use Rattle.moves.specs.declared.state.State.{State}
use Rattle.moves.specs.Partner.{partner_by, joined}
use Rattle.moves.specs.SetUp.{destination}
use Rattle.moves.specs.State.{Within, position_of}

-- The accumulator of a destination can be shown.
pub destination_within : (p : Parameters) (c : Coordinates) (from : ℤ) (t : Travels) (d : Destination) → Ok d ≡ destination p c from t → Within (2 ^ 25) d.accumulator
destination_within p c from t d h = grind (arith, ints)

-- A partner has the destination that it was joined by.
joined_within : (way : Direction) (endpoint : ℤ) (next : Result Destination Note) (p : Partner) → Some p ≡ joined way endpoint next → ((d : Destination) → Ok d ≡ next → Within (2 ^ 25) d.accumulator) → Within (2 ^ 25) p.destination.accumulator
joined_within way endpoint (Err n) p h w = cc
joined_within way endpoint (Ok d) p h w = grind (arith, w d refl)

-- So the accumulator that a partner brings can be shown.
pub partner_by_within : (s : State) (leg : Leg) (next : Action) (p : Partner) → Some p ≡ partner_by s leg next → Within (2 ^ 25) p.destination.accumulator
partner_by_within s leg (Travel t) p h =
    let from = position_of s.coordinates leg.endpoint in
    joined_within s.motion.direction leg.endpoint (destination s.parameters s.coordinates from t) p h (destination_within s.parameters s.coordinates from t)
partner_by_within s leg (Preset n) p h = cc
partner_by_within s leg (Dwell n) p h = cc
