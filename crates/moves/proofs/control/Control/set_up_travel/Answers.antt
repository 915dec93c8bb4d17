use Rattle.std.proofs.Common.{w64, to_z, of_z}
use Rattle.moves.proofs.Destinations.{destination_within}
use Rattle.moves.proofs.control.Control.set_up_travel.Goals as goal

pub invariant_of-self-clause-accumulator : goal.invariant_of-self-clause-accumulator
invariant_of-self-clause-accumulator c =
    let s = c.args.self.now.state in
    let from = to_z w64 (of_z w64 s.coordinates.last_endpoint) in
    rw c.head_for.ensures (destination_within s.parameters s.coordinates from c.args.travel.now c.in-Ok.destination c.in-Ok.ensures)
