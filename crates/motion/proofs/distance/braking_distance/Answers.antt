use Rattle.std.proofs.Common.{arith}
use Rattle.motion.proofs.Distances.{braking_closed}
use Rattle.motion.proofs.distance.braking_distance.Goals as goal

pub returns : goal.returns
returns c = simp (c.from.ensures, c.from-2.ensures, c.from-ticks.ensures, c.max-step.ensures) (omega (arith, braking_closed c.args.deceleration c.args.speed))
