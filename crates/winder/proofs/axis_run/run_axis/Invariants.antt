use Rattle.winder.specs.Winding.{station}
use Rattle.winder.proofs.Rounds.{Before}
use Rattle.winder.proofs.axis_run.run_axis.Given as goal

abbrev pub invariant-loop-tick : goal.invariant-loop-tick
invariant-loop-tick g l = Before l.tick (station l.winding)
