use Rattle.winder.specs.Runs.{Reachable}
use Rattle.winder.proofs.Underway.{OnCourse}
use Rattle.winder.proofs.run.run.Given as goal

abbrev pub invariant-loop-tick : goal.invariant-loop-tick
invariant-loop-tick g l = Reachable l.counts → OnCourse l.counts l.tick l.bench
