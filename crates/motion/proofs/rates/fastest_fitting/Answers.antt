use Rattle.std.proofs.Common.{rules}
use Rattle.motion.proofs.Distances.{fitting_below}
use Rattle.motion.proofs.rates.fastest_fitting.Goals as goal

pub loop-low-preserved : goal.loop-low-preserved
loop-low-preserved c = search (rules, fitting_below)
