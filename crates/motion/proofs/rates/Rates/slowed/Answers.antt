use Rattle.std.proofs.Common.{rules}
use Rattle.motion.proofs.Laws.{planning_laws}
use Rattle.motion.proofs.rates.Rates.slowed.Goals as goal

pub returns : goal.returns
returns c = record { value = search rules; laws = planning_laws }
