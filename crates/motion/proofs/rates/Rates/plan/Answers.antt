use Rattle.std.proofs.Common.{rules}
use Rattle.motion.specs.Planning.{PlannedFrom}
use Rattle.motion.proofs.Laws.{planned_unique, planned_le_room, fastest_planned}
use Rattle.motion.proofs.rates.Rates.plan.Goals as goal

pub returns : goal.returns
returns c =
    let planned : PlannedFrom c.args.self c.args.speed c.args.room c.fastest_fitting.result = search rules in
    record {
      planned = planned;
      only = λ u p. planned_unique _ _ _ _ _ p planned;
      value = planned_unique _ _ _ _ _ planned (fastest_planned _ _ _);
      within_room = planned_le_room _ _ _ _ planned;
    }
