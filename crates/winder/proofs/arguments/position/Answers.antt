use Rattle.std.proofs.Common.{rules}
use Rattle.winder.proofs.Sizes.{reading_within}
use Rattle.winder.proofs.arguments.position.Goals as goal

pub returns-clause-within : goal.returns-clause-within
returns-clause-within c = search (rules, reading_within)
