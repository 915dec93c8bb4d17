use Rattle.std.proofs.Common.{◌≡◌, ◌+◌, drop, Some}
use Rattle.blocks.specs.Bounds.{ranges_from}
use Rattle.blocks.specs.Questions.{answer}
use Rattle.blocks.proofs.bounds.check_bounds.Given as goal

-- What is left to ask gives the answer to all.
abbrev pub invariant-loop-i : goal.invariant-loop-i
invariant-loop-i l =
    answer (ranges_from (Some l.axis) l.start (l.first + l.i) (drop l.i l.values)) (tt {0}) ≡ answer (ranges_from (Some l.axis) l.start l.first l.values) (tt {0})
