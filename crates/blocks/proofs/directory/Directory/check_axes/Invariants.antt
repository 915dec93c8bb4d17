use Rattle.std.proofs.Common.{◌≡◌, ◌+◌, ◌-◌, ◌*◌}
use Rattle.blocks.specs.Questions.{answer}
use Rattle.blocks.specs.Directory.{records_start, starts_from, axes_from, axis_questions}
use Rattle.blocks.proofs.directory.Directory.check_axes.Given as goal

-- What is left to ask gives the answer to all.
abbrev pub invariant-loop-i : goal.invariant-loop-i
invariant-loop-i l =
    let ws = l.self.words.now in
    let len = l.self.record_length in
    let n = l.self.count in
    answer (axes_from ws l.above (starts_from len (records_start n + l.i * len) (n - l.i))) (tt {0}) ≡ answer (axis_questions len ws) (tt {0})
