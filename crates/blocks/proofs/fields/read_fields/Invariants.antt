use Rattle.std.proofs.Common.{◌≡◌, ◌+◌, ◌-◌, ◌*◌, Some}
use Rattle.blocks.specs.Fields.{fields_digits, fields_from}
use Rattle.blocks.specs.Numbers.{filled}
use Rattle.blocks.specs.Questions.{answer}
use Rattle.blocks.proofs.fields.read_fields.Given as goal

-- What is left to read, put behind what was read, gives the answer to all.
abbrev pub invariant-loop-i : goal.invariant-loop-i
invariant-loop-i g l =
    let ws = l.words.block.words.now in
    let d = g.T.Field.digits ws (Some l.words.block.axis) l.words.start in
    let v = g.T.Field.value ws l.words.start in
    let w = g.T.Field.WORDS in
    answer (fields_digits d w (l.first + l.i * w) (g.row.N - l.i)) (filled l.field-items l.i (fields_from v w (l.first + l.i * w) (g.row.N - l.i)))
    ≡ answer (fields_digits d w l.first g.row.N) (fields_from v w l.first g.row.N)
