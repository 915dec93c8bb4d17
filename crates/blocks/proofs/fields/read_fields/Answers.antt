use Rattle.std.proofs.Common.{◌≡◌, ◌+◌, ◌*◌, Some, arith}
use native.Mathlib.Nat.{sub-zero}
use Rattle.std.proofs.lemmas.List.{length-replicate}
use Rattle.blocks.proofs.FieldsRead.{all_fields}
use Rattle.blocks.proofs.fields.read_fields.Goals as goal

pub loop-i-init : goal.loop-i-init
loop-i-init g c =
    let r = c.args.words in
    let ws = r.block.words.now in
    let e : c.args.first + 0 * g.T.Field.WORDS ≡ c.args.first = omega arith in
    rw (e, sub-zero) (all_fields (g.T.Field.digits ws (Some r.block.axis) r.start) (g.T.Field.value ws r.start) g.T.Field.WORDS c.args.first g.row.N _ (length-replicate _ _))
