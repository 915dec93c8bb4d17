-- The writer's words are the sign bit and the packed digits of the size, which `written` speaks of.
use Rattle.std.proofs.Common.{◌+◌, nat_abs, ap, ◌∙◌, arith, w32}
use Rattle.std.proofs.lemmas.Int.{to_z-of_z}
use Rattle.words.specs.Written.{sign_bit}
use Rattle.words.proofs.Positions.{written}
use Rattle.words.proofs.position.write_position.Goals as goal

pub returns : goal.returns
returns c =
    let n = c.args.counts in
    let same = to_z-of_z w32 n c.ranges.counts in
    written n c.unsigned_abs-size.result _ _ (c.unsigned_abs-size.ensures.value ∙ ap nat_abs same) (omega arith)
    (ap (λ s. s + c.pack.result) (c.sign_bit.ensures ∙ ap sign_bit same) ∙ ap (λ p. sign_bit n + p) c.pack.ensures)
    c.pack-2.ensures
