use Rattle.std.proofs.Common.{◌≡◌, ◌+ℤ◌, ap, ◌∙◌, arith, w64, to_z, of_z}
use Rattle.std.proofs.lemmas.Int.{ints}
use Rattle.moves.specs.SetUp.{target_from}
use Rattle.moves.proofs.control.Control.destination.Goals as goal

pub returns : goal.returns
returns c =
    let a = c.accumulated-accumulator.result in
    let t = c.target_from-target.result in
    let base = c.args.self.now.state.coordinates.base in
    let from : to_z w64 (of_z w64 c.args.from) ≡ c.args.from = omega (arith, ints) in
    let accumulator : to_z w64 (of_z w64 a) ≡ a = omega (arith, ints) in
    let endpoint : to_z w64 (of_z w64 (to_z w64 (of_z w64 (to_z w64 (of_z w64 t) +ℤ to_z w64 (of_z w64 base))) +ℤ to_z w64 (of_z w64 a))) ≡ t +ℤ base +ℤ a = omega (arith, ints) in
    let target = c.target_from-target.ensures.value ∙ ap (λ z. target_from z c.args.travel.now.target) from in
    cc (c.checked.ensures, c.accumulated-accumulator.ensures.value, target, accumulator, endpoint)
