use Rattle.std.proofs.Common.{◌+ℤ◌, ◌*ℤ◌, w64, SFits, rules}
use Rattle.std.proofs.lemmas.Int.{to_z-of_z}
use Rattle.drive.proofs.Products.{wide_product, sum_fits}
use Rattle.drive.proofs.analog.Analog.weighted_sum.Goals as goal
use Rattle.drive.proofs.analog.Analog.weighted_sum.Goals.{After-from-4}

-- The exact sum fits 64 bits.
sum : (c : After-from-4) → SFits w64 ((c.args.self.now.k1 *ℤ c.args.self.now.gap) +ℤ (c.args.self.now.k2 *ℤ c.args.self.now.latest))
sum c = sum_fits _ _ _ _ c.args.self.now.k1_within (search rules) c.args.self.now.k2_within (search rules)

pub overflow_add-result : goal.overflow_add-result
overflow_add-result c =
    let one = wide_product c.args.self.now.k1 c.args.self.now.gap c.args.self.now.k1_within (search rules) in
    let two = wide_product c.args.self.now.k2 c.args.self.now.latest c.args.self.now.k2_within (search rules) in
    rw (c.from.ensures, c.from-2.ensures, c.from-3.ensures, c.from-4.ensures, one, two) (sum c)

pub returns : goal.returns
returns c =
    let one = wide_product c.args.self.now.k1 c.args.self.now.gap c.args.self.now.k1_within (search rules) in
    let two = wide_product c.args.self.now.k2 c.args.self.now.latest c.args.self.now.k2_within (search rules) in
    rw (c.from.ensures, c.from-2.ensures, c.from-3.ensures, c.from-4.ensures, one, two) (to_z-of_z w64 _ (sum c))
