-- Places and gaps under negation.
use Rattle.std.proofs.Common.{◌≡◌, ℤ, neg_ℤ, arith}
use Rattle.std.proofs.lemmas.Int.{ints}
use Rattle.drive.specs.Values.{is_beyond, held}

-- The reach is the same on both sides.
pub beyond_neg : (reach z : ℤ) → is_beyond reach (neg_ℤ z) ≡ is_beyond reach z
beyond_neg reach z = grind (arith, ints)

-- A gap is held alike on both sides.
pub held-neg : (z : ℤ) → held (neg_ℤ z) ≡ neg_ℤ (held z)
held-neg z = grind (arith, ints)
