-- Products of a gain and a 32-bit number, and sums of two, computed in 64 bits.
use Rattle.std.proofs.Common.{◌≡◌, suc, ◌*◌, ◌^◌, ◌≤◌, ℤ, pos, negsuc, ◌+ℤ◌, ◌*ℤ◌, neg_ℤ, mul-le-mul, arith, w32, w64, SFits, to_z, of_z}
use Rattle.std.proofs.lemmas.Int.{ints, to_z-of_z}
use Rattle.drive.specs.Output.{gain_ceiling}
use Rattle.drive.specs.Values.{Within}

-- the largest gain times the largest size of a 32-bit number
abbrev product_ceiling : ℤ
product_ceiling = pos (9999 * 2 ^ 31)

-- No product is larger than that in size.
product_within : (k z : ℤ) → Within (pos 0) gain_ceiling k → SFits w32 z → Within (neg_ℤ product_ceiling) product_ceiling (k *ℤ z)
product_within (pos k) (pos n) w f =
    let gain : k ≤ 9999 = omega (arith, ints) in
    let size : n ≤ 2 ^ 31 = omega (arith, ints) in
    let product : k * n ≤ 9999 * 2 ^ 31 = mul-le-mul gain size in
    (omega (arith, ints), omega (arith, ints))
product_within (pos k) (negsuc n) w f =
    let gain : k ≤ 9999 = omega (arith, ints) in
    let size : suc n ≤ 2 ^ 31 = omega (arith, ints) in
    let product : k * suc n ≤ 9999 * 2 ^ 31 = mul-le-mul gain size in
    (omega (arith, ints), omega (arith, ints))
product_within (negsuc k) z w f = absurd w.0.le

-- A product of two widened numbers is the product of the numbers.
pub wide_product : (k z : ℤ) → Within (pos 0) gain_ceiling k → SFits w32 z → to_z w64 (of_z w64 (to_z w64 (of_z w64 (to_z w32 (of_z w32 k))) *ℤ to_z w64 (of_z w64 (to_z w32 (of_z w32 z))))) ≡ k *ℤ z
wide_product k z w f =
    let within = product_within k z w f in
    let gain : SFits w32 k = omega (arith, ints) in
    let wide_gain : SFits w64 k = omega (arith, ints) in
    let wide_number : SFits w64 z = omega (arith, ints) in
    let product : SFits w64 (k *ℤ z) = omega (arith, ints) in
    simp to_z-of_z

-- The sum of two products fits.
pub sum_fits : (k z j y : ℤ) → Within (pos 0) gain_ceiling k → SFits w32 z → Within (pos 0) gain_ceiling j → SFits w32 y → SFits w64 ((k *ℤ z) +ℤ (j *ℤ y))
sum_fits k z j y w f v g = omega (arith, ints, product_within k z w f, product_within j y v g)
