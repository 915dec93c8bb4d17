-- Four decimal digits packed into a word and taken out of it again.
use Rattle.std.proofs.Common.{◌≡◌, ℕ, ◌+◌, ◌*◌, ◌/◌, ◌%◌, ◌^◌, ◌<◌, arith}
use Rattle.words.specs.Words.{digit}
use Rattle.words.specs.Written.{packed}

-- the word that four digits make, each in its place
abbrev pub hex : ℕ → ℕ → ℕ → ℕ → ℕ
hex a b c d = a * 4096 + b * 256 + c * 16 + d

module _ (a b c d : ℕ) (ha : a < 16) (hb : b < 16) (hc : c < 16) (hd : d < 16) where
  pub hex_0 : digit 0 (hex a b c d) ≡ d
  hex_0 = omega arith

  pub hex_1 : digit 1 (hex a b c d) ≡ c
  hex_1 = let q : hex a b c d / 16 ≡ a * 256 + b * 16 + c = omega arith in omega (arith, q)

  pub hex_2 : digit 2 (hex a b c d) ≡ b
  hex_2 = let q : hex a b c d / 256 ≡ a * 16 + b = omega arith in omega (arith, q)

  pub hex_3 : digit 3 (hex a b c d) ≡ a
  hex_3 = let q : hex a b c d / 4096 ≡ a = omega arith in omega (arith, q)

-- a word is made of its digits
pub hex_places : (w : ℕ) → w < 2 ^ 16 → w ≡ hex (digit 3 w) (digit 2 w) (digit 1 w) (digit 0 w)
hex_places w h =
    let top : w / 4096 % 16 ≡ w / 4096 = omega arith in
    let third : w / 256 ≡ w / 4096 * 16 + w / 256 % 16 = omega arith in
    let second : w / 16 ≡ w / 256 * 16 + w / 16 % 16 = omega arith in
    let first : w ≡ w / 16 * 16 + w % 16 = omega arith in
    let last : w / 2 ^ (4 * 0) % 16 ≡ w % 16 = omega arith in
    omega (arith, top, third, second, first, last)

-- a number is made of its decimal digits
pub places : (n : ℕ) → n ≡ n / 1000 * 1000 + n / 100 % 10 * 100 + n / 10 % 10 * 10 + n % 10
places n = omega arith

-- packing puts each decimal digit into its place
pub packed_is : (a b c d : ℕ) → b < 10 → c < 10 → d < 10 → packed (a * 1000 + b * 100 + c * 10 + d) ≡ hex a b c d
packed_is a b c d hb hc hd =
    let n : ℕ = a * 1000 + b * 100 + c * 10 + d in
    let q3 : n / 1000 ≡ a = omega arith in
    let q2 : n / 100 ≡ a * 10 + b = omega arith in
    let q1 : n / 10 ≡ a * 100 + b * 10 + c = omega arith in
    let r2 : n / 100 % 10 ≡ b = omega arith in
    let r1 : n / 10 % 10 ≡ c = omega arith in
    let r0 : n % 10 ≡ d = omega arith in
    omega (arith, q3, r2, r1, r0)

-- the four bits on the left of a word are those of its digit on the left
module _ (w : ℕ) (h : w < 2 ^ 16) where
  pub bit_17 : w / 2 ^ 15 % 2 ≡ digit 3 w / 8
  bit_17 = omega arith

  pub bit_16 : w / 2 ^ 14 % 2 ≡ digit 3 w / 4 % 2
  bit_16 = omega arith

  pub bit_15 : w / 2 ^ 13 % 2 ≡ digit 3 w / 2 % 2
  bit_15 = omega arith

  pub bit_14 : w / 2 ^ 12 % 2 ≡ digit 3 w % 2
  bit_14 = omega arith
