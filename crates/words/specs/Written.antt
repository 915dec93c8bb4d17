-- How a position is written, and that nothing else reads as it.
use Rattle.std.specs.Prelude.{◌≡◌, ℕ, ◌+◌, ◌*◌, ◌/◌, ◌%◌, ◌^◌, ◌<◌, ◌≤◌, true, ◌⊎◌, ℤ, pos, negsuc, Some, None, Ok, Option, ◌≢◌, unsigned_abs}
use Rattle.words.specs.declared.axis.AxisId.{AxisId}
use Rattle.words.specs.declared.position.PositionWords.{PositionWords}
use Rattle.words.specs.Readings.{position_reading}
use Rattle.words.specs.Words.{four_decimal, position_start, position_value}

-- the largest size of a position
abbrev pub position_max : ℕ
position_max = 19999999

-- bit 17 of the first word, on for a number below 0
abbrev pub sign_bit : ℤ → ℕ
sign_bit (pos n) = 0
sign_bit (negsuc n) = 0x8000

-- four decimal digits in the places of a word
abbrev pub packed : ℕ → ℕ
packed n = n / 1000 * 4096 + n / 100 % 10 * 256 + n / 10 % 10 * 16 + n % 10

-- the words a and b read as the position n
pub record Reads (n : ℤ) (a b : ℕ) : Type 0 where
  pub start : position_start a ≡ true
  pub digits : four_decimal b ≡ true
  pub value : position_value a b ≡ n

pub record Written (n : ℤ) (w : PositionWords) : Type 0 where
  pub within : unsigned_abs n ≤ position_max
  -- read as any two words for any axis, they give the number back
  pub read_back : (axis : AxisId) (i j : ℕ) → position_reading (record { bits = w.first; axis = axis; index = i }) (record { bits = w.second; axis = axis; index = j }) ≡ Ok n
  -- no other words read as this number, but those of minus zero
  pub only : (a b : ℕ) → a < 2 ^ 16 → b < 2 ^ 16 → Reads n a b → ((a ≡ w.first) × (b ≡ w.second)) ⊎ ((a ≡ 0x8000) × (b ≡ 0))
  pub never_minus_zero : w.first ≡ 0x8000 → w.second ≢ 0

-- a number that is too large is not written; any other is
abbrev pub Writing : ℤ → Option PositionWords → Type 0
Writing n None = position_max < unsigned_abs n
Writing n (Some w) = Written n w
