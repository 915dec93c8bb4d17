-- What the bits and the digits of a word are, and which numbers they spell.
use Rattle.std.specs.Prelude.{ℕ, ◌+◌, ◌*◌, ◌/◌, ◌%◌, ◌^◌, Bool, cond, not, ◌&&◌, ℤ, pos, neg_ℤ, ◌==◌, nat_le}
use Rattle.words.specs.declared.word.Bit.{Bit}
use Rattle.words.specs.declared.word.Bit.TheVariants.{B0, B1, B2, B3, B4, B5, B6, B7, B10, B11, B12, B13, B14, B15, B16, B17}

-- Bits are named in octal: B10 is the ninth from the right, and B17 the sixteenth.
abbrev pub bit_number : Bit → ℕ
bit_number B0 = 0
bit_number B1 = 1
bit_number B2 = 2
bit_number B3 = 3
bit_number B4 = 4
bit_number B5 = 5
bit_number B6 = 6
bit_number B7 = 7
bit_number B10 = 8
bit_number B11 = 9
bit_number B12 = 10
bit_number B13 = 11
bit_number B14 = 12
bit_number B15 = 13
bit_number B16 = 14
bit_number B17 = 15

abbrev pub on : Bit → ℕ → Bool
on b word = word / 2 ^ bit_number b % 2 == 1

-- the four bits at a place, counted from the right
abbrev pub digit : ℕ → ℕ → ℕ
digit place word = word / 2 ^ (4 * place) % 16

-- whether the three digits on the right are decimal
abbrev pub three_decimal : ℕ → Bool
three_decimal w = nat_le (digit 2 w) 9 && nat_le (digit 1 w) 9 && nat_le (digit 0 w) 9

abbrev pub four_decimal : ℕ → Bool
four_decimal w = nat_le (digit 3 w) 9 && three_decimal w

-- the number that the three digits on the right spell
abbrev pub three_digits : ℕ → ℕ
three_digits w = 100 * digit 2 w + 10 * digit 1 w + digit 0 w

-- the number that all four digits spell
abbrev pub four_digits : ℕ → ℕ
four_digits w = 1000 * digit 3 w + three_digits w

-- the seven digits of two words
abbrev pub seven_digits : ℕ → ℕ → ℕ
seven_digits a b = 10000 * three_digits a + four_digits b

-- the counts of a position, without its sign: bit 14 of the first word is ten million
abbrev pub position_size : ℕ → ℕ → ℕ
position_size a b = cond (on B14 a) 10000000 0 + seven_digits a b

-- the counts of a position: bit 17 of the first word is the minus sign
abbrev pub position_value : ℕ → ℕ → ℤ
position_value a b = cond (on B17 a) (neg_ℤ (pos (position_size a b))) (pos (position_size a b))

-- the first word of a position that has no incremental mark: bits 16 and 15 are fixed
abbrev pub position_start : ℕ → Bool
position_start a = not (on B16 a) && not (on B15 a) && three_decimal a

-- the first word of a target, whose bit 15 is the incremental mark: bit 16 is fixed
abbrev pub target_start : ℕ → Bool
target_start a = not (on B16 a) && three_decimal a

-- the first word of a dwell: the four bits left of its digits are fixed
abbrev pub dwell_start : ℕ → Bool
dwell_start a = not (on B17 a) && not (on B16 a) && not (on B15 a) && not (on B14 a) && three_decimal a
