-- How large a position can be.
use Rattle.std.proofs.Common.{◌≡◌, ℕ, ◌+◌, ◌*◌, ◌≤◌, Bool, true, false, cond, ℤ, pos, neg_ℤ, IfOk, Result, sym, refl, subst, arith}
use Rattle.std.proofs.lemmas.Int.{ints}
use Rattle.words.specs.declared.fault.Fault.{Fault}
use Rattle.words.specs.declared.word.Bit.TheVariants.{B14, B17}
use Rattle.words.specs.declared.word.Word.{Word}
use Rattle.words.specs.Readings.{position_reading, pair_reading}
use Rattle.words.specs.Words.{three_decimal, four_decimal, three_digits, four_digits, position_start, position_size, position_value, on}
use Rattle.winder.specs.Runs.{Reachable}

-- Three decimal digits spell 999 at most.
three_digits_small : (w : ℕ) → three_decimal w ≡ true → three_digits w ≤ 999
three_digits_small w h = grind arith

-- Four spell 9,999 at most.
four_digits_small : (w : ℕ) → four_decimal w ≡ true → four_digits w ≤ 9999
four_digits_small w h = grind (arith, three_digits_small)

-- The ten million and seven digits are 19,999,999 at most.
size_small : (a b : ℕ) → position_start a ≡ true → four_decimal b ≡ true → position_size a b ≤ 19999999
size_small a b h k = go (on B14 a) (three_digits_small a (grind arith)) (four_digits_small b k)
  where
    go : (t : Bool) → three_digits a ≤ 999 → four_digits b ≤ 9999 → cond t 10000000 0 + (10000 * three_digits a + four_digits b) ≤ 19999999
    go true p q = omega arith
    go false p q = omega arith

-- The sign does not change the size.
value_within : (t : Bool) (size : ℕ) → size ≤ 19999999 → Reachable (cond t (neg_ℤ (pos size)) (pos size))
value_within true size h = (omega (arith, ints), omega (arith, ints))
value_within false size h = (omega (arith, ints), omega (arith, ints))

-- What is read as a position is one.
pub reading_within : (first second : Word) (r : Result ℤ Fault) → r ≡ position_reading first second → IfOk r Reachable
reading_within first second r e =
    subst (λ (x : Result ℤ Fault). IfOk x Reachable) (sym e) (go (position_start first.bits) (four_decimal second.bits) refl refl)
  where
    a : ℕ
    a = first.bits

    b : ℕ
    b = second.bits

    go : (p q : Bool) → position_start a ≡ p → four_decimal b ≡ q → IfOk (pair_reading p q (position_value a b) first second) Reachable
    go true true h k = value_within (on B17 a) (position_size a b) (size_small a b h k)
    go true false h k = tt
    go false q h k = tt
