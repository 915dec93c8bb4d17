-- What each reader answers: the value that the words spell, or the fault at the first wrong word.
use Rattle.std.specs.Prelude.{ℕ, Bool, cond, ℤ, Some, Ok, Err, Result, nat_le}
use Rattle.words.specs.declared.fault.Fault.{Fault}
use Rattle.words.specs.declared.fault.Question.TheVariants.{Digits}
use Rattle.words.specs.declared.position.Target.{Target}
use Rattle.words.specs.declared.position.Target.TheVariants.{Absolute, Incremental}
use Rattle.words.specs.declared.word.Bit.TheVariants.{B15}
use Rattle.words.specs.declared.word.Word.{Word}
use Rattle.words.specs.Words.{on, digit, three_decimal, four_decimal, three_digits, four_digits, seven_digits, position_size, position_value, position_start, target_start, dwell_start}

-- the question about digits and fixed bits gets its no at this word
abbrev pub wrong_word : Word → Fault
wrong_word w = record { question = Digits; axis = Some w.axis; word = w.index }

-- a word that is good spells the value, and any other is wrong
abbrev pub word_reading : {A : Type 0} → Bool → A → Word → Result A Fault
word_reading good value w = cond good (Ok value) (Err (wrong_word w))

-- two words: the first is asked before the second
abbrev pub pair_reading : {A : Type 0} → Bool → Bool → A → Word → Word → Result A Fault
pair_reading good_first good_second value first second =
    cond good_first (word_reading good_second value second) (Err (wrong_word first))

abbrev pub digit_reading : Word → ℕ → Result ℕ Fault
digit_reading w place = word_reading (nat_le (digit place w.bits) 9) (digit place w.bits) w

abbrev pub three_digit_reading : Word → Result ℕ Fault
three_digit_reading w = word_reading (three_decimal w.bits) (three_digits w.bits) w

abbrev pub number_reading : Word → Result ℕ Fault
number_reading w = word_reading (four_decimal w.bits) (four_digits w.bits) w

-- the seven digits of two words whose other bits are not looked at
abbrev pub seven_digit_reading : Word → Word → Result ℕ Fault
seven_digit_reading first second =
    pair_reading (three_decimal first.bits) (four_decimal second.bits) (seven_digits first.bits second.bits) first second

-- the ten million and the digits of two words whose other bits are not looked at
abbrev pub size_reading : Word → Word → Result ℕ Fault
size_reading first second =
    pair_reading (three_decimal first.bits) (four_decimal second.bits) (position_size first.bits second.bits) first second

-- the same with the sign
abbrev pub signed_reading : Word → Word → Result ℤ Fault
signed_reading first second =
    pair_reading (three_decimal first.bits) (four_decimal second.bits) (position_value first.bits second.bits) first second

abbrev pub position_reading : Word → Word → Result ℤ Fault
position_reading first second =
    pair_reading (position_start first.bits) (four_decimal second.bits) (position_value first.bits second.bits) first second

-- the counts with their incremental mark, which stays on a zero too
abbrev pub marked : Bool → ℤ → Target
marked incremental counts = cond incremental (Incremental counts) (Absolute counts)

abbrev pub target_reading : Word → Word → Result Target Fault
target_reading first second =
    pair_reading (target_start first.bits) (four_decimal second.bits) (marked (on B15 first.bits) (position_value first.bits second.bits)) first second

abbrev pub dwell_reading : Word → Word → Result ℕ Fault
dwell_reading first second =
    pair_reading (dwell_start first.bits) (four_decimal second.bits) (seven_digits first.bits second.bits) first second
