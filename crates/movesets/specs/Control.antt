-- The control word of a move.
use Rattle.std.specs.Prelude.{ℕ, ◌%◌, Bool, cond, not, ◌&&◌, ◌==◌}
use Rattle.words.specs.Words.{on}
use Rattle.words.specs.declared.word.Bit.TheVariants.{B10, B11, B12, B13, B14, B15}

-- bit 15: a word with a local feedrate follows
abbrev pub has_feedrate : ℕ → Bool
has_feedrate w = on B15 w

-- bits 11 and 10 tell a preset and a dwell from the moves, of which bit 10 marks those with an offset
abbrev pub is_preset : ℕ → Bool
is_preset w = on B11 w && not (on B10 w)

abbrev pub is_dwell : ℕ → Bool
is_dwell w = on B11 w && on B10 w

-- Bits 12 and 13 are on and 14 is off. Bits 0 to 7 are off: 0 to 5 and 7 are fixed, and no kind of move has bit 06 on.
-- Presets and dwells, which have bit 11 on, have no local feedrate.
abbrev pub control_right : ℕ → Bool
control_right w = w % 256 == 0 && on B12 w && on B13 w && not (on B14 w) && not (on B11 w && has_feedrate w)

-- how many words a move has, by its control word
abbrev pub move_length : ℕ → ℕ
move_length w = cond (has_feedrate w) 4 3
