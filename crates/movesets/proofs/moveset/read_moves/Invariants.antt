use Rattle.std.proofs.Common.{◌≡◌, ◌-◌, length, Some}
use Rattle.blocks.specs.Numbers.{filled}
use Rattle.blocks.specs.Questions.{answer}
use Rattle.movesets.specs.Movesets.{moves_asked, moves_from}
use Rattle.movesets.proofs.moveset.read_moves.Given as goal

-- What is left to ask gives the answer to all, and what is left to read, put behind what was read, gives all moves.
abbrev pub invariant-loop-slot : goal.invariant-loop-slot
invariant-loop-slot l =
    (answer (moves_asked l.block.words.now (Some l.block.axis) l.at (length l.initial.slots - l.slot-index)) (tt {0}) ≡ answer (moves_asked l.block.words.now (Some l.block.axis) 1 (length l.initial.slots)) (tt {0}))
    × (filled l.slots l.slot-index (moves_from l.block.words.now l.at (length l.initial.slots - l.slot-index)) ≡ filled l.initial.slots 0 (moves_from l.block.words.now 1 (length l.initial.slots)))
