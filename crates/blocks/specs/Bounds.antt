-- Ranges of the values in a record's words.
use Rattle.std.specs.Prelude.{ℕ, ◌+◌, ◌&&◌, List, [], ◌∷◌, Option, nat_le}
use Rattle.words.specs.declared.axis.AxisId.{AxisId}
use Rattle.words.specs.declared.fault.Question.TheVariants.{Range}
use Rattle.blocks.specs.declared.bounds.Bounded.{Bounded}
use Rattle.blocks.specs.Questions.{Asked, ask}

-- the greatest rate, in counts per tick
abbrev pub rate_max : ℕ
rate_max = 7996

-- the values of word i and the following ones of the record at `at`: each is at least 1 and at most its greatest
abbrev pub ranges_from : Option AxisId → ℕ → ℕ → List Bounded → List Asked
ranges_from axis at i [] = []
ranges_from axis at i (b ∷ more) =
    ask Range axis (at + i) (nat_le 1 b.value && nat_le b.value b.most) ∷ ranges_from axis at (i + 1) more
