-- The moves of a moveset.
use Rattle.std.specs.Prelude.{ℕ, false, cond, ◌&&◌, pos, Some, None, Option, nat_lt, slice_index_or}
use Rattle.words.specs.declared.position.Target.TheVariants.{Absolute}
use Rattle.moves.specs.declared.moves.Action.TheVariants.{Travel}
use Rattle.moves.specs.declared.moves.Move.{Move}
use Rattle.moves.specs.declared.moves.Moveset.{Moveset}

-- how many moves a moveset has at the most
abbrev pub moves_max : ℕ
moves_max = 21

-- what is read past the end of a list of moves; it is never read
abbrev pub no_move : Move
no_move =
    record { action = Travel (record { target = Absolute (pos 0); with_offset = false; feedrate = None }); halt = false; continuous = false }

-- the move of an index, counted from 0, up to the number of moves
abbrev pub move_at : Moveset → ℕ → Option Move
move_at m i = cond (nat_lt i m.count && nat_lt i moves_max) (Some (slice_index_or m.moves i no_move)) None
