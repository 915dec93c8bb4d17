-- The axis that the program winds with.
use Rattle.std.specs.Prelude.{ℕ, Bool, true, false, replicate, pos, neg_ℤ, Some, None, Option, slice_set}
use Rattle.words.specs.declared.position.Target.{Target}
use Rattle.words.specs.declared.position.Target.TheVariants.{Absolute, Incremental}
use Rattle.moves.specs.declared.moves.Action.{Action}
use Rattle.moves.specs.declared.moves.Action.TheVariants.{Travel, Preset, Dwell}
use Rattle.moves.specs.declared.moves.Move.{Move}
use Rattle.moves.specs.declared.moves.Moveset.{Moveset}
use Rattle.moves.specs.declared.parameters.Parameters.{Parameters}
use Rattle.moves.specs.Moves.{moves_max}

abbrev pub winding_parameters : Parameters
winding_parameters =
    record {
      low = neg_ℤ (pos 100);
      high = pos 200;
      home = pos 20;
      offset = pos 3;
      feedrate = 4;
      acceleration = 2;
      deceleration = 2;
      jog_rate = 4;
      home_rate = 4;
      creep_rate = 1;
      band = 1;
      following_limit = 20;
    }

-- a move to a target, with the offset of the parameters or without
abbrev pub travel : Target → Bool → Option ℕ → Action
travel target with_offset feedrate = Travel (record { target = target; with_offset = with_offset; feedrate = feedrate })

-- what is neither continuous nor has a halt
abbrev pub plain : Action → Move
plain a = record { action = a; halt = false; continuous = false }

-- the move to 30, also in the places behind it
abbrev pub last_layer : Move
last_layer = plain (travel (Absolute (pos 30)) false None)

-- Two moves that blend, a move with offset, a dwell, a move with halt, a preset, and a move in the new positions.
abbrev pub winding_moveset : Moveset
winding_moveset =
    record {
      moves =
          slice_set (
          slice_set (
          slice_set (
          slice_set (
          slice_set (
          slice_set (replicate moves_max last_layer) 0
          (record { action = travel (Absolute (pos 51)) false None; halt = false; continuous = true })
          ) 1 (plain (travel (Absolute (pos 73)) false None))
          ) 2 (plain (travel (Incremental (pos 16)) true None))
          ) 3 (plain (Dwell 20))
          ) 4 (record { action = travel (Absolute (pos 70)) false (Some 3); halt = true; continuous = false })
          ) 5 (plain (Preset (pos 0)));
      count = 7;
    }
