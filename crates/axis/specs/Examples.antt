-- Worked cases, as runs of the reference axis from a begin to rest.
use Rattle.std.specs.Prelude.{◌≡◌, ℕ, zero, suc, true, false, List, [], ◌∷◌, replicate, ℤ, pos, ◌-ℤ◌, neg_ℤ, Some, None, slice_set}
use Rattle.words.specs.declared.position.Target.TheVariants.{Absolute}
use Rattle.words.specs.Written.{Reads}
use Rattle.modes.specs.declared.commands.Command.TheVariants.{Begin, SlideStop}
use Rattle.modes.specs.declared.input.Input.{Input}
use Rattle.moves.specs.declared.moves.Action.TheVariants.{Travel, Dwell}
use Rattle.moves.specs.declared.moves.Move.{Move}
use Rattle.moves.specs.declared.parameters.Parameters.{Parameters}
use Rattle.moves.specs.declared.state.Direction.TheVariants.{Plus}
use Rattle.moves.specs.declared.state.Mode.TheVariants.{Rest}
use Rattle.moves.specs.declared.state.State.{State}
use Rattle.moves.specs.Moves.{no_move, moves_max}
use Rattle.moves.specs.Numbers.{mode_number}
use Rattle.axis.specs.Reference.{Reference, over, tick, commanded}

-- acceleration and deceleration 2 and a feedrate, with wide limits, band and following limit
abbrev pub bench : ℕ → Parameters
bench feedrate =
    record {
      low = neg_ℤ (pos 1000);
      high = pos 1000;
      home = pos 0;
      offset = pos 0;
      feedrate = feedrate;
      acceleration = 2;
      deceleration = 2;
      jog_rate = 4;
      home_rate = 4;
      creep_rate = 2;
      band = 100;
      following_limit = 1000;
    }

-- a move to a position, which the next move may follow without a rest
abbrev pub to : ℤ → Move
to p =
    record { action = Travel (record { target = Absolute p; with_offset = false; feedrate = None }); halt = false; continuous = true }

abbrev pub wait : ℕ → Move
wait ms = record { action = Dwell ms; halt = false; continuous = false }

-- homed and at rest at 0, with a moveset of so many moves
abbrev pub at_rest : ℕ → List Move → ℕ → State
at_rest feedrate moves count =
    record {
      parameters = bench feedrate;
      motion = record { mode = Rest; speed = 0; direction = Plus };
      coordinates = record { base = pos 0; accumulator = pos 0; last_endpoint = pos 0 };
      program = record { moveset = Some (record { moves = moves; count = count }); current = 0 };
      note = None;
      override_percent = 100;
      homed = true;
      held = None;
    }

abbrev pub one_move : Move → List Move
one_move m = slice_set (replicate moves_max no_move) 0 m

abbrev pub two_moves : Move → Move → List Move
two_moves m n = slice_set (one_move m) 1 n

-- begun, over a drive that is awake at 0
abbrev pub begun : State → Reference
begun s = commanded Begin (over s (record { place = pos 0; gap = pos 0; awake = true; reach = pos 19999999 }))

-- nothing asked, nothing counted
abbrev pub quiet : Input
quiet = record { counts = pos 0; stop = false; ready = true; switch = false; marker = false }

-- after so many ticks
abbrev pub after : ℕ → Reference → Reference
after zero r = r
after (suc n) r = after n (tick quiet r)

-- the steps of so many ticks, read off the drive's places, each with the number of the mode after it
abbrev pub run : ℕ → Reference → List (ℤ × ℕ)
run zero r = []
run (suc n) r =
    ((tick quiet r).drive.place -ℤ r.drive.place, mode_number (tick quiet r).state.motion.mode) ∷ run n (tick quiet r)

-- a slide stop after so many ticks of a long move
abbrev pub stopped_after : ℕ → ℕ → Reference
stopped_after feedrate n = commanded SlideStop (after n (begun (at_rest feedrate (one_move (to (pos 900))) 1)))

-- begun on a dwell
abbrev pub dwelling : ℕ → Reference
dwelling ms = begun (at_rest 4 (one_move (wait ms)) 1)

-- Mode 3 is Moving, 4 Settling, 5 Dwelling, 2 Rest, 7 Stopping.
pub record WorkedCases : Type 0 where
  pub ten_counts : run 5 (begun (at_rest 4 (one_move (to (pos 10))) 1)) ≡ (pos 2, 3) ∷ (pos 4, 3) ∷ (pos 3, 3) ∷ (pos 1, 4) ∷ (pos 0, 2) ∷ []
  pub one_count : run 2 (begun (at_rest 4 (one_move (to (pos 1))) 1)) ≡ (pos 1, 4) ∷ (pos 0, 2) ∷ []
  pub ten_counts_and_a_partner_of_six : run 6 (begun (at_rest 4 (two_moves (to (pos 10)) (to (pos 16))) 2)) ≡ (pos 2, 3) ∷ (pos 4, 3) ∷ (pos 4, 3) ∷ (pos 4, 3) ∷ (pos 2, 4) ∷ (pos 0, 2) ∷ []
  -- at speed 4, after the steps 2 and 4
  pub stop_at_four : run 2 (stopped_after 4 2) ≡ (pos 2, 7) ∷ (pos 0, 2) ∷ []
  -- at speed 5, after the steps 2, 4 and 5 at a feedrate of 5
  pub stop_at_five : run 3 (stopped_after 5 3) ≡ (pos 3, 7) ∷ (pos 1, 7) ∷ (pos 0, 2) ∷ []
  -- a dwell is over with its last tick, and not before
  pub twenty_milliseconds : run 9 (dwelling 20) ≡ (pos 0, 5) ∷ (pos 0, 5) ∷ (pos 0, 5) ∷ (pos 0, 5) ∷ (pos 0, 5) ∷ (pos 0, 5) ∷ (pos 0, 5) ∷ (pos 0, 5) ∷ (pos 0, 2) ∷ []
  pub twenty_four_milliseconds : run 2 (after 8 (dwelling 24)) ≡ (pos 0, 5) ∷ (pos 0, 2) ∷ []
  pub twenty_five_milliseconds : run 2 (after 9 (dwelling 25)) ≡ (pos 0, 5) ∷ (pos 0, 2) ∷ []
  pub minus_12345 : Reads (neg_ℤ (pos 12345)) 0x8001 0x2345
  pub plus_19999999 : Reads (pos 19999999) 0x1999 0x9999
