-- Parameter blocks. A record is the axis, four positions and eight numbers.
use Rattle.std.specs.Prelude.{ℕ, Bool, ◌&&◌, List, [], ◌∷◌, ◌++◌, ℤ, pos, neg_ℤ, Some, None, Option, int_le, nat_le, slice_index, slice_index_or}
use Rattle.words.specs.Axes.{of_axis}
use Rattle.words.specs.declared.axis.AxisId.{AxisId}
use Rattle.words.specs.declared.by_axis.ByAxis.{ByAxis}
use Rattle.words.specs.declared.fault.Question.TheVariants.{Range}
use Rattle.moves.specs.declared.parameters.Parameters.{Parameters}
use Rattle.blocks.specs.declared.bounds.Bounded.{Bounded}
use Rattle.blocks.specs.declared.kinds.Kind.TheVariants as kind
use Rattle.blocks.specs.declared.records.Record.{Record}
use Rattle.blocks.specs.Bounds.{rate_max, ranges_from}
use Rattle.blocks.specs.Directory.{directory_questions, starts_by_axis}
use Rattle.blocks.specs.Numbers.{number, number_digits}
use Rattle.blocks.specs.Positions.{position, position_digits}
use Rattle.blocks.specs.Questions.{Asked, ask}
use Rattle.blocks.specs.Records.{in_turn, records_from}

-- the values of a record in the order of its words
abbrev pub assembled : List ℤ → List ℕ → Parameters
assembled ps ns = record {
  low = slice_index_or ps 0 (pos 0);
  high = slice_index_or ps 1 (pos 0);
  home = slice_index_or ps 2 (pos 0);
  offset = slice_index_or ps 3 (pos 0);
  feedrate = slice_index ns 0;
  acceleration = slice_index ns 1;
  deceleration = slice_index ns 2;
  jog_rate = slice_index ns 3;
  home_rate = slice_index ns 4;
  creep_rate = slice_index ns 5;
  band = slice_index ns 6;
  following_limit = slice_index ns 7;
}

-- which word of a record holds what
unfoldable pub parameters_written : List ℕ → ℕ → Parameters
parameters_written ws at = record {
  low = position ws at 1;
  high = position ws at 3;
  home = position ws at 5;
  offset = position ws at 7;
  feedrate = number ws at 9;
  acceleration = number ws at 10;
  deceleration = number ws at 11;
  jog_rate = number ws at 12;
  home_rate = number ws at 13;
  creep_rate = number ws at 14;
  band = number ws at 15;
  following_limit = number ws at 16;
}

-- four positions from word 1 on, and eight numbers from word 9 on
unfoldable pub parameter_digits : List ℕ → Option AxisId → ℕ → List Asked
parameter_digits ws axis at = position_digits ws axis at 1 4 ++ number_digits ws axis at 9 8

-- a place is within plus or minus the reach
abbrev pub within_reach : ℤ → ℤ → Bool
within_reach reach x = int_le (neg_ℤ reach) x && int_le x reach

-- home lies between the limits
abbrev pub home_between : Parameters → Bool
home_between p = int_le p.low p.home && int_le p.home p.high

-- both limits lie within the reach of the axis's drive
abbrev pub limits_within : ℤ → Parameters → Bool
limits_within reach p = within_reach reach p.low && within_reach reach p.high

-- the creep rate is at most the home rate and at most the deceleration, and the band at most the following limit
abbrev pub rates_right : Parameters → Bool
rates_right p =
    nat_le p.creep_rate p.home_rate && nat_le p.creep_rate p.deceleration && nat_le p.band p.following_limit

-- the relations between the values of a record
abbrev pub relations_hold : ℤ → Parameters → Bool
relations_hold reach p = home_between p && limits_within reach p && rates_right p

-- the values from word 9 on that have a range, each with its greatest
abbrev pub bounded_rates : Parameters → List Bounded
bounded_rates p =
    record { value = p.feedrate; most = rate_max }
    ∷ record { value = p.acceleration; most = 9999 }
    ∷ record { value = p.deceleration; most = 9999 }
    ∷ record { value = p.jog_rate; most = rate_max }
    ∷ record { value = p.home_rate; most = rate_max }
    ∷ record { value = p.creep_rate; most = rate_max }
    ∷ []

-- the relations of a record, at its first word, and then the ranges of its words
unfoldable pub parameter_ranges : ℤ → Option AxisId → Parameters → ℕ → List Asked
parameter_ranges reach axis p at =
    ask Range axis at (relations_hold reach p) ∷ ranges_from axis at 9 (bounded_rates p)

-- the reach of an axis's drive
abbrev pub reach_of : ByAxis ℤ → Option AxisId → ℤ
reach_of r None = pos 0
reach_of r (Some axis) = of_axis r axis

-- all questions of a parameter block
abbrev pub parameter_questions : ByAxis ℤ → List ℕ → List Asked
parameter_questions r ws =
    directory_questions kind.Parameters ws
    ++ (in_turn 17 ws (parameter_digits ws) ++ in_turn 17 ws (λ axis at. parameter_ranges (reach_of r axis) axis (parameters_written ws at) at))

-- what an accepted parameter block says
abbrev pub parameters : List ℕ → ByAxis (Option (Record Parameters))
parameters ws = records_from (parameters_written ws) (starts_by_axis 17 ws)
