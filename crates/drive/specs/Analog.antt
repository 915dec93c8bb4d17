-- What the fields of the analog drive mean, and what orders make of all that it keeps.
use Rattle.std.specs.Prelude.{◌≡◌}
use Rattle.drive.specs.Orders.{Order, Step, Feel, Name, Wake, Sleep, after_order}
use Rattle.drive.specs.Output.{OutputState, output_after_step, output_after_feel, output_after_name, latest_cleared}
use Rattle.drive.specs.Values.{Values, reach_ceiling}
use Rattle.drive.specs.declared.analog.Analog.{Analog}

abbrev pub analog_values : Analog → Values
analog_values a = record { place = a.place; gap = a.gap; awake = a.awake; reach = reach_ceiling }

abbrev pub output_state : Analog → OutputState
output_state a = record { latest = a.latest; k1 = a.k1; k2 = a.k2 }

-- what an order makes of latest step and gains, at a drive with the values v
abbrev pub output_after : Order → Values → OutputState → OutputState
output_after (Step s) v o = output_after_step v o s
output_after (Feel n ready) v o = output_after_feel o ready
output_after (Name p) v o = output_after_name v o p
output_after Wake v o = latest_cleared o
output_after Sleep v o = latest_cleared o

-- the analog drive a, told an order, became b: all that it keeps is what the order makes of it
pub record AnalogObeys (a : Analog) (o : Order) (b : Analog) : Type 0 where
  pub values : analog_values b ≡ after_order o (analog_values a)
  pub output : output_state b ≡ output_after o (analog_values a) (output_state a)
