-- One axis wound tick by tick: the reference axis with what its encoder has yet to report.
use Rattle.std.specs.Prelude.{ℕ, zero, suc, ◌+◌, ℤ, pos, ◌-ℤ◌, Some, None, Option}
use Rattle.drive.specs.Analog.{analog_values}
use Rattle.drive.specs.Values.{new_drive, reach_ceiling}
use Rattle.modes.specs.declared.commands.Command.TheVariants.{Begin}
use Rattle.modes.specs.Commands.{with_moveset}
use Rattle.moves.specs.State.{new_state}
use Rattle.axis.specs.Reference.{Reference, over, tick, commanded, accepted}
use Rattle.winder.specs.declared.orders.Order.{Order}
use Rattle.winder.specs.declared.orders.Order.TheVariants.{SetParameters, Command, Wind}
use Rattle.winder.specs.declared.winding.AxisReading.{AxisReading}
use Rattle.winder.specs.declared.winding.Winding.{Winding}
use Rattle.winder.specs.Readings.{reading}
use Rattle.winder.specs.Orders.{next_order, input_at, step_given, reported}
use Rattle.winder.specs.Settings.{winding_parameters, winding_moveset}

pub record Station : Type 0 where
  pub axis : Reference
  -- the counts that the encoder reports next
  pub unreported : ℤ

abbrev pub station : Winding → Station
station w =
    record { axis = over w.axis.control.state (analog_values w.axis.drive); unreported = w.unreported }

-- an axis without parameters, over a drive asleep at 0
abbrev pub new_station : Station
new_station = record { axis = over new_state (new_drive reach_ceiling); unreported = pos 0 }

-- the moveset is handed over and begun
abbrev pub begun : Reference → Reference
begun r = commanded Begin (over (with_moveset winding_moveset r.state) r.drive)

abbrev pub told : Order → Reference → Reference
told SetParameters r = accepted winding_parameters r
told (Command c) r = commanded c r
told Wind r = begun r

abbrev pub obeyed : Order → Station → Station
obeyed o s = record { axis = told o s.axis; unreported = s.unreported }

abbrev pub ordered_by : Option Order → Station → Station
ordered_by None s = s
ordered_by (Some o) s = obeyed o s

-- once the order that is due was given
abbrev pub ordered : Station → Station
ordered s = ordered_by (next_order s.axis.state) s

abbrev pub ticked : ℕ → Station → Station
ticked n s =
    record {
      axis = tick (input_at n s.unreported) s.axis;
      unreported = reported (step_given (tick (input_at n s.unreported) s.axis).state.motion);
    }

-- the place less the base
abbrev pub shown_of : Winding → ℤ
shown_of w = w.axis.drive.place -ℤ w.axis.control.state.coordinates.base

abbrev pub reading_of : Winding → AxisReading
reading_of w =
    record {
      mode = w.axis.control.state.motion.mode;
      drive = reading (analog_values w.axis.drive) w.axis.drive;
      shown = shown_of w;
      last_endpoint = w.axis.control.state.coordinates.last_endpoint;
      note = w.axis.control.state.note;
    }

-- The axis after so many ticks, each with the order before it. It is shut where it is cited, so that no proof
-- computes a run.
unfoldable pub after_ticks : ℕ → Station
after_ticks zero = new_station
after_ticks (suc n) = ticked (n + 1) (ordered (after_ticks n))
