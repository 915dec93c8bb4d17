-- What the program tells the axis before a tick, and what the axis is told in one.
use Rattle.std.specs.Prelude.{ℕ, ◌%◌, Bool, true, false, cond, ◌&&◌, ℤ, pos, neg_ℤ, is_some, Some, None, Option, ◌==◌, nat_le}
use Rattle.drive.specs.Values.{nearest}
use Rattle.modes.specs.declared.commands.Command.TheVariants.{Start, SearchHome, Reset}
use Rattle.modes.specs.declared.input.Input.{Input}
use Rattle.moves.specs.declared.state.Mode.{Mode}
use Rattle.moves.specs.declared.state.Mode.TheVariants.{Unset, Down, Rest, Moving, Settling, Dwelling, Waiting, Stopping, Jogging, Homing, Creeping}
use Rattle.moves.specs.declared.state.Motion.{Motion}
use Rattle.moves.specs.declared.state.Note.{Note}
use Rattle.moves.specs.declared.state.State.{State}
use Rattle.moves.specs.State.{signed}
use Rattle.axis.specs.Reference.{is_up}
use Rattle.winder.specs.declared.orders.Order.{Order}
use Rattle.winder.specs.declared.orders.Order.TheVariants.{SetParameters, Command, Wind}

-- at rest: the search for home, then the moveset, then nothing
abbrev pub order_at_rest : State → Option Order
order_at_rest s = cond s.homed (elim s.program.moveset [ None ↦ Some Wind | Some m ↦ None ]) (Some (Command SearchHome))

abbrev pub order_in : Mode → State → Option Order
order_in Unset s = Some SetParameters
order_in Down s = Some (Command Reset)
order_in Rest s = order_at_rest s
order_in (Moving leg) s = None
order_in (Settling endpoint) s = None
order_in (Dwelling ticks) s = None
order_in Waiting s = Some (Command Start)
order_in Stopping s = None
order_in Jogging s = None
order_in Homing s = None
order_in Creeping s = None

-- the order before the next tick, if there is one
abbrev pub next_order : State → Option Order
next_order s = order_in s.motion.mode s

-- at rest behind its moveset
abbrev pub wound_in : Mode → State → Bool
wound_in Unset s = false
wound_in Down s = false
wound_in Rest s = s.homed && is_some s.program.moveset
wound_in (Moving leg) s = false
wound_in (Settling endpoint) s = false
wound_in (Dwelling ticks) s = false
wound_in Waiting s = false
wound_in Stopping s = false
wound_in Jogging s = false
wound_in Homing s = false
wound_in Creeping s = false

-- with a note made, or at rest behind its moveset
abbrev pub over_with : Option Note → State → Bool
over_with (Some n) s = true
over_with None s = wound_in s.motion.mode s

abbrev pub is_over : State → Bool
is_over s = over_with s.note s

-- The home switch is on from the sixth tick on, and the marker comes with every fifth.
abbrev pub input_at : ℕ → ℤ → Input
input_at tick counts = record { counts = counts; stop = false; ready = true; switch = nat_le 6 tick; marker = (tick % 5 == 0) }

-- the step of the tick that left the axis so; none where it has no parameters or is down
abbrev pub step_given : Motion → Option ℤ
step_given m = cond (is_up m.mode) (Some (signed m.direction m.speed)) None

-- what an encoder of 16 bits reports of a step
abbrev pub reported : Option ℤ → ℤ
reported None = pos 0
reported (Some s) = nearest (neg_ℤ (pos 32768)) (pos 32767) s
