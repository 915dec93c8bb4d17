-- Responses: what an event makes of an axis, and what its drive is told.
use Rattle.std.specs.Prelude.{cond, List, [], ◌∷◌, ℤ, pos, Some, None, Option}
use Rattle.drive.specs.Orders.{Order, Step, Feel, Name, Wake, Sleep, after_order}
use Rattle.modes.specs.declared.commands.Command.{Command}
use Rattle.modes.specs.declared.commands.Command.TheVariants.{Begin, Start, SlideStop, SearchHome, JogForward, JogReverse, Reset, Override}
use Rattle.modes.specs.declared.input.Input.{Input}
use Rattle.moves.specs.declared.moves.Moveset.{Moveset}
use Rattle.moves.specs.declared.parameters.Parameters.{Parameters}
use Rattle.moves.specs.declared.state.Mode.TheVariants.{Down}
use Rattle.moves.specs.declared.state.Motion.{Motion}
use Rattle.moves.specs.declared.state.Note.{Note}
use Rattle.moves.specs.declared.state.State.{State}
use Rattle.modes.specs.Commands.{after_command, with_parameters, with_moveset, loaded}
use Rattle.moves.specs.State.{with_speed, with_note, with_held, lose_home, signed}
use Rattle.modes.specs.Tick.{advance, named_home}
use Rattle.axis.specs.Reference.{Reference, over, seen, is_up, alarm}

-- What an event makes of an axis: the state after it, and what the drive is told, from the first order to the last.
pub record Response : Type 0 where
  pub state : State
  pub orders : List Order

abbrev pub respond : State → List Order → Response
respond s os = record { state = s; orders = os }

-- Taken down, an axis has no speed and has lost home. Its drive is told to sleep, asleep or not, and gets no step.
abbrev pub taken_down_response : Note → Reference → Response
taken_down_response n r = respond (with_note (Some n) (lose_home r.drive.place (with_speed Down 0 r.state))) (Sleep ∷ [])

-- the place is named home before the other orders, where home was found
abbrev pub naming : Option ℤ → List Order → List Order
naming None os = os
naming (Some home) os = Name home ∷ os

-- the one step of a tick: the new speed in the new direction, of 0 too
abbrev pub step_of : Motion → Order
step_of m = Step (signed m.direction m.speed)

-- an axis that stays up
abbrev pub moved_response : Input → Reference → Response
moved_response input r =
    respond (advance input (seen r.drive) r.state)
    (naming (named_home input r.state) (step_of (advance input (seen r.drive) r.state).motion ∷ []))

abbrev pub up_response : Input → Reference → Response
up_response input r = elim (alarm input r) [ None ↦ moved_response input r | Some n ↦ taken_down_response n r ]

-- an axis whose drive has felt: where it is not up, that was all
abbrev pub once_felt : Input → Reference → Response
once_felt input r = cond (is_up r.state.motion.mode) (up_response input r) (respond r.state [])

-- the drive is told what the encoder saw
abbrev pub feel_of : Input → Order
feel_of input = Feel input.counts input.ready

abbrev pub having_felt : Input → Reference → Reference
having_felt input r = over r.state (after_order (feel_of input) r.drive)

-- A tick: the drive feels first, in every mode, and what it shows then decides the rest.
abbrev pub ticked : Input → Reference → Response
ticked input r =
    respond (once_felt input (having_felt input r)).state (feel_of input ∷ (once_felt input (having_felt input r)).orders)

-- a reset wakes the drive, and no other command touches it
abbrev pub command_orders : Command → List Order
command_orders Begin = []
command_orders Start = []
command_orders SlideStop = []
command_orders SearchHome = []
command_orders JogForward = []
command_orders JogReverse = []
command_orders Reset = Wake ∷ []
command_orders (Override percent) = []

-- What can happen to an axis. Whether the card lets it happen is asked before.
pub data Event : Type 0 where
  Tick : Input → Event
  Commanded : Command → Event
  -- accepted parameters, and an accepted moveset
  ParametersSet : Parameters → Event
  MovesetSet : Moveset → Event
  -- a load that names this axis is held, with its preset; None where the hold ends
  PresetHeld : Option ℤ → Event
  -- the held preset is loaded
  PresetLoaded : Event

-- Accepted parameters put the drive to sleep and name its place 0.
abbrev pub response : Event → Reference → Response
response (Tick input) r = ticked input r
response (Commanded c) r = respond (after_command c r.drive.place r.state) (command_orders c)
response (ParametersSet p) r = respond (with_parameters p r.state) (Sleep ∷ Name (pos 0) ∷ [])
response (MovesetSet m) r = respond (with_moveset m r.state) []
response (PresetHeld preset) r = respond (with_held preset r.state) []
response PresetLoaded r = respond (loaded r.drive.place r.state.held r.state) []
