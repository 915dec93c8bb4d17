-- The reference axis: the rules over a drive that is only its four values.
use Rattle.std.specs.Prelude.{Bool, true, false, cond, ℤ, pos, Some, None, Option}
use Rattle.drive.specs.Values.{Values, after_step, after_feel, after_name, after_wake, after_sleep}
use Rattle.modes.specs.declared.commands.Command.{Command}
use Rattle.modes.specs.declared.commands.Command.TheVariants.{Begin, Start, SlideStop, SearchHome, JogForward, JogReverse, Reset, Override}
use Rattle.modes.specs.declared.input.Input.{Input}
use Rattle.modes.specs.declared.input.Seen.{Seen}
use Rattle.moves.specs.declared.parameters.Parameters.{Parameters}
use Rattle.moves.specs.declared.state.Mode.{Mode}
use Rattle.moves.specs.declared.state.Mode.TheVariants.{Unset, Down, Rest, Moving, Settling, Dwelling, Waiting, Stopping, Jogging, Homing, Creeping}
use Rattle.moves.specs.declared.state.Motion.{Motion}
use Rattle.moves.specs.declared.state.Note.{Note}
use Rattle.moves.specs.declared.state.Note.TheVariants.{StopInput, DriveAsleep, FollowingError}
use Rattle.moves.specs.declared.state.State.{State}
use Rattle.modes.specs.Commands.{after_command, with_parameters, loaded}
use Rattle.moves.specs.State.{with_speed, with_note, lose_home, signed}
use Rattle.modes.specs.Standing.{gap_within}
use Rattle.modes.specs.Tick.{advance, named_home}

pub record Reference : Type 0 where
  pub state : State
  pub drive : Values

abbrev pub over : State → Values → Reference
over s d = record { state = s; drive = d }

-- what the drive shows in a tick
abbrev pub seen : Values → Seen
seen d = record { place = d.place; gap = d.gap; reach = d.reach }

-- an axis that a tick can move or take down: it has parameters and is not down
abbrev pub is_up : Mode → Bool
is_up Unset = false
is_up Down = false
is_up Rest = true
is_up (Moving leg) = true
is_up (Settling endpoint) = true
is_up (Dwelling ticks) = true
is_up Waiting = true
is_up Stopping = true
is_up Jogging = true
is_up Homing = true
is_up Creeping = true

-- why a tick takes an axis down: the stop input, a sleeping drive, or a gap above the following limit, the first of these
abbrev pub alarm : Input → Reference → Option Note
alarm input r =
    cond input.stop (Some StopInput)
    (cond r.drive.awake (cond (gap_within r.drive.gap r.state.parameters.following_limit) None (Some FollowingError)) (Some DriveAsleep))

-- Taken down, an axis has no speed and has lost home, and its drive sleeps; no step is given.
abbrev pub taken_down : Note → Reference → Reference
taken_down n r =
    over (with_note (Some n) (lose_home r.drive.place (with_speed Down 0 r.state))) (after_sleep r.drive)

-- the place is named home, where home was found
abbrev pub after_naming : Option ℤ → Values → Values
after_naming None d = d
after_naming (Some home) d = after_name d home

-- a step of the new speed in the new direction, of 0 too; a drive that refuses it is as it was
abbrev pub after_motion : Motion → Values → Values
after_motion m d = after_step d (signed m.direction m.speed)

-- the tick of an axis that stays up
abbrev pub moved : Input → Reference → Reference
moved input r =
    over (advance input (seen r.drive) r.state)
    (after_motion (advance input (seen r.drive) r.state).motion (after_naming (named_home input r.state) r.drive))

abbrev pub tick_up : Input → Reference → Reference
tick_up input r = elim (alarm input r) [ None ↦ moved input r | Some n ↦ taken_down n r ]

-- The drive feels first, in every mode.
abbrev pub felt : Input → Reference → Reference
felt input r = over r.state (after_feel r.drive input.counts input.ready)

-- A tick.
abbrev pub tick : Input → Reference → Reference
tick input r = cond (is_up r.state.motion.mode) (tick_up input (felt input r)) (felt input r)

-- what a command does to the drive: a reset wakes it, and no other command touches it
abbrev pub drive_after : Command → Values → Values
drive_after Begin d = d
drive_after Start d = d
drive_after SlideStop d = d
drive_after SearchHome d = d
drive_after JogForward d = d
drive_after JogReverse d = d
drive_after Reset d = after_wake d
drive_after (Override percent) d = d

abbrev pub commanded : Command → Reference → Reference
commanded c r = over (after_command c r.drive.place r.state) (drive_after c r.drive)

-- Accepted parameters: the drive sleeps and is named 0.
abbrev pub accepted : Parameters → Reference → Reference
accepted p r = over (with_parameters p r.state) (after_name (after_sleep r.drive) (pos 0))

abbrev pub load : Reference → Reference
load r = over (loaded r.drive.place r.state.held r.state) r.drive
