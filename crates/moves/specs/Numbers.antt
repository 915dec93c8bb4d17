-- The numbers of the modes and of the notes, as the status shows them.
use Rattle.std.specs.Prelude.{ℕ, Some, None, Option}
use Rattle.moves.specs.declared.state.Mode.{Mode}
use Rattle.moves.specs.declared.state.Mode.TheVariants.{Unset, Down, Rest, Moving, Settling, Dwelling, Waiting, Stopping, Jogging, Homing, Creeping}
use Rattle.moves.specs.declared.state.Note.{Note}
use Rattle.moves.specs.declared.state.Note.TheVariants.{OutsideLimits, OutOfRange, HomeNotFound, StopInput, DriveAsleep, FollowingError}

abbrev pub mode_number : Mode → ℕ
mode_number Unset = 0
mode_number Down = 1
mode_number Rest = 2
mode_number (Moving leg) = 3
mode_number (Settling endpoint) = 4
mode_number (Dwelling ticks) = 5
mode_number Waiting = 6
mode_number Stopping = 7
mode_number Jogging = 8
mode_number Homing = 9
mode_number Creeping = 10

abbrev pub note_number : Note → ℕ
note_number OutsideLimits = 17
note_number OutOfRange = 18
note_number HomeNotFound = 19
note_number StopInput = 20
note_number DriveAsleep = 21
note_number FollowingError = 22

-- the noted number: 0 for none
abbrev pub noted_number : Option Note → ℕ
noted_number None = 0
noted_number (Some n) = note_number n
