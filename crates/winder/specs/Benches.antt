-- The bench: one move on an analog drive and on one behind a reversed mount.
use Rattle.std.specs.Prelude.{◌≡◌, ℤ, pos, Ok, Err, Result}
use Rattle.motion.specs.declared.rates.Rates.{Rates}
use Rattle.drive.specs.declared.analog.Analog.{Analog}
use Rattle.drive.specs.declared.refusal.Refusal.{Refusal}
use Rattle.drive.specs.Analog.{analog_values, output_state}
use Rattle.drive.specs.Mirror.{reversed_values}
use Rattle.drive.specs.Output.{new_output}
use Rattle.drive.specs.Values.{new_drive, after_wake, reach_ceiling}
use Rattle.winder.specs.declared.bench.Bench.{Bench}
use Rattle.winder.specs.declared.reading.Reading.{Reading}
use Rattle.winder.specs.Readings.{reading}
use Rattle.winder.specs.Servos.{ServoState, servo_state, servo_new, servo_answer, servo_ticked}
use Rattle.winder.specs.Travel.{advanced, next_step, new_move}

abbrev pub analog_state : Bench → ServoState
analog_state b = servo_state analog_values b.analog

abbrev pub reversed_state : Bench → ServoState
reversed_state b = servo_state (reversed_values analog_values) b.reversed

-- the drive behind the mount
abbrev pub behind_mount : Bench → Analog
behind_mount b = b.reversed.drive.drive

-- a bench at the start of a move by z counts, its drives awake at place 0
pub record Begun (z : ℤ) (b : Bench) : Type 0 where
  pub travel : b.travel ≡ new_move z
  pub analog : analog_state b ≡ servo_new (after_wake (new_drive reach_ceiling))
  pub reversed : reversed_state b ≡ servo_new (after_wake (new_drive reach_ceiling))
  pub analog_gains : output_state b.analog.drive ≡ new_output (pos 1000) (pos 500)
  pub reversed_gains : output_state (behind_mount b) ≡ new_output (pos 1000) (pos 500)

-- the step, if both drives took it, else the first refusal
abbrev pub both_answers : Result (Unit {0}) Refusal → Result (Unit {0}) Refusal → ℤ → Result ℤ Refusal
both_answers (Err e) second step = Err e
both_answers (Ok u) (Err e) step = Err e
both_answers (Ok u) (Ok w) step = Ok step

-- the tick that takes the bench from before to after, and its answer r
pub record Ticked (rates : Rates) (before after : Bench) (r : Result ℤ Refusal) : Type 0 where
  pub travel : after.travel ≡ advanced rates before.travel
  pub analog : analog_state after ≡ servo_ticked (analog_state before) (next_step rates before.travel)
  pub reversed : reversed_state after ≡ servo_ticked (reversed_state before) (next_step rates before.travel)
  pub answer : r ≡ both_answers (servo_answer (analog_state before) (next_step rates before.travel)) (servo_answer (reversed_state before) (next_step rates before.travel)) (next_step rates before.travel)

-- nothing is left, the speed is 0, and the encoders have reported every step
pub record Done (b : Bench) : Type 0 where
  pub left : b.travel.left ≡ 0
  pub speed : b.travel.speed ≡ 0
  pub analog_gap : (analog_state b).values.gap ≡ pos 0
  pub reversed_gap : (reversed_state b).values.gap ≡ pos 0

-- what is read off the drive that moves with no mount, and off the mounted one: its output is that of the drive behind the mount
abbrev pub analog_reading : Bench → Reading
analog_reading b = reading (analog_state b).values b.analog.drive

abbrev pub reversed_reading : Bench → Reading
reversed_reading b = reading (reversed_state b).values (behind_mount b)
