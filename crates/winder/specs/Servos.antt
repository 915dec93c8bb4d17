-- What a tick does to a drive whose encoder reports each step one tick late.
use Rattle.std.specs.Prelude.{true, cond, ℤ, pos, is_ok, Result}
use Rattle.drive.specs.declared.refusal.Refusal.{Refusal}
use Rattle.drive.specs.Values.{Values, step_answer, after_step, after_feel}
use Rattle.winder.specs.declared.servo.Servo.{Servo}

pub record ServoState : Type 0 where
  -- what the drive means
  pub values : Values
  -- the counts that the encoder reports next
  pub unreported : ℤ

-- the state of a servo whose drive has the given meaning
abbrev pub servo_state : {D : Type 0} → (D → Values) → Servo D → ServoState
servo_state meaning s = record { values = meaning s.drive; unreported = s.unreported }

-- a drive of those values, with nothing to report
abbrev pub servo_new : Values → ServoState
servo_new v = record { values = v; unreported = pos 0 }

-- the values once the encoder has reported
abbrev pub reported : ServoState → Values
reported s = after_feel s.values s.unreported true

abbrev pub servo_answer : ServoState → ℤ → Result (Unit {0}) Refusal
servo_answer s step = step_answer (reported s) step

-- a refused step leaves nothing to report
abbrev pub servo_ticked : ServoState → ℤ → ServoState
servo_ticked s step = record { values = after_step (reported s) step; unreported = cond (is_ok (servo_answer s step)) step (pos 0) }
