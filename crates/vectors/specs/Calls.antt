-- What a call does to the four values of a drive, and what it answers.
use Rattle.std.specs.Prelude.{Ok, Result}
use Rattle.drive.specs.declared.refusal.Refusal.{Refusal}
use Rattle.drive.specs.Values.{Values, step_answer, after_step, after_feel, name_answer, after_name, after_wake, after_sleep}
use Rattle.vectors.specs.declared.calls.Call.{Call}
use Rattle.vectors.specs.declared.calls.Call.TheVariants.{Step, Feel, Name, Wake, Sleep}

abbrev pub call_answer : Values → Call → Result (Unit {0}) Refusal
call_answer v (Step s) = step_answer v s
call_answer v (Feel n ready) = Ok tt
call_answer v (Name p) = name_answer v p
call_answer v Wake = Ok tt
call_answer v Sleep = Ok tt

abbrev pub after_call : Values → Call → Values
after_call v (Step s) = after_step v s
after_call v (Feel n ready) = after_feel v n ready
after_call v (Name p) = after_name v p
after_call v Wake = after_wake v
after_call v Sleep = after_sleep v
