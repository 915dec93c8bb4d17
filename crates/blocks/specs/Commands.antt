-- Command blocks. A record is the axis, a code and an argument.
use Rattle.std.specs.Prelude.{ℕ, ◌+◌, cond, ◌&&◌, List, [], ◌∷◌, ◌++◌, Option, Result, Ok, Err, ◌==◌, nat_le}
use Rattle.words.specs.declared.axis.AxisId.{AxisId}
use Rattle.words.specs.declared.by_axis.ByAxis.{ByAxis}
use Rattle.words.specs.declared.fault.Question.TheVariants.{Range}
use Rattle.modes.specs.Commands.{command_code}
use Rattle.modes.specs.declared.commands.Command.{Command}
use Rattle.modes.specs.declared.commands.Command.TheVariants as the
use Rattle.blocks.specs.declared.commands.OutOfRange.{OutOfRange}
use Rattle.blocks.specs.declared.commands.OutOfRange.TheVariants as range
use Rattle.blocks.specs.declared.commands.Written.{Written}
use Rattle.blocks.specs.declared.kinds.Kind.TheVariants.{Commands}
use Rattle.blocks.specs.declared.records.Record.{Record}
use Rattle.blocks.specs.Directory.{directory_questions, starts_by_axis}
use Rattle.blocks.specs.Numbers.{number, number_digits}
use Rattle.blocks.specs.Questions.{Asked, ask}
use Rattle.blocks.specs.Records.{in_turn, records_from}

-- the first of some commands that has a code, or else the last one given
abbrev pub first_with : ℕ → List Command → Command → Command
first_with code [] last = last
first_with code (c ∷ more) last = cond (command_code c == code) c (first_with code more last)

-- the command that has a code, 1 to 8, and an argument
abbrev pub command_of : ℕ → ℕ → Command
command_of code argument =
    first_with code (the.Begin ∷ the.Start ∷ the.SlideStop ∷ the.SearchHome ∷ the.JogForward ∷ the.JogReverse ∷ the.Reset ∷ []) (the.Override argument)

-- the greatest argument that a code takes: a percentage up to 127 for an override, and none otherwise
abbrev pub argument_max : ℕ → ℕ
argument_max code = cond (code == 8) 127 0

-- word 1 of a record is the code, word 2 the argument
abbrev pub command_written : List ℕ → ℕ → Written
command_written ws at = record { code = number ws at 1; argument = number ws at 2 }

abbrev pub written_command : Written → Command
written_command w = command_of w.code w.argument

-- their digits
abbrev pub command_digits : List ℕ → Option AxisId → ℕ → List Asked
command_digits ws axis at = number_digits ws axis at 1 2

-- the range of the code, and then that of the argument
abbrev pub command_ranges : Option AxisId → Written → ℕ → List Asked
command_ranges axis w at =
    ask Range axis (at + 1) (nat_le 1 w.code && nat_le w.code 8)
    ∷ ask Range axis (at + 2) (nat_le w.argument (argument_max w.code))
    ∷ []

-- all questions of a command block
abbrev pub command_questions : List ℕ → List Asked
command_questions ws =
    directory_questions Commands ws
    ++ (in_turn 3 ws (command_digits ws) ++ in_turn 3 ws (λ axis at. command_ranges axis (command_written ws at) at))

-- what an accepted command block says
abbrev pub commands : List ℕ → ByAxis (Option (Record Command))
commands ws = records_from (λ at. written_command (command_written ws at)) (starts_by_axis 3 ws)

-- the command that is written, or the word that is out of its range: the code is asked before the argument
abbrev pub command_of_written : Written → Result Command OutOfRange
command_of_written w =
    cond (nat_le 1 w.code && nat_le w.code 8) (cond (nat_le w.argument (argument_max w.code)) (Ok (written_command w)) (Err range.Argument)) (Err range.Code)
