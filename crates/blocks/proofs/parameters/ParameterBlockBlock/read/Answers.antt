use Rattle.std.proofs.Common.{Some, Ok, sym, ap, ◌∙◌}
use Rattle.blocks.specs.Fields.{fields_from}
use Rattle.blocks.specs.Numbers.{number_digits}
use Rattle.blocks.specs.Parameters.{parameters_written, parameter_digits, assembled}
use Rattle.blocks.specs.Positions.{position, position_digits}
use Rattle.blocks.proofs.Questions.{passed, passed_value, passed_all, stopped, stopped_all, err_passed}
use Rattle.blocks.proofs.parameters.ParameterBlockBlock.read.Goals as goal

pub returns-in_err-positions : goal.returns-in_err-positions
unfolding parameter_digits parameters_written
returns-in_err-positions c =
    let ws = c.args.words.block.words.now in
    let a = Some c.args.words.block.axis in
    let at = c.args.words.start in
    err_passed _ _ _ c.from_residual.ensures.1
    (sym (stopped (position_digits ws a at 1 4) (number_digits ws a at 9 8) _ (parameters_written ws at) _ c.in_err-positions.ensures))

pub returns-in_err-numbers : goal.returns-in_err-numbers
unfolding parameter_digits parameters_written
returns-in_err-numbers c =
    let ws = c.args.words.block.words.now in
    let a = Some c.args.words.block.axis in
    let at = c.args.words.start in
    let t = passed (position_digits ws a at 1 4) (number_digits ws a at 9 8) _ _ (parameters_written ws at) c.in_ok-positions.ensures in
    err_passed _ _ _ c.from_residual-in_err-numbers.ensures.1
    (sym (t ∙ stopped_all (number_digits ws a at 9 8) _ (parameters_written ws at) _ c.in_err-numbers.ensures))

pub returns : goal.returns
unfolding parameter_digits parameters_written
returns c =
    let ws = c.args.words.block.words.now in
    let a = Some c.args.words.block.axis in
    let at = c.args.words.start in
    let v = parameters_written ws at in
    let t = passed (position_digits ws a at 1 4) (number_digits ws a at 9 8) _ _ v c.in_ok-positions.ensures in
    let u = passed_all (number_digits ws a at 9 8) _ _ v c.in_ok-numbers.ensures in
    let ps = passed_value (position_digits ws a at 1 4) _ _ c.in_ok-positions.ensures in
    let ns = passed_value (number_digits ws a at 9 8) _ _ c.in_ok-numbers.ensures in
    ap Ok (c.assemble.ensures ∙ ap (λ l. assembled l c.in_ok-numbers.numbers) ps ∙ ap (assembled (fields_from (position ws at) 2 1 4)) ns) ∙ sym (t ∙ u)
