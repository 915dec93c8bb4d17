-- The calls that were made, each with what it answered.
use Rattle.std.proofs.Common.{refl, Ok, Err}
use Rattle.std.proofs.lemmas.Result.{err_from_is_err_and}
use Rattle.blocks.proofs.turns.try_by_axis.Goals as goal

pub returns-in_err-step : goal.returns-in_err-step
returns-in_err-step g c =
    let p = err_from_is_err_and c.from_residual.result c.from_residual.ensures.1 in
    rw (p.1, p.2) (Err _, c.in_err-step.ensures, refl)

pub returns-in_err-step-2 : goal.returns-in_err-step-2
returns-in_err-step-2 g c =
    let p = err_from_is_err_and c.from_residual-in_err-step-2.result c.from_residual-in_err-step-2.ensures.1 in
    rw (p.1, p.2) (Ok _, c.in_ok-step.ensures, (Err _, c.in_err-step-2.ensures, refl))

pub returns-in_err-step-3 : goal.returns-in_err-step-3
returns-in_err-step-3 g c =
    let p = err_from_is_err_and c.from_residual-in_err-step-3.result c.from_residual-in_err-step-3.ensures.1 in
    rw (p.1, p.2) (Ok _, c.in_ok-step.ensures, (Ok _, c.in_ok-step-2.ensures, (Err _, c.in_err-step-3.ensures, refl)))
