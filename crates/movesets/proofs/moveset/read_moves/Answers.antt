use Rattle.std.proofs.Common.{Some, length, ◌∙◌}
use Rattle.blocks.proofs.Questions.{err_passed}
use Rattle.movesets.proofs.Turns.{control_stop, action_stop, move_go, filled_go}
use Rattle.movesets.proofs.moveset.read_moves.Goals as goal

pub returns-in_err-words-clause-value : goal.returns-in_err-words-clause-value
returns-in_err-words-clause-value c =
    let l = c.loop-slot in
    err_passed _ _ _ c.from_residual.ensures.1
    (control_stop c.args.block.words.now (Some c.args.block.axis) (length c.args.slots.now) l.slot-index l.at c.loop-slot-test.true _ c.in_err-words.ensures ∙ l.invariant.0)

pub returns-in_err-slot-clause-value : goal.returns-in_err-slot-clause-value
returns-in_err-slot-clause-value c =
    let l = c.loop-slot in
    let is = c.in_ok-words.ensures in
    let no = rw (is.0, is.1) at c.in_err-slot.ensures in
    err_passed _ _ _ c.from_residual-in_err-slot.ensures.1
    (action_stop c.args.block.words.now (Some c.args.block.axis) (length c.args.slots.now) l.slot-index l.at c.loop-slot-test.true _ is.2 no ∙ l.invariant.0)

pub loop-slot-preserved : goal.loop-slot-preserved
loop-slot-preserved c =
    let l = c.loop-slot in
    let ws = c.args.block.words.now in
    let a = Some c.args.block.axis in
    let is = c.in_ok-words.ensures in
    let m = c.in_ok-slot.field-0 in
    let yes = rw (is.0, is.1) at c.in_ok-slot.ensures in
    let next = rw (is.0, is.1) at c.end-at.ensures in
    let go = move_go ws a (length c.args.slots.now) l.slot-index l.at c.loop-slot-test.true m is.2 yes in
    let put = filled_go ws a (length c.args.slots.now) l.slot-index l.at c.loop-slot-test.true l.slots m yes in
    rw next (go ∙ l.invariant.0, put ∙ l.invariant.1)
