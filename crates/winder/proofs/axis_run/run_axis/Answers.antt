use Rattle.std.proofs.Common.{sym, ◌∙◌, rules}
use Rattle.winder.proofs.Rounds.{first_tick, ticked_once, next_tick, over_at_none, told_of}
use Rattle.winder.proofs.axis_run.run_axis.Goals as goal

pub loop-tick-init : goal.loop-tick-init
loop-tick-init g c = first_tick _ c.new-winding.ensures

pub returns-then-is_over : goal.returns-then-is_over
returns-then-is_over g c =
    let reached = ticked_once c.loop-tick.tick _ _ _ c.loop-tick.invariant c.give_order-order.ensures.after c.tick-step.ensures.after in
    told_of _ _ _ reached
    (record { over = sym c.is_over.ensures ∙ c.if-is_over.true; last_endpoint = search rules; place = search rules; note = search rules })

pub loop-tick-preserved : goal.loop-tick-preserved
loop-tick-preserved g c =
    let reached = ticked_once c.loop-tick.tick _ _ _ c.loop-tick.invariant c.give_order-order.ensures.after c.tick-step.ensures.after in
    next_tick _ _ reached (sym c.is_over.ensures ∙ c.if-is_over.false)

pub returns : goal.returns
returns g c = over_at_none 200 _ _ c.loop-tick.invariant c.loop-tick-test.false (c.loop-tick.auto.tick-end (search rules))
