use Rattle.std.proofs.Common.{ℕ, ◌+◌, ℤ, sym, subst, lit<, lit≤, w32, SFits, to_z, of_z, rules}
use Rattle.std.proofs.lemmas.Int.{to_z-of_z}
use Rattle.std.proofs.lemmas.Bool.Decides.{not_from_Decides}
use Rattle.winder.specs.declared.bench.Bench.{Bench}
use Rattle.winder.specs.Runs.{Reachable}
use Rattle.winder.proofs.Underway.{OnCourse, never_refused, arrives, stays_on_course}
use Rattle.winder.proofs.run.run.Goals as goal

-- the loop's invariant, for the counts z as the parameter or as the bits that a turn holds
abbrev Heading : ℕ → Bench → ℤ → Type 0
Heading tick b z = Reachable z → OnCourse z tick b

from_bits : (tick : ℕ) (b : Bench) (z : ℤ) → SFits w32 z → Heading tick b (to_z w32 (of_z w32 z)) → Heading tick b z
from_bits tick b z fits = subst (Heading tick b) (to_z-of_z w32 z fits)

to_bits : (tick : ℕ) (b : Bench) (z : ℤ) → SFits w32 z → Heading tick b z → Heading tick b (to_z w32 (of_z w32 z))
to_bits tick b z fits = subst (Heading tick b) (sym (to_z-of_z w32 z fits))

pub returns-in_err-step : goal.returns-in_err-step
returns-in_err-step g c h =
    let heading = from_bits c.loop-tick.tick c.loop-tick.bench c.args.counts c.ranges.counts c.loop-tick.invariant in
    absurd (never_refused c.args.counts c.loop-tick.tick _ c.loop-tick.bench c.tick.new.self c.tick.result h (heading h) c.tick.ensures c.in_err-step.field-0.0 c.in_err-step.was)

pub returns-then-is_done : goal.returns-then-is_done
returns-then-is_done g c h =
    let heading = from_bits c.loop-tick.tick c.loop-tick.bench c.args.counts c.ranges.counts c.loop-tick.invariant in
    let there = arrives c.args.counts c.loop-tick.tick _ c.loop-tick.bench c.tick.new.self c.tick.result h (heading h) c.tick.ensures (lit< tt) (c.is_done.ensures.0 c.if-is_done.true) in
    search rules

pub loop-tick-preserved : goal.loop-tick-preserved
loop-tick-preserved g c =
    let heading = from_bits c.loop-tick.tick c.loop-tick.bench c.args.counts c.ranges.counts c.loop-tick.invariant in
    to_bits (c.loop-tick.tick + 1) c.tick.new.self c.args.counts c.ranges.counts
    (λ h. stays_on_course c.args.counts c.loop-tick.tick _ c.loop-tick.bench c.tick.new.self c.tick.result h (heading h) c.tick.ensures (lit< tt) (lit≤ tt) (lit≤ tt) (not_from_Decides c.is_done.result c.is_done.ensures c.if-is_done.false))
