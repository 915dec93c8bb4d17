-- A move on its way: where its drives stand between two ticks, and that every tick is taken.
use Rattle.std.proofs.Common.{◌≡◌, ℕ, ◌+◌, ◌-◌, ◌^◌, ◌<◌, ◌≤◌, true, false, ℤ, pos, ◌+ℤ◌, ◌-ℤ◌, neg_ℤ, nat_abs, Ok, Err, Result, sym, refl, ap, ◌∙◌, subst, arith}
use Rattle.std.proofs.lemmas.Int.{ints}
use Rattle.motion.specs.declared.rates.Rates.{Rates}
use Rattle.motion.specs.Planning.{PlannedFrom, speed_cap}
use Rattle.motion.proofs.Laws.{planning_laws}
use Rattle.drive.specs.declared.refusal.Refusal.{Refusal}
use Rattle.drive.specs.Values.{Within, reach_ceiling, is_beyond, held}
use Rattle.winder.specs.declared.bench.Bench.{Bench}
use Rattle.moves.specs.declared.state.Direction.{Direction}
use Rattle.moves.specs.declared.state.Direction.TheVariants.{Plus, Minus}
use Rattle.moves.specs.State.{signed}
use Rattle.winder.specs.Benches.{analog_state, reversed_state, Ticked, Done, both_answers, analog_reading, reversed_reading}
use Rattle.winder.specs.Runs.{Reachable, Standing}
use Rattle.winder.specs.Servos.{ServoState, servo_answer, servo_ticked}
use Rattle.winder.specs.Travel.{next_speed, next_step}

-- awake at p, with the latest step g not yet reported
abbrev pub between_ticks : ℤ → ℤ → ServoState
between_ticks p g = record { values = record { place = p; gap = g; awake = true; reach = reach_ceiling }; unreported = g }

-- a step of that size leaves a gap far below its ceiling
abbrev Small : ℤ → Type 0
Small s = Within (neg_ℤ (pos 65535)) (pos 65535) s

-- A drive takes a step that stays in its reach.
step_taken : (p g s : ℤ) → Reachable (p +ℤ s) → servo_answer (between_ticks p g) s ≡ Ok tt
step_taken p g s h = grind (arith, ints)

-- A small gap is not cut.
held_small : (s : ℤ) → Small s → held s ≡ s
held_small s h = grind (arith, ints)

-- Its encoder first takes the step before off the gap, so that this one alone is left.
step_done : (p g s : ℤ) → Reachable (p +ℤ s) → Small s → servo_ticked (between_ticks p g) s ≡ between_ticks (p +ℤ s) s
step_done p g s h k =
    let inside : is_beyond reach_ceiling (p +ℤ s) ≡ false = grind (arith, ints) in
    let none : g -ℤ g ≡ pos 0 = omega (arith, ints) in
    let only : pos 0 +ℤ s ≡ s = omega (arith, ints) in
    simp (inside, none, only, held_small s k)

-- What is left leads to z from p, and the drives stand at p between two ticks.
pub record Underway (z p : ℤ) (b : Bench) : Type 0 where
  pub remaining : p +ℤ signed b.travel.direction b.travel.left ≡ z
  pub reachable : Reachable p
  pub speed_fits : b.travel.speed < 2 ^ 16
  pub analog : analog_state b ≡ between_ticks p (signed b.travel.direction b.travel.speed)
  pub reversed : reversed_state b ≡ between_ticks p (signed b.travel.direction b.travel.speed)

-- A step that way of no more than is left does not pass the end.
halfway : (d : Direction) (p : ℤ) (left w : ℕ) → w ≤ left → Reachable p → Reachable (p +ℤ signed d left) → Reachable (p +ℤ signed d w)
halfway Plus p left w h a b = (omega (arith, ints), omega (arith, ints))
halfway Minus p left w h a b = (omega (arith, ints), omega (arith, ints))

-- The rest leads on from there.
onward : (d : Direction) (p : ℤ) (left w : ℕ) → w ≤ left → (p +ℤ signed d w) +ℤ signed d (left - w) ≡ p +ℤ signed d left
onward Plus p left w h = omega (arith, ints)
onward Minus p left w h = omega (arith, ints)

-- A speed of 16 bits is a small step.
signed_small : (d : Direction) (w : ℕ) → w < 2 ^ 16 → Small (signed d w)
signed_small Plus w h = (omega (arith, ints), omega (arith, ints))
signed_small Minus w h = (omega (arith, ints), omega (arith, ints))

-- Where both drives took the step, the bench answers it.
both_taken : (x y : Result (Unit {0}) Refusal) (s : ℤ) → x ≡ Ok tt → y ≡ Ok tt → both_answers x y s ≡ Ok s
both_taken (Ok a) (Ok b) s e f = refl
both_taken (Ok a) (Err b) s e f = cc
both_taken (Err a) y s e f = cc

-- A tick from a bench under way.
module _ (z p : ℤ) (rates : Rates) (before after : Bench) (r : Result ℤ Refusal) (t : Ticked rates before after r) (h : Reachable z) (u : Underway z p before) where
  abbrev v : ℕ
  v = before.travel.speed

  abbrev left : ℕ
  left = before.travel.left

  abbrev d : Direction
  d = before.travel.direction

  abbrev w : ℕ
  w = next_speed rates before.travel

  abbrev s : ℤ
  s = next_step rates before.travel

  -- The speed is the planned one.
  planned : PlannedFrom rates v left w
  planned = planning_laws.exists rates v left

  -- It is at most what is left.
  pub planned_fits : next_speed rates before.travel ≤ before.travel.left
  planned_fits = planning_laws.at_most_the_room (speed_cap rates v) rates.deceleration left w planned

  -- It is not 0 as long as anything is left.
  pub planned_moves : 1 ≤ rates.feedrate → 1 ≤ rates.acceleration → 1 ≤ before.travel.left → 1 ≤ next_speed rates before.travel
  planned_moves f a m = planning_laws.moves rates v left w a f m planned

  -- The step stays in the reach.
  there : Reachable (p +ℤ s)
  there = halfway d p left w planned_fits u.reachable (subst Reachable (sym u.remaining) h)

  -- Both drives take the step.
  pub tick_taken : r ≡ Ok s
  tick_taken =
      t.answer ∙ both_taken _ _ s (ap (λ x. servo_answer x s) u.analog ∙ step_taken p (signed d v) s there) (ap (λ x. servo_answer x s) u.reversed ∙ step_taken p (signed d v) s there)

  -- The move stays under way.
  pub tick_goes_on : rates.feedrate < 2 ^ 16 → Underway z (p +ℤ s) after
  tick_goes_on f =
      let fits : w < 2 ^ 16 = omega (arith, u.speed_fits, planning_laws.at_most_feedrate_or_speed rates v left w planned) in
      let stands = step_done p (signed d v) s there (signed_small d w fits) in
      let shown = sym (ap (λ m. between_ticks (p +ℤ s) (signed m.direction m.speed)) t.travel) in
      record {
        remaining = ap (λ m. (p +ℤ s) +ℤ signed m.direction m.left) t.travel ∙ onward d p left w planned_fits ∙ u.remaining;
        reachable = there;
        speed_fits = subst (λ x. x < 2 ^ 16) (sym (ap (λ m. m.speed) t.travel)) fits;
        analog = t.analog ∙ ap (λ x. servo_ticked x s) u.analog ∙ stands ∙ shown;
        reversed = t.reversed ∙ ap (λ x. servo_ticked x s) u.reversed ∙ stands ∙ shown;
      }

-- No counts are no step, whichever way.
no_counts : (d : Direction) (n : ℕ) → n ≡ 0 → signed d n ≡ pos 0
no_counts Plus n e = omega (arith, ints)
no_counts Minus n e = omega (arith, ints)

-- Under way with so many ticks begun, each of which took a count at least.
pub record OnCourse (z : ℤ) (tick : ℕ) (b : Bench) : Type 0 where
  pub place : ℤ
  pub underway : Underway z place b
  pub in_time : b.travel.left + tick ≤ nat_abs z + 1

-- One more tick of a move on course to z, at rates that let it start.
module _ (z : ℤ) (tick : ℕ) (rates : Rates) (before after : Bench) (r : Result ℤ Refusal) (h : Reachable z) (o : OnCourse z tick before) (t : Ticked rates before after r) where
  -- No drive refuses.
  pub never_refused : (e : Refusal) → r ≡ Err e → ⊥
  never_refused e q =
      let taken = tick_taken z o.place rates before after r t h o.underway in
      let never : ◌≡◌ {A = ℕ} 0 1 = cc in
      omega arith

  abbrev p : ℤ
  p = o.place +ℤ next_step rates before.travel

  -- Where it is done, both drives stand at z.
  pub arrives : rates.feedrate < 2 ^ 16 → Done after → Standing z (analog_reading after) × Standing z (reversed_reading after) × (tick ≤ nat_abs z + 1)
  arrives f done =
      let u : Underway z p after = tick_goes_on z o.place rates before after r t h o.underway f in
      let none : signed after.travel.direction after.travel.left ≡ pos 0 = no_counts _ _ done.left in
      let at : p ≡ z = omega (arith, ints, u.remaining) in (
        record { place = ap (λ x. x.values.place) u.analog ∙ at; gap = done.analog_gap },
        record { place = ap (λ x. x.values.place) u.reversed ∙ at; gap = done.reversed_gap },
        omega (arith, o.in_time),
      )

  -- With nothing left the tick is the last.
  last_tick : rates.feedrate < 2 ^ 16 → before.travel.left ≡ 0 → Done after
  last_tick f e =
      let u : Underway z p after = tick_goes_on z o.place rates before after r t h o.underway f in
      let small = planned_fits z o.place rates before after r t h o.underway in
      let speed : after.travel.speed ≡ 0 = omega (arith, small, ap (λ m. m.speed) t.travel) in
      let none = no_counts after.travel.direction _ speed in
      record {
        left = omega (arith, ap (λ m. m.left) t.travel);
        speed = speed;
        analog_gap = ap (λ x. x.values.gap) u.analog ∙ none;
        reversed_gap = ap (λ x. x.values.gap) u.reversed ∙ none;
      }

  -- Where it is not done, it stays on course.
  pub stays_on_course : rates.feedrate < 2 ^ 16 → 1 ≤ rates.feedrate → 1 ≤ rates.acceleration → (Done after → ⊥) → OnCourse z (tick + 1) after
  stays_on_course f e a more =
      let some : before.travel.left ≡ 0 → ⊥ = λ none. more (last_tick f none) in
      let moves = planned_moves z o.place rates before after r t h o.underway e a (omega arith) in
      let small = planned_fits z o.place rates before after r t h o.underway in
      record {
        place = p;
        underway = tick_goes_on z o.place rates before after r t h o.underway f;
        in_time = omega (arith, moves, small, o.in_time, ap (λ m. m.left) t.travel);
      }
