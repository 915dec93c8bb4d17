-- The laws of planning.
-- Assumes nothing.
use Rattle.std.proofs.Common.{◌≡◌, ℕ, zero, suc, ◌-◌, ◌<◌, ◌≤◌, Bool, true, false, leb, refl, ap, ⊎_elim, zero-le, le_refl, le_antisymm, eq-or-lt_of_le, arith}
use Rattle.std.proofs.lemmas.Bool.{leb-true, leb-false}
use Rattle.motion.specs.Braking.{braking}
use Rattle.motion.specs.Planning.{Planned, speed_cap, fastest_fitting}
use Rattle.motion.specs.Laws.{PlanningLaws}
use Rattle.motion.proofs.Distances.{braking_step, braking_grows, speed_le_braking, braking_bound}

-- The rule picks one speed and no other.
pub planned_unique : (top d room u w : ℕ) → Planned top d room u → Planned top d room w → u ≡ w
planned_unique top d room u w p q = le_antisymm (q.greatest u p.capped p.fits) (p.greatest w q.capped q.fits)

-- A planned speed never steps past the room.
pub planned_le_room : (top d room w : ℕ) → Planned top d room w → w ≤ room
planned_le_room top d room w p = omega (arith, speed_le_braking d w)

-- A speed whose braking distance is too long is not the planned one, so that the next lower top speed plans the same.
planned_below : (w d room v : ℕ) → room < braking d (suc w) → Planned w d room v → Planned (suc w) d room v
planned_below w d room v long p =
    record {
      capped = omega arith;
      fits = p.fits;
      greatest = λ u h k.
          ⊎_elim (λ same. absurd (omega (arith, ap (λ x. braking d x) same))) (λ less. p.greatest u (omega arith) k) (eq-or-lt_of_le h);
    }

-- Counting down from the top speed finds the speed that the rule picks.
pub fastest_planned : (top d room : ℕ) → Planned top d room (fastest_fitting top d room)
fastest_planned zero d room = record { capped = le_refl 0; fits = zero-le; greatest = λ u h k. h }
fastest_planned (suc w) d room = go (leb (braking d (suc w)) room) refl (fastest_planned w d room)
  where
    go : (b : Bool) → leb (braking d (suc w)) room ≡ b → Planned w d room (fastest_fitting w d room) → Planned (suc w) d room (elim b [ true ↦ suc w | false ↦ fastest_fitting w d room ])
    go true e p = record { capped = le_refl (suc w); fits = leb-true (braking d (suc w)) room e; greatest = λ u h k. h }
    go false e p = planned_below w d room (fastest_fitting w d room) (leb-false (braking d (suc w)) room e) p

-- If the braking distance of v fits the room, then that of v - d fits what is left of the room once v was stepped.
pub slowing_fits : (d v room : ℕ) → 1 ≤ d → braking d v ≤ room → braking d (v - d) ≤ room - v
slowing_fits d zero room h k = omega (arith, braking_grows d (0 - d) 0 (omega arith))
slowing_fits d (suc v) room h k = omega (arith, braking_step d (suc v) h (omega arith))

-- A speed whose step uses up the room, and whose braking distance fits it, is at most the deceleration.
pub using_up : (d w : ℕ) → 1 ≤ d → braking d w ≤ w → w ≤ d
using_up d w h k = omega (arith, slowing_fits d w w h k, speed_le_braking d (w - d))

-- All laws, as the contract of `Rates::slowed` names them.
pub planning_laws : PlanningLaws
planning_laws =
    record {
      rest = λ d. refl;
      recursion = braking_step;
      grows = braking_grows;
      at_least_the_speed = speed_le_braking;
      bounded = braking_bound;
      slowing_fits = slowing_fits;
      exists = λ rates v room. fastest_planned (speed_cap rates v) rates.deceleration room;
      unique = planned_unique;
      lowers_by_at_most_deceleration = λ rates v room w h p. omega (arith, p.greatest (v - rates.deceleration) (omega arith) h);
      raises_by_at_most_acceleration = λ rates v room w p. omega arith;
      at_most_feedrate_or_speed = λ rates v room w p. omega arith;
      at_most_the_room = planned_le_room;
      using_up = λ top d room w h p e. using_up d w h (omega arith);
      moves = λ rates v room w a f r p. p.greatest 1 (omega arith) (omega arith);
    }
