-- What braking distances and planned speeds keep to, whatever the numbers are.
use Rattle.std.specs.Prelude.{◌≡◌, ℕ, ◌+◌, ◌-◌, ◌*◌, ◌<◌, ◌≤◌, max}
use Rattle.motion.specs.declared.rates.Rates.{Rates}
use Rattle.motion.specs.Braking.{braking}
use Rattle.motion.specs.Planning.{Planned, PlannedFrom, planned_speed}

pub record PlanningLaws : Type 0 where
  -- An axis at rest has no distance to brake.
  pub rest : (d : ℕ) → braking d 0 ≡ 0
  -- A moving axis travels its speed in this tick, and then brakes from what the deceleration leaves of it.
  pub recursion : (d w : ℕ) → 1 ≤ d → 0 < w → braking d w ≡ w + braking d (w - d)
  -- The braking distance of a lower speed is not longer.
  pub grows : (d u w : ℕ) → u ≤ w → braking d u ≤ braking d w
  -- A braking distance is at least the speed itself.
  pub at_least_the_speed : (d w : ℕ) → w ≤ braking d w
  -- Taking 1 off in each tick brakes slowest, over w, w - 1, .. , 1: so twice the distance is at most w × (w + 1),
  -- and that of a speed of 16 bits has at most 31.
  pub bounded : (d w : ℕ) → 2 * braking d w ≤ w * (w + 1)
  -- If the braking distance of v fits the room, then that of v - d fits what is left of the room once v was stepped.
  pub slowing_fits : (d v room : ℕ) → 1 ≤ d → braking d v ≤ room → braking d (v - d) ≤ room - v
  -- There is always a planned speed, and counting down finds it.
  pub exists : (rates : Rates) (v room : ℕ) → PlannedFrom rates v room (planned_speed rates v room)
  -- There is only one.
  pub unique : (top d room u w : ℕ) → Planned top d room u → Planned top d room w → u ≡ w
  -- Where the speed less the deceleration fits the room, planning takes off no more than the deceleration.
  pub lowers_by_at_most_deceleration : (rates : Rates) (v room w : ℕ) → braking rates.deceleration (v - rates.deceleration) ≤ room → PlannedFrom rates v room w → v ≤ w + rates.deceleration
  -- Planning adds no more than the acceleration.
  pub raises_by_at_most_acceleration : (rates : Rates) (v room w : ℕ) → PlannedFrom rates v room w → w ≤ v + rates.acceleration
  -- A planned speed is at most the feedrate or the speed before it, so that it fits wherever these two do.
  pub at_most_feedrate_or_speed : (rates : Rates) (v room w : ℕ) → PlannedFrom rates v room w → w ≤ max v rates.feedrate
  -- A planned speed never steps past the room.
  pub at_most_the_room : (top d room w : ℕ) → Planned top d room w → w ≤ room
  -- A planned speed that uses up the room exactly is at most the deceleration: the next tick can be at rest.
  pub using_up : (top d room w : ℕ) → 1 ≤ d → Planned top d room w → w ≡ room → w ≤ d
  -- With an acceleration, a feedrate and room of at least 1 the planned speed is not 0.
  pub moves : (rates : Rates) (v room w : ℕ) → 1 ≤ rates.acceleration → 1 ≤ rates.feedrate → 1 ≤ room → PlannedFrom rates v room w → 1 ≤ w
