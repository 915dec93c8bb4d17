-- Facts about braking distances.
-- Assumes nothing.
use Rattle.std.proofs.Common.{◌≡◌, ℕ, zero, suc, ◌+◌, ◌-◌, ◌*◌, ◌/◌, ◌%◌, ◌<◌, ◌≤◌, max, sym, refl, ap, ◌∙◌, ⊎_elim, zero-le, le_refl, mod-eq_of_lt, mul_comm, add-mul, mul-le-mul, mul-add, arith}
use native.Mathlib.Nat.{max-eq_left, div-eq_of_lt, mod-eq-sub-mod, div-eq-sub-div, zero-mod, zero-div, mod-add-div'}
use Rattle.std.proofs.lemmas.Bool.{cases_lt}
use Rattle.motion.specs.Braking.{braking, braking_in}

-- From rest nothing is travelled, however many ticks there are.
in_rest : (n d : ℕ) → braking_in n d 0 ≡ 0
in_rest zero d = refl
in_rest (suc n) d = refl

-- More ticks than the speed has counts change nothing.
in_enough : (n m d w : ℕ) → w ≤ n → w ≤ m → braking_in n d w ≡ braking_in m d w
in_enough zero m d zero h k = sym (in_rest m d)
in_enough zero m d (suc w) h k = absurd (omega arith)
in_enough (suc n) m d zero h k = sym (in_rest m d)
in_enough (suc n) zero d (suc w) h k = absurd (omega arith)
in_enough (suc n) (suc m) d (suc w) h k =
    ap (λ x. suc w + x) (in_enough n m d (suc w - max d 1) (omega arith) (omega arith))

-- In as many ticks, a lower speed travels no further.
in_grows : (n d u w : ℕ) → u ≤ w → braking_in n d u ≤ braking_in n d w
in_grows zero d u w h = le_refl 0
in_grows (suc n) d zero w h = zero-le
in_grows (suc n) d (suc u) zero h = absurd (omega arith)
in_grows (suc n) d (suc u) (suc w) h =
    omega (arith, in_grows n d (suc u - max d 1) (suc w - max d 1) (omega arith))

-- A moving axis travels its speed, and then brakes from what the deceleration leaves of it.
pub braking_step : (d w : ℕ) → 1 ≤ d → 0 < w → braking d w ≡ w + braking d (w - d)
braking_step d zero h k = absurd (omega arith)
braking_step d (suc w) h k =
    ap (λ x. suc w + x) (in_enough w (suc w - max d 1) d (suc w - max d 1) (omega arith) (omega arith))
    ∙ ap (λ x. suc w + braking d (suc w - x)) (max-eq_left h)

-- The braking distance of a lower speed is not longer.
pub braking_grows : (d u w : ℕ) → u ≤ w → braking d u ≤ braking d w
braking_grows d u w h = omega (arith, in_enough u w d u (le_refl u) h, in_grows w d u w h)

-- A braking distance is at least the speed itself.
pub speed_le_braking : (d w : ℕ) → w ≤ braking d w
speed_le_braking d zero = zero-le
speed_le_braking d (suc w) = omega arith

-- From a speed w the speeds w, w - 1, .. are the most that braking can go through, so that twice the distance
-- is at most w * (w + 1).
in_bound : (n d w : ℕ) → 2 * braking_in n d w ≤ w * (w + 1)
in_bound zero d w = zero-le
in_bound (suc n) d zero = zero-le
in_bound (suc n) d (suc w) =
    omega (
      arith,
      in_bound n d (suc w - max d 1),
      mul-le-mul {n₁ = suc w - max d 1} {m₁ = (suc w - max d 1) + 1} {n₂ = w} {m₂ = w + 1} (omega arith) (omega arith),
      mul-add (suc w) w 2,
      add-mul w 1 w,
    )

-- The same of the braking distance.
pub braking_bound : (d w : ℕ) → 2 * braking d w ≤ w * (w + 1)
braking_bound d w = in_bound w d w

-- The closed form says that twice the sum of the speeds w, w - e, .. , w % e is their number, w / e + 1, times the sum
-- of the first and the last. Below e there is one speed.
closed_below : (w e : ℕ) → w < e → 2 * w ≡ (w + w % e) * (w / e + 1)
closed_below w e h =
    let last : w % e ≡ w = mod-eq_of_lt h in
    let ticks : w / e ≡ 0 = div-eq_of_lt h in
    rw (last, ticks) (omega arith)

-- From e on, the speeds of w are w and those of w - e, whose sum is b.
closed_above : (w e b : ℕ) → 0 < e → e ≤ w → 2 * b ≡ ((w - e) + (w - e) % e) * ((w - e) / e + 1) → 2 * (w + b) ≡ (w + w % e) * (w / e + 1)
closed_above w e b p h k =
    let last : w % e ≡ (w - e) % e = mod-eq-sub-mod h in
    let ticks : w / e ≡ (w - e) / e + 1 = div-eq-sub-div p h in
    let first : w + (w - e) % e ≡ ((w - e) + (w - e) % e) + e = omega arith in
    rw (last, ticks, first)
    (
    omega (
      arith,
      mod-add-div' (w - e) e,
      mul-add (((w - e) + (w - e) % e) + e) ((w - e) / e + 1) 1,
      add-mul ((w - e) + (w - e) % e) e ((w - e) / e + 1),
      mul-add e ((w - e) / e) 1,
      mul_comm e ((w - e) / e),
    )
    )

-- The two cases together, for any number of ticks that is enough.
in_closed : (n d w : ℕ) → w ≤ n → 2 * braking_in n d w ≡ (w + w % max d 1) * (w / max d 1 + 1)
in_closed zero d zero h = simp (zero-mod, zero-div)
in_closed zero d (suc w) h = absurd (omega arith)
in_closed (suc n) d zero h = simp (zero-mod, zero-div)
in_closed (suc n) d (suc w) h =
    ⊎_elim (λ k. stopped k (closed_below (suc w) (max d 1) k))
    (λ k. closed_above (suc w) (max d 1) (braking_in n d (suc w - max d 1)) (omega arith) k (in_closed n d (suc w - max d 1) (omega arith)))
    (cases_lt (suc w) (max d 1))
  where
    stopped : suc w < max d 1 → 2 * suc w ≡ (suc w + suc w % max d 1) * (suc w / max d 1 + 1) → 2 * (suc w + braking_in n d (suc w - max d 1)) ≡ (suc w + suc w % max d 1) * (suc w / max d 1 + 1)
    stopped k e =
        let none : suc w - max d 1 ≡ 0 = omega arith in
        omega (arith, ap (λ x. braking_in n d x) none, in_rest n d)

-- The braking distance in closed form.
pub braking_closed : (d w : ℕ) → 2 * braking d w ≡ (w + w % max d 1) * (w / max d 1 + 1)
braking_closed d w = in_closed w d w (le_refl w)

-- A speed that fits a room is below every speed that does not.
pub fitting_below : (d room m u : ℕ) → room < braking d m → braking d u ≤ room → u < m
fitting_below d room m u long fits = ⊎_elim (λ less. less) (λ more. absurd (omega (arith, braking_grows d m u more))) (cases_lt u m)
