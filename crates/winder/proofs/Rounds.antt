-- The axis after one tick more.
use Rattle.std.proofs.Common.{◌≡◌, ℕ, ◌+◌, ◌<◌, ◌≤◌, false, sym, refl, ap, ◌∙◌, subst, add-one, arith}
use Rattle.winder.specs.declared.axis_run.Ending.{Ending}
use Rattle.winder.specs.Endings.{over_after, Told}
use Rattle.winder.specs.Orders.{is_over}
use Rattle.winder.specs.Winding.{Station, new_station, ordered, ticked, after_ticks}

pub start_of_run : new_station ≡ after_ticks 0
unfolding after_ticks
start_of_run = refl

-- Without parameters nothing is over.
pub start_not_over : over_after 0 ≡ false
unfolding after_ticks
start_not_over = refl

next_of_run : (n : ℕ) → ticked (n + 1) (ordered (after_ticks n)) ≡ after_ticks (n + 1)
unfolding after_ticks
next_of_run n =
    subst (λ m. ticked (n + 1) (ordered (after_ticks n)) ≡ after_ticks m) (sym (add-one n)) refl

-- Before a tick: the axis stands as it does after the ticks before, and was not over.
pub record Before (tick : ℕ) (s : Station) : Type 0 where
  pub done : ℕ
  pub next : tick ≡ done + 1
  pub reached : s ≡ after_ticks done
  pub goes_on : over_after done ≡ false

-- Nothing is done before the first tick.
pub first_tick : (s : Station) → s ≡ new_station → Before 1 s
first_tick s e = record { done = 0; next = refl; reached = e ∙ start_of_run; goes_on = start_not_over }

-- An order and the tick lead to the axis after that tick.
pub ticked_once : (tick : ℕ) (s t u : Station) → Before tick s → t ≡ ordered s → u ≡ ticked tick t → u ≡ after_ticks tick
ticked_once tick s t u b e h =
    h ∙ ap (λ n. ticked n t) b.next ∙ ap (λ x. ticked (b.done + 1) x) (e ∙ ap ordered b.reached) ∙ next_of_run b.done ∙ ap after_ticks (sym b.next)

-- Where that is not over, the next tick has come.
pub next_tick : (tick : ℕ) (s : Station) → s ≡ after_ticks tick → is_over s.axis.state ≡ false → Before (tick + 1) s
next_tick tick s e h =
    record { done = tick; next = refl; reached = e; goes_on = subst (λ x. is_over x.axis.state ≡ false) e h }

-- Behind the last tick the axis was not over after any.
pub over_at_none : (limit tick : ℕ) (s : Station) → Before tick s → limit < tick → tick ≤ limit + 1 → over_after limit ≡ false
over_at_none limit tick s b above upto =
    let last : b.done ≡ limit = omega (arith, b.next) in
    subst (λ n. over_after n ≡ false) last b.goes_on

-- What is told of an axis is told of an equal one.
pub told_of : (x : Ending) (s t : Station) → s ≡ t → Told x s → Told x t
told_of x s t e h = subst (λ y. Told x y) e h
