-- How the winding of the axis ends.
use Rattle.std.specs.Prelude.{◌≡◌, ℕ, Bool, true, false, Some, None, Option}
use Rattle.winder.specs.declared.axis_run.Ending.{Ending}
use Rattle.winder.specs.Orders.{is_over}
use Rattle.winder.specs.Winding.{Station, after_ticks}

abbrev pub over_after : ℕ → Bool
over_after n = is_over (after_ticks n).axis.state

-- the axis was over after so many ticks, and what is told of it is so then
pub record Told (e : Ending) (s : Station) : Type 0 where
  pub over : is_over s.axis.state ≡ true
  pub last_endpoint : e.last_endpoint ≡ s.axis.state.coordinates.last_endpoint
  pub place : e.place ≡ s.axis.drive.place
  pub note : e.note ≡ s.axis.state.note

-- told of the axis after its ticks; none where it was not over after 200
abbrev pub Ends : Option Ending → Type 0
Ends (Some e) = Told e (after_ticks e.ticks)
Ends None = over_after 200 ≡ false
