-- What is promised of every call of an axis, over any drive.
use Rattle.std.specs.Prelude.{◌≡◌}
use Rattle.drive.specs.Orders.{Order, Told, after_orders}
use Rattle.drive.specs.Values.{Values}
use Rattle.axis.specs.declared.over_drive.Axis.{Axis}
use Rattle.axis.specs.Reference.{Reference, over}
use Rattle.axis.specs.Responses.{Response}

-- an axis over a drive, with no more of the drive than it means
abbrev pub reference : {D : Type 0} → (D → Values) → Axis D → Reference
reference meaning a = over a.control.state (meaning a.drive)

-- A response took the axis from before to after: its state is the response's, and the response's orders, one after the other, take
-- its drive from what it was to what it is, with their effect on the four values.
pub record Follows {D : Type 0} (meaning : D → Values) (obeys : D → Order → D → Type 0) (before after : Axis D) (p : Response) : Type 0 where
  pub state : after.control.state ≡ p.state
  pub values : meaning after.drive ≡ after_orders p.orders (meaning before.drive)
  pub told : Told obeys before.drive p.orders after.drive
