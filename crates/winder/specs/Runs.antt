-- Where a move ends.
use Rattle.std.specs.Prelude.{◌≡◌, ◌+◌, ◌≤◌, ℤ, pos, neg_ℤ, Ok, Err, Result, unsigned_abs}
use Rattle.drive.specs.Values.{Within, reach_ceiling}
use Rattle.winder.specs.declared.reading.Reading.{Reading}
use Rattle.winder.specs.declared.run.Arrival.{Arrival}
use Rattle.winder.specs.declared.run.Stop.{Stop}
use Rattle.winder.specs.declared.run.Stop.TheVariants.{Refused, LimitReached, NotPrinted}

-- z is a place of a drive that has the largest reach
abbrev pub Reachable : ℤ → Type 0
Reachable z = Within (neg_ℤ reach_ceiling) reach_ceiling z

-- a drive stands at z and its encoder has reported every step
pub record Standing (z : ℤ) (shown : Reading) : Type 0 where
  pub place : shown.place ≡ z
  pub gap : shown.gap ≡ pos 0

-- the outcome of a move from 0 to z: both drives stand there, after a tick for each count and one more at most; or a tick could not
-- be printed
abbrev pub ArrivedAt : ℤ → Result Arrival Stop → Type 0
ArrivedAt z (Ok a) = Standing z a.analog × Standing z a.reversed × (a.ticks ≤ unsigned_abs z + 1)
ArrivedAt z (Err (Refused e)) = ⊥
ArrivedAt z (Err LimitReached) = ⊥
ArrivedAt z (Err (NotPrinted e)) = Unit {0}
