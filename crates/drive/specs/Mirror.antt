-- What a drive means that is mounted the other way round.
use Rattle.std.specs.Prelude.{◌≡◌, Bool, ℤ, neg_ℤ}
use Rattle.std.specs.Int.{saturate_to_bits}
use Rattle.drive.specs.Orders.{Order, Step, Feel, Name, Wake, Sleep}
use Rattle.drive.specs.Values.{Values, step_answer, after_step, name_answer, after_name, after_feel}
use Rattle.drive.specs.declared.reversed.Reversed.{Reversed}

abbrev pub mirror : Values → Values
mirror v = record { place = neg_ℤ v.place; gap = neg_ℤ v.gap; awake = v.awake; reach = v.reach }

-- A drive at v that is told r does what its mirror image does when it is told n.
pub record Opposite (v : Values) (n r : ℤ) : Type 0 where
  pub step_answered : step_answer v r ≡ step_answer (mirror v) n
  pub stepped : mirror (after_step v r) ≡ after_step (mirror v) n
  pub name_answered : name_answer v r ≡ name_answer (mirror v) n
  pub named : mirror (after_name v r) ≡ after_name (mirror v) n
  pub felt : (ready : Bool) → mirror (after_feel v r ready) ≡ after_feel (mirror v) n ready

-- The negative, in 32 bits: that of the least number does not fit, and becomes the greatest. Both are beyond every reach and
-- take every gap to its ceiling.
abbrev pub opposite_number : ℤ → ℤ
opposite_number z = saturate_to_bits 31 (neg_ℤ z)

-- what the drive below a mount is told in place of an order
abbrev pub mirrored : Order → Order
mirrored (Step s) = Step (opposite_number s)
mirrored (Feel n ready) = Feel (opposite_number n) ready
mirrored (Name p) = Name (opposite_number p)
mirrored Wake = Wake
mirrored Sleep = Sleep

-- a mount obeys an order when the drive below obeys the mirrored one, and keeps nothing of its own
abbrev pub ReversedObeys : {D : Type 0} → (D → Order → D → Type 0) → Reversed D → Order → Reversed D → Type 0
ReversedObeys obeys m o n = obeys m.drive (mirrored o) n.drive

-- the meaning of a mount over a drive whose own meaning is given
abbrev pub reversed_values : {D : Type 0} → (D → Values) → Reversed D → Values
reversed_values meaning m = mirror (meaning m.drive)
