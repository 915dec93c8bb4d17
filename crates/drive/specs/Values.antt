-- What a drive means: four values, and what each call makes of them. The four values with these functions are the plainest drive
-- of all. Numbers are in counts, the unit of steps and of encoders.
use Rattle.std.specs.Prelude.{◌≡◌, Bool, true, false, cond, ◌&&◌, ◌||◌, ℤ, pos, ◌+ℤ◌, ◌-ℤ◌, neg_ℤ, ◌≤ℤ◌, is_ok, Ok, Err, Result, int_lt}
use Rattle.std.specs.Int.{int_min, int_max}
use Rattle.drive.specs.declared.refusal.Refusal.{Refusal}
use Rattle.drive.specs.declared.refusal.Refusal.TheVariants.{Asleep, Beyond}

pub record Values : Type 0 where
  -- where the drive was sent, as steps and names add up
  pub place : ℤ
  -- counts stepped that the encoder has yet to report; negative when it reported more
  pub gap : ℤ
  -- a drive that is not awake is asleep, and takes no step
  pub awake : Bool
  -- the largest size of a place; no call changes it
  pub reach : ℤ

-- the largest reach that a drive may have
abbrev pub reach_ceiling : ℤ
reach_ceiling = pos 19999999

-- the largest size of a gap
abbrev pub gap_ceiling : ℤ
gap_ceiling = pos 1000000

-- z is one of the numbers from low to high
abbrev pub Within : ℤ → ℤ → ℤ → Type 0
Within low high z = (low ≤ℤ z) × (z ≤ℤ high)

-- the number from low to high that is nearest to z
abbrev pub nearest : ℤ → ℤ → ℤ → ℤ
nearest low high z = int_max low (int_min z high)

-- a gap that would grow past its ceiling stays at it
abbrev pub held : ℤ → ℤ
held z = nearest (neg_ℤ gap_ceiling) gap_ceiling z

-- p is farther from 0 than the reach, on either side
abbrev pub is_beyond : ℤ → ℤ → Bool
is_beyond reach p = int_lt p (neg_ℤ reach) || int_lt reach p

-- what holds of every drive at every time
pub record Lawful (v : Values) : Type 0 where
  pub place_within : Within (neg_ℤ v.reach) v.reach v.place
  pub reach_within : Within (pos 0) reach_ceiling v.reach
  pub gap_within : Within (neg_ℤ gap_ceiling) gap_ceiling v.gap

-- a drive with that reach, before any call
abbrev pub new_drive : ℤ → Values
new_drive r = record { place = pos 0; gap = pos 0; awake = false; reach = r }

-- A step of s counts: a drive asleep refuses every step, one awake those that would leave the reach.
abbrev pub step_answer : Values → ℤ → Result (Unit {0}) Refusal
step_answer v s = cond v.awake (cond (is_beyond v.reach (v.place +ℤ s)) (Err Beyond) (Ok tt)) (Err Asleep)

abbrev pub stepped : Values → ℤ → Values
stepped v s = record { place = v.place +ℤ s; gap = held (v.gap +ℤ s); awake = v.awake; reach = v.reach }

abbrev pub after_step : Values → ℤ → Values
after_step v s = cond (is_ok (step_answer v s)) (stepped v s) v

-- The encoder reports n counts; not ready also puts the drive to sleep.
abbrev pub after_feel : Values → ℤ → Bool → Values
after_feel v n ready = record { place = v.place; gap = held (v.gap -ℤ n); awake = ready && v.awake; reach = v.reach }

-- The place is renamed p without motion, awake or asleep, unless p is beyond the reach.
abbrev pub name_answer : Values → ℤ → Result (Unit {0}) Refusal
name_answer v p = cond (is_beyond v.reach p) (Err Beyond) (Ok tt)

abbrev pub named : Values → ℤ → Values
named v p = record { place = p; gap = v.gap; awake = v.awake; reach = v.reach }

abbrev pub after_name : Values → ℤ → Values
after_name v p = cond (is_ok (name_answer v p)) (named v p) v

-- Waking clears the gap.
abbrev pub after_wake : Values → Values
after_wake v = record { place = v.place; gap = pos 0; awake = true; reach = v.reach }

abbrev pub with_awake : Values → Bool → Values
with_awake v b = record { place = v.place; gap = v.gap; awake = b; reach = v.reach }

abbrev pub after_sleep : Values → Values
after_sleep v = with_awake v false

-- r answers whether a drive may stand at z: it is z itself, within the reach, or the refusal of what is beyond
abbrev pub Reached : ℤ → ℤ → Result ℤ Refusal → Type 0
Reached reach z (Ok p) = (p ≡ z) × (is_beyond reach z ≡ false) × Within (neg_ℤ reach) reach p
Reached reach z (Err e) = (e ≡ Beyond) × (is_beyond reach z ≡ true)
