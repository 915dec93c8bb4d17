-- The output of the analog drive, and what it keeps for that beside the four values.
use Rattle.std.specs.Prelude.{ℕ, suc, ◌/◌, Bool, cond, ℤ, pos, negsuc, ◌+ℤ◌, ◌*ℤ◌, neg_ℤ, is_ok}
use Rattle.drive.specs.Values.{Values, nearest, step_answer, name_answer}

pub record OutputState : Type 0 where
  -- the counts of the latest accepted step; 0 before the first, and from sleep, wake or a name until the next
  pub latest : ℤ
  -- the gain of the gap, in thousandths
  pub k1 : ℤ
  -- the gain of the latest step, in thousandths
  pub k2 : ℤ

-- the largest gain; the least is 0
abbrev pub gain_ceiling : ℤ
gain_ceiling = pos 9999

-- the allowed gain that is nearest to k
abbrev pub allowed_gain : ℤ → ℤ
allowed_gain k = nearest (pos 0) gain_ceiling k

-- no step yet, and gains made to fit
abbrev pub new_output : ℤ → ℤ → OutputState
new_output a b = record { latest = pos 0; k1 = allowed_gain a; k2 = allowed_gain b }

abbrev pub with_latest : OutputState → ℤ → OutputState
with_latest o s = record { latest = s; k1 = o.k1; k2 = o.k2 }

-- what wake and sleep leave
abbrev pub latest_cleared : OutputState → OutputState
latest_cleared o = with_latest o (pos 0)

-- After a call at which the drive has the values v: a refused step or name leaves the latest step as it was.
abbrev pub output_after_step : Values → OutputState → ℤ → OutputState
output_after_step v o s = cond (is_ok (step_answer v s)) (with_latest o s) o

abbrev pub output_after_name : Values → OutputState → ℤ → OutputState
output_after_name v o p = cond (is_ok (name_answer v p)) (latest_cleared o) o

abbrev pub output_after_feel : OutputState → Bool → OutputState
output_after_feel o ready = cond ready o (latest_cleared o)

-- Division toward zero: the sizes are divided with the remainder dropped, and the sign is kept.
abbrev pub toward_zero : ℤ → ℕ → ℤ
toward_zero (pos n) d = pos (n / d)
toward_zero (negsuc n) d = neg_ℤ (pos (suc n / d))

-- the largest size of the output
abbrev pub output_ceiling : ℤ
output_ceiling = pos 32000

-- the output at a gap; a drive asleep has one too
abbrev pub output_value : OutputState → ℤ → ℤ
output_value o gap = nearest (neg_ℤ output_ceiling) output_ceiling (toward_zero ((o.k1 *ℤ gap) +ℤ (o.k2 *ℤ o.latest)) 1000)
