-- The number by which a refusal of a drive is known outside.
use Rattle.std.specs.Prelude.{ℕ}
use Rattle.drive.specs.declared.refusal.Refusal.{Refusal}
use Rattle.drive.specs.declared.refusal.Refusal.TheVariants.{Asleep, Beyond}

abbrev pub refusal_number : Refusal → ℕ
refusal_number Asleep = 1
refusal_number Beyond = 2
