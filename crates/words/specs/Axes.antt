-- What is had for each axis.
use Rattle.words.specs.declared.axis.AxisId.{AxisId}
use Rattle.words.specs.declared.axis.AxisId.TheVariants.{One, Two, Three}
use Rattle.words.specs.declared.by_axis.ByAxis.{ByAxis}

-- what an axis has
abbrev pub of_axis : {T : Type 0} → ByAxis T → AxisId → T
of_axis all One = all.one
of_axis all Two = all.two
of_axis all Three = all.three
