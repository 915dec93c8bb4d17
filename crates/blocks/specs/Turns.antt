-- A step at each axis, axis 1 first.
use Rattle.std.specs.Prelude.{◌≡◌, Result, Ok, Err}
use Rattle.words.specs.declared.axis.AxisId.{AxisId}
use Rattle.words.specs.declared.axis.AxisId.TheVariants.{One, Two, Three}
use Rattle.words.specs.declared.by_axis.ByAxis.{ByAxis}

-- what becomes of an answer: an error is the end, and with a value the rest follows
abbrev pub Next : {A B E : Type 0} → Result A E → (A → Result B E → Type 0) → Result B E → Type 0
Next (Err e) Rest answer = answer ≡ Err e
Next (Ok x) Rest answer = Rest x answer

-- `answer` is what comes of a step at each axis, axis 1 first, of which `P` says what it may answer: the first error, or all three
-- values
abbrev pub InTurn : {T U E : Type 0} → (AxisId → T → Result U E → Type 0) → ByAxis T → Result (ByAxis U) E → Type 0
InTurn {T} {U} {E} P given answer =
    (a : Result U E) × P One given.one a × Next a (λ one r.
    (b : Result U E) × P Two given.two b × Next b (λ two s.
    (c : Result U E) × P Three given.three c × Next c (λ three t. t ≡ Ok (record { one = one; two = two; three = three })) s) r) answer
