-- A call with the opposite number, seen in the mirror, is the call itself. Two groups of lemmas: the exact negative mirrors
-- every call, and the negative that saturates does to a lawful drive what the exact one does.
use Rattle.std.proofs.Common.{◌≡◌, Bool, true, false, cond, ℤ, ◌+ℤ◌, neg_ℤ, is_ok, refl, ap, ◌∙◌, arith, w32, SFits}
use Rattle.std.specs.Int.{saturate_to_bits}
use Rattle.std.proofs.lemmas.Int.{ints}
use Rattle.drive.specs.Mirror.{mirror, Opposite}
use Rattle.drive.specs.Values.{Values, Lawful, step_answer, stepped, after_step, name_answer, after_name, after_feel}
use Rattle.drive.proofs.Places.{beyond_neg, held-neg}

-- The answer to a step is the same on both sides of the mirror.
pub mirror-step_answer : (v : Values) (s : ℤ) → step_answer v (neg_ℤ s) ≡ step_answer (mirror v) s
mirror-step_answer v s = grind (arith, ints, beyond_neg)

-- The mirror of a choice is the choice of the mirrors.
mirror-cond : (b : Bool) (x y : Values) → mirror (cond b x y) ≡ cond b (mirror x) (mirror y)
mirror-cond true x y = refl
mirror-cond false x y = refl

-- An accepted step mirrors.
mirror-stepped : (v : Values) (s : ℤ) → mirror (stepped v (neg_ℤ s)) ≡ stepped (mirror v) s
mirror-stepped v s =
    let place : neg_ℤ (v.place +ℤ neg_ℤ s) ≡ neg_ℤ v.place +ℤ s = omega (arith, ints) in
    let gap : neg_ℤ (v.gap +ℤ neg_ℤ s) ≡ neg_ℤ v.gap +ℤ s = omega (arith, ints) in
    cc (held-neg (v.gap +ℤ neg_ℤ s))

-- A step mirrors, accepted or refused.
pub mirror-after_step : (v : Values) (s : ℤ) → mirror (after_step v (neg_ℤ s)) ≡ after_step (mirror v) s
mirror-after_step v s =
    cc (mirror-cond (is_ok (step_answer v (neg_ℤ s))) (stepped v (neg_ℤ s)) v, mirror-stepped v s, mirror-step_answer v s)

-- The answer to a name is the same on both sides of the mirror.
pub mirror-name_answer : (v : Values) (p : ℤ) → name_answer v (neg_ℤ p) ≡ name_answer (mirror v) p
mirror-name_answer v p = grind (arith, ints, beyond_neg)

-- A name mirrors, accepted or refused.
pub mirror-after_name : (v : Values) (p : ℤ) → mirror (after_name v (neg_ℤ p)) ≡ after_name (mirror v) p
mirror-after_name v p = grind (arith, ints, beyond_neg)

-- An encoder's report mirrors.
pub mirror-after_feel : (v : Values) (n : ℤ) (ready : Bool) → mirror (after_feel v (neg_ℤ n) ready) ≡ after_feel (mirror v) n ready
mirror-after_feel v n ready = grind (arith, ints, held-neg)

module _ (v : Values) (z : ℤ) (lawful : Lawful v) (fits : SFits w32 z) where
  -- Saturation does not change the answer to a step: a step that large leaves every reach.
  pub step_answer-saturated : step_answer v (saturate_to_bits 31 (neg_ℤ z)) ≡ step_answer v (neg_ℤ z)
  step_answer-saturated = grind (arith, ints)

  -- Saturation does not change what a step does.
  pub after_step-saturated : after_step v (saturate_to_bits 31 (neg_ℤ z)) ≡ after_step v (neg_ℤ z)
  after_step-saturated = grind (arith, ints)

  -- Saturation does not change the answer to a name.
  pub name_answer-saturated : name_answer v (saturate_to_bits 31 (neg_ℤ z)) ≡ name_answer v (neg_ℤ z)
  name_answer-saturated = grind (arith, ints)

  -- Saturation does not change what a name does.
  pub after_name-saturated : after_name v (saturate_to_bits 31 (neg_ℤ z)) ≡ after_name v (neg_ℤ z)
  after_name-saturated = grind (arith, ints)

  -- Saturation does not change what an encoder's report does: a count that large takes every gap to its ceiling.
  pub after_feel-saturated : (ready : Bool) → after_feel v (saturate_to_bits 31 (neg_ℤ z)) ready ≡ after_feel v (neg_ℤ z) ready
  after_feel-saturated ready = grind (arith, ints)

-- The negative that saturates is opposite: it does to any lawful drive what the number does to the drive's mirror image.
pub saturated_opposite : (v : Values) (n : ℤ) → Lawful v → SFits w32 n → Opposite v n (saturate_to_bits 31 (neg_ℤ n))
saturated_opposite v n lawful fits = record {
  step_answered = step_answer-saturated v n lawful fits ∙ mirror-step_answer v n;
  stepped = ap mirror (after_step-saturated v n lawful fits) ∙ mirror-after_step v n;
  name_answered = name_answer-saturated v n lawful fits ∙ mirror-name_answer v n;
  named = ap mirror (after_name-saturated v n lawful fits) ∙ mirror-after_name v n;
  felt = λ ready. ap mirror (after_feel-saturated v n lawful fits ready) ∙ mirror-after_feel v n ready;
}
