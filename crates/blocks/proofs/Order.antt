-- Axes rise in a block, so its records in their order are those of axes 1, 2 and 3.
use Rattle.std.proofs.Common.{◌≡◌, ℕ, ◌<◌, ◌≤◌, false, cond, ◌&&◌, eqb, ltb, leb, ◌⊎◌, List, [], ◌∷◌, ◌++◌, Some, None, Ok, Option, sym, refl, ap, ◌∙◌, subst, inl, inr, append-nil, arith}
use Rattle.std.proofs.lemmas.Bool.{ne_eqb, and_parts, ltb-true, leb-true}
use Rattle.std.specs.List.{flat_map}
use Rattle.words.specs.declared.axis.AxisId.{AxisId}
use Rattle.words.specs.declared.axis.AxisId.TheVariants.{One, Two, Three}
use Rattle.words.specs.declared.fault.Question.TheVariants.{Axis}
use Rattle.blocks.specs.declared.kinds.Kind.{Kind}
use Rattle.words.specs.declared.by_axis.ByAxis.{ByAxis}
use Rattle.blocks.specs.Directory.{word_at, record_length, axes_from, axis_of, start_of, starts, starts_by_axis, count_questions, pair_questions, axis_questions, start_questions, directory_questions}
use Rattle.blocks.specs.Questions.{Asked, ask, refusal, answer}
use Rattle.blocks.specs.Records.{in_turn, at_start, by_axis}
use Rattle.blocks.proofs.Questions.{ok_through, passed_value, passed_tail}

-- no axis up to the one before is found in the records that are left
absent : {X : Type 0} (ws : List ℕ) (above n : ℕ) (sts : List ℕ) (a v : X) → Ok v ≡ answer (axes_from ws above sts) a → n ≤ above → start_of ws n sts ≡ None
absent ws above n [] a v e h = refl
absent ws above n (at ∷ more) a v e h =
    let t = ok_through v (refusal (ask Axis None at (ltb above (word_at ws at) && leb (word_at ws at) 3))) (answer (axes_from ws (word_at ws at) more) a) (ltb above (word_at ws at) && leb (word_at ws at) 3) e in
    let b = and_parts (ltb above (word_at ws at)) (leb (word_at ws at) 3) t.0 in
    let up : above < word_at ws at = ltb-true above (word_at ws at) b.0 in
    let other : eqb (word_at ws at) n ≡ false = ne_eqb (word_at ws at) n (λ w. omega arith) in
    let rest = absent ws (word_at ws at) n more a v t.1 (omega arith) in
    ap (λ y. cond y (Some at) (start_of ws n more)) other ∙ rest

-- the three cases of an axis word that is above 0 and at most 3
three_cases : (w above : ℕ) → above < w → w ≤ 3 → (w ≡ 1) ⊎ ((w ≡ 2) ⊎ (w ≡ 3))
three_cases w above up most = grind arith

-- the questions of the records from here on, in their order
abbrev listed : (Option AxisId → ℕ → List Asked) → List ℕ → List ℕ → List Asked
listed f ws sts = flat_map (λ at. f (axis_of (word_at ws at)) at) sts

-- and by their axes
abbrev spread : (Option AxisId → ℕ → List Asked) → Option ℕ → Option ℕ → Option ℕ → List Asked
spread f o1 o2 o3 = at_start (f (Some One)) o1 ++ (at_start (f (Some Two)) o2 ++ at_start (f (Some Three)) o3)

-- one record more, whose axis is above those of the records before it
placed :
    (f : Option AxisId → ℕ → List Asked) (at : ℕ) (more : List Asked) (o1 o2 o3 : Option ℕ) (w : ℕ)
    → more ≡ spread f o1 o2 o3 → (1 ≤ w → o1 ≡ None) → (2 ≤ w → o2 ≡ None) → (3 ≤ w → o3 ≡ None)
    → (w ≡ 1) ⊎ ((w ≡ 2) ⊎ (w ≡ 3))
    → f (axis_of w) at ++ more ≡ spread f (cond (eqb w 1) (Some at) o1) (cond (eqb w 2) (Some at) o2) (cond (eqb w 3) (Some at) o3)
placed f at more o1 o2 o3 w e h1 h2 h3 (inl q) =
    let P : ℕ → Type 0 = λ n. f (axis_of n) at ++ more ≡ spread f (cond (eqb n 1) (Some at) o1) (cond (eqb n 2) (Some at) o2) (cond (eqb n 3) (Some at) o3) in
    let n1 = h1 (omega arith) in
    subst P (sym q) (ap (λ l. f (Some One) at ++ l) (e ∙ ap (λ o. spread f o o2 o3) n1))
placed f at more o1 o2 o3 w e h1 h2 h3 (inr (inl q)) =
    let P : ℕ → Type 0 = λ n. f (axis_of n) at ++ more ≡ spread f (cond (eqb n 1) (Some at) o1) (cond (eqb n 2) (Some at) o2) (cond (eqb n 3) (Some at) o3) in
    let n1 = h1 (omega arith) in
    let n2 = h2 (omega arith) in
    subst P (sym q)
    (ap (λ l. f (Some Two) at ++ l) (e ∙ ap (λ o. spread f o o2 o3) n1 ∙ ap (λ o. spread f None o o3) n2)
    ∙ ap (λ o. spread f o (Some at) o3) (sym n1))
placed f at more o1 o2 o3 w e h1 h2 h3 (inr (inr q)) =
    let P : ℕ → Type 0 = λ n. f (axis_of n) at ++ more ≡ spread f (cond (eqb n 1) (Some at) o1) (cond (eqb n 2) (Some at) o2) (cond (eqb n 3) (Some at) o3) in
    let n1 = h1 (omega arith) in
    let n2 = h2 (omega arith) in
    let n3 = h3 (omega arith) in
    subst P (sym q)
    (ap (λ l. f (Some Three) at ++ l) (e ∙ ap (λ o. spread f o o2 o3) n1 ∙ ap (λ o. spread f None o o3) n2 ∙ ap (λ o. spread f None None o) n3)
    ∙ append-nil (f (Some Three) at)
    ∙ ap (λ o. spread f o None (Some at)) (sym n1)
    ∙ ap (λ o. spread f o1 o (Some at)) (sym n2))

-- where the axis words rise, the order of the records is that of the axes
same_order : {X : Type 0} (f : Option AxisId → ℕ → List Asked) (ws : List ℕ) (above : ℕ) (sts : List ℕ) (a v : X) → Ok v ≡ answer (axes_from ws above sts) a → listed f ws sts ≡ spread f (start_of ws 1 sts) (start_of ws 2 sts) (start_of ws 3 sts)
same_order f ws above [] a v e = refl
same_order f ws above (at ∷ more) a v e =
    let w = word_at ws at in
    let t = ok_through v (refusal (ask Axis None at (ltb above w && leb w 3))) (answer (axes_from ws w more) a) (ltb above w && leb w 3) e in
    let b = and_parts (ltb above w) (leb w 3) t.0 in
    placed f at (listed f ws more) (start_of ws 1 more) (start_of ws 2 more) (start_of ws 3 more) w
    (same_order f ws w more a v t.1)
    (absent ws w 1 more a v t.1) (absent ws w 2 more a v t.1) (absent ws w 3 more a v t.1)
    (three_cases w above (ltb-true above w b.0) (leb-true w 3 b.1))

-- in a block whose directory is right, the questions of its records in turn are those of the axes
pub turn_by_axis : (k : Kind) (ws : List ℕ) (f : Option AxisId → ℕ → List Asked) (s : ByAxis (Option ℕ)) → Ok s ≡ answer (directory_questions k ws) (starts_by_axis (record_length k) ws) → in_turn (record_length k) ws f ≡ by_axis f s
turn_by_axis k ws f s e =
    let len = record_length k in
    let same = passed_value (directory_questions k ws) (starts_by_axis len ws) s e in
    let starts_right = passed_tail (count_questions k ws) (start_questions len ws) (starts_by_axis len ws) s e in
    let axes_right = passed_tail (pair_questions len ws) (axis_questions len ws) (starts_by_axis len ws) s starts_right in
    same_order f ws 0 (starts len ws) (starts_by_axis len ws) s axes_right ∙ ap (by_axis f) (sym same)
