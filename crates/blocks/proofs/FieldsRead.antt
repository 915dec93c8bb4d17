-- The fields of a record, read one after the other.
use Rattle.std.proofs.Common.{◌≡◌, ℕ, zero, suc, ◌+◌, ◌-◌, ◌<◌, ◌≤◌, List, [], ◌∷◌, ◌++◌, length, take, set, Ok, Err, sym, refl, ap, ◌∙◌, append_assoc, arith}
use Rattle.std.proofs.lemmas.List.{take_more_set, take_all, append-nil, length-set}
use Rattle.words.specs.declared.fault.Fault.{Fault}
use Rattle.blocks.specs.Fields.{fields_digits, fields_from}
use Rattle.blocks.specs.Numbers.{filled}
use Rattle.blocks.specs.Questions.{Asked, answer}
use Rattle.blocks.proofs.Questions.{passed, passed_value, stopped}
use Rattle.blocks.proofs.Starts.{left_step, none_left}

-- what is put into a list from a place on follows what stands before that place
filled_from : {X : Type 0} (xs ys : List X) (i : ℕ) → i + length ys ≡ length xs → filled xs i ys ≡ take i xs ++ ys
filled_from xs [] i h = sym (append-nil (take i xs) ∙ take_all i xs (omega arith))
filled_from xs (y ∷ ys) i h =
    let room : i < length xs = omega arith in
    filled_from (set xs i y) ys (i + 1) (omega (arith, length-set xs i y))
    ∙ ap (λ l. l ++ ys) (take_more_set xs i y room)
    ∙ append_assoc (take i xs) (y ∷ []) ys

length-fields_from : {X : Type 0} (value : ℕ → X) (words i n : ℕ) → length (fields_from value words i n) ≡ n
length-fields_from value words i zero = refl
length-fields_from value words i (suc n) = ap suc (length-fields_from value words (i + words) n)

-- Fields whose questions and values are given by the word where each starts.
module _ {X : Type 0} (digits : ℕ → List Asked) (value : ℕ → X) (words : ℕ) where
  -- before the first is read, nothing is kept of the list into which they are put
  pub all_fields : (first n : ℕ) (xs : List X) → length xs ≡ n → answer (fields_digits digits words first n) (filled xs 0 (fields_from value words first n)) ≡ answer (fields_digits digits words first n) (fields_from value words first n)
  all_fields first n xs h =
      ap (answer (fields_digits digits words first n)) (filled_from xs (fields_from value words first n) 0 (omega (arith, length-fields_from value words first n)))

  -- of those that are left the first gets a no
  pub field_no : (j n i : ℕ) (xs : List X) (e : Fault) → i < n → Err e ≡ answer (digits j) (value j) → Err e ≡ answer (fields_digits digits words j (n - i)) (filled xs i (fields_from value words j (n - i)))
  field_no j n i xs e h r =
      sym
      (ap (λ k. answer (fields_digits digits words j k) (filled xs i (fields_from value words j k))) (left_step n i h)
      ∙ stopped (digits j) (fields_digits digits words (j + words) (n - (i + 1))) (value j) (filled (set xs i (value j)) (i + 1) (fields_from value words (j + words) (n - (i + 1)))) e r)

  -- the first of them is read, and the next one starts at k
  pub field_ok :
      (j k n i : ℕ) (xs : List X) (v : X) → i < n → k ≡ j + words → Ok v ≡ answer (digits j) (value j)
      → answer (fields_digits digits words k (n - (i + 1))) (filled (set xs i v) (i + 1) (fields_from value words k (n - (i + 1)))) ≡ answer (fields_digits digits words j (n - i)) (filled xs i (fields_from value words j (n - i)))
  field_ok j k n i xs v h next r =
      let m = n - (i + 1) in
      ap (λ x. answer (fields_digits digits words x m) (filled (set xs i v) (i + 1) (fields_from value words x m))) next
      ∙ ap (λ x. answer (fields_digits digits words (j + words) m) (filled (set xs i x) (i + 1) (fields_from value words (j + words) m))) (passed_value (digits j) (value j) v r)
      ∙ sym (passed (digits j) (fields_digits digits words (j + words) m) (value j) v (filled (set xs i (value j)) (i + 1) (fields_from value words (j + words) m)) r)
      ∙ sym (ap (λ l. answer (fields_digits digits words j l) (filled xs i (fields_from value words j l))) (left_step n i h))

  -- where none is left, what was read is the answer
  pub no_fields : (j n i : ℕ) (xs : List X) → n ≤ i → Ok xs ≡ answer (fields_digits digits words j (n - i)) (filled xs i (fields_from value words j (n - i)))
  no_fields j n i xs h =
      sym (ap (λ k. answer (fields_digits digits words j k) (filled xs i (fields_from value words j k))) (none_left n i h))
