-- Where records start and end, as a loop over them goes on.
use Rattle.std.proofs.Common.{◌≡◌, ℕ, zero, suc, ◌+◌, ◌-◌, ◌*◌, ◌<◌, ◌≤◌, cond, ◌&&◌, eqb, ltb, leb, List, [], ◌∷◌, ◌++◌, Some, None, length, sym, ap, ◌∙◌, arith}
use Rattle.words.specs.declared.fault.Question.TheVariants.{Axis, Pairs}
use Rattle.blocks.specs.Questions.{Asked, ask, answer}
use Rattle.blocks.specs.declared.kinds.Kind.{Kind}
use Rattle.blocks.specs.declared.kinds.Kind.TheVariants.{Parameters, Commands, Presets}
use Rattle.blocks.specs.Directory.{record_length, record_count, records_start, block_end, word_at, starts_from, end_from, axes_from, start_of, pairs_from}

-- no record is longer than those of parameters
pub record_length_le : (k : Kind) → record_length k ≤ 17
record_length_le Parameters = omega arith
record_length_le Commands = omega arith
record_length_le Presets = omega arith

pub record_length_pos : (k : Kind) → 0 < record_length k
record_length_pos Parameters = omega arith
record_length_pos Commands = omega arith
record_length_pos Presets = omega arith

-- one more turn leaves one fewer
pub left_step : (n i : ℕ) → i < n → n - i ≡ suc (n - (i + 1))
left_step n i h = omega arith

pub none_left : (n i : ℕ) → n ≤ i → n - i ≡ 0
none_left n i h = omega arith

-- records end where the number of their words says
pub end_is : (len at n : ℕ) → end_from len at n ≡ at + n * len
end_is len at zero = omega arith
end_is len at (suc n) = let h = end_is len (at + len) n in omega arith

-- each of n records ends within them all
pub within : (len at n i : ℕ) → i < n → at + i * len + len ≤ at + n * len
within len at n i h = grind arith

-- a block of n records ends there
pub block_end_is : (len : ℕ) (ws : List ℕ) (n : ℕ) → n ≡ record_count ws → block_end len ws ≡ records_start n + n * len
block_end_is len ws n e = ap (λ m. end_from len (records_start m) m) (sym e) ∙ end_is len (records_start n) n

-- each of them lies inside a block that ends with its last record
pub inside_block : (len : ℕ) (ws : List ℕ) (n i : ℕ) → n ≡ record_count ws → length ws ≡ block_end len ws → i < n → records_start n + i * len + len ≤ length ws
inside_block len ws n i e f h = omega (arith, within len (records_start n) n i h, block_end_is len ws n e)

-- the first of the records that are left starts behind those before it
pub starts_step : (len at n i : ℕ) → i < n → starts_from len (at + i * len) (n - i) ≡ (at + i * len) ∷ starts_from len (at + (i + 1) * len) (n - (i + 1))
starts_step len at n i h =
    let next : at + i * len + len ≡ at + (i + 1) * len = omega arith in
    ap (starts_from len (at + i * len)) (left_step n i h) ∙ ap (λ j. (at + i * len) ∷ starts_from len j (n - (i + 1))) next

-- no record is left
pub no_starts : (len at n i : ℕ) → n ≤ i → starts_from len at (n - i) ≡ []
no_starts len at n i h = ap (starts_from len at) (none_left n i h)

-- the axis words of the records that are left: the first of them is asked
pub axes_step :
    (ws : List ℕ) (above len at n i : ℕ) → i < n
    → answer (axes_from ws above (starts_from len (at + i * len) (n - i))) (tt {0}) ≡ answer (ask Axis None (at + i * len) (ltb above (word_at ws (at + i * len)) && leb (word_at ws (at + i * len)) 3) ∷ axes_from ws (word_at ws (at + i * len)) (starts_from len (at + (i + 1) * len) (n - (i + 1)))) (tt {0})
axes_step ws above len at n i h = ap (λ l. answer (axes_from ws above l) (tt {0})) (starts_step len at n i h)

-- the first of the records that are left is looked at
pub start_of_step :
    (ws : List ℕ) (number len at n i : ℕ) → i < n
    → start_of ws number (starts_from len (at + i * len) (n - i)) ≡ cond (eqb (word_at ws (at + i * len)) number) (Some (at + i * len)) (start_of ws number (starts_from len (at + (i + 1) * len) (n - (i + 1))))
start_of_step ws number len at n i h = ap (start_of ws number) (starts_step len at n i h)

-- the pairs of the records that are left: the first pair is asked
pub pairs_step :
    (ws : List ℕ) (e : Asked) (len at n i : ℕ) → i < n
    → answer (pairs_from len ws i (starts_from len (at + i * len) (n - i)) ++ e ∷ []) (tt {0}) ≡ answer (ask Pairs None (2 + 2 * i) (eqb (word_at ws (2 + 2 * i)) (at + i * len)) ∷ ask Pairs None (2 + 2 * i + 1) (eqb (word_at ws (2 + 2 * i + 1)) len) ∷ (pairs_from len ws (i + 1) (starts_from len (at + (i + 1) * len) (n - (i + 1))) ++ e ∷ [])) (tt {0})
pairs_step ws e len at n i h = ap (λ l. answer (pairs_from len ws i l ++ e ∷ []) (tt {0})) (starts_step len at n i h)

-- no pair is left, and the end is asked
pub pairs_end : (ws : List ℕ) (e : Asked) (len at n i : ℕ) → n ≤ i → answer (pairs_from len ws i (starts_from len at (n - i)) ++ e ∷ []) (tt {0}) ≡ answer (e ∷ []) (tt {0})
pairs_end ws e len at n i h = ap (λ l. answer (pairs_from len ws i l ++ e ∷ []) (tt {0})) (no_starts len at n i h)
