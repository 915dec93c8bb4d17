-- Positions written and read.
use Rattle.std.proofs.Common.{◌≡◌, ℕ, zero, suc, ◌+◌, ◌*◌, ◌/◌, ◌%◌, ◌^◌, ◌<◌, ◌≤◌, Bool, true, false, cond, ◌⊎◌, ℤ, pos, negsuc, neg_ℤ, nat_abs, Ok, sym, refl, ap, ◌∙◌, inl, inr, arith}
use Rattle.std.proofs.lemmas.Int.{ints}
use Rattle.std.proofs.lemmas.Bool.Decides.{nat_tests}
use Rattle.words.specs.declared.word.Bit.TheVariants.{B17}
use Rattle.words.specs.Words.{on, digit, four_decimal, four_digits, position_start, position_size, position_value}
use Rattle.words.specs.declared.axis.AxisId.{AxisId}
use Rattle.words.specs.Readings.{position_reading}
use Rattle.words.specs.Written.{packed, sign_bit, Reads, Written}
use Rattle.words.proofs.Packing.{hex, hex_0, hex_1, hex_2, hex_3, hex_places, packed_is, places, bit_14, bit_15, bit_16, bit_17}

-- what a good first word is made of
record Start (a : ℕ) : Type 0 where
  b16 : a / 2 ^ 14 % 2 ≡ 0
  b15 : a / 2 ^ 13 % 2 ≡ 0
  d2 : digit 2 a ≤ 9
  d1 : digit 1 a ≤ 9
  d0 : digit 0 a ≤ 9

start_facts : (a : ℕ) → position_start a ≡ true → Start a
start_facts a h = record {
  b16 = grind (arith, nat_tests);
  b15 = grind (arith, nat_tests);
  d2 = grind (arith, nat_tests);
  d1 = grind (arith, nat_tests);
  d0 = grind (arith, nat_tests);
}

start_from : (a : ℕ) → Start a → position_start a ≡ true
start_from a s = grind (arith, nat_tests)

record Four (b : ℕ) : Type 0 where
  e3 : digit 3 b ≤ 9
  e2 : digit 2 b ≤ 9
  e1 : digit 1 b ≤ 9
  e0 : digit 0 b ≤ 9

four_facts : (b : ℕ) → four_decimal b ≡ true → Four b
four_facts b h = record {
  e3 = grind (arith, nat_tests);
  e2 = grind (arith, nat_tests);
  e1 = grind (arith, nat_tests);
  e0 = grind (arith, nat_tests);
}

four_from : (b : ℕ) → Four b → four_decimal b ≡ true
four_from b s = grind (arith, nat_tests)

-- the size of a position is its counts without the sign
magnitude : (a b : ℕ) (n : ℤ) → position_value a b ≡ n → nat_abs n ≡ position_size a b
magnitude a b n h = grind (arith, ints, nat_tests)

digit_below : {d : ℕ} → d ≤ 9 → d < 10
digit_below h = omega arith

-- A good first word is a sign bit and the packed digits of a number below two thousand, whose thousands are ten millions of counts.
high_part : ℕ → ℕ
high_part a = digit 3 a % 2 * 1000 + digit 2 a * 100 + digit 1 a * 10 + digit 0 a

-- of the four bits on the left of such a word only the outer two can be on
outer_bits : (t : ℕ) → t < 16 → t / 4 % 2 ≡ 0 → t / 2 % 2 ≡ 0 → t ≡ t / 8 * 8 + t % 2
outer_bits t h b16 b15 =
    let quarter : t / 4 ≡ t / 8 * 2 + t / 4 % 2 = omega arith in
    let half : t / 2 ≡ t / 4 * 2 + t / 2 % 2 = omega arith in
    let whole : t ≡ t / 2 * 2 + t % 2 = omega arith in
    omega (arith, quarter, half, whole)

top_is : (a : ℕ) → a < 2 ^ 16 → Start a → digit 3 a ≡ a / 2 ^ 15 % 2 * 8 + digit 3 a % 2
top_is a h s =
    let small : digit 3 a < 16 = omega arith in
    outer_bits (digit 3 a) small (sym (bit_16 a h) ∙ s.b16) (sym (bit_15 a h) ∙ s.b15) ∙ ap (λ x. x * 8 + digit 3 a % 2) (sym (bit_17 a h))

-- a digit on the left that is a sign and a lower bit, put into its place
hex_signed : (t s u b c d : ℕ) → t ≡ s * 8 + u → hex t b c d ≡ s * 0x8000 + hex u b c d
hex_signed t s u b c d e = omega arith

first_is : (a : ℕ) → a < 2 ^ 16 → Start a → a ≡ a / 2 ^ 15 % 2 * 0x8000 + packed (high_part a)
unfolding high_part
first_is a h s =
    let p = packed_is (digit 3 a % 2) (digit 2 a) (digit 1 a) (digit 0 a) (digit_below s.d2) (digit_below s.d1) (digit_below s.d0) in
    hex_places a h ∙ hex_signed (digit 3 a) (a / 2 ^ 15 % 2) (digit 3 a % 2) (digit 2 a) (digit 1 a) (digit 0 a) (top_is a h s)
    ∙ ap (λ x. a / 2 ^ 15 % 2 * 0x8000 + x) (sym p)

second_is : (b : ℕ) → b < 2 ^ 16 → Four b → b ≡ packed (four_digits b)
second_is b h f =
    let whole = hex_places b h in
    let p = packed_is (digit 3 b) (digit 2 b) (digit 1 b) (digit 0 b) (digit_below f.e2) (digit_below f.e1) (digit_below f.e0) in
    let e : four_digits b ≡ digit 3 b * 1000 + digit 2 b * 100 + digit 1 b * 10 + digit 0 b = omega arith in
    whole ∙ sym p ∙ ap packed (sym e)

-- the size is made of both parts
size_is : (a b : ℕ) → a < 2 ^ 16 → position_size a b ≡ high_part a * 10000 + four_digits b
unfolding high_part
size_is a b h = grind (arith, nat_tests, bit_14 a h)

-- What is read as n is the sign and the packed digits of n's size.
record Made (a b : ℕ) (n : ℤ) : Type 0 where
  first : a ≡ a / 2 ^ 15 % 2 * 0x8000 + packed (nat_abs n / 10000)
  second : b ≡ packed (nat_abs n % 10000)

four_below : (b : ℕ) → Four b → four_digits b < 10000
four_below b f = omega (arith, f.e3, f.e2, f.e1, f.e0)

parts : (m k : ℕ) → k < 10000 → ((m * 10000 + k) / 10000 ≡ m) × ((m * 10000 + k) % 10000 ≡ k)
parts m k h = (omega arith, omega arith)

made : (a b : ℕ) (n : ℤ) → a < 2 ^ 16 → b < 2 ^ 16 → Reads n a b → Made a b n
made a b n ha hb r =
    let s = start_facts a r.start in
    let f = four_facts b r.digits in
    let size : nat_abs n ≡ high_part a * 10000 + four_digits b = magnitude a b n r.value ∙ size_is a b ha in
    let p = parts (high_part a) (four_digits b) (four_below b f) in
    record {
      first = first_is a ha s ∙ ap (λ x. a / 2 ^ 15 % 2 * 0x8000 + packed x) (sym p.0 ∙ ap (λ x. x / 10000) (sym size));
      second = second_is b hb f ∙ ap packed (sym p.1 ∙ ap (λ x. x % 10000) (sym size));
    }

-- the sign bit of what reads as a number above 0, and below 0
sign_above : (a b k : ℕ) → position_value a b ≡ pos (suc k) → a / 2 ^ 15 % 2 ≡ 0
sign_above a b k h = grind (arith, ints, nat_tests)

sign_below : (a b k : ℕ) → position_value a b ≡ negsuc k → a / 2 ^ 15 % 2 ≡ 1
sign_below a b k h = grind (arith, ints, nat_tests)

nine : (n : ℕ) → n % 10 ≤ 9
nine n = omega arith

at_most_nine : {x y : ℕ} → x ≡ y → y ≤ 9 → x ≤ 9
at_most_nine e h = omega arith

four_parts : {a b c d a' b' c' d' : ℕ} → a ≡ a' → b ≡ b' → c ≡ c' → d ≡ d' → a * 1000 + b * 100 + c * 10 + d ≡ a' * 1000 + b' * 100 + c' * 10 + d'
four_parts p q r s = omega arith

-- the four bits of a digit that is a sign and a lower bit
record Outer (t s u : ℕ) : Type 0 where
  b17 : t / 8 ≡ s
  b16 : t / 4 % 2 ≡ 0
  b15 : t / 2 % 2 ≡ 0
  b14 : t % 2 ≡ u

outer_back : (s u : ℕ) → s ≤ 1 → u ≤ 1 → Outer (s * 8 + u) s u
outer_back s u hs hu =
    let half : (s * 8 + u) / 2 ≡ s * 4 = omega arith in
    let quarter : (s * 8 + u) / 4 ≡ s * 2 = omega arith in
    record { b17 = omega arith; b16 = rw quarter (omega arith); b15 = rw half (omega arith); b14 = omega arith }

reorder : (a b c d : ℕ) → 1000 * a + (100 * b + 10 * c + d) ≡ a * 1000 + b * 100 + c * 10 + d
reorder a b c d = omega arith

-- A sign bit and packed digits are a good first word, and give sign and digits back.
record First (s m a : ℕ) : Type 0 where
  fits : a < 2 ^ 16
  start : Start a
  sign : a / 2 ^ 15 % 2 ≡ s
  high : high_part a ≡ m

first_back : (s m a : ℕ) → s ≤ 1 → m < 2000 → a ≡ s * 0x8000 + packed m → First s m a
unfolding high_part
first_back s m a hs hm e =
    let t : ℕ = s * 8 + m / 1000 in
    let low : m / 1000 ≤ 1 = omega arith in
    let tb : t < 16 = omega arith in
    let o = outer_back s (m / 1000) hs low in
    let b : ℕ = m / 100 % 10 in
    let c : ℕ = m / 10 % 10 in
    let d : ℕ = m % 10 in
    let hb : b < 16 = omega arith in
    let hc : c < 16 = omega arith in
    let hd : d < 16 = omega arith in
    let same : a ≡ hex t b c d = e ∙ sym (hex_signed t s (m / 1000) b c d refl) in
    let fit : a < 2 ^ 16 = omega (arith, same, tb, hb, hc, hd) in
    let d3 : digit 3 a ≡ t = ap (digit 3) same ∙ hex_3 t b c d tb hb hc hd in
    let d2 : digit 2 a ≡ b = ap (digit 2) same ∙ hex_2 t b c d tb hb hc hd in
    let d1 : digit 1 a ≡ c = ap (digit 1) same ∙ hex_1 t b c d tb hb hc hd in
    let d0 : digit 0 a ≡ d = ap (digit 0) same ∙ hex_0 t b c d tb hb hc hd in
    record {
      fits = fit;
      start = record {
        b16 = bit_16 a fit ∙ ap (λ x. x / 4 % 2) d3 ∙ o.b16;
        b15 = bit_15 a fit ∙ ap (λ x. x / 2 % 2) d3 ∙ o.b15;
        d2 = at_most_nine d2 (nine (m / 100));
        d1 = at_most_nine d1 (nine (m / 10));
        d0 = at_most_nine d0 (nine m);
      };
      sign = bit_17 a fit ∙ ap (λ x. x / 8) d3 ∙ o.b17;
      high = four_parts (ap (λ x. x % 2) d3 ∙ o.b14) d2 d1 d0 ∙ sym (places m);
    }

record Second (k b : ℕ) : Type 0 where
  fits : b < 2 ^ 16
  digits : Four b
  low : four_digits b ≡ k

second_back : (k b : ℕ) → k < 10000 → b ≡ packed k → Second k b
second_back k w hk same =
    let t : ℕ = k / 1000 in
    let b : ℕ = k / 100 % 10 in
    let c : ℕ = k / 10 % 10 in
    let d : ℕ = k % 10 in
    let tb : t < 16 = omega arith in
    let hb : b < 16 = omega arith in
    let hc : c < 16 = omega arith in
    let hd : d < 16 = omega arith in
    let d3 : digit 3 w ≡ t = ap (digit 3) same ∙ hex_3 t b c d tb hb hc hd in
    let d2 : digit 2 w ≡ b = ap (digit 2) same ∙ hex_2 t b c d tb hb hc hd in
    let d1 : digit 1 w ≡ c = ap (digit 1) same ∙ hex_1 t b c d tb hb hc hd in
    let d0 : digit 0 w ≡ d = ap (digit 0) same ∙ hex_0 t b c d tb hb hc hd in
    record {
      fits = omega (arith, same, tb, hb, hc, hd);
      digits = record {
        e3 = at_most_nine d3 (omega arith);
        e2 = at_most_nine d2 (omega arith);
        e1 = at_most_nine d1 (omega arith);
        e0 = at_most_nine d0 (omega arith);
      };
      low = reorder (digit 3 w) (digit 2 w) (digit 1 w) (digit 0 w) ∙ four_parts d3 d2 d1 d0 ∙ sym (places k);
    }

joined : {m k n : ℕ} → m ≡ n / 10000 → k ≡ n % 10000 → m * 10000 + k ≡ n
joined {m} {k} {n} p q = omega arith

plain : (t : Bool) (x k : ℕ) → t ≡ false → x ≡ k → cond t (neg_ℤ (pos x)) (pos x) ≡ pos k
plain t x k e p = cc

negative : (t : Bool) (x k : ℕ) → t ≡ true → x ≡ suc k → cond t (neg_ℤ (pos x)) (pos x) ≡ negsuc k
negative t x k e p = cc

-- the position that a sign and a size are
record Back (s : ℕ) (k a b : ℕ) : Type 0 where
  start : position_start a ≡ true
  digits : four_decimal b ≡ true
  signed : a / 2 ^ 15 % 2 ≡ s
  size : position_size a b ≡ k

back : (s k a b : ℕ) → s ≤ 1 → k ≤ 19999999 → a ≡ s * 0x8000 + packed (k / 10000) → b ≡ packed (k % 10000) → Back s k a b
back s k a b hs hk ea eb =
    let f = first_back s (k / 10000) a hs (omega arith) ea in
    let g = second_back (k % 10000) b (omega arith) eb in
    record {
      start = start_from a f.start;
      digits = four_from b g.digits;
      signed = f.sign;
      size = size_is a b f.fits ∙ joined f.high g.low;
    }

-- words with a clear sign bit read as their size, and with the sign bit on as its negative
plus : (k a b : ℕ) → Back 0 k a b → Reads (pos k) a b
plus k a b h = record { start = h.start; digits = h.digits; value = plain (on B17 a) (position_size a b) k (grind (arith, nat_tests, h.signed)) h.size }

minus : (k a b : ℕ) → Back 1 (suc k) a b → Reads (negsuc k) a b
minus k a b h = record { start = h.start; digits = h.digits; value = negative (on B17 a) (position_size a b) k (grind (arith, nat_tests, h.signed)) h.size }

-- what the reader of a position answers for words that read as n
read : (axis : AxisId) (i j : ℕ) (n : ℤ) (a b : ℕ) → Reads n a b → position_reading (record { bits = a; axis = axis; index = i }) (record { bits = b; axis = axis; index = j }) ≡ Ok n
read axis i j n a b r = simp (r.start, r.digits, r.value)

two_ways : (s x y : ℕ) → s < 2 → x ≡ s * 0x8000 + packed (0 / 10000) → y ≡ packed (0 % 10000) → ((x ≡ 0) × (y ≡ 0)) ⊎ ((x ≡ 0x8000) × (y ≡ 0))
two_ways zero x y h e f = inl (e, f)
two_ways (suc zero) x y h e f = inr (e, f)
two_ways (suc (suc s)) x y h e f = absurd (omega arith)

below_sign : (a : ℕ) → a < 0x8000 → a ≡ 0x8000 → ⊥
below_sign a h e = omega arith

-- words that read as 0 have the digits of 0, with or without the sign
only_zero : (x y : ℕ) → x < 2 ^ 16 → y < 2 ^ 16 → Reads (pos 0) x y → ((x ≡ 0) × (y ≡ 0)) ⊎ ((x ≡ 0x8000) × (y ≡ 0))
only_zero x y hx hy q =
    let m = made x y (pos 0) hx hy q in
    two_ways (x / 2 ^ 15 % 2) x y (omega arith) m.first m.second

only_plus : (k a b x y : ℕ) → a ≡ 0 + packed (k / 10000) → b ≡ packed (k % 10000) → x < 2 ^ 16 → y < 2 ^ 16 → Reads (pos k) x y → ((x ≡ a) × (y ≡ b)) ⊎ ((x ≡ 0x8000) × (y ≡ 0))
only_plus zero a b x y ea eb hx hy q = rw (ea, eb) (only_zero x y hx hy q)
only_plus (suc k) a b x y ea eb hx hy q =
    let m = made x y (pos (suc k)) hx hy q in
    inl (m.first ∙ ap (λ s. s * 0x8000 + packed (suc k / 10000)) (sign_above x y k q.value) ∙ sym ea, m.second ∙ sym eb)

clear_sign : (m a : ℕ) → m < 2000 → a ≡ 0 + packed m → a < 0x8000
clear_sign m a hm e = omega arith

-- words that read as a number below 0 are not those of minus zero
no_zero : (k a b : ℕ) → position_value a b ≡ negsuc k → a ≡ 0x8000 → b ≡ 0 → ⊥
no_zero k a b v e f =
    let z : position_value 0x8000 0 ≡ negsuc k = rw (e, f) at v in
    let n : ◌≡◌ {A = ℕ} 0 (suc k) = ap nat_abs z in
    omega arith

-- the writer's words, for a number from 0 up and for one below 0
written_plus : (k a b : ℕ) → k ≤ 19999999 → a ≡ 0 + packed (k / 10000) → b ≡ packed (k % 10000) → Written (pos k) (record { first = a; second = b })
written_plus k a b hk ea eb =
    let r = plus k a b (back 0 k a b (omega arith) hk ea eb) in
    record {
      within = hk;
      read_back = λ axis i j. read axis i j (pos k) a b r;
      only = λ x y hx hy q. only_plus k a b x y ea eb hx hy q;
      never_minus_zero = λ e f. absurd (below_sign a (clear_sign (k / 10000) a (omega arith) ea) e);
    }

written_minus : (k a b : ℕ) → suc k ≤ 19999999 → a ≡ 0x8000 + packed (suc k / 10000) → b ≡ packed (suc k % 10000) → Written (negsuc k) (record { first = a; second = b })
written_minus k a b hk ea eb =
    let r = minus k a b (back 1 (suc k) a b (omega arith) hk ea eb) in
    record {
      within = hk;
      read_back = λ axis i j. read axis i j (negsuc k) a b r;
      only = λ x y hx hy q.
          (let m = made x y (negsuc k) hx hy q in
          inl (m.first ∙ ap (λ s. s * 0x8000 + packed (suc k / 10000)) (sign_below x y k q.value) ∙ sym ea, m.second ∙ sym eb));
      never_minus_zero = λ e f. no_zero k a b r.value e f;
    }

-- the sign bit and the packed digits of a number's size are its words
pub written : (n : ℤ) (size a b : ℕ) → size ≡ nat_abs n → size ≤ 19999999 → a ≡ sign_bit n + packed (size / 10000) → b ≡ packed (size % 10000) → Written n (record { first = a; second = b })
written (pos k) size a b e h ea eb = written_plus k a b (omega arith) (rw e at ea) (rw e at eb)
written (negsuc k) size a b e h ea eb = written_minus k a b (omega arith) (rw e at ea) (rw e at eb)
