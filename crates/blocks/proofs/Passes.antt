-- A pass over the records of a block: axis by axis, and behind its directory.
use Rattle.std.proofs.Common.{◌≡◌, ℕ, ◌+◌, ◌^◌, ◌<◌, List, length, ◌++◌, Some, None, Ok, Err, Option, Result, sym, refl, ap, ◌∙◌, arith}
use Rattle.blocks.specs.Turns.{Next, InTurn}
use Rattle.words.specs.declared.axis.AxisId.{AxisId}
use Rattle.words.specs.declared.axis.AxisId.TheVariants.{One, Two, Three}
use Rattle.words.specs.declared.by_axis.ByAxis.{ByAxis}
use Rattle.words.specs.declared.fault.Fault.{Fault}
use Rattle.blocks.specs.declared.kinds.Kind.{Kind}
use Rattle.blocks.specs.declared.records.Record.{Record}
use Rattle.blocks.specs.Blocks.{block_questions, block_records}
use Rattle.blocks.specs.Directory.{record_length, starts_by_axis, directory_questions, Inside, StartsInside}
use Rattle.blocks.specs.Questions.{Asked, answer}
use Rattle.blocks.specs.Records.{in_turn, at_start, by_axis, record_from, records_from, of_record, by_record, revalued, all_revalued, Room, Rooms}
use Rattle.blocks.proofs.Order.{turn_by_axis}
use Rattle.blocks.proofs.Questions.{passed, passed_value, passed_all, stopped, stopped_all}

-- an answer that is gone on with: its questions are asked before the others
next_asked :
    {A B : Type 0} (xs ys : List Asked) (x : A) (y : B) (a : Result A Fault) (r : Result B Fault) (Rest : A → Result B Fault → Type 0)
    → a ≡ answer xs x → Next a Rest r → ((v : A) → v ≡ x → Rest v r → r ≡ answer ys y) → r ≡ answer (xs ++ ys) y
next_asked xs ys x y (Err e) r Rest h n k = n ∙ sym (stopped xs ys x y e h)
next_asked xs ys x y (Ok v) r Rest h n k = k v (passed_value xs x v h) n ∙ sym (passed xs ys x v y h)

-- the last answer
last_asked :
    {A B : Type 0} (xs : List Asked) (x : A) (y : B) (a : Result A Fault) (r : Result B Fault) (Rest : A → Result B Fault → Type 0)
    → a ≡ answer xs x → Next a Rest r → ((v : A) → v ≡ x → Rest v r → r ≡ Ok y) → r ≡ answer xs y
last_asked xs x y (Err e) r Rest h n k = n ∙ sym (stopped_all xs x y e h)
last_asked xs x y (Ok v) r Rest h n k = k v (passed_value xs x v h) n ∙ sym (passed_all xs x v y h)

-- Three records in the order of their axes: `q` has the questions that are put to one of them, and `val` its value.
module _ {R X : Type 0} (q : AxisId → Option R → List Asked) (val : Option R → Option (Record X)) where
  abbrev turn : ByAxis (Option R) → List Asked
  turn s = q One s.one ++ (q Two s.two ++ q Three s.three)

  abbrev values : ByAxis (Option R) → ByAxis (Option (Record X))
  values s = record { one = val s.one; two = val s.two; three = val s.three }

  -- where each is answered by its questions, all are
  pub turn_answer :
      (s : ByAxis (Option R)) (r : Result (ByAxis (Option (Record X))) Fault)
      → InTurn (λ a o t. AxisId × (t ≡ answer (q a o) (val o))) s r
      → r ≡ answer (turn s) (values s)
  turn_answer s r h =
      next_asked (q One s.one) (q Two s.two ++ q Three s.three) (val s.one) (values s) h.0 r _ h.1.1 h.2
      (λ one e1 h2. next_asked (q Two s.two) (q Three s.three) (val s.two) (values s) h2.0 r _ h2.1.1 h2.2
      (λ two e2 h3. last_asked (q Three s.three) (val s.three) (values s) h3.0 r _ h3.1.1 h3.2
      (λ three e3 h4. (let same : record { one = one; two = two; three = three } ≡ values s = cc in h4 ∙ ap Ok same))))

-- a record that is there: its words have a no, or give its value
pub start_no : {X : Type 0} (f : ℕ → List Asked) (g : ℕ → X) (at : ℕ) (o : Option ℕ) (e : Fault) → o ≡ Some at → Err e ≡ answer (f at) (g at) → Err e ≡ answer (at_start f o) (record_from g o)
start_no f g at o e is h =
    sym (stopped_all (f at) (g at) (record_from g (Some at)) e h) ∙ ap (λ z. answer (at_start f z) (record_from g z)) (sym is)

pub start_ok : {X : Type 0} (f : ℕ → List Asked) (g : ℕ → X) (at : ℕ) (o : Option ℕ) (v : X) → o ≡ Some at → Ok v ≡ answer (f at) (g at) → Ok (Some (record { word = at; value = v })) ≡ answer (at_start f o) (record_from g o)
start_ok f g at o v is h =
    let same = passed_value (f at) (g at) v h in
    ap (λ z. Ok (Some (record { word = at; value = z }))) same
    ∙ sym (passed_all (f at) (g at) v (record_from g (Some at)) h)
    ∙ ap (λ z. answer (at_start f z) (record_from g z)) (sym is)

-- a record that was read: its ranges have a no, or none
pub record_no : {X Y : Type 0} (f : X → ℕ → List Asked) (g : X → Y) (r : Record X) (o : Option (Record X)) (e : Fault) → o ≡ Some r → Err e ≡ answer (f r.value r.word) (g r.value) → Err e ≡ answer (of_record f o) (revalued g o)
record_no f g r o e is h =
    sym (stopped_all (f r.value r.word) (g r.value) (revalued g (Some r)) e h) ∙ ap (λ z. answer (of_record f z) (revalued g z)) (sym is)

pub record_ok : {X Y : Type 0} (f : X → ℕ → List Asked) (g : X → Y) (r : Record X) (o : Option (Record X)) (v : Y) → o ≡ Some r → Ok v ≡ answer (f r.value r.word) (g r.value) → Ok (Some (record { word = r.word; value = v })) ≡ answer (of_record f o) (revalued g o)
record_ok f g r o v is h =
    let same = passed_value (f r.value r.word) (g r.value) v h in
    ap (λ z. Ok (Some (record { word = r.word; value = z }))) same
    ∙ sym (passed_all (f r.value r.word) (g r.value) v (revalued g (Some r)) h)
    ∙ ap (λ z. answer (of_record f z) (revalued g z)) (sym is)

-- a record that lies inside a block has room
room_from : {X : Type 0} (g : ℕ → X) (len : ℕ) (ws : List ℕ) (o : Option ℕ) → length ws + 17 < 2 ^ 64 → Inside len ws o → Room (record_from g o)
room_from g len ws None b h = tt
room_from g len ws (Some at) b h = omega arith

pub rooms_from : {X : Type 0} (g : ℕ → X) (len : ℕ) (ws : List ℕ) (s : ByAxis (Option ℕ)) (rs : ByAxis (Option (Record X))) → length ws + 17 < 2 ^ 64 → StartsInside len ws s → rs ≡ records_from g s → Rooms rs
rooms_from g len ws s rs b h e =
    rw e
    (record { one_room = room_from g len ws s.one b h.one_inside; two_room = room_from g len ws s.two b h.two_inside; three_room = room_from g len ws s.three b h.three_inside })

-- The ranges of records that were read are those of the words where the records start.
module _ {X Y : Type 0} (r : Option AxisId → X → ℕ → List Asked) (w : ℕ → X) (h : X → Y) where
  record_at : (a : Option AxisId) (o : Option ℕ) → of_record (r a) (record_from w o) ≡ at_start (λ at. r a (w at) at) o
  record_at a None = refl
  record_at a (Some at) = refl

  value_at : (o : Option ℕ) → revalued h (record_from w o) ≡ record_from (λ at. h (w at)) o
  value_at None = refl
  value_at (Some at) = refl

  ranges_at : (s : ByAxis (Option ℕ)) → by_record r (records_from w s) ≡ by_axis (λ a at. r a (w at) at) s
  ranges_at s =
      ap (λ l. l ++ (of_record (r (Some Two)) (record_from w s.two) ++ of_record (r (Some Three)) (record_from w s.three))) (record_at (Some One) s.one)
      ∙ ap (λ l. at_start (λ at. r (Some One) (w at) at) s.one ++ (l ++ of_record (r (Some Three)) (record_from w s.three))) (record_at (Some Two) s.two)
      ∙ ap (λ l. at_start (λ at. r (Some One) (w at) at) s.one ++ (at_start (λ at. r (Some Two) (w at) at) s.two ++ l)) (record_at (Some Three) s.three)

  values_at : (s : ByAxis (Option ℕ)) → all_revalued h (records_from w s) ≡ records_from (λ at. h (w at)) s
  values_at s =
      let e1 = value_at s.one in
      let e2 = value_at s.two in
      let e3 = value_at s.three in
      cc

-- the answer of a directory, with the kind written in another way
pub at_kind :
    (k m : Kind) (ws : List ℕ) (a : Result (ByAxis (Option ℕ)) Fault) → m ≡ k
    → a ≡ answer (directory_questions m ws) (starts_by_axis (record_length m) ws)
    → a ≡ answer (directory_questions k ws) (starts_by_axis (record_length k) ws)
at_kind k m ws a e h = h ∙ ap (λ n. answer (directory_questions n ws) (starts_by_axis (record_length n) ws)) e

-- The answer of a block: its directory, then the digits of its records, then their ranges.
module _ {X Y : Type 0} (k : Kind) (d : List ℕ → Option AxisId → ℕ → List Asked) (w : List ℕ → ℕ → X) (r : Option AxisId → X → ℕ → List Asked) (h : X → Y) (ws : List ℕ) where
  -- the directory has the first no
  pub directory_no : (f : Fault) → Err f ≡ answer (directory_questions k ws) (starts_by_axis (record_length k) ws) → Err f ≡ answer (block_questions k d w r ws) (block_records k (λ at. h (w ws at)) ws)
  directory_no f e =
      let len = record_length k in
      sym (stopped (directory_questions k ws) (in_turn len ws (d ws) ++ in_turn len ws (λ a at. r a (w ws at) at)) (starts_by_axis len ws) (block_records k (λ at. h (w ws at)) ws) f e)

  -- the digits of the records have it
  pub digits_no :
      (s : ByAxis (Option ℕ)) (f : Fault)
      → Ok s ≡ answer (directory_questions k ws) (starts_by_axis (record_length k) ws)
      → Err f ≡ answer (by_axis (d ws) s) (records_from (w ws) s)
      → Err f ≡ answer (block_questions k d w r ws) (block_records k (λ at. h (w ws at)) ws)
  digits_no s f e n =
      let len = record_length k in
      let q = in_turn len ws (λ a at. r a (w ws at) at) in
      let m = n ∙ ap (λ l. answer l (records_from (w ws) s)) (sym (turn_by_axis k ws (d ws) s e)) in
      let v = block_records k (λ at. h (w ws at)) ws in
      sym (passed (directory_questions k ws) (in_turn len ws (d ws) ++ q) (starts_by_axis len ws) s v e ∙ stopped (in_turn len ws (d ws)) q (records_from (w ws) s) v f m)

  -- the digits are right, and the ranges give the answer of the block
  pub ranges_answer :
      (s : ByAxis (Option ℕ)) (rs : ByAxis (Option (Record X)))
      → Ok s ≡ answer (directory_questions k ws) (starts_by_axis (record_length k) ws)
      → Ok rs ≡ answer (by_axis (d ws) s) (records_from (w ws) s)
      → answer (by_record r rs) (all_revalued h rs) ≡ answer (block_questions k d w r ws) (block_records k (λ at. h (w ws at)) ws)
  ranges_answer s rs e n =
      let len = record_length k in
      let f : Option AxisId → ℕ → List Asked = λ a at. r a (w ws at) at in
      let g : ℕ → Y = λ at. h (w ws at) in
      let v = block_records k g ws in
      let same = passed_value (by_axis (d ws) s) (records_from (w ws) s) rs n in
      let m = n ∙ ap (λ l. answer l (records_from (w ws) s)) (sym (turn_by_axis k ws (d ws) s e)) in
      ap (λ z. answer (by_record r z) (all_revalued h z)) same
      ∙ ap (λ l. answer l (all_revalued h (records_from (w ws) s))) (ranges_at r (w ws) h s ∙ sym (turn_by_axis k ws f s e))
      ∙ ap (λ z. answer (in_turn len ws f) z) (values_at r (w ws) h s ∙ ap (λ z. records_from g z) (passed_value (directory_questions k ws) (starts_by_axis len ws) s e))
      ∙ sym (passed (in_turn len ws (d ws)) (in_turn len ws f) (records_from (w ws) s) rs v m)
      ∙ sym (passed (directory_questions k ws) (in_turn len ws (d ws) ++ in_turn len ws f) (starts_by_axis len ws) s v e)
