-- Laws of answers: one list of questions behind another.
use Rattle.std.proofs.Common.{◌≡◌, Bool, true, false, cond, List, [], ◌∷◌, ◌++◌, Some, Ok, Err, Option, Result, sym, refl, ap, ◌∙◌}
use Rattle.std.specs.Result.{IsErrAnd}
use Rattle.std.proofs.lemmas.Result.{err_from_is_err_and}
use Rattle.words.specs.declared.fault.Fault.{Fault}
use Rattle.blocks.specs.Questions.{Asked, refusal, first_no, answer, else_ask, by_first_no}

ask_one : (f : Fault) (a b c : Option Fault) (t : Bool) → a ≡ else_ask b c → cond t a (Some f) ≡ else_ask (cond t b (Some f)) c
ask_one f a b c true e = e
ask_one f a b c false e = refl

-- the first no of two lists is that of the first, or else that of the second
pub first_no-append : (xs ys : List Asked) → first_no (xs ++ ys) ≡ else_ask (first_no xs) (first_no ys)
first_no-append [] ys = refl
first_no-append (x ∷ xs) ys =
    ask_one (refusal x) (first_no (xs ++ ys)) (first_no xs) (first_no ys) x.yes (first_no-append xs ys)

answer_one : {X : Type 0} (v : X) (f : Fault) (a : Result X Fault) (b : Option Fault) (t : Bool) → a ≡ by_first_no b v → cond t a (Err f) ≡ by_first_no (cond t b (Some f)) v
answer_one v f a b true e = e
answer_one v f a b false e = refl

-- the answer is the value, or the first no
pub answer-by_first_no : {X : Type 0} (xs : List Asked) (v : X) → answer xs v ≡ by_first_no (first_no xs) v
answer-by_first_no [] v = refl
answer-by_first_no (x ∷ xs) v = answer_one v (refusal x) (answer xs v) (first_no xs) x.yes (answer-by_first_no xs v)

-- an Ok behind a test says that the test was true
pub ok_through : {X : Type 0} (v : X) (f : Fault) (a : Result X Fault) (t : Bool) → Ok v ≡ cond t a (Err f) → (t ≡ true) × (Ok v ≡ a)
ok_through v f a true e = (refl, e)
ok_through v f a false e = let z : ◌≡◌ {A = Bool} true false = cc in (sym z, cc)

-- where the first questions get no no, the answer is that of the others
pub passed : {X Y : Type 0} (xs ys : List Asked) (a v : X) (b : Y) → Ok v ≡ answer xs a → answer (xs ++ ys) b ≡ answer ys b
passed [] ys a v b e = refl
passed (x ∷ xs) ys a v b e =
    let t = ok_through v (refusal x) (answer xs a) x.yes e in
    ap (λ y. cond y (answer (xs ++ ys) b) (Err (refusal x))) t.0 ∙ passed xs ys a v b t.1

-- and the value is the one that was to be answered
pub passed_value : {X : Type 0} (xs : List Asked) (a v : X) → Ok v ≡ answer xs a → v ≡ a
passed_value [] a v e = cc
passed_value (x ∷ xs) a v e = passed_value xs a v (ok_through v (refusal x) (answer xs a) x.yes e).1

-- a no before or behind a test
stop_one : {X Y : Type 0} (f g : Fault) (a : Result X Fault) (b : Result Y Fault) (t : Bool) → (Err f ≡ a → b ≡ Err f) → Err f ≡ cond t a (Err g) → cond t b (Err g) ≡ Err f
stop_one f g a b true rest h = rest h
stop_one f g a b false rest h = cc

-- where one of the first questions gets a no, it is the answer
pub stopped : {X Y : Type 0} (xs ys : List Asked) (a : X) (b : Y) (f : Fault) → Err f ≡ answer xs a → answer (xs ++ ys) b ≡ Err f
stopped [] ys a b f e = cc
stopped (x ∷ xs) ys a b f e =
    stop_one f (refusal x) (answer xs a) (answer (xs ++ ys) b) x.yes (λ h. stopped xs ys a b f h) e

-- whether there is a no does not depend on the value that is to be answered
pub passed_all : {X Y : Type 0} (xs : List Asked) (a v : X) (b : Y) → Ok v ≡ answer xs a → answer xs b ≡ Ok b
passed_all [] a v b e = refl
passed_all (x ∷ xs) a v b e =
    let t = ok_through v (refusal x) (answer xs a) x.yes e in
    ap (λ y. cond y (answer xs b) (Err (refusal x))) t.0 ∙ passed_all xs a v b t.1

pub stopped_all : {X Y : Type 0} (xs : List Asked) (a : X) (b : Y) (f : Fault) → Err f ≡ answer xs a → answer xs b ≡ Err f
stopped_all [] a b f e = cc
stopped_all (x ∷ xs) a b f e = stop_one f (refusal x) (answer xs a) (answer xs b) x.yes (λ h. stopped_all xs a b f h) e

-- where no question of two lists gets a no, none of the second does
pub passed_tail : {X : Type 0} (xs ys : List Asked) (a v : X) → Ok v ≡ answer (xs ++ ys) a → Ok v ≡ answer ys a
passed_tail [] ys a v e = e
passed_tail (x ∷ xs) ys a v e = passed_tail xs ys a v (ok_through v (refusal x) (answer (xs ++ ys) a) x.yes e).1

-- an error that a `?` passes on
pub err_passed : {X : Type 0} (r a : Result X Fault) (e : Fault) → IsErrAnd r (λ y. y ≡ e) → Err e ≡ a → r ≡ a
err_passed r a e h k = let p = err_from_is_err_and r h in p.1 ∙ ap Err p.2 ∙ k
