-- The questions that a call asks, in their order, and the answer that they give.
use Rattle.std.specs.Prelude.{ℕ, Bool, cond, List, [], ◌∷◌, Some, None, Ok, Err, Option, Result}
use Rattle.words.specs.declared.axis.AxisId.{AxisId}
use Rattle.words.specs.declared.fault.Fault.{Fault}
use Rattle.words.specs.declared.fault.Question.{Question}

-- a question that was asked: of which axis, at which word, and whether it got a yes
pub record Asked : Type 0 where
  pub question : Question
  pub axis : Option AxisId
  pub word : ℕ
  pub yes : Bool

-- a question in one line
abbrev pub ask : Question → Option AxisId → ℕ → Bool → Asked
ask q a i good = record { question = q; axis = a; word = i; yes = good }

-- what is named when the question gets a no
abbrev pub refusal : Asked → Fault
refusal q = record { question = q.question; axis = q.axis; word = q.word }

-- the first question that gets a no, if any does
abbrev pub first_no : List Asked → Option Fault
first_no [] = None
first_no (q ∷ qs) = cond q.yes (first_no qs) (Some (refusal q))

-- the answer of a call: the value when no question gets a no, and else the first no
abbrev pub answer : {X : Type 0} → List Asked → X → Result X Fault
answer [] value = Ok value
answer (q ∷ qs) value = cond q.yes (answer qs value) (Err (refusal q))

-- a first no, or else that of the questions that come next
abbrev pub else_ask : Option Fault → Option Fault → Option Fault
else_ask None next = next
else_ask (Some f) next = Some f

-- the answer that a first no gives
abbrev pub by_first_no : {X : Type 0} → Option Fault → X → Result X Fault
by_first_no None value = Ok value
by_first_no (Some f) value = Err f
