-- The moves of a block, read one after the other.
use Rattle.std.proofs.Common.{◌≡◌, ℕ, zero, suc, ◌+◌, ◌-◌, ◌<◌, ◌≤◌, Bool, List, [], ◌∷◌, ◌++◌, length, set, take, drop, replicate, Ok, Err, Option, sym, refl, ap, ◌∙◌, arith, length-set}
use Rattle.std.proofs.lemmas.List.{set-append_left, take-append-drop, length-take-le}
use Rattle.words.specs.Words.{on}
use Rattle.words.specs.declared.axis.AxisId.{AxisId}
use Rattle.words.specs.declared.fault.Fault.{Fault}
use Rattle.words.specs.declared.word.Bit.TheVariants.{B16, B17}
use Rattle.moves.specs.Moves.{moves_max, no_move}
use Rattle.moves.specs.declared.moves.Action.{Action}
use Rattle.moves.specs.declared.moves.Move.{Move}
use Rattle.blocks.specs.Directory.{word_at}
use Rattle.blocks.specs.Numbers.{filled}
use Rattle.blocks.specs.Questions.{answer}
use Rattle.blocks.proofs.Questions.{passed, passed_value, passed_all, stopped, stopped_all}
use Rattle.blocks.proofs.Starts.{left_step}
use Rattle.movesets.specs.Actions.{action_questions, action_of}
use Rattle.movesets.specs.Movesets.{control_questions, move_questions, move_of, next_start, moves_asked, moves_from}

-- a move whose action has the first no, or was read
pub move_no : (ws : List ℕ) (a : Option AxisId) (at : ℕ) (e : Fault) → Err e ≡ answer (action_questions ws a at) (action_of ws at) → Err e ≡ answer (action_questions ws a at) (move_of ws at)
move_no ws a at e r = sym (stopped_all (action_questions ws a at) (action_of ws at) (move_of ws at) e r)

pub move_ok : (ws : List ℕ) (a : Option AxisId) (at : ℕ) (x : Action) (halt continuous : Bool) → Ok x ≡ answer (action_questions ws a at) (action_of ws at) → halt ≡ on B16 (word_at ws at) → continuous ≡ on B17 (word_at ws at) → Ok (record { action = x; halt = halt; continuous = continuous }) ≡ answer (action_questions ws a at) (move_of ws at)
unfolding move_of
move_ok ws a at x halt continuous r is16 is17 =
    let action = passed_value (action_questions ws a at) (action_of ws at) x r in
    let read = passed_all (action_questions ws a at) (action_of ws at) x (move_of ws at) r in
    cc

module _ (ws : List ℕ) (a : Option AxisId) (n i at : ℕ) (h : i < n) where
  -- the first of the moves that are left is asked
  asked_step : answer (moves_asked ws a at (n - i)) (tt {0}) ≡ answer (move_questions ws a at ++ moves_asked ws a (next_start ws at) (n - (i + 1))) (tt {0})
  asked_step = ap (λ k. answer (moves_asked ws a at k) (tt {0})) (left_step n i h)

  -- its control word or its length has the first no
  pub control_stop : (e : Fault) → Err e ≡ answer (control_questions ws a at) (tt {0}) → Err e ≡ answer (moves_asked ws a at (n - i)) (tt {0})
  unfolding move_questions
  control_stop e r =
      sym (asked_step ∙ stopped (move_questions ws a at) (moves_asked ws a (next_start ws at) (n - (i + 1))) (tt {0}) (tt {0}) e (sym (stopped (control_questions ws a at) (action_questions ws a at) (tt {0}) (tt {0}) e r)))

  -- they have none, and its action has it
  pub action_stop : (e : Fault) → Ok (tt {0}) ≡ answer (control_questions ws a at) (tt {0}) → Err e ≡ answer (action_questions ws a at) (move_of ws at) → Err e ≡ answer (moves_asked ws a at (n - i)) (tt {0})
  unfolding move_questions
  action_stop e p r =
      sym (asked_step ∙ stopped (move_questions ws a at) (moves_asked ws a (next_start ws at) (n - (i + 1))) (move_of ws at) (tt {0}) e (r ∙ sym (passed (control_questions ws a at) (action_questions ws a at) (tt {0}) (tt {0}) (move_of ws at) p)))

  -- the move has none
  pub move_go : (m : Move) → Ok (tt {0}) ≡ answer (control_questions ws a at) (tt {0}) → Ok m ≡ answer (action_questions ws a at) (move_of ws at) → answer (moves_asked ws a (next_start ws at) (n - (i + 1))) (tt {0}) ≡ answer (moves_asked ws a at (n - i)) (tt {0})
  unfolding move_questions
  move_go m p r =
      sym (asked_step ∙ passed (move_questions ws a at) (moves_asked ws a (next_start ws at) (n - (i + 1))) (move_of ws at) m (tt {0}) (r ∙ sym (passed (control_questions ws a at) (action_questions ws a at) (tt {0}) (tt {0}) (move_of ws at) p)))

  -- and is put into its slot
  pub filled_go : (ms : List Move) (m : Move) → Ok m ≡ answer (action_questions ws a at) (move_of ws at) → filled (set ms i m) (i + 1) (moves_from ws (next_start ws at) (n - (i + 1))) ≡ filled ms i (moves_from ws at (n - i))
  filled_go ms m r =
      ap (λ x. filled (set ms i x) (i + 1) (moves_from ws (next_start ws at) (n - (i + 1)))) (passed_value (action_questions ws a at) (move_of ws at) m r)
      ∙ sym (ap (λ k. filled ms i (moves_from ws at k)) (left_step n i h))

-- as many moves are read as there are to be
pub length-moves_from : (ws : List ℕ) (at n : ℕ) → length (moves_from ws at n) ≡ n
length-moves_from ws at zero = refl
length-moves_from ws at (suc n) = ap suc (length-moves_from ws (next_start ws at) n)

-- what is put into the front of a list leaves the rest of it
pub filled-append : (xs ys : List Move) (i : ℕ) (ms : List Move) → i + length ms ≤ length xs → filled (xs ++ ys) i ms ≡ filled xs i ms ++ ys
filled-append xs ys i [] h = refl
filled-append xs ys i (m ∷ ms) h =
    ap (λ zs. filled zs (i + 1) ms) (set-append_left xs ys i m (omega arith))
    ∙ filled-append (set xs i m) ys (i + 1) ms (omega (arith, length-set xs i m))

-- the slots of a moveset, before anything is read
abbrev pub unused : List Move
unused = replicate moves_max no_move

-- the first n of them are n
pub length-first : (n : ℕ) → n ≤ moves_max → length (take n unused) ≡ n
length-first n h = length-take-le n unused h

-- n moves that were read into the first of them are those of a moveset, and behind them the slots are as they were
pub slots_read : (ws : List ℕ) (n : ℕ) (read : List Move) → n ≤ moves_max → read ≡ filled (take n unused) 0 (moves_from ws 1 (length (take n unused))) → read ++ drop n unused ≡ filled unused 0 (moves_from ws 1 n)
slots_read ws n read h e =
    let ms = moves_from ws 1 n in
    let put : read ≡ filled (take n unused) 0 ms = e ∙ ap (λ k. filled (take n unused) 0 (moves_from ws 1 k)) (length-first n h) in
    ap (λ s. s ++ drop n unused) put
    ∙ sym (filled-append (take n unused) (drop n unused) 0 ms (omega (arith, length-first n h, length-moves_from ws 1 n)))
    ∙ ap (λ s. filled s 0 ms) (take-append-drop n unused)
