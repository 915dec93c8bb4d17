use Rattle.std.proofs.Common.{Some, Ok, sym, ap, ◌∙◌}
use Rattle.blocks.specs.Numbers.{filled}
use Rattle.blocks.specs.Questions.{answer}
use Rattle.blocks.proofs.Questions.{passed, passed_value, passed_all, stopped_all, err_passed}
use Rattle.movesets.specs.Movesets.{count_questions, move_count, moves_asked, moves_from, moveset_of}
use Rattle.movesets.proofs.Turns.{unused, length-first, slots_read}
use Rattle.movesets.proofs.moveset.read_moveset.Goals as goal

pub returns-in_err-read_moves : goal.returns-in_err-read_moves
returns-in_err-read_moves c =
    let ws = c.args.words.now in
    let a = Some c.args.axis in
    let n = move_count ws in
    let m = c.in_ok-count.count in
    let count = passed_value (count_questions ws a) n m c.in_ok-count.ensures.value in
    err_passed _ _ _ c.from_residual-in_err-read_moves.ensures.1
    (sym (passed (count_questions ws a) (moves_asked ws a 1 n) n m (moveset_of ws) c.in_ok-count.ensures.value
    ∙ stopped_all (moves_asked ws a 1 n) (tt {0}) (moveset_of ws) _ (c.in_err-read_moves.ensures.value ∙ ap (λ k. answer (moves_asked ws a 1 k) (tt {0})) (length-first m c.in_ok-count.ensures.few ∙ count))))

pub returns : goal.returns
returns c =
    let ws = c.args.words.now in
    let a = Some c.args.axis in
    let n = move_count ws in
    let m = c.in_ok-count.count in
    let count = passed_value (count_questions ws a) n m c.in_ok-count.ensures.value in
    let slots = slots_read ws m c.read_moves.new.slots c.in_ok-count.ensures.few c.in_ok-read_moves.ensures.read in
    let asked = c.in_ok-read_moves.ensures.value ∙ ap (λ k. answer (moves_asked ws a 1 k) (tt {0})) (length-first m c.in_ok-count.ensures.few ∙ count) in
    ap (λ z. Ok (record { moves = z; count = m })) slots
    ∙ ap (λ k. Ok (record { moves = filled unused 0 (moves_from ws 1 k); count = k })) count
    ∙ sym (passed (count_questions ws a) (moves_asked ws a 1 n) n m (moveset_of ws) c.in_ok-count.ensures.value
    ∙ passed_all (moves_asked ws a 1 n) (tt {0}) c.in_ok-read_moves.field-0 (moveset_of ws) asked)
