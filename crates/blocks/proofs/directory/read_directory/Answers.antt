use Rattle.std.proofs.Common.{◌≡◌, Ok, sym, ap, ◌∙◌, rules}
use Rattle.blocks.specs.Directory.{count_questions, pair_questions, axis_questions, start_questions, starts_by_axis, record_length}
use Rattle.blocks.specs.Questions.{answer}
use Rattle.blocks.proofs.Questions.{passed, stopped, passed_all, stopped_all, err_passed}
use Rattle.blocks.proofs.directory.read_directory.Goals as goal

pub returns-in_err-check_pairs-clause-value : goal.returns-in_err-check_pairs-clause-value
returns-in_err-check_pairs-clause-value c =
    let ws = c.args.words.now in
    let len = record_length c.args.kind in
    let v = starts_by_axis len ws in
    let s = passed (count_questions c.args.kind ws) (start_questions len ws) _ _ v c.in_ok-read_count.ensures.value in
    let e = c.in_err-check_pairs.ensures.value ∙ ap (λ n. answer (pair_questions n ws) (tt {0})) c.record_length.ensures in
    err_passed _ _ _ c.from_residual-in_err-check_pairs.ensures.1
    (sym (s ∙ stopped (pair_questions len ws) (axis_questions len ws) _ v _ e))

pub returns-in_err-check_axes-clause-value : goal.returns-in_err-check_axes-clause-value
returns-in_err-check_axes-clause-value c =
    let ws = c.args.words.now in
    let len = record_length c.args.kind in
    let v = starts_by_axis len ws in
    let s = passed (count_questions c.args.kind ws) (start_questions len ws) _ _ v c.in_ok-read_count.ensures.value in
    let d = c.in_ok-check_pairs.ensures.value ∙ ap (λ n. answer (pair_questions n ws) (tt {0})) c.record_length.ensures in
    let e = c.in_err-check_axes.ensures ∙ ap (λ n. answer (axis_questions n ws) (tt {0})) c.record_length.ensures in
    err_passed _ _ _ c.from_residual-in_err-check_axes.ensures.1
    (sym (s ∙ passed (pair_questions len ws) (axis_questions len ws) _ _ v d ∙ stopped_all (axis_questions len ws) _ v _ e))

pub returns-clause-value : goal.returns-clause-value
returns-clause-value c =
    let ws = c.args.words.now in
    let len = record_length c.args.kind in
    let v = starts_by_axis len ws in
    let s = passed (count_questions c.args.kind ws) (start_questions len ws) _ _ v c.in_ok-read_count.ensures.value in
    let d = c.in_ok-check_pairs.ensures.value ∙ ap (λ n. answer (pair_questions n ws) (tt {0})) c.record_length.ensures in
    let e = c.in_ok-check_axes.ensures ∙ ap (λ n. answer (axis_questions n ws) (tt {0})) c.record_length.ensures in
    let same : record { one = c.start_of.result; two = c.start_of-2.result; three = c.start_of-3.result } ≡ starts_by_axis c.record_length.result ws = search rules in
    ap Ok (same ∙ ap (λ n. starts_by_axis n ws) c.record_length.ensures)
    ∙ sym (s ∙ passed (pair_questions len ws) (axis_questions len ws) _ _ v d ∙ passed_all (axis_questions len ws) _ _ v e)
