use Rattle.std.proofs.Common.{Some, Err, sym, ap, ◌∙◌, w32, SFits, rules}
use Rattle.std.proofs.lemmas.Int.{to_z-of_z}
use Rattle.std.proofs.lemmas.Bool.{cond-true, cond-false}
use Rattle.words.specs.declared.fault.Question.TheVariants.{Range}
use Rattle.blocks.specs.Bounds.{ranges_from}
use Rattle.blocks.specs.Parameters.{relations_hold, bounded_rates, parameter_ranges, reach_of}
use Rattle.blocks.specs.Questions.{answer, ask, refusal}
use Rattle.blocks.proofs.Questions.{passed_all, stopped_all, err_passed}
use Rattle.blocks.proofs.parameters.ParameterBlockBlock.check.Goals as goal

pub returns-then-not-relations_hold : goal.returns-then-not-relations_hold
unfolding parameter_ranges
returns-then-not-relations_hold c =
    let p = c.args.parameters in
    let a = Some c.args.axis in
    let f : SFits w32 c.get.result.now = search rules in
    let holds = relations_hold (reach_of c.args.self.now.reaches a) p in
    ap Err c.refused.ensures
    ∙ sym (cond-false holds (answer (ranges_from a c.args.start 9 (bounded_rates p)) p) (Err (refusal (ask Range a c.args.start holds))) (sym (c.relations_hold.ensures ∙ ap (λ x. relations_hold x p) (to_z-of_z w32 c.get.result.now f ∙ c.get.ensures)) ∙ c.if-not-relations_hold.true))

pub returns-in_err-check_bounds : goal.returns-in_err-check_bounds
unfolding parameter_ranges
returns-in_err-check_bounds c =
    let v = c.args.parameters in
    let a = Some c.args.axis in
    let f : SFits w32 c.get.result.now = search rules in
    let holds = relations_hold (reach_of c.args.self.now.reaches a) v in
    let ranges = ranges_from a c.args.start 9 (bounded_rates v) in
    let e = c.in_err-check_bounds.ensures ∙ ap (λ l. answer (ranges_from a c.args.start 9 l) (tt {0})) c.bounded_rates.ensures in
    err_passed _ _ _ c.from_residual.ensures.1
    (sym (stopped_all ranges _ v _ e)
    ∙ sym (cond-true holds (answer ranges v) (Err (refusal (ask Range a c.args.start holds))) (sym (c.relations_hold.ensures ∙ ap (λ x. relations_hold x v) (to_z-of_z w32 c.get.result.now f ∙ c.get.ensures)) ∙ c.if-not-relations_hold.false)))

pub returns : goal.returns
unfolding parameter_ranges
returns c =
    let v = c.args.parameters in
    let a = Some c.args.axis in
    let f : SFits w32 c.get.result.now = search rules in
    let holds = relations_hold (reach_of c.args.self.now.reaches a) v in
    let ranges = ranges_from a c.args.start 9 (bounded_rates v) in
    let e = c.in_ok-check_bounds.ensures ∙ ap (λ l. answer (ranges_from a c.args.start 9 l) (tt {0})) c.bounded_rates.ensures in
    sym (passed_all ranges _ _ v e)
    ∙ sym (cond-true holds (answer ranges v) (Err (refusal (ask Range a c.args.start holds))) (sym (c.relations_hold.ensures ∙ ap (λ x. relations_hold x v) (to_z-of_z w32 c.get.result.now f ∙ c.get.ensures)) ∙ c.if-not-relations_hold.false))
