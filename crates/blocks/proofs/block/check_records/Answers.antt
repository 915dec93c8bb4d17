use Rattle.std.proofs.Common.{Some}
use Rattle.blocks.specs.Records.{of_record, revalued}
use Rattle.blocks.proofs.Passes.{turn_answer}
use Rattle.blocks.proofs.block.check_records.Goals as goal

pub returns : goal.returns
returns g c =
    turn_answer (λ a o. of_record (g.B.Block.ranges c.args.block.now (Some a)) o) (revalued g.B.Block.value) c.args.written _ c.try_by_axis.ensures
