use Rattle.std.proofs.Common.{Some}
use Rattle.blocks.specs.Records.{at_start, record_from}
use Rattle.blocks.proofs.Passes.{turn_answer}
use Rattle.blocks.proofs.block.read_records.Goals as goal

pub returns : goal.returns
returns g c =
    let ws = c.args.words.now in
    turn_answer (λ a o. at_start (g.B.Block.digits ws (Some a)) o) (record_from (g.B.Block.written ws)) c.args.starts _ c.try_by_axis.ensures
