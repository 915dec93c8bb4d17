use Rattle.std.proofs.Common.{◌+◌, ◌^◌, ◌<◌, length, Ok, Err, ◌∙◌, rules}
use Rattle.blocks.specs.Directory.{record_length}
use Rattle.blocks.specs.Records.{records_from, by_axis}
use Rattle.blocks.proofs.Passes.{at_kind, directory_no, digits_no, ranges_answer, rooms_from}
use Rattle.blocks.proofs.Questions.{passed_value, err_passed}
use Rattle.blocks.proofs.block.read_block.Goals as goal

pub returns-in_err-starts : goal.returns-in_err-starts
returns-in_err-starts g c =
    let ws = c.args.words.now in
    err_passed _ _ _ c.from_residual.ensures.1
    (directory_no g.B.Block.KIND g.B.Block.digits g.B.Block.written (g.B.Block.ranges c.args.block.now) g.B.Block.value ws _ (at_kind g.B.Block.KIND _ ws (Err _) c.KIND.ensures c.in_err-starts.ensures.value))

pub returns-in_err-written : goal.returns-in_err-written
returns-in_err-written g c =
    let ws = c.args.words.now in
    err_passed _ _ _ c.from_residual-in_err-written.ensures.1
    (digits_no g.B.Block.KIND g.B.Block.digits g.B.Block.written (g.B.Block.ranges c.args.block.now) g.B.Block.value ws _ _ (at_kind g.B.Block.KIND _ ws (Ok _) c.KIND.ensures c.in_ok-starts.ensures.value) c.in_err-written.ensures)

pub check_records-requires : goal.check_records-requires
check_records-requires g c =
    let ws = c.args.words.now in
    let few : length ws + 17 < 2 ^ 64 = search rules in
    let w = g.B.Block.written ws in
    rooms_from w (record_length c.KIND.result) ws _ _ few c.in_ok-starts.ensures.inside (passed_value (by_axis (g.B.Block.digits ws) c.in_ok-starts.starts) (records_from w c.in_ok-starts.starts) _ c.in_ok-written.ensures)

pub returns : goal.returns
returns g c =
    let ws = c.args.words.now in
    c.check_records.ensures
    ∙ ranges_answer g.B.Block.KIND g.B.Block.digits g.B.Block.written (g.B.Block.ranges c.args.block.now) g.B.Block.value ws _ _ (at_kind g.B.Block.KIND _ ws (Ok _) c.KIND.ensures c.in_ok-starts.ensures.value) c.in_ok-written.ensures
