use Rattle.std.proofs.Common.{◌≡◌, ◌+◌, ◌-◌, ◌*◌}
use Rattle.words.specs.Faults.{axis_number}
use Rattle.blocks.specs.Directory.{records_start, starts_from, start_of, starts}
use Rattle.blocks.proofs.directory.Directory.start_of.Given as goal

-- Looking through the records that are left finds what looking through all does.
abbrev pub invariant-loop-i : goal.invariant-loop-i
invariant-loop-i l =
    let ws = l.self.words.now in
    let len = l.self.record_length in
    let n = l.self.count in
    start_of ws (axis_number l.axis) (starts_from len (records_start n + l.i * len) (n - l.i)) ≡ start_of ws (axis_number l.axis) (starts len ws)
