use Rattle.std.proofs.Common.{rules}
use Rattle.std.proofs.lemmas.Int.{to_z-of_z}
use Rattle.drive.proofs.Mirrored.{saturated_opposite}
use Rattle.drive.proofs.reversed.Reversed.opposite.Goals as goal

pub returns : goal.returns
returns g c =
    let below = c.args.self.now.drive in
    let opposite = saturated_opposite (g.D.Drive.meaning below) c.args.counts (g.met.D.Drive.lawful below) c.ranges.counts in
    search (rules, to_z-of_z)
