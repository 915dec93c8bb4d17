-- A block of any kind: all of its questions, and what it says when none gets a no.
use Rattle.std.specs.Prelude.{ℕ, List, ◌++◌, Option}
use Rattle.words.specs.declared.axis.AxisId.{AxisId}
use Rattle.words.specs.declared.by_axis.ByAxis.{ByAxis}
use Rattle.blocks.specs.declared.kinds.Kind.{Kind}
use Rattle.blocks.specs.declared.records.Record.{Record}
use Rattle.blocks.specs.Directory.{directory_questions, record_length, starts_by_axis}
use Rattle.blocks.specs.Questions.{Asked}
use Rattle.blocks.specs.Records.{in_turn, records_from}

-- the questions of the directory, those about the digits of the records, and those about the ranges of what the records have written
abbrev pub block_questions : {X : Type 0} → Kind → (List ℕ → Option AxisId → ℕ → List Asked) → (List ℕ → ℕ → X) → (Option AxisId → X → ℕ → List Asked) → List ℕ → List Asked
block_questions k digits written ranges ws =
    directory_questions k ws
    ++ (in_turn (record_length k) ws (digits ws) ++ in_turn (record_length k) ws (λ axis at. ranges axis (written ws at) at))

-- the records of the axes, whose values depend on where they start
abbrev pub block_records : {X : Type 0} → Kind → (ℕ → X) → List ℕ → ByAxis (Option (Record X))
block_records k value ws = records_from value (starts_by_axis (record_length k) ws)
