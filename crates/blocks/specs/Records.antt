-- The records of a block: the questions that are put to each, and their values by axis.
use Rattle.std.specs.Prelude.{ℕ, ◌+◌, ◌^◌, ◌<◌, List, [], ◌++◌, Some, None, Option}
use Rattle.std.specs.List.{flat_map}
use Rattle.words.specs.declared.axis.AxisId.{AxisId}
use Rattle.words.specs.declared.axis.AxisId.TheVariants.{One, Two, Three}
use Rattle.words.specs.declared.by_axis.ByAxis.{ByAxis}
use Rattle.blocks.specs.declared.records.Record.{Record}
use Rattle.blocks.specs.Directory.{word_at, axis_of, starts}
use Rattle.blocks.specs.Questions.{Asked}

-- the questions of each record in turn, from the first to the last; each takes the record's axis and the index of its first word
abbrev pub in_turn : ℕ → List ℕ → (Option AxisId → ℕ → List Asked) → List Asked
in_turn len ws f = flat_map (λ at. f (axis_of (word_at ws at)) at) (starts len ws)

-- the questions of the record that starts there, if there is one
abbrev pub at_start : (ℕ → List Asked) → Option ℕ → List Asked
at_start f None = []
at_start f (Some at) = f at

-- the questions of the records of axes 1, 2 and 3
abbrev pub by_axis : (Option AxisId → ℕ → List Asked) → ByAxis (Option ℕ) → List Asked
by_axis f s = at_start (f (Some One)) s.one ++ (at_start (f (Some Two)) s.two ++ at_start (f (Some Three)) s.three)

-- the record that starts there, whose value depends on where it starts
abbrev pub record_from : {X : Type 0} → (ℕ → X) → Option ℕ → Option (Record X)
record_from g None = None
record_from g (Some at) = Some (record { word = at; value = g at })

-- the records of the axes
abbrev pub records_from : {X : Type 0} → (ℕ → X) → ByAxis (Option ℕ) → ByAxis (Option (Record X))
records_from g s = record { one = record_from g s.one; two = record_from g s.two; three = record_from g s.three }

-- the same for records whose words were read: the questions of one of them, if it is there
abbrev pub of_record : {X : Type 0} → (X → ℕ → List Asked) → Option (Record X) → List Asked
of_record f None = []
of_record f (Some r) = f r.value r.word

-- the questions of the records of axes 1, 2 and 3
abbrev pub by_record : {X : Type 0} → (Option AxisId → X → ℕ → List Asked) → ByAxis (Option (Record X)) → List Asked
by_record f rs = of_record (f (Some One)) rs.one ++ (of_record (f (Some Two)) rs.two ++ of_record (f (Some Three)) rs.three)

-- a record with a value that is made of its own
abbrev pub revalued : {X Y : Type 0} → (X → Y) → Option (Record X) → Option (Record Y)
revalued g None = None
revalued g (Some r) = Some (record { word = r.word; value = g r.value })

abbrev pub all_revalued : {X Y : Type 0} → (X → Y) → ByAxis (Option (Record X)) → ByAxis (Option (Record Y))
all_revalued g rs = record { one = revalued g rs.one; two = revalued g rs.two; three = revalued g rs.three }

-- the indices of a record's words fit their type
abbrev pub Room : {X : Type 0} → Option (Record X) → Type 0
Room None = Unit {0}
Room (Some r) = r.word + 17 < 2 ^ 64

pub record Rooms {X : Type 0} (rs : ByAxis (Option (Record X))) : Type 0 where
  pub one_room : Room rs.one
  pub two_room : Room rs.two
  pub three_room : Room rs.three
