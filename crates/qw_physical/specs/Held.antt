-- What pipelines put into memory: the directories of tables, their entries, and result rows.
use Rattle.std.specs.Prelude.{ℕ, ◌+◌, ◌*◌, List, [], ◌∷◌, ◌++◌, length}
use Rattle.std.specs.List.{filter}
use Rattle.qw_types.specs.declared.value.Val.{Val}
use Rattle.qw_layout.specs.Row.{entry_size}
use Rattle.qw_algebra.specs.Columns.{is_of}
use Rattle.qw_physical.specs.Courses.{pipeline_fed}
use Rattle.qw_physical.specs.Physical.{Pipeline, Sink, build, select}
use Rattle.qw_physical.specs.declared.pipeline.ReadColumn.{ReadColumn}

-- how many columns of some entries of FROM are kept
abbrev pub kept_of : List ReadColumn → (entries : List ℕ) → ℕ
kept_of columns entries = length (filter (λ (c : ReadColumn). is_of entries c.number) columns)

-- the octets of one entry, or of one result row
abbrev pub sink_size : Sink → ℕ
sink_size (build b) = entry_size (length b.key) (length b.kept) 0
sink_size (select items) = 8 + 16 * length items

-- of so many, with the table's directory
abbrev pub sink_octets : Sink → (rows : ℕ) → ℕ
sink_octets (build b) rows = 4096 + rows * entry_size (length b.key) (length b.kept) 0
sink_octets (select items) rows = rows * (8 + 16 * length items)

-- of pipelines that ran and left tables, and of the next one, which may raise an exception
abbrev pub held : (tables built : List (List (List Val))) → List Pipeline → (more : List (List (List Val))) → ℕ
held tables built [] more = 0
held tables built (p ∷ ps) [] = sink_octets p.sink (length (pipeline_fed tables built p).rows)
held tables built (p ∷ ps) (entries ∷ more) = sink_octets p.sink (length entries) + held tables (built ++ entries ∷ []) ps more
