-- Mirrors `push_entered` of `src/sink.rt`: a row's values, which are in fields, are taken by the entry of its group or by the areas of the one group.
use Rattle.std.specs.Prelude.{ℕ, List}
use Rattle.qw_module.specs.declared.instruction.ValType.{ValType}
use Rattle.qw_low.specs.Syntax.{Statement}
use Rattle.qw_table.specs.declared.key.Field.{Field}
use Rattle.qw_group.specs.Areas.{area_types}
use Rattle.qw_group.specs.Groups.{Groups, UpdatesAreas, group_types}
use Rattle.qw_operator.specs.Grouping.{Group, aggregates_of, key_fields, over_fields}
use Rattle.qw_operator.specs.declared.group.Place.{Place}
use Rattle.qw_operator.specs.declared.group.Place.TheVariants as places

abbrev pub Enters : Place → (directory free : ℕ) → Group → List Field → Statement → Type 0
Enters places.Table directory free g fields a = Groups directory (key_fields g fields) (aggregates_of g fields) free a
Enters places.OneGroup directory free g fields a = UpdatesAreas directory 0 free (over_fields g.functions fields) a

-- the locals of its own
abbrev pub put_types : Place → List ValType
put_types places.Table = group_types
put_types places.OneGroup = area_types
