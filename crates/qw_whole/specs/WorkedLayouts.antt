-- The query and the columns of the worked cases of layouts, over ITEM of `WorkedQueries` in qw_meaning.
use Rattle.std.specs.Prelude.{false, true, pos, [], ◌∷◌}
use Rattle.qw_types.specs.declared.value.Ty.TheVariants.{Integer, Varchar}
use Rattle.qw_scalar.specs.declared.comparison.Comparison.TheVariants.{Equal, Greater}
use Rattle.qw_scalar.specs.Expression.{comparison, number, text}
use Rattle.qw_scalar.specs.WorkedRows.{pen}
use Rattle.qw_meaning.specs.Select.{alone}
use Rattle.qw_meaning.specs.WorkedQueries.{items_entry}
use Rattle.qw_grouped.specs.Whole.{Whole, plain}
use Rattle.qw_grouped.specs.WorkedGroups.{id, label}
use Rattle.qw_map.specs.declared.layout.Used.{Used}

-- SELECT LABEL FROM ITEM WHERE ID > 2 AND LABEL = 'pen'
abbrev pub pens_from_two : Whole
pens_from_two = record {
  body = plain (record {
    sources = alone items_entry ∷ [];
    conjuncts = comparison Greater id (number (pos 2) 0) ∷ comparison Equal label (text pen) ∷ [];
    items = label ∷ [];
  });
  distinct = false;
}

-- ID and LABEL of ITEM, as a layout has them
abbrev pub id_column : Used
id_column = record { table = 3; column = 0; ty = Integer; not_null = true }

abbrev pub label_column : Used
label_column = record { table = 3; column = 3; ty = Varchar 20; not_null = false }
