-- The worked case: over the table ITEM of docs/FORMATS.md, SELECT ID, PRICE FROM ITEM WHERE LABEL = 'pen' ORDER BY PRICE DESC.
use Rattle.std.specs.Prelude.{true, false, List, [], ◌∷◌, None, codes}
use Rattle.qw_types.specs.declared.kind.Kind.TheVariants as kind
use Rattle.qw_types.specs.declared.schema.Table.{Table}
use Rattle.qw_types.specs.declared.value.Ty.TheVariants as ty
use Rattle.qw_module.specs.declared.module.Import.{Import}
use Rattle.qw_module.specs.declared.module.Import.TheVariants as import
use Rattle.qw_map.specs.Layout.{Layout}
use Rattle.qw_sink.specs.declared.sink.Head.{Head}

-- CREATE TABLE ITEM (ID INTEGER NOT NULL, PRICE DECIMAL(9, 2), SOLD DATE, LABEL VARCHAR(10))
abbrev pub item_table : Table
item_table = record {
  name = codes "ITEM";
  columns =
      record { name = codes "ID"; ty = ty.Integer; not_null = true }
      ∷ record { name = codes "PRICE"; ty = ty.Decimal 9 2; not_null = false }
      ∷ record { name = codes "SOLD"; ty = ty.Date; not_null = false }
      ∷ record { name = codes "LABEL"; ty = ty.Varchar 10; not_null = false } ∷ [];
}

-- what a module imports (docs/FORMATS.md)
abbrev pub module_imports : List Import
module_imports = import.Memory (record { min = 1; max = None }) ∷ import.Raise 0 ∷ import.Pages 1 ∷ []

-- LABEL is named first, in WHERE, and then the columns of the select list
abbrev pub pens_layout : Layout
pens_layout = record {
  columns =
      record { table = 0; column = 3; ty = ty.Varchar 10; not_null = false }
      ∷ record { table = 0; column = 0; ty = ty.Integer; not_null = true }
      ∷ record { table = 0; column = 1; ty = ty.Decimal 9 2; not_null = false } ∷ [];
  literals = codes "pen";
  cells = kind.Number 0 ∷ kind.Number 2 ∷ [];
}

abbrev pub pens_header : List Head
pens_header = record { name = codes "ID"; kind = kind.Number 0 } ∷ record { name = codes "PRICE"; kind = kind.Number 2 } ∷ []
