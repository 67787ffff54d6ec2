-- What a host is told of a compiled statement, in the terms of JSON (RFC 8259). An object's members stand in the order of their keys.
use Rattle.std.specs.Prelude.{ℕ, not, List, Option, Some, None, codes, map}
use Rattle.serde_json.specs.Data.{Data, null, boolean, number, unsigned, string, array, object, Members, member, no_members}
use Rattle.serde_json.specs.View.{items_of}
use Rattle.qw_types.specs.declared.kind.Kind.{Kind}
use Rattle.qw_types.specs.declared.kind.Kind.TheVariants as kind
use Rattle.qw_types.specs.declared.schema.Column.{Column}
use Rattle.qw_types.specs.declared.schema.Table.{Table}
use Rattle.qw_types.specs.declared.value.Ty.{Ty}
use Rattle.qw_types.specs.declared.value.Ty.TheVariants as ty
use Rattle.qw_module.specs.declared.module.Import.{Import}
use Rattle.qw_module.specs.declared.module.Import.TheVariants as import
use Rattle.qw_map.specs.Layout.{Layout}
use Rattle.qw_map.specs.declared.layout.Used.{Used}
use Rattle.qw_order.specs.declared.sort_key.SortKey.{SortKey}
use Rattle.qw_sink.specs.declared.sink.Head.{Head}

-- ---- JSON

-- an array of these values
abbrev pub list_of : List Data → Data
list_of values = array (items_of values)

-- a whole number
abbrev pub told_number : ℕ → Data
told_number n = number (unsigned n)

-- a whole number, or null where there is none
abbrev pub told_option : Option ℕ → Data
told_option None = null
told_option (Some n) = told_number n

-- an object that begins with its name, and more members behind it
abbrev pub named : List ℕ → Members → Data
named name more = object (member (codes "name") (string name) more)

-- ---- tables

-- The type of a column (ISO/IEC 9075:1992, 6.1), with its precision and scale, or its length in characters.
abbrev pub told_type : Ty → Data
told_type ty.Integer = named (codes "INTEGER") no_members
told_type (ty.Decimal precision scale) =
    named (codes "DECIMAL") (member (codes "precision") (told_number precision) (member (codes "scale") (told_number scale) no_members))
told_type ty.Date = named (codes "DATE") no_members
told_type (ty.Varchar length) = object (member (codes "length") (told_number length) (member (codes "name") (string (codes "VARCHAR")) no_members))

-- a column: its name as it is kept, whether it may be null, and its type
abbrev pub told_column : Column → Data
told_column column =
    named column.name (member (codes "null") (boolean (not column.not_null)) (member (codes "type") (told_type column.ty) no_members))

-- a table: its columns in their order, and its name as it is kept
abbrev pub told_table : Table → Data
told_table table =
    object (member (codes "columns") (list_of (map told_column table.columns)) (member (codes "name") (string table.name) no_members))

-- ---- what the module imports and reads

-- An import (WebAssembly Core Specification 1.0, 2.5.11), of a memory with its limits in pages, `max` being null where there is none.
abbrev pub told_import : Import → Data
told_import (import.Memory limits) =
    object (member (codes "kind") (string (codes "memory")) (member (codes "max") (told_option limits.max) (member (codes "min") (told_number limits.min)
    (member (codes "module") (string (codes "q")) (member (codes "name") (string (codes "memory")) no_members)))))
told_import (import.Raise type) =
    object (member (codes "kind") (string (codes "function")) (member (codes "module") (string (codes "q")) (member (codes "name") (string (codes "raise")) no_members)))
told_import (import.Pages type) =
    object (member (codes "kind") (string (codes "function")) (member (codes "module") (string (codes "q")) (member (codes "name") (string (codes "pages")) no_members)))

-- a column that the module reads: its place in its table, and the table's in the schema, each counted from 0
abbrev pub told_used : Used → Data
told_used used = object (member (codes "column") (told_number used.column) (member (codes "table") (told_number used.table) no_members))

-- ---- the result

-- the kind of a result column's values, of numbers with their scale
abbrev pub told_kind : Kind → Data
told_kind (kind.Number scale) = named (codes "NUMBER") (member (codes "scale") (told_number scale) no_members)
told_kind kind.Date = named (codes "DATE") no_members
told_kind kind.Text = named (codes "TEXT") no_members

-- a result column: the kind of its values, and its name
abbrev pub told_head : Head → Data
told_head head = object (member (codes "kind") (told_kind head.kind) (member (codes "name") (string head.name) no_members))

-- a key of ORDER BY (ISO/IEC 9075:1992, 13.1): whether it is DESC, and the result column, counted from 0
abbrev pub told_key : SortKey → Data
told_key key = object (member (codes "descending") (boolean key.is_descending) (member (codes "position") (told_number key.position) no_members))

-- ---- the whole

-- What a host is told: the columns that the module reads in the order of the descriptor's entries, its imports in their order, the octets of its
-- texts, the keys of its order, the result columns, and the tables of the schema.
unfoldable pub told : List Table → List Import → Layout → (header : List Head) → List SortKey → Data
told tables imports layout header keys =
    object (member (codes "columns") (list_of (map told_used layout.columns))
    (member (codes "imports") (list_of (map told_import imports))
    (member (codes "literals") (list_of (map told_number layout.literals))
    (member (codes "order") (list_of (map told_key keys))
    (member (codes "results") (list_of (map told_head header))
    (member (codes "tables") (list_of (map told_table tables)) no_members))))))
