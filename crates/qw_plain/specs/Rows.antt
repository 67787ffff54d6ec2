-- The rows that a table of FROM has where it is typed (ISO/IEC 9075:1992, 7.4).
use Rattle.std.specs.Prelude.{List, map}
use Rattle.std.specs.List.{AllByRecursion}
use Rattle.qw_types.specs.Contents.{rows_of}
use Rattle.qw_types.specs.Kind.{IsRowOf, type_kind}
use Rattle.qw_types.specs.declared.value.Val.{Val}
use Rattle.qw_meaning.specs.Select.{Entry, types_of}

-- the table that an entry names has rows of the entry's columns: a value of each one's kind, in their order
abbrev pub HasRowsOf : List (List (List Val)) → Entry → Type 0
HasRowsOf tables entry = AllByRecursion (IsRowOf (map type_kind (types_of entry.columns))) (rows_of tables entry.table)
