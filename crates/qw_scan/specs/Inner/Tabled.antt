-- Mirrors `Tables`: what the tables of a module's octets say of what its outline stands for.
use Rattle.std.specs.Prelude.{◌≡◌, ℕ, List, ◌++◌, map, All}
use Rattle.std.specs.List.{filter_map}
use Rattle.qw_module.specs.Validity.{imported_function}
use Rattle.qw_binary.specs.Contents.{GlobalContents}
use Rattle.qw_scan.specs.declared.outline.Outline.{Outline}
use Rattle.qw_scan.specs.declared.tables.Tables.{Tables}
use Rattle.qw_scan.specs.Inner.Outlines.{indices_in, contents_in}
use Rattle.qw_scan.specs.Inner.TypesAt.{signature_at, IsTypeAt}
use Rattle.qw_scan.specs.Inner.Tables.{global_of}

pub record IsTabled (whole : List ℕ) (o : Outline) (t : Tables) : Type 0 where
  pub type_offsets : All (IsTypeAt whole) t.types.items
  pub types : map (signature_at whole) t.types.items ≡ (contents_in whole o).types
  pub imports : t.imports.items ≡ (contents_in whole o).imports
  pub functions : t.functions.items ≡ filter_map imported_function (contents_in whole o).imports ++ indices_in whole o
  pub globals : map global_of t.globals.items ≡ map (λ (global : GlobalContents). global.type) (contents_in whole o).globals
