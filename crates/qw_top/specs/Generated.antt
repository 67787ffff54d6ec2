-- The files of generated input, which a run reads in place of those of a folder.
use Rattle.std.specs.Prelude.{ℕ, List, [], Option, Some, None, if◌then◌else◌, codes}
use Rattle.std.specs.Str.{bytes_eq}
use Rattle.qw_generate.specs.Generated.{queries_text, sale_text, schema_text, shop_text}
use Rattle.qw_command_line.specs.Words.{Names}
use Rattle.qw_top.specs.Top.{Files}

-- their names
abbrev pub generated_names : Names
generated_names = record { schema = codes "schema.sql"; folder = codes "."; queries = codes "queries.sql"; null = None; parts = None }

-- The text of the file of a name, of these four. A file of any other name, which no run asks for, is empty.
abbrev pub text_named : (schema sale shop queries : List ℕ) → (name : List ℕ) → List ℕ
text_named schema sale shop queries name =
    if bytes_eq name (codes "schema.sql") then schema
    else (if bytes_eq name (codes "./sale.csv") then sale
    else (if bytes_eq name (codes "./shop.csv") then shop
    else (if bytes_eq name (codes "queries.sql") then queries else [])))

-- the files that a seed and a number of rows of SALE generate, each of which is told
abbrev pub told_generated : (seed rows : ℕ) → List ℕ → Option (List ℕ)
told_generated seed rows name = Some (text_named schema_text (sale_text seed rows) shop_text queries_text name)

abbrev pub generated_files : (seed rows : ℕ) → Files
generated_files seed rows = Some (told_generated seed rows)
