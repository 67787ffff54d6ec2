-- Where the files of a table lie.
use Rattle.std.specs.Prelude.{ℕ, List, Option, Some, None, ◌++◌, map, codes}
use Rattle.std.specs.Fmt.{decimal}
use Rattle.std.specs.Char.{to_ascii_lowercase}

-- the file of a table in a folder: the table's name in lower case, with the ending `.csv`
abbrev pub table_file_of : List ℕ → List ℕ → List ℕ
table_file_of folder table = folder ++ codes "/" ++ map to_ascii_lowercase table ++ codes ".csv"

-- the file of the part of this number: the same with the number before the ending
abbrev pub part_file_of : (folder table : List ℕ) → (part : ℕ) → List ℕ
part_file_of folder table part = folder ++ codes "/" ++ map to_ascii_lowercase table ++ codes "." ++ decimal part ++ codes ".csv"

-- The file of a table of this number, counted from 1: that of the part, where each table has so many parts; else the table's one file.
abbrev pub file_of : (folder : List ℕ) → (parts : Option ℕ) → (table : List ℕ) → (part : ℕ) → List ℕ
file_of folder None table part = table_file_of folder table
file_of folder (Some count) table part = part_file_of folder table part

-- how many files a table has
abbrev pub files_in : (parts : Option ℕ) → ℕ
files_in None = 1
files_in (Some count) = count

-- the number of a file as it is told: that of the part, and none where tables have no parts
abbrev pub told_part : (parts : Option ℕ) → (part : ℕ) → Option ℕ
told_part None part = None
told_part (Some count) part = Some part
