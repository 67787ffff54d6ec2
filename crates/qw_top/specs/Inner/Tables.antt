-- Mirrors the functions of `table_file`: how the files of a table are taken one after another, and why they aren't loaded.
use Rattle.std.specs.Prelude.{◌≡◌, ◌≤◌, ◌+◌, ℕ, List, [], ◌∷◌, ◌++◌, length}
use Rattle.std.specs.String.{string_bytes}
use Rattle.qw_types.specs.declared.schema.Table.{Table}
use Rattle.qw_types.specs.declared.value.Val.{Val}
use Rattle.qw_csv.specs.Loading.{HasTaken, IsFirstPartFault, LoadsParts, Progress}
use Rattle.qw_csv.specs.declared.loading.LoadFault.{LoadFault}
use Rattle.qw_csv.specs.declared.loading.LoadFault.TheVariants as load
use Rattle.qw_top.specs.declared.files.ReadFault.{ReadFault}
use Rattle.qw_top.specs.declared.files.ReadFault.TheVariants as read
use Rattle.qw_top.specs.declared.table_file.FileFault.{FileFault}
use Rattle.qw_top.specs.declared.table_file.FileFault.TheVariants as file
use Rattle.qw_top.specs.declared.table_file.TableFault.{TableFault}
use Rattle.qw_top.specs.declared.table_file.TableFault.TheVariants.{TooLong, Unread, Content, NoMemory}
use Rattle.qw_top.specs.FileNames.{file_of, files_in}
use Rattle.qw_top.specs.Limits.{most_table_octets}
use Rattle.qw_top.specs.Top.{Files, HoldFrom, IsFaultyPart, IsFile, IsLongPart, IsTableFile, IsTooLong, Names}

-- ---- one file

-- a loader at the start of a part has come to another by these octets
abbrev pub Takes : (table : Table) → (names : Names) → (start next : Progress) → (bytes : List ℕ) → Type 0
Takes table names start next bytes = (parts : List (List ℕ)) → HasTaken table names.null parts start [] → HasTaken table names.null parts next bytes

-- a part of these octets is at fault, whatever parts follow
abbrev pub Fails : (table : Table) → (names : Names) → (start : Progress) → (bytes : List ℕ) → LoadFault → Type 0
Fails table names start bytes fault = (parts further : List (List ℕ)) → HasTaken table names.null parts start [] →
    IsFirstPartFault table names.null (parts ++ bytes ∷ further) (length parts + 1) fault

-- the part has ended
abbrev pub Ends : (table : Table) → (names : Names) → (start next : Progress) → (bytes : List ℕ) → Type 0
Ends table names start next bytes = (parts : List (List ℕ)) → HasTaken table names.null parts start [] → HasTaken table names.null (parts ++ bytes ∷ []) next []

-- and it was the last one
abbrev pub Finishes : (table : Table) → (names : Names) → (start : Progress) → (rows : List (List Val)) → (bytes : List ℕ) → Type 0
Finishes table names start rows bytes = (parts : List (List ℕ)) → HasTaken table names.null parts start [] → LoadsParts table names.null (parts ++ bytes ∷ []) rows

-- ---- why a file isn't taken

-- the file of this name couldn't be read
abbrev pub IsUnreadFile : (name : List ℕ) → TableFault → Type 0
IsUnreadFile name (Unread other) = string_bytes other ≡ name
IsUnreadFile name _ = ⊥

-- it is a fault of the reading, of the records, or of either, in the file of this number and this name
abbrev pub IsInRead : (part : ℕ) → (name : List ℕ) → ReadFault → TableFault → Type 0
IsInRead part name read.TooLong fault = fault ≡ TooLong part
IsInRead part name read.Failed fault = IsUnreadFile name fault
IsInRead part name read.NoMemory fault = fault ≡ NoMemory

abbrev pub IsInLoad : (part : ℕ) → LoadFault → TableFault → Type 0
IsInLoad part why fault = (why ≡ load.NoMemory → fault ≡ NoMemory) × ((why ≡ load.NoMemory → ⊥) → fault ≡ Content part why)

abbrev pub IsInFile : (part : ℕ) → (name : List ℕ) → FileFault → TableFault → Type 0
IsInFile part name (file.Unread why) fault = IsInRead part name why fault
IsInFile part name (file.Content why) fault = IsInLoad part why fault

-- It is a fault of the file of this number: it is too long, it couldn't be read, or its records are at fault, of which this holds.
abbrev pub IsFileFault : Files → Names → (table : List ℕ) → (part : ℕ) → (content : LoadFault → Type 0) → TableFault → Type 0
IsFileFault files names table part content (TooLong number) =
    (number ≡ part) × IsTooLong files (file_of names.folder names.parts table part) most_table_octets
IsFileFault files names table part content (Unread name) = string_bytes name ≡ file_of names.folder names.parts table part
IsFileFault files names table part content (Content number fault) = (number ≡ part) × content fault
IsFileFault files names table part content NoMemory = Unit {0}

-- the file of this number is within the limit, and its octets have the property
abbrev pub OfPart : Files → Names → (table : List ℕ) → (part : ℕ) → (List ℕ → Type 0) → Type 0
OfPart files names table part P = (bytes : List ℕ) × IsFile files (file_of names.folder names.parts table part) most_table_octets bytes × P bytes

-- ---- why the files of a table aren't loaded

-- It is a fault of a table's files: one is too long, or couldn't be read, those before it being within the limit; or the records of one are
-- at fault, of which this holds.
abbrev pub IsTableFault : Files → Names → Table → (content : ℕ → LoadFault → Type 0) → TableFault → Type 0
IsTableFault files names table content (TooLong part) = IsLongPart files names table part
IsTableFault files names table content (Unread name) = IsTableFile files names table.name (string_bytes name)
IsTableFault files names table content (Content part fault) = content part fault
IsTableFault files names table content NoMemory = Unit {0}

-- the files up to the one of this number are within the limit, and their first fault is in this one, whatever files follow
pub record IsFaultyFront (files : Files) (names : Names) (table : Table) (part : ℕ) (fault : LoadFault) : Type 0 where
  pub parts : List (List ℕ)
  pub held : HoldFrom files names table.name parts 1
  pub last : length parts ≡ part
  pub few : part ≤ files_in names.parts
  pub fails : (further : List (List ℕ)) → IsFirstPartFault table names.null (parts ++ further) part fault

-- the files of a table aren't loaded for this fault
abbrev pub IsUnloaded : Files → Names → Table → TableFault → Type 0
IsUnloaded files names table fault = IsTableFault files names table (IsFaultyPart files names table) fault
