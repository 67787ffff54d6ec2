-- What a table file stands for: records of comma-separated values, the first of which names the columns.
use Rattle.std.specs.Prelude.{◌≡◌, ◌≢◌, ◌⊎◌, ◌≤◌, ◌+◌, ℕ, zero, suc, Bool, true, false, List, [], ◌∷◌, ◌++◌, length, map, Option, None}
use Rattle.std.specs.Char.{to_ascii_lowercase}
use Rattle.csv.specs.Machine.{next_record}
use Rattle.csv.specs.Reading.{AreRecords, Reached, default_config, strip_bom}
use Rattle.csv.specs.declared.parser.State.{State}
use Rattle.csv.specs.declared.parser.State.TheVariants.{StartRecord}
use Rattle.qw_types.specs.declared.schema.Column.{Column}
use Rattle.qw_types.specs.declared.schema.Table.{Table}
use Rattle.qw_types.specs.Contents.{column_type}
use Rattle.qw_types.specs.Limits.{most_rows}
use Rattle.qw_types.specs.declared.schema.ColumnType.{ColumnType}
use Rattle.qw_types.specs.declared.value.Val.{Val}
use Rattle.qw_csv.specs.Field.{IsFieldFault, IsFieldOf}
use Rattle.qw_csv.specs.declared.cell.CellFault.{CellFault}
use Rattle.qw_csv.specs.declared.loading.LoadFault.{LoadFault}
use Rattle.qw_csv.specs.declared.loading.LoadFault.TheVariants as fault

-- a record stands for a row: it has a field for each column, which stands for the value there
abbrev pub IsRecordOf : (null : Option (List ℕ)) → List Column → List (List ℕ) → List Val → Type 0
IsRecordOf null [] [] [] = Unit {0}
IsRecordOf null (column ∷ columns) (field ∷ fields) (value ∷ values) = IsFieldOf null column field value × IsRecordOf null columns fields values
IsRecordOf null _ _ _ = ⊥

-- records stand for rows, one for one
abbrev pub AreRecordsOf : (null : Option (List ℕ)) → List Column → List (List (List ℕ)) → List (List Val) → Type 0
AreRecordsOf null columns [] [] = Unit {0}
AreRecordsOf null columns (record' ∷ records) (row ∷ rows) = IsRecordOf null columns record' row × AreRecordsOf null columns records rows
AreRecordsOf null columns _ _ = ⊥

-- a record names the columns in their order, the case of ASCII letters aside
abbrev pub IsHeader : List Column → List (List ℕ) → Type 0
IsHeader columns fields = map (λ field. map to_ascii_lowercase field) fields ≡ map (λ (c : Column). map to_ascii_lowercase c.name) columns

-- the first records of a file, or of one part of it (RFC 4180): commas part their fields, which may stand between double quotes. One byte
-- order mark at its start is passed over, and so are empty lines
abbrev pub AreFirstRecords : List ℕ → List (List (List ℕ)) → Type 0
AreFirstRecords bytes records = (state : State) × (rest : List ℕ) × Reached default_config StartRecord (strip_bom bytes) records state rest

-- all records of it
abbrev pub AreAllRecords : List ℕ → List (List (List ℕ)) → Type 0
AreAllRecords bytes records = AreRecords default_config StartRecord (strip_bom bytes) records

-- one part of a table's file stands for these rows: its own first record names the columns
pub record IsPartOf (table : Table) (null : Option (List ℕ)) (bytes : List ℕ) (rows : List (List Val)) : Type 0 where
  pub header : List (List ℕ)
  pub records : List (List (List ℕ))
  pub all : AreAllRecords bytes (header ∷ records)
  pub named : IsHeader table.columns header
  pub each : AreRecordsOf null table.columns records rows

-- parts stand for these rows: those of the first one, and then those of the others in their order
abbrev pub ArePartsOf : Table → (null : Option (List ℕ)) → (parts : List (List ℕ)) → List (List Val) → Type 0
ArePartsOf table null [] rows = rows ≡ []
ArePartsOf table null (bytes ∷ parts) rows = (first later : List (List Val)) × (rows ≡ first ++ later)
    × IsPartOf table null bytes first × ArePartsOf table null parts later

-- the file of a table, in one or more parts, stands for these rows
pub record LoadsParts (table : Table) (null : Option (List ℕ)) (parts : List (List ℕ)) (rows : List (List Val)) : Type 0 where
  pub some : 1 ≤ length parts
  pub each : ArePartsOf table null parts rows
  pub few : length rows ≤ most_rows

-- the same of a file in one part, where no text stands for null
abbrev pub Loads : Table → List ℕ → List (List Val) → Type 0
Loads table bytes rows = IsPartOf table None bytes rows × (length rows ≤ most_rows)

-- a part begins with the header and records for these rows, and then comes this record
pub record Follows (table : Table) (null : Option (List ℕ)) (bytes : List ℕ) (rows : List (List Val)) (next : List (List ℕ)) : Type 0 where
  pub header : List (List ℕ)
  pub records : List (List (List ℕ))
  pub first : AreFirstRecords bytes (header ∷ (records ++ next ∷ []))
  pub named : IsHeader table.columns header
  pub each : AreRecordsOf null table.columns records rows

-- the first field that is at fault, by its column's index counted from 0: those before it stand for values
abbrev pub IsFirstFieldFault : (null : Option (List ℕ)) → List Column → List (List ℕ) → ℕ → CellFault → Type 0
IsFirstFieldFault null (column ∷ columns) (field ∷ fields) zero why = IsFieldFault null column field why
IsFirstFieldFault null (column ∷ columns) (field ∷ fields) (suc index) why =
    (value : Val) × IsFieldOf null column field value × IsFirstFieldFault null columns fields index why
IsFirstFieldFault null _ _ index why = ⊥

-- what is wrong with the data record of this number, counted from 1 in its part, where the parts before have so many rows
abbrev pub IsRecordFault : (null : Option (List ℕ)) → List Column → (before number : ℕ) → List (List ℕ) → LoadFault → Type 0
IsRecordFault null columns before number fields fault.TooManyRows = before + number ≡ most_rows + 1
IsRecordFault null columns before number fields (fault.FieldCount row) =
    (before + number ≤ most_rows) × (row ≡ number) × (length fields ≢ length columns)
IsRecordFault null columns before number fields (fault.Field row index why) =
    (before + number ≤ most_rows) × (row ≡ number) × (length fields ≡ length columns) × IsFirstFieldFault null columns fields index why
IsRecordFault null columns before number fields fault.BadHeader = ⊥
IsRecordFault null columns before number fields fault.NoMemory = ⊥

-- the first fault of a part, read from its start; what comes after the record at fault plays no part
abbrev pub IsFaultOf : Table → (null : Option (List ℕ)) → (before : ℕ) → List ℕ → LoadFault → Type 0
IsFaultOf table null before bytes fault.BadHeader = AreAllRecords bytes []
    ⊎ ((header : List (List ℕ)) × AreFirstRecords bytes (header ∷ []) × (IsHeader table.columns header → ⊥))
IsFaultOf table null before bytes why = (rows : List (List Val)) × (next : List (List ℕ))
    × Follows table null bytes rows next × IsRecordFault null table.columns before (length rows + 1) next why

-- the first fault of the file of a table in parts, and the number of its part, counted from 1: the parts before it have none, and stand for rows; those
-- after it play no part
pub record IsFirstPartFault (table : Table) (null : Option (List ℕ)) (parts : List (List ℕ)) (part : ℕ) (why : LoadFault) : Type 0 where
  pub front : List (List ℕ)
  pub bytes : List ℕ
  pub behind : List (List ℕ)
  pub rows : List (List Val)
  pub split : parts ≡ front ++ bytes ∷ behind
  pub number : part ≡ length front + 1
  pub before : ArePartsOf table null front rows
  pub few : length rows ≤ most_rows
  pub fault : IsFaultOf table null (length rows) bytes why

-- the same of a file in one part, where no text stands for null
abbrev pub IsFirstFault : Table → List ℕ → LoadFault → Type 0
IsFirstFault table bytes why = IsFaultOf table None 0 bytes why

-- ---- a file that comes in pieces

-- in any file that begins with these octets these are the first records, and then come those of what waits to be read with what follows
abbrev pub LeavesToRead : (given : List ℕ) → List (List (List ℕ)) → (waiting : List ℕ) → Type 0
LeavesToRead given records waiting = (behind : List ℕ) → (state : State) × (rest : List ℕ)
    × Reached default_config StartRecord (strip_bom (given ++ behind)) records state rest
    × (next_record default_config state [] [] rest ≡ next_record default_config StartRecord [] [] (strip_bom (waiting ++ behind)))

-- rows are those of the parts before, and then those that records stand for
abbrev pub AreRecordsBehind : (null : Option (List ℕ)) → List Column → (before : List (List Val)) → List (List (List ℕ)) → List (List Val) → Type 0
AreRecordsBehind null columns before records rows = (here : List (List Val)) × (rows ≡ before ++ here) × AreRecordsOf null columns records here

-- the first records of a part are none, or its header and those that stand for these rows behind those of the parts before
abbrev pub AreTaken : (null : Option (List ℕ)) → List Column → (before : List (List Val)) → List (List (List ℕ)) → (named : Bool) → List (List Val) → Type 0
AreTaken null columns before [] false rows = (rows ≡ before) × (length rows ≤ most_rows)
AreTaken null columns before (header ∷ records) true rows =
    IsHeader columns header × AreRecordsBehind null columns before records rows × (length rows ≤ most_rows)
AreTaken null columns before _ _ rows = ⊥

-- what was made of parts and of the front of one more: rows of columns of these types, how many of them are of the whole parts, whether the part's header
-- came, and the octets that aren't read yet
pub record Progress : Type 0 where
  pub columns : List ColumnType
  pub rows : List (List Val)
  pub before : ℕ
  pub named : Bool
  pub waiting : List ℕ

-- that was made of these octets, as the front of one more part, behind parts that stand for these rows
pub record HasTakenOf (table : Table) (null : Option (List ℕ)) (before : List (List Val)) (progress : Progress) (given : List ℕ) : Type 0 where
  pub many : progress.before ≡ length before
  pub records : List (List (List ℕ))
  pub leaves : LeavesToRead given records progress.waiting
  pub taken : AreTaken null table.columns before records progress.named progress.rows
  pub columns : progress.columns ≡ map column_type table.columns

-- that was made of these whole parts of the file of a table, and of these octets as the front of the next one
abbrev pub HasTaken : Table → (null : Option (List ℕ)) → (parts : List (List ℕ)) → Progress → (given : List ℕ) → Type 0
HasTaken table null parts progress given = (before : List (List Val)) × ArePartsOf table null parts before × HasTakenOf table null before progress given
