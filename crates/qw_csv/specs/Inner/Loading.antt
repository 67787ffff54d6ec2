-- Mirrors the functions of `loading`: the state of the reader between two calls of `next_record`, and what the records of a text add to those before.
use Rattle.std.specs.Prelude.{◌≡◌, ◌≤◌, ◌+◌, ℕ, Bool, List, [], ◌∷◌, ◌++◌, length, Option, Some, true}
use Rattle.std.specs.Borrow.{Bor}
use Rattle.csv.specs.Reading.{AreRecords, Reached, Ready, default_config, source_of}
use Rattle.csv.specs.declared.parser.State.{State}
use Rattle.csv.specs.declared.parser.State.TheVariants.{StartRecord}
use Rattle.csv.specs.declared.reader.Reader.{Reader}
use Rattle.csv.specs.declared.reader.Trim.TheVariants as trim
use Rattle.qw_types.specs.Limits.{most_rows}
use Rattle.qw_types.specs.declared.schema.Column.{Column}
use Rattle.qw_types.specs.declared.schema.Table.{Table}
use Rattle.qw_types.specs.declared.value.Val.{Val}
use Rattle.qw_csv.specs.Loading.{AreRecordsBehind, AreRecordsOf, AreTaken, IsHeader, IsPartOf, IsRecordFault}
use Rattle.qw_csv.specs.declared.loading.LoadFault.{LoadFault}
use Rattle.qw_csv.specs.declared.loading.LoadFault.TheVariants.{BadHeader}

-- a reader that has given these records of a text, and goes on after them; the next may have any number of fields
pub record HasRead (reader : Reader (Bor (List ℕ))) (text : List ℕ) (records : List (List (List ℕ))) : Type 0 where
  pub ready : Ready reader
  pub untrimmed : reader.trim ≡ trim.None
  pub flexible : reader.flexible ≡ true
  pub config : reader.config ≡ default_config
  pub rest : List ℕ
  pub source : source_of (λ (s : Bor (List ℕ)). Some s.now) reader ≡ Some rest
  pub reached : Reached default_config StartRecord text records reader.state rest

-- the rows of the parts before, and those of a whole part behind them
pub record IsWhole (table : Table) (null : Option (List ℕ)) (before : List (List Val)) (bytes : List ℕ) (rows : List (List Val)) : Type 0 where
  pub here : List (List Val)
  pub is : rows ≡ before ++ here
  pub part : IsPartOf table null bytes here
  pub few : length rows ≤ most_rows

-- all records of a text were taken behind others
pub record TakesAll (null : Option (List ℕ)) (columns : List Column) (before : List (List Val)) (text : List ℕ) (records : List (List (List ℕ))) (named : Bool) (rows : List (List Val)) : Type 0 where
  pub more : List (List (List ℕ))
  pub all : AreRecords default_config StartRecord text more
  pub taken : AreTaken null columns before (records ++ more) named rows

-- a record is at fault behind others: as the header, or as a data record
abbrev pub IsWrongNext : Option (List ℕ) → List Column → (before : ℕ) → List (List (List ℕ)) → List (List ℕ) → LoadFault → Type 0
IsWrongNext null columns before [] next e = (e ≡ BadHeader) × (IsHeader columns next → ⊥)
IsWrongNext null columns before (header ∷ records) next e = IsHeader columns header
    × ((rows : List (List Val)) × AreRecordsOf null columns records rows × IsRecordFault null columns before (length rows + 1) next e)

-- some records of a text were taken behind others, and then came one at fault
pub record TakesFault (null : Option (List ℕ)) (columns : List Column) (before : ℕ) (text : List ℕ) (records : List (List (List ℕ))) (e : LoadFault) : Type 0 where
  pub more : List (List (List ℕ))
  pub next : List (List ℕ)
  pub state : State
  pub rest : List ℕ
  pub reached : Reached default_config StartRecord text (more ++ next ∷ []) state rest
  pub wrong : IsWrongNext null columns before (records ++ more) next e

-- the same of the rows alone: all data records of a text after those that were read of it
pub record TakesRows (null : Option (List ℕ)) (columns : List Column) (before : List (List Val)) (text : List ℕ) (read old : List (List (List ℕ))) (rows : List (List Val)) : Type 0 where
  pub more : List (List (List ℕ))
  pub all : AreRecords default_config StartRecord text (read ++ more)
  pub each : AreRecordsBehind null columns before (old ++ more) rows

-- and one at fault
pub record TakesWrong (null : Option (List ℕ)) (columns : List Column) (before : ℕ) (text : List ℕ) (read old : List (List (List ℕ))) (e : LoadFault) : Type 0 where
  pub more : List (List (List ℕ))
  pub next : List (List ℕ)
  pub rows : List (List Val)
  pub state : State
  pub rest : List ℕ
  pub reached : Reached default_config StartRecord text ((read ++ more) ++ next ∷ []) state rest
  pub each : AreRecordsOf null columns (old ++ more) rows
  pub wrong : IsRecordFault null columns before (length rows + 1) next e
