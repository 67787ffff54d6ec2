-- The records of a file, and the rows or the fault that they stand for.
use Rattle.std.proofs.Common.{Bor, Bool, true, false, List, ℕ, map, ◌≡◌, ◌≤◌, ◌+◌, ◌∙◌, ◌∷◌, ◌++◌, [], length, take, drop, take_all, get_or, ◌-◌, inl, inr, refl, sym, ap, arith, append_assoc, length-append, Option, Some, None, Result, Ok, Err, ◌≢◌}
use Rattle.std.specs.Prelude.{IfOk, IfErr, ◌<◌}
use Rattle.std.proofs.lemmas.Bool.{false≢true}
use Rattle.std.specs.Char.{to_ascii_lowercase}
use Rattle.std.proofs.lemmas.List.{append-nil, length-drop, length-map, take-append-drop}
use Rattle.csv.specs.Reading.{AreRecords, Reached, default_config, is_bom, strip_bom}
use Rattle.csv.specs.declared.parser.State.{State}
use Rattle.csv.specs.declared.parser.State.TheVariants.{StartRecord}
use Rattle.csv.specs.declared.reader.Reader.{Reader}
use Rattle.qw_types.specs.Limits.{most_rows}
use Rattle.qw_types.specs.declared.schema.Column.{Column}
use Rattle.qw_types.specs.declared.schema.Table.{Table}
use Rattle.qw_types.specs.declared.value.Val.{Val}
use Rattle.qw_csv.specs.declared.loading.LoadFault.{LoadFault}
use Rattle.qw_csv.specs.declared.loading.LoadFault.TheVariants as fault
use Rattle.qw_csv.specs.Loading.{AreAllRecords, AreFirstRecords, AreRecordsBehind, AreRecordsOf, AreTaken, Follows, IsFaultOf, IsHeader, IsRecordFault, IsRecordOf, LeavesToRead, Loads}
use Rattle.qw_csv.specs.Inner.Loading.{HasRead, IsWhole, IsWrongNext, TakesAll, TakesFault, TakesRows, TakesWrong}
use Rattle.qw_csv.specs.Inner.Place.{IsAt, IsPlaced, after}
use Rattle.qw_csv.specs.Inner.Wide.{BeginsWide, IsTooWide}
use Rattle.qw_csv.specs.declared.loading.Taken.{Taken}
use Rattle.qw_csv.specs.declared.place.Place.{Place}
use Rattle.qw_csv.specs.declared.place.Place.TheVariants.{Fresh}
use Rattle.qw_csv.proofs.MachineLemmas.{after_both, leaves_at, leaves_rest, leaves_within, reached_grown, strip_line}
use Rattle.qw_csv.specs.Inner.Rows.{rows_in}
use Rattle.qw_csv.specs.declared.storage.Values.{Values}

-- ---- the records of a file

-- one more record stands for one more row
pub records_push : (null : Option (List ℕ)) (columns : List Column) (records : List (List (List ℕ))) (rows : List (List Val)) (next : List (List ℕ)) (row : List Val)
    → AreRecordsOf null columns records rows → IsRecordOf null columns next row → AreRecordsOf null columns (records ++ next ∷ []) (rows ++ row ∷ [])
records_push null columns [] [] next row h n = (n, tt)
records_push null columns [] (r ∷ rows) next row h n = absurd h
records_push null columns (x ∷ records) [] next row h n = absurd h
records_push null columns (x ∷ records) (r ∷ rows) next row h n = (h.0, records_push null columns records rows next row h.1 n)

-- a record at fault after the rows: the first fault of the part
fault_after : (table : Table) (null : Option (List ℕ)) (before : ℕ) (bytes : List ℕ) (rows : List (List Val)) (next : List (List ℕ)) (e : LoadFault)
    → Follows table null bytes rows next → IsRecordFault null table.columns before (length rows + 1) next e → IsFaultOf table null before bytes e
fault_after table null before bytes rows next fault.BadHeader f h = absurd h
fault_after table null before bytes rows next (fault.FieldCount row) f h = (rows, next, f, h)
fault_after table null before bytes rows next (fault.Field row index why) f h = (rows, next, f, h)
fault_after table null before bytes rows next fault.TooManyRows f h = (rows, next, f, h)
fault_after table null before bytes rows next fault.NoMemory f h = absurd h

-- ---- records that were taken, in one piece or in several

whole_taken : (table : Table) (null : Option (List ℕ)) (before : List (List Val)) (bytes : List ℕ) (records : List (List (List ℕ))) (rows : List (List Val))
    → AreAllRecords bytes records → AreTaken null table.columns before records true rows → IsWhole table null before bytes rows
whole_taken table null before bytes [] rows all taken = absurd taken
whole_taken table null before bytes (header ∷ records) rows all (named, (here, is, each), few) = record {
  here = here;
  is = is;
  part = record { header = header; records = records; all = all; named = named; each = each };
  few = few;
}

lacks_taken : (table : Table) (null : Option (List ℕ)) (before : List (List Val)) (bytes : List ℕ) (records : List (List (List ℕ))) (rows : List (List Val))
    → AreAllRecords bytes records → AreTaken null table.columns before records false rows → IsFaultOf table null (length before) bytes fault.BadHeader
lacks_taken table null before bytes [] rows all taken = inl all
lacks_taken table null before bytes (header ∷ records) rows all taken = absurd taken

fails_next : (table : Table) (null : Option (List ℕ)) (before : ℕ) (bytes : List ℕ) (records : List (List (List ℕ))) (next : List (List ℕ)) (e : LoadFault)
    → AreFirstRecords bytes (records ++ next ∷ []) → IsWrongNext null table.columns before records next e → IsFaultOf table null before bytes e
fails_next table null before bytes [] next e first wrong = rw wrong.0 (inr (next, first, wrong.1))
fails_next table null before bytes (header ∷ records) next e first wrong =
    let (named, (rows, each, fault)) = wrong in
    fault_after table null before bytes rows next e (record { header = header; records = records; first = first; named = named; each = each }) fault

-- behind those of which others wait to be read
module _ (table : Table) (null : Option (List ℕ)) (given waiting : List ℕ) (records : List (List (List ℕ))) (leaves : LeavesToRead given records waiting) where
  all_behind : (more : List (List (List ℕ))) → AreRecords default_config StartRecord (strip_bom waiting) more → AreAllRecords given (records ++ more)
  all_behind more (s, u, read, none) =
      let (s', v, reached, next) = leaves_at given waiting [] u records more s leaves (rw (append-nil waiting) read) in
      (s', v, rw (append-nil given) at reached, next ∙ none)

  pub loads_rest : (before : List (List Val)) (named : Bool) (rows : List (List Val)) → named ≡ true → TakesAll null table.columns before (strip_bom waiting) records named rows → IsWhole table null before given rows
  loads_rest before true rows is h = whole_taken table null before given (records ++ h.more) rows (all_behind h.more h.all) h.taken
  loads_rest before false rows is h = absurd (false≢true is)

  pub lacks_rest : (before : List (List Val)) (named : Bool) (rows : List (List Val)) → named ≡ false → TakesAll null table.columns before (strip_bom waiting) records named rows
      → IsFaultOf table null (length before) given fault.BadHeader
  lacks_rest before true rows is h = absurd (false≢true (sym is))
  lacks_rest before false rows is h = lacks_taken table null before given (records ++ h.more) rows (all_behind h.more h.all) h.taken

  pub fails_rest : (before : ℕ) (e : LoadFault) → TakesFault null table.columns before (strip_bom waiting) records e → IsFaultOf table null before given e
  fails_rest before e h =
      let (s', v, reached, next) = leaves_at given waiting [] h.rest records (h.more ++ h.next ∷ []) h.state leaves (rw (append-nil waiting) h.reached) in
      fails_next table null before given (records ++ h.more) h.next e (s', v, rw (append_assoc records h.more (h.next ∷ [])) (rw (append-nil given) at reached)) h.wrong

-- and of which more wait behind whole lines
module _ (table : Table) (null : Option (List ℕ)) (before : ℕ) (given line rest : List ℕ) (records : List (List (List ℕ))) (leaves : LeavesToRead given records ((10 ∷ line) ++ rest))
    (ends : after StartRecord (10 ∷ line) ≡ StartRecord) where
  pub takes_lines : (more : List (List (List ℕ))) → AreRecords default_config StartRecord (strip_bom (10 ∷ line)) more → LeavesToRead given (records ++ more) (10 ∷ rest)
  takes_lines more all = leaves_rest given line rest records more leaves ends (rw (strip_line line) at all)

  pub fails_lines : (behind : List ℕ) (e : LoadFault) → TakesFault null table.columns before (strip_bom (10 ∷ line)) records e → IsFaultOf table null before (given ++ behind) e
  fails_lines behind e h =
      let (s', v, reached, next, last) = leaves_within given line rest behind h.rest records (h.more ++ h.next ∷ []) h.state leaves ends (rw (strip_line line) at h.reached) in
      fails_next table null before (given ++ behind) (records ++ h.more) h.next e (s', v, rw (append_assoc records h.more (h.next ∷ [])) reached) h.wrong

-- no record of a part behind others
pub none_taken_yet : (null : Option (List ℕ)) (columns : List Column) (before : List (List Val)) (named : Bool) (rows : List (List Val)) → named ≡ false → rows ≡ before → length before ≤ most_rows
    → AreTaken null columns before [] named rows
none_taken_yet null columns before true rows is same few = absurd (false≢true (sym is))
none_taken_yet null columns before false rows is same few = (same, rw same few)

-- how many the rows before are
pub before_few : (null : Option (List ℕ)) (columns : List Column) (before : List (List Val)) (records : List (List (List ℕ))) (named : Bool) (rows : List (List Val))
    → AreTaken null columns before records named rows → length before ≤ most_rows
before_few null columns before [] true rows taken = absurd taken
before_few null columns before [] false rows (same, few) = rw same at few
before_few null columns before (header ∷ records) false rows taken = absurd taken
before_few null columns before (header ∷ records) true rows (named, (here, is, each), few) = omega (arith, few, ap length is, length-append before here)

-- a whole part behind no other
pub whole_first : (table : Table) (bytes : List ℕ) (rows : List (List Val)) → IsWhole table None [] bytes rows → Loads table bytes rows
whole_first table bytes rows h = (rw h.is h.part, h.few)

-- ---- the records of one text

-- all rows of it, behind its header or behind the rows before
pub all_rows : (null : Option (List ℕ)) (columns : List Column) (before : List (List Val)) (text : List ℕ) (header : List (List ℕ)) (old : List (List (List ℕ))) (rows : List (List Val)) → IsHeader columns header
    → length rows ≤ most_rows → TakesRows null columns before text [] old rows → TakesAll null columns before text (header ∷ old) true rows
all_rows null columns before text header old rows named few h = record { more = h.more; all = h.all; taken = (named, h.each, few) }

pub all_rows_named : (null : Option (List ℕ)) (columns : List Column) (before : List (List Val)) (text : List ℕ) (header : List (List ℕ)) (rows : List (List Val)) → IsHeader columns header
    → length rows ≤ most_rows → TakesRows null columns before text (header ∷ []) [] rows → TakesAll null columns before text [] true rows
all_rows_named null columns before text header rows named few h = record { more = header ∷ h.more; all = h.all; taken = (named, h.each, few) }

pub wrong_row : (null : Option (List ℕ)) (columns : List Column) (before : ℕ) (text : List ℕ) (header : List (List ℕ)) (old : List (List (List ℕ))) (e : LoadFault) → IsHeader columns header
    → TakesWrong null columns before text [] old e → TakesFault null columns before text (header ∷ old) e
wrong_row null columns before text header old e named h =
    record { more = h.more; next = h.next; state = h.state; rest = h.rest; reached = h.reached; wrong = (named, (h.rows, h.each, h.wrong)) }

pub wrong_row_named : (null : Option (List ℕ)) (columns : List Column) (before : ℕ) (text : List ℕ) (header : List (List ℕ)) (e : LoadFault) → IsHeader columns header
    → TakesWrong null columns before text (header ∷ []) [] e → TakesFault null columns before text [] e
wrong_row_named null columns before text header e named h =
    record { more = header ∷ h.more; next = h.next; state = h.state; rest = h.rest; reached = h.reached; wrong = (named, (h.rows, h.each, h.wrong)) }

-- no record stands for no row behind others
none_here : (null : Option (List ℕ)) (columns : List Column) (before rows : List (List Val)) → rows ≡ before → AreRecordsBehind null columns before [] rows
none_here null columns before rows same = ([], same ∙ sym (append-nil before), tt)

-- by whether the header came before
module _ (null : Option (List ℕ)) (columns : List Column) (before : List (List Val)) (text : List ℕ) where
  pub takes_behind : (records : List (List (List ℕ))) (named : Bool) (rows rows' : List (List Val)) → named ≡ true → AreTaken null columns before records named rows → length rows' ≤ most_rows
      → ((old : List (List (List ℕ))) → AreRecordsBehind null columns before old rows → TakesRows null columns before text [] old rows') → TakesAll null columns before text records true rows'
  takes_behind [] true rows rows' is taken few h = absurd taken
  takes_behind (header ∷ old) true rows rows' is taken few h = all_rows null columns before text header old rows' taken.0 few (h old taken.1)
  takes_behind [] false rows rows' is taken few h = absurd (false≢true is)
  takes_behind (header ∷ old) false rows rows' is taken few h = absurd taken

  pub fails_behind : (records : List (List (List ℕ))) (named : Bool) (rows : List (List Val)) (e : LoadFault) → named ≡ true → AreTaken null columns before records named rows
      → ((old : List (List (List ℕ))) → AreRecordsBehind null columns before old rows → TakesWrong null columns (length before) text [] old e) → TakesFault null columns (length before) text records e
  fails_behind [] true rows e is taken h = absurd taken
  fails_behind (header ∷ old) true rows e is taken h = wrong_row null columns (length before) text header old e taken.0 (h old taken.1)
  fails_behind [] false rows e is taken h = absurd (false≢true is)
  fails_behind (header ∷ old) false rows e is taken h = absurd taken

  pub takes_first : (records : List (List (List ℕ))) (header : List (List ℕ)) (named : Bool) (rows rows' : List (List Val)) → named ≡ false → AreTaken null columns before records named rows
      → IsHeader columns header → length rows' ≤ most_rows → (AreRecordsBehind null columns before [] rows → TakesRows null columns before text (header ∷ []) [] rows') → TakesAll null columns before text records true rows'
  takes_first records header true rows rows' is taken names few h = absurd (false≢true (sym is))
  takes_first [] header false rows rows' is taken names few h = all_rows_named null columns before text header rows' names few (h (none_here null columns before rows taken.0))
  takes_first (x ∷ records) header false rows rows' is taken names few h = absurd taken

  pub fails_first_row : (records : List (List (List ℕ))) (header : List (List ℕ)) (named : Bool) (rows : List (List Val)) (e : LoadFault) → named ≡ false → AreTaken null columns before records named rows
      → IsHeader columns header → (AreRecordsBehind null columns before [] rows → TakesWrong null columns (length before) text (header ∷ []) [] e) → TakesFault null columns (length before) text records e
  fails_first_row records header true rows e is taken names h = absurd (false≢true (sym is))
  fails_first_row [] header false rows e is taken names h = wrong_row_named null columns (length before) text header e names (h (none_here null columns before rows taken.0))
  fails_first_row (x ∷ records) header false rows e is taken names h = absurd taken

  pub fails_header : (records : List (List (List ℕ))) (header : List (List ℕ)) (named : Bool) (rows : List (List Val)) (s : State) (u : List ℕ) → named ≡ false → AreTaken null columns before records named rows
      → (IsHeader columns header → ⊥) → Reached default_config StartRecord text (header ∷ []) s u → TakesFault null columns (length before) text records fault.BadHeader
  fails_header records header true rows s u is taken other reached = absurd (false≢true (sym is))
  fails_header [] header false rows s u is taken other reached = record { more = []; next = header; state = s; rest = u; reached = reached; wrong = (refl, other) }
  fails_header (x ∷ records) header false rows s u is taken other reached = absurd taken

  pub takes_none : (records : List (List (List ℕ))) (named : Bool) (rows : List (List Val)) → AreTaken null columns before records named rows → AreRecords default_config StartRecord text []
      → TakesAll null columns before text records named rows
  takes_none records named rows taken all = record { more = []; all = all; taken = rw (append-nil records) taken }

-- ---- the same, of what a call answers

module _ (null : Option (List ℕ)) (columns : List Column) (reader from : Reader (Bor (List ℕ))) (named : Bool) (rows : List (List Val)) where
  pub ok_behind : (r : Result Taken LoadFault) → named ≡ true
      → IfOk r (λ (next : Taken). (text : List ℕ) (before : List (List Val)) (read old : List (List (List ℕ))) → HasRead reader text read → AreRecordsBehind null columns before old rows → TakesRows null columns before text read old next.loaded.rows)
      → IfOk r (λ (next : Taken). length next.loaded.rows ≤ most_rows) → IfOk r (λ (next : Taken). next.named ≡ true)
      → IfOk r (λ (next : Taken). (text : List ℕ) (before : List (List Val)) (records : List (List (List ℕ))) → HasRead reader text [] → AreTaken null columns before records named rows → TakesAll null columns before text records next.named next.loaded.rows)
  ok_behind (Ok next) is h few has = λ text before records start taken. rw has (takes_behind null columns before text records named rows next.loaded.rows is taken few (λ old each. h text before [] old start each))
  ok_behind (Err e) is h few has = tt

  pub err_behind : (many : ℕ) (r : Result Taken LoadFault) → named ≡ true
      → IfErr r (λ (e : LoadFault). e ≢ fault.NoMemory → (text : List ℕ) (before : List (List Val)) (read old : List (List (List ℕ))) → HasRead reader text read → many ≡ length before → AreRecordsBehind null columns before old rows → TakesWrong null columns (length before) text read old e)
      → IfErr r (λ (e : LoadFault). e ≢ fault.NoMemory → (text : List ℕ) (before : List (List Val)) (records : List (List (List ℕ))) → HasRead reader text [] → many ≡ length before → AreTaken null columns before records named rows → TakesFault null columns (length before) text records e)
  err_behind many (Ok next) is h = tt
  err_behind many (Err e) is h = λ memory text before records start same taken. fails_behind null columns before text records named rows e is taken (λ old each. h memory text before [] old start same each)

  pub ok_first : (r : Result Taken LoadFault) (header : List (List ℕ)) → named ≡ false → IsHeader columns header → ((text : List ℕ) → HasRead reader text [] → HasRead from text (header ∷ []))
      → IfOk r (λ (next : Taken). (text : List ℕ) (before : List (List Val)) (read old : List (List (List ℕ))) → HasRead from text read → AreRecordsBehind null columns before old rows → TakesRows null columns before text read old next.loaded.rows)
      → IfOk r (λ (next : Taken). length next.loaded.rows ≤ most_rows) → IfOk r (λ (next : Taken). next.named ≡ true)
      → IfOk r (λ (next : Taken). (text : List ℕ) (before : List (List Val)) (records : List (List (List ℕ))) → HasRead reader text [] → AreTaken null columns before records named rows → TakesAll null columns before text records next.named next.loaded.rows)
  ok_first (Ok next) header is names go h few has = λ text before records start taken.
      rw has (takes_first null columns before text records header named rows next.loaded.rows is taken names few (λ each. h text before (header ∷ []) [] (go text start) each))
  ok_first (Err e) header is names go h few has = tt

  pub err_first : (many : ℕ) (r : Result Taken LoadFault) (header : List (List ℕ)) → named ≡ false → IsHeader columns header → ((text : List ℕ) → HasRead reader text [] → HasRead from text (header ∷ []))
      → IfErr r (λ (e : LoadFault). e ≢ fault.NoMemory → (text : List ℕ) (before : List (List Val)) (read old : List (List (List ℕ))) → HasRead from text read → many ≡ length before → AreRecordsBehind null columns before old rows → TakesWrong null columns (length before) text read old e)
      → IfErr r (λ (e : LoadFault). e ≢ fault.NoMemory → (text : List ℕ) (before : List (List Val)) (records : List (List (List ℕ))) → HasRead reader text [] → many ≡ length before → AreTaken null columns before records named rows → TakesFault null columns (length before) text records e)
  err_first many (Ok next) header is names go h = tt
  err_first many (Err e) header is names go h = λ memory text before records start same taken.
      fails_first_row null columns before text records header named rows e is taken names (λ each. h memory text before (header ∷ []) [] (go text start) same each)

pub none_are_none : (values : List Values) → rows_in 0 values ≡ []
unfolding rows_in
none_are_none values = refl

-- the rows of a reader so far, behind others
pub record RowsRead (null : Option (List ℕ)) (columns : List Column) (before : List (List Val)) (reader : Reader (Bor (List ℕ))) (text : List ℕ) (read old : List (List (List ℕ))) (rows : List (List Val)) : Type 0 where
  pub more : List (List (List ℕ))
  pub goes : HasRead reader text (read ++ more)
  pub each : AreRecordsBehind null columns before (old ++ more) rows

module _ (null : Option (List ℕ)) (columns : List Column) (before : List (List Val)) (text : List ℕ) (read old : List (List (List ℕ))) where
  pub rows_none : (reader : Reader (Bor (List ℕ))) (rows : List (List Val)) → HasRead reader text read → AreRecordsBehind null columns before old rows → RowsRead null columns before reader text read old rows
  rows_none reader rows goes each = record { more = []; goes = rw (append-nil read) goes; each = rw (append-nil old) each }

  pub rows_next : (reader next_reader : Reader (Bor (List ℕ))) (rows : List (List Val)) (next : List (List ℕ)) (row : List Val) → (h : RowsRead null columns before reader text read old rows)
      → HasRead next_reader text ((read ++ h.more) ++ next ∷ []) → IsRecordOf null columns next row → RowsRead null columns before next_reader text read old (rows ++ row ∷ [])
  rows_next reader next_reader rows next row h goes stands =
      let (here, is, each) = h.each in
      record {
        more = h.more ++ next ∷ [];
        goes = rw (append_assoc read h.more (next ∷ [])) at goes;
        each = (
          here ++ row ∷ [],
          ap (λ (xs : List (List Val)). xs ++ row ∷ []) is ∙ append_assoc before here (row ∷ []),
          rw (append_assoc old h.more (next ∷ [])) at (records_push null columns (old ++ h.more) here next row each stands),
        );
      }

  pub rows_all : (reader : Reader (Bor (List ℕ))) (rows : List (List Val)) → (h : RowsRead null columns before reader text read old rows) → AreRecords default_config StartRecord text (read ++ h.more)
      → TakesRows null columns before text read old rows
  rows_all reader rows h all = record { more = h.more; all = all; each = h.each }

  pub rows_fail : (reader next_reader : Reader (Bor (List ℕ))) (rows : List (List Val)) (next : List (List ℕ)) (count many : ℕ) (e : LoadFault) → (h : RowsRead null columns before reader text read old rows)
      → HasRead next_reader text ((read ++ h.more) ++ next ∷ []) → count ≡ length rows → many ≡ length before → (many ≤ count → IsRecordFault null columns many ((count - many) + 1) next e)
      → TakesWrong null columns (length before) text read old e
  rows_fail reader next_reader rows next count many e h goes same behind wrong =
      let (here, is, each) = h.each in
      let all : count ≡ many + length here = omega (arith, same, behind, ap length is, length-append before here) in
      let some : count - many ≡ length here = omega (arith, all) in
      record {
        more = h.more;
        next = next;
        rows = here;
        state = next_reader.state;
        rest = goes.rest;
        reached = goes.reached;
        each = each;
        wrong = rw (some, behind) at (wrong (omega (arith, all)));
      }

-- ---- what waits to be read

pub placed_line : IsPlaced (Some Fresh) (10 ∷ [])
unfolding after
placed_line = (([], refl), refl)

pub placed_more : (waiting piece : List ℕ) (place next : Place) → IsPlaced (Some place) waiting → ((state : State) → IsAt state place → IsAt (after state piece) next)
    → IsPlaced (Some next) (waiting ++ piece)
placed_more waiting piece place next ((line, is), at) scans =
    ((line ++ piece, rw is refl), rw (after_both StartRecord waiting piece) (scans (after StartRecord waiting) at))

after_line : (xs : List ℕ) → after StartRecord (10 ∷ xs) ≡ after StartRecord xs
unfolding after
after_line xs = refl

pub rest_taken : (n : ℕ) (xs : List ℕ) → take (length xs - n) (drop n xs) ≡ drop n xs
rest_taken n xs = take_all (length xs - n) (drop n xs) (omega (arith, length-drop n xs))

kept_line : (waiting more rest : List ℕ) (place : Place) → IsPlaced (Some place) waiting → take 1 (waiting ++ more) ++ rest ≡ 10 ∷ rest
kept_line waiting more rest place ((line, is), at) = rw is refl

-- the octets behind whole lines, behind a line end
pub rest_waits : (waiting piece more cut kept : List ℕ) (whole : ℕ) (place : Place) → IsPlaced (Some place) waiting → more ≡ waiting ++ take whole piece → cut ≡ take 1 more
    → kept ≡ cut ++ take (length piece - whole) (drop whole piece) → kept ≡ 10 ∷ drop whole piece
rest_waits waiting piece more cut kept whole place placed read cutting keeping =
    rw (keeping, cutting, read, rest_taken whole piece) (kept_line waiting (take whole piece) (drop whole piece) place placed)

-- whole lines of a piece, behind those
module _ (waiting piece : List ℕ) (whole : ℕ) (place : Place) (placed : IsPlaced (Some place) waiting) (some : 0 < whole)
    (ends : (state : State) → IsAt state place → 0 < whole → after state (take whole piece) ≡ StartRecord) where
  pub placed_rest : (next : Place) → ((state : State) → IsAt state place → IsAt (after state piece) next) → IsPlaced (Some next) (10 ∷ drop whole piece)
  placed_rest next scans =
      let s = after StartRecord waiting in
      let same : after s piece ≡ after StartRecord (10 ∷ drop whole piece) =
      ap (λ (x : List ℕ). after s x) (sym (take-append-drop whole piece)) ∙ after_both s (take whole piece) (drop whole piece)
      ∙ ap (λ (t : State). after t (drop whole piece)) (ends s placed.1 some) ∙ sym (after_line (drop whole piece)) in
      ((drop whole piece, refl), rw same at (scans s placed.1))

  abbrev line_of : List ℕ
  line_of = placed.0.0 ++ take whole piece

  line_is : 10 ∷ line_of ≡ waiting ++ take whole piece
  line_is = sym (ap (λ (x : List ℕ). x ++ take whole piece) placed.0.1)

  line_ended : after StartRecord (10 ∷ line_of) ≡ StartRecord
  line_ended = rw (line_is, after_both StartRecord waiting (take whole piece)) (ends (after StartRecord waiting) placed.1 some)

  all_of : waiting ++ piece ≡ (10 ∷ line_of) ++ drop whole piece
  all_of = ap (λ (x : List ℕ). waiting ++ x) (sym (take-append-drop whole piece)) ∙ sym (append_assoc waiting (take whole piece) (drop whole piece)) ∙ ap (λ (x : List ℕ). x ++ drop whole piece) (sym line_is)

  module _ (table : Table) (null : Option (List ℕ)) (before : ℕ) (given : List ℕ) (records : List (List (List ℕ))) (leaves : LeavesToRead given records (waiting ++ piece)) where
    pub lines_taken : (more : List (List (List ℕ))) → AreRecords default_config StartRecord (strip_bom (waiting ++ take whole piece)) more → LeavesToRead given (records ++ more) (10 ∷ drop whole piece)
    lines_taken more all = takes_lines table null before given line_of (drop whole piece) records (rw all_of at leaves) line_ended more (rw (← line_is) at all)

    pub lines_fail : (behind : List ℕ) (e : LoadFault) → TakesFault null table.columns before (strip_bom (waiting ++ take whole piece)) records e → IsFaultOf table null before (given ++ behind) e
    lines_fail behind e h = fails_lines table null before given line_of (drop whole piece) records (rw all_of at leaves) line_ended behind e (rw (← line_is) at h)

-- ---- the byte order mark

pub bare_short : (text : List ℕ) → length text < 3 → text ≡ strip_bom text
unfolding strip_bom
bare_short [] short = refl
bare_short (a ∷ []) short = refl
bare_short (a ∷ b ∷ []) short = refl
bare_short (a ∷ b ∷ c ∷ text) short = absurd (omega (arith, short))

pub bare_marked : (text : List ℕ) → 3 ≤ length text → is_bom (get_or text 0 0) (get_or text 1 0) (get_or text 2 0) ≡ true → drop 3 text ≡ strip_bom text
unfolding strip_bom
bare_marked [] long mark = absurd (omega (arith, long))
bare_marked (a ∷ []) long mark = absurd (omega (arith, long))
bare_marked (a ∷ b ∷ []) long mark = absurd (omega (arith, long))
bare_marked (a ∷ b ∷ c ∷ text) long mark = rw mark refl

pub bare_unmarked : (text : List ℕ) → 3 ≤ length text → is_bom (get_or text 0 0) (get_or text 1 0) (get_or text 2 0) ≡ false → text ≡ strip_bom text
unfolding strip_bom
bare_unmarked [] long mark = absurd (omega (arith, long))
bare_unmarked (a ∷ []) long mark = absurd (omega (arith, long))
bare_unmarked (a ∷ b ∷ []) long mark = absurd (omega (arith, long))
bare_unmarked (a ∷ b ∷ c ∷ text) long mark = rw mark refl

-- ---- a record with too many fields, of which more may come

other_width : (columns : List Column) (fields : List (List ℕ)) → length columns < length fields → IsHeader columns fields → ⊥
other_width columns fields wide named =
    omega (arith, wide, ap length named, length-map fields (λ (field : List ℕ). map to_ascii_lowercase field), length-map columns (λ (c : Column). map to_ascii_lowercase c.name))

-- how many rows are of the part itself
behind_count : (before here rows : List (List Val)) → rows ≡ before ++ here → length rows ≡ length before + length here
behind_count before here rows is = ap length is ∙ length-append before here

wrong_wide : (null : Option (List ℕ)) (columns : List Column) (before : List (List Val)) (many : ℕ) (records : List (List (List ℕ))) (named : Bool) (rows : List (List Val)) (next : List (List ℕ)) (e : LoadFault)
    → many ≡ length before → AreTaken null columns before records named rows → length columns < length next → IsTooWide named many rows e → IsWrongNext null columns (length before) records next e
wrong_wide null columns before many [] true rows next e same taken wide is = absurd taken
wrong_wide null columns before many [] false rows next e same taken wide is = (is, other_width columns next wide)
wrong_wide null columns before many (header ∷ records) false rows next e same taken wide is = absurd taken
wrong_wide null columns before many (header ∷ records) true rows next fault.BadHeader same taken wide is = absurd is
wrong_wide null columns before many (header ∷ records) true rows next (fault.FieldCount row) same (named, (here, all, each), few) wide is =
    let count = behind_count before here rows all in
    let number = is.1 (omega (arith, count, same)) in
    (named, (here, each, (omega (arith, is.0, count), omega (arith, number, count, same), (λ equal. omega (arith, equal, wide)))))
wrong_wide null columns before many (header ∷ records) true rows next (fault.Field row index why) same taken wide is = absurd is
wrong_wide null columns before many (header ∷ records) true rows next fault.TooManyRows same (named, (here, all, each), few) wide is =
    (named, (here, each, omega (arith, is, few, behind_count before here rows all)))
wrong_wide null columns before many (header ∷ records) true rows next fault.NoMemory same taken wide is = absurd is

pub wide_fails : (table : Table) (null : Option (List ℕ)) (before : List (List Val)) (many : ℕ) (given waiting behind : List ℕ) (records : List (List (List ℕ))) (place : Place) (named : Bool) (rows : List (List Val)) (e : LoadFault)
    → IsPlaced (Some place) waiting → BeginsWide (strip_bom waiting) (length table.columns) → IsTooWide named many rows e → LeavesToRead given records waiting
    → many ≡ length before → AreTaken null table.columns before records named rows → IsFaultOf table null (length before) (given ++ behind) e
wide_fails table null before many given waiting behind records place named rows e ((line, is), at) h why leaves same taken =
    let read : Reached default_config StartRecord (10 ∷ line) (h.fields ∷ []) h.state h.rest = rw (is, strip_line line) at h.reached in
    let at_end : IsAt (after StartRecord (10 ∷ line)) place = rw is at at in
    let (more, s, u, reached, long) = reached_grown (10 ∷ line) behind h.rest h.fields h.state place read at_end in
    let waits : LeavesToRead given records (10 ∷ line) = rw is at leaves in
    let both : Reached default_config StartRecord (strip_bom ((10 ∷ line) ++ behind)) (more ∷ []) s u = rw (strip_line (line ++ behind)) reached in
    let (s', v, first, next) = leaves_at given (10 ∷ line) behind u records (more ∷ []) s waits both in
    fails_next table null (length before) (given ++ behind) records more e (s', v, first) (wrong_wide null table.columns before many records named rows more e same taken (omega (arith, h.wide, long)) why)
