-- How the loading of a table's files goes on from file to file, and how it ends.
use Rattle.std.proofs.Common.{◌≡◌, ◌⊎◌, ℕ, suc, ◌+◌, ◌≤◌, ◌<◌, Option, Some, None, Result, Ok, Err, List, [], ◌∷◌, ◌++◌, inl, inr, length, map, ap, sym, subst, refl, arith, append_assoc, length-append}
use Rattle.std.specs.Prelude.{IfErr, IfOk, ⊤}
use Rattle.std.specs.String.{string_bytes}
use Rattle.qw_types.specs.Contents.{Contents, column_type}
use Rattle.qw_types.specs.declared.schema.Table.{Table}
use Rattle.qw_types.specs.declared.value.Val.{Val}
use Rattle.qw_csv.specs.Loading.{HasTaken, IsFirstPartFault, LoadsParts, Progress}
use Rattle.qw_csv.specs.declared.loading.LoadFault.{LoadFault}
use Rattle.qw_csv.specs.declared.loading.LoadFault.TheVariants as load_faults
use Rattle.qw_top.specs.Asking.{AsksWithin}
use Rattle.qw_top.specs.Call.{IsTableLimit}
use Rattle.qw_top.specs.FileNames.{file_of, files_in}
use Rattle.qw_top.specs.Inner.Shelves.{HasRead, Told, failed_file, failed_table}
use Rattle.qw_top.specs.Inner.Tables.{Ends, Fails, Finishes, IsFaultyFront, IsFileFault, IsInFile, IsInLoad, IsInRead, IsTableFault, IsUnloaded, OfPart}
use Rattle.qw_top.specs.Limits.{most_table_octets}
use Rattle.qw_top.specs.Top.{Files, HoldAll, HoldFrom, IsFaultyPart, IsFile, IsNextPart, IsTooLong, Names, TableIs}
use Rattle.qw_top.specs.declared.files.ReadFault.{ReadFault}
use Rattle.qw_top.specs.declared.files.ReadFault.TheVariants as read_faults
use Rattle.qw_top.specs.declared.table_file.FileFault.{FileFault}
use Rattle.qw_top.specs.declared.table_file.FileFault.TheVariants as file_faults
use Rattle.qw_top.specs.declared.table_file.TableFault.{TableFault}
use Rattle.qw_top.specs.declared.table_file.TableFault.TheVariants.{TooLong, Unread, Content, NoMemory}

-- ---- files one behind another

pub HoldFrom-append : (files : Files) (names : Names) (table : List ℕ) (a b : List (List ℕ)) (from middle : ℕ) → middle ≡ from + length a → HoldFrom files names table a from → HoldFrom files names table b middle →
    HoldFrom files names table (a ++ b) from
HoldFrom-append files names table [] b from middle is h k = subst (λ (n : ℕ). HoldFrom files names table b n) (omega (arith, is)) k
HoldFrom-append files names table (bytes ∷ a) b from middle is h k = (h.0, HoldFrom-append files names table a b (suc from) middle (omega (arith, is)) h.1 k)

-- one more
pub HoldFrom-more : (files : Files) (names : Names) (table : List ℕ) (parts : List (List ℕ)) (bytes : List ℕ) (from part : ℕ) → part ≡ from + length parts → HoldFrom files names table parts from →
    IsFile files (file_of names.folder names.parts table part) most_table_octets bytes → HoldFrom files names table (parts ++ bytes ∷ []) from
HoldFrom-more files names table parts bytes from part is h file = HoldFrom-append files names table parts (bytes ∷ []) from part is h (file, tt)

-- ---- a fault of one file as one of the table's

load_or_memory : (fault : LoadFault) → (fault ≡ load_faults.NoMemory) ⊎ (fault ≡ load_faults.NoMemory → ⊥)
load_or_memory load_faults.NoMemory = inl refl
load_or_memory load_faults.BadHeader = inr (λ same. cc)
load_or_memory (load_faults.FieldCount row) = inr (λ same. cc)
load_or_memory (load_faults.Field row column why) = inr (λ same. cc)
load_or_memory load_faults.TooManyRows = inr (λ same. cc)

pub fault_of_load : (files : Files) (names : Names) (table : List ℕ) (part : ℕ) (content : LoadFault → Type 0) (why : LoadFault) (fault : TableFault) → IsInLoad part why fault →
    ((why ≡ load_faults.NoMemory → ⊥) → content why) → IsFileFault files names table part content fault
fault_of_load files names table part content why fault is holds =
    elim (load_or_memory why) [
      | inl want ↦ subst (λ (f : TableFault). IsFileFault files names table part content f) (sym (is.0 want)) tt
      | inr other ↦ subst (λ (f : TableFault). IsFileFault files names table part content f) (sym (is.1 other)) (refl, holds other)
    ]

pub fault_of_read : (files : Files) (names : Names) (table : List ℕ) (part : ℕ) (content : LoadFault → Type 0) (name : List ℕ) (why : ReadFault) (fault : TableFault) → IsInRead part name why fault →
    name ≡ file_of names.folder names.parts table part → (why ≡ read_faults.TooLong → IsTooLong files name most_table_octets) → IsFileFault files names table part content fault
fault_of_read files names table part content name read_faults.TooLong fault is same long =
    subst (λ (f : TableFault). IsFileFault files names table part content f) (sym is) (refl, subst (λ (n : List ℕ). IsTooLong files n most_table_octets) same (long refl))
fault_of_read files names table part content name read_faults.Failed (Unread other) is same long = rw (is, same) refl
fault_of_read files names table part content name read_faults.Failed (TooLong number) is same long = absurd is
fault_of_read files names table part content name read_faults.Failed (Content number why) is same long = absurd is
fault_of_read files names table part content name read_faults.Failed NoMemory is same long = absurd is
fault_of_read files names table part content name read_faults.NoMemory fault is same long = subst (λ (f : TableFault). IsFileFault files names table part content f) (sym is) tt

pub fault_of_file : (files : Files) (names : Names) (table : List ℕ) (part : ℕ) (content : LoadFault → Type 0) (name : List ℕ) (why : FileFault) (fault : TableFault) → IsInFile part name why fault →
    name ≡ file_of names.folder names.parts table part → (why ≡ file_faults.Unread read_faults.TooLong → IsTooLong files name most_table_octets) →
    ((load : LoadFault) → why ≡ file_faults.Content load → (load ≡ load_faults.NoMemory → ⊥) → content load) → IsFileFault files names table part content fault
fault_of_file files names table part content name (file_faults.Unread read) fault is same long holds =
    fault_of_read files names table part content name read fault is same (λ e. long (ap (λ (r : ReadFault). file_faults.Unread r) e))
fault_of_file files names table part content name (file_faults.Content load) fault is same long holds = fault_of_load files names table part content load fault is (holds load refl)

-- the file at which the reading failed
failed_in_load : (part : ℕ) (why : LoadFault) (fault : TableFault) → IsInLoad part why fault → failed_table fault ≡ None
failed_in_load part why fault is =
    elim (load_or_memory why) [
      | inl want ↦ rw (is.0 want) refl
      | inr other ↦ rw (is.1 other) refl
    ]

failed_in_read : (part : ℕ) (name : List ℕ) (why : ReadFault) (fault : TableFault) → IsInRead part name why fault → failed_table fault ≡ failed_file name (file_faults.Unread why)
failed_in_read part name read_faults.TooLong fault is = rw is refl
failed_in_read part name read_faults.Failed (Unread other) is = ap (λ (n : List ℕ). Some n) is
failed_in_read part name read_faults.Failed (TooLong number) is = absurd is
failed_in_read part name read_faults.Failed (Content number why) is = absurd is
failed_in_read part name read_faults.Failed NoMemory is = absurd is
failed_in_read part name read_faults.NoMemory fault is = rw is refl

pub failed_in_file : (part : ℕ) (name : List ℕ) (why : FileFault) (fault : TableFault) → IsInFile part name why fault → failed_table fault ≡ failed_file name why
failed_in_file part name (file_faults.Unread why) fault is = failed_in_read part name why fault is
failed_in_file part name (file_faults.Content why) fault is = failed_in_load part why fault is

-- behind files that are within the limit
pub fault_of_table : (files : Files) (names : Names) (table : Table) (part : ℕ) (before : List (List ℕ)) (content : LoadFault → Type 0) (other : ℕ → LoadFault → Type 0) (fault : TableFault) →
    HoldFrom files names table.name before 1 → part ≡ length before + 1 → part ≤ files_in names.parts → ((why : LoadFault) → content why → other part why) →
    IsFileFault files names table.name part content fault → IsTableFault files names table other fault
fault_of_table files names table part before content other (TooLong number) held next few weaker (same, long) =
    subst (λ (n : ℕ). IsTableFault files names table other (TooLong n)) (sym same) (record { before = before; held = held; next = next; few = few }, long)
fault_of_table files names table part before content other (Unread name) held next few weaker is = (part, record { before = before; held = held; next = next; few = few }, is)
fault_of_table files names table part before content other (Content number why) held next few weaker (same, holds) = subst (λ (n : ℕ). other n why) (sym same) (weaker why holds)
fault_of_table files names table part before content other NoMemory held next few weaker is = tt

-- and the first fault of the records, where the files behind are within the limit too
pub faulty_part : (files : Files) (names : Names) (table : Table) (part : ℕ) (fault : LoadFault) (front : IsFaultyFront files names table part fault) →
    ((before : List (List ℕ)) → HoldFrom files names table.name before 1 → length before ≡ part → (behind : List (List ℕ)) × HoldAll files names table.name (before ++ behind)) → IsFaultyPart files names table part fault
faulty_part files names table part fault front rest =
    let (behind, held) = rest front.parts front.held front.last in
    (front.parts ++ behind, held, front.fails behind)

-- what holds of no fault holds of none of the records
pub table_fault : (files : Files) (names : Names) (table : Table) (content : ℕ → LoadFault → Type 0) (fault : TableFault) → IsTableFault files names table (λ part why. ⊥) fault → IsTableFault files names table content fault
table_fault files names table content (TooLong part) is = is
table_fault files names table content (Unread name) is = is
table_fault files names table content (Content part why) is = absurd is
table_fault files names table content NoMemory is = tt

-- ---- how far the loading has come

pub record LoadsOn (before now : Told) (names : Names) (table : Table) (loader : Progress) (index : ℕ) : Type 0 where
  pub parts : List (List ℕ)
  pub held : HoldFrom before.files names table.name parts 1
  pub many : length parts ≡ index
  pub taken : HasTaken table names.null parts loader []
  pub shelf : HasRead None before now
  pub asked : AsksWithin (IsTableLimit names) before.watched now.watched

module _ (before now : Told) (names : Names) (table : Table) (loader : Progress) (index : ℕ) (h : LoadsOn before now names table loader index) where
  -- a file more
  pub loads_more : (after : Told) (next : Progress) → OfPart before.files names table.name (index + 1) (Ends table names loader next) → HasRead None before after →
      AsksWithin (IsTableLimit names) before.watched after.watched → LoadsOn before after names table next (index + 1)
  loads_more after next (bytes, file, ends) shelf asked = record {
    parts = h.parts ++ bytes ∷ [];
    held = HoldFrom-more before.files names table.name h.parts bytes 1 (index + 1) (omega (arith, h.many)) h.held file;
    many = omega (arith, h.many, length-append h.parts (bytes ∷ []));
    taken = ends h.parts h.taken;
    shelf = shelf;
    asked = asked;
  }

  -- the last one
  pub loads_all : (one : Contents) → index + 1 ≡ files_in names.parts → OfPart before.files names table.name (index + 1) (Finishes table names loader one.rows) → one.columns ≡ map column_type table.columns →
      TableIs before.files names table one
  loads_all one last (bytes, file, finishes) columns = record {
    parts = h.parts ++ bytes ∷ [];
    held = record {
      each = HoldFrom-more before.files names table.name h.parts bytes 1 (index + 1) (omega (arith, h.many)) h.held file;
      all = omega (arith, h.many, last, length-append h.parts (bytes ∷ []));
    };
    loads = finishes h.parts h.taken;
    columns = columns;
  }

  -- one that isn't taken
  fails_front : (why : LoadFault) → index + 1 ≤ files_in names.parts → OfPart before.files names table.name (index + 1) (λ bytes. Fails table names loader bytes why) → IsFaultyFront before.files names table (index + 1) why
  fails_front why few (bytes, file, fails) = record {
    parts = h.parts ++ bytes ∷ [];
    held = HoldFrom-more before.files names table.name h.parts bytes 1 (index + 1) (omega (arith, h.many)) h.held file;
    last = omega (arith, h.many, length-append h.parts (bytes ∷ []));
    few = few;
    fails = λ further. rw (append_assoc h.parts (bytes ∷ []) further) (subst (λ (n : ℕ). IsFirstPartFault table names.null (h.parts ++ bytes ∷ further) n why) (ap (λ (n : ℕ). n + 1) h.many) (fails h.parts further h.taken));
  }

  pub fails_at : (fault : TableFault) → index + 1 ≤ files_in names.parts →
      IsFileFault before.files names table.name (index + 1) (λ why. OfPart before.files names table.name (index + 1) (λ bytes. Fails table names loader bytes why)) fault →
      IsTableFault before.files names table (IsFaultyFront before.files names table) fault
  fails_at fault few is =
      fault_of_table before.files names table (index + 1) h.parts (λ why. OfPart before.files names table.name (index + 1) (λ bytes. Fails table names loader bytes why))
      (IsFaultyFront before.files names table) fault h.held (omega (arith, h.many)) few (λ why. fails_front why few) is

  -- what comes of the last one
  pub last_loaded : (result : Result Contents TableFault) (last : ℕ) → last ≡ index → last + 1 ≡ files_in names.parts →
      IfOk result (λ one. OfPart before.files names table.name (last + 1) (Finishes table names loader one.rows)) → IfOk result (λ one. one.columns ≡ map column_type table.columns) →
      IfOk result (λ one. TableIs before.files names table one)
  last_loaded (Ok one) last is all ended columns =
      loads_all one (omega (arith, is, all)) (subst (λ (n : ℕ). OfPart before.files names table.name (n + 1) (Finishes table names loader one.rows)) is ended) columns
  last_loaded (Err fault) last is all ended columns = tt

  pub last_fails : (result : Result Contents TableFault) (last : ℕ) → last ≡ index → last + 1 ≡ files_in names.parts →
      IfErr result (λ fault. IsFileFault before.files names table.name (last + 1) (λ why. OfPart before.files names table.name (last + 1) (λ bytes. Fails table names loader bytes why)) fault) →
      IfErr result (λ fault. IsTableFault before.files names table (IsFaultyFront before.files names table) fault)
  last_fails (Ok one) last is all stops = tt
  last_fails (Err fault) last is all stops =
      fails_at fault (omega (arith, is, all))
      (subst (λ (n : ℕ). IsFileFault before.files names table.name (n + 1) (λ why. OfPart before.files names table.name (n + 1) (λ bytes. Fails table names loader bytes why)) fault) is stops)

-- ---- how far the rest was read

pub record SkipsOver (before now : Told) (names : Names) (table : List ℕ) (from index : ℕ) : Type 0 where
  pub behind : List (List ℕ)
  pub held : HoldFrom before.files names table behind (from + 1)
  pub many : from + length behind ≡ index
  pub shelf : HasRead None before now
  pub asked : AsksWithin (IsTableLimit names) before.watched now.watched

module _ (before now : Told) (names : Names) (table : Table) (from index : ℕ) (h : SkipsOver before now names table.name from index) where
  pub skips_more : (after : Told) → OfPart before.files names table.name (index + 1) (λ bytes. ⊤) → HasRead None before after → AsksWithin (IsTableLimit names) before.watched after.watched →
      SkipsOver before after names table.name from (index + 1)
  skips_more after (bytes, file, _) shelf asked = record {
    behind = h.behind ++ bytes ∷ [];
    held = HoldFrom-more before.files names table.name h.behind bytes (from + 1) (index + 1) (omega (arith, h.many)) h.held file;
    many = omega (arith, h.many, length-append h.behind (bytes ∷ []));
    shelf = shelf;
    asked = asked;
  }

  -- all of them
  pub skips_all : index ≡ files_in names.parts → (front : List (List ℕ)) → HoldFrom before.files names table.name front 1 → length front ≡ from →
      (behind : List (List ℕ)) × HoldAll before.files names table.name (front ++ behind)
  skips_all last front held many = (
    h.behind,
    record {
      each = HoldFrom-append before.files names table.name front h.behind 1 (from + 1) (omega (arith, many)) held h.held;
      all = omega (arith, h.many, many, last, length-append front h.behind);
    },
  )

  -- one that couldn't be read, or is too long
  pub skips_none : (fault : TableFault) → index + 1 ≤ files_in names.parts → (front : List (List ℕ)) → HoldFrom before.files names table.name front 1 → length front ≡ from →
      IsFileFault before.files names table.name (index + 1) (λ why. ⊥) fault → IsTableFault before.files names table (λ part why. ⊥) fault
  skips_none fault few front held many is =
      fault_of_table before.files names table (index + 1) (front ++ h.behind) (λ why. ⊥) (λ part why. ⊥) fault
      (HoldFrom-append before.files names table.name front h.behind 1 (from + 1) (omega (arith, many)) held h.held)
      (omega (arith, h.many, many, length-append front h.behind)) few (λ why none. none) is
