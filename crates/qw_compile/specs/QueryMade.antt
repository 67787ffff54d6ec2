-- What is made of a query's texts and its pipelines: the literals that they rest on, their statement, its locals, and its layout.
use Rattle.std.specs.Prelude.{◌≡◌, ◌≤◌, ℕ, ◌+◌, ◌*◌, Some, List, [], ◌∷◌, ◌++◌, length, map, IsUtf8}
use Rattle.std.specs.List.{AllByRecursion, concat}
use Rattle.qw_module.specs.declared.instruction.ValType.{ValType}
use Rattle.qw_map.specs.Layout.{Layout, descriptor_size, entry_offset}
use Rattle.qw_map.specs.declared.layout.Used.{Used}
use Rattle.qw_low.specs.declared.step.LowStep.{LowStep}
use Rattle.qw_low.specs.Steps.{steps_of}
use Rattle.qw_low.specs.Syntax.{Statement}
use Rattle.qw_expr.specs.Computes.{Known}
use Rattle.qw_read.specs.Constants.{SetsAll, known_constant}
use Rattle.qw_read.specs.Reading.{known_of}
use Rattle.qw_read.specs.Texts.{LeadsToAll, known_texts}
use Rattle.qw_read.specs.declared.constant.Constant.{Constant}
use Rattle.qw_read.specs.declared.literal.Literal.{Literal}
use Rattle.qw_read.specs.declared.reader.Reader.{Reader}
use Rattle.qw_physical.specs.Coded.{pipeline_of}
use Rattle.qw_physical.specs.Physical as physical
use Rattle.qw_physical.specs.declared.pipeline.Pipeline.{Pipeline}
use Rattle.qw_physical.specs.declared.pipeline.ReadColumn.{ReadColumn}
use Rattle.qw_operator.specs.Carries.{result_kinds}
use Rattle.qw_operator.specs.Takes.{CanCarry}
use Rattle.qw_compile.specs.Literals.{constants_from}
use Rattle.qw_compile.specs.QueryLiterals.{query_words}
use Rattle.qw_compile.specs.QueryLocals.{own_start, query_locals, query_readers, readers_over, text_start, word_start}
use Rattle.qw_compile.specs.Statements.{AreCourses, Course, IsCourse, query_block}
use Rattle.qw_compile.specs.Literals.{literals_from}
use Rattle.qw_compile.specs.declared.courses.Places.{Places}

-- how many locals the texts of a query, and the numbers and dates of its pipelines, have
abbrev pub literal_locals : (texts : List (List ℕ)) → List Pipeline → ℕ
literal_locals texts ps = 2 * length texts + length (query_words ps)

-- over so many tables and columns: the texts, whose octets stand behind the descriptor's entries, and the numbers and dates
abbrev pub texts_by : (tables columns : ℕ) → (texts : List (List ℕ)) → List Literal
texts_by t n texts = literals_from (text_start t) (entry_offset n) texts

abbrev pub words_by : (tables : ℕ) → (texts : List (List ℕ)) → List Pipeline → List Constant
words_by t texts ps = constants_from (word_start t (length texts)) (query_words ps)

abbrev pub literals_by : (tables columns : ℕ) → (texts : List (List ℕ)) → List Pipeline → List Known
literals_by t n texts ps = known_texts (texts_by t n texts) texts ++ map known_constant (words_by t texts ps)

abbrev pub readers_by : (tables : ℕ) → (texts : List (List ℕ)) → List Pipeline → List ReadColumn → List Reader
readers_by t texts ps columns = query_readers t (literal_locals texts ps) columns

-- the places of their literals and columns
pub record ArePlacesOf (tables : ℕ) (texts : List (List ℕ)) (ps : List Pipeline) (columns : List ReadColumn) (p : Places) : Type 0 where
  pub tables_is : p.tables ≡ tables
  pub readers : p.readers.items ≡ readers_by tables texts ps columns
  pub literals : p.literals.items ≡ texts_by tables (length columns) texts
  pub texts_are : p.texts.items ≡ texts
  pub constants : p.constants.items ≡ words_by tables texts ps
  pub utf8 : AllByRecursion IsUtf8 texts
  pub few : length texts ≤ 16384
  pub short : length (concat texts) ≤ 16384
  pub few_words : length (query_words ps) ≤ 16384

-- their statement, with its locals and its layout over these columns of tables
pub record IsQueryMade (tables : ℕ) (texts : List (List ℕ)) (ps : List Pipeline) (columns : List ReadColumn) (used : List Used) (layout : Layout) (code : List LowStep) (locals : List ValType) : Type 0 where
  pub building : List physical.Pipeline
  pub resulting : physical.Pipeline
  pub pipelines_are : map pipeline_of ps ≡ building ++ resulting ∷ []
  pub leads : Statement
  pub sets : Statement
  pub builds : List Course
  pub last : Course
  pub builds_own : List ValType
  pub last_own : List ValType
  pub code_is : code ≡ steps_of (query_block tables (descriptor_size layout) leads sets builds last)
  pub locals_are : locals ≡ query_locals tables (length texts) (length (query_words ps)) columns (builds_own ++ last_own)
  pub leads_all : LeadsToAll (texts_by tables (length columns) texts) leads
  pub sets_all : SetsAll (words_by tables texts ps) sets
  pub built : AreCourses (literals_by tables (length columns) texts ps) (readers_by tables texts ps columns) (own_start tables (literal_locals texts ps) (length columns)) building builds builds_own
  pub made : IsCourse (literals_by tables (length columns) texts ps) (readers_by tables texts ps columns) (own_start tables (literal_locals texts ps) (length columns) + length builds_own) resulting last last_own
  pub columns_are : layout.columns ≡ used
  pub octets_are : layout.literals ≡ concat texts
  pub kinds_are : map Some layout.cells ≡ result_kinds resulting.sink
  pub utf8 : AllByRecursion IsUtf8 texts

-- a pipeline whose expressions take only what is known, with a column that tells how many rows its entry has
pub record CanStand (tables : ℕ) (texts : List (List ℕ)) (ps : List Pipeline) (columns : List ReadColumn) (p : physical.Pipeline) : Type 0 where
  pub some : 1 ≤ length (readers_over p.entry (readers_by tables texts ps columns))
  pub takes : CanCarry (literals_by tables (length columns) texts ps ++ map known_of (readers_over p.entry (readers_by tables texts ps columns))) p.operators p.sink
