-- The types of a query's locals, and of its statement.
use Rattle.std.proofs.Common.{◌≡◌, ℕ, suc, ◌+◌, ◌*◌, ◌<◌, ◌≤◌, Some, List, [], ◌∷◌, ◌++◌, length, map, slice_get, refl, ap, ◌∙◌, arith}
use Rattle.std.specs.List.{AllByRecursion}
use Rattle.qw_linear.specs.Memory.{page}
use Rattle.qw_module.specs.declared.instruction.ValType.{ValType}
use Rattle.qw_module.specs.declared.instruction.ValType.TheVariants.{I32, I64}
use Rattle.qw_map.proofs.AreaLemmas.{all-append}
use Rattle.qw_low.specs.Syntax.{Statement}
use Rattle.qw_low.specs.Typing.{IsTyped}
use Rattle.qw_expr.specs.Cells.{DeclaresValue}
use Rattle.qw_expr.specs.Computes.{Known, AreDeclared}
use Rattle.qw_read.specs.Constants.{IsSmall, SetsAll, constant_operand, known_constant}
use Rattle.qw_read.specs.Reading.{known_of, operand_of, DeclaresBases}
use Rattle.qw_read.specs.Texts.{LeadsToAll, known_texts, text_operand}
use Rattle.qw_read.specs.declared.constant.Constant.{Constant}
use Rattle.qw_read.specs.declared.constant.Word.{Word}
use Rattle.qw_read.specs.declared.literal.Literal.{Literal}
use Rattle.qw_read.specs.declared.reader.Reader.{Reader}
use Rattle.qw_read.proofs.ConstantRuns.{constants_declared}
use Rattle.qw_read.proofs.Several.{known_declared}
use Rattle.qw_read.proofs.TextPlaces.{texts_declared}
use Rattle.qw_table.specs.Tables.{directory_block}
use Rattle.qw_physical.specs.Physical.{Pipeline}
use Rattle.qw_physical.specs.declared.pipeline.ReadColumn.{ReadColumn}
use Rattle.qw_operator.specs.Carries.{directory}
use Rattle.qw_operator.specs.Takes.{CanSink}
use Rattle.qw_operator.proofs.CarriedTyped.{AreLed, IsLed, IsReaderDeclared, row_typed}
use Rattle.qw_operator.proofs.Promised.{AreOwn}
use Rattle.qw_compile.specs.QueryLocals.{base_start, cell_start, held_types, own_start, part_types, query_locals, query_readers, readers_over, rows_end, rows_left, table_types, text_start, word_start, text_types, word_types}
use Rattle.qw_compile.specs.Statements.{AreCourses, Course, IsCourse, builds_block, course_block, query_block}
use Rattle.qw_leaves.proofs.LeafLists.{all_back, all_front}
use Rattle.qw_compile.proofs.LocalsPlaced.{all_over, behind_held, behind_parts, behind_tables, counts_declared, held_declared, known_over_all, literal_count, literals_known, parts_declared, table_declared, texts_placed, words_placed}
use Rattle.qw_compile.proofs.LocalsDeclared.{first_own_types, rest_own_types, CountsDeclared, all_declared, begins_declared}
use Rattle.qw_compile.proofs.LiteralLemmas.{behind_texts, behind_words, literals_declared, words_declared, words_small}
use Rattle.qw_compile.proofs.StatementLengths.{held_long, parts_long, tables_long, texts_long, words_long}

-- what a pipeline's tables and its sink want of the types of locals
abbrev pub IsLeading : List ValType → Pipeline → Type 0
IsLeading types p = AreLed types p.operators × IsLed types p.sink × CanSink p.sink

module _ (T at : ℕ) (columns : List ReadColumn) (texts : List (List ℕ)) (words : List Word) (own : List ValType) where
  abbrev pub n : ℕ
  n = literal_count texts words

  abbrev pub types : List ValType
  types = I32 ∷ query_locals T (length texts) (length words) columns own

  abbrev behind_counters : List ValType
  behind_counters = text_types (length texts) (word_types (length words) (part_types columns (held_types columns own)))

  abbrev behind_directories : List ValType
  behind_directories = I32 ∷ I32 ∷ I32 ∷ behind_counters

  abbrev pub readers : List Reader
  readers = query_readers T n columns

  -- ---- where each kind of locals is
  types_tables : (i : ℕ) → slice_get types (5 + i) ≡ slice_get (table_types T behind_directories) i
  types_tables i = let place : 5 + i ≡ suc (suc (suc (suc (suc i)))) = omega arith in ap (λ (k : ℕ). slice_get types k) place

  types_counters : (i : ℕ) → slice_get types (5 + T + i) ≡ slice_get behind_directories i
  types_counters i = behind_tables types behind_directories 5 T types_tables i

  pub left_is : slice_get types (rows_left T) ≡ Some I32
  left_is = let place : 5 + T ≡ 5 + T + 0 = omega arith in ap (λ (k : ℕ). slice_get types k) place ∙ types_counters 0

  pub end_is : slice_get types (rows_end T) ≡ Some I32
  end_is = let place : 6 + T ≡ 5 + T + 1 = omega arith in ap (λ (k : ℕ). slice_get types k) place ∙ types_counters 1

  types_texts : (i : ℕ) → slice_get types (text_start T + i) ≡ slice_get behind_counters i
  types_texts i = let place : 8 + T + i ≡ 5 + T + suc (suc (suc i)) = omega arith in ap (λ (k : ℕ). slice_get types k) place ∙ types_counters (suc (suc (suc i)))

  types_words : (i : ℕ) → slice_get types (word_start T (length texts) + i) ≡ slice_get (word_types (length words) (part_types columns (held_types columns own))) i
  types_words i = behind_texts types (word_types (length words) (part_types columns (held_types columns own))) (text_start T) (length texts) types_texts i

  types_parts : (i : ℕ) → slice_get types (base_start T n + i) ≡ slice_get (part_types columns (held_types columns own)) i
  types_parts i =
      let place : base_start T n + i ≡ word_start T (length texts) + length words + i = omega arith in
      ap (λ (k : ℕ). slice_get types k) place ∙ behind_words types (part_types columns (held_types columns own)) (word_start T (length texts)) (length words) types_words i

  types_held : (i : ℕ) → slice_get types (cell_start T n (length columns) + i) ≡ slice_get (held_types columns own) i
  types_held i = behind_parts types (held_types columns own) (base_start T n) columns types_parts i

  pub own_types : AreOwn types (own_start T n (length columns)) own
  own_types i t there =
      let place : own_start T n (length columns) + i ≡ cell_start T n (length columns) + 3 * length columns + i = omega arith in
      ap (λ (k : ℕ). slice_get types k) place ∙ (behind_held types own (cell_start T n (length columns)) columns types_held i ∙ there)

  pub directory_is : (t : ℕ) → t < T → slice_get types (directory t) ≡ Some I32
  directory_is t low = table_declared types behind_directories 5 T types_tables t low

  -- ---- what is known
  pub texts_typed : AllByRecursion (λ (l : Literal). DeclaresValue types (text_operand l)) (texts_placed T at texts)
  texts_typed = literals_declared types (word_types (length words) (part_types columns (held_types columns own))) (text_start T) at texts types_texts

  pub constants_typed : AllByRecursion (λ (c : Constant). DeclaresValue types (constant_operand c)) (words_placed T (length texts) words)
  constants_typed = words_declared types (part_types columns (held_types columns own)) (word_start T (length texts)) words types_words

  pub parts_typed : AllByRecursion (DeclaresBases types) readers
  parts_typed = parts_declared types (held_types columns own) T (base_start T n) (cell_start T n (length columns)) 0 columns types_parts

  cells_typed : AllByRecursion (λ (r : Reader). DeclaresValue types (operand_of r)) readers
  cells_typed = held_declared types own T (base_start T n) (cell_start T n (length columns)) 0 columns types_held

  pub counts_typed : AllByRecursion (CountsDeclared types) readers
  counts_typed = counts_declared types T (base_start T n) (cell_start T n (length columns)) 0 columns left_is end_is

  pub readers_typed : AllByRecursion (IsReaderDeclared types) readers
  readers_typed = all_declared types readers counts_typed parts_typed cells_typed

  pub known_typed : AreDeclared types (literals_known T at texts words ++ map known_of readers)
  known_typed =
      all-append (λ (k : Known). DeclaresValue types k.operand) (literals_known T at texts words) (map known_of readers)
      (all-append (λ (k : Known). DeclaresValue types k.operand) (known_texts (texts_placed T at texts) texts) (map known_constant (words_placed T (length texts) words)) (texts_declared types (texts_placed T at texts) texts texts_typed)
      (constants_declared types (words_placed T (length texts) words) constants_typed))
      (known_declared types readers cells_typed)

  pub known_over_typed : (entry : ℕ) → AreDeclared types (literals_known T at texts words ++ map known_of (readers_over entry readers))
  known_over_typed entry =
      let P : Known → Type 0 = λ (k : Known). DeclaresValue types k.operand in
      all-append P (literals_known T at texts words) (map known_of (readers_over entry readers)) (all_front P (literals_known T at texts words) (map known_of readers) known_typed)
      (known_over_all P entry readers (all_back P (literals_known T at texts words) (map known_of readers) known_typed))

  -- ---- pipelines
  pub course_typed : (next : ℕ) (p : Pipeline) (c : Course) (mine : List ValType) → IsCourse (literals_known T at texts words) readers next p c mine → AreOwn types next mine → IsLeading types p → IsTyped types (course_block T c)
  course_typed next p c mine is owned leading = (
    ((end_is, refl), ((I32, end_is, (end_is, (omega arith, refl), refl)), (I32, left_is, end_is))),
    (
      is.begins.typed types refl (begins_declared types (readers_over p.entry readers) (all_over (CountsDeclared types) p.entry readers counts_typed) (all_over (DeclaresBases types) p.entry readers parts_typed)),
      (
        left_is,
        (
          row_typed types refl refl (literals_known T at texts words) (readers_over p.entry readers) next p.operators p.sink c.row mine (known_over_typed p.entry) (all_over (IsReaderDeclared types) p.entry readers readers_typed) owned leading.0 leading.1 leading.2 is.row,
          (I32, left_is, (left_is, (omega arith, refl), refl)),
        ),
      ),
    ),
  )

  pub directory_typed : (t : ℕ) → t < T → IsTyped types (directory_block (directory t))
  directory_typed t low = (
    ((refl, (omega arith, refl), refl), (((omega arith, refl), refl), (I32, refl, (omega arith, refl))), tt),
    ((I32, directory_is t low, refl), ((I32, refl, (refl, (omega arith, refl), refl)), (I32, refl, (refl, (omega arith, refl), refl)))),
  )

  pub builds_typed : (number next : ℕ) (ps : List Pipeline) (cs : List Course) (mine : List ValType) → AreCourses (literals_known T at texts words) readers next ps cs mine → AreOwn types next mine → AllByRecursion (IsLeading types) ps → number + length ps ≤ T →
      IsTyped types (builds_block T number cs)
  builds_typed number next [] [] mine are owned leading low = tt
  builds_typed number next [] (c ∷ cs) mine are owned leading low = absurd are
  builds_typed number next (p ∷ ps) [] mine are owned leading low = absurd are
  builds_typed number next (p ∷ ps) (c ∷ cs) mine are owned leading low = (
    (directory_typed number (omega (arith, low)), course_typed next p c are.0 are.3 (first_own_types types next mine are.0 are.1 are.2 owned) leading.0),
    builds_typed (number + 1) (next + length are.0) ps cs are.1 are.4 (rest_own_types types next mine are.0 are.1 are.2 owned) leading.1 (omega (arith, low)),
  )

  -- ---- the whole
  pub query_typed : (descriptor_size : ℕ) (leads sets : Statement) (building : List Pipeline) (last : Pipeline) (builds : List Course) (last_course : Course) (builds_own last_own : List ValType) → descriptor_size ≤ page → LeadsToAll (texts_placed T at texts) leads →
      SetsAll (words_placed T (length texts) words) sets → AllByRecursion IsSmall words → own ≡ builds_own ++ last_own → AreCourses (literals_known T at texts words) readers (own_start T n (length columns)) building builds builds_own →
      IsCourse (literals_known T at texts words) readers (own_start T n (length columns) + length builds_own) last last_course last_own → length building ≡ T → AllByRecursion (IsLeading types) building → IsLeading types last →
      IsTyped types (query_block T descriptor_size leads sets builds last_course)
  query_typed descriptor_size leads sets building last builds last_course builds_own last_own small leads_all sets_all small_words own_is built made many leading last_leading = (
    ((refl, refl), (I32, refl, ((omega arith, refl), (omega (arith, small), refl), refl))),
    (
      leads_all.typed types refl texts_typed,
      (
        sets_all.typed types (words_small IsSmall (word_start T (length texts)) words small_words) constants_typed,
        (
          builds_typed 0 (own_start T n (length columns)) building builds builds_own built (first_own_types types (own_start T n (length columns)) own builds_own last_own own_is own_types) leading (omega (arith, many)),
          (
            ((I32, refl, (refl, (omega arith, refl), refl)), (I64, refl, (omega arith, refl))),
            (
              course_typed (own_start T n (length columns) + length builds_own) last last_course last_own made (rest_own_types types (own_start T n (length columns)) own builds_own last_own own_is own_types) last_leading,
              ((refl, refl), (((refl, refl), tt, (refl, refl)), (refl, refl))),
            ),
          ),
        ),
      ),
    ),
  )

-- ---- how many locals there are
pub query_locals_long : (T texts words : ℕ) (columns : List ReadColumn) (own : List ValType) → suc (length (query_locals T texts words columns own)) ≡ own_start T (2 * texts + words) (length columns) + length own
query_locals_long T texts words columns own =
    let one = tables_long T (I32 ∷ I32 ∷ I32 ∷ text_types texts (word_types words (part_types columns (held_types columns own)))) in
    let two = texts_long texts (word_types words (part_types columns (held_types columns own))) in
    let three = words_long words (part_types columns (held_types columns own)) in
    let four = parts_long columns (held_types columns own) in
    let five = held_long columns own in
    omega (arith, one, two, three, four, five)
