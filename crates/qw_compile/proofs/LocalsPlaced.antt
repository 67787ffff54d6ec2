-- The locals of a query's module: where those of columns and literals are, what is known of them, and what they are known to hold.
use Rattle.std.proofs.Common.{◌≡◌, ℕ, zero, suc, ◌+◌, ◌*◌, ◌<◌, ◌≤◌, nat_eq, Bool, true, false, if◌then◌else◌, Some, List, [], ◌∷◌, ◌++◌, length, map, slice_get, refl, sym, ap, ◌∙◌, subst, arith}
use Rattle.std.specs.List.{AllByRecursion}
use Rattle.std.proofs.lemmas.Bool.{eqb-true}
use Rattle.qw_types.specs.Value.{IsSized}
use Rattle.qw_module.specs.declared.instruction.ValType.{ValType}
use Rattle.qw_module.specs.declared.instruction.ValType.TheVariants.{I32}
use Rattle.qw_scalar.specs.Expression.{scale_of}
use Rattle.qw_scalar.specs.Typing.{kind_of}
use Rattle.qw_map.proofs.AreaLemmas.{all-append}
use Rattle.qw_feed.specs.Cells.{Uses, UsesNull}
use Rattle.qw_feed.specs.Stages.{Among}
use Rattle.qw_algebra.specs.Columns.{owner}
use Rattle.qw_physical.specs.declared.pipeline.ReadColumn.{ReadColumn}
use Rattle.qw_expr.specs.Bindings.{IsServed}
use Rattle.qw_expr.specs.Cells.{IsBelow, IsBelowNull, DeclaresValue}
use Rattle.qw_expr.specs.Computes.{Known, AreBelow}
use Rattle.qw_read.specs.declared.reader.Reader.{Reader}
use Rattle.qw_read.specs.Reading.{known_of, operand_of, HasNullWord, AreBases, IsCellIn, DeclaresBases, AreBasesIn, AreCellsIn}
use Rattle.qw_read.specs.Texts.{known_texts}
use Rattle.qw_read.specs.Constants.{constant_operand, known_constant}
use Rattle.qw_read.specs.declared.constant.Constant.{Constant}
use Rattle.qw_read.specs.declared.constant.Word.{Word}
use Rattle.qw_read.specs.declared.constant.Word.TheVariants as word
use Rattle.qw_read.specs.declared.literal.Literal.{Literal}
use Rattle.qw_read.proofs.ConstantRuns.{constants_below, constants_described}
use Rattle.qw_read.proofs.TextPlaces.{texts_below}
use Rattle.qw_compile.specs.Literals.{constants_from}
use Rattle.qw_compile.specs.QueryLocals.{base_start, cell_start, held_types, own_start, part_types, query_readers, read_by, read_from, readers_over, rows_end, rows_left, table_types, text_start, word_start}
use Rattle.qw_compile.specs.QueryLocals.{null_word, value_type}
use Rattle.qw_compile.specs.Literals.{literals_from}
use Rattle.qw_compile.proofs.LocalsDeclared.{CountsDeclared, null_one, null_there, kind_declared, null_declared, behind}
use Rattle.qw_compile.proofs.LiteralLemmas.{at_first, texts_described, texts_in_locals, texts_up, words_in_locals, words_up}

-- ---- those of one entry of FROM
-- what holds of each that is there or not
abbrev pub is_over : (entry : ℕ) → Reader → Bool
is_over entry r = nat_eq entry (owner r.column)

pub one_or : (P : List Reader → Type 0) (b : Bool) (r : Reader) (rest : List Reader) → (b ≡ true → P (r ∷ rest)) → P rest → P (if b then r ∷ rest else rest)
one_or P true r rest with_it without = with_it refl
one_or P false r rest with_it without = without

pub all_over : (P : Reader → Type 0) (entry : ℕ) (readers : List Reader) → AllByRecursion P readers → AllByRecursion P (readers_over entry readers)
all_over P entry [] all = tt
all_over P entry (r ∷ readers) all =
    let rest = all_over P entry readers all.1 in
    one_or (AllByRecursion P) (is_over entry r) r (readers_over entry readers) (λ is. (all.0, rest)) rest

pub known_over_all : (P : Known → Type 0) (entry : ℕ) (readers : List Reader) → AllByRecursion P (map known_of readers) → AllByRecursion P (map known_of (readers_over entry readers))
known_over_all P entry [] all = tt
known_over_all P entry (r ∷ readers) all =
    let rest = known_over_all P entry readers all.1 in
    one_or (λ (rs : List Reader). AllByRecursion P (map known_of rs)) (is_over entry r) r (readers_over entry readers) (λ is. (all.0, rest)) rest

-- ---- where they are
bases_one : (t b c k : ℕ) (u : ReadColumn) → AreBases b (b + 3) (read_by t b c k u)
bases_one t b c k u = record {
  values = (omega arith, omega arith);
  octets = λ is. (omega arith, omega arith, λ e. omega (arith, e));
  nulls = λ is. (omega arith, omega arith, (λ e. omega (arith, e)), λ text e. omega (arith, e));
}

bases_from : (from b below : ℕ) (r : Reader) → from ≤ b → AreBases b below r → AreBases from below r
bases_from from b below r low h = record {
  values = (omega (arith, low, h.values.0), h.values.1);
  octets = λ is. (omega (arith, low, (h.octets is).0), (h.octets is).1, (h.octets is).2);
  nulls = λ is. (omega (arith, low, (h.nulls is).0), (h.nulls is).1, (h.nulls is).2, (h.nulls is).3);
}

pub bases_over : (entry t from b c k below : ℕ) (columns : List ReadColumn) → from ≤ b → b + 3 * length columns ≤ below → AreBasesIn from below (readers_over entry (read_from t b c k columns))
bases_over entry t from b c k below [] low high = omega (arith, low, high)
bases_over entry t from b c k below (u ∷ columns) low high =
    one_or (AreBasesIn from below) (is_over entry (read_by t b c k u)) (read_by t b c k u) (readers_over entry (read_from t (b + 3) (c + 3) (k + 1) columns))
    (λ is. (b + 3, bases_from from b (b + 3) (read_by t b c k u) low (bases_one t b c k u), bases_over entry t (b + 3) (b + 3) (c + 3) (k + 1) below columns (omega arith) (omega (arith, high))))
    (bases_over entry t from (b + 3) (c + 3) (k + 1) below columns (omega (arith, low)) (omega (arith, high)))

cell_one : (t b c k : ℕ) (u : ReadColumn) → IsCellIn c (c + 3) (read_by t b c k u)
cell_one t b c k u = record {
  value = (omega arith, omega arith);
  long = omega arith;
  text = λ is. (omega arith, λ e. omega (arith, e));
  null = λ x same. let at : c + 2 ≡ x = null_there u.not_null (c + 2) x same in (omega (arith, at), omega (arith, at), (λ e. omega (arith, at, e)), λ text e. omega (arith, at, e));
}

cell_from_low : (from c below : ℕ) (r : Reader) → from ≤ c → IsCellIn c below r → IsCellIn from below r
cell_from_low from c below r low h = record {
  value = (omega (arith, low, h.value.0), h.value.1);
  long = h.long;
  text = λ is. (omega (arith, low, (h.text is).0), (h.text is).1);
  null = λ x same. (omega (arith, low, (h.null x same).0), (h.null x same).1, (h.null x same).2, (h.null x same).3);
}

pub cells_over : (entry t from b c k below : ℕ) (columns : List ReadColumn) → from ≤ c → c + 3 * length columns ≤ below → AreCellsIn from below (readers_over entry (read_from t b c k columns))
cells_over entry t from b c k below [] low high = omega (arith, low, high)
cells_over entry t from b c k below (u ∷ columns) low high =
    one_or (AreCellsIn from below) (is_over entry (read_by t b c k u)) (read_by t b c k u) (readers_over entry (read_from t (b + 3) (c + 3) (k + 1) columns))
    (λ is. (c + 3, cell_from_low from c (c + 3) (read_by t b c k u) low (cell_one t b c k u), cells_over entry t (c + 3) (b + 3) (c + 3) (k + 1) below columns (omega arith) (omega (arith, high))))
    (cells_over entry t from (b + 3) (c + 3) (k + 1) below columns (omega (arith, low)) (omega (arith, high)))

pub null_words : (t b c k : ℕ) (columns : List ReadColumn) → AllByRecursion (λ (r : Reader). HasNullWord r.not_null r.cell.null) (read_from t b c k columns)
null_words t b c k [] = tt
null_words t b c k (u ∷ columns) = (null_one u.not_null (c + 2), null_words t (b + 3) (c + 3) (k + 1) columns)

pub indices_low : (t b c k n : ℕ) (columns : List ReadColumn) → k + length columns ≤ n → AllByRecursion (λ (r : Reader). r.index ≤ n) (read_from t b c k columns)
indices_low t b c k n [] low = tt
indices_low t b c k n (u ∷ columns) low = (omega (arith, low), indices_low t (b + 3) (c + 3) (k + 1) n columns (omega (arith, low)))

pub read_sized : (t b c k : ℕ) (columns : List ReadColumn) → AllByRecursion (λ (u : ReadColumn). IsSized u.ty) columns → AllByRecursion (λ (r : Reader). IsSized r.ty) (read_from t b c k columns)
read_sized t b c k [] sized = tt
read_sized t b c k (u ∷ columns) sized = (sized.0, read_sized t (b + 3) (c + 3) (k + 1) columns sized.1)

-- ---- what is known
read_below : (t b c k n : ℕ) (columns : List ReadColumn) → c + 3 * length columns ≤ n → AllByRecursion (λ (q : Known). IsBelow n q.operand.cell) (map known_of (read_from t b c k columns))
read_below t b c k n [] low = tt
read_below t b c k n (u ∷ columns) low = ((omega (arith, low), omega (arith, low), null_is_below u.not_null), read_below t (b + 3) (c + 3) (k + 1) n columns (omega (arith, low)))
  where
    null_is_below : (not_null : Bool) → IsBelowNull n (null_word not_null (c + 2))
    null_is_below true = tt
    null_is_below false = omega (arith, low)

read_described : (t b c k : ℕ) (columns : List ReadColumn) → AllByRecursion (λ (q : Known). (q.operand.kind ≡ kind_of q.expression) × (q.operand.scale ≡ scale_of q.expression)) (map known_of (read_from t b c k columns))
read_described t b c k [] = tt
read_described t b c k (u ∷ columns) = ((refl, refl), read_described t (b + 3) (c + 3) (k + 1) columns)

-- how many locals literals have
abbrev pub literal_count : (texts : List (List ℕ)) → List Word → ℕ
literal_count texts words = 2 * length texts + length words

-- the literals of texts, and the numbers and dates, over so many tables
abbrev pub texts_placed : (t at : ℕ) → List (List ℕ) → List Literal
texts_placed t at texts = literals_from (text_start t) at texts

abbrev pub words_placed : (t texts : ℕ) → List Word → List Constant
words_placed t n words = constants_from (word_start t n) words

abbrev pub literals_known : (t at : ℕ) → (texts : List (List ℕ)) → List Word → List Known
literals_known t at texts words = known_texts (texts_placed t at texts) texts ++ map known_constant (words_placed t (length texts) words)

pub literals_below : (t at n : ℕ) (texts : List (List ℕ)) (words : List Word) → base_start t (literal_count texts words) ≤ n → AreBelow n (literals_known t at texts words)
literals_below t at n texts words low =
    all-append (λ (k : Known). IsBelow n k.operand.cell) (known_texts (texts_placed t at texts) texts) (map known_constant (words_placed t (length texts) words))
    (texts_below (text_start t) n (texts_placed t at texts) texts (texts_up (text_start t) (text_start t + 2 * length texts) n (texts_placed t at texts) (omega (arith, low)) (texts_in_locals (text_start t) at texts)))
    (constants_below (word_start t (length texts)) n (words_placed t (length texts) words)
    (words_up (word_start t (length texts)) (word_start t (length texts) + length words) n (words_placed t (length texts) words) (omega (arith, low)) (words_in_locals (word_start t (length texts)) words)))

-- all that is known is below the pipelines' own locals
pub placed_served : (t at : ℕ) (texts : List (List ℕ)) (words : List Word) (columns : List ReadColumn) →
    IsServed (own_start t (literal_count texts words) (length columns)) (literals_known t at texts words ++ map known_of (query_readers t (literal_count texts words) columns))
placed_served t at texts words columns =
    let n = literal_count texts words in
    let own = own_start t n (length columns) in
    let IsBelowOne : Known → Type 0 = λ (k : Known). IsBelow own k.operand.cell in
    let IsDescribed : Known → Type 0 = λ (q : Known). (q.operand.kind ≡ kind_of q.expression) × (q.operand.scale ≡ scale_of q.expression) in (
      all-append IsBelowOne (literals_known t at texts words) (map known_of (query_readers t n columns)) (literals_below t at own texts words (omega arith))
          (read_below t (base_start t n) (cell_start t n (length columns)) 0 own columns (omega arith)),
      all-append IsDescribed (literals_known t at texts words) (map known_of (query_readers t n columns))
          (all-append IsDescribed (known_texts (texts_placed t at texts) texts) (map known_constant (words_placed t (length texts) words)) (texts_described (text_start t) at texts) (constants_described (words_placed t (length texts) words)))
          (read_described t (base_start t n) (cell_start t n (length columns)) 0 columns),
    )

-- ---- how they are declared
pub parts_declared : (types rest : List ValType) (t b c k : ℕ) (columns : List ReadColumn) → ((i : ℕ) → slice_get types (b + i) ≡ slice_get (part_types columns rest) i) → AllByRecursion (DeclaresBases types) (read_from t b c k columns)
parts_declared types rest t b c k [] same = tt
parts_declared types rest t b c k (u ∷ columns) same = (
  record { values = at_first types b I32 (I32 ∷ I32 ∷ part_types columns rest) same; octets = λ is. same 1; nulls = λ is. same 2 },
  parts_declared types rest t (b + 3) (c + 3) (k + 1) columns (behind types b I32 I32 I32 (part_types columns rest) same),
)

pub behind_parts : (types rest : List ValType) (b : ℕ) (columns : List ReadColumn) → ((i : ℕ) → slice_get types (b + i) ≡ slice_get (part_types columns rest) i) → (i : ℕ) → slice_get types (b + 3 * length columns + i) ≡ slice_get rest i
behind_parts types rest b [] same i = let place : b + 3 * length {A = ReadColumn} [] + i ≡ b + i = omega arith in ap (λ (n : ℕ). slice_get types n) place ∙ same i
behind_parts types rest b (u ∷ columns) same i =
    let place : b + 3 * length (u ∷ columns) + i ≡ b + 3 + 3 * length columns + i = omega arith in
    ap (λ (n : ℕ). slice_get types n) place ∙ behind_parts types rest (b + 3) columns (behind types b I32 I32 I32 (part_types columns rest) same) i

pub held_declared : (types rest : List ValType) (t b c k : ℕ) (columns : List ReadColumn) → ((i : ℕ) → slice_get types (c + i) ≡ slice_get (held_types columns rest) i) →
    AllByRecursion (λ (r : Reader). DeclaresValue types (operand_of r)) (read_from t b c k columns)
held_declared types rest t b c k [] same = tt
held_declared types rest t b c k (u ∷ columns) same = (
  (kind_declared types u.ty c (null_word u.not_null (c + 2)) (at_first types c (value_type u.ty) (I32 ∷ I32 ∷ held_types columns rest) same) (same 1), null_declared types u.not_null (c + 2) (same 2)),
  held_declared types rest t (b + 3) (c + 3) (k + 1) columns (behind types c (value_type u.ty) I32 I32 (held_types columns rest) same),
)

pub behind_held : (types rest : List ValType) (c : ℕ) (columns : List ReadColumn) → ((i : ℕ) → slice_get types (c + i) ≡ slice_get (held_types columns rest) i) → (i : ℕ) → slice_get types (c + 3 * length columns + i) ≡ slice_get rest i
behind_held types rest c [] same i = let place : c + 3 * length {A = ReadColumn} [] + i ≡ c + i = omega arith in ap (λ (n : ℕ). slice_get types n) place ∙ same i
behind_held types rest c (u ∷ columns) same i =
    let place : c + 3 * length (u ∷ columns) + i ≡ c + 3 + 3 * length columns + i = omega arith in
    ap (λ (n : ℕ). slice_get types n) place ∙ behind_held types rest (c + 3) columns (behind types c (value_type u.ty) I32 I32 (held_types columns rest) same) i

pub counts_declared : (types : List ValType) (t b c k : ℕ) (columns : List ReadColumn) → slice_get types (rows_left t) ≡ Some I32 → slice_get types (rows_end t) ≡ Some I32 → AllByRecursion (CountsDeclared types) (read_from t b c k columns)
counts_declared types t b c k [] left end = tt
counts_declared types t b c k (u ∷ columns) left end = ((left, end), counts_declared types t (b + 3) (c + 3) (k + 1) columns left end)

-- the directories
pub behind_tables : (types rest : List ValType) (x t : ℕ) → ((i : ℕ) → slice_get types (x + i) ≡ slice_get (table_types t rest) i) → (i : ℕ) → slice_get types (x + t + i) ≡ slice_get rest i
behind_tables types rest x zero same i = let place : x + 0 + i ≡ x + i = omega arith in ap (λ (k : ℕ). slice_get types k) place ∙ same i
behind_tables types rest x (suc t) same i =
    let place : x + suc t + i ≡ x + 1 + t + i = omega arith in
    ap (λ (k : ℕ). slice_get types k) place ∙ behind_tables types rest (x + 1) t (λ j. let further : x + 1 + j ≡ x + suc j = omega arith in ap (λ (k : ℕ). slice_get types k) further ∙ same (suc j)) i

pub table_declared : (types rest : List ValType) (x t : ℕ) → ((i : ℕ) → slice_get types (x + i) ≡ slice_get (table_types t rest) i) → (n : ℕ) → n < t → slice_get types (x + n) ≡ Some I32
table_declared types rest x zero same n low = absurd (omega (arith, low))
table_declared types rest x (suc t) same zero low = same 0
table_declared types rest x (suc t) same (suc n) low =
    let place : x + suc n ≡ x + 1 + n = omega arith in
    ap (λ (k : ℕ). slice_get types k) place ∙ table_declared types rest (x + 1) t (λ j. let further : x + 1 + j ≡ x + suc j = omega arith in ap (λ (k : ℕ). slice_get types k) further ∙ same (suc j)) n (omega (arith, low))

-- ---- at each column of an entry, by its index
abbrev pub AtEachOver : (entry : ℕ) → (ℕ → ReadColumn → Type 0) → ℕ → List ReadColumn → Type 0
AtEachOver entry P k [] = Unit {0}
AtEachOver entry P k (u ∷ columns) = (owner u.number ≡ entry → P k u) × AtEachOver entry P (k + 1) columns

pub at_each_over : (entry : ℕ) (P : ℕ → ReadColumn → Type 0) (k : ℕ) (columns : List ReadColumn) → ((i : ℕ) (u : ReadColumn) → slice_get columns i ≡ Some u → owner u.number ≡ entry → P (k + i) u) → AtEachOver entry P k columns
at_each_over entry P k [] all = tt
at_each_over entry P k (u ∷ columns) all =
    let here : k + 0 ≡ k = omega arith in (
      (λ is. subst (λ (n : ℕ). P n u) here (all 0 u refl is)),
      at_each_over entry P (k + 1) columns (λ i v there is. let place : k + suc i ≡ k + 1 + i = omega arith in subst (λ (n : ℕ). P n v) place (all (suc i) v there is)),
    )

-- what holds of each reader of an entry
pub each_over : (entry t : ℕ) (P : ℕ → ReadColumn → Type 0) (Q : Reader → Type 0) → ((b c k : ℕ) (u : ReadColumn) → P k u → Q (read_by t b c k u)) → (b c k : ℕ) (columns : List ReadColumn) → AtEachOver entry P k columns →
    AllByRecursion Q (readers_over entry (read_from t b c k columns))
each_over entry t P Q one b c k [] all = tt
each_over entry t P Q one b c k (u ∷ columns) all =
    let rest = each_over entry t P Q one (b + 3) (c + 3) (k + 1) columns all.1 in
    one_or (AllByRecursion Q) (is_over entry (read_by t b c k u)) (read_by t b c k u) (readers_over entry (read_from t (b + 3) (c + 3) (k + 1) columns))
    (λ is. (one b c k u (all.0 (sym (eqb-true entry (owner u.number) is))), rest)) rest

-- ---- and how a scan of an entry finds them
pub bases_each : (t from below b c k : ℕ) (columns : List ReadColumn) → from ≤ b → b + 3 * length columns ≤ below → AllByRecursion (AreBases from below) (read_from t b c k columns)
bases_each t from below b c k [] low high = tt
bases_each t from below b c k (u ∷ columns) low high = (
  record {
    values = (low, omega (arith, high));
    octets = λ is. (omega (arith, low), omega (arith, high), λ e. omega (arith, e));
    nulls = λ is. (omega (arith, low), omega (arith, high), (λ e. omega (arith, e)), λ text e. omega (arith, e));
  },
  bases_each t from below (b + 3) (c + 3) (k + 1) columns (omega (arith, low)) (omega (arith, high)),
)

pub counted_each : (t b c k : ℕ) (columns : List ReadColumn) → AllByRecursion (λ (r : Reader). (r.left ≡ rows_left t) × (r.end ≡ rows_end t)) (read_from t b c k columns)
counted_each t b c k [] = tt
counted_each t b c k (u ∷ columns) = ((refl, refl), counted_each t (b + 3) (c + 3) (k + 1) columns)

null_among : (not_null : Bool) (x next : ℕ) → 5 ≤ x → x < next → UsesNull (Among next) (null_word not_null x)
null_among true x next low high = tt
null_among false x next low high = (low, high)

pub read_within : (t b c k next : ℕ) (columns : List ReadColumn) → 5 ≤ c → c + 3 * length columns ≤ next → AllByRecursion (λ (q : Known). Uses (Among next) q.operand.cell) (map known_of (read_from t b c k columns))
read_within t b c k next [] low high = tt
read_within t b c k next (u ∷ columns) low high =
    (((low, omega (arith, high)), (omega (arith, low), omega (arith, high)), null_among u.not_null (c + 2) next (omega (arith, low)) (omega (arith, high))), read_within t (b + 3) (c + 3) (k + 1) next columns (omega (arith, low)) (omega (arith, high)))

texts_within : (P : ℕ → Type 0) (x at : ℕ) (texts : List (List ℕ)) → ((i : ℕ) → x ≤ i → i < x + 2 * length texts → P i) → AllByRecursion (λ (q : Known). Uses P q.operand.cell) (known_texts (literals_from x at texts) texts)
texts_within P x at [] all = tt
texts_within P x at (t ∷ texts) all = ((all x (omega arith) (omega arith), all (x + 1) (omega arith) (omega arith), tt), texts_within P (x + 2) (at + length t) texts (λ i low high. all i (omega (arith, low)) (omega (arith, high))))

words_within : (P : ℕ → Type 0) (x : ℕ) (words : List Word) → ((i : ℕ) → x ≤ i → i < x + length words → P i) → AllByRecursion (λ (q : Known). Uses P q.operand.cell) (map known_constant (constants_from x words))
words_within P x [] all = tt
words_within P x (w ∷ words) all = (one (all x (omega arith) (omega arith)) w, words_within P (x + 1) words (λ i low high. all i (omega (arith, low)) (omega (arith, high))))
  where
    one : P x → (v : Word) → Uses P (constant_operand (record { word = v; local = x })).cell
    one here (word.Number n s) = (here, here, tt)
    one here (word.Date d) = (here, here, tt)

pub literals_within : (P : ℕ → Type 0) (t at : ℕ) (texts : List (List ℕ)) (words : List Word) → ((i : ℕ) → text_start t ≤ i → i < base_start t (literal_count texts words) → P i) → AllByRecursion (λ (q : Known). Uses P q.operand.cell) (literals_known t at texts words)
literals_within P t at texts words all =
    all-append (λ (q : Known). Uses P q.operand.cell) (known_texts (texts_placed t at texts) texts) (map known_constant (words_placed t (length texts) words))
    (texts_within P (text_start t) at texts (λ i low high. all i low (omega (arith, high)))) (words_within P (word_start t (length texts)) words (λ i low high. all i (omega (arith, low)) (omega (arith, high))))
