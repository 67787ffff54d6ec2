-- The readers of src/parse/table.rt read the rules of a schema exactly: a lemma for each rule.
use Rattle.std.proofs.Common.{◌≡◌, ℕ, ◌<◌, Bool, true, false, cond, ◌||◌, List, [], ◌∷◌, ◌++◌, length, map, Option, Some, None, refl, sym, ap, subst, ◌∙◌, arith, inl, inr}
use Rattle.std.specs.Prelude.{◌⊎◌, codes, option_map}
use Rattle.std.specs.List.{AllZip}
use Rattle.std.specs.Str.{bytes_eq}
use Rattle.std.specs.Str.Parse.{digits_value}
use Rattle.std.proofs.lemmas.Bool.{cases_Bool, or_cases}
use Rattle.std.proofs.lemmas.List.{append-nil, length-map}
use Rattle.std.proofs.lemmas.Slice.Eq.{bytes_eq-Decides}
use Rattle.qw_types.specs.declared.schema.Column.{Column}
use Rattle.qw_types.specs.declared.schema.Table.{Table}
use Rattle.qw_types.specs.declared.value.Ty.{Ty}
use Rattle.qw_types.specs.declared.value.Ty.TheVariants as types
use Rattle.qw_types.specs.Digits.{are_digits}
use Rattle.qw_token.specs.Token.{Lexeme}
use Rattle.qw_ast.specs.Grammar.{folded, name_of, Terminal, key_word, regular, identifier, symbol, unsigned, Matches, separated}
use Rattle.qw_ast.specs.SchemaGrammar as grammar
use Rattle.qw_ast.specs.SchemaGrammar.{IsDecimalWord, word_decimal, word_dec, word_numeric, IsDataType, IsColumnDefinition, IsTableDefinition, IsTableOf}
use Rattle.qw_schema.specs.declared.parse.table.TypeWord.{TypeWord}
use Rattle.qw_schema.specs.declared.parse.table.TypeWord.TheVariants.{Integer, Decimal, Date, Varchar}
use Rattle.qw_schema.specs.Inner.Parser.{is_identifier, identifier_of, number_of, comma, terminal_at, is_none, all_of, before_at, list_at}
use Rattle.qw_schema.specs.Inner.Tables.{type_word_of, type_word_at, identifier_at, number_at, scale_at, decimal_at, varchar_at, sizes_at, type_at, nullability_at, column_at, table_at, create_table_at, sized}
use Rattle.qw_schema.specs.Inner.Judges.{Read}
use Rattle.qw_schema.specs.Inner.Written.{closing}
use Rattle.qw_schema.proofs.TerminalLemmas.{cases_option, some_same, guard_some, other_than, is_identifier-Decides}
use Rattle.qw_schema.proofs.FormLemmas.{ReadsExactly, Anything, token_exactly, both_exactly, behind_exactly, before_exactly, made_exactly, given_exactly, either_form, either_tree, choice_exactly, then_exactly, words_exactly, all_exactly}
use Rattle.qw_schema.proofs.ListLemmas.{NoComma, Shortens, StopsList, exactly_shortens, list_exactly}
use Rattle.qw_schema.proofs.GrammarLemmas.{choice_some, regular_exactly}

-- where less follows
only_before : {W A : Type 0} {form : W → List Terminal} {tree : W → A} {read : List Lexeme → Option (A × List Lexeme)} (Stops : List Lexeme → Type 0) → ReadsExactly form tree Anything read → ReadsExactly form tree Stops read
only_before Stops reads = record { takes = reads.takes; is = λ w ts rest h _. reads.is w ts rest h tt }

-- ---- words of types

-- the word says this of a type
data Says : TypeWord → List ℕ → Type 0 where
  says_integer : Says Integer (codes "INTEGER")
  says_int : Says Integer (codes "INT")
  says_decimal : (word : List ℕ) → IsDecimalWord word → Says Decimal word
  says_date : Says Date (codes "DATE")
  says_varchar : Says Varchar (codes "VARCHAR")

is_word : (word other : List ℕ) (k : TypeWord) → Says k other → bytes_eq word other ≡ true → Says k word
is_word word other k says e = subst (Says k) (sym ((bytes_eq-Decides word other).0 e)) says

integer_said : (word : List ℕ) → (bytes_eq word (codes "INTEGER") || bytes_eq word (codes "INT")) ≡ true → Says Integer word
integer_said word e =
    elim (or_cases (bytes_eq word (codes "INTEGER")) (bytes_eq word (codes "INT")) e) [
      | inl is ↦ is_word word (codes "INTEGER") Integer says_integer is
      | inr is ↦ is_word word (codes "INT") Integer says_int is
    ]

decimal_said : (word : List ℕ) → (bytes_eq word (codes "DECIMAL") || (bytes_eq word (codes "DEC") || bytes_eq word (codes "NUMERIC"))) ≡ true → Says Decimal word
decimal_said word e =
    elim (or_cases (bytes_eq word (codes "DECIMAL")) (bytes_eq word (codes "DEC") || bytes_eq word (codes "NUMERIC")) e) [
      | inl is ↦ is_word word (codes "DECIMAL") Decimal (says_decimal (codes "DECIMAL") word_decimal) is
      | inr more ↦ elim (or_cases (bytes_eq word (codes "DEC")) (bytes_eq word (codes "NUMERIC")) more) [
        | inl is ↦ is_word word (codes "DEC") Decimal (says_decimal (codes "DEC") word_dec) is
        | inr is ↦ is_word word (codes "NUMERIC") Decimal (says_decimal (codes "NUMERIC") word_numeric) is
      ]
    ]

said_or : (b : Bool) (a k : TypeWord) (word : List ℕ) (o : Option TypeWord) → cond b (Some a) o ≡ Some k → (b ≡ true → Says a word) → (o ≡ Some k → Says k word) → Says k word
said_or b a k word o e says more =
    elim (choice_some b a k o e) [
      | inl is ↦ subst (λ x. Says x word) is.1 (says is.0)
      | inr other ↦ more other
    ]

said : (word : List ℕ) (k : TypeWord) → type_word_of word ≡ Some k → Says k word
said word k e =
    said_or _ Integer k word _ e (integer_said word) (λ f.
    said_or _ Decimal k word _ f (decimal_said word) (λ g.
    said_or _ Date k word _ g (is_word word (codes "DATE") Date says_date) (λ h.
    said_or _ Varchar k word None h (is_word word (codes "VARCHAR") Varchar says_varchar) (λ i. absurd cc))))

decimal_found : (word : List ℕ) → IsDecimalWord word → type_word_of word ≡ Some Decimal
decimal_found word word_decimal = refl
decimal_found word word_dec = refl
decimal_found word word_numeric = refl

found : (k : TypeWord) (word : List ℕ) → Says k word → type_word_of word ≡ Some k
found k word says_integer = refl
found k word says_int = refl
found k word (says_decimal other is) = decimal_found other is
found k word says_date = refl
found k word says_varchar = refl

-- a word of a type, and what it says
abbrev TypeWords : Type 0
TypeWords = (k : TypeWord) × (word : List ℕ) × Says k word

type_word_exactly : ReadsExactly (λ (w : TypeWords). key_word w.1 ∷ []) (λ (w : TypeWords). w.0) Anything type_word_at
unfolding type_word_at
type_word_exactly =
    token_exactly (λ (w : TypeWords). key_word w.1) (λ (w : TypeWords). w.0) (λ (t : Lexeme). type_word_of (folded t.octets))
    (λ t k e. ((k, folded t.octets, said (folded t.octets) k e), refl, refl))
    (λ w t h. ap type_word_of h ∙ found w.0 w.1 w.2)

-- ---- names and numbers

pub identifier_exactly : ReadsExactly (λ name. identifier name ∷ []) (λ name. name) Anything identifier_at
unfolding identifier_at
identifier_exactly =
    token_exactly identifier (λ name. name) identifier_of
    (λ t name e. let g = guard_some (is_identifier t) (name_of t.octets) name e in (name, refl, ((is_identifier-Decides t).0 g.0, g.1)))
    (λ name t h. rw ((is_identifier-Decides t).1 h.0, h.1) refl)

number_exactly : ReadsExactly (λ n. unsigned n ∷ []) (λ n. n) Anything number_at
unfolding number_at
number_exactly =
    token_exactly unsigned (λ n. n) number_of
    (λ t n e. let g = guard_some (are_digits t.octets) (digits_value 10 t.octets) n e in (n, refl, (g.0, g.1)))
    (λ n t h. rw (h.0, h.1) refl)

-- ---- sizes

abbrev one_number : ℕ → List Terminal
one_number n = unsigned n ∷ []

abbrev no_terminals : Unit {0} → List Terminal
no_terminals w = []

-- a scale or none
abbrev Scale : Type 0
Scale = ℕ ⊎ Unit {0}

abbrev scale_form : Scale → List Terminal
scale_form w = either_form comma one_number no_terminals w

abbrev scale_tree : Scale → ℕ
scale_tree w = either_tree (λ n. n) (λ (u : Unit {0}). 0) w

scale_exactly : ReadsExactly scale_form scale_tree NoComma scale_at
unfolding scale_at
scale_exactly =
    choice_exactly comma (only_before NoComma number_exactly) (only_before NoComma (given_exactly 0)) (λ w ts rest h ends. ap (terminal_at comma) h ∙ ends)

closes : (t : Lexeme) → Matches (symbol (codes ")")) t → Matches comma t → ⊥
closes t e f = let both : codes ")" ≡ codes "," = sym e ∙ f in cc

decimal_exactly : {T : Type 0} (make : Ty → T) → ReadsExactly (λ (w : ℕ × Scale). symbol (codes "(") ∷ unsigned w.0 ∷ (scale_form w.1 ++ symbol (codes ")") ∷ [])) (λ (w : ℕ × Scale). make (types.Decimal w.0 (scale_tree w.1))) Anything (decimal_at make)
unfolding decimal_at
decimal_exactly make =
    made_exactly (λ (x : ℕ × ℕ). make (types.Decimal x.0 x.1))
    (behind_exactly (symbol (codes "(") ∷ [])
    (both_exactly number_exactly
    (before_exactly (symbol (codes ")") ∷ []) scale_exactly (λ ts rest h. other_than comma (symbol (codes ")")) ts h.0 h.1 closes))
    (λ w ts rest h. tt)))

varchar_exactly : {T : Type 0} (make : Ty → T) → ReadsExactly (λ n. symbol (codes "(") ∷ unsigned n ∷ symbol (codes ")") ∷ []) (λ n. make (types.Varchar n)) Anything (varchar_at make)
unfolding varchar_at
varchar_exactly make =
    made_exactly (λ (n : ℕ). make (types.Varchar n))
    (behind_exactly (symbol (codes "(") ∷ []) (before_exactly (symbol (codes ")") ∷ []) number_exactly (λ ts rest h. tt)))

-- the words behind that of a type
abbrev Sizes : TypeWord → Type 0
Sizes Integer = Unit {0}
Sizes Decimal = ℕ × Scale
Sizes Date = Unit {0}
Sizes Varchar = ℕ

abbrev sizes_form : (k : TypeWord) → Sizes k → List Terminal
sizes_form Integer w = []
sizes_form Decimal w = symbol (codes "(") ∷ unsigned w.0 ∷ (scale_form w.1 ++ symbol (codes ")") ∷ [])
sizes_form Date w = []
sizes_form Varchar n = symbol (codes "(") ∷ unsigned n ∷ symbol (codes ")") ∷ []

abbrev sizes_type : (k : TypeWord) → Sizes k → Ty
sizes_type Integer w = types.Integer
sizes_type Decimal w = types.Decimal w.0 (scale_tree w.1)
sizes_type Date w = types.Date
sizes_type Varchar n = types.Varchar n

sizes_exactly : {T : Type 0} (make : Ty → T) (k : TypeWord) → ReadsExactly (sizes_form k) (λ w. make (sizes_type k w)) Anything (sizes_at make k)
sizes_exactly make Integer = given_exactly (make types.Integer)
sizes_exactly make Decimal = decimal_exactly make
sizes_exactly make Date = given_exactly (make types.Date)
sizes_exactly make Varchar = varchar_exactly make

-- ---- types

-- a type and a form of it
abbrev pub WrittenType : Type 0
WrittenType = (ty : Ty) × (form : List Terminal) × IsDataType ty form

module _ {T : Type 0} (make : Ty → T) where
  to_type : (k : TypeWord) (word : List ℕ) → Says k word → (s : Sizes k) → (w : WrittenType) × ((key_word word ∷ sizes_form k s) ≡ w.1) × (make (sizes_type k s) ≡ make w.0)
  to_type k word says_integer s = ((types.Integer, _, grammar.integer), refl, refl)
  to_type k word says_int s = ((types.Integer, _, grammar.int), refl, refl)
  to_type k word (says_decimal other is) (p, inl s) = ((types.Decimal p s, _, grammar.decimal_scaled other p s is), refl, refl)
  to_type k word (says_decimal other is) (p, inr u) = ((types.Decimal p 0, _, grammar.decimal other p is), refl, refl)
  to_type k word says_date s = ((types.Date, _, grammar.date), refl, refl)
  to_type k word says_varchar n = ((types.Varchar n, _, grammar.varchar n), refl, refl)

  from_type : (ty : Ty) (form : List Terminal) → IsDataType ty form → (v : (v : TypeWords) × Sizes v.0) × ((key_word v.0.1 ∷ sizes_form v.0.0 v.1) ≡ form) × (make (sizes_type v.0.0 v.1) ≡ make ty)
  from_type ty form grammar.integer = (((Integer, codes "INTEGER", says_integer), tt), refl, refl)
  from_type ty form grammar.int = (((Integer, codes "INT", says_int), tt), refl, refl)
  from_type ty form (grammar.decimal word p is) = (((Decimal, word, says_decimal word is), (p, inr tt)), refl, refl)
  from_type ty form (grammar.decimal_scaled word p s is) = (((Decimal, word, says_decimal word is), (p, inl s)), refl, refl)
  from_type ty form grammar.date = (((Date, codes "DATE", says_date), tt), refl, refl)
  from_type ty form (grammar.varchar n) = (((Varchar, codes "VARCHAR", says_varchar), n), refl, refl)

pub type_exactly : {T : Type 0} (make : Ty → T) → ReadsExactly (λ (w : WrittenType). w.1) (λ (w : WrittenType). make w.0) Anything (type_at make)
unfolding type_at
type_exactly make =
    words_exactly (λ v. to_type make v.0.0 v.0.1 v.0.2 v.1) (λ w. from_type make w.0 w.1 w.2) (then_exactly type_word_exactly (sizes_exactly make))

-- ---- columns

-- no NOT follows
abbrev pub NoNot : List Lexeme → Type 0
NoNot rest = terminal_at (key_word (codes "NOT")) rest ≡ None

-- NOT NULL or nothing
abbrev Nullability : Type 0
Nullability = Unit {0} ⊎ Unit {0}

abbrev null_form : Unit {0} → List Terminal
null_form w = key_word (codes "NULL") ∷ []

abbrev nullability_form : Nullability → List Terminal
nullability_form w = either_form (key_word (codes "NOT")) null_form no_terminals w

abbrev nullability_tree : Nullability → Bool
nullability_tree w = either_tree (λ (u : Unit {0}). true) (λ (u : Unit {0}). false) w

nullability_exactly : ReadsExactly nullability_form nullability_tree NoNot nullability_at
unfolding nullability_at
nullability_exactly =
    choice_exactly (key_word (codes "NOT")) (only_before NoNot (behind_exactly (key_word (codes "NULL") ∷ []) (given_exactly true))) (only_before NoNot (given_exactly false))
    (λ w ts rest h ends. ap (terminal_at (key_word (codes "NOT"))) h ∙ ends)

-- a column and a form of it
abbrev pub WrittenDefinition : Type 0
WrittenDefinition = (column : Column) × (form : List Terminal) × IsColumnDefinition column form

-- what is read of a column
abbrev pub column_tree : {T : Type 0} → (Ty → T) → Column → List ℕ × (T × Bool)
column_tree make c = (c.name, (make c.ty, c.not_null))

-- the parts of a column
abbrev Parts : Type 0
Parts = List ℕ × (WrittenType × Nullability)

module _ {T : Type 0} (make : Ty → T) where
  to_column : (v : Parts) → (w : WrittenDefinition) × ((identifier v.0 ∷ (v.1.0.1 ++ nullability_form v.1.1)) ≡ w.1) × ((v.0, (make v.1.0.0, nullability_tree v.1.1)) ≡ column_tree make w.0)
  to_column (name, (t, inl u)) = ((record { name = name; ty = t.0; not_null = true }, _, grammar.not_null name t.0 t.1 t.2), refl, refl)
  to_column (name, (t, inr u)) = ((record { name = name; ty = t.0; not_null = false }, _, grammar.nullable name t.0 t.1 t.2), ap (λ f. identifier name ∷ f) (append-nil t.1), refl)

  from_column : (column : Column) (form : List Terminal) → IsColumnDefinition column form → (v : Parts) × ((identifier v.0 ∷ (v.1.0.1 ++ nullability_form v.1.1)) ≡ form) × ((v.0, (make v.1.0.0, nullability_tree v.1.1)) ≡ column_tree make column)
  from_column column form (grammar.nullable name ty f is) = ((name, ((ty, f, is), inr tt)), ap (λ f. identifier name ∷ f) (append-nil f), refl)
  from_column column form (grammar.not_null name ty f is) = ((name, ((ty, f, is), inl tt)), refl, refl)

pub column_exactly : {T : Type 0} (make : Ty → T) → ReadsExactly (λ (w : WrittenDefinition). w.1) (λ (w : WrittenDefinition). column_tree make w.0) NoNot (column_at make)
unfolding column_at
column_exactly make =
    words_exactly (to_column make) (λ w. from_column make w.0 w.1 w.2)
    (both_exactly identifier_exactly (both_exactly (type_exactly make) nullability_exactly (λ w ts rest h. tt)) (λ w ts rest h. tt))

column_some : (column : Column) (form : List Terminal) → IsColumnDefinition column form → 0 < length form
column_some column form (grammar.nullable name ty f is) = omega arith
column_some column form (grammar.not_null name ty f is) = omega arith

pub column_shortens : {T : Type 0} (make : Ty → T) → Shortens (column_at make)
column_shortens make = exactly_shortens (column_exactly make) (λ w. column_some w.0 w.1 w.2)

not_is_no_comma : (t : Lexeme) → Matches comma t → Matches (key_word (codes "NOT")) t → ⊥
not_is_no_comma t e f = let both : codes "NOT" ≡ folded (codes ",") = sym f ∙ ap folded e in cc

not_is_no_bracket : (t : Lexeme) → Matches (symbol (codes ")")) t → Matches (key_word (codes "NOT")) t → ⊥
not_is_no_bracket t e f = let both : codes "NOT" ≡ folded (codes ")") = sym f ∙ ap folded e in cc

-- columns, one at least
abbrev pub Definitions : Type 0
Definitions = (ws : List WrittenDefinition) × (0 < length ws)

abbrev forms_of : List WrittenDefinition → List (List Terminal)
forms_of ws = map (λ (w : WrittenDefinition). w.1) ws

columns_exactly : {T : Type 0} (make : Ty → T) → ReadsExactly (λ (ws : Definitions). separated (forms_of ws.0)) (λ (ws : Definitions). map (λ (w : WrittenDefinition). column_tree make w.0) ws.0) (StopsList NoNot) (list_at (column_at make))
columns_exactly make =
    list_exactly (column_exactly make) (λ w. column_some w.0 w.1 w.2) (λ ts rest one. other_than (key_word (codes "NOT")) comma ts rest one not_is_no_comma)

-- ---- tables

table_exactly : ReadsExactly (λ table. key_word (codes "CREATE") ∷ key_word (codes "TABLE") ∷ regular table ∷ symbol (codes "(") ∷ []) (λ name. name) Anything table_at
unfolding table_at
table_exactly =
    behind_exactly (key_word (codes "CREATE") ∷ key_word (codes "TABLE") ∷ [])
    (before_exactly (symbol (codes "(") ∷ []) regular_exactly (λ ts rest h. tt))

-- a table and a form of it
abbrev pub WrittenTable : Type 0
WrittenTable = (table : Table) × (form : List Terminal) × IsTableDefinition table form

-- what is read of a table
abbrev pub table_tree : {T : Type 0} → (Ty → T) → Table → List ℕ × List (List ℕ × (T × Bool))
table_tree make t = (t.name, map (column_tree make) t.columns)

module _ {T : Type 0} (make : Ty → T) where
  -- the name, and the columns
  abbrev TableParts : Type 0
  TableParts = List ℕ × Definitions

  abbrev parts_form : TableParts → List Terminal
  parts_form v = key_word (codes "CREATE") ∷ key_word (codes "TABLE") ∷ regular v.0 ∷ symbol (codes "(") ∷ (separated (forms_of v.1.0) ++ symbol (codes ")") ∷ [])

  abbrev parts_tree : TableParts → List ℕ × List (List ℕ × (T × Bool))
  parts_tree v = (v.0, map (λ (w : WrittenDefinition). column_tree make w.0) v.1.0)

  all_defined : (ws : List WrittenDefinition) → AllZip IsColumnDefinition (map (λ (w : WrittenDefinition). w.0) ws) (forms_of ws)
  all_defined [] = tt
  all_defined (w ∷ ws) = (w.2, all_defined ws)

  trees_same : (ws : List WrittenDefinition) → map (λ (w : WrittenDefinition). column_tree make w.0) ws ≡ map (column_tree make) (map (λ (w : WrittenDefinition). w.0) ws)
  trees_same [] = refl
  trees_same (w ∷ ws) = ap (λ x. column_tree make w.0 ∷ x) (trees_same ws)

  to_table : (v : TableParts) → (w : WrittenTable) × (parts_form v ≡ w.1) × (parts_tree v ≡ table_tree make w.0)
  to_table v =
      let columns = map (λ (w : WrittenDefinition). w.0) v.1.0 in (
        (
          record { name = v.0; columns = columns },
          _,
          grammar.table v.0 columns (forms_of v.1.0) (omega (arith, length-map v.1.0 (λ (w : WrittenDefinition). w.0), v.1.1)) (all_defined v.1.0),
        ),
        refl,
        ap (λ x. (v.0, x)) (trees_same v.1.0),
      )

  -- the columns with their forms
  paired : (columns : List Column) (forms : List (List Terminal)) → AllZip IsColumnDefinition columns forms → (ws : List WrittenDefinition) × (forms_of ws ≡ forms) × (map (λ (w : WrittenDefinition). w.0) ws ≡ columns)
  paired [] [] all = ([], refl, refl)
  paired [] (f ∷ fs) all = absurd all
  paired (c ∷ cs) [] all = absurd all
  paired (c ∷ cs) (f ∷ fs) all =
      let more = paired cs fs all.1 in
      ((c, f, all.0) ∷ more.0, ap (λ x. f ∷ x) more.1, ap (λ x. c ∷ x) more.2)

  from_table : (table : Table) (form : List Terminal) → IsTableDefinition table form → (v : TableParts) × (parts_form v ≡ form) × (parts_tree v ≡ table_tree make table)
  from_table table form (grammar.table name columns forms some all) =
      let ws = paired columns forms all in
      let count : length ws.0 ≡ length columns = sym (length-map ws.0 (λ (w : WrittenDefinition). w.0)) ∙ ap (λ (x : List Column). length x) ws.2 in (
        (name, (ws.0, omega (arith, count, some))),
        ap (λ x. key_word (codes "CREATE") ∷ key_word (codes "TABLE") ∷ regular name ∷ symbol (codes "(") ∷ (separated x ++ symbol (codes ")") ∷ [])) ws.1,
        ap (λ x. (name, x)) (trees_same ws.0 ∙ ap (map (column_tree make)) ws.2),
      )

pub create_table_exactly : {T : Type 0} (make : Ty → T) → ReadsExactly (λ (w : WrittenTable). w.1) (λ (w : WrittenTable). table_tree make w.0) Anything (create_table_at make)
unfolding create_table_at
create_table_exactly make =
    words_exactly (to_table make) (λ w. from_table make w.0 w.1 w.2)
    (both_exactly table_exactly
    (before_exactly (symbol (codes ")") ∷ []) (columns_exactly make)
    (λ ts rest h. (other_than comma (symbol (codes ")")) ts h.0 h.1 closes, other_than (key_word (codes "NOT")) (symbol (codes ")")) ts h.0 h.1 not_is_no_bracket)))
    (λ w ts rest h. tt))

-- ---- what create_table makes of its parts

pub create_table_none : (ts : List Lexeme) → table_at ts ≡ None → all_of (create_table_at sized) ts ≡ None
unfolding create_table_at
create_table_none ts e = rw e refl

pub create_table_is : (ts rest : List Lexeme) (name : List ℕ) (found : Option (List Read)) → table_at ts ≡ Some (name, rest) → found ≡ all_of closing rest → option_map (λ cs. (name, cs)) found ≡ all_of (create_table_at sized) ts
unfolding create_table_at closing
create_table_is ts rest name found e is =
    elim (cases_option (before_at (list_at (column_at sized)) (symbol (codes ")") ∷ []) rest)) [
      | inl none ↦ (let f = rw none at is in rw (e, none, f) refl)
      | inr some ↦ elim (cases_Bool (is_none some.0.1)) [
        | inl left ↦ (let f = rw (some.1, left) at is in rw (e, some.1, left, f) refl)
        | inr more ↦ (let f = rw (some.1, more) at is in rw (e, some.1, more, f) refl)
      ]
    ]

-- ---- the table that tokens are

-- what is read of tokens is a table that they are
pub table_read : {T : Type 0} (make : Ty → T) (ts : List Lexeme) (d : List ℕ × List (List ℕ × (T × Bool))) → all_of (create_table_at make) ts ≡ Some d → (table : Table) × (table_tree make table ≡ d) × IsTableOf ts table
table_read make ts d e =
    let w = (all_exactly (create_table_exactly make) tt ts).0 d e in
    (w.0.0, w.1, record { form = w.0.1; definition = w.0.2; follows = w.2 })

-- a table that tokens are is read of them
pub table_is_read : {T : Type 0} (make : Ty → T) (ts : List Lexeme) (table : Table) → IsTableOf ts table → all_of (create_table_at make) ts ≡ Some (table_tree make table)
table_is_read make ts table is = (all_exactly (create_table_exactly make) tt ts).1 (table, is.form, is.definition) is.follows

whole : Ty → Ty
whole ty = ty

column_in : List ℕ × (Ty × Bool) → Column
column_in x = record { name = x.0; ty = x.1.0; not_null = x.1.1 }

columns_again : (cs : List Column) → map column_in (map (column_tree whole) cs) ≡ cs
unfolding column_in whole
columns_again [] = refl
columns_again (c ∷ cs) = ap (λ x. c ∷ x) (columns_again cs)

-- tokens are one table
pub IsTableOf-unique : (ts : List Lexeme) (table other : Table) → IsTableOf ts table → IsTableOf ts other → table ≡ other
IsTableOf-unique ts table other is is' =
    let same = some_same (table_tree whole table) (table_tree whole other) (sym (table_is_read whole ts table is) ∙ table_is_read whole ts other is') in
    let name : table.name ≡ other.name = ap (λ (x : List ℕ × List (List ℕ × (Ty × Bool))). x.0) same in
    let columns : table.columns ≡ other.columns =
    sym (columns_again table.columns) ∙ ap (λ (x : List ℕ × List (List ℕ × (Ty × Bool))). map column_in x.1) same ∙ columns_again other.columns in
    ap (λ x. record table { name = x }) name ∙ ap (λ x. record other { columns = x }) columns

definition_some : (table : Table) (form : List Terminal) → IsTableDefinition table form → 0 < length table.columns
definition_some table form (grammar.table name columns forms some all) = some

-- a table that tokens are has a column
pub table_some : (ts : List Lexeme) (table : Table) → IsTableOf ts table → 0 < length table.columns
table_some ts table is = definition_some table is.form is.definition
