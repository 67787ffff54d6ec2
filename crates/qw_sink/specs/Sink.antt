-- The text of rows, and what the report says of a query.
use Rattle.std.specs.Prelude.{ℕ, ◌*◌, ◌/◌, ◌%◌, List, [], ◌∷◌, ◌++◌, length, map, codes, unsigned_abs}
use Rattle.std.specs.Fmt.{decimal}
use Rattle.std.specs.List.{flat_map}
use Rattle.csv.specs.Writing.{default_writer, row_text}
use Rattle.qw_types.specs.NumberText.{decimal_text}
use Rattle.qw_types.specs.declared.code.Code.{Code}
use Rattle.qw_types.specs.declared.code.Code.TheVariants.{DivZero, OutOfRange}
use Rattle.qw_types.specs.declared.kind.Kind.{Kind}
use Rattle.qw_types.specs.declared.kind.Kind.TheVariants as kind
use Rattle.qw_types.specs.declared.value.Val.{Val}
use Rattle.qw_types.specs.declared.value.Val.TheVariants.{Null, Num, Date, Text}
use Rattle.qw_sink.specs.declared.sink.Head.{Head}

-- one digit of a number behind a text: that of this power of ten
abbrev pub with_digit : List ℕ → ℕ → ℕ → List ℕ
with_digit before n power = before ++ decimal (n / power % 10)

-- two digits, of a month or a day
abbrev pub with_two : List ℕ → ℕ → ℕ → List ℕ
with_two before n power = with_digit (with_digit before n (10 * power)) n power

-- a date that is kept as year * 10000 + month * 100 + day, as YYYY-MM-DD
abbrev pub date_text : ℕ → List ℕ
date_text n = with_two (with_two (with_two (with_two [] n 1000000) n 10000 ++ codes "-") n 100 ++ codes "-") n 1

-- the digits after the point of a kind's numbers
abbrev pub kind_scale : Kind → ℕ
kind_scale (kind.Number scale) = scale
kind_scale kind.Date = 0
kind_scale kind.Text = 0

-- a value of a kind as it is printed: null as the empty field, a number in decimal digits with as many after the point as its
-- kind says, after "-" where it is below 0, a text as it is
abbrev pub printed : Kind → Val → List ℕ
printed k Null = []
printed k (Num n) = decimal_text n (kind_scale k)
printed k (Date d) = date_text (unsigned_abs d)
printed k (Text octets) = octets

-- the values of a row as they are printed, each under its column's head
abbrev pub printed_row : List Head → List Val → List (List ℕ)
printed_row [] values = []
printed_row (head ∷ header) [] = []
printed_row (head ∷ header) (value ∷ values) = printed head.kind value ∷ printed_row header values

-- a line of fields (RFC 4180), which are quoted only where they have to be; it ends with a line feed
abbrev pub line_of : List (List ℕ) → List ℕ
line_of fields = row_text default_writer fields

-- a line of the columns' names, and a line for each row
abbrev pub text_of_rows : List Head → List (List Val) → List ℕ
text_of_rows header rows = line_of (map (λ (h : Head). h.name) header) ++ flat_map (λ row. line_of (printed_row header row)) rows

-- the line before so many rows of the query of a number, counted from 1
abbrev pub rows_line : (number count : ℕ) → List ℕ
rows_line number count = codes "QUERY " ++ decimal number ++ codes " ROWS " ++ decimal count ++ codes "\n"

-- what the report says of the query of a number that gave these rows
abbrev pub report_of_rows : ℕ → List Head → List (List Val) → List ℕ
report_of_rows number header rows = rows_line number (length rows) ++ text_of_rows header rows

-- what the report says of the query of a number whose request for pages beside those held was past its limit
abbrev pub report_of_pages : (number held asked limit : ℕ) → List ℕ
report_of_pages number held asked limit =
    codes "QUERY " ++ decimal number ++ codes " PAGES " ++ decimal held ++ codes " " ++ decimal asked ++ codes " " ++ decimal limit ++ codes "\n"

-- the SQLSTATE of an exception (ISO/IEC 9075:1992, 22.1)
abbrev pub sqlstate : Code → List ℕ
sqlstate DivZero = codes "22012"
sqlstate OutOfRange = codes "22003"

-- what the report says of the query of a number that raised an exception
abbrev pub report_of_exception : ℕ → Code → List ℕ
report_of_exception number code = codes "QUERY " ++ decimal number ++ codes " SQLSTATE " ++ sqlstate code ++ codes "\n"

-- what the report says of the query of a number that ran as many instructions as its limit says
abbrev pub report_of_steps : (number limit : ℕ) → List ℕ
report_of_steps number limit = codes "QUERY " ++ decimal number ++ codes " STEPS " ++ decimal limit ++ codes "\n"

-- what the report says of the counts of the query of a number: how many instructions it ran, and how many pages it held
abbrev pub report_of_counts : (number steps pages : ℕ) → List ℕ
report_of_counts number steps pages =
    codes "STATS " ++ decimal number ++ codes " STEPS " ++ decimal steps ++ codes " PAGES " ++ decimal pages ++ codes "\n"
