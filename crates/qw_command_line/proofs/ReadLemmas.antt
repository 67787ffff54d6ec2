-- Which words are numbers in range, values of a match of the command line, the options of a run, and the words of `run` and `gen`.
use Rattle.std.proofs.Common.{◌≡◌, ◌∙◌, ℕ, ◌<◌, ◌^◌, true, false, List, length, Option, Some, None, Result, Ok, Err, refl, sym, ap, arith}
use Rattle.std.specs.Prelude.{IsErrAnd, nat_le, option_map, ◌&&◌, codes}
use Rattle.std.specs.Option.{ok_or, option_map_or}
use Rattle.std.specs.Borrow.{Bor}
use Rattle.std.specs.Str.Parse.{digits_value, ParsesUnsigned}
use Rattle.std.proofs.lemmas.Str.Parse.{parse_digits}
use Rattle.clap.proofs.WalkLemmas.{first_value-rows}
use Rattle.clap.specs.Words.{Row, first_of, first_value, rows_of}
use Rattle.clap.specs.declared.parser.matches.Found.{Found}
use Rattle.qw_types.specs.Digits.{are_digits}
use Rattle.qw_types.proofs.DigitLemmas.{all_digits, own, some_digit}
use Rattle.qw_command_line.specs.Words.{Reading, RunOptions, command, default_options, gen, gen_with, is_given, least_of, most_of, name_of, is_in_range, out_of_range, read_run, run, run_with, value_in_range, with_null, with_number, with_option, with_options, with_parts}
use Rattle.qw_command_line.specs.Inner.Values.{IsRefusal, IsValue, gen_read, null_read, number_read, options_read, parts_read, run_read}
use Rattle.qw_command_line.specs.Read.{options_of, text_of}
use Rattle.qw_command_line.specs.declared.command.RunWords.{RunWords}
use Rattle.qw_command_line.specs.declared.command.GenWords.{GenWords}
use Rattle.qw_command_line.specs.declared.command.RunOptions.{RunOptions as ReadOptions}
use Rattle.qw_command_line.specs.declared.command.Number.{Number}
use Rattle.qw_command_line.specs.declared.command.Number.TheVariants.{Quantum, Pages, Steps, Statement, Seed, Rows, Null, Parts}
use Rattle.qw_command_line.specs.declared.command.WordsFault.{WordsFault}
use Rattle.qw_command_line.specs.declared.command.WordsFault.TheVariants.{Refused, OutOfRange, NoMemory}

-- ---- numbers

fits : (number : Number) → most_of number < 2 ^ 64
fits Quantum = search arith
fits Pages = search arith
fits Steps = search arith
fits Statement = search arith
fits Seed = search arith
fits Rows = search arith
fits Null = search arith
fits Parts = search arith

past : (least most : ℕ) (bs : List ℕ) → most < 2 ^ 64 → (digits_value 10 bs < 2 ^ 64 → ⊥) → (are_digits bs && (nat_le least (digits_value 10 bs) && nat_le (digits_value 10 bs) most)) ≡ false
past least most bs most_fits large = grind (arith)

pub none_in_range : {E : Type 0} (number : Number) (bs : List ℕ) (r : Result ℕ E) (e : E) → are_digits bs ≡ true → ParsesUnsigned 64 10 bs r → r ≡ Err e → None ≡ value_in_range number bs
none_in_range number bs (Ok v) e digits h is = absurd cc
none_in_range number bs (Err d) e digits h is =
    let large : digits_value 10 bs < 2 ^ 64 → ⊥ = λ small. parse_digits own 64 bs (Err d) h (all_digits bs digits) (some_digit bs digits, small) in
    rw (past (least_of number) (most_of number) bs (fits number) large) refl

-- ---- values

pub value_found : (f : Found) (id : List ℕ) (found : Option (Bor (List ℕ))) (value : Bor (List ℕ)) → option_map (λ s. s.now) found ≡ first_value f id → found ≡ Some value → first_of id (rows_of f) ≡ Some value.now
value_found f id found value is e = sym (first_value-rows f id) ∙ sym is ∙ ap (option_map (λ (s : Bor (List ℕ)). s.now)) e

pub none_found : (f : Found) (id : List ℕ) (found : Option (Bor (List ℕ))) → option_map (λ s. s.now) found ≡ first_value f id → found ≡ None → first_of id (rows_of f) ≡ None
none_found f id found is e = sym (first_value-rows f id) ∙ sym is ∙ ap (option_map (λ (s : Bor (List ℕ)). s.now)) e

pub no_value : (f : Found) (id : List ℕ) (found : Option (Bor (List ℕ))) (fault : WordsFault) → option_map (λ s. s.now) found ≡ first_value f id → found ≡ None → IsRefusal fault → IsValue (Err fault) (first_of id (rows_of f))
no_value f id found (Refused text) is e refusal = none_found f id found is e
no_value f id found (OutOfRange number) is e refusal = absurd refusal
no_value f id found NoMemory is e refusal = tt

-- ---- numbers that words give

number_is_read : (number : Number) (value : Option ℕ) (read : ℕ → Reading) → option_map_or read value (out_of_range number) ≡ number_read (ok_or value number) read
number_is_read number None read = refl
number_is_read number (Some value) read = refl

-- by its word
word_read : (number : Number) (word : List ℕ) (value : Option ℕ) (r : Result ℕ Number) (read : ℕ → Reading) →
    value ≡ value_in_range number word → r ≡ ok_or value number → with_number number word read ≡ number_read r read
word_read number word value r read is answer =
    ap (λ v. option_map_or read v (out_of_range number)) (sym is) ∙ number_is_read number value read ∙ ap (λ a. number_read a read) (sym answer)

-- it may be left out, and its word was found
pub number_found : (rows : List Row) (number : Number) (otherwise : ℕ) (name word : List ℕ) (value : Option ℕ) (r : Result ℕ Number) (read : ℕ → Reading) →
    name ≡ name_of number → first_of name rows ≡ Some word → value ≡ value_in_range number word → r ≡ ok_or value number → with_option rows number otherwise read ≡ number_read r read
number_found rows number otherwise name word value r read named found is answer =
    let there : first_of (name_of number) rows ≡ Some word = rw named at found in
    rw there (word_read number word value r read is answer)

-- it wasn't
pub number_left_out : (rows : List Row) (number : Number) (otherwise : ℕ) (name : List ℕ) (read : ℕ → Reading) →
    name ≡ name_of number → first_of name rows ≡ None → with_option rows number otherwise read ≡ read otherwise
number_left_out rows number otherwise name read named none = rw (← named, none) refl

-- ---- the options of a run

-- a number is read as this, whatever is made of it
abbrev Reads : List Row → Number → (otherwise : ℕ) → Result ℕ Number → Type 0
Reads rows number otherwise value = (read : ℕ → Reading) → with_option rows number otherwise read ≡ number_read value read

-- all are in range
pub options_in_range : (rows : List Row) (read : RunOptions → Reading) (quantum pages steps : ℕ) → Reads rows Quantum default_options.quantum (Ok quantum) →
    Reads rows Pages default_options.pages (Ok pages) → Reads rows Steps default_options.steps (Ok steps) →
    with_options rows read ≡ read (record { pages = pages; steps = steps; quantum = quantum; counts = is_given rows (codes "stats") })
options_in_range rows read quantum pages steps q p s = q _ ∙ (p _ ∙ s _)

-- one isn't
pub pages_out_of_range : (rows : List Row) (read : RunOptions → Reading) (quantum : ℕ) (number : Number) → Reads rows Quantum default_options.quantum (Ok quantum) →
    Reads rows Pages default_options.pages (Err number) → with_options rows read ≡ out_of_range number
pages_out_of_range rows read quantum number q p = q _ ∙ p _

pub steps_out_of_range : (rows : List Row) (read : RunOptions → Reading) (quantum pages : ℕ) (number : Number) → Reads rows Quantum default_options.quantum (Ok quantum) →
    Reads rows Pages default_options.pages (Ok pages) → Reads rows Steps default_options.steps (Err number) → with_options rows read ≡ out_of_range number
steps_out_of_range rows read quantum pages number q p s = q _ ∙ (p _ ∙ s _)

-- the number that is told
pub told : (r : Result ReadOptions Number) (number : Number) (read : RunOptions → Reading) → IsErrAnd r (λ (e : Number). e ≡ number) → out_of_range number ≡ options_read r read
told (Ok options) number read h = absurd h
told (Err e) number read is = rw is refl

-- ---- the words of `run`

pub places_read : (rows : List Row) (schema folder queries : List ℕ) (r : Result RunWords Number) → first_of (codes "SCHEMA") rows ≡ Some schema →
    first_of (codes "DIR") rows ≡ Some folder → first_of (codes "QUERIES") rows ≡ Some queries → run_with rows schema folder queries ≡ run_read r → read_run rows ≡ run_read r
places_read rows schema folder queries r s f q o = rw (s, f, q) o

-- the text that stands for null
module _ (rows : List Row) (name : List ℕ) (read : Option (List ℕ) → Reading) (named : name ≡ name_of Null) where
  pub null_found : (text : List ℕ) → first_of name rows ≡ Some text → is_in_range Null (length text) ≡ true → with_null rows read ≡ read (Some text)
  null_found text found fits_in =
      let there : first_of (name_of Null) rows ≡ Some text = rw named at found in
      rw (there, fits_in) refl

  pub null_wrong : (text : List ℕ) → first_of name rows ≡ Some text → is_in_range Null (length text) ≡ false → with_null rows read ≡ out_of_range Null
  null_wrong text found past_it =
      let there : first_of (name_of Null) rows ≡ Some text = rw named at found in
      rw (there, past_it) refl

  pub null_left_out : first_of name rows ≡ None → with_null rows read ≡ read None
  null_left_out none = rw (← named, none) refl

-- and the number of parts
module _ (rows : List Row) (name : List ℕ) (read : Option ℕ → Reading) (named : name ≡ name_of Parts) where
  pub parts_found : (word : List ℕ) (value : Option ℕ) (count : ℕ) → first_of name rows ≡ Some word → value ≡ value_in_range Parts word → value ≡ Some count → with_parts rows read ≡ read (Some count)
  parts_found word value count found is some =
      let there : first_of (name_of Parts) rows ≡ Some word = rw named at found in
      let one : value_in_range Parts word ≡ Some count = sym is ∙ some in
      rw (there, one) refl

  pub parts_wrong : (word : List ℕ) (value : Option ℕ) → first_of name rows ≡ Some word → value ≡ value_in_range Parts word → value ≡ None → with_parts rows read ≡ out_of_range Parts
  parts_wrong word value found is none =
      let there : first_of (name_of Parts) rows ≡ Some word = rw named at found in
      let no : value_in_range Parts word ≡ None = sym is ∙ none in
      rw (there, no) refl

  pub parts_left_out : first_of name rows ≡ None → with_parts rows read ≡ read None
  parts_left_out none = rw (← named, none) refl

-- the options of `run`: all are in range, or one isn't
abbrev ReadsOptions : List Row → Result ReadOptions Number → Type 0
ReadsOptions rows r = (read : RunOptions → Reading) → with_options rows read ≡ options_read r read

abbrev ReadsNull : List Row → Result (Option (Bor (List ℕ))) Number → Type 0
ReadsNull rows r = (read : Option (List ℕ) → Reading) → with_null rows read ≡ null_read r read

abbrev ReadsParts : List Row → Result (Option ℕ) Number → Type 0
ReadsParts rows r = (read : Option ℕ → Reading) → with_parts rows read ≡ parts_read r read

module _ (rows : List Row) (schema folder queries : List ℕ) where
  -- what is made of the options, then of the text that stands for null, and then of the parts
  abbrev by_parts : RunOptions → Option (List ℕ) → Option ℕ → Reading
  by_parts options null parts = command (run (record { schema = schema; folder = folder; queries = queries; null = null; parts = parts }) options)

  abbrev by_null : RunOptions → Option (List ℕ) → Reading
  by_null options null = with_parts rows (λ parts. by_parts options null parts)

  abbrev by_options : RunOptions → Reading
  by_options options = with_null rows (λ null. by_null options null)

  pub run_is_read : (options : ReadOptions) (null : Option (Bor (List ℕ))) (r : Result (Option ℕ) Number) → ReadsOptions rows (Ok options) → ReadsNull rows (Ok null) → ReadsParts rows r →
      run_with rows schema folder queries
      ≡ parts_read r (λ parts. command (run (record { schema = schema; folder = folder; queries = queries; null = text_of null; parts = parts }) (options_of options)))
  run_is_read options null r o n p = o by_options ∙ (n (by_null (options_of options)) ∙ p (by_parts (options_of options) (text_of null)))

  pub null_is_told : (options : ReadOptions) (number : Number) → ReadsOptions rows (Ok options) → ReadsNull rows (Err number) → run_with rows schema folder queries ≡ out_of_range number
  null_is_told options number o n = o by_options ∙ n (by_null (options_of options))

  pub option_is_told : (number : Number) → ReadsOptions rows (Err number) → run_with rows schema folder queries ≡ out_of_range number
  option_is_told number o = o by_options

-- the number that is told
pub run_told : (r : Result RunWords Number) (number : Number) → IsErrAnd r (λ (e : Number). e ≡ number) → out_of_range number ≡ run_read r
run_told (Ok words) number h = absurd h
run_told (Err e) number is = rw is refl

-- ---- the words of `gen`

-- its seed and its rows are in range
pub gen_is_read : (matches : List Row) (seed_word rows_word : List ℕ) (seed_value rows_value : Option ℕ) (seed rows : ℕ) (r : Result ReadOptions Number) →
    seed_value ≡ value_in_range Seed seed_word → Ok seed ≡ ok_or seed_value Seed → rows_value ≡ value_in_range Rows rows_word → Ok rows ≡ ok_or rows_value Rows →
    ((read : RunOptions → Reading) → with_options matches read ≡ options_read r read) →
    gen_with matches seed_word rows_word ≡ options_read r (λ options. command (gen seed rows options))
gen_is_read matches seed_word rows_word seed_value rows_value seed rows r s seed_found n rows_found o =
    word_read Seed seed_word seed_value (Ok seed) _ s seed_found ∙ (word_read Rows rows_word rows_value (Ok rows) _ n rows_found ∙ o _)

-- the number that is told
pub gen_told : (r : Result GenWords Number) (number : Number) → IsErrAnd r (λ (e : Number). e ≡ number) → out_of_range number ≡ gen_read r
gen_told (Ok words) number h = absurd h
gen_told (Err e) number is = rw is refl
