-- The entry that a row leaves in a table: its key, and the columns that are kept, from which a row is made again that has the same values at the columns
-- that are read.
use Rattle.std.proofs.Common.{◌≡◌, ◌∙◌, ℕ, suc, ◌+◌, nat_eq, Bool, true, false, ◌||◌, if◌then◌else◌, List, [], ◌∷◌, ◌++◌, length, map, Result, Ok, refl, sym, ap, ap₂, arith}
use Rattle.std.specs.List.{AllByRecursion, filter as filter_list}
use Rattle.std.proofs.lemmas.Bool.Decides.{nat_tests}
use Rattle.qw_types.specs.Arithmetic.{◌>>=◌}
use Rattle.qw_types.specs.declared.code.Code.{Code}
use Rattle.qw_types.specs.declared.value.Val.{Val}
use Rattle.qw_types.specs.declared.value.Val.TheVariants.{Null}
use Rattle.qw_scalar.specs.Evaluation.{Environment, at_row, value_of}
use Rattle.qw_scalar.specs.Expression.{Expression}
use Rattle.qw_scalar.specs.Units.{units_of_items}
use Rattle.qw_meaning.specs.Flow.{values_of}
use Rattle.qw_meaning.proofs.FromLemmas.{cell}
use Rattle.qw_physical.specs.Courses.{column_of, row_of}
use Rattle.qw_physical.specs.Reads.{is_read}
use Rattle.qw_physical.specs.declared.pipeline.ReadColumn.{ReadColumn}
use Rattle.qw_physical.proofs.Entries.{columns_values, kept_values, row_of_cell}
use Rattle.qw_physical.proofs.Meeting.{parted}

-- ---- values of two lists of expressions

pub record Values (xs ys : List Expression) (env : Environment) (values : List Val) : Type 0 where
  pub front : List Val
  pub back : List Val
  pub is : values ≡ front ++ back
  pub front_is : values_of xs env ≡ Ok front
  pub back_is : values_of ys env ≡ Ok back

pub values_append : (xs ys : List Expression) (env : Environment) (values : List Val) → values_of (xs ++ ys) env ≡ Ok values → Values xs ys env values
values_append [] ys env values e = record { front = []; back = values; is = refl; front_is = refl; back_is = e }
values_append (x ∷ xs) ys env values e =
    let p = parted (value_of x env) (values_of (xs ++ ys) env) values e in
    let rest = values_append xs ys env p.tail p.rest_is in
    record {
      front = p.head ∷ rest.front;
      back = rest.back;
      is = p.is ∙ ap (λ (vs : List Val). p.head ∷ vs) rest.is;
      front_is = ap₂ (λ (a : Result Val Code) (b : Result (List Val) Code). a >>= (λ v. b >>= (λ vs. Ok (v ∷ vs)))) p.first_is rest.front_is;
      back_is = rest.back_is;
    }

pub values_long : (es : List Expression) (env : Environment) (values : List Val) → values_of es env ≡ Ok values → length values ≡ length es
values_long [] env values e = let none : values ≡ [] = cc in ap length none
values_long (x ∷ es) env values e =
    let p = parted (value_of x env) (values_of es env) values e in
    ap length p.is ∙ ap suc (values_long es env p.tail p.rest_is)

-- ---- columns that are kept

pub all_filter : {A : Type 0} (P : A → Type 0) (test : A → Bool) (xs : List A) → AllByRecursion P xs → AllByRecursion P (filter_list test xs)
all_filter P test [] h = tt
all_filter {A = A} P test (x ∷ xs) h = one (test x) (filter_list test xs) (all_filter P test xs h.1)
  where
    one : (b : Bool) (rest : List A) → AllByRecursion P rest → AllByRecursion P (if b then x ∷ rest else rest)
    one true rest g = (h.0, g)
    one false rest g = g

same_number : (n : ℕ) → nat_eq n n ≡ true
same_number n = grind (arith, nat_tests)

pub or_true : (a b : Bool) → b ≡ true → (a || b) ≡ true
or_true true b h = refl
or_true false b h = h

read_more : (c : ReadColumn) (cs : List ReadColumn) → (ds : List ReadColumn) → AllByRecursion (λ (d : ReadColumn). is_read cs d.number ≡ true) ds → AllByRecursion (λ (d : ReadColumn). is_read (c ∷ cs) d.number ≡ true) ds
read_more c cs [] h = tt
read_more c cs (d ∷ ds) h = (or_true (nat_eq c.number d.number) (is_read cs d.number) h.0, read_more c cs ds h.1)

pub all_read : (cs : List ReadColumn) → AllByRecursion (λ (c : ReadColumn). is_read cs c.number ≡ true) cs
all_read [] = tt
all_read (c ∷ cs) = (ap (λ (b : Bool). b || is_read cs c.number) (same_number c.number), read_more c cs cs (all_read cs))

-- columns compare nothing
pub columns_units : (es : List Expression) (cs : List ReadColumn) (env : Environment) → units_of_items (es ++ map column_of cs) env ≡ units_of_items es env
columns_units [] [] env = refl
columns_units [] (c ∷ cs) env = let rest = columns_units [] cs env in omega (arith, rest)
columns_units (e ∷ es) cs env = rw (columns_units es cs env) refl

-- ---- the row that is made again

same_values : (vs ws : List Val) → (let r : Result (List Val) Code = Ok vs in r) ≡ Ok ws → vs ≡ ws
same_values vs ws e = cc

-- the values of kept columns at their places
pub made_again : (cs : List ReadColumn) (r values : List Val) → values_of (map column_of cs) (at_row r) ≡ Ok values → (i : ℕ) → cell (row_of cs values) i ≡ (if is_read cs i then cell r i else Null)
made_again cs r values e i = ap (λ (vs : List Val). cell (row_of cs vs) i) (same_values values (kept_values cs r) (sym e ∙ columns_values cs r)) ∙ row_of_cell cs r i
