-- The fields of a row's values in two parts: those of its key, and those of the arguments of set functions.
use Rattle.std.proofs.Common.{◌≡◌, ℕ, zero, suc, ◌+◌, ◌≤◌, IsTrue, Option, Some, List, [], ◌∷◌, drop, take, slice_get, refl, sym, subst, arith, ◌<◌, ◌++◌, get_or, ap, ◌∙◌, length}
use Rattle.std.specs.List.{AllByRecursion}
use Rattle.qw_types.specs.Kind.{IsOfKind}
use Rattle.qw_types.specs.declared.kind.Kind.{Kind}
use Rattle.qw_types.specs.declared.kind.Kind.TheVariants as kind
use Rattle.qw_types.specs.declared.value.Val.{Val}
use Rattle.qw_types.specs.declared.value.Val.TheVariants as val
use Rattle.qw_scalar.specs.Evaluation.{cell_of}
use Rattle.qw_scalar.specs.Typing.{is_number}
use Rattle.qw_grouped.specs.declared.set_function.SetFunctionKind.{SetFunctionKind}
use Rattle.qw_grouped.specs.declared.set_function.SetFunctionKind.TheVariants.{CountRows, Count, Sum, Avg, Min, Max}
use Rattle.qw_module.specs.declared.instruction.ValType.{ValType}
use Rattle.qw_low.specs.State.{Part, Value}
use Rattle.qw_feed.specs.Cells.{AllSupply, AllUse, kinds_of}
use Rattle.qw_feed.specs.Stages.{Among}
use Rattle.qw_table.specs.Joins.{sources_of}
use Rattle.qw_table.specs.Keys.{AreBelow, AreDeclared, DeclaresKind, IsBelow}
use Rattle.qw_table.specs.declared.key.Field.{Field}
use Rattle.qw_group.specs.Areas.{DeclaresArgument, Gives}
use Rattle.qw_group.specs.Groups.{AllGive, AreArgumentsBelow, AreChosenWithin, ArgumentsUse, DeclareArguments, functions_in}
use Rattle.qw_group.specs.declared.group.Aggregate.{Aggregate}
use Rattle.qw_operator.proofs.Fronts.{all_take}
use Rattle.qw_operator.specs.Grouping.{TakesKind, TakeKinds, over_fields}

-- ---- the first so many, and those behind them
pub uses_taken : (P : ℕ → Type 0) (n : ℕ) (fs : List Field) → AllUse P (sources_of fs) → AllUse P (sources_of (take n fs))
uses_taken P zero fs uses = tt
uses_taken P (suc n) [] uses = tt
uses_taken P (suc n) (f ∷ fs) uses = (uses.0, uses_taken P n fs uses.1)

pub uses_dropped : (P : ℕ → Type 0) (n : ℕ) (fs : List Field) → AllUse P (sources_of fs) → AllUse P (sources_of (drop n fs))
uses_dropped P zero fs uses = uses
uses_dropped P (suc n) [] uses = tt
uses_dropped P (suc n) (f ∷ fs) uses = uses_dropped P n fs uses.1

pub kinds_dropped : (n : ℕ) (fs : List Field) → kinds_of (sources_of (drop n fs)) ≡ drop n (kinds_of (sources_of fs))
kinds_dropped zero fs = refl
kinds_dropped (suc n) [] = refl
kinds_dropped (suc n) (f ∷ fs) = kinds_dropped n fs

module _ (Text : Part → ℕ → List ℕ → Type 0) (locals : List Value) where
  pub supplied_taken : (n : ℕ) (fs : List Field) (vs : List Val) → AllSupply Text locals (sources_of fs) vs → AllSupply Text locals (sources_of (take n fs)) (take n vs)
  supplied_taken zero fs vs h = tt
  supplied_taken (suc n) [] [] h = tt
  supplied_taken (suc n) [] (v ∷ vs) h = absurd h
  supplied_taken (suc n) (f ∷ fs) [] h = absurd h
  supplied_taken (suc n) (f ∷ fs) (v ∷ vs) h = (h.0, supplied_taken n fs vs h.1)

  pub supplied_dropped : (n : ℕ) (fs : List Field) (vs : List Val) → AllSupply Text locals (sources_of fs) vs → AllSupply Text locals (sources_of (drop n fs)) (drop n vs)
  supplied_dropped zero fs vs h = h
  supplied_dropped (suc n) [] [] h = tt
  supplied_dropped (suc n) [] (v ∷ vs) h = absurd h
  supplied_dropped (suc n) (f ∷ fs) [] h = absurd h
  supplied_dropped (suc n) (f ∷ fs) (v ∷ vs) h = supplied_dropped n fs vs h.1

-- ---- the arguments of set functions
pub arguments_use : (n : ℕ) (functions : List SetFunctionKind) (fs : List Field) → AllUse (Among n) (sources_of fs) → ArgumentsUse n (over_fields functions fs)
arguments_use n [] fs uses = tt
arguments_use n (g ∷ functions) [] uses = tt
arguments_use n (g ∷ functions) (f ∷ fs) uses = (uses.0, arguments_use n functions fs uses.1)

-- a number of any scale is one
as_number : (k : Kind) (v : Val) → (let o : Option Kind = Some k in IsTrue (is_number o)) → IsOfKind k v → IsOfKind (kind.Number 0) v
as_number k val.Null is of = tt
as_number (kind.Number s) (val.Num z) is of = of
as_number (kind.Number s) (val.Date d) is of = absurd of
as_number (kind.Number s) (val.Text t) is of = absurd of
as_number kind.Date v is of = absurd cc
as_number kind.Text v is of = absurd cc

-- the value at a place, of the list from there on
at_place : (place : ℕ) (row : List Val) (v : Val) (vs : List Val) → drop place row ≡ v ∷ vs → (cell_of (slice_get row place) ≡ v) × (drop (place + 1) row ≡ vs)
at_place zero [] v vs is = cc
at_place zero (x ∷ xs) v vs is = (cc, cc)
at_place (suc n) [] v vs is = cc
at_place (suc n) (x ∷ xs) v vs is =
    let rest = at_place n xs v vs is in
    let next : suc n + 1 ≡ suc (n + 1) = omega arith in
    (rest.0, subst (λ (m : ℕ). drop m (x ∷ xs) ≡ vs) (sym next) rest.1)

module _ (Text : Part → ℕ → List ℕ → Type 0) (locals : List Value) (row : List Val) where
  pub given : (functions : List SetFunctionKind) (fs : List Field) (place : ℕ) (vs : List Val) → drop place row ≡ vs → TakeKinds functions (kinds_of (sources_of fs)) → AllSupply Text locals (sources_of fs) vs → AllGive Text locals place (over_fields functions fs) row
  given [] fs place vs at taken supplied = tt
  given (g ∷ functions) [] place vs at taken supplied = tt
  given (g ∷ functions) (f ∷ fs) place [] at taken supplied = absurd supplied
  given (g ∷ functions) (f ∷ fs) place (v ∷ vs) at taken supplied =
      let there = at_place place row v vs at in
      (subst (Gives Text locals g f) (sym there.0) (one g taken.0), given functions fs (place + 1) vs there.1 taken.1 supplied.1)
    where
      one : (h : SetFunctionKind) → (let o : Option Kind = Some f.kind in TakesKind h o) → Gives Text locals h f v
      one CountRows t = tt
      one Count t = supplied.0
      one Sum t = (supplied.0.0, as_number f.kind v t supplied.0.1)
      one Avg t = (supplied.0.0, as_number f.kind v t supplied.0.1)
      one Min t = supplied.0
      one Max t = supplied.0

-- ---- what MIN and MAX compare, of set functions that have an argument
pub chosen_over : (row : List Val) (n place : ℕ) (functions : List SetFunctionKind) (fs : List Field) → AreChosenWithin place functions row n → AreChosenWithin place (functions_in (over_fields functions fs)) row n
chosen_over row n place [] fs h = tt
chosen_over row n place (g ∷ functions) [] h = tt
chosen_over row n place (g ∷ functions) (f ∷ fs) h = (h.0, chosen_over row n (place + 1) functions fs h.1)

-- ---- the types of the locals of arguments
pub arguments_declared : (types : List ValType) (functions : List SetFunctionKind) (fs : List Field) → AreDeclared types fs → TakeKinds functions (kinds_of (sources_of fs)) → DeclareArguments types (over_fields functions fs)
arguments_declared types [] fs declared taken = tt
arguments_declared types (g ∷ functions) [] declared taken = tt
arguments_declared types (g ∷ functions) (f ∷ fs) declared taken = (one g taken.0, arguments_declared types functions fs declared.1 taken.1)
  where
    number : (k : Kind) → (let o : Option Kind = Some k in IsTrue (is_number o)) → DeclaresKind types k f.cell → DeclaresKind types (kind.Number 0) f.cell
    number (kind.Number s) is so = so
    number kind.Date is so = absurd cc
    number kind.Text is so = absurd cc

    one : (h : SetFunctionKind) → (let o : Option Kind = Some f.kind in TakesKind h o) → DeclaresArgument types h f
    one CountRows t = tt
    one Count t = declared.0.1
    one Sum t = (number f.kind t declared.0.0, declared.0.1)
    one Avg t = (number f.kind t declared.0.0, declared.0.1)
    one Min t = declared.0
    one Max t = declared.0

-- ---- set functions over arguments, in a loop
abbrev over : SetFunctionKind → Field → Aggregate
over g f = record { function = g; argument = f }

over_next : (functions : List SetFunctionKind) (fs : List Field) (i : ℕ) (d : SetFunctionKind) (e : Field) → i < length functions → length functions ≤ length fs →
    over_fields (take (i + 1) functions) fs ≡ over_fields (take i functions) fs ++ over (get_or functions i d) (get_or fs i e) ∷ []
over_next [] fs i d e less le = absurd (omega (arith, less))
over_next (g ∷ functions) [] i d e less le = absurd (omega (arith, le))
over_next (g ∷ functions) (f ∷ fs) zero d e less le = refl
over_next (g ∷ functions) (f ∷ fs) (suc n) d e less le =
    let next : suc n + 1 ≡ suc (n + 1) = omega arith in
    ap (λ (m : ℕ). over_fields (take m (g ∷ functions)) (f ∷ fs)) next ∙ ap (λ (l : List Aggregate). over g f ∷ l) (over_next functions fs n d e (omega (arith, less)) (omega (arith, le)))

pub over_more : (functions : List SetFunctionKind) (fs : List Field) (i : ℕ) (d : SetFunctionKind) (e : Field) (made more : List Aggregate) → i < length functions → length functions ≤ length fs → made ≡ over_fields (take i functions) fs →
    more ≡ made ++ over (get_or functions i d) (get_or fs i e) ∷ [] → more ≡ over_fields (take (i + 1) functions) fs
over_more functions fs i d e made more less le before added =
    added ∙ (ap (λ (l : List Aggregate). l ++ over (get_or functions i d) (get_or fs i e) ∷ []) before ∙ sym (over_next functions fs i d e less le))

pub over_few : (functions : List SetFunctionKind) (fs : List Field) → length (over_fields functions fs) ≤ length functions
over_few [] fs = omega arith
over_few (g ∷ functions) [] = omega arith
over_few (g ∷ functions) (f ∷ fs) = let rest = over_few functions fs in omega (arith, rest)

-- ---- parts of a list
pub take_few : {A : Type 0} (n : ℕ) (xs : List A) → length (take n xs) ≤ n
take_few zero xs = omega arith
take_few (suc n) [] = omega arith
take_few (suc n) (x ∷ xs) = let rest = take_few n xs in omega (arith, rest)

pub all_dropped : {A : Type 0} (P : A → Type 0) (n : ℕ) (xs : List A) → AllByRecursion P xs → AllByRecursion P (drop n xs)
all_dropped P zero xs all = all
all_dropped P (suc n) [] all = tt
all_dropped P (suc n) (x ∷ xs) all = all_dropped P n xs all.1

-- ---- which locals fields are in
pub below_over : (n : ℕ) (functions : List SetFunctionKind) (fs : List Field) → AreBelow n fs → AreArgumentsBelow n (over_fields functions fs)
below_over n [] fs below = tt
below_over n (g ∷ functions) [] below = tt
below_over n (g ∷ functions) (f ∷ fs) below = (below.0, below_over n functions fs below.1)

pub arguments_below : (n m columns : ℕ) (functions : List SetFunctionKind) (fs : List Field) → AreBelow n fs → AreArgumentsBelow n (over_fields functions (take m (drop columns fs)))
arguments_below n m columns functions fs below = below_over n functions (take m (drop columns fs)) (all_take (λ (f : Field). IsBelow n f) m (drop columns fs) (all_dropped (λ (f : Field). IsBelow n f) columns fs below))
