-- The result columns that the keys of an ORDER BY name: how they are found one after another, and that they are there.
use Rattle.std.proofs.Common.{◌≡◌, ℕ, suc, ◌+◌, ◌-◌, ◌<◌, ◌≤◌, ◌^◌, Bool, true, false, List, [], ◌∷◌, ◌++◌, map, length, drop, get_or, Some, None, Result, Ok, Err, refl, sym, ap, subst, ◌∙◌, arith, append_assoc}
use Rattle.std.specs.Prelude.{if◌then◌else◌, not, Contains}
use Rattle.std.specs.Str.Parse.{digits_value, ParsesUnsigned}
use Rattle.std.proofs.lemmas.Str.Parse.{parse_digits}
use Rattle.std.proofs.Math.ListN.{drop_of_length-le}
use Rattle.std.proofs.lemmas.List.{append-nil}
use Rattle.std.proofs.lemmas.List.Elements.{Contains-append_left}
use Rattle.qw_types.specs.Digits.{are_digits}
use Rattle.qw_types.proofs.DigitLemmas.{all_digits, own, some_digit}
use Rattle.qw_order.specs.declared.sort_key.SortKey.{SortKey}
use Rattle.qw_ast.proofs.StatementLemmas.{drop_next}
use Rattle.qw_ast.specs.declared.script.SortSpecification as coded_sort
use Rattle.qw_ast.specs.Syntax.{SortSpecification}
use Rattle.qw_ast.specs.SyntaxTree as syntax
use Rattle.qw_typer.specs.declared.key.Named.{Named}
use Rattle.qw_typer.specs.declared.key.Named.TheVariants as named
use Rattle.qw_typer.specs.declared.fault.FaultKind.TheVariants.{Ambiguous, BadOrdinal, UnknownColumn}
use Rattle.qw_typer.specs.declared.refusal.Token.{Token}
use Rattle.qw_typer.specs.declared.refusal.Refusal.{Refusal}
use Rattle.qw_typer.specs.declared.refusal.Refusal.TheVariants as refusal
use Rattle.qw_typer.specs.Faults.{Fault, counted_faults, fault_where}
use Rattle.qw_typer.specs.Keys.{first_position, is_ordinal, key_faults, key_meant, keys_faults, keys_meant, positions_where}
use Rattle.qw_typer.specs.Inner.Queries.{IsNamed, IsOneOf}
use Rattle.qw_typer.specs.Inner.Typing.{spelled}
use Rattle.qw_typer.proofs.StepLemmas.{push_more}

-- ---- one after another

-- with what the rest may add, all is found
abbrev pub NamedWith : Named → List ℕ → List ℕ → Type 0
NamedWith found rest all = (ps : List ℕ) × IsNamed found ps × (ps ++ rest ≡ all)

pub named_first : (all : List ℕ) → NamedWith named.Nothing all all
named_first all = ([], refl, refl)

pub named_kept : {A : Type 0} (test : A → Bool) (xs : List A) (i : ℕ) (x : A) (is_meant : Bool) (found found' : Named) (all : List ℕ) → i < length xs → is_meant ≡ test (get_or xs i x)
    → ((ps : List ℕ) → IsNamed found ps → IsNamed found' (ps ++ (if is_meant then i ∷ [] else [])))
    → NamedWith found (positions_where test i (drop i xs)) all → NamedWith found' (positions_where test (i + 1) (drop (i + 1) xs)) all
named_kept test xs i x is_meant found found' all lt same more before =
    let here = if is_meant then i ∷ [] else [] in
    let next : i + 1 ≡ suc i = omega arith in
    let behind = positions_where test (suc i) (drop (i + 1) xs) in
    let split : positions_where test i (drop i xs) ≡ here ++ behind =
    ap (positions_where test i) (drop_next xs i x lt) ∙ ap (λ (b : Bool). (if b then i ∷ [] else []) ++ behind) (sym same) in (
      before.0 ++ here,
      more before.0 before.1,
      ap (λ (k : ℕ). (before.0 ++ here) ++ positions_where test k (drop (i + 1) xs)) next ∙ append_assoc before.0 here behind ∙ ap (λ (ps : List ℕ). before.0 ++ ps) (sym split) ∙ before.2,
    )

pub named_end : {A : Type 0} (test : A → Bool) (xs : List A) (i : ℕ) (found : Named) (all : List ℕ) → length xs ≤ i → NamedWith found (positions_where test i (drop i xs)) all → IsNamed found all
named_end test xs i found all le h =
    let none : positions_where test i (drop i xs) ≡ [] = ap (positions_where test i) (drop_of_length-le xs le) in
    subst (IsNamed found) (sym (append-nil h.0) ∙ ap (λ (ps : List ℕ). h.0 ++ ps) (sym none) ∙ h.2) h.1

-- ---- keys one after another

-- the faults of the rest are all faults, and the keys that are made stand before those of the rest
pub record KeysWith (names : List (List ℕ)) (made : List SortKey) (rest all : List SortSpecification) : Type 0 where
  pub faults : keys_faults names rest ≡ keys_faults names all
  pub meant : made ++ keys_meant names rest ≡ keys_meant names all

pub keys_kept : (names : List (List ℕ)) (made made' : List SortKey) (k : SortKey) (rest rest' : List coded_sort.SortSpecification) (s : coded_sort.SortSpecification) (all : List SortSpecification) → rest ≡ s ∷ rest'
    → made' ≡ made ++ k ∷ [] → (key_faults names (syntax.key_of s.key) ≡ []) × (k ≡ key_meant names (syntax.sort_of s))
    → KeysWith names made (map syntax.sort_of rest) all → KeysWith names made' (map syntax.sort_of rest') all
keys_kept names made made' k rest rest' s all first more found before =
    let others = map syntax.sort_of rest' in
    let faults : key_faults names (syntax.key_of s.key) ++ keys_faults names others ≡ keys_faults names all = rw first at before.faults in
    let meant : made ++ key_meant names (syntax.sort_of s) ∷ keys_meant names others ≡ keys_meant names all = rw first at before.meant in
    record {
      faults = sym (ap (λ (fs : List Fault). fs ++ keys_faults names others) found.0) ∙ faults;
      meant = ap (λ (ks : List SortKey). ks ++ keys_meant names others) more ∙ push_more made k (keys_meant names others)
          ∙ ap (λ (x : SortKey). made ++ x ∷ keys_meant names others) found.1 ∙ meant;
    }

pub keys_end : (names : List (List ℕ)) (made : List SortKey) (rest : List coded_sort.SortSpecification) (all : List SortSpecification) → length rest < 1
    → KeysWith names made (map syntax.sort_of rest) all → (keys_faults names all ≡ []) × (made ≡ keys_meant names all)
keys_end names made [] all none h = (sym h.faults, sym (append-nil made) ∙ h.meant)
keys_end names made (s ∷ rest) all none h = absurd (omega (arith, none))

-- a fault of the first of the rest
pub key_refused : (names : List (List ℕ)) (made : List SortKey) (rest rest' : List coded_sort.SortSpecification) (s : coded_sort.SortSpecification) (all : List SortSpecification) (r : Refusal) → rest ≡ s ∷ rest'
    → IsOneOf r (key_faults names (syntax.key_of s.key)) → KeysWith names made (map syntax.sort_of rest) all → IsOneOf r (keys_faults names all)
unfolding IsOneOf
key_refused names made rest rest' s all refusal.NoMemory first one h = tt
key_refused names made rest rest' s all (refusal.Fault kind token) first one h =
    let fs = key_faults names (syntax.key_of s.key) in
    let more = keys_faults names (map syntax.sort_of rest') in
    let fault : Fault = record { kind = kind; name = spelled token } in
    let faults : fs ++ more ≡ keys_faults names all = rw first at h.faults in
    subst (λ (all : List Fault). Contains all fault) faults (Contains-append_left fs more fault one)

-- ---- one key

pub nothing_refused : (token : Token) (ps : List ℕ) → ps ≡ [] → IsOneOf (refusal.Fault UnknownColumn token) (counted_faults (spelled token) ps)
unfolding IsOneOf
nothing_refused token [] e = (0, omega arith, refl)
nothing_refused token (p ∷ ps) e = absurd cc

pub several_refused : (token : Token) (ps : List ℕ) → 2 ≤ length ps → IsOneOf (refusal.Fault Ambiguous token) (counted_faults (spelled token) ps)
unfolding IsOneOf
several_refused token [] le = absurd (omega (arith, le))
several_refused token (p ∷ []) le = absurd (omega (arith, le))
several_refused token (p ∷ q ∷ ps) le = (0, omega arith, refl)

pub ordinal_given : (b : Bool) (v p : ℕ) (token : List ℕ) → Some p ≡ (if b then Some v else None) → (fault_where (not b) BadOrdinal token ≡ []) × (p ≡ first_position (if b then v ∷ [] else []))
ordinal_given true v p token e = (refl, cc)
ordinal_given false v p token e = absurd cc

pub ordinal_refused : (b : Bool) (v : ℕ) (token : Token) → None ≡ (if b then Some v else None) → IsOneOf (refusal.Fault BadOrdinal token) (fault_where (not b) BadOrdinal (spelled token))
unfolding IsOneOf
ordinal_refused true v token e = absurd cc
ordinal_refused false v token e = (0, omega arith, refl)

past : (columns : ℕ) (digits : List ℕ) → columns < 2 ^ 64 → (digits_value 10 digits < 2 ^ 64 → ⊥) → is_ordinal columns digits ≡ false
past columns digits fits large = grind (arith)

-- a number too large for its type is no position
pub no_position : {E : Type 0} (columns : ℕ) (digits : List ℕ) (r : Result ℕ E) (e : E) → columns < 2 ^ 64 → are_digits digits ≡ true → ParsesUnsigned 64 10 digits r → r ≡ Err e
    → None ≡ (if is_ordinal columns digits then Some (digits_value 10 digits - 1) else None)
no_position columns digits (Ok v) e fits are h is = absurd cc
no_position columns digits (Err d) e fits are h is =
    let large : digits_value 10 digits < 2 ^ 64 → ⊥ = λ small. parse_digits own 64 digits (Err d) h (all_digits digits are) (some_digit digits are, small) in
    rw (past columns digits fits large) refl
