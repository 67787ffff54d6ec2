-- What a column reference may mean, counted entry by entry; and the set functions of the grouped table that the code keeps.
use Rattle.std.proofs.Common.{◌≡◌, ℕ, ◌+◌, ◌||◌, Bool, List, [], ◌∷◌, ◌++◌, map, length, ◌==◌, cond, Option, Some, None, option_map, position, slice_get, refl, sym, ap, ◌∙◌, append_assoc}
use Rattle.std.specs.Prelude.{if◌then◌else◌, nat_lt, not}
use Rattle.std.specs.List.{list_any, prefix_len}
use Rattle.std.specs.Str.{bytes_eq}
use Rattle.std.specs.Option.{option_and_then}
use Rattle.std.proofs.lemmas.List.{length-map}
use Rattle.std.proofs.lemmas.Option.{slice_get-map}
use Rattle.qw_scalar.specs.Expression as meaning
use Rattle.qw_typer.specs.declared.scope.Entry.{Entry as CodeEntry}
use Rattle.qw_typer.specs.declared.scope.FunctionColumn.{FunctionColumn as CodeFunction}
use Rattle.qw_typer.specs.declared.scope.Grouping.{Grouping as CodeGrouping}
use Rattle.qw_typer.specs.declared.scope.Found.{Found}
use Rattle.qw_typer.specs.Faults.{is_known}
use Rattle.qw_typer.specs.Meant.{Entry, FunctionColumn, column_named, function_at, is_qualified, listed, referred}
use Rattle.qw_typer.specs.Inner.Typing.{IsFound, as_entries, as_entry, as_function, as_grouping}

-- ---- entry by entry

-- with what the rest may add, all is found
abbrev pub FoundWith : Found → List meaning.Expression → List meaning.Expression → Type 0
FoundWith f rest all = (es : List meaning.Expression) × IsFound f es × (es ++ rest ≡ all)

pub found_kept : (qualifier : Option (List ℕ)) (name : List ℕ) (f f' here : Found) (rest rest' : List CodeEntry) (e : CodeEntry) (all : List meaning.Expression) → rest ≡ e ∷ rest'
    → ((es fs : List meaning.Expression) → IsFound f es → IsFound here fs → IsFound f' (es ++ fs))
    → IsFound here (if is_qualified qualifier (as_entry e) then listed (column_named (as_entry e) name) else [])
    → FoundWith f (referred (as_entries rest) qualifier name) all → FoundWith f' (referred (as_entries rest') qualifier name) all
found_kept qualifier name f f' here rest rest' e all first both is before =
    let part = if is_qualified qualifier (as_entry e) then listed (column_named (as_entry e) name) else [] in
    let next : before.0 ++ (part ++ referred (as_entries rest') qualifier name) ≡ all = ap (λ (es : List CodeEntry). before.0 ++ referred (as_entries es) qualifier name) (sym first) ∙ before.2 in
    (before.0 ++ part, both before.0 part before.1 is, append_assoc before.0 part (referred (as_entries rest') qualifier name) ∙ next)

-- ---- a test of the entries that the code keeps

pub any_mapped : {X Y : Type 0} (p : Y → Bool) (f : X → Y) (xs : List X) → list_any p (map f xs) ≡ list_any (λ x. p (f x)) xs
any_mapped p f [] = refl
any_mapped p f (x ∷ xs) = ap (λ b. p (f x) || b) (any_mapped p f xs)

pub known_is : (scope : List CodeEntry) (name : List ℕ) → list_any (λ (e : CodeEntry). bytes_eq name e.name) scope ≡ is_known (as_entries scope) (Some name)
known_is scope name = sym (any_mapped (λ (e : Entry). bytes_eq name e.name) as_entry scope)

-- ---- the set functions of the grouped table

prefix_map : {X Y : Type 0} (p : Y → Bool) (f : X → Y) (xs : List X) → prefix_len p (map f xs) ≡ prefix_len (λ x. p (f x)) xs
prefix_map p f [] = refl
prefix_map p f (x ∷ xs) = ap (λ (n : ℕ). cond (p (f x)) (1 + n) 0) (prefix_map p f xs)

position_map : {X Y : Type 0} (p : Y → Bool) (f : X → Y) (xs : List X) → position p (map f xs) ≡ position (λ x. p (f x)) xs
position_map p f xs =
    let first = prefix_map (λ y. not (p y)) f xs in
    let count : length (map f xs) ≡ length xs = length-map xs f in
    ap (λ (n : ℕ). cond (nat_lt n (length (map f xs))) (Some n) None) first ∙ ap (λ (n : ℕ). cond (nat_lt (prefix_len (λ x. not (p (f x))) xs) n) (Some (prefix_len (λ x. not (p (f x))) xs)) None) count

placed_map : (columns : ℕ) (fs : List CodeFunction) (k : ℕ) (o : Option CodeFunction) → slice_get fs k ≡ o
    → option_map (λ (f : FunctionColumn). meaning.column (columns + k) f.ty) (slice_get (map as_function fs) k) ≡ option_map (λ (f : CodeFunction). meaning.column (columns + k) f.ty) o
placed_map columns fs k None e = ap (option_map (λ (f : FunctionColumn). meaning.column (columns + k) f.ty)) (slice_get-map as_function fs k ∙ ap (option_map as_function) e)
placed_map columns fs k (Some f) e = ap (option_map (λ (f : FunctionColumn). meaning.column (columns + k) f.ty)) (slice_get-map as_function fs k ∙ ap (option_map as_function) e)

-- the set function at a place, found among those of the code
pub function_is : (g : CodeGrouping) (place : ℕ) (o : Option ℕ) → o ≡ position (λ (f : CodeFunction). f.place == place) g.functions.now
    → function_at (as_grouping g) place ≡ option_and_then (λ (k : ℕ). option_map (λ (f : CodeFunction). meaning.column (length g.columns.now + k) f.ty) (slice_get g.functions.now k)) o
function_is g place o e = ap (option_and_then (λ (k : ℕ). option_map (λ (f : FunctionColumn). meaning.column (length g.columns.now + k) f.ty) (slice_get (map as_function g.functions.now) k)))
    (position_map (λ (f : FunctionColumn). f.place == place) as_function g.functions.now ∙ sym e) ∙ by_place o
  where
    by_place : (o : Option ℕ) → option_and_then (λ (k : ℕ). option_map (λ (f : FunctionColumn). meaning.column (length g.columns.now + k) f.ty) (slice_get (map as_function g.functions.now) k)) o
        ≡ option_and_then (λ (k : ℕ). option_map (λ (f : CodeFunction). meaning.column (length g.columns.now + k) f.ty) (slice_get g.functions.now k)) o
    by_place None = refl
    by_place (Some k) = placed_map (length g.columns.now) g.functions.now k (slice_get g.functions.now k) refl
