-- The columns of `*` over the grouped table, one after another: each is grouped, or the `*` is refused.
use Rattle.std.proofs.Common.{◌≡◌, ℕ, suc, ◌+◌, ◌*◌, ◌-◌, ◌≤◌, ◌<◌, ◌||◌, Bool, true, false, List, [], ◌∷◌, ◌++◌, map, length, drop, get_or, Option, Some, None, Err, is_none, unwrap_or, option_map, refl, sym, ap, ◌∙◌, arith}
use Rattle.std.specs.Prelude.{codes}
use Rattle.std.proofs.Math.ListN.{drop_of_length-le}
use Rattle.std.proofs.lemmas.List.{append-nil}
use Rattle.std.proofs.lemmas.List.Folds.{list_any-append}
use Rattle.qw_types.specs.declared.schema.Column.{Column}
use Rattle.qw_scalar.specs.Expression as meaning
use Rattle.qw_scalar.specs.Tree.{expression_of}
use Rattle.qw_scalar.specs.declared.expression.Expr.{Expr}
use Rattle.qw_scalar.specs.declared.expression.Expr.TheVariants as expr
use Rattle.qw_ast.proofs.StatementLemmas.{drop_next}
use Rattle.qw_typer.specs.declared.fault.FaultKind.TheVariants.{NotGrouped}
use Rattle.qw_typer.specs.declared.refusal.Refusal.{Refusal}
use Rattle.qw_typer.specs.declared.refusal.Refusal.TheVariants as refusal
use Rattle.qw_typer.specs.declared.scope.Entry.{Entry as CodeEntry}
use Rattle.qw_typer.specs.declared.scope.Place.{Place}
use Rattle.qw_typer.specs.Faults.{Fault, fault_where}
use Rattle.qw_typer.specs.Grouping.{has_ungrouped, starred, starred_faults}
use Rattle.qw_typer.specs.Meant.{Grouping, column_grouped}
use Rattle.qw_typer.specs.Typed.{columns_from, columns_meant}
use Rattle.qw_typer.specs.Inner.Typing.{Refuses, as_entries, outcome}
use Rattle.qw_typer.proofs.StepLemmas.{push_map}

-- ---- the columns of an entry

-- what a column of the code is
abbrev pub place_meant : Option Place → Option meaning.Expression
place_meant o = option_map (λ (p : Place). meaning.column p.place p.ty) o

-- the column of FROM of this place
abbrev pub own_column : ℕ → Column → meaning.Expression
own_column place c = meaning.column place c.ty

here_is : (g : Grouping) (c : Column) (number first i : ℕ) (o : Option Place) → first ≡ 64 * number → place_meant o ≡ column_grouped g (own_column (first + i) c) → place_meant o ≡ column_grouped g (own_column (64 * number + i) c)
here_is g c number first i o at found = found ∙ ap (λ (k : ℕ). column_grouped g (own_column (k + i) c)) at

-- the fault of the columns from this one on
next_faults : (g : Grouping) (columns : List Column) (i : ℕ) (d : Column) (number : ℕ) (all : List Fault) → i < length columns → starred_faults (Some g) (columns_from (64 * number + i) (drop i columns)) ≡ all
    → fault_where (is_none (column_grouped g (own_column (64 * number + i) (get_or columns i d))) || has_ungrouped g (columns_from (64 * number + (i + 1)) (drop (i + 1) columns))) NotGrouped (codes "*") ≡ all
next_faults g columns i d number all lt before =
    let e = own_column (64 * number + i) (get_or columns i d) in
    let next : suc (64 * number + i) ≡ 64 * number + (i + 1) = omega arith in
    sym (ap (λ (k : ℕ). fault_where (is_none (column_grouped g e) || has_ungrouped g (columns_from k (drop (i + 1) columns))) NotGrouped (codes "*")) next)
    ∙ sym (ap (λ (cs : List Column). starred_faults (Some g) (columns_from (64 * number + i) cs)) (drop_next columns i d lt)) ∙ before

pub faultless_kept : (g : Grouping) (columns : List Column) (i : ℕ) (d : Column) (number first : ℕ) (p : Place) (all : List Fault) → i < length columns → first ≡ 64 * number
    → place_meant (Some p) ≡ column_grouped g (own_column (first + i) (get_or columns i d))
    → starred_faults (Some g) (columns_from (64 * number + i) (drop i columns)) ≡ all → starred_faults (Some g) (columns_from (64 * number + (i + 1)) (drop (i + 1) columns)) ≡ all
faultless_kept g columns i d number first p all lt at found before =
    let rest = has_ungrouped g (columns_from (64 * number + (i + 1)) (drop (i + 1) columns)) in
    let here = here_is g (get_or columns i d) number first i (Some p) at found in
    ap (λ (o : Option meaning.Expression). fault_where (is_none o || rest) NotGrouped (codes "*")) here ∙ next_faults g columns i d number all lt before

pub starred_kept : (g : Grouping) (columns : List Column) (i : ℕ) (d : Column) (number first : ℕ) (made made' : List Expr) (p : Place) (all : List meaning.Expression) → i < length columns → first ≡ 64 * number
    → place_meant (Some p) ≡ column_grouped g (own_column (first + i) (get_or columns i d)) → made' ≡ made ++ expr.Column p.place p.ty ∷ []
    → map expression_of made ++ starred (Some g) (columns_from (64 * number + i) (drop i columns)) ≡ all
    → map expression_of made' ++ starred (Some g) (columns_from (64 * number + (i + 1)) (drop (i + 1) columns)) ≡ all
starred_kept g columns i d number first made made' p all lt at found more before =
    let c = get_or columns i d in
    let e = own_column (64 * number + i) c in
    let others = starred (Some g) (columns_from (64 * number + (i + 1)) (drop (i + 1) columns)) in
    let next : suc (64 * number + i) ≡ 64 * number + (i + 1) = omega arith in
    let here : meaning.column p.place p.ty ≡ unwrap_or (column_grouped g e) meaning.null = ap (λ (o : Option meaning.Expression). unwrap_or o meaning.null) (here_is g c number first i (Some p) at found) in
    ap (λ (es : List Expr). map expression_of es ++ others) more ∙ push_map expression_of made (expr.Column p.place p.ty) others
    ∙ ap (λ (x : meaning.Expression). map expression_of made ++ x ∷ others) here
    ∙ sym (ap (λ (k : ℕ). map expression_of made ++ unwrap_or (column_grouped g e) meaning.null ∷ starred (Some g) (columns_from k (drop (i + 1) columns))) next)
    ∙ sym (ap (λ (cs : List Column). map expression_of made ++ starred (Some g) (columns_from (64 * number + i) cs)) (drop_next columns i d lt)) ∙ before

-- one that isn't grouped
pub column_refused : (g : Grouping) (columns : List Column) (i : ℕ) (d : Column) (number first : ℕ) (all : List Fault) → i < length columns → first ≡ 64 * number
    → None ≡ column_grouped g (own_column (first + i) (get_or columns i d)) → starred_faults (Some g) (columns_from (64 * number + i) (drop i columns)) ≡ all
    → outcome all true ≡ Err (record { kind = NotGrouped; name = codes "*" })
column_refused g columns i d number first all lt at found before =
    let rest = has_ungrouped g (columns_from (64 * number + (i + 1)) (drop (i + 1) columns)) in
    let here = here_is g (get_or columns i d) number first i None at found in
    let is : record { kind = NotGrouped; name = codes "*" } ∷ [] ≡ all =
    ap (λ (o : Option meaning.Expression). fault_where (is_none o || rest) NotGrouped (codes "*")) here ∙ next_faults g columns i d number all lt before in
    sym (ap (λ (fs : List Fault). outcome fs true) is)

pub starred_first : (g : Grouping) (number : ℕ) (columns : List Column) (made : List Expr)
    → map expression_of made ++ starred (Some g) (columns_from (64 * number + 0) columns) ≡ map expression_of made ++ starred (Some g) (columns_from (64 * number) columns)
starred_first g number columns made = let none : 64 * number + 0 ≡ 64 * number = omega arith in ap (λ (k : ℕ). map expression_of made ++ starred (Some g) (columns_from k columns)) none

pub faultless_first : (g : Grouping) (number : ℕ) (columns : List Column) → starred_faults (Some g) (columns_from (64 * number + 0) columns) ≡ starred_faults (Some g) (columns_from (64 * number) columns)
faultless_first g number columns = let none : 64 * number + 0 ≡ 64 * number = omega arith in ap (λ (k : ℕ). starred_faults (Some g) (columns_from k columns)) none

pub starred_end : (g : Grouping) (columns : List Column) (i number : ℕ) (made : List Expr) (all : List meaning.Expression) → length columns ≤ i
    → map expression_of made ++ starred (Some g) (columns_from (64 * number + i) (drop i columns)) ≡ all → map expression_of made ≡ all
starred_end g columns i number made all le h =
    sym (append-nil (map expression_of made)) ∙ sym (ap (λ (cs : List Column). map expression_of made ++ starred (Some g) (columns_from (64 * number + i) cs)) (drop_of_length-le columns le)) ∙ h

pub faultless_end : (g : Grouping) (columns : List Column) (i number : ℕ) (all : List Fault) → length columns ≤ i → starred_faults (Some g) (columns_from (64 * number + i) (drop i columns)) ≡ all → all ≡ []
faultless_end g columns i number all le h = sym h ∙ ap (λ (cs : List Column). starred_faults (Some g) (columns_from (64 * number + i) cs)) (drop_of_length-le columns le)

-- ---- entry by entry

-- the fault of an entry's columns and those behind it
both_faults : (g : Grouping) (here behind : List meaning.Expression) → starred_faults (Some g) (here ++ behind) ≡ fault_where (has_ungrouped g here || has_ungrouped g behind) NotGrouped (codes "*")
both_faults g here behind = ap (λ (b : Bool). fault_where b NotGrouped (codes "*")) (list_any-append (λ (e : meaning.Expression). is_none (column_grouped g e)) here behind)

entries_split : (g : Grouping) (rest rest' : List CodeEntry) (e : CodeEntry) (all : List Fault) → rest ≡ e ∷ rest' → starred_faults (Some g) (columns_meant (as_entries rest)) ≡ all
    → fault_where (has_ungrouped g (columns_from (64 * e.number) e.columns.now) || has_ungrouped g (columns_meant (as_entries rest'))) NotGrouped (codes "*") ≡ all
entries_split g rest rest' e all first before =
    sym (both_faults g (columns_from (64 * e.number) e.columns.now) (columns_meant (as_entries rest')))
    ∙ sym (ap (λ (es : List CodeEntry). starred_faults (Some g) (columns_meant (as_entries es))) first) ∙ before

no_front : (b c : Bool) → fault_where b NotGrouped (codes "*") ≡ [] → fault_where c NotGrouped (codes "*") ≡ fault_where (b || c) NotGrouped (codes "*")
no_front true c h = absurd cc
no_front false c h = refl

pub entry_kept : (g : Grouping) (rest rest' : List CodeEntry) (e : CodeEntry) (all : List Fault) → rest ≡ e ∷ rest' → starred_faults (Some g) (columns_from (64 * e.number) e.columns.now) ≡ []
    → starred_faults (Some g) (columns_meant (as_entries rest)) ≡ all → starred_faults (Some g) (columns_meant (as_entries rest')) ≡ all
entry_kept g rest rest' e all first none before =
    no_front (has_ungrouped g (columns_from (64 * e.number) e.columns.now)) (has_ungrouped g (columns_meant (as_entries rest'))) none ∙ entries_split g rest rest' e all first before

refused_before : (r : Refusal) (b c : Bool) → Refuses r (outcome (fault_where b NotGrouped (codes "*")) true) → Refuses r (outcome (fault_where (b || c) NotGrouped (codes "*")) true)
unfolding Refuses
refused_before refusal.NoMemory b c h = tt
refused_before (refusal.Fault kind token) true c h = h
refused_before (refusal.Fault kind token) false c h = absurd cc

pub entry_refused : (g : Grouping) (r : Refusal) (rest rest' : List CodeEntry) (e : CodeEntry) (all : List Fault) → rest ≡ e ∷ rest' → Refuses r (outcome (starred_faults (Some g) (columns_from (64 * e.number) e.columns.now)) true)
    → starred_faults (Some g) (columns_meant (as_entries rest)) ≡ all → Refuses r (outcome all true)
entry_refused g r rest rest' e all first h before =
    let is = entries_split g rest rest' e all first before in
    rw is at (refused_before r (has_ungrouped g (columns_from (64 * e.number) e.columns.now)) (has_ungrouped g (columns_meant (as_entries rest'))) h)
