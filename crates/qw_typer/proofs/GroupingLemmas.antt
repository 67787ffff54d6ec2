-- GROUP BY and the set functions of a query, one after another; and what stands over the grouped table, up to the first fault.
use Rattle.std.proofs.Common.{◌≡◌, ℕ, ◌+◌, ◌-◌, ◌≤◌, ◌<◌, List, [], ◌∷◌, ◌++◌, map, length, sum_by, Option, Result, Ok, Err, refl, sym, ap, ◌∙◌, arith}
use Rattle.std.specs.List.{flat_map}
use Rattle.std.proofs.lemmas.List.{append-nil, append_assoc}
use Rattle.std.proofs.lemmas.List.Sums.{sum_by-cons, sum_by_push}
use Rattle.qw_types.specs.declared.kind.Kind.{Kind}
use Rattle.qw_scalar.specs.Expression as meaning
use Rattle.qw_scalar.specs.Typing.{kind_of}
use Rattle.qw_scalar.specs.Nodes as typed_nodes
use Rattle.qw_grouped.specs.Grouped as group
use Rattle.qw_grouped.specs.Grouped.{value_kind, widest}
use Rattle.qw_grouped.specs.Query as made_query
use Rattle.qw_grouped.specs.declared.query.GroupedColumn.{GroupedColumn}
use Rattle.qw_grouped.specs.declared.set_function.SetFunction as made_function
use Rattle.qw_grouped.specs.declared.set_function.SetFunctionKind.{SetFunctionKind}
use Rattle.qw_types.specs.declared.value.Ty.{Ty}
use Rattle.qw_ast.specs.declared.script.Reference as coded_reference
use Rattle.qw_ast.specs.declared.script.Item as coded_item
use Rattle.qw_ast.specs.declared.script.SetFunction.{SetFunction}
use Rattle.qw_ast.specs.Syntax.{Expression, Reference, SelectItem}
use Rattle.qw_ast.specs.SyntaxTree as syntax
use Rattle.qw_typer.specs.declared.functions.Written as coded_written
use Rattle.qw_typer.specs.declared.refusal.Refusal.{Refusal}
use Rattle.qw_typer.specs.declared.scope.FunctionColumn.{FunctionColumn as CodeFunction}
use Rattle.qw_typer.specs.Faults.{Fault, argument_faults, first_token}
use Rattle.qw_typer.specs.Functions.{Written, applied, counted, written}
use Rattle.qw_typer.specs.Grouping.{as_grouped, kind_of_function}
use Rattle.qw_typer.specs.Meant.{Entry, FunctionColumn, ungrouped}
use Rattle.qw_typer.specs.Sizes.{text_octets}
use Rattle.qw_typer.specs.Inner.Functions.{all_written, written_of}
use Rattle.qw_typer.specs.Inner.Grouping.{RowsAdded, FitsArgument, FitsArguments, Functions, argument_nodes, argument_octets, arguments_nodes, arguments_octets, column_for, typed_column, typed_columns, typed_function, typed_functions}
use Rattle.qw_typer.specs.Inner.Typing.{◌>>=◌, Refuses, as_function, outcome, reference_outcome, typed}
use Rattle.qw_typer.proofs.OutcomeLemmas.{refuses_then}
use Rattle.qw_typer.proofs.StepLemmas.{push_length, push_map, push_more}

-- ---- the set functions of items

abbrev pub written_items : List coded_item.Item → List Written
written_items items = flat_map (λ (i : SelectItem). written i.value) (map syntax.item_of items)

pub items_kept : (found found' : List coded_written.Written) (rest rest' : List coded_item.Item) (item : coded_item.Item) (all : List Written) → rest ≡ item ∷ rest'
    → all_written found' ≡ all_written found ++ written (syntax.expression_of item.expression) → all_written found ++ written_items rest ≡ all → all_written found' ++ written_items rest' ≡ all
items_kept found found' rest rest' item all first more before =
    ap (λ (ws : List Written). ws ++ written_items rest') more ∙ append_assoc (all_written found) (written (syntax.expression_of item.expression)) (written_items rest')
    ∙ sym (ap (λ (is' : List coded_item.Item). all_written found ++ written_items is') first) ∙ before

pub items_end : (found : List coded_written.Written) (rest : List coded_item.Item) (all : List Written) → length rest < 1 → all_written found ++ written_items rest ≡ all → all_written found ≡ all
items_end found [] all none h = sym (append-nil (all_written found)) ∙ h
items_end found (i ∷ rest) all none h = absurd (omega (arith, none))

-- ---- GROUP BY

-- behind the columns that are made come those of the rest
abbrev pub AfterColumns : List Entry → List GroupedColumn → List Reference → Result (List GroupedColumn) Fault
AfterColumns entries made rest = typed_columns entries rest >>= (λ cs. Ok (made ++ cs))

pub columns_first : (entries : List Entry) (rest : List Reference) → typed_columns entries rest ≡ AfterColumns entries [] rest
columns_first entries rest = same (typed_columns entries rest)
  where
    same : (r : Result (List GroupedColumn) Fault) → r ≡ (r >>= (λ cs. Ok ([] ++ cs)))
    same (Ok cs) = refl
    same (Err f) = refl

pub columns_kept : (entries : List Entry) (made made' : List GroupedColumn) (c : GroupedColumn) (rest rest' : List coded_reference.Reference) (r : coded_reference.Reference) (all : Result (List GroupedColumn) Fault)
    → typed_column entries (syntax.reference_of r) ≡ Ok c → made' ≡ made ++ c ∷ [] → rest ≡ r ∷ rest' → all ≡ AfterColumns entries made (map syntax.reference_of rest) → all ≡ AfterColumns entries made' (map syntax.reference_of rest')
columns_kept entries made made' c rest rest' r all gives more first before =
    let from : all ≡ AfterColumns entries made (syntax.reference_of r ∷ map syntax.reference_of rest') = rw first at before in
    from ∙ ap (λ (q : Result GroupedColumn Fault). (q >>= (λ d. typed_columns entries (map syntax.reference_of rest') >>= (λ others. Ok (d ∷ others)))) >>= (λ cs. Ok (made ++ cs))) gives
    ∙ added (typed_columns entries (map syntax.reference_of rest'))
  where
    added : (q : Result (List GroupedColumn) Fault) → ((q >>= (λ others. Ok (c ∷ others))) >>= (λ cs. Ok (made ++ cs))) ≡ (q >>= (λ cs. Ok (made' ++ cs)))
    added (Ok cs) = ap Ok (sym (push_more made c cs) ∙ sym (ap (λ (ds : List GroupedColumn). ds ++ cs) more))
    added (Err f) = refl

pub columns_refused : (r : Refusal) (entries : List Entry) (made : List GroupedColumn) (rest rest' : List coded_reference.Reference) (one : coded_reference.Reference) (all : Result (List GroupedColumn) Fault) → rest ≡ one ∷ rest'
    → all ≡ AfterColumns entries made (map syntax.reference_of rest) → Refuses r (typed_column entries (syntax.reference_of one)) → Refuses r all
columns_refused r entries made rest rest' one all first before refused =
    let w = syntax.reference_of one in
    let others = map syntax.reference_of rest' in
    let from : all ≡ AfterColumns entries made (w ∷ others) = rw first at before in
    rw from
    (refuses_then r (typed_column entries w >>= (λ c. typed_columns entries others >>= (λ cs. Ok (c ∷ cs)))) (λ cs. Ok (made ++ cs))
    (refuses_then r (typed_column entries w) (λ c. typed_columns entries others >>= (λ cs. Ok (c ∷ cs))) refused))

pub column_gives : (entries : List Entry) (r : Reference) (x : meaning.Expression) (c : GroupedColumn) → reference_outcome entries r.qualifier r.name ≡ Ok x → as_grouped x ≡ c → typed_column entries r ≡ Ok c
column_gives entries r x c gives is = rw gives (ap Ok is)

pub columns_end : (entries : List Entry) (made : List GroupedColumn) (rest : List coded_reference.Reference) (all : Result (List GroupedColumn) Fault) → length rest < 1 → all ≡ AfterColumns entries made (map syntax.reference_of rest) → all ≡ Ok made
columns_end entries made [] all none h = h ∙ ap Ok (append-nil made)
columns_end entries made (r ∷ rest) all none h = absurd (omega (arith, none))

-- ---- set functions

abbrev joined : List made_function.SetFunction → List CodeFunction → Functions → Functions
joined made columns others = record { functions = map made_query.function_of made ++ others.functions; columns = map as_function columns ++ others.columns }

abbrev pub AfterFunctions : List Entry → List made_function.SetFunction → List CodeFunction → List Written → Result Functions Fault
AfterFunctions entries made columns rest = typed_functions entries rest >>= (λ others. Ok (joined made columns others))

pub functions_first : (entries : List Entry) (rest : List Written) → typed_functions entries rest ≡ AfterFunctions entries [] [] rest
functions_first entries rest = same (typed_functions entries rest)
  where
    same : (r : Result Functions Fault) → r ≡ (r >>= (λ others. Ok (joined [] [] others)))
    same (Ok others) = refl
    same (Err f) = refl

pub functions_kept : (entries : List Entry) (made made' : List made_function.SetFunction) (columns columns' : List CodeFunction) (f : made_function.SetFunction) (c : CodeFunction) (rest rest' : List coded_written.Written) (w : coded_written.Written)
    (all : Result Functions Fault) → typed_function entries (written_of w) ≡ Ok (made_query.function_of f) → as_function c ≡ column_for (written_of w) (made_query.function_of f) → made' ≡ made ++ f ∷ [] → columns' ≡ columns ++ c ∷ []
    → rest ≡ w ∷ rest' → all ≡ AfterFunctions entries made columns (all_written rest) → all ≡ AfterFunctions entries made' columns' (all_written rest')
functions_kept entries made made' columns columns' f c rest rest' w all gives is more_functions more_columns first before =
    let from : all ≡ AfterFunctions entries made columns (written_of w ∷ all_written rest') = rw first at before in
    from
    ∙ ap (λ (q : Result group.SetFunction Fault). (q >>= (λ g. typed_functions entries (all_written rest') >>= (λ others. Ok (record { functions = g ∷ others.functions; columns = column_for (written_of w) g ∷ others.columns }))))
    >>= (λ others. Ok (joined made columns others))) gives ∙ added (typed_functions entries (all_written rest'))
  where
    g : group.SetFunction
    g = made_query.function_of f

    pair : List group.SetFunction → List FunctionColumn → Functions
    pair fs cs = record { functions = fs; columns = cs }

    added : (q : Result Functions Fault)
        → ((q >>= (λ others. Ok (record { functions = g ∷ others.functions; columns = column_for (written_of w) g ∷ others.columns }))) >>= (λ others. Ok (joined made columns others))) ≡ (q >>= (λ others. Ok (joined made' columns' others)))
    added (Ok others) =
        let fs : map made_query.function_of made ++ g ∷ others.functions ≡ map made_query.function_of made' ++ others.functions =
        sym (ap (λ (ms : List made_function.SetFunction). map made_query.function_of ms ++ others.functions) more_functions ∙ push_map made_query.function_of made f others.functions) in
        let cs : map as_function columns ++ column_for (written_of w) g ∷ others.columns ≡ map as_function columns' ++ others.columns =
        ap (λ (d : FunctionColumn). map as_function columns ++ d ∷ others.columns) (sym is)
        ∙ sym (ap (λ (ms : List CodeFunction). map as_function ms ++ others.columns) more_columns ∙ push_map as_function columns c others.columns) in
        ap (λ (xs : List group.SetFunction). Ok (pair xs (map as_function columns ++ column_for (written_of w) g ∷ others.columns))) fs
        ∙ ap (λ (ys : List FunctionColumn). Ok (pair (map made_query.function_of made' ++ others.functions) ys)) cs
    added (Err e) = refl

pub functions_refused : (r : Refusal) (entries : List Entry) (made : List made_function.SetFunction) (columns : List CodeFunction) (rest rest' : List coded_written.Written) (w : coded_written.Written) (all : Result Functions Fault) → rest ≡ w ∷ rest'
    → all ≡ AfterFunctions entries made columns (all_written rest) → Refuses r (typed_function entries (written_of w)) → Refuses r all
functions_refused r entries made columns rest rest' w all first before refused =
    let others = all_written rest' in
    let from : all ≡ AfterFunctions entries made columns (written_of w ∷ others) = rw first at before in
    rw from
    (refuses_then r
    (typed_function entries (written_of w) >>= (λ g. typed_functions entries others >>= (λ os. Ok (record { functions = g ∷ os.functions; columns = column_for (written_of w) g ∷ os.columns })))) (λ os. Ok (joined made columns os))
    (refuses_then r (typed_function entries (written_of w))
    (λ g. typed_functions entries others >>= (λ os. Ok (record { functions = g ∷ os.functions; columns = column_for (written_of w) g ∷ os.columns }))) refused))

pub functions_end : (entries : List Entry) (made : List made_function.SetFunction) (columns : List CodeFunction) (rest : List coded_written.Written) (all : Result Functions Fault) → length rest < 1 → all ≡ AfterFunctions entries made columns (all_written rest)
    → all ≡ Ok (record { functions = map made_query.function_of made; columns = map as_function columns })
functions_end entries made columns [] all none h =
    h ∙ ap (λ (fs : List group.SetFunction). Ok (pair fs (map as_function columns ++ []))) (append-nil (map made_query.function_of made))
    ∙ ap (λ (cs : List FunctionColumn). Ok (pair (map made_query.function_of made) cs)) (append-nil (map as_function columns))
  where
    pair : List group.SetFunction → List FunctionColumn → Functions
    pair fs cs = record { functions = fs; columns = cs }
functions_end entries made columns (w ∷ rest) all none h = absurd (omega (arith, none))

-- ---- the sizes of their arguments

-- with so many nodes and octets still to come
pub record ArgumentsWith (made : List made_function.SetFunction) (n k all_nodes all_octets : ℕ) : Type 0 where
  pub nodes_left : sum_by (λ (f : made_function.SetFunction). typed_nodes.nodes f.argument) made + n ≤ all_nodes
  pub octets_left : sum_by (λ (f : made_function.SetFunction). text_octets f.argument) made + k ≤ all_octets

pub arguments_first : (n k : ℕ) → ArgumentsWith [] n k n k
arguments_first n k = record { nodes_left = omega arith; octets_left = omega arith }

pub arguments_fit : (made made' : List made_function.SetFunction) (f : made_function.SetFunction) (rest rest' : List coded_written.Written) (w : coded_written.Written) (all_nodes all_octets : ℕ) → made' ≡ made ++ f ∷ [] → rest ≡ w ∷ rest'
    → FitsArgument f.argument (written_of w) → ArgumentsWith made (arguments_nodes (all_written rest)) (arguments_octets (all_written rest)) all_nodes all_octets
    → ArgumentsWith made' (arguments_nodes (all_written rest')) (arguments_octets (all_written rest')) all_nodes all_octets
arguments_fit made made' f rest rest' w all_nodes all_octets more first one before =
    let nodes_more = ap (λ (fs : List made_function.SetFunction). sum_by (λ (g : made_function.SetFunction). typed_nodes.nodes g.argument) fs) more ∙ sum_by_push (λ (g : made_function.SetFunction). typed_nodes.nodes g.argument) made f in
    let octets_more = ap (λ (fs : List made_function.SetFunction). sum_by (λ (g : made_function.SetFunction). text_octets g.argument) fs) more ∙ sum_by_push (λ (g : made_function.SetFunction). text_octets g.argument) made f in
    let from = rw first at before in
    let nodes_rest = sum_by-cons argument_nodes (written_of w) (all_written rest') in
    let octets_rest = sum_by-cons argument_octets (written_of w) (all_written rest') in
    let nodes_left = from.nodes_left in
    let octets_left = from.octets_left in
    record { nodes_left = omega (arith, nodes_more, nodes_rest, nodes_left); octets_left = omega (arith, octets_more, octets_rest, octets_left) }

pub arguments_end : (made : List made_function.SetFunction) (n k all_nodes all_octets : ℕ) → ArgumentsWith made n k all_nodes all_octets → FitsArguments made all_nodes all_octets
arguments_end made n k all_nodes all_octets h = let a = h.nodes_left in let b = h.octets_left in record { nodes_fit = omega (arith, a); octets_fit = omega (arith, b) }

-- ---- one set function

-- a set function of this kind and argument
abbrev pub made_with : SetFunctionKind → meaning.Expression → group.SetFunction
made_with k x = record { kind = k; argument = x }

pub applied_gives : (entries : List Entry) (place : ℕ) (f : SetFunction) (a : Expression) (x : meaning.Expression) (k : SetFunctionKind) → typed (ungrouped entries) a ≡ Ok x
    → ((g : group.SetFunction) → outcome (argument_faults (first_token a) f x) g ≡ Ok g) → k ≡ kind_of_function f → typed_function entries (applied place f a) ≡ Ok (made_with k x)
applied_gives entries place f a x k gives own is = rw gives (own (made_with (kind_of_function f) x) ∙ ap (λ (j : SetFunctionKind). Ok (made_with j x)) (sym is))

pub argument_refused : (r : Refusal) (entries : List Entry) (place : ℕ) (f : SetFunction) (a : Expression) → Refuses r (typed (ungrouped entries) a) → Refuses r (typed_function entries (applied place f a))
argument_refused r entries place f a h = refuses_then r (typed (ungrouped entries) a) (λ x. outcome (argument_faults (first_token a) f x) (made_with (kind_of_function f) x)) h

pub applied_refused : (r : Refusal) (entries : List Entry) (place : ℕ) (f : SetFunction) (a : Expression) (x : meaning.Expression) → typed (ungrouped entries) a ≡ Ok x
    → Refuses r (outcome (argument_faults (first_token a) f x) (made_with (kind_of_function f) x)) → Refuses r (typed_function entries (applied place f a))
applied_refused r entries place f a x gives h = rw gives h

abbrev column_with : ℕ → Ty → FunctionColumn
column_with place ty = record { place = place; ty = ty }

pub applied_column : (place : ℕ) (f : SetFunction) (a : Expression) (k : SetFunctionKind) (x : meaning.Expression) (ty : Ty) (kind : Option Kind) → k ≡ kind_of_function f → ty ≡ widest (value_kind (kind_of_function f) kind) → kind ≡ kind_of x
    → column_with place ty ≡ column_for (applied place f a) (made_with k x)
applied_column place f a k x ty kind is typed told =
    ap (column_with place)
    (typed ∙ ap (λ (l : Option Kind). widest (value_kind (kind_of_function f) l)) told ∙ ap (λ (j : SetFunctionKind). widest (value_kind j (kind_of x))) (sym is))

-- COUNT(*) more
pub rows_added : (functions functions' : List made_function.SetFunction) (f : made_function.SetFunction) → functions' ≡ functions ++ f ∷ [] → FitsArgument f.argument (counted 0) → RowsAdded functions functions'
rows_added functions functions' f more one =
    let nodes_more = ap (λ (fs : List made_function.SetFunction). sum_by (λ (g : made_function.SetFunction). typed_nodes.nodes g.argument) fs) more ∙ sum_by_push (λ (g : made_function.SetFunction). typed_nodes.nodes g.argument) functions f in
    let octets_more = ap (λ (fs : List made_function.SetFunction). sum_by (λ (g : made_function.SetFunction). text_octets g.argument) fs) more ∙ sum_by_push (λ (g : made_function.SetFunction). text_octets g.argument) functions f in
    let many = ap (λ (fs : List made_function.SetFunction). length fs) more ∙ push_length functions f in
    record { nodes_few = omega (arith, nodes_more); octets_are = omega (arith, octets_more); length_few = omega (arith, many) }
