-- What groups a query, put together of its columns of GROUP BY and its set functions.
use Rattle.std.proofs.Common.{◌≡◌, false, List, [], ◌∷◌, length, Ok, Err, sym, ap, ◌∙◌, arith}
use Rattle.std.specs.Prelude.{nat_lt}
use Rattle.std.proofs.lemmas.Bool.Decides.{nat_tests}
use Rattle.std.proofs.lemmas.List.{length-map}
use Rattle.qw_grouped.specs.Query as coded_query
use Rattle.qw_grouped.specs.declared.query.GroupedColumn.{GroupedColumn}
use Rattle.qw_ast.specs.Syntax.{Select}
use Rattle.qw_typer.specs.declared.fault.FaultKind.TheVariants.{TooManyFunctions}
use Rattle.qw_typer.specs.declared.grouped.Groups as coded_groups
use Rattle.qw_typer.specs.declared.refusal.Refusal.{Refusal}
use Rattle.qw_typer.specs.declared.refusal.Refusal.TheVariants as refusal
use Rattle.qw_typer.specs.Faults.{Fault}
use Rattle.qw_typer.specs.Functions.{functions_in}
use Rattle.qw_typer.specs.Grouping.{columns_faults, columns_grouped, first_word, functions_faults, many_faults}
use Rattle.qw_typer.specs.Meant.{Entry}
use Rattle.qw_typer.specs.Inner.Grouping.{FitsArguments, FitsGroups, Functions, Groups, arguments_nodes, arguments_octets, as_functions, typed_columns, typed_functions, typed_groups}
use Rattle.qw_typer.specs.Inner.Typing.{Refuses, outcome, spelled}
use Rattle.qw_typer.proofs.FaultLemmas.{no_fault}
use Rattle.qw_typer.proofs.GroupedLemmas.{columns_is, functions_is, functions_made}
use Rattle.qw_typer.proofs.SoundLemmas.{not_where}

abbrev together : List GroupedColumn → Functions → Groups
together columns functions = record { columns = columns; functions = functions }

other_refused : {A B : Type 0} (r : Refusal) (fs : List Fault) (a : A) (b : B) → Refuses r (outcome fs a) → Refuses r (outcome fs b)
unfolding Refuses
other_refused refusal.NoMemory fs a b h = tt
other_refused (refusal.Fault kind token) [] a b h = absurd cc
other_refused (refusal.Fault kind token) (f ∷ fs) a b h = let same : f ≡ record { kind = kind; name = spelled token } = cc in ap Err same

pub many_refused : (r : Refusal) (entries : List Entry) (s : Select) (columns : List GroupedColumn) (functions : Functions) → typed_columns entries s.grouping ≡ Ok columns → typed_functions entries (functions_in s) ≡ Ok functions
    → Refuses r (outcome (many_faults (functions_in s)) functions) → Refuses r (typed_groups entries s)
many_refused r entries s columns functions one two h = rw (one, two) (other_refused r (many_faults (functions_in s)) functions (together columns functions) h)

pub groups_given : (entries : List Entry) (s : Select) (columns : List GroupedColumn) (functions : Functions) → typed_columns entries s.grouping ≡ Ok columns → typed_functions entries (functions_in s) ≡ Ok functions
    → outcome (many_faults (functions_in s)) functions ≡ Ok functions → typed_groups entries s ≡ Ok (together columns functions)
groups_given entries s columns functions one two few =
    let none = no_fault (many_faults (functions_in s)) functions functions few in
    rw (one, two) (ap (λ (fs : List Fault). outcome fs (together columns functions)) none.0)

pub groups_fit : (made : coded_groups.Groups) (entries : List Entry) (s : Select) → typed_columns entries s.grouping ≡ Ok made.columns.items → typed_functions entries (functions_in s) ≡ Ok (as_functions made.functions)
    → outcome (many_faults (functions_in s)) (as_functions made.functions) ≡ Ok (as_functions made.functions)
    → FitsArguments made.functions.functions.items (arguments_nodes (functions_in s)) (arguments_octets (functions_in s)) → FitsGroups made s
groups_fit made entries s one two few arguments =
    let written = functions_in s in
    let columns = no_fault (columns_faults entries s.grouping) (columns_grouped entries s.grouping) made.columns.items (sym (columns_is entries s.grouping) ∙ one) in
    let functions = no_fault (functions_faults entries written) (functions_made entries written) (as_functions made.functions) (sym (functions_is entries written) ∙ two) in
    let none = no_fault (many_faults written) (as_functions made.functions) (as_functions made.functions) few in
    let below : nat_lt 128 (length written) ≡ false = not_where (nat_lt 128 (length written)) TooManyFunctions (first_word written) none.0 in
    let columns_count : length (columns_grouped entries s.grouping) ≡ length s.grouping = length-map s.grouping _ in
    let columns_same = ap (λ (cs : List GroupedColumn). length cs) columns.1 in
    let functions_count : length (functions_made entries written).functions ≡ length written = length-map written _ in
    let made_count : length (as_functions made.functions).functions ≡ length made.functions.functions.items = length-map made.functions.functions.items coded_query.function_of in
    let functions_same = ap (λ (fs : Functions). length fs.functions) functions.1 in
    record {
      columns_are = omega (arith, columns_count, columns_same);
      functions_are = omega (arith, functions_count, made_count, functions_same);
      few_functions = grind (arith, nat_tests);
      arguments = arguments;
    }
