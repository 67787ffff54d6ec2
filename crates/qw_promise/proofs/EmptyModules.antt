-- A module without an instruction returns at once, with no row.
use Rattle.std.proofs.Common.{◌≡◌, ℕ, zero, suc, ◌+◌, ◌<◌, Bool, true, false, List, [], ◌∷◌, length, replicate, sum_by, Option, Some, None, slice_get, slice_index, IsSomeAnd, if◌then◌else◌, refl, sym, ap, ◌∙◌, subst, arith}
use Rattle.std.proofs.lemmas.List.Sorted.{length_permutation}
use Rattle.std.proofs.lemmas.List.Sums.{sum_by-cons}
use Rattle.std.proofs.lemmas.Option.{none-some, same_Some}
use Rattle.qw_types.specs.declared.kind.Kind.{Kind}
use Rattle.qw_types.specs.declared.value.Val.{Val}
use Rattle.qw_linear.specs.Memory.{number_at}
use Rattle.qw_module.specs.declared.module.Function.{Function}
use Rattle.qw_module.specs.declared.module.Module.{Module}
use Rattle.qw_module.specs.Execution.{State, Returned, IsOver, label, settled}
use Rattle.qw_module.specs.Start.{begun, first_store, locals_of_function, sequences_of_function, weight}
use Rattle.qw_module.specs.Syntax.{Code, done, op, unreachable, block, loop, if_then, if_else, br, br_if, br_table, return, call, code_of}
use Rattle.qw_module.specs.Validity.{IsOneI32, IsShaped, code_of_body}
use Rattle.qw_meaning.specs.Outcome.{IsSameOutcome, Outcome, Rows}
use Rattle.qw_meaning.specs.Select.{AreOfEntries}
use Rattle.qw_map.specs.Areas.{Area, are_covered}
use Rattle.qw_map.specs.Behaving.{beginning}
use Rattle.qw_map.specs.Layout.{Layout, IsReady, descriptor_size, first_world, rows_at, rows_from, text_areas}
use Rattle.qw_map.specs.Runs.{Moment, begins}
use Rattle.qw_map.specs.Seen.{ended_at}
use Rattle.qw_map.specs.Turns.{End, Done, Exception, Pages, Steps, Trap}
use Rattle.qw_map.specs.declared.layout.Placed.{Placed}
use Rattle.qw_promise.specs.Compiled.{Answers, AnswersAt, IsCompiled, bound, module_weight}
use Rattle.qw_promise.specs.Promise.{Promise}

-- each of those that are added up to 0 is 0
none_of : {A : Type 0} (f : A → ℕ) (xs : List A) (k : ℕ) (x : A) → sum_by f xs ≡ 0 → slice_get xs k ≡ Some x → f x ≡ 0
none_of f [] k x sum there = absurd (none-some x there)
none_of f (y ∷ xs) zero x sum there = ap f (sym (same_Some y x there)) ∙ (let all = sum_by-cons f y xs in omega (arith, all, sum))
none_of f (y ∷ xs) (suc k) x sum there = none_of f xs k x (let all = sum_by-cons f y xs in omega (arith, all, sum)) there

-- a code without an instruction
empty_code : (code : Code) → weight code ≡ 0 → code ≡ done
empty_code done none = refl
empty_code (op o rest) none = absurd (omega (arith, none))
empty_code (unreachable rest) none = absurd (omega (arith, none))
empty_code (block result inner rest) none = absurd (omega (arith, none))
empty_code (loop result inner rest) none = absurd (omega (arith, none))
empty_code (if_then result inner rest) none = absurd (omega (arith, none))
empty_code (if_else result inner other rest) none = absurd (omega (arith, none))
empty_code (br index rest) none = absurd (omega (arith, none))
empty_code (br_if index rest) none = absurd (omega (arith, none))
empty_code (br_table labels default rest) none = absurd (omega (arith, none))
empty_code (return rest) none = absurd (omega (arith, none))
empty_code (call index rest) none = absurd (omega (arith, none))

function_there : (o : Option Function) (P : Function → Type 0) → IsSomeAnd o P → (run : Function) × (o ≡ Some run)
function_there None P h = absurd h
function_there (Some run) P h = (run, refl)

returns_at_once : (m : Module) (number argument : ℕ) → IsShaped m number → module_weight m ≡ 0 → begun m number argument ≡ Returned
returns_at_once m number argument shape none =
    let run = function_there (slice_get m.functions.items number) (λ (f : Function). IsOneI32 m f.type_index) shape.run in
    let empty : code_of_body run.0.body ≡ done = empty_code (code_of_body run.0.body) (none_of (λ (f : Function). weight (code_of_body f.body)) m.functions.items number run.0 none run.1) in
    ap (λ (o : Option Function). settled (first_store m) (label done 0 [] done ∷ []) (code_of (sequences_of_function o)) [] (argument ∷ replicate (locals_of_function o) 0)) run.1
    ∙ ap (λ (code : Code). settled (first_store m) (label done 0 [] done ∷ []) code [] (argument ∷ replicate (locals_of_function (Some run.0)) 0)) empty

-- the rows where a return answers
returned_rows : (out : Outcome) (layout : Layout) (most pages descriptor : ℕ) (b : Moment) → b.state ≡ Returned → AnswersAt out layout most pages descriptor b →
    (bag : List (List Val)) × IsSameOutcome out (Rows bag) × (rows_at layout b.world b.memory descriptor ≡ Some bag)
returned_rows out layout most pages descriptor b returned (end, is, answers) =
    by_end end (same_Some Done end (sym (ap (λ (s : State). ended_at s b.world) returned) ∙ is)) answers
  where
    by_end : (end : End) → Done ≡ end → Answers out layout most pages descriptor b.world b.memory end → (bag : List (List Val)) × IsSameOutcome out (Rows bag) × (rows_at layout b.world b.memory descriptor ≡ Some bag)
    by_end Done same h = h.1
    by_end (Exception code) same h = absurd cc
    by_end (Pages held asked limit) same h = absurd cc
    by_end (Steps limit) same h = absurd cc
    by_end Trap same h = absurd cc

-- zeros are the number 0
zeros_number : (memory : List ℕ) (at width : ℕ) → ((k : ℕ) → k < width → slice_index memory (at + k) ≡ 0) → number_at memory at width ≡ 0
unfolding number_at
zeros_number memory at zero none = refl
zeros_number memory at (suc width) none =
    let here : slice_index memory at ≡ 0 = (let place : at ≡ at + 0 = omega arith in ap (slice_index memory) place) ∙ none 0 (omega arith) in
    let rest : number_at memory (at + 1) width ≡ 0 = zeros_number memory (at + 1) width (λ k less. (let place : at + 1 + k ≡ at + (k + 1) = omega arith in ap (slice_index memory) place) ∙ none (k + 1) (omega (arith, less))) in
    omega (arith, here, rest)

-- no row is linked to in a first page as it begins
no_rows_from : (kinds : List Kind) (texts own : List Area) (memory : List ℕ) (count at : ℕ) (bag : List (List Val)) → count ≡ 0 → at ≡ 0 → rows_from kinds texts own memory count at ≡ Some bag → bag ≡ []
no_rows_from kinds texts own memory zero at bag none first found = sym (same_Some [] bag (sym (ap (λ (a : ℕ). rows_from kinds texts own memory zero a) first) ∙ found))
no_rows_from kinds texts own memory (suc count) at bag none first found = absurd (omega (arith, none))

no_rows_at : (layout : Layout) (placed : List Placed) (tables : List (List (List Val))) (descriptor limit : ℕ) (memory : List ℕ) (bag : List (List Val)) → IsReady layout placed tables descriptor limit memory →
    rows_at layout (first_world layout placed descriptor limit) memory descriptor ≡ Some bag → bag ≡ []
no_rows_at layout placed tables descriptor limit memory bag ready found =
    let count : number_at memory (descriptor + 16) 8 ≡ 0 = zeros_number memory (descriptor + 16) 8
    (λ k less. (let place : descriptor + 16 + k ≡ descriptor + (16 + k) = omega arith in ap (slice_index memory) place) ∙ ready.fresh.no_results (16 + k) (omega arith) (omega (arith, less))) in
    let first : number_at memory (descriptor + 8) 4 ≡ 0 = zeros_number memory (descriptor + 8) 4
    (λ k less. (let place : descriptor + 8 + k ≡ descriptor + (8 + k) = omega arith in ap (slice_index memory) place) ∙ ready.fresh.no_results (8 + k) (omega arith) (omega (arith, less))) in
    by_covered (are_covered (first_world layout placed descriptor limit).own descriptor (descriptor_size layout)) count first found
  where
    by_covered : (covered : Bool) → number_at memory (descriptor + 16) 8 ≡ 0 → number_at memory (descriptor + 8) 4 ≡ 0 →
        (if covered then rows_from layout.cells (text_areas layout (first_world layout placed descriptor limit) descriptor) (first_world layout placed descriptor limit).own memory (number_at memory (descriptor + 16) 8) (number_at memory (descriptor + 8) 4) else None) ≡ Some bag → bag ≡ []
    by_covered true count first found =
        no_rows_from layout.cells (text_areas layout (first_world layout placed descriptor limit) descriptor) (first_world layout placed descriptor limit).own memory (number_at memory (descriptor + 16) 8) (number_at memory (descriptor + 8) 4) bag count first found
    by_covered false count first found = absurd (none-some bag found)

no_bag : (row : List Val) (rows bag : List (List Val)) (out : Outcome) → out ≡ Rows (row ∷ rows) → IsSameOutcome out (Rows bag) → bag ≡ [] → ⊥
no_bag row rows bag out is same none =
    let arranged = subst (λ (o : Outcome). IsSameOutcome o (Rows bag)) is same in
    let many = length_permutation (row ∷ rows) bag arranged in
    let long : length bag ≡ 0 = ap (λ (b : List (List Val)). length b) none in
    omega (arith, many, long)

pub no_query : (promise : Promise) (layout : Layout) (m : Module) (tables : List (List (List Val))) (row : List Val) (rows : List (List Val)) →
    AreOfEntries promise.entries tables → promise.outcome tables ≡ Rows (row ∷ rows) →
    (placed : List Placed) (descriptor limit : ℕ) (memory : List ℕ) → IsReady layout placed tables descriptor limit memory →
    module_weight m ≡ 0 → IsCompiled promise layout m → ⊥
no_query promise layout m tables row rows of comes placed descriptor limit memory ready none is =
    let number : ℕ = is.runnable.shaped.0 in
    let shape : IsShaped m number = is.runnable.shaped.1 in
    let start : Moment = beginning m number layout placed descriptor limit memory in
    let returned : start.state ≡ Returned = returns_at_once m number descriptor shape none in
    let over : IsOver start.state = subst IsOver (sym returned) tt in
    let answers = ((is.behaves number descriptor limit placed tables memory of shape ready).ends 0 start (begins start) over).1 (omega arith) in
    let found = returned_rows (promise.outcome tables) layout (bound promise tables m number) (promise.pages tables) descriptor start returned answers in
    no_bag row rows found.0 (promise.outcome tables) comes found.1 (no_rows_at layout placed tables descriptor limit memory found.0 ready found.2)
