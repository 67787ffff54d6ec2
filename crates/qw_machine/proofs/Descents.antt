-- Functions that call only those below them, and the first that doesn't.
use Rattle.std.proofs.Common.{◌≡◌, ℕ, ◌+◌, ◌<◌, ◌≤◌, List, [], ◌∷◌, length, nat_lt, Bool, true, false, get_or, All, Some, slice_get, refl, sym, subst, ◌∙◌, ⊎_elim, arith}
use Rattle.std.specs.Global.{Vec}
use Rattle.std.specs.List.{AllByRecursion}
use Rattle.std.proofs.lemmas.Bool.{cases_Bool, cases_lt, ltb-true, ltb-false, false≢true}
use Rattle.std.proofs.lemmas.List.Elements.{All-from_recursion, recursion_from_All}
use Rattle.std.proofs.lemmas.Option.{slice_get_within, slice_get_read, get_or_from_slice_get}
use Rattle.qw_module.specs.declared.instruction.Instr.{Instr}
use Rattle.qw_module.specs.declared.module.Module.{Module}
use Rattle.qw_module.specs.declared.module.Function.{Function}
use Rattle.qw_module.specs.Validity.{items_of, imported_functions, CallsBelow, DescendsAt, IsDescending}
use Rattle.qw_machine.specs.Descending.{IsFirstAscending}

-- the sequences of a body call below n
abbrev pub BodyCallsBelow : ℕ → List (Vec Instr) → Type 0
BodyCallsBelow n sequences = All (λ (sequence : Vec Instr). All (CallsBelow n) sequence.items) sequences

each_below : (n : ℕ) (sequences : List (Vec Instr)) → AllByRecursion (λ (sequence : Vec Instr). All (CallsBelow n) sequence.items) sequences →
    AllByRecursion (AllByRecursion (CallsBelow n)) (items_of sequences)
each_below n [] all = tt
each_below n (sequence ∷ sequences) all = (recursion_from_All (CallsBelow n) sequence.items all.0, each_below n sequences all.1)

each_of : (n : ℕ) (sequences : List (Vec Instr)) → AllByRecursion (AllByRecursion (CallsBelow n)) (items_of sequences) →
    AllByRecursion (λ (sequence : Vec Instr). All (CallsBelow n) sequence.items) sequences
each_of n [] all = tt
each_of n (sequence ∷ sequences) all = (All-from_recursion (CallsBelow n) sequence.items all.0, each_of n sequences all.1)

pub body_below : (n : ℕ) (sequences : List (Vec Instr)) → BodyCallsBelow n sequences → AllByRecursion (AllByRecursion (CallsBelow n)) (items_of sequences)
body_below n sequences all = each_below n sequences (recursion_from_All (λ (sequence : Vec Instr). All (CallsBelow n) sequence.items) sequences all)

pub body_of_below : (n : ℕ) (sequences : List (Vec Instr)) → AllByRecursion (AllByRecursion (CallsBelow n)) (items_of sequences) → BodyCallsBelow n sequences
body_of_below n sequences all = All-from_recursion (λ (sequence : Vec Instr). All (CallsBelow n) sequence.items) sequences (each_of n sequences all)

-- so many functions, read from the list, all of them or those before one
descends_at : (m : Module) (n : ℕ) → ((k : ℕ) (d : Function) → k < n → DescendsAt m k (get_or m.functions.items k d)) →
    (k : ℕ) (function : Function) → k < n → slice_get m.functions.items k ≡ Some function → DescendsAt m k function
descends_at m n each k function less found = subst (DescendsAt m k) (get_or_from_slice_get m.functions.items k function function found) (each k function less)

pub all_descend : (m : Module) (n : ℕ) → length m.functions.items ≤ n → ((k : ℕ) (d : Function) → k < n → DescendsAt m k (get_or m.functions.items k d)) → IsDescending m
all_descend m n all each number function found =
    let within = slice_get_within m.functions.items number function found in
    descends_at m n each number function (omega (arith, within, all)) found

pub first_of : (m : Module) (number func : ℕ) (function : Function) → number < length m.functions.items → function ≡ get_or m.functions.items number function →
    func ≡ length (imported_functions m) + number → (DescendsAt m number function → ⊥) →
    ((k : ℕ) (d : Function) → k < number → DescendsAt m k (get_or m.functions.items k d)) → IsFirstAscending m func
first_of m number func function within is func_is ascends each = record {
  number = number;
  function = function;
  func_is = func_is;
  there = slice_get_read m.functions.items (length m.functions.items) number function refl within is;
  ascends = ascends;
  earlier = λ k before less found. descends_at m number each k before less found;
}

-- what the test of a body says
pub ascends : (m : Module) (number func : ℕ) (function : Function) (sequences : List (Vec Instr)) (all : Bool) → sequences ≡ function.body.sequences.items →
    func ≡ length (imported_functions m) + number → all ≡ false → (BodyCallsBelow func sequences → all ≡ true) → DescendsAt m number function → ⊥
ascends m number func function sequences all sequences_are func_is fails below descends =
    let there = body_of_below (length (imported_functions m) + number) function.body.sequences.items descends in
    let of_func = subst (λ n. BodyCallsBelow n function.body.sequences.items) (sym func_is) there in
    false≢true (sym fails ∙ below (subst (BodyCallsBelow func) (sym sequences_are) of_func))

pub next_descends : (m : Module) (number func : ℕ) (function : Function) (sequences : List (Vec Instr)) → sequences ≡ function.body.sequences.items →
    func ≡ length (imported_functions m) + number → number < length m.functions.items → function ≡ get_or m.functions.items number function → BodyCallsBelow func sequences →
    ((k : ℕ) (d : Function) → k < number → DescendsAt m k (get_or m.functions.items k d)) →
    (k : ℕ) (d : Function) → k < number + 1 → DescendsAt m k (get_or m.functions.items k d)
next_descends m number func function sequences sequences_are func_is within is below each k d less =
    let items : List Function = m.functions.items in
    let of_function = subst (BodyCallsBelow func) sequences_are below in
    let here : DescendsAt m number function =
    body_below (length (imported_functions m) + number) function.body.sequences.items (subst (λ n. BodyCallsBelow n function.body.sequences.items) func_is of_function) in
    let found = slice_get_read items (length items) number function refl within is in
    let read : DescendsAt m number (get_or items number d) = subst (DescendsAt m number) (sym (get_or_from_slice_get items number function d found)) here in
    ⊎_elim
    (λ is_less. each k d (ltb-true k number is_less))
    (λ is_not. let same : number ≡ k = omega (arith, less, ltb-false k number is_not) in subst (λ n. DescendsAt m n (get_or items n d)) same read)
    (cases_Bool (nat_lt k number))

-- only one function is the first
pub first-unique : (m : Module) (a b : ℕ) → IsFirstAscending m a → IsFirstAscending m b → a ≡ b
first-unique m a b one other = ⊎_elim
    (λ less. absurd (one.ascends (other.earlier one.number one.function less one.there)))
    (λ most. ⊎_elim
    (λ more. absurd (other.ascends (one.earlier other.number other.function more other.there)))
    (λ least. omega (arith, one.func_is, other.func_is))
    (cases_lt other.number one.number))
    (cases_lt one.number other.number)

-- and where all descend, none is
pub none-first : (m : Module) (func : ℕ) → IsDescending m → IsFirstAscending m func → ⊥
none-first m func descends first = first.ascends (descends first.number first.function first.there)
