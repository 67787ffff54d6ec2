-- Typed code over typed values goes on, and stays typed.
use Rattle.std.proofs.Common.{◌≡◌, ◌≢◌, ℕ, zero, suc, ◌+◌, ◌*◌, ◌/◌, ◌^◌, ◌<◌, ◌≤◌, ◌==◌, nat_le, Bool, ◌&&◌, List, [], ◌∷◌, ◌++◌, length, take, drop, reverse, replicate, Option, Some, None, Result, Ok, Err, slice_get, slice_set, refl, sym, ap, ◌∙◌, subst, ⊎_elim, if◌then◌else◌, inl, inr, IsSome, arith, length-append, append-nil}
use Rattle.std.proofs.lemmas.Grind.{reverse_onto}
use Rattle.std.proofs.lemmas.List.{length-reverse, reverse-reverse}
use Rattle.std.proofs.lemmas.Bool.{le-leb, lt-ltb, cases_Bool, eqb-true, eq-eqb, false≢true}
use Rattle.std.proofs.lemmas.Option.{same_Some, none-some, slice_get_within}
use Rattle.std.specs.List.{AllByRecursion}
use Rattle.qw_module.specs.declared.instruction.ValType.{ValType}
use Rattle.qw_module.specs.declared.instruction.ValType.TheVariants.{I32}
use Rattle.qw_module.specs.declared.instruction.Op.{Op}
use Rattle.qw_module.specs.declared.trap.Trap.{Trap}
use Rattle.qw_module.specs.Numbers.{values_of, division}
use Rattle.qw_module.specs.Syntax.{Code, done, loop}
use Rattle.qw_module.specs.Execution.{Closure, Callee, host_raise, host_pages, own, Store, Context, label, frame, Config, State, Running, Returned, settled, branched, left, arity_of, goes_on, enters, invoked, chosen, selected, refusal, pages_gained, IsPlaceIn}
use Rattle.qw_module.specs.Step.{Want, Stuck, Goes, Asks, Puts, Measures, AsksPages, AsksPlace, Signals, Fails, OpWant, Stuck', Leaves, Sets, Reads, Writes, Sizes, Requests, Fails', leaves_or_fails, op_wants, then_wants, goes_if_some, by_operand, with_operand, call_wants, code_wants, wants, Next, can_place, answered, next}
use Rattle.qw_module.specs.Typing.{types_of, Signature, GlobalType, Outside, Scope, scope_of, within, Takes, OpTyped, typed-nop, typed-drop, typed-select, typed-local_get, typed-local_set, typed-local_tee, typed-global_get, typed-global_set, typed-const, typed-unary, typed-binary, typed-division, typed-eqz, typed-relation, typed-convert, typed-load, typed-store, typed-size, typed-grow, Typed, typed-done, typed-op, typed-unreachable, typed-block, typed-loop, typed-if_then, typed-if_else, typed-br, typed-br_if, typed-br_table, typed-return, typed-call}
use Rattle.qw_module.specs.Validity.{function_scope}
use Rattle.qw_linear.specs.Memory.{page, most_pages, number_at, cleared, pages_of, AreOctets}
use Rattle.qw_linear.proofs.MemoryFacts.{length-with_number, number_at-below, AreOctets-with_number}
use Rattle.qw_linear.proofs.ClearedFacts.{length-cleared-any, length-cleared, length-cleared-next, AreOctets-cleared}
use Rattle.qw_linear.proofs.GrowthFacts.{length-grown_by, AreOctets-grown_by}
use Rattle.qw_module.specs.Soundness.{AreOf, IsClosureOf, IsCalleeOf, AreCalleesOf, AreGlobalsOf, IsStoreOf, Awaits, IsTyped, IsTypedState}
use Rattle.qw_module.proofs.NumberFacts.{values-positive, unary-below, binary-below, division-below, truth-below, relation-below, converted-below, loaded_value-below}
use Rattle.qw_module.proofs.Outcomes.{Outcome, went, read, read_outside, put, put_outside, measured, was_granted, was_refused, host_granted, host_refused, raised, failed, outcome}

-- ---- values of types, one for one
pub AreOf-length : (values : List ℕ) (types : List ValType) → AreOf values types → length values ≡ length types
AreOf-length [] [] are = refl
AreOf-length (v ∷ values) (t ∷ types) are = ap suc (AreOf-length values types are.1)
AreOf-length [] (t ∷ types) are = absurd are
AreOf-length (v ∷ values) [] are = absurd are

pub AreOf-append : (xs ys : List ℕ) (ts us : List ValType) → AreOf xs ts → AreOf ys us → AreOf (xs ++ ys) (ts ++ us)
AreOf-append [] ys [] us first second = second
AreOf-append (x ∷ xs) ys (t ∷ ts) us first second = (first.0, AreOf-append xs ys ts us first.1 second)
AreOf-append [] ys (t ∷ ts) us first second = absurd first
AreOf-append (x ∷ xs) ys [] us first second = absurd first

pub AreOf-take : (values : List ℕ) (ts us : List ValType) → AreOf values (ts ++ us) → AreOf (take (length ts) values) ts
AreOf-take values [] us are = tt
AreOf-take [] (t ∷ ts) us are = absurd are
AreOf-take (v ∷ values) (t ∷ ts) us are = (are.0, AreOf-take values ts us are.1)

pub AreOf-get : (values : List ℕ) (types : List ValType) (x : ℕ) (t : ValType) → AreOf values types → slice_get types x ≡ Some t →
    (v : ℕ) × (slice_get values x ≡ Some v) × (v < values_of t)
AreOf-get values [] x t are found = absurd (none-some t found)
AreOf-get [] (u ∷ types) x t are found = absurd are
AreOf-get (v ∷ values) (u ∷ types) zero t are found = (v, refl, subst (λ (w : ValType). v < values_of w) (same_Some u t found) are.0)
AreOf-get (v ∷ values) (u ∷ types) (suc x) t are found = AreOf-get values types x t are.1 found

pub AreOf-set : (values : List ℕ) (types : List ValType) (x v : ℕ) (t : ValType) → AreOf values types → slice_get types x ≡ Some t →
    v < values_of t → AreOf (slice_set values x v) types
AreOf-set values [] x v t are found value = absurd (none-some t found)
AreOf-set [] (u ∷ types) x v t are found value = absurd are
AreOf-set (w ∷ values) (u ∷ types) zero v t are found value = (subst (λ (s : ValType). v < values_of s) (sym (same_Some u t found)) value, are.1)
AreOf-set (w ∷ values) (u ∷ types) (suc x) v t are found value = (are.0, AreOf-set values types x v t are.1 found value)

pub AreOf-drop : (values : List ℕ) (ts us : List ValType) → AreOf values (ts ++ us) → AreOf (drop (length ts) values) us
AreOf-drop values [] us are = are
AreOf-drop [] (t ∷ ts) us are = absurd are
AreOf-drop (v ∷ values) (t ∷ ts) us are = AreOf-drop values ts us are.1

pub AreOf-reverse : (values : List ℕ) (types : List ValType) → AreOf values types → AreOf (reverse values) (reverse types)
AreOf-reverse [] [] are = tt
AreOf-reverse (v ∷ values) (t ∷ types) are = rw (reverse_onto values v [], reverse_onto types t [])
    (AreOf-append (reverse values) (v ∷ []) (reverse types) (t ∷ []) (AreOf-reverse values types are.1) (are.0, tt))
AreOf-reverse [] (t ∷ types) are = absurd are
AreOf-reverse (v ∷ values) [] are = absurd are

-- zeros are values of any types
pub AreOf-zeros : (types : List ValType) → AreOf (replicate (length types) 0) types
AreOf-zeros [] = tt
AreOf-zeros (t ∷ types) = (values-positive t, AreOf-zeros types)

-- ---- the store
pub AreGlobalsOf-get : (values : List ℕ) (globals : List GlobalType) (x : ℕ) (g : GlobalType) → AreGlobalsOf values globals → slice_get globals x ≡ Some g →
    (v : ℕ) × (slice_get values x ≡ Some v) × (v < values_of g.type)
AreGlobalsOf-get values [] x g are found = absurd (none-some g found)
AreGlobalsOf-get [] (h ∷ globals) x g are found = absurd are
AreGlobalsOf-get (v ∷ values) (h ∷ globals) zero g are found = (v, refl, subst (λ (k : GlobalType). v < values_of k.type) (same_Some h g found) are.0)
AreGlobalsOf-get (v ∷ values) (h ∷ globals) (suc x) g are found = AreGlobalsOf-get values globals x g are.1 found

pub AreGlobalsOf-set : (values : List ℕ) (globals : List GlobalType) (x v : ℕ) (g : GlobalType) → AreGlobalsOf values globals → slice_get globals x ≡ Some g →
    v < values_of g.type → AreGlobalsOf (slice_set values x v) globals
AreGlobalsOf-set values [] x v g are found value = absurd (none-some g found)
AreGlobalsOf-set [] (h ∷ globals) x v g are found value = absurd are
AreGlobalsOf-set (w ∷ values) (h ∷ globals) zero v g are found value = (subst (λ (k : GlobalType). v < values_of k.type) (sym (same_Some h g found)) value, are.1)
AreGlobalsOf-set (w ∷ values) (h ∷ globals) (suc x) v g are found value = (are.0, AreGlobalsOf-set values globals x v g are.1 found value)

pub AreGlobalsOf-length : (values : List ℕ) (globals : List GlobalType) → AreGlobalsOf values globals → length values ≡ length globals
AreGlobalsOf-length [] [] are = refl
AreGlobalsOf-length (v ∷ values) (g ∷ globals) are = ap suc (AreGlobalsOf-length values globals are.1)
AreGlobalsOf-length [] (g ∷ globals) are = absurd are
AreGlobalsOf-length (v ∷ values) [] are = absurd are

-- the function of an index is of the type of that index
pub callee_there : (outside : Outside) (callees : List Callee) (signatures : List Signature) (index : ℕ) (signature : Signature) →
    AreCalleesOf outside callees signatures → slice_get signatures index ≡ Some signature →
    (callee : Callee) × (slice_get callees index ≡ Some callee) × IsCalleeOf outside callee signature
callee_there outside callees [] index signature are found = absurd (none-some signature found)
callee_there outside [] (first ∷ signatures) index signature are found = absurd are
callee_there outside (callee ∷ callees) (first ∷ signatures) zero signature are found =
    (callee, refl, subst (λ (s : Signature). IsCalleeOf outside callee s) (same_Some first signature found) are.0)
callee_there outside (callee ∷ callees) (first ∷ signatures) (suc index) signature are found =
    callee_there outside callees signatures index signature are.1 found

-- ---- an instruction that holds no other
-- what a typed one wants: never stuck, and typed what it leaves
abbrev pub OpWantTyped : OpWant → List ValType → Scope → Type 0
OpWantTyped Stuck' types scope = ⊥
OpWantTyped (Leaves operands values) types scope = AreOf operands types × AreOf values scope.locals
OpWantTyped (Sets operands values) types scope = AreOf operands types × AreGlobalsOf values scope.outside.globals
OpWantTyped (Reads address width make) types scope = (n : ℕ) → n < 2 ^ (8 * width) → AreOf (make n) types
OpWantTyped (Writes address width value operands) types scope = AreOf operands types
OpWantTyped (Sizes make) types scope = (n : ℕ) → n < 2 ^ 32 → AreOf (make n) types
OpWantTyped (Requests pages make) types scope = (n : ℕ) → n < 2 ^ 32 → AreOf (make n) types
OpWantTyped (Fails' why) types scope = Unit {0}

-- a typed local is there, and a typed global
pub local_there : (values : List ℕ) (locals : List ValType) (x : ℕ) (t : ValType) → AreOf values locals → slice_get locals x ≡ Some t → x < length values
local_there values locals x t are found =
    let same : length values ≡ length locals = AreOf-length values locals are in
    let inside : x < length locals = slice_get_within locals x t found in
    omega arith

pub global_there : (values : List ℕ) (globals : List GlobalType) (x : ℕ) (g : GlobalType) → AreGlobalsOf values globals → slice_get globals x ≡ Some g → x < length values
global_there values globals x g are found =
    let same : length values ≡ length globals = AreGlobalsOf-length values globals are in
    let inside : x < length globals = slice_get_within globals x g found in
    omega arith

selected-below : (t : ValType) (n x y : ℕ) → x < values_of t → y < values_of t → selected n x y < values_of t
selected-below t n x y h k = ⊎_elim (λ is. rw is k) (λ is_not. rw is_not h) (cases_Bool (n == 0))

divided-typed : (t : ValType) (q : Result ℕ Trap) (operands values : List ℕ) (types : List ValType) (scope : Scope) →
    ((v : ℕ) → q ≡ Ok v → v < values_of t) → AreOf operands types → AreOf values scope.locals → OpWantTyped (leaves_or_fails q operands values) (t ∷ types) scope
divided-typed t (Ok v) operands values types scope below are are_locals = ((below v refl, are), are_locals)
divided-typed t (Err why) operands values types scope below are are_locals = tt

pub op_wants-typed : (scope : Scope) (operator : Op) (before after : List ValType) → OpTyped scope operator before after →
    (globals operands values : List ℕ) → AreGlobalsOf globals scope.outside.globals → AreOf operands before → AreOf values scope.locals →
    OpWantTyped (op_wants operator globals operands values) after scope
op_wants-typed _ _ _ _ (typed-nop scope types) globals operands values are_globals are are_locals = (are, are_locals)
op_wants-typed _ _ _ _ (typed-drop scope types t) globals [] values are_globals are are_locals = absurd are
op_wants-typed _ _ _ _ (typed-drop scope types t) globals (v ∷ operands) values are_globals are are_locals = (are.1, are_locals)
op_wants-typed _ _ _ _ (typed-select scope types t) globals [] values are_globals are are_locals = absurd are
op_wants-typed _ _ _ _ (typed-select scope types t) globals (n ∷ []) values are_globals are are_locals = absurd are.1
op_wants-typed _ _ _ _ (typed-select scope types t) globals (n ∷ y ∷ []) values are_globals are are_locals = absurd are.1.1
op_wants-typed _ _ _ _ (typed-select scope types t) globals (n ∷ y ∷ x ∷ operands) values are_globals are are_locals =
    ((selected-below t n x y are.1.1.0 are.1.0, are.1.1.1), are_locals)
op_wants-typed _ _ _ _ (typed-local_get scope types x t found) globals operands values are_globals are are_locals =
    let there : (v : ℕ) × (slice_get values x ≡ Some v) × (v < values_of t) = AreOf-get values scope.locals x t are_locals found in
    rw (there.1) ((there.2, are), are_locals)
op_wants-typed _ _ _ _ (typed-local_set scope types x t found) globals [] values are_globals are are_locals = absurd are
op_wants-typed _ _ _ _ (typed-local_set scope types x t found) globals (v ∷ operands) values are_globals are are_locals =
    rw (lt-ltb x (length values) (local_there values scope.locals x t are_locals found)) (are.1, AreOf-set values scope.locals x v t are_locals found are.0)
op_wants-typed _ _ _ _ (typed-local_tee scope types x t found) globals [] values are_globals are are_locals = absurd are
op_wants-typed _ _ _ _ (typed-local_tee scope types x t found) globals (v ∷ operands) values are_globals are are_locals =
    rw (lt-ltb x (length values) (local_there values scope.locals x t are_locals found)) (are, AreOf-set values scope.locals x v t are_locals found are.0)
op_wants-typed _ _ _ _ (typed-global_get scope types x g found) globals operands values are_globals are are_locals =
    let there : (v : ℕ) × (slice_get globals x ≡ Some v) × (v < values_of g.type) = AreGlobalsOf-get globals scope.outside.globals x g are_globals found in
    rw (there.1) ((there.2, are), are_locals)
op_wants-typed _ _ _ _ (typed-global_set scope types x g found mutable) globals [] values are_globals are are_locals = absurd are
op_wants-typed _ _ _ _ (typed-global_set scope types x g found mutable) globals (v ∷ operands) values are_globals are are_locals =
    rw (lt-ltb x (length globals) (global_there globals scope.outside.globals x g are_globals found)) (are.1, AreGlobalsOf-set globals scope.outside.globals x v g are_globals found are.0)
op_wants-typed _ _ _ _ (typed-const scope types k value) globals operands values are_globals are are_locals = ((value, are), are_locals)
op_wants-typed _ _ _ _ (typed-unary scope types t u) globals [] values are_globals are are_locals = absurd are
op_wants-typed _ _ _ _ (typed-unary scope types t u) globals (x ∷ operands) values are_globals are are_locals = ((unary-below t u x, are.1), are_locals)
op_wants-typed _ _ _ _ (typed-binary scope types t b) globals [] values are_globals are are_locals = absurd are
op_wants-typed _ _ _ _ (typed-binary scope types t b) globals (y ∷ []) values are_globals are are_locals = absurd are.1
op_wants-typed _ _ _ _ (typed-binary scope types t b) globals (y ∷ x ∷ operands) values are_globals are are_locals =
    ((binary-below t b x y are.1.0 are.0, are.1.1), are_locals)
op_wants-typed _ _ _ _ (typed-division scope types t d) globals [] values are_globals are are_locals = absurd are
op_wants-typed _ _ _ _ (typed-division scope types t d) globals (y ∷ []) values are_globals are are_locals = absurd are.1
op_wants-typed _ _ _ _ (typed-division scope types t d) globals (y ∷ x ∷ operands) values are_globals are are_locals =
    divided-typed t (division t d x y) operands values types scope (λ v e. division-below t d x y v are.1.0 are.0 e) are.1.1 are_locals
op_wants-typed _ _ _ _ (typed-eqz scope types t) globals [] values are_globals are are_locals = absurd are
op_wants-typed _ _ _ _ (typed-eqz scope types t) globals (x ∷ operands) values are_globals are are_locals = ((truth-below (x == 0), are.1), are_locals)
op_wants-typed _ _ _ _ (typed-relation scope types t r) globals [] values are_globals are are_locals = absurd are
op_wants-typed _ _ _ _ (typed-relation scope types t r) globals (y ∷ []) values are_globals are are_locals = absurd are.1
op_wants-typed _ _ _ _ (typed-relation scope types t r) globals (y ∷ x ∷ operands) values are_globals are are_locals =
    ((relation-below t r x y, are.1.1), are_locals)
op_wants-typed _ _ _ _ (typed-convert scope types v) globals [] values are_globals are are_locals = absurd are
op_wants-typed _ _ _ _ (typed-convert scope types v) globals (x ∷ operands) values are_globals are are_locals = ((converted-below v x are.0, are.1), are_locals)
op_wants-typed _ _ _ _ (typed-load scope types l arg memory aligned) globals [] values are_globals are are_locals = absurd are
op_wants-typed _ _ _ _ (typed-load scope types l arg memory aligned) globals (address ∷ operands) values are_globals are are_locals =
    λ n h. (loaded_value-below l n h, are.1)
op_wants-typed _ _ _ _ (typed-store scope types st arg memory aligned) globals [] values are_globals are are_locals = absurd are
op_wants-typed _ _ _ _ (typed-store scope types st arg memory aligned) globals (v ∷ []) values are_globals are are_locals = absurd are.1
op_wants-typed _ _ _ _ (typed-store scope types st arg memory aligned) globals (v ∷ address ∷ operands) values are_globals are are_locals = are.1.1
op_wants-typed _ _ _ _ (typed-size scope types memory) globals operands values are_globals are are_locals = λ n h. (h, are)
op_wants-typed _ _ _ _ (typed-grow scope types memory) globals [] values are_globals are are_locals = absurd are
op_wants-typed _ _ _ _ (typed-grow scope types memory) globals (pages ∷ operands) values are_globals are are_locals = λ n h. (h, are.1)

-- ---- leaving what is finished, and branching
-- what is not finished runs
pub settled-unfinished : (store : Store) (contexts : List Context) (code : Code) (operands locals : List ℕ) → code ≢ done →
    settled store contexts code operands locals ≡
    Running (record { store = store; code = code; operands = operands; locals = locals; contexts = contexts })
settled-unfinished store [] done operands locals unfinished = absurd (unfinished refl)
settled-unfinished store (label target arity below after ∷ contexts) done operands locals unfinished = absurd (unfinished refl)
settled-unfinished store (frame outer arity below after ∷ contexts) done operands locals unfinished = absurd (unfinished refl)
settled-unfinished store [] _ operands locals unfinished = refl
settled-unfinished store (label target arity below after ∷ contexts) _ operands locals unfinished = refl
settled-unfinished store (frame outer arity below after ∷ contexts) _ operands locals unfinished = refl

pub done_types : (scope : Scope) (before after : List ValType) → Typed scope done before after → before ≡ after
done_types _ _ _ (typed-done scope types) = refl

settled_typed-unfinished : (contexts : List Context) (store : Store) (code : Code) (operands values : List ℕ)
    (scope : Scope) (before ends : List ValType) → code ≢ done → IsStoreOf scope.outside store →
    AreOf operands before → AreOf values scope.locals → Typed scope code before ends → Awaits contexts scope ends →
    IsTypedState (settled store contexts code operands values)
settled_typed-unfinished contexts store code operands values scope before ends unfinished store_is are are_locals typed awaits =
    rw (settled-unfinished store contexts code operands values unfinished)
    (record {
      unfinished = unfinished;
      scope = scope;
      before = before;
      ends = ends;
      store_is = store_is;
      locals_are = are_locals;
      operands_are = are;
      code_typed = typed;
      awaits = awaits;
    })

pub settled-typed : (contexts : List Context) (store : Store) (code : Code) (operands values : List ℕ)
    (scope : Scope) (before ends : List ValType) → IsStoreOf scope.outside store →
    AreOf operands before → AreOf values scope.locals → Typed scope code before ends → Awaits contexts scope ends →
    IsTypedState (settled store contexts code operands values)
settled-typed [] store done operands values scope before ends store_is are are_locals typed awaits = tt
settled-typed (label target arity below after ∷ contexts) store done operands values scope before ends store_is are are_locals typed (taken, outer, next, is, here, awaits) =
    let left_are : AreOf operands ends = subst (λ (types : List ValType). AreOf operands types) (done_types scope before ends typed) are in
    settled-typed contexts store after (operands ++ below) values (scope_of scope.outside scope.locals scope.results outer) (ends ++ here.below_types) next store_is
    (AreOf-append operands below ends here.below_types left_are here.below_are) are_locals here.after_typed awaits
settled-typed (frame locals arity below after ∷ contexts) store done operands values scope before ends store_is are are_locals typed
    (outer, next, none, is, outside, here, awaits) =
    let left_are : AreOf operands scope.results = subst (λ (types : List ValType). AreOf operands types) (done_types scope before ends typed ∙ is) are in
    settled-typed contexts store after (operands ++ below) locals outer (scope.results ++ here.below_types) next
    (subst (λ (o : Outside). IsStoreOf o store) (sym outside) store_is)
    (AreOf-append operands below scope.results here.below_types left_are here.below_are) here.locals_are here.after_typed awaits
settled-typed contexts store code operands values scope before ends store_is are are_locals typed awaits =
    settled_typed-unfinished contexts store code operands values scope before ends (λ e. cc) store_is are are_locals typed awaits

-- a branch to a label of the scope finds it, and the operands that it takes
pub branched-typed : (contexts : List Context) (store : Store) (index : ℕ) (operands values : List ℕ)
    (scope : Scope) (taken under ends : List ValType) → IsStoreOf scope.outside store →
    Awaits contexts scope ends → Takes scope index taken → AreOf operands (taken ++ under) → AreOf values scope.locals →
    (s : State) × (branched store index contexts operands values ≡ Some s) × IsTypedState s
branched-typed [] store index operands values scope taken under ends store_is awaits found are are_locals =
    absurd (none-some taken (rw awaits.0 at found))
branched-typed (frame locals arity below after ∷ contexts) store index operands values scope taken under ends store_is awaits found are are_locals =
    absurd (none-some taken (rw awaits.2 at found))
branched-typed (label target arity below after ∷ contexts) store zero operands values scope taken under ends store_is (first, outer, next, is, here, awaits) found are are_locals =
    let same : first ≡ taken = same_Some first taken (rw is at found) in
    let count : arity ≡ length taken = here.arity_is ∙ ap length same in
    let enough : arity ≤ length operands = omega (arith, AreOf-length operands (taken ++ under) are, length-append taken under) in
    let types : List ValType = first ++ here.below_types in
    let kept : AreOf (take arity operands) first = rw (count, same) (AreOf-take operands taken under are) in (
      settled store contexts target (take arity operands ++ below) values,
      rw (le-leb arity (length operands) enough) refl,
      settled-typed contexts store target (take arity operands ++ below) values (scope_of scope.outside scope.locals scope.results outer) types next store_is
          (AreOf-append (take arity operands) below first here.below_types kept here.below_are) are_locals here.target_typed awaits,
    )
branched-typed (label target arity below after ∷ contexts) store (suc index) operands values scope taken under ends store_is (first, outer, next, is, here, awaits) found are are_locals =
    branched-typed contexts store index operands values (scope_of scope.outside scope.locals scope.results outer) taken under next store_is awaits (rw is at found) are are_locals

-- a return finds the results, and its caller goes on
pub left-typed : (contexts : List Context) (store : Store) (operands : List ℕ) (scope : Scope) (under ends : List ValType) → IsStoreOf scope.outside store →
    Awaits contexts scope ends → AreOf operands (scope.results ++ under) → (s : State) × (left store contexts operands ≡ Some s) × IsTypedState s
left-typed [] store operands scope under ends store_is awaits are = (Returned, refl, tt)
left-typed (label target arity below after ∷ contexts) store operands scope under ends store_is (first, outer, next, is, here, awaits) are =
    left-typed contexts store operands (scope_of scope.outside scope.locals scope.results outer) under next store_is awaits are
left-typed (frame locals arity below after ∷ contexts) store operands scope under ends store_is (outer, next, none, is, outside, here, awaits) are =
    let enough : arity ≤ length operands = omega (arith, here.arity_is, AreOf-length operands (scope.results ++ under) are, length-append scope.results under) in
    let kept : AreOf (take arity operands) scope.results = rw (here.arity_is) (AreOf-take operands scope.results under are) in (
      settled store contexts after (take arity operands ++ below) locals,
      rw (le-leb arity (length operands) enough) refl,
      settled-typed contexts store after (take arity operands ++ below) locals outer (scope.results ++ here.below_types) next
          (subst (λ (o : Outside). IsStoreOf o store) (sym outside) store_is)
          (AreOf-append (take arity operands) below scope.results here.below_types kept here.below_are) here.locals_are here.after_typed awaits,
    )

-- ---- what typed code wants
-- never stuck, and each state that it leads to is typed
abbrev pub WantTyped : Want → Type 0
WantTyped Stuck = ⊥
WantTyped (Goes s) = IsTypedState s
WantTyped (Asks address width make) = (n : ℕ) → n < 2 ^ (8 * width) → IsTypedState (make n)
WantTyped (Puts address width value s) = IsTypedState s
WantTyped (Measures make) = (n : ℕ) → n < 2 ^ 32 → IsTypedState (make n)
WantTyped (AsksPages pages make) = (n : ℕ) → n < 2 ^ 32 → IsTypedState (make n)
WantTyped (AsksPlace pages make) = (n : ℕ) → n < 2 ^ 32 → IsTypedState (make n)
WantTyped (Signals code) = Unit {0}
WantTyped (Fails why) = Unit {0}

module _ (c : Config) (scope : Scope) (store_is : IsStoreOf scope.outside c.store) (are_locals : AreOf c.locals scope.locals) (ends : List ValType) (awaits : Awaits c.contexts scope ends) where
  goes_on-typed : (rest : Code) (operands : List ℕ) (before : List ValType) → AreOf operands before → Typed scope rest before ends →
      IsTypedState (goes_on c rest operands c.locals)
  goes_on-typed rest operands before are typed = settled-typed c.contexts c.store rest operands c.locals scope before ends store_is are are_locals typed awaits

  then_wants-typed : (w : OpWant) (rest : Code) (middle : List ValType) → OpWantTyped w middle scope → Typed scope rest middle ends →
      WantTyped (then_wants w c rest)
  then_wants-typed Stuck' rest middle w typed = absurd w
  then_wants-typed (Leaves operands values) rest middle w typed =
      settled-typed c.contexts c.store rest operands values scope middle ends store_is w.0 w.1 typed awaits
  then_wants-typed (Sets operands globals) rest middle w typed =
      settled-typed c.contexts (record { functions = c.store.functions; globals = globals }) rest operands c.locals scope middle ends
      (record { functions = store_is.functions; globals = w.1 }) w.0 are_locals typed awaits
  then_wants-typed (Reads address width make) rest middle w typed = λ n h. goes_on-typed rest (make n) middle (w n h) typed
  then_wants-typed (Writes address width value operands) rest middle w typed = goes_on-typed rest operands middle w typed
  then_wants-typed (Sizes make) rest middle w typed = λ n h. goes_on-typed rest (make n) middle (w n h) typed
  then_wants-typed (Requests pages make) rest middle w typed = λ n h. goes_on-typed rest (make n) middle (w n h) typed
  then_wants-typed (Fails' why) rest middle w typed = tt

  branch-typed : (index : ℕ) (operands : List ℕ) (taken under : List ValType) → Takes scope index taken →
      AreOf operands (taken ++ under) → WantTyped (goes_if_some (branched c.store index c.contexts operands c.locals))
  branch-typed index operands taken under found are =
      let there : (s : State) × (branched c.store index c.contexts operands c.locals ≡ Some s) × IsTypedState s =
      branched-typed c.contexts c.store index operands c.locals scope taken under ends store_is awaits found are are_locals in
      rw (there.1) there.2

  return-typed : (under : List ValType) → AreOf c.operands (scope.results ++ under) → WantTyped (goes_if_some (left c.store c.contexts c.operands))
  return-typed under are =
      let there : (s : State) × (left c.store c.contexts c.operands ≡ Some s) × IsTypedState s =
      left-typed c.contexts c.store c.operands scope under ends store_is awaits are in
      rw (there.1) there.2

  -- entering what a label is put round
  enters-typed : (target inner : Code) (arity : ℕ) (taken results : List ValType) (rest : Code) (operands : List ℕ) (before : List ValType) →
      arity ≡ length taken → AreOf operands before → Typed (within scope taken) inner [] results →
      Typed scope target (taken ++ before) ends → Typed scope rest (results ++ before) ends →
      IsTypedState (enters c target arity inner operands rest)
  enters-typed target inner arity taken results rest operands before count are inner_typed target_typed rest_typed =
      settled-typed (label target arity operands rest ∷ c.contexts) c.store inner [] c.locals (within scope taken) [] results store_is
      tt are_locals inner_typed (
        taken,
        scope.labels,
        ends,
        refl,
        record { below_types = before; arity_is = count; below_are = are; target_typed = target_typed; after_typed = rest_typed },
        awaits,
      )

  -- entering a function, whose frame and label await it
  invoked-typed : (function : Closure) (signature : Signature) (rest : Code) (types : List ValType) → IsClosureOf scope.outside function signature →
      AreOf c.operands (reverse signature.params ++ types) → Typed scope rest (reverse signature.results ++ types) ends →
      IsTypedState (invoked c function rest)
  invoked-typed function signature rest types is are rest_typed =
      let results : List ValType = reverse signature.results in
      let inner : Scope = function_scope scope.outside signature is.declared in
      let outermost : Scope = scope_of scope.outside (signature.params ++ is.declared) results [] in
      let taken : function.params ≡ length (reverse signature.params) = is.params_are ∙ sym (length-reverse signature.params) in
      let left_count : function.results ≡ length results = is.results_are ∙ sym (length-reverse signature.results) in
      let arguments : AreOf (take function.params c.operands) (reverse signature.params) = rw taken (AreOf-take c.operands (reverse signature.params) types are) in
      let below : AreOf (drop function.params c.operands) types = rw taken (AreOf-drop c.operands (reverse signature.params) types are) in
      let turned : AreOf (reverse (take function.params c.operands)) signature.params =
      subst (λ (ts : List ValType). AreOf (reverse (take function.params c.operands)) ts) (reverse-reverse signature.params)
      (AreOf-reverse (take function.params c.operands) (reverse signature.params) arguments) in
      let zeros : AreOf (replicate function.declared 0) is.declared = rw (is.declared_are) (AreOf-zeros is.declared) in
      let finished : Typed outermost done (results ++ []) (results ++ []) = typed-done outermost (results ++ []) in
      settled-typed (label done function.results [] done ∷ frame c.locals function.results (drop function.params c.operands) rest ∷ c.contexts) c.store function.body []
      (reverse (take function.params c.operands) ++ replicate function.declared 0) inner [] results store_is tt
      (AreOf-append (reverse (take function.params c.operands)) (replicate function.declared 0) signature.params is.declared turned zeros) is.typed (
        results,
        [],
        results ++ [],
        refl,
        record { below_types = []; arity_is = left_count; below_are = tt; target_typed = finished; after_typed = finished },
        (
          scope,
          ends,
          refl,
          append-nil results,
          refl,
          record { below_types = types; arity_is = left_count; locals_are = are_locals; below_are = below; after_typed = rest_typed },
          awaits,
        ),
      )

pub arity-types : (result : Option ValType) → arity_of result ≡ length (types_of result)
arity-types None = refl
arity-types (Some t) = refl

by_operand-typed : (operands : List ℕ) (t : ValType) (types : List ValType) (other zeroth : List ℕ → Want) → AreOf operands (t ∷ types) →
    ((rest : List ℕ) → AreOf rest types → WantTyped (other rest)) → ((rest : List ℕ) → AreOf rest types → WantTyped (zeroth rest)) →
    WantTyped (by_operand operands other zeroth)
by_operand-typed [] t types other zeroth are at_other at_zero = absurd are
by_operand-typed (zero ∷ operands) t types other zeroth are at_other at_zero = at_zero operands are.1
by_operand-typed (suc n ∷ operands) t types other zeroth are at_other at_zero = at_other operands are.1

with_operand-typed : (operands : List ℕ) (t : ValType) (types : List ValType) (want : ℕ → List ℕ → Want) → AreOf operands (t ∷ types) →
    ((n : ℕ) (rest : List ℕ) → AreOf rest types → WantTyped (want n rest)) → WantTyped (with_operand operands want)
with_operand-typed [] t types want are each = absurd are
with_operand-typed (n ∷ operands) t types want are each = each n operands are.1

-- whichever label a br_table chooses takes alike
pub chosen-takes : (scope : Scope) (labels : List ℕ) (default n : ℕ) (taken : List ValType) → AllByRecursion (λ index. Takes scope index taken) labels →
    Takes scope default taken → Takes scope (chosen labels default n) taken
chosen-takes scope [] default n taken all found = found
chosen-takes scope (index ∷ labels) default zero taken all found = all.0
chosen-takes scope (index ∷ labels) default (suc n) taken all found = chosen-takes scope labels default n taken all.1 found

module _ (c : Config) (scope : Scope) (store_is : IsStoreOf scope.outside c.store) (are_locals : AreOf c.locals scope.locals) (ends : List ValType) (awaits : Awaits c.contexts scope ends) where
  called-typed : (callee : Callee) (signature : Signature) (rest : Code) (types : List ValType) → IsCalleeOf scope.outside callee signature →
      AreOf c.operands (reverse signature.params ++ types) → Typed scope rest (reverse signature.results ++ types) ends →
      WantTyped (call_wants (Some callee) c rest)
  called-typed host_raise signature rest types is are rest_typed =
      let one : AreOf c.operands (I32 ∷ types) = subst (λ (s : Signature). AreOf c.operands (reverse s.params ++ types)) is are in
      with_operand-typed c.operands I32 types (λ code operands. Signals code) one (λ code left are_left. tt)
  called-typed host_pages signature rest types is are rest_typed =
      let one : AreOf c.operands (I32 ∷ types) = subst (λ (s : Signature). AreOf c.operands (reverse s.params ++ types)) is are in
      let left_typed : Typed scope rest (I32 ∷ types) ends = subst (λ (s : Signature). Typed scope rest (reverse s.results ++ types) ends) is rest_typed in
      with_operand-typed c.operands I32 types (λ pages left. AsksPlace pages (λ first. goes_on c rest (first ∷ left) c.locals)) one
      (λ pages left are_left. λ n h. goes_on-typed c scope store_is are_locals ends awaits rest (n ∷ left) (I32 ∷ types) (h, are_left) left_typed)
  called-typed (own function) signature rest types is are rest_typed =
      let enough : function.params ≤ length c.operands = omega (
        arith,
        is.params_are,
        length-reverse signature.params,
        AreOf-length c.operands (reverse signature.params ++ types) are,
        length-append (reverse signature.params) types,
      ) in
      rw (le-leb function.params (length c.operands) enough) (invoked-typed c scope store_is are_locals ends awaits function signature rest types is are rest_typed)

  call-typed : (index : ℕ) (signature : Signature) (rest : Code) (types : List ValType) → slice_get scope.outside.functions index ≡ Some signature →
      AreOf c.operands (reverse signature.params ++ types) → Typed scope rest (reverse signature.results ++ types) ends →
      WantTyped (call_wants (slice_get c.store.functions index) c rest)
  call-typed index signature rest types found are rest_typed =
      let there : (callee : Callee) × (slice_get c.store.functions index ≡ Some callee) × IsCalleeOf scope.outside callee signature =
      callee_there scope.outside c.store.functions scope.outside.functions index signature store_is.functions found in
      rw (there.1) (called-typed there.0 signature rest types there.2 are rest_typed)

pub code_wants-typed : (c : Config) (scope : Scope) (code : Code) (before ends : List ValType) → code ≢ done → Typed scope code before ends →
    IsStoreOf scope.outside c.store → AreOf c.operands before → AreOf c.locals scope.locals → Awaits c.contexts scope ends → WantTyped (code_wants code c)
code_wants-typed c _ _ _ _ unfinished (typed-done scope types) store_is are are_locals awaits = absurd (unfinished refl)
code_wants-typed c _ _ _ _ unfinished (typed-op scope operator rest before middle after op_typed rest_typed) store_is are are_locals awaits =
    then_wants-typed c scope store_is are_locals after awaits (op_wants operator c.store.globals c.operands c.locals) rest middle
    (op_wants-typed scope operator before middle op_typed c.store.globals c.operands c.locals store_is.globals are are_locals) rest_typed
code_wants-typed c _ _ _ _ unfinished (typed-unreachable scope rest before any after rest_typed) store_is are are_locals awaits = tt
code_wants-typed c _ _ _ _ unfinished (typed-block scope result inner rest before after inner_typed rest_typed) store_is are are_locals awaits =
    enters-typed c scope store_is are_locals after awaits rest inner (arity_of result) (types_of result) (types_of result) rest c.operands before
    (arity-types result) are inner_typed rest_typed rest_typed
code_wants-typed c _ _ _ _ unfinished (typed-loop scope result inner rest before after inner_typed rest_typed) store_is are are_locals awaits =
    enters-typed c scope store_is are_locals after awaits (loop result inner rest) inner 0 [] (types_of result) rest c.operands before
    refl are inner_typed (typed-loop scope result inner rest before after inner_typed rest_typed) rest_typed
code_wants-typed c _ _ _ _ unfinished (typed-if_then scope inner rest before after inner_typed rest_typed) store_is are are_locals awaits =
    by_operand-typed c.operands I32 before
    (λ left. Goes (enters c rest 0 inner left rest)) (λ left. Goes (enters c rest 0 done left rest)) are
    (λ left left_are. enters-typed c scope store_is are_locals after awaits rest inner 0 [] [] rest left before
    refl left_are inner_typed rest_typed rest_typed)
    (λ left left_are. enters-typed c scope store_is are_locals after awaits rest done 0 [] [] rest left before
    refl left_are (typed-done (within scope []) []) rest_typed rest_typed)
code_wants-typed c _ _ _ _ unfinished (typed-if_else scope result inner other rest before after inner_typed other_typed rest_typed) store_is are are_locals awaits =
    by_operand-typed c.operands I32 before
    (λ left. Goes (enters c rest (arity_of result) inner left rest)) (λ left. Goes (enters c rest (arity_of result) other left rest)) are
    (λ left left_are. enters-typed c scope store_is are_locals after awaits rest inner (arity_of result) (types_of result) (types_of result) rest left before
    (arity-types result) left_are inner_typed rest_typed rest_typed)
    (λ left left_are. enters-typed c scope store_is are_locals after awaits rest other (arity_of result) (types_of result) (types_of result) rest left before
    (arity-types result) left_are other_typed rest_typed rest_typed)
code_wants-typed c _ _ _ _ unfinished (typed-br scope index rest taken below any after found rest_typed) store_is are are_locals awaits =
    branch-typed c scope store_is are_locals after awaits index c.operands taken below found are
code_wants-typed c _ _ _ _ unfinished (typed-br_if scope index rest taken below after found rest_typed) store_is are are_locals awaits =
    by_operand-typed c.operands I32 (taken ++ below)
    (λ left. goes_if_some (branched c.store index c.contexts left c.locals)) (λ left. Goes (goes_on c rest left c.locals)) are
    (λ left left_are. branch-typed c scope store_is are_locals after awaits index left taken below found left_are)
    (λ left left_are. goes_on-typed c scope store_is are_locals after awaits rest left (taken ++ below) left_are rest_typed)
code_wants-typed c _ _ _ _ unfinished (typed-br_table scope labels default rest taken below any after all found rest_typed) store_is are are_locals awaits =
    with_operand-typed c.operands I32 (taken ++ below) (λ n left. goes_if_some (branched c.store (chosen labels default n) c.contexts left c.locals)) are
    (λ n left left_are. branch-typed c scope store_is are_locals after awaits (chosen labels default n) left taken below
    (chosen-takes scope labels default n taken all found) left_are)
code_wants-typed c _ _ _ _ unfinished (typed-return scope rest below any after rest_typed) store_is are are_locals awaits =
    return-typed c scope store_is are_locals after awaits below are
code_wants-typed c _ _ _ _ unfinished (typed-call scope index signature rest types after found rest_typed) store_is are are_locals awaits =
    call-typed c scope store_is are_locals after awaits index signature rest types found are rest_typed

pub wants-typed : (c : Config) → IsTyped c → WantTyped (wants c)
wants-typed c typed = code_wants-typed c typed.scope c.code typed.before typed.ends typed.unfinished typed.code_typed
    typed.store_is typed.operands_are typed.locals_are typed.awaits

-- ---- what memory answers
answered-some : (grants : ℕ → Bool) (place : ℕ → ℕ) (m : List ℕ) (w : Want) → WantTyped w → IsSome (answered grants place m w)
answered-some grants place m Stuck typed = absurd typed
answered-some grants place m (Goes s) typed = refl
answered-some grants place m (Asks address width make) typed =
    ⊎_elim (λ is. rw is refl) (λ is_not. rw is_not refl) (cases_Bool (nat_le (address + width) (length m)))
answered-some grants place m (Puts address width value s) typed =
    ⊎_elim (λ is. rw is refl) (λ is_not. rw is_not refl) (cases_Bool (nat_le (address + width) (length m)))
answered-some grants place m (Measures make) typed = refl
answered-some grants place m (AsksPages pages make) typed =
    ⊎_elim (λ is. rw is refl) (λ is_not. rw is_not refl) (cases_Bool (grants pages && nat_le (pages_of m + pages) most_pages))
answered-some grants place m (AsksPlace pages make) typed =
    ⊎_elim (λ is. rw is refl) (λ is_not. rw is_not refl) (cases_Bool (grants pages && can_place (place pages) pages m))
answered-some grants place m (Signals code) typed = refl
answered-some grants place m (Fails why) typed = refl

outcome-typed : (grants : ℕ → Bool) (place : ℕ → ℕ) (m : List ℕ) (w : Want) (n : Next) → Outcome grants place m w n → AreOctets m → pages_of m ≤ most_pages → WantTyped w → IsTypedState n.state
outcome-typed _ _ _ _ _ (went grants place m s) octets few typed = typed
outcome-typed _ _ _ _ _ (read grants place m address width make inside) octets few typed = typed (number_at m address width) (number_at-below m octets address width)
outcome-typed _ _ _ _ _ (read_outside grants place m address width make outside) octets few typed = tt
outcome-typed _ _ _ _ _ (put grants place m address width value s inside) octets few typed = typed
outcome-typed _ _ _ _ _ (put_outside grants place m address width value s outside) octets few typed = tt
outcome-typed _ _ _ _ _ (measured grants place m make) octets few typed = typed (pages_of m) (omega (arith, few))
outcome-typed _ _ _ _ _ (was_granted grants place m pages make is room) octets few typed = typed (pages_of m) (omega arith)
outcome-typed _ _ _ _ _ (was_refused grants place m pages make is) octets few typed = typed refusal (omega arith)
outcome-typed _ _ _ _ _ (host_granted grants place m pages make is there) octets few typed = typed (place pages) (let most = there.0 in omega (arith, most))
outcome-typed _ _ _ _ _ (host_refused grants place m pages make is) octets few typed = typed refusal (omega arith)
outcome-typed _ _ _ _ _ (raised grants place m code) octets few typed = tt
outcome-typed _ _ _ _ _ (failed grants place m why) octets few typed = tt

outcome-octets : (grants : ℕ → Bool) (place : ℕ → ℕ) (m : List ℕ) (w : Want) (n : Next) → Outcome grants place m w n → AreOctets m → AreOctets n.memory
outcome-octets _ _ _ _ _ (went grants place m s) octets = octets
outcome-octets _ _ _ _ _ (read grants place m address width make inside) octets = octets
outcome-octets _ _ _ _ _ (read_outside grants place m address width make outside) octets = octets
outcome-octets _ _ _ _ _ (put grants place m address width value s inside) octets = AreOctets-with_number m octets address width value
outcome-octets _ _ _ _ _ (put_outside grants place m address width value s outside) octets = octets
outcome-octets _ _ _ _ _ (measured grants place m make) octets = octets
outcome-octets _ _ _ _ _ (was_granted grants place m pages make is room) octets = AreOctets-grown_by pages m octets
outcome-octets _ _ _ _ _ (was_refused grants place m pages make is) octets = octets
outcome-octets _ _ _ _ _ (host_granted grants place m pages make is there) octets = AreOctets-cleared (place pages) pages m octets
outcome-octets _ _ _ _ _ (host_refused grants place m pages make is) octets = octets
outcome-octets _ _ _ _ _ (raised grants place m code) octets = octets
outcome-octets _ _ _ _ _ (failed grants place m why) octets = octets

-- pages that were placed are in the memory, or the memory is longer by them
pub length-placed : (first pages : ℕ) (m : List ℕ) → IsPlaceIn m first pages → length m ≡ pages_of m * page →
    length (cleared first pages m) ≡ length m + (if first == pages_of m then pages else 0) * page
length-placed first pages m (few, place) whole = ⊎_elim
    (λ next.
    let is : first ≡ pages_of m = eqb-true first (pages_of m) next in
    rw next (rw is (length-cleared-next pages (pages_of m) m whole)))
    (λ elsewhere. rw elsewhere (⊎_elim
    (λ is. absurd (false≢true (sym elsewhere ∙ rw is (eq-eqb (pages_of m) (pages_of m) refl))))
    (λ there. length-cleared first pages m (omega (arith, there, whole)) ∙ omega arith)
    place))
    (cases_Bool (first == pages_of m))

outcome-length : (grants : ℕ → Bool) (place : ℕ → ℕ) (m : List ℕ) (w : Want) (n : Next) → Outcome grants place m w n → length m ≡ pages_of m * page →
    length n.memory ≡ length m + pages_gained m n.event * page
outcome-length _ _ _ _ _ (went grants place m s) whole = omega arith
outcome-length _ _ _ _ _ (read grants place m address width make inside) whole = omega arith
outcome-length _ _ _ _ _ (read_outside grants place m address width make outside) whole = omega arith
outcome-length _ _ _ _ _ (put grants place m address width value s inside) whole = omega (arith, length-with_number m address width value)
outcome-length _ _ _ _ _ (put_outside grants place m address width value s outside) whole = omega arith
outcome-length _ _ _ _ _ (measured grants place m make) whole = omega arith
outcome-length _ _ _ _ _ (was_granted grants place m pages make is room) whole = length-grown_by pages m
outcome-length _ _ _ _ _ (was_refused grants place m pages make is) whole = omega arith
outcome-length _ _ _ _ _ (host_granted grants place m pages make is there) whole = length-placed (place pages) pages m there whole
outcome-length _ _ _ _ _ (host_refused grants place m pages make is) whole = omega arith
outcome-length _ _ _ _ _ (raised grants place m code) whole = omega arith
outcome-length _ _ _ _ _ (failed grants place m why) whole = omega arith

more_pages : (length pages : ℕ) → (length + pages * page) / page ≡ length / page + pages
more_pages length pages = omega arith

pages-placed : (first pages : ℕ) (m : List ℕ) → IsPlaceIn m first pages → pages_of m ≤ most_pages → pages_of (cleared first pages m) ≤ most_pages
pages-placed first pages m (few, inl is) most = let long = length-cleared-any first pages m (omega (arith, is)) in omega (arith, long, few, is, most)
pages-placed first pages m (few, inr there) most = let same = length-cleared first pages m (omega (arith, there)) in omega (arith, same, most)

outcome-pages : (grants : ℕ → Bool) (place : ℕ → ℕ) (m : List ℕ) (w : Want) (n : Next) → Outcome grants place m w n → pages_of m ≤ most_pages → pages_of n.memory ≤ most_pages
outcome-pages _ _ _ _ _ (went grants place m s) few = few
outcome-pages _ _ _ _ _ (read grants place m address width make inside) few = few
outcome-pages _ _ _ _ _ (read_outside grants place m address width make outside) few = few
outcome-pages _ _ _ _ _ (put grants place m address width value s inside) few = rw (length-with_number m address width value) few
outcome-pages _ _ _ _ _ (put_outside grants place m address width value s outside) few = few
outcome-pages _ _ _ _ _ (measured grants place m make) few = few
outcome-pages _ _ _ _ _ (was_granted grants place m pages make is room) few = rw (length-grown_by pages m) (omega (arith, more_pages (length m) pages, room))
outcome-pages _ _ _ _ _ (was_refused grants place m pages make is) few = few
outcome-pages _ _ _ _ _ (host_granted grants place m pages make is there) few = pages-placed (place pages) pages m there few
outcome-pages _ _ _ _ _ (host_refused grants place m pages make is) few = few
outcome-pages _ _ _ _ _ (raised grants place m code) few = few
outcome-pages _ _ _ _ _ (failed grants place m why) few = few

module _ (grants : ℕ → Bool) (place : ℕ → ℕ) (c : Config) (m : List ℕ) where
  -- a typed configuration makes a step
  pub progress : IsTyped c → IsSome (next grants place c m)
  progress typed = answered-some grants place m (wants c) (wants-typed c typed)

  -- to a typed state
  pub preservation : (n : Next) → IsTyped c → AreOctets m → pages_of m ≤ most_pages → next grants place c m ≡ Some n → IsTypedState n.state
  preservation n typed octets few h = outcome-typed grants place m (wants c) n (outcome grants place m (wants c) n h) octets few (wants-typed c typed)

  -- a memory of octets stays one, and its length changes by the pages gained
  pub octets_stay : (n : Next) → AreOctets m → next grants place c m ≡ Some n → AreOctets n.memory
  octets_stay n octets h = outcome-octets grants place m (wants c) n (outcome grants place m (wants c) n h) octets

  pub length_grows : (n : Next) → length m ≡ pages_of m * page → next grants place c m ≡ Some n → length n.memory ≡ length m + pages_gained m n.event * page
  length_grows n whole h = outcome-length grants place m (wants c) n (outcome grants place m (wants c) n h) whole

  -- and it never has more pages than there can be
  pub pages_stay : (n : Next) → pages_of m ≤ most_pages → next grants place c m ≡ Some n → pages_of n.memory ≤ most_pages
  pages_stay n few h = outcome-pages grants place m (wants c) n (outcome grants place m (wants c) n h) few
