-- What is computed of an operator is its typing rule: it leads from operands that are as known to those that are as known after it, to each of
-- these, and nowhere where nothing is known after it.
use Rattle.std.proofs.Common.{◌≡◌, ℕ, ◌^◌, ◌<◌, ◌≤◌, List, ◌∷◌, refl, sym, subst, ◌∙◌, Option, None, Some, slice_get, Bool, true, ◌&&◌, arith}
use Rattle.std.specs.Prelude.{if◌then◌else◌, nat_lt, nat_le}
use Rattle.std.specs.Option.{option_map, option_and_then}
use Rattle.std.proofs.lemmas.Bool.{and_parts, and_from, ltb-true, lt-ltb, leb-true, le-leb}
use Rattle.std.proofs.lemmas.Option.{same_Some}
use Rattle.qw_module.specs.declared.instruction.ValType.{ValType}
use Rattle.qw_module.specs.declared.instruction.ValType.TheVariants.{I32}
use Rattle.qw_module.specs.declared.instruction.Op.{Op}
use Rattle.qw_module.specs.declared.instruction.Op.TheVariants.{Nop, Drop, Select, LocalGet, LocalSet, LocalTee, GlobalGet, GlobalSet, Eqz, Convert, MemorySize, MemoryGrow}
use Rattle.qw_module.specs.declared.instruction.Op.TheVariants as o
use Rattle.qw_module.specs.Numbers.{values_of, constant, type_of_constant, converts_from, converts_to, type_of_load, load_width, type_of_store, store_width}
use Rattle.qw_module.specs.Typing.{GlobalType, Scope, OpTyped, typed-nop, typed-drop, typed-select, typed-local_get, typed-local_set, typed-local_tee, typed-global_get, typed-global_set, typed-const, typed-unary, typed-binary, typed-division, typed-eqz, typed-relation, typed-convert, typed-load, typed-store, typed-size, typed-grow}
use Rattle.qw_valid.specs.Inner.Checking.{Known, pushed_kind, pushed, popped, any_popped, one_to_one, after_first, after_second, after_select, after_set, has_memory, after_op}
use Rattle.qw_valid.specs.Kinds.{joined}
use Rattle.qw_valid.proofs.KindFacts.{then_some, map_some, then_from, map_from, if_some, if_from, type_of_kind, fits-type, AreAs, popped-on, popped-back, any_popped-on, any_popped-back, joined-on, joined-back, pushed_kind-on, pushed_kind-back, pushed-on, pushed-back, one-on, one-back, two-on, two-back}

-- from operands that are as known, on: to something known, as which the operands after it are
abbrev pub On : Option Known → List ValType → Type 0
On r after = (k : Known) × (r ≡ Some k) × AreAs k after

memory_is : (scope : Scope) → 1 ≤ scope.outside.memories → has_memory scope ≡ true
memory_is scope some = lt-ltb 0 scope.outside.memories (omega arith)

memory_from : (scope : Scope) → has_memory scope ≡ true → 1 ≤ scope.outside.memories
memory_from scope is = let some : 0 < scope.outside.memories = ltb-true 0 scope.outside.memories is in omega arith

access_is : (scope : Scope) (align width : ℕ) → 1 ≤ scope.outside.memories → 2 ^ align ≤ width → (has_memory scope && nat_le (2 ^ align) width) ≡ true
access_is scope align width some aligned = and_from (has_memory scope) (nat_le (2 ^ align) width) (memory_is scope some) (le-leb (2 ^ align) width aligned)

access_from : (scope : Scope) (align width : ℕ) → (has_memory scope && nat_le (2 ^ align) width) ≡ true → (1 ≤ scope.outside.memories) × (2 ^ align ≤ width)
access_from scope align width is =
    let parts = and_parts (has_memory scope) (nat_le (2 ^ align) width) is in
    (memory_from scope parts.0, leb-true (2 ^ align) width parts.1)

-- over a test that holds
tested : (test : Bool) (r : Option Known) (after : List ValType) → test ≡ true → On r after → On (if test then r else None) after
tested test r after is on = (on.0, if_from test r is ∙ on.1, on.2)

-- after an index that is found
found_then : {A : Type 0} (f : A → Option Known) (r : Option A) (x : A) (after : List ValType) → r ≡ Some x → On (f x) after → On (option_and_then f r) after
found_then f r x after e on = (on.0, then_from f r x (Some on.0) e on.1, on.2)

found_map : {A : Type 0} (f : A → Known) (r : Option A) (x : A) (after : List ValType) → r ≡ Some x → AreAs (f x) after → On (option_map f r) after
found_map f r x after e are = (f x, map_from f r x e, are)

select-on : (known : Known) (t : ValType) (types : List ValType) → AreAs known (I32 ∷ t ∷ t ∷ types) → On (after_select known) (t ∷ types)
select-on known t types are =
    let below = popped-on I32 known (t ∷ t ∷ types) are in
    let first = any_popped-on below.0 t (t ∷ types) below.2 in
    let second = any_popped-on first.1 t types first.4 in
    let kind = joined-on first.0 second.0 t first.3 second.3 in
    found_then (λ k. option_and_then after_first (any_popped k)) (popped I32 known) below.0 (t ∷ types) below.1
    (found_then after_first (any_popped below.0) (first.0, first.1) (t ∷ types) first.2
    (found_then (after_second first.0) (any_popped first.1) (second.0, second.1) (t ∷ types) second.2
    (found_map (λ k. pushed_kind k second.1) (joined first.0 second.0) kind.0 (t ∷ types) kind.1 (pushed_kind-on kind.0 second.1 t types kind.2 second.4))))

pub op-on : (scope : Scope) (operator : Op) (before after : List ValType) → OpTyped scope operator before after → (known : Known) → AreAs known before →
    On (after_op scope operator known) after
op-on _ _ _ _ (typed-nop scope types) known are = (known, refl, are)
op-on _ _ _ _ (typed-drop scope types t) known are =
    let p = any_popped-on known t types are in
    found_map (λ (q : Option ValType × Known). q.1) (any_popped known) (p.0, p.1) types p.2 p.4
op-on _ _ _ _ (typed-select scope types t) known are = select-on known t types are
op-on _ _ _ _ (typed-local_get scope types x t found) known are =
    found_map (λ type. pushed type known) (slice_get scope.locals x) t (t ∷ types) found (pushed-on t known types are)
op-on _ _ _ _ (typed-local_set scope types x t found) known are =
    found_then (λ type. popped type known) (slice_get scope.locals x) t types found (popped-on t known types are)
op-on _ _ _ _ (typed-local_tee scope types x t found) known are =
    found_then (λ type. one_to_one type type known) (slice_get scope.locals x) t (t ∷ types) found (one-on t t known types are)
op-on _ _ _ _ (typed-global_get scope types x g found) known are =
    found_map (λ (h : GlobalType). pushed h.type known) (slice_get scope.outside.globals x) g (g.type ∷ types) found (pushed-on g.type known types are)
op-on _ _ _ _ (typed-global_set scope types x g found mutable) known are =
    found_then (λ h. after_set h known) (slice_get scope.outside.globals x) g types found
    (tested g.mutable (popped g.type known) types mutable (popped-on g.type known types are))
op-on _ _ _ _ (typed-const scope types c value) known are =
    tested (nat_lt (constant c) (values_of (type_of_constant c))) (Some (pushed (type_of_constant c) known)) (type_of_constant c ∷ types)
    (lt-ltb (constant c) (values_of (type_of_constant c)) value) (pushed (type_of_constant c) known, refl, pushed-on (type_of_constant c) known types are)
op-on _ _ _ _ (typed-unary scope types t u) known are = one-on t t known types are
op-on _ _ _ _ (typed-binary scope types t b) known are = two-on t t known types are
op-on _ _ _ _ (typed-division scope types t d) known are = two-on t t known types are
op-on _ _ _ _ (typed-eqz scope types t) known are = one-on t I32 known types are
op-on _ _ _ _ (typed-relation scope types t r) known are = two-on t I32 known types are
op-on _ _ _ _ (typed-convert scope types v) known are = one-on (converts_from v) (converts_to v) known types are
op-on _ _ _ _ (typed-load scope types l arg memory aligned) known are =
    tested (has_memory scope && nat_le (2 ^ arg.align) (load_width l)) (one_to_one I32 (type_of_load l) known) (type_of_load l ∷ types)
    (access_is scope arg.align (load_width l) memory aligned) (one-on I32 (type_of_load l) known types are)
op-on _ _ _ _ (typed-store scope types s arg memory aligned) known are =
    let first = popped-on (type_of_store s) known (I32 ∷ types) are in
    tested (has_memory scope && nat_le (2 ^ arg.align) (store_width s)) (option_and_then (popped I32) (popped (type_of_store s) known)) types
    (access_is scope arg.align (store_width s) memory aligned)
    (found_then (popped I32) (popped (type_of_store s) known) first.0 types first.1 (popped-on I32 first.0 types first.2))
op-on _ _ _ _ (typed-size scope types memory) known are =
    tested (has_memory scope) (Some (pushed I32 known)) (I32 ∷ types) (memory_is scope memory) (pushed I32 known, refl, pushed-on I32 known types are)
op-on _ _ _ _ (typed-grow scope types memory) known are =
    tested (has_memory scope) (one_to_one I32 I32 known) (I32 ∷ types) (memory_is scope memory) (one-on I32 I32 known types are)

-- and back
abbrev pub Back : Scope → Op → Known → List ValType → Type 0
Back scope operator known after = (before : List ValType) × AreAs known before × OpTyped scope operator before after

-- operands after a rule that are of these types
turned_back : (scope : Scope) (operator : Op) (known : Known) (after types before : List ValType) → after ≡ types → AreAs known before → OpTyped scope operator before types →
    Back scope operator known after
turned_back scope operator known after types before e are typed = (before, are, rw e typed)

select-back : (scope : Scope) (known k : Known) (after : List ValType) → after_select known ≡ Some k → AreAs k after → Back scope Select known after
select-back scope known k after e are =
    let below = then_some (λ b. option_and_then after_first (any_popped b)) (popped I32 known) k e in
    let first = then_some after_first (any_popped below.0) k below.2 in
    let second = then_some (after_second first.0.0) (any_popped first.0.1) k first.2 in
    let kind = map_some (λ j. pushed_kind j second.0.1) (joined first.0.0 second.0.0) k second.2 in
    let top = pushed_kind-back kind.0 second.0.1 after (subst (λ (j : Known). AreAs j after) (sym kind.2) are) in
    let both = joined-back first.0.0 second.0.0 kind.0 top.0 kind.1 top.3 in
    let one = any_popped-back first.0.1 second.0.0 second.0.1 top.0 top.1 second.1 both.1 top.4 in
    let two = any_popped-back below.0 first.0.0 first.0.1 top.0 (top.0 ∷ top.1) first.1 both.0 one in
    turned_back scope Select known after (top.0 ∷ top.1) (I32 ∷ top.0 ∷ top.0 ∷ top.1) top.2
    (popped-back I32 known below.0 (top.0 ∷ top.0 ∷ top.1) below.1 two) (typed-select scope top.1 top.0)

pub op-back : (scope : Scope) (operator : Op) (known k : Known) (after : List ValType) → after_op scope operator known ≡ Some k → AreAs k after →
    Back scope operator known after
op-back scope Nop known k after e are = (after, subst (λ (j : Known). AreAs j after) (sym (same_Some known k e)) are, typed-nop scope after)
op-back scope Drop known k after e are =
    let m = map_some (λ (q : Option ValType × Known). q.1) (any_popped known) k e in
    let t : ValType = type_of_kind m.0.0 in
    (t ∷ after, any_popped-back known m.0.0 m.0.1 t after m.1 (fits-type m.0.0) (subst (λ (j : Known). AreAs j after) (sym m.2) are), typed-drop scope after t)
op-back scope Select known k after e are = select-back scope known k after e are
op-back scope (LocalGet x) known k after e are =
    let m = map_some (λ type. pushed type known) (slice_get scope.locals x) k e in
    let b = pushed-back m.0 known after (subst (λ (j : Known). AreAs j after) (sym m.2) are) in
    turned_back scope (LocalGet x) known after (m.0 ∷ b.0) b.0 b.1 b.2 (typed-local_get scope b.0 x m.0 m.1)
op-back scope (LocalSet x) known k after e are =
    let m = then_some (λ type. popped type known) (slice_get scope.locals x) k e in
    (m.0 ∷ after, popped-back m.0 known k after m.2 are, typed-local_set scope after x m.0 m.1)
op-back scope (LocalTee x) known k after e are =
    let m = then_some (λ type. one_to_one type type known) (slice_get scope.locals x) k e in
    let b = one-back m.0 m.0 known k after m.2 are in
    turned_back scope (LocalTee x) known after (m.0 ∷ b.0) (m.0 ∷ b.0) b.1 b.2 (typed-local_tee scope b.0 x m.0 m.1)
op-back scope (GlobalGet x) known k after e are =
    let m = map_some (λ (h : GlobalType). pushed h.type known) (slice_get scope.outside.globals x) k e in
    let b = pushed-back m.0.type known after (subst (λ (j : Known). AreAs j after) (sym m.2) are) in
    turned_back scope (GlobalGet x) known after (m.0.type ∷ b.0) b.0 b.1 b.2 (typed-global_get scope b.0 x m.0 m.1)
op-back scope (GlobalSet x) known k after e are =
    let m = then_some (λ h. after_set h known) (slice_get scope.outside.globals x) k e in
    let s = if_some m.0.mutable (popped m.0.type known) k m.2 in
    (m.0.type ∷ after, popped-back m.0.type known k after s.1 are, typed-global_set scope after x m.0 m.1 s.0)
op-back scope (o.Const c) known k after e are =
    let s = if_some (nat_lt (constant c) (values_of (type_of_constant c))) (Some (pushed (type_of_constant c) known)) k e in
    let b = pushed-back (type_of_constant c) known after (subst (λ (j : Known). AreAs j after) (sym (same_Some (pushed (type_of_constant c) known) k s.1)) are) in
    turned_back scope (o.Const c) known after (type_of_constant c ∷ b.0) b.0 b.1 b.2
    (typed-const scope b.0 c (ltb-true (constant c) (values_of (type_of_constant c)) s.0))
op-back scope (o.Unary t u) known k after e are =
    let b = one-back t t known k after e are in turned_back scope (o.Unary t u) known after (t ∷ b.0) (t ∷ b.0) b.1 b.2 (typed-unary scope b.0 t u)
op-back scope (o.Binary t b) known k after e are =
    let r = two-back t t known k after e are in turned_back scope (o.Binary t b) known after (t ∷ r.0) (t ∷ t ∷ r.0) r.1 r.2 (typed-binary scope r.0 t b)
op-back scope (o.Division t d) known k after e are =
    let r = two-back t t known k after e are in turned_back scope (o.Division t d) known after (t ∷ r.0) (t ∷ t ∷ r.0) r.1 r.2 (typed-division scope r.0 t d)
op-back scope (Eqz t) known k after e are =
    let b = one-back t I32 known k after e are in turned_back scope (Eqz t) known after (I32 ∷ b.0) (t ∷ b.0) b.1 b.2 (typed-eqz scope b.0 t)
op-back scope (o.Relation t r) known k after e are =
    let b = two-back t I32 known k after e are in turned_back scope (o.Relation t r) known after (I32 ∷ b.0) (t ∷ t ∷ b.0) b.1 b.2 (typed-relation scope b.0 t r)
op-back scope (Convert v) known k after e are =
    let b = one-back (converts_from v) (converts_to v) known k after e are in
    turned_back scope (Convert v) known after (converts_to v ∷ b.0) (converts_from v ∷ b.0) b.1 b.2 (typed-convert scope b.0 v)
op-back scope (o.Load l arg) known k after e are =
    let s = if_some (has_memory scope && nat_le (2 ^ arg.align) (load_width l)) (one_to_one I32 (type_of_load l) known) k e in
    let access = access_from scope arg.align (load_width l) s.0 in
    let b = one-back I32 (type_of_load l) known k after s.1 are in
    turned_back scope (o.Load l arg) known after (type_of_load l ∷ b.0) (I32 ∷ b.0) b.1 b.2 (typed-load scope b.0 l arg access.0 access.1)
op-back scope (o.Store st arg) known k after e are =
    let s = if_some (has_memory scope && nat_le (2 ^ arg.align) (store_width st)) (option_and_then (popped I32) (popped (type_of_store st) known)) k e in
    let access = access_from scope arg.align (store_width st) s.0 in
    let m = then_some (popped I32) (popped (type_of_store st) known) k s.1 in (
      type_of_store st ∷ I32 ∷ after,
      popped-back (type_of_store st) known m.0 (I32 ∷ after) m.1 (popped-back I32 m.0 k after m.2 are),
      typed-store scope after st arg access.0 access.1,
    )
op-back scope MemorySize known k after e are =
    let s = if_some (has_memory scope) (Some (pushed I32 known)) k e in
    let b = pushed-back I32 known after (subst (λ (j : Known). AreAs j after) (sym (same_Some (pushed I32 known) k s.1)) are) in
    turned_back scope MemorySize known after (I32 ∷ b.0) b.0 b.1 b.2 (typed-size scope b.0 (memory_from scope s.0))
op-back scope MemoryGrow known k after e are =
    let s = if_some (has_memory scope) (one_to_one I32 I32 known) k e in
    let b = one-back I32 I32 known k after s.1 are in
    turned_back scope MemoryGrow known after (I32 ∷ b.0) (I32 ∷ b.0) b.1 b.2 (typed-grow scope b.0 (memory_from scope s.0))
