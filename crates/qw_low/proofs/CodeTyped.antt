-- The code of typed Low is typed, by the standard's rules.
use Rattle.std.proofs.Common.{◌≡◌, ℕ, ◌<◌, ◌≤◌, ◌^◌, ◌==◌, if◌then◌else◌, Bool, true, false, List, [], ◌∷◌, ◌++◌, Some, None, slice_get, refl, ap, ◌∙◌, subst, arith}
use Rattle.std.proofs.lemmas.Bool.{eqb-true}
use Rattle.qw_module.specs.declared.instruction.ValType.{ValType}
use Rattle.qw_module.specs.declared.instruction.ValType.TheVariants.{I32, I64}
use Rattle.qw_module.specs.declared.instruction.Op.{Op}
use Rattle.qw_module.specs.declared.instruction.Load.{Load}
use Rattle.qw_module.specs.declared.instruction.Load.TheVariants as loads
use Rattle.qw_module.specs.declared.instruction.Store as instruction
use Rattle.qw_module.specs.declared.instruction.Store.TheVariants as stores
use Rattle.qw_module.specs.declared.instruction.Op.TheVariants as o
use Rattle.qw_module.specs.Numbers.{load_width, store_width}
use Rattle.qw_module.specs.Syntax.{Code, done, op, br_if, return}
use Rattle.qw_module.specs.Typing.{Scope, within, OpTyped, typed-local_get, typed-local_set, typed-local_tee, typed-const, typed-unary, typed-binary, typed-division, typed-eqz, typed-relation, typed-convert, typed-load, typed-store, Typed, typed-done, typed-op, typed-loop, typed-if_then, typed-if_else, typed-br_if, typed-return, typed-call}
use Rattle.qw_module.specs.Soundness.{raise_signature, pages_signature}
use Rattle.qw_module.proofs.TypedParts.{op_parts, parts}
use Rattle.qw_low.specs.Syntax.{Expression, constant_of, local, unop, binop, divop, is_zero, relop, cvtop, advance, retreat, Statement, skip, seq, assign, load, store, conditional, while, request, raise, exit}
use Rattle.qw_low.specs.Translation.{expression_code, statement_code, raising, setting}
use Rattle.qw_low.specs.Typing.{HasType, IsTyped, HostsLow}

next : {scope : Scope} {o : Op} {rest : Code} {before middle after : List ValType} → OpTyped scope o before middle → Typed scope rest middle after → Typed scope (op o rest) before after
next one more = typed-op _ _ _ _ _ _ one more

one_load : (l : Load) → 2 ^ 0 ≤ load_width l
one_load (loads.Full I32) = omega arith
one_load (loads.Full I64) = omega arith
one_load (loads.From8 type sign) = omega arith
one_load (loads.From16 type sign) = omega arith
one_load (loads.I64From32 sign) = omega arith

one_store : (s : instruction.Store) → 2 ^ 0 ≤ store_width s
one_store (stores.Full I32) = omega arith
one_store (stores.Full I64) = omega arith
one_store (stores.To8 type) = omega arith
one_store (stores.To16 type) = omega arith
one_store stores.I64To32 = omega arith

-- what follows, over the type that an expression has
over : (scope : Scope) (k : Code) (t u : ValType) (types after : List ValType) → t ≡ u → Typed scope k (t ∷ types) after → Typed scope k (u ∷ types) after
over scope k t u types after same rest = subst (λ (x : ValType). Typed scope k (x ∷ types) after) same rest

pub expression_typed : (scope : Scope) (e : Expression) (t : ValType) (k : Code) (types after : List ValType) → HasType scope.locals e t → Typed scope k (t ∷ types) after → Typed scope (expression_code e k) types after
expression_typed scope (constant_of c) t k types after has rest = next (typed-const _ _ c has.0) (over scope k _ _ types after has.1 rest)
expression_typed scope (local x) t k types after has rest = next (typed-local_get _ _ x t has) rest
expression_typed scope (unop t u e) type k types after has rest = expression_typed scope e _ _ types after has.0 (next (typed-unary _ types t u) (over scope k _ _ types after has.1 rest))
expression_typed scope (binop t b l r) type k types after has rest =
    expression_typed scope l _ _ types after has.0 (expression_typed scope r _ _ _ after has.1 (next (typed-binary _ types t b) (over scope k _ _ types after has.2 rest)))
expression_typed scope (divop t d l r) type k types after has rest =
    expression_typed scope l _ _ types after has.0 (expression_typed scope r _ _ _ after has.1 (next (typed-division _ types t d) (over scope k _ _ types after has.2 rest)))
expression_typed scope (is_zero t e) type k types after has rest = expression_typed scope e _ _ types after has.0 (next (typed-eqz _ types t) (over scope k _ _ types after has.1 rest))
expression_typed scope (relop t r left right) type k types after has rest =
    expression_typed scope left _ _ types after has.0 (expression_typed scope right _ _ _ after has.1 (next (typed-relation _ types t r) (over scope k _ _ types after has.2 rest)))
expression_typed scope (cvtop c e) type k types after has rest = expression_typed scope e _ _ types after has.0 (next (typed-convert _ types c) (over scope k _ _ types after has.1 rest))
expression_typed scope (advance a n) type k types after has rest =
    expression_typed scope a _ _ types after has.0 (expression_typed scope n _ _ _ after has.1 (next (typed-binary _ types _ _) (over scope k _ _ types after has.2 rest)))
expression_typed scope (retreat a n) type k types after has rest =
    expression_typed scope a _ _ types after has.0 (expression_typed scope n _ _ _ after has.1 (next (typed-binary _ types _ _) (over scope k _ _ types after has.2 rest)))

hosts-within : (scope : Scope) (types : List ValType) → HostsLow scope → HostsLow (within scope types)
hosts-within scope types hosts = record { raise_is = hosts.raise_is; pages_is = hosts.pages_is; memory = hosts.memory; results = hosts.results }

raising_typed : (scope : Scope) (code : ℕ) (k : Code) → HostsLow scope → code < 2 ^ 32 → Typed scope k [] [] → Typed scope (raising code k) [] []
raising_typed scope code k hosts small rest = next (typed-const _ _ _ small) (typed-call _ 0 raise_signature _ [] _ hosts.raise_is rest)

-- a `local.tee` has the types of the `local.set` and the `local.get` that it is
setting_typed : (scope : Scope) (x : ℕ) (t : ValType) (k : Code) → slice_get scope.locals x ≡ Some t → Typed scope k [] [] → Typed scope (setting x k) (t ∷ []) []
setting_typed scope x t (op (o.LocalGet y) k) has rest = at (x == y) refl
  where
    -- the `local.get` puts the type of y before what follows, which is that of x
    got : x ≡ y → Typed scope k (t ∷ []) []
    got same =
        let first = parts scope (op (o.LocalGet y) k) [] [] rest in
        let put = op_parts scope (o.LocalGet y) [] first.0 first.1 in
        let found : slice_get scope.locals y ≡ Some t = subst (λ (z : ℕ). slice_get scope.locals z ≡ Some t) same has in
        let type : put.0 ≡ t = cc (put.1, found) in
        subst (λ (types : List ValType). Typed scope k types []) (put.2 ∙ ap (λ (u : ValType). u ∷ []) type) first.2

    at : (is : Bool) → (x == y) ≡ is → Typed scope (if is then op (o.LocalTee x) k else op (o.LocalSet x) (op (o.LocalGet y) k)) (t ∷ []) []
    at true same = next (typed-local_tee _ _ x t has) (got (eqb-true x y same))
    at false same = next (typed-local_set _ _ x t has) rest
setting_typed scope x t k has rest = next (typed-local_set _ _ x t has) rest

pub statement_typed : (scope : Scope) (s : Statement) (k : Code) → HostsLow scope → IsTyped scope.locals s → Typed scope k [] [] → Typed scope (statement_code s k) [] []
statement_typed scope skip k hosts is rest = rest
statement_typed scope (seq a b) k hosts is rest = statement_typed scope a (statement_code b k) hosts is.0 (statement_typed scope b k hosts is.1 rest)
statement_typed scope (assign x e) k hosts is rest = expression_typed scope e is.0 _ [] [] is.2 (setting_typed scope x is.0 k is.1 rest)
statement_typed scope (load x l offset at) k hosts is rest =
    expression_typed scope at I32 _ [] [] is.1 (next (typed-load _ _ l _ hosts.memory (one_load l)) (setting_typed scope x _ k is.0 rest))
statement_typed scope (store st offset at it) k hosts is rest =
    expression_typed scope at I32 _ [] [] is.0 (expression_typed scope it _ _ _ [] is.1 (next (typed-store _ _ st _ hosts.memory (one_store st)) rest))
statement_typed scope (conditional e a b) k hosts is rest =
    expression_typed scope e I32 _ [] [] is.0 (typed-if_else _ None _ _ _ [] _
    (statement_typed (within scope []) a done (hosts-within scope [] hosts) is.1 (typed-done _ _)) (statement_typed (within scope []) b done (hosts-within scope [] hosts) is.2 (typed-done _ _)) rest)
statement_typed scope (while e a) k hosts is rest =
    expression_typed scope e I32 _ [] [] is.0 (typed-if_then _ _ _ [] _
    (typed-loop _ None _ _ [] _
    (statement_typed (within (within scope []) []) a (expression_code e (br_if 0 done)) (hosts-within (within scope []) [] (hosts-within scope [] hosts)) is.1
    (expression_typed (within (within scope []) []) e I32 _ [] [] is.0 (typed-br_if _ 0 _ [] [] [] refl (typed-done _ _)))) (typed-done _ _))
    rest)
statement_typed scope (raise code) k hosts is rest = raising_typed scope code k hosts is rest
statement_typed scope (request e x) k hosts is rest =
    expression_typed scope e I32 _ [] [] is.0 (typed-call _ 1 pages_signature _ [] _ hosts.pages_is (next (typed-local_tee _ _ x I32 is.1) (next (typed-const _ _ _ (omega arith)) (next (typed-relation _ _ _ _)
    (typed-if_then _ _ _ [] _ (raising_typed (within scope []) 3 done (hosts-within scope [] hosts) (omega arith) (typed-done _ _))
    (next (typed-local_get _ _ x I32 is.1) (next (typed-const _ _ _ (omega arith)) (next (typed-binary _ _ _ _) (setting_typed scope x I32 k is.1 rest)))))))))
statement_typed scope exit k hosts is rest = subst (λ (results : List ValType). Typed scope (return k) (results ++ []) []) hosts.results (typed-return scope k [] [] [] rest)
