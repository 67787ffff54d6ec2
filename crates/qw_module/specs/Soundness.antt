-- When a configuration is typed (WebAssembly Core Specification 1.0, appendix "Soundness"): its values are
-- of the types that its code takes, what awaits takes what its code leaves, and functions and globals are of their types.
use Rattle.std.specs.Prelude.{◌≡◌, ◌≢◌, ℕ, ◌<◌, List, [], ◌∷◌, ◌++◌, length, reverse}
use Rattle.qw_module.specs.declared.instruction.ValType.{ValType}
use Rattle.qw_module.specs.declared.instruction.ValType.TheVariants.{I32}
use Rattle.qw_module.specs.Numbers.{values_of}
use Rattle.qw_module.specs.Syntax.{Code, done}
use Rattle.qw_module.specs.Execution.{Closure, Callee, host_raise, host_pages, own, Store, Context, label, frame, Config, State, Running, Returned, Raised, Trapped}
use Rattle.qw_module.specs.Typing.{Signature, GlobalType, Outside, Scope, scope_of, Typed}
use Rattle.qw_module.specs.Validity.{function_scope}

-- the values are of these types, one for one
abbrev pub AreOf : List ℕ → List ValType → Type 0
AreOf [] [] = Unit {0}
AreOf (v ∷ values) (t ∷ types) = (v < values_of t) × AreOf values types
AreOf [] (t ∷ types) = ⊥
AreOf (v ∷ values) [] = ⊥

-- The type of the host's function `raise`: it takes one i32. An import is only ever linked to a function of its own type
-- (4.5.1; 4.5.2, "Import Matching"; 4.5.4).
abbrev pub raise_signature : Signature
raise_signature = record { params = I32 ∷ []; results = [] }

-- and of `pages`, which takes one and leaves one
abbrev pub pages_signature : Signature
pages_signature = record { params = I32 ∷ []; results = I32 ∷ [] }

-- A function of a module's own has a type: it takes and leaves as many operands, and its code is typed with some locals
-- after its parameters (3.4.1).
pub record IsClosureOf (outside : Outside) (function : Closure) (signature : Signature) : Type 0 where
  pub declared : List ValType
  pub params_are : function.params ≡ length signature.params
  pub declared_are : function.declared ≡ length declared
  pub results_are : function.results ≡ length signature.results
  pub typed : Typed (function_scope outside signature declared) function.body [] (reverse signature.results)

-- what is called is of a type
abbrev pub IsCalleeOf : Outside → Callee → Signature → Type 0
IsCalleeOf outside host_raise signature = signature ≡ raise_signature
IsCalleeOf outside host_pages signature = signature ≡ pages_signature
IsCalleeOf outside (own function) signature = IsClosureOf outside function signature

abbrev pub AreCalleesOf : Outside → List Callee → List Signature → Type 0
AreCalleesOf outside [] [] = Unit {0}
AreCalleesOf outside (callee ∷ callees) (signature ∷ signatures) = IsCalleeOf outside callee signature × AreCalleesOf outside callees signatures
AreCalleesOf outside [] (signature ∷ signatures) = ⊥
AreCalleesOf outside (callee ∷ callees) [] = ⊥

abbrev pub AreGlobalsOf : List ℕ → List GlobalType → Type 0
AreGlobalsOf [] [] = Unit {0}
AreGlobalsOf (v ∷ values) (g ∷ globals) = (v < values_of g.type) × AreGlobalsOf values globals
AreGlobalsOf [] (g ∷ globals) = ⊥
AreGlobalsOf (v ∷ values) [] = ⊥

-- functions and globals are of their types
pub record IsStoreOf (outside : Outside) (store : Store) : Type 0 where
  pub functions : AreCalleesOf outside store.functions outside.functions
  pub globals : AreGlobalsOf store.globals outside.globals

-- A label is typed: a branch finds the operands that it takes on those below, and so does the code after its
-- end, which the sequence that runs leaves with `ends`. Both lead to `next`.
pub record LabelTyped (outer : Scope) (taken ends next : List ValType) (target : Code) (arity : ℕ) (below : List ℕ) (after : Code) : Type 0 where
  pub below_types : List ValType
  pub arity_is : arity ≡ length taken
  pub below_are : AreOf below below_types
  pub target_typed : Typed outer target (taken ++ below_types) next
  pub after_typed : Typed outer after (ends ++ below_types) next

-- A frame is typed: the caller's code after the call takes the results on the operands below, and leads to `next`.
pub record FrameTyped (outer : Scope) (results next : List ValType) (locals : List ℕ) (arity : ℕ) (below : List ℕ) (after : Code) : Type 0 where
  pub below_types : List ValType
  pub arity_is : arity ≡ length results
  pub locals_are : AreOf locals outer.locals
  pub below_are : AreOf below below_types
  pub after_typed : Typed outer after (results ++ below_types) next

-- What awaits a sequence in a scope that leaves operands of the types `ends`: its labels are those of the scope, and the
-- function's outermost code leaves its results.
abbrev pub Awaits : List Context → Scope → (ends : List ValType) → Type 0
Awaits [] scope ends = (scope.labels ≡ []) × (ends ≡ scope.results)
Awaits (label target arity below after ∷ contexts) scope ends =
    (taken : List ValType) × (outer : List (List ValType)) × (next : List ValType) × (scope.labels ≡ taken ∷ outer)
    × LabelTyped (scope_of scope.outside scope.locals scope.results outer) taken ends next target arity below after
    × Awaits contexts (scope_of scope.outside scope.locals scope.results outer) next
Awaits (frame locals arity below after ∷ contexts) scope ends =
    (outer : Scope) × (next : List ValType) × (scope.labels ≡ []) × (ends ≡ scope.results) × (outer.outside ≡ scope.outside)
    × FrameTyped outer scope.results next locals arity below after × Awaits contexts outer next

-- A configuration is typed. It has an instruction left, since a finished sequence is left by the step before.
pub record IsTyped (c : Config) : Type 0 where
  pub unfinished : c.code ≢ done
  pub scope : Scope
  pub before : List ValType
  pub ends : List ValType
  pub store_is : IsStoreOf scope.outside c.store
  pub locals_are : AreOf c.locals scope.locals
  pub operands_are : AreOf c.operands before
  pub code_typed : Typed scope c.code before ends
  pub awaits : Awaits c.contexts scope ends

-- a state is typed where its configuration is
abbrev pub IsTypedState : State → Type 0
IsTypedState (Running c) = IsTyped c
IsTypedState Returned = Unit {0}
IsTypedState (Raised k) = Unit {0}
IsTypedState (Trapped why) = Unit {0}
