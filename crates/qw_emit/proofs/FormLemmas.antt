-- The code of a statement calls only the host, and neither asks for the memory's size nor grows it; so the module around it nests calls one deep.
use Rattle.std.proofs.Common.{◌≡◌, ℕ, ◌==◌, if◌then◌else◌, All, Bool, true, false, List, [], ◌∷◌, sym, subst}
use Rattle.std.proofs.lemmas.List.Elements.{All-nil, All-cons, All-same}
use Rattle.qw_module.specs.declared.instruction.ValType.{ValType}
use Rattle.qw_module.specs.declared.instruction.Op.{Op}
use Rattle.qw_module.specs.declared.instruction.Op.TheVariants as o
use Rattle.qw_module.specs.declared.module.Function.{Function}
use Rattle.qw_module.specs.declared.module.Module.{Module}
use Rattle.qw_module.specs.Execution.{host_raise, host_pages, own}
use Rattle.qw_module.specs.Form.{CallsNestWithin, CallsOnly, IsNoGrowth, IsNoSize, NestIn, NeverAsksSize, NeverGrows, OperatorsAre}
use Rattle.qw_module.specs.Syntax.{Code, Sequences, done, op, unreachable, block, loop, if_then, if_else, br, br_if, br_table, return, call, code_of}
use Rattle.qw_module.specs.Validity.{IsShaped, code_of_body}
use Rattle.qw_map.specs.Behaving.{IsRunnable}
use Rattle.qw_low.specs.Syntax.{Expression, constant_of, local, unop, binop, divop, is_zero, relop, cvtop, advance, retreat, Statement, skip, seq, assign, load, store, conditional, while, request, raise, exit}
use Rattle.qw_low.specs.Translation.{expression_code, setting, statement_code, to_octets}
use Rattle.qw_emit.specs.Inner.Around.{IsAround}
use Rattle.qw_emit.proofs.Around.{Parts, parts_of, callees_are, imported_are, run_closure}
use Rattle.qw_emit.proofs.ModuleRuns.{only}

module _ (These : ℕ → Type 0) (zeroth : These 0) (next : These 1) where
  expression_calls : (e : Expression) (k : Code) → CallsOnly These k → CallsOnly These (expression_code e k)
  expression_calls (constant_of c) k h = h
  expression_calls (local x) k h = h
  expression_calls (unop t u e) k h = expression_calls e _ h
  expression_calls (binop t b l r) k h = expression_calls l _ (expression_calls r _ h)
  expression_calls (divop t d l r) k h = expression_calls l _ (expression_calls r _ h)
  expression_calls (is_zero t e) k h = expression_calls e _ h
  expression_calls (relop t r left right) k h = expression_calls left _ (expression_calls right _ h)
  expression_calls (cvtop c e) k h = expression_calls e _ h
  expression_calls (advance a n) k h = expression_calls a _ (expression_calls n _ h)
  expression_calls (retreat a n) k h = expression_calls a _ (expression_calls n _ h)

  setting_calls : (x : ℕ) (k : Code) → CallsOnly These k → CallsOnly These (setting x k)
  setting_calls x (op (o.LocalGet y) k) h = at (x == y)
    where
      at : (same : Bool) → CallsOnly These (if same then op (o.LocalTee x) k else op (o.LocalSet x) (op (o.LocalGet y) k))
      at true = h
      at false = h
  setting_calls x _ h = h

  pub statement_calls : (a : Statement) (k : Code) → CallsOnly These k → CallsOnly These (statement_code a k)
  statement_calls skip k h = h
  statement_calls (seq a b) k h = statement_calls a _ (statement_calls b k h)
  statement_calls (assign x e) k h = expression_calls e _ (setting_calls x k h)
  statement_calls (load x l offset a) k h = expression_calls a _ (setting_calls x k h)
  statement_calls (store st offset a e) k h = expression_calls a _ (expression_calls e _ h)
  statement_calls (conditional e a b) k h = expression_calls e _ (statement_calls a done tt, statement_calls b done tt, h)
  statement_calls (while e a) k h = expression_calls e _ ((statement_calls a _ (expression_calls e _ tt), tt), h)
  statement_calls (request e x) k h = expression_calls e _ (next, ((zeroth, tt), setting_calls x k h))
  statement_calls (raise code) k h = (zeroth, h)
  statement_calls exit k h = h

-- an operator neither asks for the memory's size nor grows it
abbrev Leaves : Op → Type 0
Leaves operator = IsNoSize operator × IsNoGrowth operator

expression_leaves : (e : Expression) (k : Code) → OperatorsAre Leaves k → OperatorsAre Leaves (expression_code e k)
expression_leaves (constant_of c) k h = ((tt, tt), h)
expression_leaves (local x) k h = ((tt, tt), h)
expression_leaves (unop t u e) k h = expression_leaves e _ ((tt, tt), h)
expression_leaves (binop t b l r) k h = expression_leaves l _ (expression_leaves r _ ((tt, tt), h))
expression_leaves (divop t d l r) k h = expression_leaves l _ (expression_leaves r _ ((tt, tt), h))
expression_leaves (is_zero t e) k h = expression_leaves e _ ((tt, tt), h)
expression_leaves (relop t r left right) k h = expression_leaves left _ (expression_leaves right _ ((tt, tt), h))
expression_leaves (cvtop c e) k h = expression_leaves e _ ((tt, tt), h)
expression_leaves (advance a n) k h = expression_leaves a _ (expression_leaves n _ ((tt, tt), h))
expression_leaves (retreat a n) k h = expression_leaves a _ (expression_leaves n _ ((tt, tt), h))

setting_leaves : (x : ℕ) (k : Code) → OperatorsAre Leaves k → OperatorsAre Leaves (setting x k)
setting_leaves x (op (o.LocalGet y) k) h = at (x == y)
  where
    at : (same : Bool) → OperatorsAre Leaves (if same then op (o.LocalTee x) k else op (o.LocalSet x) (op (o.LocalGet y) k))
    at true = h
    at false = ((tt, tt), h)
setting_leaves x _ h = ((tt, tt), h)

statement_leaves : (a : Statement) (k : Code) → OperatorsAre Leaves k → OperatorsAre Leaves (statement_code a k)
statement_leaves skip k h = h
statement_leaves (seq a b) k h = statement_leaves a _ (statement_leaves b k h)
statement_leaves (assign x e) k h = expression_leaves e _ (setting_leaves x k h)
statement_leaves (load x l offset a) k h = expression_leaves a _ ((tt, tt), setting_leaves x k h)
statement_leaves (store st offset a e) k h = expression_leaves a _ (expression_leaves e _ ((tt, tt), h))
statement_leaves (conditional e a b) k h = expression_leaves e _ (statement_leaves a done tt, statement_leaves b done tt, h)
statement_leaves (while e a) k h = expression_leaves e _ ((statement_leaves a _ (expression_leaves e _ tt), tt), h)
statement_leaves (request e x) k h =
    let product : OperatorsAre Leaves (to_octets x k) = ((tt, tt), ((tt, tt), ((tt, tt), setting_leaves x k h))) in
    expression_leaves e _ ((tt, tt), ((tt, tt), ((tt, tt), (((tt, tt), tt), product))))
statement_leaves (raise code) k h = ((tt, tt), h)
statement_leaves exit k h = h

-- what is less asked of operators holds of them too
weaker : (These Those : Op → Type 0) → ((operator : Op) → These operator → Those operator) → (code : Code) → OperatorsAre These code → OperatorsAre Those code
weaker These Those less done h = tt
weaker These Those less (op operator rest) h = (less operator h.0, weaker These Those less rest h.1)
weaker These Those less (unreachable rest) h = weaker These Those less rest h
weaker These Those less (block result inner rest) h = (weaker These Those less inner h.0, weaker These Those less rest h.1)
weaker These Those less (loop result inner rest) h = (weaker These Those less inner h.0, weaker These Those less rest h.1)
weaker These Those less (if_then result inner rest) h = (weaker These Those less inner h.0, weaker These Those less rest h.1)
weaker These Those less (if_else result inner other rest) h = (weaker These Those less inner h.0, weaker These Those less other h.1, weaker These Those less rest h.2)
weaker These Those less (br index rest) h = weaker These Those less rest h
weaker These Those less (br_if index rest) h = weaker These Those less rest h
weaker These Those less (br_table labels default rest) h = weaker These Those less rest h
weaker These Those less (return rest) h = weaker These Those less rest h
weaker These Those less (call index rest) h = weaker These Those less rest h

module _ (locals : List ValType) (sequences : Sequences) (a : Statement) (code_is : code_of sequences ≡ statement_code a done) (m : Module) (is : IsAround locals sequences m) where
  abbrev parts : Parts locals sequences m
  parts = parts_of locals sequences m is

  -- `run` calls only the host's functions
  run_nests : NestIn (host_raise ∷ host_pages ∷ own (run_closure locals sequences) ∷ []) 3 2
  run_nests = subst (CallsOnly (NestIn (host_raise ∷ host_pages ∷ own (run_closure locals sequences) ∷ []) 2)) (sym code_is) (statement_calls (NestIn (host_raise ∷ host_pages ∷ own (run_closure locals sequences) ∷ []) 2) tt tt a done tt)

  pub nests_around : IsRunnable m → CallsNestWithin m 3
  nests_around runnable =
      let number : ℕ = runnable.shaped.0 in
      let shape : IsShaped m number = runnable.shaped.1 in (
        number,
        shape,
        rw (callees_are locals sequences m is parts, imported_are locals sequences m is parts, (only locals sequences a code_is m is number shape).0) run_nests,
      )

  -- so it is of `run`'s code, and of all that the module has
  operators : (These : Op → Type 0) → ((operator : Op) → Leaves operator → These operator) → All (λ (function : Function). OperatorsAre These (code_of_body function.body)) m.functions.items
  operators These less =
      let of_statement : OperatorsAre These (code_of sequences) = subst (OperatorsAre These) (sym code_is) (weaker Leaves These less (statement_code a done) (statement_leaves a done tt)) in
      let body : OperatorsAre These (code_of_body parts.run.body) = subst (λ (s : Sequences). OperatorsAre These (code_of s)) (sym parts.sequences_are) of_statement in
      All-same (λ (function : Function). OperatorsAre These (code_of_body function.body)) _ _ parts.functions
      (All-cons (λ (function : Function). OperatorsAre These (code_of_body function.body)) parts.run [] body (All-nil (λ (function : Function). OperatorsAre These (code_of_body function.body))))

  pub asks_around : NeverAsksSize m
  asks_around = operators IsNoSize (λ operator leaves. leaves.0)

  pub grows_around : NeverGrows m
  grows_around = operators IsNoGrowth (λ operator leaves. leaves.1)
