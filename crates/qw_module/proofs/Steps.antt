-- The rules of `Execution` and the step of `Step` say the same, in both directions.
use Rattle.std.proofs.Common.{◌≡◌, ◌≢◌, ℕ, zero, suc, ◌+◌, nat_lt, nat_le, Bool, true, ◌&&◌, List, [], ◌∷◌, length, Option, Some, None, is_some, Result, Ok, Err, slice_get, refl, sym, ap, ◌∙◌, subst, ⊎_elim, arith}
use Rattle.std.proofs.lemmas.Bool.{lt-ltb, le-leb, lt-leb, ltb-true, leb-true, leb-false, cases_Bool, and_parts}
use Rattle.std.proofs.lemmas.Option.{same_Some, none-some}
use Rattle.qw_module.specs.declared.instruction.Op.{Op}
use Rattle.qw_module.specs.declared.instruction.Op.TheVariants.{Nop, Drop, Select, LocalGet, LocalSet, LocalTee, GlobalGet, GlobalSet, Eqz, Convert, MemorySize, MemoryGrow}
use Rattle.qw_module.specs.declared.instruction.Op.TheVariants as o
use Rattle.qw_module.specs.declared.instruction.ValType.{ValType}
use Rattle.qw_module.specs.declared.instruction.Unary.{Unary}
use Rattle.qw_module.specs.declared.instruction.Binary.{Binary}
use Rattle.qw_module.specs.declared.instruction.Division.{Division}
use Rattle.qw_module.specs.declared.instruction.Relation.{Relation}
use Rattle.qw_module.specs.declared.instruction.Conversion.{Conversion}
use Rattle.qw_module.specs.declared.instruction.Load.{Load}
use Rattle.qw_module.specs.declared.instruction.Store as instruction
use Rattle.qw_module.specs.declared.instruction.MemArg.{MemArg}
use Rattle.qw_module.specs.declared.trap.Trap.{Trap}
use Rattle.qw_module.specs.Syntax.{Code, done, op, unreachable, block, loop, if_then, if_else, br, br_if, br_table, return, call}
use Rattle.qw_module.specs.Numbers.{division, load_width, store_width}
use Rattle.qw_linear.specs.Memory.{most_pages, pages_of}
use Rattle.qw_module.specs.Execution.{Callee, host_raise, host_pages, own, Config, State, Event, Silent, Loads, Stores, Grows, AsksHost, Raises, Traps, arity_of, branched, left, goes_on, enters, chosen, effective, Step, nop, unreachable_traps, drop_operand, select, local_get, local_set, local_tee, global_get, global_set, const, unop, binop, divide, divide_traps, testop, relop, cvtop, load, load_outside, store, store_outside, memory_size, grow_granted, grow_refused, enter_block, enter_loop, if_true, if_false, then_true, then_false, branch, branch_taken, branch_passed, branch_chosen, leave, raise, ask_granted, ask_refused, invoke}
use Rattle.qw_module.proofs.Outcomes.{placed-true, place-can}
use Rattle.qw_module.specs.Step.{Want, Goes, pushes_if_some, leaves_or_fails, op_wants, then_wants, goes_if_some, by_operand, with_operand, call_wants, code_wants, Next, can_place, answered, next, Agrees, AnswerAlike}

-- an operand that isn't 0 chooses the first
pub by_operand-other : (n : ℕ) (operands : List ℕ) (other zeroth : List ℕ → Want) → n ≢ 0 → by_operand (n ∷ operands) other zeroth ≡ other operands
by_operand-other zero operands other zeroth nonzero = absurd (nonzero refl)
by_operand-other (suc n) operands other zeroth nonzero = refl

-- the configuration makes this step
abbrev Makes : Config → List ℕ → Next → Type 0
Makes c m n = Step c m n.event n.state n.memory

makes : (c : Config) (m : List ℕ) (made n : Next) → Makes c m made → Some made ≡ Some n → Makes c m n
makes c m made n step e = subst (λ (x : Next). Makes c m x) (same_Some made n e) step

stuck : (n : Next) {A : Type 0} → None ≡ Some n → A
stuck n e = absurd (none-some n e)

module _ (grants : ℕ → Bool) (place : ℕ → ℕ) where
  -- each rule is what the step computes
  pub next-rule : (c : Config) (m : List ℕ) (e : Event) (s : State) (m2 : List ℕ) → Step c m e s m2 →
      Agrees grants place e → next grants place c m ≡ Some (record { event = e; state = s; memory = m2 })
  next-rule _ _ _ _ _ (nop c m rest code) agrees = rw code refl
  next-rule _ _ _ _ _ (unreachable_traps c m rest code) agrees = rw code refl
  next-rule _ _ _ _ _ (drop_operand c m v operands rest code popped) agrees = rw (code, popped) refl
  next-rule _ _ _ _ _ (select c m n y x operands rest code popped) agrees = rw (code, popped) refl
  next-rule _ _ _ _ _ (local_get c m x v rest code found) agrees = rw (code, found) refl
  next-rule _ _ _ _ _ (local_set c m x v operands rest code popped room) agrees = rw (code, popped, lt-ltb x (length c.locals) room) refl
  next-rule _ _ _ _ _ (local_tee c m x v operands rest code popped room) agrees = rw (code, popped, lt-ltb x (length c.locals) room) refl
  next-rule _ _ _ _ _ (global_get c m x v rest code found) agrees = rw (code, found) refl
  next-rule _ _ _ _ _ (global_set c m x v operands rest code popped room) agrees = rw (code, popped, lt-ltb x (length c.store.globals) room) refl
  next-rule _ _ _ _ _ (const c m n rest code) agrees = rw code refl
  next-rule _ _ _ _ _ (unop c m t u x operands rest code popped) agrees = rw (code, popped) refl
  next-rule _ _ _ _ _ (binop c m t b y x operands rest code popped) agrees = rw (code, popped) refl
  next-rule _ _ _ _ _ (divide c m t d y x v operands rest code popped quotient) agrees = rw (code, popped, quotient) refl
  next-rule _ _ _ _ _ (divide_traps c m t d y x why operands rest code popped none) agrees = rw (code, popped, none) refl
  next-rule _ _ _ _ _ (testop c m t x operands rest code popped) agrees = rw (code, popped) refl
  next-rule _ _ _ _ _ (relop c m t r y x operands rest code popped) agrees = rw (code, popped) refl
  next-rule _ _ _ _ _ (cvtop c m v x operands rest code popped) agrees = rw (code, popped) refl
  next-rule _ _ _ _ _ (load c m l arg address operands rest code popped room) agrees = rw (code, popped, le-leb (effective address arg + load_width l) (length m) room) refl
  next-rule _ _ _ _ _ (load_outside c m l arg address operands rest code popped outside) agrees = rw (code, popped, lt-leb (effective address arg + load_width l) (length m) outside) refl
  next-rule _ _ _ _ _ (store c m st arg address v operands rest code popped room) agrees = rw (code, popped, le-leb (effective address arg + store_width st) (length m) room) refl
  next-rule _ _ _ _ _ (store_outside c m st arg address v operands rest code popped outside) agrees = rw (code, popped, lt-leb (effective address arg + store_width st) (length m) outside) refl
  next-rule _ _ _ _ _ (memory_size c m rest code) agrees = rw code refl
  next-rule _ _ _ _ _ (grow_granted c m pages operands rest code popped room) agrees =
      rw (code, popped, agrees, le-leb (pages_of m + pages) most_pages room) refl
  next-rule _ _ _ _ _ (grow_refused c m pages operands rest code popped) agrees = rw (code, popped, agrees) refl
  next-rule _ _ _ _ _ (enter_block c m result inner rest code) agrees = rw code refl
  next-rule _ _ _ _ _ (enter_loop c m result inner rest code) agrees = rw code refl
  next-rule _ _ _ _ _ (if_true c m result inner other rest n operands code popped nonzero) agrees = rw (
    code,
    popped,
    by_operand-other n operands (λ left. Goes (enters c rest (arity_of result) inner left rest)) (λ left. Goes (enters c rest (arity_of result) other left rest)) nonzero,
  ) refl
  next-rule _ _ _ _ _ (if_false c m result inner other rest operands code popped) agrees = rw (code, popped) refl
  next-rule _ _ _ _ _ (then_true c m result inner rest n operands code popped nonzero) agrees = rw (
    code,
    popped,
    by_operand-other n operands (λ left. Goes (enters c rest (arity_of result) inner left rest)) (λ left. Goes (enters c rest (arity_of result) done left rest)) nonzero,
  ) refl
  next-rule _ _ _ _ _ (then_false c m result inner rest operands code popped) agrees = rw (code, popped) refl
  next-rule _ _ _ _ _ (branch c m index rest s code there) agrees = rw (code, there) refl
  next-rule _ _ _ _ _ (branch_taken c m index n rest operands s code popped nonzero there) agrees = rw (
    code,
    popped,
    by_operand-other n operands (λ left. goes_if_some (branched c.store index c.contexts left c.locals)) (λ left. Goes (goes_on c rest left c.locals)) nonzero,
    there,
  ) refl
  next-rule _ _ _ _ _ (branch_passed c m index rest operands code popped) agrees = rw (code, popped) refl
  next-rule _ _ _ _ _ (branch_chosen c m labels default n rest operands s code popped there) agrees = rw (code, popped, there) refl
  next-rule _ _ _ _ _ (leave c m rest s code there) agrees = rw (code, there) refl
  next-rule _ _ _ _ _ (raise c m index number operands rest code found popped) agrees = rw (code, found, popped) refl
  next-rule _ _ _ _ _ (ask_granted c m index pages first operands rest code found popped there) agrees =
      rw (code, found, popped, agrees.0, agrees.1, place-can first pages m there) refl
  next-rule _ _ _ _ _ (ask_refused c m index pages operands rest code found popped) agrees = rw (code, found, popped, agrees) refl
  next-rule _ _ _ _ _ (invoke c m index function rest code found enough) agrees = rw (code, found, le-leb function.params (length c.operands) enough) refl

  -- what an operator makes that takes operands: a case for each number of them that there are
  from_drop : (c : Config) (m : List ℕ) (n : Next) (rest : Code) (operands : List ℕ) → c.code ≡ op Drop rest →
      c.operands ≡ operands → answered grants place m (then_wants (op_wants Drop c.store.globals operands c.locals) c rest) ≡ Some n → Makes c m n
  from_drop c m n rest [] code popped h = stuck n h
  from_drop c m n rest (v ∷ operands) code popped h = makes c m _ n (drop_operand c m v operands rest code popped) h

  from_select : (c : Config) (m : List ℕ) (n : Next) (rest : Code) (operands : List ℕ) → c.code ≡ op Select rest →
      c.operands ≡ operands → answered grants place m (then_wants (op_wants Select c.store.globals operands c.locals) c rest) ≡ Some n → Makes c m n
  from_select c m n rest [] code popped h = stuck n h
  from_select c m n rest (k ∷ []) code popped h = stuck n h
  from_select c m n rest (k ∷ y ∷ []) code popped h = stuck n h
  from_select c m n rest (k ∷ y ∷ x ∷ operands) code popped h = makes c m _ n (select c m k y x operands rest code popped) h

  from_get : (c : Config) (m : List ℕ) (n : Next) (x : ℕ) (rest : Code) (found : Option ℕ) → c.code ≡ op (LocalGet x) rest →
      slice_get c.locals x ≡ found → answered grants place m (then_wants (pushes_if_some found c.operands c.locals) c rest) ≡ Some n → Makes c m n
  from_get c m n x rest None code found h = stuck n h
  from_get c m n x rest (Some v) code found h = makes c m _ n (local_get c m x v rest code found) h

  from_set : (c : Config) (m : List ℕ) (n : Next) (x : ℕ) (rest : Code) (operands : List ℕ) → c.code ≡ op (LocalSet x) rest →
      c.operands ≡ operands → answered grants place m (then_wants (op_wants (LocalSet x) c.store.globals operands c.locals) c rest) ≡ Some n → Makes c m n
  from_set c m n x rest [] code popped h = stuck n h
  from_set c m n x rest (v ∷ operands) code popped h = ⊎_elim
      (λ is. makes c m _ n (local_set c m x v operands rest code popped (ltb-true x (length c.locals) is)) (rw is at h))
      (λ is_not. stuck n (rw is_not at h))
      (cases_Bool (nat_lt x (length c.locals)))

  from_tee : (c : Config) (m : List ℕ) (n : Next) (x : ℕ) (rest : Code) (operands : List ℕ) → c.code ≡ op (LocalTee x) rest →
      c.operands ≡ operands → answered grants place m (then_wants (op_wants (LocalTee x) c.store.globals operands c.locals) c rest) ≡ Some n → Makes c m n
  from_tee c m n x rest [] code popped h = stuck n h
  from_tee c m n x rest (v ∷ operands) code popped h = ⊎_elim
      (λ is. makes c m _ n (local_tee c m x v operands rest code popped (ltb-true x (length c.locals) is)) (rw (is, ← popped) at h))
      (λ is_not. stuck n (rw is_not at h))
      (cases_Bool (nat_lt x (length c.locals)))

  from_global_get : (c : Config) (m : List ℕ) (n : Next) (x : ℕ) (rest : Code) (found : Option ℕ) → c.code ≡ op (GlobalGet x) rest →
      slice_get c.store.globals x ≡ found → answered grants place m (then_wants (pushes_if_some found c.operands c.locals) c rest) ≡ Some n → Makes c m n
  from_global_get c m n x rest None code found h = stuck n h
  from_global_get c m n x rest (Some v) code found h = makes c m _ n (global_get c m x v rest code found) h

  from_global_set : (c : Config) (m : List ℕ) (n : Next) (x : ℕ) (rest : Code) (operands : List ℕ) → c.code ≡ op (GlobalSet x) rest →
      c.operands ≡ operands → answered grants place m (then_wants (op_wants (GlobalSet x) c.store.globals operands c.locals) c rest) ≡ Some n → Makes c m n
  from_global_set c m n x rest [] code popped h = stuck n h
  from_global_set c m n x rest (v ∷ operands) code popped h = ⊎_elim
      (λ is. makes c m _ n (global_set c m x v operands rest code popped (ltb-true x (length c.store.globals) is)) (rw is at h))
      (λ is_not. stuck n (rw is_not at h))
      (cases_Bool (nat_lt x (length c.store.globals)))

  from_unary : (c : Config) (m : List ℕ) (n : Next) (t : ValType) (u : Unary) (rest : Code) (operands : List ℕ) → c.code ≡ op (o.Unary t u) rest →
      c.operands ≡ operands → answered grants place m (then_wants (op_wants (o.Unary t u) c.store.globals operands c.locals) c rest) ≡ Some n → Makes c m n
  from_unary c m n t u rest [] code popped h = stuck n h
  from_unary c m n t u rest (x ∷ operands) code popped h = makes c m _ n (unop c m t u x operands rest code popped) h

  from_binary : (c : Config) (m : List ℕ) (n : Next) (t : ValType) (b : Binary) (rest : Code) (operands : List ℕ) → c.code ≡ op (o.Binary t b) rest →
      c.operands ≡ operands → answered grants place m (then_wants (op_wants (o.Binary t b) c.store.globals operands c.locals) c rest) ≡ Some n → Makes c m n
  from_binary c m n t b rest [] code popped h = stuck n h
  from_binary c m n t b rest (y ∷ []) code popped h = stuck n h
  from_binary c m n t b rest (y ∷ x ∷ operands) code popped h = makes c m _ n (binop c m t b y x operands rest code popped) h

  from_quotient : (c : Config) (m : List ℕ) (n : Next) (t : ValType) (d : Division) (y x : ℕ) (rest : Code) (operands : List ℕ) (found : Result ℕ Trap) → c.code ≡ op (o.Division t d) rest →
      c.operands ≡ y ∷ x ∷ operands → division t d x y ≡ found → answered grants place m (then_wants (leaves_or_fails found operands c.locals) c rest) ≡ Some n → Makes c m n
  from_quotient c m n t d y x rest operands (Ok v) code popped found h = makes c m _ n (divide c m t d y x v operands rest code popped found) h
  from_quotient c m n t d y x rest operands (Err why) code popped found h = makes c m _ n (divide_traps c m t d y x why operands rest code popped found) h

  from_division : (c : Config) (m : List ℕ) (n : Next) (t : ValType) (d : Division) (rest : Code) (operands : List ℕ) → c.code ≡ op (o.Division t d) rest →
      c.operands ≡ operands → answered grants place m (then_wants (op_wants (o.Division t d) c.store.globals operands c.locals) c rest) ≡ Some n → Makes c m n
  from_division c m n t d rest [] code popped h = stuck n h
  from_division c m n t d rest (y ∷ []) code popped h = stuck n h
  from_division c m n t d rest (y ∷ x ∷ operands) code popped h = from_quotient c m n t d y x rest operands (division t d x y) code popped refl h

  from_eqz : (c : Config) (m : List ℕ) (n : Next) (t : ValType) (rest : Code) (operands : List ℕ) → c.code ≡ op (Eqz t) rest →
      c.operands ≡ operands → answered grants place m (then_wants (op_wants (Eqz t) c.store.globals operands c.locals) c rest) ≡ Some n → Makes c m n
  from_eqz c m n t rest [] code popped h = stuck n h
  from_eqz c m n t rest (x ∷ operands) code popped h = makes c m _ n (testop c m t x operands rest code popped) h

  from_relation : (c : Config) (m : List ℕ) (n : Next) (t : ValType) (r : Relation) (rest : Code) (operands : List ℕ) → c.code ≡ op (o.Relation t r) rest →
      c.operands ≡ operands → answered grants place m (then_wants (op_wants (o.Relation t r) c.store.globals operands c.locals) c rest) ≡ Some n → Makes c m n
  from_relation c m n t r rest [] code popped h = stuck n h
  from_relation c m n t r rest (y ∷ []) code popped h = stuck n h
  from_relation c m n t r rest (y ∷ x ∷ operands) code popped h = makes c m _ n (relop c m t r y x operands rest code popped) h

  from_convert : (c : Config) (m : List ℕ) (n : Next) (v : Conversion) (rest : Code) (operands : List ℕ) → c.code ≡ op (Convert v) rest →
      c.operands ≡ operands → answered grants place m (then_wants (op_wants (Convert v) c.store.globals operands c.locals) c rest) ≡ Some n → Makes c m n
  from_convert c m n v rest [] code popped h = stuck n h
  from_convert c m n v rest (x ∷ operands) code popped h = makes c m _ n (cvtop c m v x operands rest code popped) h

  from_load : (c : Config) (m : List ℕ) (n : Next) (l : Load) (arg : MemArg) (rest : Code) (operands : List ℕ) → c.code ≡ op (o.Load l arg) rest →
      c.operands ≡ operands → answered grants place m (then_wants (op_wants (o.Load l arg) c.store.globals operands c.locals) c rest) ≡ Some n → Makes c m n
  from_load c m n l arg rest [] code popped h = stuck n h
  from_load c m n l arg rest (address ∷ operands) code popped h = ⊎_elim
      (λ is. makes c m _ n (load c m l arg address operands rest code popped (leb-true (effective address arg + load_width l) (length m) is)) (rw is at h))
      (λ is_not. makes c m _ n (load_outside c m l arg address operands rest code popped (leb-false (effective address arg + load_width l) (length m) is_not)) (rw is_not at h))
      (cases_Bool (nat_le (effective address arg + load_width l) (length m)))

  from_store : (c : Config) (m : List ℕ) (n : Next) (st : instruction.Store) (arg : MemArg) (rest : Code) (operands : List ℕ) → c.code ≡ op (o.Store st arg) rest →
      c.operands ≡ operands → answered grants place m (then_wants (op_wants (o.Store st arg) c.store.globals operands c.locals) c rest) ≡ Some n → Makes c m n
  from_store c m n st arg rest [] code popped h = stuck n h
  from_store c m n st arg rest (v ∷ []) code popped h = stuck n h
  from_store c m n st arg rest (v ∷ address ∷ operands) code popped h = ⊎_elim
      (λ is. makes c m _ n (store c m st arg address v operands rest code popped (leb-true (effective address arg + store_width st) (length m) is)) (rw is at h))
      (λ is_not. makes c m _ n (store_outside c m st arg address v operands rest code popped (leb-false (effective address arg + store_width st) (length m) is_not)) (rw is_not at h))
      (cases_Bool (nat_le (effective address arg + store_width st) (length m)))

  from_grow : (c : Config) (m : List ℕ) (n : Next) (rest : Code) (operands : List ℕ) → c.code ≡ op MemoryGrow rest →
      c.operands ≡ operands → answered grants place m (then_wants (op_wants MemoryGrow c.store.globals operands c.locals) c rest) ≡ Some n → Makes c m n
  from_grow c m n rest [] code popped h = stuck n h
  from_grow c m n rest (pages ∷ operands) code popped h = ⊎_elim
      (λ is.
      let room = leb-true (pages_of m + pages) most_pages (and_parts (grants pages) (nat_le (pages_of m + pages) most_pages) is).1 in
      makes c m _ n (grow_granted c m pages operands rest code popped room) (rw is at h))
      (λ is_not. makes c m _ n (grow_refused c m pages operands rest code popped) (rw is_not at h))
      (cases_Bool (grants pages && nat_le (pages_of m + pages) most_pages))

  from_op : (c : Config) (m : List ℕ) (n : Next) (operator : Op) (rest : Code) → c.code ≡ op operator rest →
      answered grants place m (then_wants (op_wants operator c.store.globals c.operands c.locals) c rest) ≡ Some n → Makes c m n
  from_op c m n Nop rest code h = makes c m _ n (nop c m rest code) h
  from_op c m n Drop rest code h = from_drop c m n rest c.operands code refl h
  from_op c m n Select rest code h = from_select c m n rest c.operands code refl h
  from_op c m n (LocalGet x) rest code h = from_get c m n x rest (slice_get c.locals x) code refl h
  from_op c m n (LocalSet x) rest code h = from_set c m n x rest c.operands code refl h
  from_op c m n (LocalTee x) rest code h = from_tee c m n x rest c.operands code refl h
  from_op c m n (GlobalGet x) rest code h = from_global_get c m n x rest (slice_get c.store.globals x) code refl h
  from_op c m n (GlobalSet x) rest code h = from_global_set c m n x rest c.operands code refl h
  from_op c m n (o.Const k) rest code h = makes c m _ n (const c m k rest code) h
  from_op c m n (o.Unary t u) rest code h = from_unary c m n t u rest c.operands code refl h
  from_op c m n (o.Binary t b) rest code h = from_binary c m n t b rest c.operands code refl h
  from_op c m n (o.Division t d) rest code h = from_division c m n t d rest c.operands code refl h
  from_op c m n (Eqz t) rest code h = from_eqz c m n t rest c.operands code refl h
  from_op c m n (o.Relation t r) rest code h = from_relation c m n t r rest c.operands code refl h
  from_op c m n (Convert v) rest code h = from_convert c m n v rest c.operands code refl h
  from_op c m n (o.Load l arg) rest code h = from_load c m n l arg rest c.operands code refl h
  from_op c m n (o.Store st arg) rest code h = from_store c m n st arg rest c.operands code refl h
  from_op c m n MemorySize rest code h = makes c m _ n (memory_size c m rest code) h
  from_op c m n MemoryGrow rest code h = from_grow c m n rest c.operands code refl h

  from_then : (c : Config) (m : List ℕ) (n : Next) (result : Option ValType) (inner rest : Code) (operands : List ℕ) → c.code ≡ if_then result inner rest →
      c.operands ≡ operands →
      answered grants place m (by_operand operands (λ left. Goes (enters c rest (arity_of result) inner left rest)) (λ left. Goes (enters c rest (arity_of result) done left rest))) ≡ Some n →
      Makes c m n
  from_then c m n result inner rest [] code popped h = stuck n h
  from_then c m n result inner rest (zero ∷ operands) code popped h = makes c m _ n (then_false c m result inner rest operands code popped) h
  from_then c m n result inner rest (suc k ∷ operands) code popped h =
      makes c m _ n (then_true c m result inner rest (suc k) operands code popped (λ e. omega arith)) h

  from_if : (c : Config) (m : List ℕ) (n : Next) (result : Option ValType) (inner other rest : Code) (operands : List ℕ) → c.code ≡ if_else result inner other rest →
      c.operands ≡ operands →
      answered grants place m (by_operand operands (λ left. Goes (enters c rest (arity_of result) inner left rest)) (λ left. Goes (enters c rest (arity_of result) other left rest))) ≡ Some n →
      Makes c m n
  from_if c m n result inner other rest [] code popped h = stuck n h
  from_if c m n result inner other rest (zero ∷ operands) code popped h = makes c m _ n (if_false c m result inner other rest operands code popped) h
  from_if c m n result inner other rest (suc k ∷ operands) code popped h =
      makes c m _ n (if_true c m result inner other rest (suc k) operands code popped (λ e. omega arith)) h

  from_branch : (c : Config) (m : List ℕ) (n : Next) (found : Option State) → ((s : State) → found ≡ Some s → Makes c m (record { event = Silent; state = s; memory = m })) →
      answered grants place m (goes_if_some found) ≡ Some n → Makes c m n
  from_branch c m n None rule h = stuck n h
  from_branch c m n (Some s) rule h = makes c m _ n (rule s refl) h

  from_br_if : (c : Config) (m : List ℕ) (n : Next) (index : ℕ) (rest : Code) (operands : List ℕ) → c.code ≡ br_if index rest →
      c.operands ≡ operands →
      answered grants place m (by_operand operands (λ left. goes_if_some (branched c.store index c.contexts left c.locals)) (λ left. Goes (goes_on c rest left c.locals))) ≡ Some n →
      Makes c m n
  from_br_if c m n index rest [] code popped h = stuck n h
  from_br_if c m n index rest (zero ∷ operands) code popped h = makes c m _ n (branch_passed c m index rest operands code popped) h
  from_br_if c m n index rest (suc k ∷ operands) code popped h = from_branch c m n (branched c.store index c.contexts operands c.locals)
      (λ s there. branch_taken c m index (suc k) rest operands s code popped (λ e. omega arith) there) h

  from_br_table : (c : Config) (m : List ℕ) (n : Next) (labels : List ℕ) (default : ℕ) (rest : Code) (operands : List ℕ) → c.code ≡ br_table labels default rest →
      c.operands ≡ operands →
      answered grants place m (with_operand operands (λ k left. goes_if_some (branched c.store (chosen labels default k) c.contexts left c.locals))) ≡ Some n →
      Makes c m n
  from_br_table c m n labels default rest [] code popped h = stuck n h
  from_br_table c m n labels default rest (k ∷ operands) code popped h = from_branch c m n (branched c.store (chosen labels default k) c.contexts operands c.locals)
      (λ s there. branch_chosen c m labels default k rest operands s code popped there) h

  from_raise : (c : Config) (m : List ℕ) (n : Next) (index : ℕ) (rest : Code) (operands : List ℕ) → c.code ≡ call index rest →
      slice_get c.store.functions index ≡ Some host_raise → c.operands ≡ operands →
      answered grants place m (call_wants (Some host_raise) (record c { operands = operands }) rest) ≡ Some n → Makes c m n
  from_raise c m n index rest [] code found popped h = stuck n h
  from_raise c m n index rest (number ∷ operands) code found popped h = makes c m _ n (raise c m index number operands rest code found popped) h

  from_pages : (c : Config) (m : List ℕ) (n : Next) (index : ℕ) (rest : Code) (operands : List ℕ) → c.code ≡ call index rest →
      slice_get c.store.functions index ≡ Some host_pages → c.operands ≡ operands →
      answered grants place m (call_wants (Some host_pages) (record c { operands = operands }) rest) ≡ Some n → Makes c m n
  from_pages c m n index rest [] code found popped h = stuck n h
  from_pages c m n index rest (pages ∷ operands) code found popped h = ⊎_elim
      (λ is.
      let there = placed-true (place pages) pages m (and_parts (grants pages) (can_place (place pages) pages m) is).1 in
      makes c m _ n (ask_granted c m index pages (place pages) operands rest code found popped there) (rw is at h))
      (λ is_not. makes c m _ n (ask_refused c m index pages operands rest code found popped) (rw is_not at h))
      (cases_Bool (grants pages && can_place (place pages) pages m))

  from_call : (c : Config) (m : List ℕ) (n : Next) (index : ℕ) (rest : Code) (found : Option Callee) → c.code ≡ call index rest →
      slice_get c.store.functions index ≡ found → answered grants place m (call_wants found c rest) ≡ Some n → Makes c m n
  from_call c m n index rest None code found h = stuck n h
  from_call c m n index rest (Some host_raise) code found h = from_raise c m n index rest c.operands code found refl h
  from_call c m n index rest (Some host_pages) code found h = from_pages c m n index rest c.operands code found refl h
  from_call c m n index rest (Some (own function)) code found h = ⊎_elim
      (λ is. makes c m _ n (invoke c m index function rest code found (leb-true function.params (length c.operands) is)) (rw is at h))
      (λ is_not. stuck n (rw is_not at h))
      (cases_Bool (nat_le function.params (length c.operands)))

  from_code : (c : Config) (m : List ℕ) (n : Next) (code : Code) → c.code ≡ code → answered grants place m (code_wants code c) ≡ Some n → Makes c m n
  from_code c m n done code h = stuck n h
  from_code c m n (op operator rest) code h = from_op c m n operator rest code h
  from_code c m n (unreachable rest) code h = makes c m _ n (unreachable_traps c m rest code) h
  from_code c m n (block result inner rest) code h = makes c m _ n (enter_block c m result inner rest code) h
  from_code c m n (loop result inner rest) code h = makes c m _ n (enter_loop c m result inner rest code) h
  from_code c m n (if_then result inner rest) code h = from_then c m n result inner rest c.operands code refl h
  from_code c m n (if_else result inner other rest) code h = from_if c m n result inner other rest c.operands code refl h
  from_code c m n (br index rest) code h = from_branch c m n (branched c.store index c.contexts c.operands c.locals)
      (λ s there. branch c m index rest s code there) h
  from_code c m n (br_if index rest) code h = from_br_if c m n index rest c.operands code refl h
  from_code c m n (br_table labels default rest) code h = from_br_table c m n labels default rest c.operands code refl h
  from_code c m n (return rest) code h = from_branch c m n (left c.store c.contexts c.operands) (λ s there. leave c m rest s code there) h
  from_code c m n (call index rest) code h = from_call c m n index rest (slice_get c.store.functions index) code refl h

  -- and what the step computes is a rule
  pub rule_from_next : (c : Config) (m : List ℕ) (n : Next) → next grants place c m ≡ Some n → Step c m n.event n.state n.memory
  rule_from_next c m n h = from_code c m n c.code refl h

-- whether a request was granted, and where, by an event
abbrev granted_in : Event → Option Bool
granted_in (Grows pages granted) = Some granted
granted_in (AsksHost pages first) = Some (is_some first)
granted_in e = None

abbrev placed_in : Event → Option ℕ
placed_in (AsksHost pages first) = first
placed_in e = None

-- the test and the place that answer a request as the one of two events that is a request, if one is
abbrev either : {A : Type 0} → Option A → Option A → A → A
either (Some a) other default = a
either None (Some a) default = a
either None None default = default

abbrev answer_of : Event → Event → ℕ → Bool
answer_of e f pages = either (granted_in e) (granted_in f) true

abbrev place_of : Event → Event → ℕ → ℕ
place_of e f pages = either (placed_in e) (placed_in f) 0

answer-first : (e f : Event) → Agrees (answer_of e f) (place_of e f) e
answer-first Silent f = tt
answer-first (Loads address width) f = tt
answer-first (Stores address width) f = tt
answer-first (Grows pages granted) f = refl
answer-first (AsksHost pages None) f = refl
answer-first (AsksHost pages (Some first)) f = (refl, refl)
answer-first (Raises code) f = tt
answer-first (Traps why) f = tt

answer-second : (e f : Event) → AnswerAlike e f → Agrees (answer_of e f) (place_of e f) f
answer-second (Grows asked also) (Grows pages granted) alike = alike
answer-second (AsksHost asked first) (Grows pages granted) alike = alike
answer-second Silent (Grows pages granted) alike = refl
answer-second (Loads address width) (Grows pages granted) alike = refl
answer-second (Stores address width) (Grows pages granted) alike = refl
answer-second (Raises code) (Grows pages granted) alike = refl
answer-second (Traps why) (Grows pages granted) alike = refl
answer-second (Grows asked also) (AsksHost pages None) alike = alike
answer-second (Grows asked also) (AsksHost pages (Some first)) alike = (alike, refl)
answer-second (AsksHost asked None) (AsksHost pages None) alike = refl
answer-second (AsksHost asked (Some place)) (AsksHost pages None) alike = absurd (none-some place (sym alike))
answer-second (AsksHost asked None) (AsksHost pages (Some first)) alike = absurd (none-some first alike)
answer-second (AsksHost asked (Some place)) (AsksHost pages (Some first)) alike = (refl, same_Some place first alike)
answer-second Silent (AsksHost pages None) alike = refl
answer-second Silent (AsksHost pages (Some first)) alike = (refl, refl)
answer-second (Loads address width) (AsksHost pages None) alike = refl
answer-second (Loads address width) (AsksHost pages (Some first)) alike = (refl, refl)
answer-second (Stores address width) (AsksHost pages None) alike = refl
answer-second (Stores address width) (AsksHost pages (Some first)) alike = (refl, refl)
answer-second (Raises code) (AsksHost pages None) alike = refl
answer-second (Raises code) (AsksHost pages (Some first)) alike = (refl, refl)
answer-second (Traps why) (AsksHost pages None) alike = refl
answer-second (Traps why) (AsksHost pages (Some first)) alike = (refl, refl)
answer-second e Silent alike = tt
answer-second e (Loads address width) alike = tt
answer-second e (Stores address width) alike = tt
answer-second e (Raises code) alike = tt
answer-second e (Traps why) alike = tt

-- So there is one step at most for each answer to a request.
pub step_unique : (c : Config) (m : List ℕ) (e f : Event) (s t : State) (after other : List ℕ) → Step c m e s after → Step c m f t other →
    AnswerAlike e f → (e ≡ f) × (s ≡ t) × (after ≡ other)
step_unique c m e f s t after other one two alike =
    let made : Next = record { event = e; state = s; memory = after } in
    let another : Next = record { event = f; state = t; memory = other } in
    let same : made ≡ another = same_Some made another
    (sym (next-rule (answer_of e f) (place_of e f) c m e s after one (answer-first e f)) ∙ next-rule (answer_of e f) (place_of e f) c m f t other two (answer-second e f alike)) in
    (ap (λ (n : Next). n.event) same, ap (λ (n : Next). n.state) same, ap (λ (n : Next). n.memory) same)
