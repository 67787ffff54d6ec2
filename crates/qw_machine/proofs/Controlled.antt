-- Instructions that enter blocks, branch, return or trap, executed at a point, against the configuration's step.
use Rattle.std.proofs.Common.{◌≡◌, ◌≢◌, ℕ, ◌+◌, ◌-◌, ◌<◌, ◌≤◌, nat_le, false, List, [], ◌∷◌, ◌++◌, length, take, Option, Some, None, is_some, slice_get, refl, sym, ap, subst, ◌∙◌, arith}
use Rattle.qw_module.specs.declared.instruction.ValType.{ValType}
use Rattle.qw_module.specs.declared.instruction.ValType.TheVariants.{I32}
use Rattle.qw_module.specs.declared.instruction.Instr.TheVariants as i
use Rattle.qw_module.specs.declared.module.Module.{Module}
use Rattle.qw_module.specs.declared.trap.Trap.TheVariants as trap
use Rattle.qw_machine.specs.declared.stepped.Stepped.TheVariants as stepped
use Rattle.qw_module.specs.Syntax.{Code, unreachable, block, loop, if_then, if_else, br, br_if, br_table, return, labels_in, named}
use Rattle.qw_module.specs.Execution.{Config, Silent, Traps, arity_of, chosen}
use Rattle.qw_module.specs.Step.{Goes, wants, answered, goes_if_some}
use Rattle.qw_module.specs.Typing.{Scope, scope_of, types_of, Takes, Typed}
use Rattle.qw_valid.specs.Heights.{StaysWithin}
use Rattle.qw_module.specs.Start.{body_of}
use Rattle.qw_module.specs.Validity.{outside_of}
use Rattle.qw_machine.specs.Inner.Points.{code_at, instructions_at, Point, store_with, state_at, config_at, entered, at_index}
use Rattle.qw_machine.specs.declared.room.Rooms.{Rooms}
use Rattle.qw_machine.specs.Inner.Placed.{IsExecuted, StaysAt, IsPoint}
use Rattle.qw_machine.specs.Inner.Activities.{CanJump, CanLeave, IsJump, IsReturn, IsDoneAt}
use Rattle.qw_module.proofs.Sound.{arity-types, chosen-takes}
use Rattle.qw_module.proofs.Steps.{by_operand-other}
use Rattle.qw_module.proofs.TypedParts.{Parts, parts}
use Rattle.qw_machine.proofs.Points.{code_in-instruction, names_below-at, state_at-split}
use Rattle.qw_machine.proofs.Functions.{numbered-of}
use Rattle.qw_machine.proofs.Around.{with_operands, IsAround, around-of, around-popped, operand-there, config-over, next-point}
use Rattle.qw_machine.proofs.Entering.{IsLabel, entered-point, entered-state, inner-first, Holds, forward-point, forward-state}
use Rattle.qw_machine.proofs.Jumps.{can-jump, jumped-point, jumped-state}
use Rattle.qw_machine.proofs.Stays.{stays-on}
use Rattle.qw_machine.proofs.Returns.{left-outermost, can-leave, returned-point, returned-state}

module _ {m : Module} {rooms : Rooms} (spare : ℕ) (executed : IsExecuted m) {p : Point} (is : IsPoint m rooms p)
    (inside : p.index < length (instructions_at m p.function p.sequence)) where
  abbrev scope : Scope
  scope = scope_of (outside_of m) is.locals is.results is.labels

  -- the code after the instruction
  abbrev rest : Code
  rest = code_at m p.function p.sequence (p.index + 1)

  -- an inner sequence
  abbrev inside_of : ℕ → Code
  inside_of inner = named (body_of m p.function) inner

  abbrev around : IsAround m rooms p is.own is.below is.locals is.results is.labels is.before is.ends is.operands_most is.labels_most
  around = around-of is inside

  -- what the typing of the code says of its first instruction
  first_parts : (code : Code) → code_at m p.function p.sequence p.index ≡ code → Parts scope code is.before is.ends
  first_parts code same = parts scope code is.before is.ends (subst (λ (x : Code). Typed scope x is.before is.ends) same is.typed)

  -- what the bounds of the code say of its first instruction
  stays : (code : Code) → code_at m p.function p.sequence p.index ≡ code → StaysWithin ((outside_of m).functions) is.operands_most is.labels_most code (length is.own)
  stays code same = subst (λ (x : Code). StaysWithin ((outside_of m).functions) is.operands_most is.labels_most x (length is.own)) same is.stays

  -- one operand was taken
  one_less : (n : ℕ) (own : List ℕ) → is.own ≡ n ∷ own → length is.own - 1 ≡ length own
  one_less n own same = omega (arith, ap length same)

  holds-popped : (operands : List ℕ) (inner arity n : ℕ) (own : List ℕ) → is.own ≡ n ∷ own → Holds m p inner arity (length is.own - 1) is.operands_most is.labels_most →
      Holds m (with_operands p operands) inner arity (length own) is.operands_most is.labels_most
  holds-popped operands inner arity n own same holds =
      subst (λ (k : ℕ). Holds m (with_operands p operands) inner arity k is.operands_most is.labels_most) (one_less n own same) holds

  -- a step that only goes on
  executed-goes : (q : Point) (memory : List ℕ) → IsPoint m rooms q → wants (config_at m p) ≡ Goes (state_at m q) → IsDoneAt m rooms spare p memory stepped.Ran q memory
  executed-goes q memory point goes = (
    point,
    record { event = Silent; made = λ place. ap (answered (λ pages. nat_le pages spare) place memory) goes; answered = λ running. tt },
  )

  -- ---- unreachable
  pub executed-unreachable : slice_get (instructions_at m p.function p.sequence) p.index ≡ Some i.Unreachable → (q : Point) (memory : List ℕ) →
      IsDoneAt m rooms spare p memory (stepped.Trapped trap.Unreachable) q memory
  executed-unreachable found q memory =
      let code : code_at m p.function p.sequence p.index ≡ unreachable rest = code_in-instruction _ p.sequence p.index i.Unreachable found in
      record {
        event = Traps trap.Unreachable;
        made = λ place. ap (λ (c : Config). answered (λ pages. nat_le pages spare) place memory (wants c)) (config-over is inside (unreachable rest) is.own code refl);
        no_ask = tt;
        answered = refl;
      }

  -- ---- block
  module _ (result : Option ValType) (inner : ℕ) (found : slice_get (instructions_at m p.function p.sequence) p.index ≡ Some (i.Block result inner)) where
    block_code : code_at m p.function p.sequence p.index ≡ block result (inside_of inner) rest
    block_code = code_in-instruction _ p.sequence p.index (i.Block result inner) found

    block_lower : inner < p.sequence
    block_lower = names_below-at (body_of m p.function) (numbered-of m executed.valid p.function is.room.own) p.sequence p.index (i.Block result inner) is.room.numbered found

    block_holds : Holds m p inner (arity_of result) (length is.own) is.operands_most is.labels_most
    block_holds = let within = stays (block result (inside_of inner) rest) block_code in (within.1, within.2, within.3)

    pub executed-block : (q : Point) (memory : List ℕ) → q ≡ entered p inner (is_some result) (p.index + 1) → IsDoneAt m rooms spare p memory stepped.Ran q memory
    executed-block q memory same =
        let block_is = first_parts (block result (inside_of inner) rest) block_code in
        rw same (executed-goes (entered p inner (is_some result) (p.index + 1)) memory
        (forward-point executed around inner result block_lower block_is.0 block_is.1 block_holds)
        (ap wants (config-over is inside _ is.own block_code refl) ∙ ap Goes (sym (forward-state executed around inner result block_lower block_is.0 block_is.1 block_holds))))

  -- ---- loop
  module _ (result : Option ValType) (inner : ℕ) (found : slice_get (instructions_at m p.function p.sequence) p.index ≡ Some (i.Loop result inner)) where
    loop_code : code_at m p.function p.sequence p.index ≡ loop result (inside_of inner) rest
    loop_code = code_in-instruction _ p.sequence p.index (i.Loop result inner) found

    loop_lower : inner < p.sequence
    loop_lower = names_below-at (body_of m p.function) (numbered-of m executed.valid p.function is.room.own) p.sequence p.index (i.Loop result inner) is.room.numbered found

    loop_label : IsLabel m p inner false p.index is.own is.locals is.results is.labels is.before is.ends [] (types_of result) is.operands_most is.labels_most
    loop_label =
        let loop_is = first_parts (loop result (inside_of inner) rest) loop_code in
        let within = stays (loop result (inside_of inner) rest) loop_code in
        record {
          lower = loop_lower;
          takes_are = refl;
          inner_typed = subst (λ (x : Code). Typed (scope_of (outside_of m) is.locals is.results ([] ∷ is.labels)) x [] (types_of result))
              (inner-first executed around inner loop_lower) loop_is.0;
          target_typed = is.typed;
          after_typed = loop_is.1;
          target_in = omega arith;
          enters = within.1;
          inner_within = subst (λ (x : Code). StaysWithin ((outside_of m).functions) (is.operands_most - length is.own) (is.labels_most - 1) x 0) (inner-first executed around inner loop_lower) within.2;
          target_within = stays-on ((outside_of m).functions) (code_at m p.function p.sequence p.index) is.operands_most is.labels_most (length is.own) (length is.own + 0) (omega arith) is.stays;
          after_within = subst (λ (n : ℕ). StaysAt m p.function p.sequence (p.index + 1) is.operands_most is.labels_most (length is.own + n)) (arity-types result) within.3;
        }

    pub executed-loop : (q : Point) (memory : List ℕ) → q ≡ entered p inner false p.index → IsDoneAt m rooms spare p memory stepped.Ran q memory
    executed-loop q memory same =
        rw same (executed-goes (entered p inner false p.index) memory
        (entered-point around inner false p.index [] (types_of result) loop_label)
        (ap wants (config-over is inside _ is.own loop_code refl)
        ∙ ap Goes (sym (entered-state around inner false p.index [] (types_of result) loop_label ∙ rw (← inner-first executed around inner loop_lower, loop_code) refl))))

  -- ---- br
  module _ (index : ℕ) (found : slice_get (instructions_at m p.function p.sequence) p.index ≡ Some (i.Br index)) where
    br_code : code_at m p.function p.sequence p.index ≡ br index rest
    br_code = code_in-instruction _ p.sequence p.index (i.Br index) found

    br_is : Parts scope (br index rest) is.before is.ends
    br_is = first_parts (br index rest) br_code

    pub can-jump-br : CanJump index p
    can-jump-br = can-jump around br_is.0 br_is.1 br_is.4 index br_is.3

    pub executed-br : (q : Point) (memory : List ℕ) → IsJump index p q → IsDoneAt m rooms spare p memory stepped.Ran q memory
    executed-br q memory jump = executed-goes q memory
        (jumped-point around br_is.0 br_is.1 br_is.4 index br_is.3 q jump)
        (ap wants (config-over is inside _ is.own br_code refl) ∙ ap goes_if_some (jumped-state around br_is.0 br_is.1 br_is.4 index br_is.3 q jump))

  -- ---- br_if
  module _ (index : ℕ) (found : slice_get (instructions_at m p.function p.sequence) p.index ≡ Some (i.BrIf index)) where
    br_if_code : code_at m p.function p.sequence p.index ≡ br_if index rest
    br_if_code = code_in-instruction _ p.sequence p.index (i.BrIf index) found

    br_if_is : Parts scope (br_if index rest) is.before is.ends
    br_if_is = first_parts (br_if index rest) br_if_code

    pub br_if-operand : 0 < length p.operands
    br_if-operand = operand-there is inside I32 (br_if_is.0 ++ br_if_is.1) br_if_is.3

    pub can-jump-br_if : (n : ℕ) (operands : List ℕ) → p.operands ≡ n ∷ operands → CanJump index (with_operands p operands)
    can-jump-br_if n operands popped =
        let own = around-popped is inside I32 (br_if_is.0 ++ br_if_is.1) br_if_is.3 n operands popped in
        can-jump own.2 br_if_is.0 br_if_is.1 refl index br_if_is.2

    pub executed-br_if : (n : ℕ) (operands : List ℕ) (q : Point) (memory : List ℕ) → p.operands ≡ n ∷ operands → n ≢ 0 →
        IsJump index (with_operands p operands) q → IsDoneAt m rooms spare p memory stepped.Ran q memory
    executed-br_if n operands q memory popped other_than jump =
        let own = around-popped is inside I32 (br_if_is.0 ++ br_if_is.1) br_if_is.3 n operands popped in
        executed-goes q memory
        (jumped-point own.2 br_if_is.0 br_if_is.1 refl index br_if_is.2 q jump)
        (ap wants (config-over is inside _ (n ∷ own.0) br_if_code own.1)
        ∙ by_operand-other n own.0 _ _ other_than
        ∙ ap goes_if_some (jumped-state own.2 br_if_is.0 br_if_is.1 refl index br_if_is.2 q jump))

    pub executed-br_if-not : (operands : List ℕ) (q : Point) (memory : List ℕ) → p.operands ≡ 0 ∷ operands →
        q ≡ at_index (with_operands p operands) (p.index + 1) → IsDoneAt m rooms spare p memory stepped.Ran q memory
    executed-br_if-not operands q memory popped same =
        let own = around-popped is inside I32 (br_if_is.0 ++ br_if_is.1) br_if_is.3 0 operands popped in
        rw same (executed-goes (at_index (with_operands p operands) (p.index + 1)) memory
        (next-point own.2 br_if_is.4
        (stays-on ((outside_of m).functions) rest is.operands_most is.labels_most (length is.own - 1) (length own.0) (one_less 0 own.0 own.1) (stays (br_if index rest) br_if_code).1))
        (ap wants (config-over is inside _ (0 ∷ own.0) br_if_code own.1)
        ∙ ap Goes (sym (state_at-split m (at_index (with_operands p operands) (p.index + 1)) own.0 is.below own.2.operands_are own.2.below_are))))

  -- ---- br_table
  module _ (first count default : ℕ) (found : slice_get (instructions_at m p.function p.sequence) p.index ≡ Some (i.BrTable first count default)) where
    abbrev table : List ℕ
    table = labels_in (body_of m p.function).labels first count

    br_table_code : code_at m p.function p.sequence p.index ≡ br_table table default rest
    br_table_code = code_in-instruction _ p.sequence p.index (i.BrTable first count default) found

    br_table_is : Parts scope (br_table table default rest) is.before is.ends
    br_table_is = first_parts (br_table table default rest) br_table_code

    -- the labels are there
    pub br_table-labels : first + count ≤ length (body_of m p.function).labels
    br_table-labels =
        names_below-at (body_of m p.function) (numbered-of m executed.valid p.function is.room.own) p.sequence p.index (i.BrTable first count default) is.room.numbered found

    pub br_table-operand : 0 < length p.operands
    br_table-operand = operand-there is inside I32 (br_table_is.0 ++ br_table_is.1) br_table_is.5

    chosen-is : (n : ℕ) → Takes scope (chosen table default n) br_table_is.0
    chosen-is n = chosen-takes scope table default n br_table_is.0 br_table_is.3 br_table_is.4

    pub can-jump-br_table : (n : ℕ) (operands : List ℕ) → p.operands ≡ n ∷ operands → CanJump (chosen table default n) (with_operands p operands)
    can-jump-br_table n operands popped =
        let own = around-popped is inside I32 (br_table_is.0 ++ br_table_is.1) br_table_is.5 n operands popped in
        can-jump own.2 br_table_is.0 br_table_is.1 refl (chosen table default n) (chosen-is n)

    pub executed-br_table : (n : ℕ) (operands : List ℕ) (q : Point) (memory : List ℕ) → p.operands ≡ n ∷ operands →
        IsJump (chosen table default n) (with_operands p operands) q → IsDoneAt m rooms spare p memory stepped.Ran q memory
    executed-br_table n operands q memory popped jump =
        let own = around-popped is inside I32 (br_table_is.0 ++ br_table_is.1) br_table_is.5 n operands popped in
        executed-goes q memory
        (jumped-point own.2 br_table_is.0 br_table_is.1 refl (chosen table default n) (chosen-is n) q jump)
        (ap wants (config-over is inside _ (n ∷ own.0) br_table_code own.1)
        ∙ ap goes_if_some (jumped-state own.2 br_table_is.0 br_table_is.1 refl (chosen table default n) (chosen-is n) q jump))

  -- ---- if
  module _ (result : Option ValType) (inner : ℕ) where
    -- without else
    module _ (found : slice_get (instructions_at m p.function p.sequence) p.index ≡ Some (i.If result inner None)) where
      then_code : code_at m p.function p.sequence p.index ≡ if_then result (inside_of inner) rest
      then_code = code_in-instruction _ p.sequence p.index (i.If result inner None) found

      then_is : Parts scope (if_then result (inside_of inner) rest) is.before is.ends
      then_is = first_parts (if_then result (inside_of inner) rest) then_code

      then_lower : inner < p.sequence
      then_lower = names_below-at (body_of m p.function) (numbered-of m executed.valid p.function is.room.own) p.sequence p.index (i.If result inner None) is.room.numbered found

      executed-then : (n : ℕ) (operands : List ℕ) (q : Point) (memory : List ℕ) → p.operands ≡ n ∷ operands → n ≢ 0 →
          q ≡ entered (with_operands p operands) inner (is_some result) (p.index + 1) → IsDoneAt m rooms spare p memory stepped.Ran q memory
      executed-then n operands q memory popped other_than same =
          let own = around-popped is inside I32 then_is.0 then_is.2 n operands popped in
          let inner_is : Typed (scope_of (outside_of m) is.locals is.results (types_of result ∷ is.labels)) (inside_of inner) [] (types_of result) =
          subst (λ (r : Option ValType). Typed (scope_of (outside_of m) is.locals is.results (types_of r ∷ is.labels)) (inside_of inner) [] (types_of r)) (sym then_is.1) then_is.3 in
          let within = stays (if_then result (inside_of inner) rest) then_code in
          let holds = holds-popped operands inner (arity_of result) n own.0 own.1 (within.1, within.2, within.3) in
          let rest_is : Typed scope rest (types_of result ++ then_is.0) is.ends =
          subst (λ (r : Option ValType). Typed scope rest (types_of r ++ then_is.0) is.ends) (sym then_is.1) then_is.4 in
          rw same (executed-goes (entered (with_operands p operands) inner (is_some result) (p.index + 1)) memory
          (forward-point executed own.2 inner result then_lower inner_is rest_is holds)
          (ap wants (config-over is inside _ (n ∷ own.0) then_code own.1)
          ∙ by_operand-other n own.0 _ _ other_than
          ∙ ap Goes (sym (forward-state executed own.2 inner result then_lower inner_is rest_is holds))))

      pub executed-without : (operands : List ℕ) (q : Point) (memory : List ℕ) → p.operands ≡ 0 ∷ operands →
          q ≡ at_index (with_operands p operands) (p.index + 1) → IsDoneAt m rooms spare p memory stepped.Ran q memory
      executed-without operands q memory popped same =
          let own = around-popped is inside I32 then_is.0 then_is.2 0 operands popped in
          rw same (executed-goes (at_index (with_operands p operands) (p.index + 1)) memory
          (next-point own.2 then_is.4
          (stays-on ((outside_of m).functions) rest is.operands_most is.labels_most (length is.own - 1 + arity_of result) (length own.0)
          (omega (arith, ap arity_of then_is.1, one_less 0 own.0 own.1)) (stays (if_then result (inside_of inner) rest) then_code).3))
          (ap wants (config-over is inside _ (0 ∷ own.0) then_code own.1)
          ∙ ap Goes (sym (state_at-split m (at_index (with_operands p operands) (p.index + 1)) own.0 is.below own.2.operands_are own.2.below_are))))

    -- with else
    module _ (other : ℕ) (found : slice_get (instructions_at m p.function p.sequence) p.index ≡ Some (i.If result inner (Some other))) where
      else_code : code_at m p.function p.sequence p.index ≡ if_else result (inside_of inner) (inside_of other) rest
      else_code = code_in-instruction _ p.sequence p.index (i.If result inner (Some other)) found

      else_is : Parts scope (if_else result (inside_of inner) (inside_of other) rest) is.before is.ends
      else_is = first_parts (if_else result (inside_of inner) (inside_of other) rest) else_code

      else_lower : (inner < p.sequence) × (other < p.sequence)
      else_lower = names_below-at (body_of m p.function) (numbered-of m executed.valid p.function is.room.own) p.sequence p.index (i.If result inner (Some other)) is.room.numbered found

      executed-first : (n : ℕ) (operands : List ℕ) (q : Point) (memory : List ℕ) → p.operands ≡ n ∷ operands → n ≢ 0 →
          q ≡ entered (with_operands p operands) inner (is_some result) (p.index + 1) → IsDoneAt m rooms spare p memory stepped.Ran q memory
      executed-first n operands q memory popped other_than same =
          let own = around-popped is inside I32 else_is.0 else_is.1 n operands popped in
          let within = stays (if_else result (inside_of inner) (inside_of other) rest) else_code in
          let holds = holds-popped operands inner (arity_of result) n own.0 own.1 (within.1, within.2, within.4) in
          rw same (executed-goes (entered (with_operands p operands) inner (is_some result) (p.index + 1)) memory
          (forward-point executed own.2 inner result else_lower.0 else_is.2 else_is.4 holds)
          (ap wants (config-over is inside _ (n ∷ own.0) else_code own.1)
          ∙ by_operand-other n own.0 _ _ other_than
          ∙ ap Goes (sym (forward-state executed own.2 inner result else_lower.0 else_is.2 else_is.4 holds))))

      pub executed-else : (operands : List ℕ) (q : Point) (memory : List ℕ) → p.operands ≡ 0 ∷ operands →
          q ≡ entered (with_operands p operands) other (is_some result) (p.index + 1) → IsDoneAt m rooms spare p memory stepped.Ran q memory
      executed-else operands q memory popped same =
          let own = around-popped is inside I32 else_is.0 else_is.1 0 operands popped in
          let within = stays (if_else result (inside_of inner) (inside_of other) rest) else_code in
          let holds = holds-popped operands other (arity_of result) 0 own.0 own.1 (within.1, within.3, within.4) in
          rw same (executed-goes (entered (with_operands p operands) other (is_some result) (p.index + 1)) memory
          (forward-point executed own.2 other result else_lower.1 else_is.3 else_is.4 holds)
          (ap wants (config-over is inside _ (0 ∷ own.0) else_code own.1)
          ∙ ap Goes (sym (forward-state executed own.2 other result else_lower.1 else_is.3 else_is.4 holds))))

    pub if-operand : (else_body : Option ℕ) → slice_get (instructions_at m p.function p.sequence) p.index ≡ Some (i.If result inner else_body) → 0 < length p.operands
    if-operand None found = operand-there is inside I32 (then_is found).0 (then_is found).2
    if-operand (Some other) found = operand-there is inside I32 (else_is other found).0 (else_is other found).1

    pub executed-if : (else_body : Option ℕ) → slice_get (instructions_at m p.function p.sequence) p.index ≡ Some (i.If result inner else_body) →
        (n : ℕ) (operands : List ℕ) (q : Point) (memory : List ℕ) → p.operands ≡ n ∷ operands → n ≢ 0 →
        q ≡ entered (with_operands p operands) inner (is_some result) (p.index + 1) → IsDoneAt m rooms spare p memory stepped.Ran q memory
    executed-if None found n operands q memory popped other_than same = executed-then found n operands q memory popped other_than same
    executed-if (Some other) found n operands q memory popped other_than same = executed-first other found n operands q memory popped other_than same

  -- ---- return
  module _ (found : slice_get (instructions_at m p.function p.sequence) p.index ≡ Some i.Return) where
    return_code : code_at m p.function p.sequence p.index ≡ return rest
    return_code = code_in-instruction _ p.sequence p.index i.Return found

    return_is : Parts scope (return rest) is.before is.ends
    return_is = first_parts (return rest) return_code

    pub executed-last : p.floor ≡ 0 → (q : Point) (memory : List ℕ) → IsDoneAt m rooms spare p memory stepped.Returned q memory
    executed-last none q memory =
        let ends = left-outermost m rooms p.function p.awaiting is.below (take p.first_local p.locals) (store_with m p.globals) is.own (sym is.floor_is ∙ none) in
        record {
          event = Silent;
          made = λ place. ap (answered (λ pages. nat_le pages spare) place memory) (ap wants (config-over is inside (return rest) is.own return_code refl) ∙ ap goes_if_some ends);
          no_ask = tt;
          answered = tt;
        }

    pub can-leave-return : p.floor ≢ 0 → CanLeave p
    can-leave-return some = can-leave around return_is.0 return_is.2 some

    pub executed-return : p.floor ≢ 0 → (q : Point) (memory : List ℕ) → IsReturn p q → IsDoneAt m rooms spare p memory stepped.Ran q memory
    executed-return some q memory returns = executed-goes q memory
        (returned-point around return_is.0 return_is.2 some q returns)
        (ap wants (config-over is inside (return rest) is.own return_code refl)
        ∙ ap goes_if_some (returned-state around return_is.0 return_is.2 some q returns))
