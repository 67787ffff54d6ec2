-- An instruction that holds no other, done over all operands, against the configuration's step over its own.
use Rattle.std.proofs.Common.{◌≡◌, ℕ, ◌+◌, ◌-◌, ◌^◌, ◌<◌, nat_le, List, ◌++◌, length, drop, take, Option, Some, None, Result, Ok, Err, slice_get, true, false, refl, ap, subst, ◌∙◌, ⊎_elim, arith, length-append}
use Rattle.std.proofs.lemmas.Bool.{cases_Bool, le-leb, lt-ltb}
use Rattle.std.proofs.lemmas.List.{length-take-le}
use Rattle.std.proofs.lemmas.Option.{slice_get_within}
use Rattle.qw_module.specs.declared.instruction.ValType.{ValType}
use Rattle.qw_module.specs.declared.instruction.Instr.TheVariants as i
use Rattle.qw_module.specs.declared.instruction.Op.{Op}
use Rattle.qw_module.specs.declared.instruction.Op.TheVariants.{Nop, Drop, Select, LocalGet, LocalSet, LocalTee, GlobalGet, GlobalSet, Eqz, Convert, MemorySize, MemoryGrow}
use Rattle.qw_module.specs.declared.instruction.Op.TheVariants as o
use Rattle.qw_module.specs.declared.module.Module.{Module}
use Rattle.qw_module.specs.declared.trap.Trap.{Trap}
use Rattle.qw_module.specs.declared.trap.Trap.TheVariants as trap
use Rattle.qw_machine.specs.declared.operators.Operated.{Operated}
use Rattle.qw_machine.specs.declared.stepped.Stepped.{Stepped}
use Rattle.qw_linear.specs.Memory.{most_pages, number_at, pages_of}
use Rattle.qw_module.specs.Numbers.{division}
use Rattle.qw_module.specs.Syntax.{Code, op}
use Rattle.qw_module.specs.Execution.{Config, Silent, Loads, Stores, Grows, Traps, settled, refusal}
use Rattle.qw_module.specs.Step.{OpWant, Stuck', Leaves, Sets, Reads, Writes, Sizes, Requests, Fails', pushes_if_some, leaves_or_fails, op_wants, then_wants, answered, next}
use Rattle.qw_module.specs.Typing.{Scope, scope_of, OpTyped, Typed}
use Rattle.qw_valid.specs.Heights.{taken_by, left_by, StaysWithin}
use Rattle.qw_module.specs.Soundness.{AreOf, AreGlobalsOf}
use Rattle.qw_module.specs.Validity.{outside_of}
use Rattle.qw_machine.specs.Inner.Points.{code_at, instructions_at, Point, contexts_of, store_with, state_at, config_at}
use Rattle.qw_machine.specs.declared.room.Rooms.{Rooms}
use Rattle.qw_machine.specs.Inner.Placed.{IsPoint}
use Rattle.qw_machine.specs.Inner.Ended.{answer_of}
use Rattle.qw_machine.specs.Inner.Operated.{CanOperate, Held, IsDone}
use Rattle.qw_machine.specs.Inner.Activities.{IsDoneAt}
use Rattle.qw_module.proofs.Sound.{AreOf-length, OpWantTyped, op_wants-typed}
use Rattle.qw_module.proofs.TypedOperands.{HasFor, has_for}
use Rattle.qw_module.proofs.TypedParts.{parts}
use Rattle.qw_machine.proofs.ListFacts.{take-front, drop-front}
use Rattle.qw_machine.proofs.Points.{state_at-split, code_in-instruction}
use Rattle.qw_machine.proofs.Around.{config-over}
use Rattle.qw_machine.proofs.Stays.{length-op_typed, stays-on}

-- what an instruction has among its own operands, it has among all
ready : (operator : Op) (globals own below values : List ℕ) → HasFor operator globals own values → CanOperate operator globals (own ++ below) values
ready Nop globals own below values has = tt
ready Drop globals own below values has = rw (has.2) (omega arith)
ready Select globals own below values has = rw (has.4) (omega arith)
ready (LocalGet x) globals own below values has = has
ready (GlobalGet x) globals own below values has = has
ready (o.Const n) globals own below values has = tt
ready (o.Binary t b) globals own below values has = rw (has.3) (omega arith, has.4, has.5)
ready (o.Division t d) globals own below values has = rw (has.3) (omega arith, has.4, has.5)
ready (o.Relation t r) globals own below values has = rw (has.3) (omega arith, has.4, has.5)
ready (o.Store s arg) globals own below values has = rw (has.3) (omega arith, has.5)
ready MemorySize globals own below values has = tt
ready _ globals own below values has = rw (has.2) (omega arith, has.3)

-- what is wanted over more operands below
abbrev over : List ℕ → OpWant → OpWant
over below Stuck' = Stuck'
over below (Leaves operands values) = Leaves (operands ++ below) values
over below (Sets operands globals) = Sets (operands ++ below) globals
over below (Reads address width make) = Reads address width (λ n. make n ++ below)
over below (Writes address width value operands) = Writes address width value (operands ++ below)
over below (Sizes make) = Sizes (λ n. make n ++ below)
over below (Requests pages make) = Requests pages (λ n. make n ++ below)
over below (Fails' why) = Fails' why

pushes-over : (v : Option ℕ) (own below values : List ℕ) → pushes_if_some v (own ++ below) values ≡ over below (pushes_if_some v own values)
pushes-over None own below values = refl
pushes-over (Some v) own below values = refl

leaves-over : (q : Result ℕ Trap) (own below values : List ℕ) → leaves_or_fails q (own ++ below) values ≡ over below (leaves_or_fails q own values)
leaves-over (Ok v) own below values = refl
leaves-over (Err why) own below values = refl

wants-over : (operator : Op) (globals own below values : List ℕ) → HasFor operator globals own values →
    op_wants operator globals (own ++ below) values ≡ over below (op_wants operator globals own values)
wants-over Nop globals own below values has = refl
wants-over Select globals own below values has = rw (has.4) refl
wants-over (LocalGet x) globals own below values has = pushes-over (slice_get values x) own below values
wants-over (LocalSet x) globals own below values has = rw (has.2, lt-ltb x (length values) has.3) refl
wants-over (LocalTee x) globals own below values has = rw (has.2, lt-ltb x (length values) has.3) refl
wants-over (GlobalGet x) globals own below values has = pushes-over (slice_get globals x) own below values
wants-over (GlobalSet x) globals own below values has = rw (has.2, lt-ltb x (length globals) has.3) refl
wants-over (o.Const n) globals own below values has = refl
wants-over (o.Binary t b) globals own below values has = rw (has.3) refl
wants-over (o.Division t d) globals own below values has = rw (has.3) (leaves-over (division t d has.1 has.0) has.2 below values)
wants-over (o.Relation t r) globals own below values has = rw (has.3) refl
wants-over (o.Store s arg) globals own below values has = rw (has.3) refl
wants-over MemorySize globals own below values has = refl
wants-over _ globals own below values has = rw (has.2) refl

-- a point whose code begins with such an instruction
module _ {m : Module} {rooms : Rooms} (spare : ℕ) {p : Point} (is : IsPoint m rooms p) {operator : Op}
    (found : slice_get (instructions_at m p.function p.sequence) p.index ≡ Some (i.Op operator)) where
  within : p.index < length (instructions_at m p.function p.sequence)
  within = slice_get_within (instructions_at m p.function p.sequence) p.index (i.Op operator) found

  abbrev rest : Code
  rest = code_at m p.function p.sequence (p.index + 1)

  abbrev scope : Scope
  scope = scope_of (outside_of m) is.locals is.results is.labels

  abbrev values : List ℕ
  values = drop p.first_local p.locals

  code : code_at m p.function p.sequence p.index ≡ op operator rest
  code = code_in-instruction _ p.sequence p.index (i.Op operator) found

  op_is : (middle : List ValType) × OpTyped scope operator is.before middle × Typed scope rest middle is.ends
  op_is = parts scope (op operator rest) is.before is.ends (subst (λ (x : Code). Typed scope x is.before is.ends) code is.typed)

  has : HasFor operator p.globals is.own values
  has = has_for scope operator is.before op_is.0 op_is.1 p.globals is.own values is.globals_are is.own_are is.locals_are

  pub operator-ready : CanOperate operator p.globals p.operands values
  operator-ready = rw (is.operands_are) (ready operator p.globals is.own is.below values has)

  -- the point after it
  abbrev pub operated_at : Held → Point
  operated_at held =
      record p {
        index = p.index + 1;
        operands = held.operands;
        locals = take p.first_local p.locals ++ held.locals;
        globals = held.globals;
      }

  abbrev after_it : (operands globals locals : List ℕ) → Point
  after_it operands globals locals =
      record p {
        index = p.index + 1;
        operands = operands ++ is.below;
        locals = take p.first_local p.locals ++ locals;
        globals = globals;
      }

  after_it-is : (operands globals locals : List ℕ) → AreOf operands op_is.0 → AreGlobalsOf globals ((outside_of m).globals) → AreOf locals is.locals →
      IsPoint m rooms (after_it operands globals locals)
  after_it-is operands globals locals are are_globals are_locals =
      let outer : take p.first_local (take p.first_local p.locals ++ locals) ≡ take p.first_local p.locals = take-front p.first_local p.locals locals is.first_in in
      let within_code : StaysWithin ((outside_of m).functions) is.operands_most is.labels_most (op operator rest) (length is.own) =
      subst (λ (x : Code). StaysWithin ((outside_of m).functions) is.operands_most is.labels_most x (length is.own)) code is.stays in
      let many : length is.own - taken_by operator + left_by operator ≡ length operands =
      omega (arith, AreOf-length operands op_is.0 are, AreOf-length is.own is.before is.own_are, length-op_typed scope operator is.before op_is.0 op_is.1) in
      let inner : drop p.first_local (take p.first_local p.locals ++ locals) ≡ locals = drop-front p.first_local p.locals locals is.first_in in
      record {
        own = operands;
        below = is.below;
        locals = is.locals;
        results = is.results;
        labels = is.labels;
        before = op_is.0;
        ends = is.ends;
        operands_are = refl;
        below_are = is.below_are;
        own_are = are;
        has_locals = record {
          first_in = omega (arith, length-append (take p.first_local p.locals) locals, length-take-le p.first_local p.locals is.first_in);
          locals_are = rw inner are_locals;
          all_locals = is.all_locals;
          globals_are = are_globals;
          floor_is = is.floor_is;
        };
        typed = op_is.2;
        index_in = omega (arith, within);
        operands_most = is.operands_most;
        labels_most = is.labels_most;
        stays = stays-on ((outside_of m).functions) rest is.operands_most is.labels_most (length is.own - taken_by operator + left_by operator) (length operands) many within_code.1;
        room = is.room;
        awaiting = rw outer is.awaiting;
      }

  -- the configuration's step
  abbrev own_config : Config
  own_config = record {
    store = store_with m p.globals;
    code = op operator rest;
    operands = is.own;
    locals = values;
    contexts = contexts_of m p.function p.awaiting is.below (take p.first_local p.locals);
  }

  state-is : (operands globals locals : List ℕ) → state_at m (after_it operands globals locals)
      ≡ settled (store_with m globals) (contexts_of m p.function p.awaiting is.below (take p.first_local p.locals)) rest operands locals
  state-is operands globals locals =
      let outer : take p.first_local (take p.first_local p.locals ++ locals) ≡ take p.first_local p.locals = take-front p.first_local p.locals locals is.first_in in
      let inner : drop p.first_local (take p.first_local p.locals ++ locals) ≡ locals = drop-front p.first_local p.locals locals is.first_in in
      state_at-split m (after_it operands globals locals) operands is.below refl is.below_are ∙ rw (outer, inner) refl

  -- what was done of a typed want over all operands is the configuration's step
  executed-want : (w : OpWant) → OpWantTyped w op_is.0 scope → (memory : List ℕ) (answer : Operated) (after : Held) →
      IsDone (over is.below w) (record { operands = p.operands; globals = p.globals; locals = values; memory = memory }) spare answer after →
      ((place : ℕ → ℕ) → next (λ pages. nat_le pages spare) place (config_at m p) memory ≡ answered (λ pages. nat_le pages spare) place memory (then_wants w own_config rest)) →
      IsDoneAt m rooms spare p memory (answer_of answer) (operated_at after) after.memory
  executed-want Stuck' typed memory answer after done steps = absurd typed
  executed-want (Leaves left changed) typed memory answer after done steps =
      rw (done.0, done.1) (
        after_it-is left p.globals changed typed.0 is.globals_are typed.1,
        record { event = Silent; made = λ place. steps place ∙ rw (state-is left p.globals changed) refl; answered = λ running. tt },
      )
  executed-want (Sets left changed) typed memory answer after done steps =
      rw (done.0, done.1) (
        after_it-is left changed values typed.0 typed.1 is.locals_are,
        record { event = Silent; made = λ place. steps place ∙ rw (state-is left changed values) refl; answered = λ running. tt },
      )
  executed-want (Reads address width make) typed memory answer after done steps = ⊎_elim
      (λ inside.
      let d = rw inside at done in
      let n : ℕ = number_at memory address width in
      rw (d.0, d.1) (
        after_it-is (make n) p.globals values (typed n d.2) is.globals_are is.locals_are,
        record { event = Loads address width; made = λ place. steps place ∙ rw (inside, state-is (make n) p.globals values) refl; answered = λ running. tt },
      ))
      (λ outside.
      let d = rw outside at done in
      rw (d.0, d.1) (record { event = Traps trap.OutOfBounds; made = λ place. steps place ∙ rw outside refl; no_ask = tt; answered = refl }))
      (cases_Bool (nat_le (address + width) (length memory)))
  executed-want (Writes address width value left) typed memory answer after done steps = ⊎_elim
      (λ inside.
      let d = rw inside at done in
      rw (d.0, d.1) (
        after_it-is left p.globals values typed is.globals_are is.locals_are,
        record { event = Stores address width; made = λ place. steps place ∙ rw (inside, state-is left p.globals values) refl; answered = λ running. tt },
      ))
      (λ outside.
      let d = rw outside at done in
      rw (d.0, d.1) (record { event = Traps trap.OutOfBounds; made = λ place. steps place ∙ rw outside refl; no_ask = tt; answered = refl }))
      (cases_Bool (nat_le (address + width) (length memory)))
  executed-want (Sizes make) typed memory answer after done steps =
      let n : ℕ = pages_of memory in
      rw (done.0, done.1) (
        after_it-is (make n) p.globals values (typed n done.2) is.globals_are is.locals_are,
        record { event = Silent; made = λ place. steps place ∙ rw (state-is (make n) p.globals values) refl; answered = λ running. tt },
      )
  executed-want (Requests pages make) typed memory answer after done steps = ⊎_elim
      (λ granted.
      let d = rw granted at done in
      let n : ℕ = pages_of memory in
      let small : n < 2 ^ 32 = omega (arith, d.2) in
      rw (d.0, d.1) (
        after_it-is (make n) p.globals values (typed n small) is.globals_are is.locals_are,
        record {
          event = Grows pages true;
          made = λ place. steps place ∙ rw (granted, le-leb (pages_of memory + pages) most_pages d.2, state-is (make n) p.globals values) refl;
          answered = λ running. (refl, refl);
        },
      ))
      (λ refused.
      let d = rw refused at done in
      rw (d.0, d.1) (
        after_it-is (make refusal) p.globals values (typed refusal (omega arith)) is.globals_are is.locals_are,
        record { event = Grows pages false; made = λ place. steps place ∙ rw (refused, state-is (make refusal) p.globals values) refl; answered = λ running. refl },
      ))
      (cases_Bool (nat_le pages spare))
  executed-want (Fails' why) typed memory answer after done steps =
      rw (done.0, done.1) (record { event = Traps why; made = steps; no_ask = tt; answered = refl })

  -- an operator done is the configuration's step
  pub executed-operator : (memory : List ℕ) (answer : Operated) (after : Held) →
      IsDone (op_wants operator p.globals p.operands values) (record { operands = p.operands; globals = p.globals; locals = values; memory = memory }) spare answer after →
      (told : Stepped) (q : Point) → told ≡ answer_of answer → q ≡ operated_at after → IsDoneAt m rooms spare p memory told q after.memory
  executed-operator memory answer after done told q told_is q_is =
      let same : op_wants operator p.globals p.operands values ≡ over is.below (op_wants operator p.globals is.own values) =
      rw (is.operands_are) (wants-over operator p.globals is.own is.below values has) in
      rw (told_is, q_is) (executed-want (op_wants operator p.globals is.own values)
      (op_wants-typed scope operator is.before op_is.0 op_is.1 p.globals is.own values is.globals_are is.own_are is.locals_are)
      memory answer after
      (subst (λ (w : OpWant). IsDone w (record { operands = p.operands; globals = p.globals; locals = values; memory = memory }) spare answer after) same done)
      (λ place. ap (λ (c : Config). next (λ pages. nat_le pages spare) place c memory) (config-over is within (op operator rest) is.own code refl)))
