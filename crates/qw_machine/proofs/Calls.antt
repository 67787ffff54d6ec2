-- A call, executed at a point, against the configuration's step: of a function of the host's, and of an own one.
use Rattle.std.proofs.Common.{◌≡◌, ℕ, suc, ◌+◌, ◌-◌, ◌<◌, ◌≤◌, ◌^◌, nat_le, Bool, List, [], ◌∷◌, ◌++◌, length, map, take, drop, reverse, replicate, Option, Some, None, slice_get, refl, sym, ap, subst, ◌∙◌, arith, length-append, length-drop, append_assoc}
use Rattle.std.specs.List.{filter_map, AllByRecursion}
use Rattle.std.proofs.Math.Seq.{drop-append_seam, take-append_seam}
use Rattle.std.proofs.lemmas.Bool.{le-leb}
use Rattle.std.proofs.lemmas.List.{length-reverse, reverse-reverse, length-map, take-append-le, drop-append-le}
use Rattle.std.specs.Option.{option_map}
use Rattle.std.proofs.lemmas.Option.{same_Some, none-some, slice_get_within, slice_get-get_or, slice_get-map}
use Rattle.qw_module.specs.declared.instruction.ValType.{ValType}
use Rattle.qw_module.specs.declared.instruction.ValType.TheVariants.{I32}
use Rattle.qw_module.specs.declared.instruction.Instr.{Instr}
use Rattle.qw_module.specs.declared.instruction.Instr.TheVariants as i
use Rattle.qw_module.specs.declared.module.Function.{Function}
use Rattle.qw_module.specs.declared.module.Import.{Import}
use Rattle.qw_module.specs.declared.module.Import.TheVariants as import
use Rattle.qw_module.specs.declared.module.Module.{Module}
use Rattle.qw_valid.specs.declared.heights.Heights.{Heights}
use Rattle.qw_machine.specs.declared.hosts.Host.{Host}
use Rattle.qw_machine.specs.declared.hosts.Host.TheVariants as host
use Rattle.qw_machine.specs.Inner.Hosts.{callee_of}
use Rattle.qw_machine.specs.declared.room.Rooms.{Rooms}
use Rattle.qw_machine.specs.declared.stepped.Stepped.TheVariants.{Ran}
use Rattle.qw_machine.specs.declared.stepped.Stepped.TheVariants as stepped
use Rattle.qw_module.specs.Syntax.{Code, call, sequence_at}
use Rattle.qw_module.specs.Execution.{Callee, host_raise, host_pages, own, Config, State, Returned, Silent, Raises, goes_on, invoked}
use Rattle.qw_module.specs.Step.{Want, Goes, AsksPlace, Signals, wants, answered}
use Rattle.qw_module.specs.Typing.{Signature, Outside, Scope, scope_of, Typed}
use Rattle.qw_module.specs.Soundness.{AreOf, raise_signature, pages_signature, IsClosureOf, IsCalleeOf}
use Rattle.qw_valid.specs.Heights.{parameters_at, results_at, StaysWithin}
use Rattle.qw_module.specs.Start.{host_of, closure_of, callees_of, body_of}
use Rattle.qw_module.specs.Validity.{imported_function, imported_functions, functions_of, signature_in, outside_of, CallsBelow}
use Rattle.qw_module.proofs.Sound.{AreOf-length, AreOf-append, AreOf-take, AreOf-drop, AreOf-reverse, AreOf-zeros, callee_there}
use Rattle.qw_module.proofs.TypedOperands.{first_of_types}
use Rattle.qw_module.proofs.TypedParts.{Parts, parts}
use Rattle.qw_machine.specs.Inner.Points.{code_at, instructions_at, Point, base_of, contexts_of, store_with, state_at, config_at, in_body, called_at, has_result, after_answer}
use Rattle.qw_machine.specs.Inner.Rooms.{bounds_of, locals_of, needed_below, HasRoom}
use Rattle.qw_machine.specs.Inner.Placed.{IsExecuted, AreAwaiting, IsPoint}
use Rattle.qw_machine.specs.Instance.{AsksFor}
use Rattle.qw_machine.specs.Inner.Activities.{IsDoneAt}
use Rattle.qw_machine.proofs.Begins.{callees_are}
use Rattle.qw_machine.proofs.Around.{own_fits}
use Rattle.qw_machine.proofs.Bodies.{leaves-are, body-room, IsBegun, begun-point, begun-state}
use Rattle.qw_machine.proofs.Functions.{element_there, body_is}
use Rattle.qw_machine.proofs.ListFacts.{all-at, get-first, get-second, above-append, under-append}
use Rattle.qw_machine.proofs.Points.{code_in-instruction, state_at-split, config_at-split}
use Rattle.qw_machine.proofs.Rooms.{IsWithin, needed_below-mono}
use Rattle.qw_machine.proofs.Stays.{bounds-are, parameters-are, results-are, stays-on}

-- ---- which function an index names: an imported one is the host's
hosts-length : (imports : List Import) → length (filter_map host_of imports) ≡ length (filter_map imported_function imports)
hosts-length [] = refl
hosts-length (import.Memory limits ∷ imports) = hosts-length imports
hosts-length (import.Raise type ∷ imports) = ap suc (hosts-length imports)
hosts-length (import.Pages type ∷ imports) = ap suc (hosts-length imports)

host-at : (m : Module) (index : ℕ) → index < length (imported_functions m) → slice_get (callees_of m) index ≡ slice_get (filter_map host_of m.imports.items) index
host-at m index imported =
    let inside : index < length (filter_map host_of m.imports.items) = omega (arith, imported, hosts-length m.imports.items) in
    get-first (filter_map host_of m.imports.items) (map (λ (f : Function). own (closure_of m f)) m.functions.items) index inside

-- which one, as the imports were looked up
pub host-linked : (m : Module) (index : ℕ) → index < length (imported_functions m) → (found : Option Host) →
    option_map callee_of found ≡ slice_get (filter_map host_of m.imports.items) index → (h : Host) × (found ≡ Some h) × (slice_get (callees_of m) index ≡ Some (callee_of h))
host-linked m index imported (Some h) read = (h, refl, host-at m index imported ∙ sym read)
host-linked m index imported None read =
    let inside : index < length (filter_map host_of m.imports.items) = omega (arith, imported, hosts-length m.imports.items) in
    absurd (none-some _ (read ∙ slice_get-get_or (filter_map host_of m.imports.items) index host_raise inside))

pub host-named : (m : Module) (index : ℕ) → index < length (imported_functions m) → (found : Option Host) (h : Host) →
    option_map callee_of found ≡ slice_get (filter_map host_of m.imports.items) index → found ≡ Some h → slice_get (callees_of m) index ≡ Some (callee_of h)
host-named m index imported found h read same = host-at m index imported ∙ sym read ∙ ap (option_map callee_of) same

own-at : (m : Module) (index number : ℕ) (function : Function) → index ≡ length (imported_functions m) + number →
    slice_get m.functions.items number ≡ Some function → slice_get (callees_of m) index ≡ Some (own (closure_of m function))
own-at m index number function is found =
    let e : index ≡ length (filter_map host_of m.imports.items) + number = omega (arith, is, hosts-length m.imports.items) in
    ap (slice_get (callees_of m)) e ∙ get-second (filter_map host_of m.imports.items) (map (λ (f : Function). own (closure_of m f)) m.functions.items) number
    ∙ slice_get-map (λ (f : Function). own (closure_of m f)) m.functions.items number ∙ rw found refl

-- a function that has a type is imported or an own one
functions-many : (m : Module) (index : ℕ) (signature : Signature) → slice_get ((outside_of m).functions) index ≡ Some signature →
    index < length (imported_functions m) + length m.functions.items
functions-many m index signature found =
    let inside = slice_get_within ((outside_of m).functions) index signature found in
    omega (
      arith,
      inside,
      length-map (functions_of m) (signature_in m),
      length-append (imported_functions m) (map (λ (f : Function). f.type_index) m.functions.items),
      length-map m.functions.items (λ (f : Function). f.type_index),
    )

same-callee : (outside : Outside) (callee other : Callee) (signature : Signature) → callee ≡ other → IsCalleeOf outside callee signature → IsCalleeOf outside other signature
same-callee outside callee other signature same is = subst (λ (c : Callee). IsCalleeOf outside c signature) same is

-- two requests that are one make the same of an answer
abbrev made_by : Want → ℕ → State
made_by (AsksPlace pages make) value = make value
made_by _ value = Returned

same-made : (pages other : ℕ) (make also : ℕ → State) (value : ℕ) → AsksPlace pages make ≡ AsksPlace other also → make value ≡ also value
same-made pages other make also value same = ap (λ (w : Want). made_by w value) same

-- ---- a call at a point
module _ (m : Module) (executed : IsExecuted m) {rooms : Rooms} {p : Point} (is : IsPoint m rooms p)
    (index : ℕ) (found : slice_get (instructions_at m p.function p.sequence) p.index ≡ Some (i.Call index)) where
  abbrev rest : Code
  rest = code_at m p.function p.sequence (p.index + 1)

  abbrev scope : Scope
  scope = scope_of (outside_of m) is.locals is.results is.labels

  call_code : code_at m p.function p.sequence p.index ≡ call index rest
  call_code = code_in-instruction (body_of m p.function) p.sequence p.index (i.Call index) found

  called : Parts scope (call index rest) is.before is.ends
  called = parts scope (call index rest) is.before is.ends (subst (λ (code : Code). Typed scope code is.before is.ends) call_code is.typed)

  stays_called : StaysWithin ((outside_of m).functions) is.operands_most is.labels_most (call index rest) (length is.own)
  stays_called = subst (λ (code : Code). StaysWithin ((outside_of m).functions) is.operands_most is.labels_most code (length is.own)) call_code is.stays

  abbrev signature : Signature
  signature = called.0

  -- the operands below the arguments
  abbrev others_types : List ValType
  others_types = called.1

  inside : p.index < length (instructions_at m p.function p.sequence)
  inside = slice_get_within (instructions_at m p.function p.sequence) p.index (i.Call index) found

  callee : (c : Callee) × (slice_get (callees_of m) index ≡ Some c) × IsCalleeOf (outside_of m) c signature
  callee = callee_there (outside_of m) (callees_of m) ((outside_of m).functions) index signature (callees_are m executed.valid executed.linked) called.2

  arguments_are : AreOf is.own (reverse signature.params ++ others_types)
  arguments_are = subst (AreOf is.own) called.3 is.own_are

  -- the configuration, with the call as its first instruction
  abbrev calling : Config
  calling = record {
    store = store_with m p.globals;
    code = call index rest;
    operands = is.own;
    locals = drop p.first_local p.locals;
    contexts = contexts_of m p.function p.awaiting is.below (take p.first_local p.locals);
  }

  config_is : config_at m p ≡ calling
  config_is = config_at-split m p is.own is.below is.operands_are is.below_are
      ∙ ap (λ (code : Code). let c : Config = record {
        store = store_with m p.globals;
        code = code;
        operands = is.own;
        locals = drop p.first_local p.locals;
        contexts = contexts_of m p.function p.awaiting is.below (take p.first_local p.locals);
      } in c) call_code

  -- ---- of a function of the host's, which takes one i32
  module _ (results : List ValType) (called_host : Callee) (linked : slice_get (callees_of m) index ≡ Some called_host)
      (typed : (s : Signature) → IsCalleeOf (outside_of m) called_host s → s ≡ record { params = I32 ∷ []; results = results }) where
    host_type : signature ≡ record { params = I32 ∷ []; results = results }
    host_type =
        let same : callee.0 ≡ called_host = same_Some callee.0 called_host (sym callee.1 ∙ linked) in
        typed signature (same-callee (outside_of m) callee.0 called_host signature same callee.2)

    argument_there : (v : ℕ) × (more : List ℕ) × (is.own ≡ v ∷ more) × (v < 2 ^ 32) × AreOf more others_types
    argument_there =
        let are : AreOf is.own (I32 ∷ others_types) = subst (λ (s : Signature). AreOf is.own (reverse s.params ++ others_types)) host_type arguments_are in
        let first = first_of_types is.own I32 others_types are in
        (first.0, first.1, first.2, first.3, first.4)

    argument-some : 0 < length p.operands
    argument-some = omega (arith, ap length is.operands_are, length-append is.own is.below, ap length argument_there.2)

    -- what is on top is the argument
    argument-first : (value : ℕ) (operands : List ℕ) → p.operands ≡ value ∷ operands → value ≡ argument_there.0
    argument-first value operands popped =
        let whole : value ∷ operands ≡ argument_there.0 ∷ (argument_there.1 ++ is.below) =
        sym popped ∙ is.operands_are ∙ ap (λ (xs : List ℕ). xs ++ is.below) argument_there.2 in
        cc whole

    argument-small : (value : ℕ) (operands : List ℕ) → p.operands ≡ value ∷ operands → value < 2 ^ 32
    argument-small value operands popped = omega (arith, argument-first value operands popped, argument_there.3)

  -- ---- of `raise`
  module _ (linked : slice_get (callees_of m) index ≡ Some host_raise) where
    raise_is : (s : Signature) → IsCalleeOf (outside_of m) host_raise s → s ≡ raise_signature
    raise_is s same = same

    pub raise-operand : 0 < length p.operands
    raise-operand = argument-some [] host_raise linked raise_is

    pub raise-small : (code : ℕ) (operands : List ℕ) → p.operands ≡ code ∷ operands → code < 2 ^ 32
    raise-small = argument-small [] host_raise linked raise_is

    calling-raise : (v : ℕ) (more : List ℕ) → is.own ≡ v ∷ more → wants calling ≡ Signals v
    calling-raise v more are = rw (linked, are) refl

    pub done-raise : (spare code : ℕ) (operands memory : List ℕ) (q : Point) → p.operands ≡ code ∷ operands → IsDoneAt m rooms spare p memory (stepped.Raised code) q memory
    done-raise spare code operands memory q popped =
        let there = argument_there [] host_raise linked raise_is in
        let raises = ap wants config_is ∙ calling-raise there.0 there.1 there.2 ∙ ap Signals (sym (argument-first [] host_raise linked raise_is code operands popped)) in
        record {
          event = Raises code;
          made = λ place. ap (answered (λ pages. nat_le pages spare) place memory) raises;
          no_ask = tt;
          answered = refl;
        }

  -- ---- of `pages`
  module _ (linked : slice_get (callees_of m) index ≡ Some host_pages) where
    pages_is : (s : Signature) → IsCalleeOf (outside_of m) host_pages s → s ≡ pages_signature
    pages_is s same = same

    pub pages-operand : 0 < length p.operands
    pages-operand = argument-some (I32 ∷ []) host_pages linked pages_is

    pub pages-small : (value : ℕ) (operands : List ℕ) → p.operands ≡ value ∷ operands → value < 2 ^ 32
    pages-small = argument-small (I32 ∷ []) host_pages linked pages_is

    abbrev pages_argument : (v : ℕ) × (more : List ℕ) × (is.own ≡ v ∷ more) × (v < 2 ^ 32) × AreOf more others_types
    pages_argument = argument_there (I32 ∷ []) host_pages linked pages_is

    abbrev beneath : List ℕ
    beneath = pages_argument.1

    -- the state that it leads to by what the host answers
    abbrev pages_state : ℕ → State
    pages_state first = goes_on calling rest (first ∷ beneath) calling.locals

    calling-pages : (v : ℕ) (more : List ℕ) → is.own ≡ v ∷ more → wants calling ≡ AsksPlace v (λ first. goes_on calling rest (first ∷ more) calling.locals)
    calling-pages v more are = rw (linked, are) refl

    pages-wants : wants (config_at m p) ≡ AsksPlace pages_argument.0 pages_state
    pages-wants = ap wants config_is ∙ calling-pages pages_argument.0 beneath pages_argument.2

    pub pages-asked : (pages : ℕ) (operands : List ℕ) → p.operands ≡ pages ∷ operands → AsksFor pages (config_at m p)
    pages-asked pages operands popped =
        (pages_state, pages-wants ∙ ap (λ (n : ℕ). AsksPlace n pages_state) (sym (argument-first (I32 ∷ []) host_pages linked pages_is pages operands popped)))

    pub done-pages : (spare pages : ℕ) (operands memory : List ℕ) → p.operands ≡ pages ∷ operands → p.index < 2 ^ 64 - 1 →
        IsDoneAt m rooms spare p memory (stepped.Asked pages) p memory
    done-pages spare pages operands memory popped fits = (
      record { point = is; unfinished = inside },
      record { index = index; calls = found; fits = fits; host = linked; others = operands; operands_are = popped },
      pages-asked pages operands popped,
      refl,
      refl,
    )

    -- the point after the host's answer
    module _ (value : ℕ) (small : value < 2 ^ 32) where
      told_operands : value ∷ drop 1 p.operands ≡ (value ∷ beneath) ++ is.below
      told_operands = ap (λ (xs : List ℕ). value ∷ drop 1 xs) (is.operands_are ∙ ap (λ (xs : List ℕ). xs ++ is.below) pages_argument.2)

      told_typed : Typed scope rest (I32 ∷ others_types) is.ends
      told_typed = subst (λ (s : Signature). Typed scope rest (reverse s.results ++ others_types) is.ends) (host_type (I32 ∷ []) host_pages linked pages_is) called.4

      told_many : length is.own - parameters_at ((outside_of m).functions) index + results_at ((outside_of m).functions) index ≡ length (value ∷ beneath)
      told_many = omega (
        arith,
        parameters-are ((outside_of m).functions) index signature called.2,
        results-are ((outside_of m).functions) index signature called.2,
        ap (λ (s : Signature). length s.params) (host_type (I32 ∷ []) host_pages linked pages_is),
        ap (λ (s : Signature). length s.results) (host_type (I32 ∷ []) host_pages linked pages_is),
        ap length pages_argument.2,
      )

      pub told-point : IsPoint m rooms (after_answer p value)
      told-point = record {
        own = value ∷ beneath;
        below = is.below;
        locals = is.locals;
        results = is.results;
        labels = is.labels;
        before = I32 ∷ others_types;
        ends = is.ends;
        operands_are = told_operands;
        below_are = is.below_are;
        own_are = (small, pages_argument.4);
        has_locals = is.has_locals;
        typed = told_typed;
        index_in = omega (arith, inside);
        operands_most = is.operands_most;
        labels_most = is.labels_most;
        stays = stays-on ((outside_of m).functions) rest is.operands_most is.labels_most
            (length is.own - parameters_at ((outside_of m).functions) index + results_at ((outside_of m).functions) index)
            (length (value ∷ beneath)) told_many stays_called.1;
        room = is.room;
        awaiting = is.awaiting;
      }

      told-is : state_at m (after_answer p value) ≡ pages_state value
      told-is = state_at-split m (after_answer p value) (value ∷ beneath) is.below told_operands is.below_are

      -- is what the request makes of it
      pub told-state : (pages : ℕ) (make : ℕ → State) → wants (config_at m p) ≡ AsksPlace pages make → state_at m (after_answer p value) ≡ make value
      told-state pages make wanted = told-is ∙ same-made pages_argument.0 pages pages_state make value (sym pages-wants ∙ wanted)

  -- ---- of either
  pub host-argument : (h : Host) → slice_get (callees_of m) index ≡ Some (callee_of h) →
      (0 < length p.operands) × ((value : ℕ) (operands : List ℕ) → p.operands ≡ value ∷ operands → value < 2 ^ 32)
  host-argument host.Raise linked = (raise-operand linked, raise-small linked)
  host-argument host.Pages linked = (pages-operand linked, pages-small linked)

  -- ---- of an own function
  module _ (number : ℕ) (own_is : index ≡ length (imported_functions m) + number) where
    pub own-there : number < length m.functions.items
    own-there = omega (arith, own_is, functions-many m index signature called.2)

    -- it is below the one that runs
    own-below : number < p.function
    own-below =
        let running = element_there m.functions.items p.function is.room.own in
        let each = executed.descends p.function running.0 running.1 in
        let all : AllByRecursion (AllByRecursion (CallsBelow (length (imported_functions m) + p.function))) (body_of m p.function).each = rw (body_is m p.function running.0 running.1) each in
        let sequence = element_there (body_of m p.function).each p.sequence is.room.numbered in
        let here : sequence_at (body_of m p.function) p.sequence ≡ sequence.0 = rw sequence.1 refl in
        let calls = all-at (AllByRecursion (CallsBelow (length (imported_functions m) + p.function))) (body_of m p.function).each p.sequence sequence.0 all sequence.1 in
        let less : index < length (imported_functions m) + p.function =
        all-at (CallsBelow (length (imported_functions m) + p.function)) sequence.0 p.index (i.Call index) calls (subst (λ (xs : List Instr). slice_get xs p.index ≡ Some (i.Call index)) here found) in
        omega (arith, less, own_is)

    abbrev heights : List Heights
    heights = is.room.heights

    needs : IsWithin (needed_below m heights (suc number)) (needed_below m heights p.function)
    needs = needed_below-mono m heights number p.function own-below

    pub own-awaiting : length p.awaiting + 2 ≤ rooms.awaiting
    own-awaiting = omega (arith, needs.awaiting, is.room.awaiting)

    locals-long : length p.locals ≡ p.first_local + locals_of m p.function
    locals-long = omega (arith, length-drop p.first_local p.locals, is.first_in, AreOf-length (drop p.first_local p.locals) is.locals is.locals_are, is.all_locals)

    module _ (function : Function) (there : slice_get m.functions.items number ≡ Some function) where
      abbrev params : ℕ
      params = (closure_of m function).params

      abbrev declared : ℕ
      declared = (closure_of m function).declared

      abbrev leaves : Bool
      leaves = has_result m function

      closure_is : IsClosureOf (outside_of m) (closure_of m function) signature
      closure_is =
          let same : callee.0 ≡ own (closure_of m function) = same_Some callee.0 (own (closure_of m function)) (sym callee.1 ∙ own-at m index number function own_is there) in
          same-callee (outside_of m) callee.0 (own (closure_of m function)) signature same callee.2

      needs-locals : locals_of m number ≡ params + declared
      needs-locals = rw there refl

      pub own-locals : length p.locals + params + declared ≤ rooms.locals
      own-locals = omega (arith, needs.locals, is.room.locals, locals-long, needs-locals)

      params_are : params ≡ length (reverse signature.params)
      params_are = closure_is.params_are ∙ sym (length-reverse signature.params)

      params_in : params ≤ length is.own
      params_in = omega (arith, params_are, AreOf-length is.own (reverse signature.params ++ others_types) arguments_are, length-append (reverse signature.params) others_types)

      pub own-operands : params ≤ length p.operands
      own-operands = omega (arith, params_in, ap length is.operands_are, length-append is.own is.below)

      -- where the function is entered
      abbrev q : Point
      q = called_at p params declared leaves

      taken : take params p.operands ≡ take params is.own
      taken = ap (take params) is.operands_are ∙ take-append-le params is.own is.below params_in

      left_operands : drop params p.operands ≡ drop params is.own ++ is.below
      left_operands = ap (drop params) is.operands_are ∙ drop-append-le params is.own is.below params_in

      -- the locals of the frames below, and those of the function
      abbrev values : List ℕ
      values = reverse (take params p.operands) ++ replicate declared 0

      split_locals : q.locals ≡ p.locals ++ values
      split_locals = append_assoc p.locals (reverse (take params p.operands)) (replicate declared 0)

      new_locals : drop q.first_local q.locals ≡ reverse (take params is.own) ++ replicate declared 0
      new_locals =
          ap (drop (length p.locals)) split_locals ∙ drop-append_seam p.locals values
          ∙ ap (λ (xs : List ℕ). reverse xs ++ replicate declared 0) taken

      old_locals : take q.first_local q.locals ≡ p.locals
      old_locals = ap (take (length p.locals)) split_locals ∙ take-append_seam p.locals values

      arguments : AreOf (take params is.own) (reverse signature.params)
      arguments = rw params_are (AreOf-take is.own (reverse signature.params) others_types arguments_are)

      others : AreOf (drop params is.own) others_types
      others = rw params_are (AreOf-drop is.own (reverse signature.params) others_types arguments_are)

      new_locals-are : AreOf (drop q.first_local q.locals) (signature.params ++ closure_is.declared)
      new_locals-are =
          let first : AreOf (reverse (take params is.own)) signature.params =
          subst (AreOf (reverse (take params is.own))) (reverse-reverse signature.params)
          (AreOf-reverse (take params is.own) (reverse signature.params) arguments) in
          rw (new_locals, closure_is.declared_are)
          (AreOf-append (reverse (take params is.own)) (replicate (length closure_is.declared) 0) signature.params closure_is.declared first (AreOf-zeros closure_is.declared))

      entered_room : HasRoom m rooms number (length (body_of m number).each - 1) (length q.operands + (bounds_of heights number).operands)
          (suc (length q.awaiting) + (bounds_of heights number).labels) q.first_local
      entered_room =
          body-room m rooms heights number (length q.operands) (length q.awaiting) q.first_local is.room.bounds executed.valid own-there
          (omega (arith, own_fits is inside, needs.operands, is.room.operands, ap length left_operands, length-append (drop params is.own) is.below, length-drop params is.own))
          (omega (arith, needs.awaiting, is.room.awaiting))
          (omega (arith, needs.locals, is.room.locals, locals-long))

      caller-awaits : AreAwaiting m rooms number q.first_local (signature.params ++ closure_is.declared) (reverse signature.results) [] (reverse signature.results) q.awaiting q.operands p.locals
      caller-awaits = (
        refl,
        refl,
        record {
          own = drop params is.own;
          below = is.below;
          types = others_types;
          locals = is.locals;
          outer_results = is.results;
          labels = is.labels;
          next = is.ends;
          operands_are = left_operands;
          below_are = is.below_are;
          own_are = others;
          leaves_are = leaves-are m number function executed.valid there ∙ closure_is.results_are ∙ sym (length-reverse signature.results);
          first_in = is.first_in;
          locals_are = is.locals_are;
          all_locals = is.all_locals;
          floor_is = is.floor_is;
          after_typed = called.4;
          after_in = omega (arith, inside);
          operands_most = is.operands_most;
          labels_most = is.labels_most;
          after_within = stays-on ((outside_of m).functions) rest is.operands_most is.labels_most
              (length is.own - parameters_at ((outside_of m).functions) index + results_at ((outside_of m).functions) index)
              (length (drop params is.own) + length (reverse signature.results))
              (omega (
                arith,
                parameters-are ((outside_of m).functions) index signature called.2,
                results-are ((outside_of m).functions) index signature called.2,
                length-drop params is.own,
                closure_is.params_are,
                length-reverse signature.results,
              ))
              stays_called.1;
          room = is.room;
        },
        is.awaiting,
      )

      called-begun : IsBegun m rooms q number function signature closure_is
      called-begun = record {
        has_locals = record {
          first_in = omega (arith, ap length split_locals, length-append p.locals values);
          locals_are = new_locals-are;
          all_locals = omega (arith, length-append signature.params closure_is.declared, closure_is.params_are, closure_is.declared_are, needs-locals);
          globals_are = is.globals_are;
          floor_is = refl;
        };
        base_is = refl;
        operands_most = (bounds_of heights number).operands;
        labels_most = (bounds_of heights number).labels;
        needs_are = bounds-are m heights number function is.room.bounds there;
        room = entered_room;
        awaiting = rw old_locals caller-awaits;
      }

      called-point : IsPoint m rooms (in_body m q number leaves)
      called-point = begun-point m executed rooms q number function there signature closure_is called-begun

      called-state : state_at m (in_body m q number leaves) ≡ invoked calling (closure_of m function) rest
      called-state = begun-state m executed rooms q number function there signature closure_is refl
          ∙ rw (
            old_locals,
            new_locals,
            left_operands,
            above-append (base_of p.awaiting) (drop params is.own) is.below is.below_are,
            under-append (base_of p.awaiting) (drop params is.own) is.below is.below_are,
            leaves-are m number function executed.valid there,
          ) refl

      calling-own : wants calling ≡ Goes (invoked calling (closure_of m function) rest)
      calling-own = rw (own-at m index number function own_is there, le-leb params (length is.own) params_in) refl

      own-wants : wants (config_at m p) ≡ Goes (state_at m (in_body m q number leaves))
      own-wants = ap wants config_is ∙ calling-own ∙ ap Goes (sym called-state)

      done-own : (spare : ℕ) (memory : List ℕ) → IsDoneAt m rooms spare p memory Ran (in_body m q number leaves) memory
      done-own spare memory = (
        called-point,
        record {
          event = Silent;
          made = λ place. ap (answered (λ pages. nat_le pages spare) place memory) own-wants;
          answered = λ running. tt;
        },
      )

    -- an own function was entered
    pub done-call : (spare : ℕ) (q : Point) (memory : List ℕ) →
        ((function : Function) → slice_get m.functions.items number ≡ Some function →
        q ≡ in_body m (called_at p (closure_of m function).params (closure_of m function).declared (has_result m function)) number (has_result m function)) →
        IsDoneAt m rooms spare p memory Ran q memory
    done-call spare q memory enters =
        let there = element_there m.functions.items number own-there in
        rw (enters there.0 there.1) (done-own there.0 there.1 spare memory)
