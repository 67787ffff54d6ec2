-- The runs of a module around a statement's code, and how many instructions it has.
use Rattle.std.proofs.Common.{◌≡◌, ℕ, ◌+◌, ◌≤◌, List, [], ◌∷◌, length, Some, None, refl, sym, ap, ap₂, ◌∙◌, subst, arith}
use Rattle.std.specs.Prelude.{slice_get, Option, IsSomeAnd, replicate, sum_by}
use Rattle.qw_types.specs.declared.value.Val.{Val}
use Rattle.qw_linear.specs.Memory.{page}
use Rattle.qw_module.specs.declared.instruction.ValType.{ValType}
use Rattle.qw_module.specs.declared.module.Function.{Function}
use Rattle.qw_module.specs.declared.module.Module.{Module}
use Rattle.qw_module.specs.Execution.{Store, State, host_raise, host_pages, own, label, settled}
use Rattle.qw_module.specs.Start.{begun, first_store, sequences_of_function, locals_of_function, weight, weight_with, weights_below, weight_of_function}
use Rattle.qw_module.specs.Syntax.{Code, Sequences, done, code_of}
use Rattle.qw_module.specs.Validity.{code_of_body, declared_types, imported_functions, sequences_of, IsOneI32, IsShaped}
use Rattle.qw_map.specs.Areas.{World}
use Rattle.qw_map.specs.Behaving.{beginning}
use Rattle.qw_map.specs.Layout.{Layout, IsReady, descriptor_size, first_world}
use Rattle.qw_map.specs.Runs.{Moment, OpenRun}
use Rattle.qw_map.specs.Seen.{Seen, seen}
use Rattle.qw_map.specs.declared.layout.Placed.{Placed}
use Rattle.qw_low.specs.Begin.{first_state}
use Rattle.qw_low.specs.Meaning.{meaning}
use Rattle.qw_low.specs.Places.{RunsAs, IsDone, Means}
use Rattle.qw_low.specs.Size.{size}
use Rattle.qw_low.specs.State.{Own, Address, Value}
use Rattle.qw_low.specs.Syntax.{Statement}
use Rattle.qw_low.specs.Translation.{statement_code}
use Rattle.qw_low.proofs.BeginLemmas.{ready-stands}
use Rattle.qw_low.proofs.CodeSize.{statement_size}
use Rattle.qw_low.proofs.OpenOutcomes.{low_runs}
use Rattle.qw_low.proofs.KeepStep.{course, keeps_step}
use Rattle.qw_emit.specs.Inner.Around.{IsAround}
use Rattle.qw_emit.specs.RunsOf.{first_locals, comes_to, RunsOf}
use Rattle.qw_emit.proofs.Around.{Parts, parts_of, imported_are, callees_are, store_is, the_store, run_closure}
use Rattle.qw_emit.proofs.Locals.{zeros-meant}
use Rattle.qw_emit.proofs.ModuleValid.{only_there}

function_there : (o : Option Function) (P : Function → Type 0) → IsSomeAnd o P → (run : Function) × (o ≡ Some run)
function_there None P h = absurd h
function_there (Some run) P h = (run, refl)

module _ (locals : List ValType) (sequences : Sequences) (a : Statement) (code_is : code_of sequences ≡ statement_code a done) where
  -- it calls only the host's functions, which have no instructions
  run_size : weights_below (host_raise ∷ host_pages ∷ own (run_closure locals sequences) ∷ []) 3 2 ≡ size a
  unfolding weights_below
  run_size =
      let nothing : size a + 0 ≡ size a = omega arith in
      ap (weight_with (weights_below (host_raise ∷ host_pages ∷ own (run_closure locals sequences) ∷ []) 2)) code_is
      ∙ statement_size (weights_below (host_raise ∷ host_pages ∷ own (run_closure locals sequences) ∷ []) 2) refl refl a done ∙ nothing

  module _ (m : Module) (is : IsAround locals sequences m) where
    abbrev parts : Parts locals sequences m
    parts = parts_of locals sequences m is

    -- the code of `run` is all that the module has
    pub all_size : sum_by (λ (function : Function). weight (code_of_body function.body)) m.functions.items ≡ size a
    all_size =
        let nothing : size a + 0 ≡ size a = omega arith in
        let body : weight (code_of_body parts.run.body) ≡ size a =
        ap (λ (body : Sequences). weight (code_of body)) parts.sequences_are ∙ ap (λ (code : Code). weight code) code_is ∙ statement_size (λ index. 0) refl refl a done ∙ nothing in
        rw parts.functions (omega (arith, body))

    module _ (number : ℕ) (is_shaped : IsShaped m number) where
      -- the function of the shape is the only one
      pub only : (number ≡ 0) × (slice_get m.functions.items number ≡ Some parts.run)
      only =
          let found = function_there (slice_get m.functions.items number) (λ (f : Function). IsOneI32 m f.type_index) is_shaped.run in
          let same = only_there m.functions.items found.0 parts.run number parts.functions found.1 in
          (same.0, found.1 ∙ ap Some same.1)

      pub called_size : weight_of_function m (length (imported_functions m) + number) ≡ size a
      called_size = rw (callees_are locals sequences m is parts, imported_are locals sequences m is parts, only.0) run_size

      begins : (store : Store) (o : Option Function) (run : Function) (argument : ℕ) → store ≡ the_store locals sequences → o ≡ Some run → sequences_of run.body ≡ sequences →
          declared_types run.locals.items ≡ locals →
          settled store (label done 0 [] done ∷ []) (code_of (sequences_of_function o)) [] (argument ∷ replicate (locals_of_function o) 0)
          ≡ settled (the_store locals sequences) (label done 0 [] done ∷ []) (code_of sequences) [] (argument ∷ replicate (length locals) 0)
      begins store o run argument same there body types =
          rw (same, there) (ap₂ (λ (q : Sequences) (ts : List ValType). settled (the_store locals sequences) (label done 0 [] done ∷ []) (code_of q) [] (argument ∷ replicate (length ts) 0)) body types)

      -- so a call begins at the statement's code, with its argument and zeros
      begun_is : (argument : ℕ) → begun m number argument
          ≡ settled (the_store locals sequences) (label done 0 [] done ∷ []) (statement_code a done) [] (argument ∷ replicate (length locals) 0)
      begun_is argument =
          begins (first_store m) (slice_get m.functions.items number) parts.run argument (store_is locals sequences m is parts) only.1 parts.sequences_are parts.locals_are
          ∙ ap (λ (code : Code). settled (the_store locals sequences) (label done 0 [] done ∷ []) code [] (argument ∷ replicate (length locals) 0)) code_is

      abbrev start : (descriptor limit : ℕ) → Layout → List Placed → List ℕ → State → Moment
      start descriptor limit layout placed memory state = record { world = first_world layout placed descriptor limit; state = state; memory = memory }

      abbrev first_means : (descriptor limit : ℕ) (layout : Layout) (placed : List Placed) → Means (first_world layout placed descriptor limit) (Address (Own 0) 0) descriptor
      first_means descriptor limit layout placed = (record { start = descriptor; size = page }, refl, omega arith, omega arith)

      runs_around : (most fuel descriptor limit : ℕ) (layout : Layout) (placed : List Placed) (tables : List (List (List Val))) (memory : List ℕ) → descriptor_size layout ≤ page → IsReady layout placed tables descriptor limit memory →
          RunsAs (comes_to most fuel a layout tables limit (length locals)) most (beginning m number layout placed descriptor limit memory)
      runs_around most fuel descriptor limit layout placed tables memory small ready =
          let values : List Value = first_locals (length locals) in
          let w : World = first_world layout placed descriptor limit in
          subst (λ (state : State). RunsAs (meaning most fuel a (first_state layout tables limit values)) most (start descriptor limit layout placed memory state)) (sym (begun_is descriptor))
          (low_runs most fuel a (first_state layout tables limit values) (the_store locals sequences) w memory (descriptor ∷ replicate (length locals) 0) (refl, refl)
          (ready-stands layout placed tables descriptor limit memory ready small values) (first_means descriptor limit layout placed, zeros-meant w (length locals)))

      course_around : (most fuel limit : ℕ) (layout : Layout) (tables : List (List (List Val))) → descriptor_size layout ≤ page →
          (course' : ℕ → Seen) × (IsDone (comes_to most fuel a layout tables limit (length locals)) → (k descriptor : ℕ) (placed : List Placed) (memory : List ℕ) (b : Moment) →
          IsReady layout placed tables descriptor limit memory → OpenRun k (beginning m number layout placed descriptor limit memory) b → seen b ≡ course' k)
      course_around most fuel limit layout tables small =
          let values : List Value = first_locals (length locals) in (
            course most fuel a (first_state layout tables limit values) (the_store locals sequences) (refl, refl),
            λ done' k descriptor placed memory b ready run.
                let w : World = first_world layout placed descriptor limit in
                keeps_step most fuel a (first_state layout tables limit values) (the_store locals sequences) (refl, refl) done' w memory (descriptor ∷ replicate (length locals) 0)
                (ready-stands layout placed tables descriptor limit memory ready small values) (first_means descriptor limit layout placed, zeros-meant w (length locals)) k b
                (subst (λ (state : State). OpenRun k (start descriptor limit layout placed memory state) b) (begun_is descriptor) run),
          )

    pub runs_of : RunsOf m a (length locals)
    runs_of = record {
      runs = λ most fuel number descriptor limit layout placed tables memory shaped. runs_around number shaped most fuel descriptor limit layout placed tables memory;
      course = λ most fuel number limit layout tables shaped. course_around number shaped most fuel limit layout tables;
    }
