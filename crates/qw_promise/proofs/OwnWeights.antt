-- How many instructions a module's own function has with those that it calls, whatever the module imports.
use Rattle.std.proofs.Common.{◌≡◌, ℕ, zero, suc, ◌+◌, ◌<◌, ◌≤◌, List, [], ◌∷◌, ◌++◌, length, map, Some, slice_get, refl, sym, ap, ap₂, ◌∙◌, ⊎_elim, arith}
use Rattle.std.specs.List.{filter_map}
use Rattle.std.specs.Option.{option_map}
use Rattle.std.proofs.lemmas.Bool.{eq-eqb, ne_eqb, cases_eq}
use Rattle.std.proofs.lemmas.List.{length-append, length-map}
use Rattle.std.proofs.lemmas.Option.{slice_get-map, slice_get_within}
use Rattle.qw_module.specs.declared.module.Import.{Import}
use Rattle.qw_module.specs.declared.module.Import.TheVariants as import
use Rattle.qw_module.specs.declared.module.Function.{Function}
use Rattle.qw_module.specs.declared.module.Module.{Module}
use Rattle.qw_module.specs.Execution.{Callee, own}
use Rattle.qw_module.specs.Start.{host_of, closure_of, callees_of, weight_with, weight_of_callee, weights_below}
use Rattle.qw_module.specs.Validity.{code_of_body, imported_function, imported_functions}
use Rattle.qw_promise.specs.Compiled.{weight_of}

-- the functions below one suffice for its own weight
weights-at : (callees : List Callee) (n index : ℕ) → index < n →
    weights_below callees n index ≡ weight_of_callee (weights_below callees index) (slice_get callees index)
unfolding weights_below
weights-at callees zero index below = absurd (omega arith)
weights-at callees (suc n) index below = ⊎_elim
    (λ last. rw (eq-eqb index n last) (ap (λ (k : ℕ). weight_of_callee (weights_below callees k) (slice_get callees k)) (sym last)))
    (λ earlier. rw (ne_eqb index n earlier) (weights-at callees n index (omega arith)))
    (cases_eq index n)

-- where there is no function there are no instructions
weights-past : (callees : List Callee) (n index : ℕ) → n ≤ index → weights_below callees n index ≡ 0
unfolding weights_below
weights-past callees zero index past = refl
weights-past callees (suc n) index past = rw (ne_eqb index n (λ same. omega arith)) (weights-past callees n index (omega arith))

-- the host gives as many functions as are imported
hosts-many : (imports : List Import) → length (filter_map host_of imports) ≡ length (filter_map imported_function imports)
hosts-many [] = refl
hosts-many (import.Memory limits ∷ imports) = hosts-many imports
hosts-many (import.Raise type ∷ imports) = ap suc (hosts-many imports)
hosts-many (import.Pages type ∷ imports) = ap suc (hosts-many imports)

get-behind : {A : Type 0} (xs ys : List A) (k : ℕ) → slice_get (xs ++ ys) (length xs + k) ≡ slice_get ys k
get-behind [] ys k = let same : 0 + k ≡ k = omega arith in rw same refl
get-behind (x ∷ xs) ys k = let same : suc (length xs) + k ≡ suc (length xs + k) = omega arith in rw same (get-behind xs ys k)

module _ (m : Module) where
  callees-many : length (callees_of m) ≡ length (imported_functions m) + length m.functions.items
  callees-many =
      length-append (filter_map host_of m.imports.items) (map (λ function. own (closure_of m function)) m.functions.items)
      ∙ ap₂ (λ (a b : ℕ). a + b) (hosts-many m.imports.items) (length-map m.functions.items (λ function. own (closure_of m function)))

  callee-there : (number : ℕ) (f : Function) → slice_get m.functions.items number ≡ Some f →
      slice_get (callees_of m) (length (imported_functions m) + number) ≡ Some (own (closure_of m f))
  callee-there number f there =
      ap (λ (k : ℕ). slice_get (callees_of m) (k + number)) (sym (hosts-many m.imports.items))
      ∙ get-behind (filter_map host_of m.imports.items) (map (λ function. own (closure_of m function)) m.functions.items) number
      ∙ slice_get-map (λ function. own (closure_of m function)) m.functions.items number
      ∙ ap (option_map (λ function. own (closure_of m function))) there

  pub weight-own : (number : ℕ) (f : Function) → slice_get m.functions.items number ≡ Some f →
      weight_of m number ≡ weight_with (weights_below (callees_of m) (length (imported_functions m) + number)) (code_of_body f.body)
  weight-own number f there =
      let index : ℕ = length (imported_functions m) + number in
      let within : number < length m.functions.items = slice_get_within m.functions.items number f there in
      weights-at (callees_of m) (length (callees_of m)) index (omega (arith, callees-many))
      ∙ ap (weight_of_callee (weights_below (callees_of m) index)) (callee-there number f there)

  pub weight-none : (number : ℕ) → length m.functions.items ≤ number → weight_of m number ≡ 0
  weight-none number past =
      weights-past (callees_of m) (length (callees_of m)) (length (imported_functions m) + number) (omega (arith, callees-many))

  -- what a call of either of the host's functions has, and of an own one
  pub weight-host : (n : ℕ) → 0 < n → m.imports.items ≡ import.Raise 0 ∷ [] → weights_below (callees_of m) n 0 ≡ 0
  weight-host n some imports =
      weights-at (callees_of m) n 0 some
      ∙ ap (λ (imports : List Import).
      weight_of_callee (weights_below (callees_of m) 0) (slice_get (filter_map host_of imports ++ map (λ function. own (closure_of m function)) m.functions.items) 0)) imports

  pub weight-asked : (n : ℕ) → 1 < n → m.imports.items ≡ import.Raise 0 ∷ import.Pages 1 ∷ [] → weights_below (callees_of m) n 1 ≡ 0
  weight-asked n some imports =
      weights-at (callees_of m) n 1 some
      ∙ ap (λ (imports : List Import).
      weight_of_callee (weights_below (callees_of m) 1) (slice_get (filter_map host_of imports ++ map (λ function. own (closure_of m function)) m.functions.items) 1)) imports

  pub weight-called : (n index number : ℕ) (f : Function) → slice_get m.functions.items number ≡ Some f →
      length (imported_functions m) + number ≡ index → index < n → weights_below (callees_of m) n index ≡ weight_of m number
  weight-called n index number f there is below =
      let own_index : ℕ = length (imported_functions m) + number in
      ap (weights_below (callees_of m) n) (sym is)
      ∙ weights-at (callees_of m) n own_index (omega (arith, is))
      ∙ ap (weight_of_callee (weights_below (callees_of m) own_index)) (callee-there number f there)
      ∙ sym (weight-own number f there)
