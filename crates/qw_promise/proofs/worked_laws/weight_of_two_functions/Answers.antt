use Rattle.std.proofs.Common.{◌≡◌, ◌+◌, ℕ, List, Some, length, ap, refl, ◌∙◌, arith}
use Rattle.std.specs.List.{filter_map}
use Rattle.std.specs.Prelude.{slice_get}
use Rattle.qw_module.specs.declared.module.Import.{Import}
use Rattle.qw_module.specs.declared.module.Function.{Function}
use Rattle.qw_module.specs.Start.{callees_of, weight_with, weights_below}
use Rattle.qw_module.specs.Validity.{imported_function, imported_functions}
use Rattle.qw_promise.specs.Compiled.{weight_of}
use Rattle.qw_promise.proofs.OwnWeights.{weight-own, weight-none, weight-host, weight-asked, weight-called}
use Rattle.qw_promise.proofs.worked_laws.weight_of_two_functions.Goals as goal

pub returns-clause-first : goal.returns-clause-first
returns-clause-first c m f g imports own first =
    let number : ℕ = length (imported_functions m) + 0 in
    let one : length (imported_functions m) ≡ 1 = ap (λ (imports : List Import). length (filter_map imported_function imports)) imports in
    let none : weights_below (callees_of m) number 0 ≡ 0 = weight-host m number (omega (arith, one)) imports in
    let sum : 1 + (1 + (1 + weights_below (callees_of m) number 0 + 0)) ≡ 3 = omega (arith, none) in
    weight-own m 0 f (rw own refl) ∙ ap (weight_with (weights_below (callees_of m) number)) first ∙ sum

pub returns-clause-second : goal.returns-clause-second
returns-clause-second c m f g imports own first second =
    let number : ℕ = length (imported_functions m) + 1 in
    let one : length (imported_functions m) ≡ 1 = ap (λ (imports : List Import). length (filter_map imported_function imports)) imports in
    let there : slice_get m.functions.items 0 ≡ Some f = ap (λ (functions : List Function). slice_get functions 0) own in
    let called : weights_below (callees_of m) number 1 ≡ weight_of m 0 = weight-called m number 1 0 f there (omega (arith, one)) (omega (arith, one)) in
    let three : weight_of m 0 ≡ 3 = returns-clause-first c m f g imports own first in
    let each : weights_below (callees_of m) number 1 ≡ 3 = called ∙ three in
    let sum : 1 + (1 + weights_below (callees_of m) number 1 + (1 + (1 + weights_below (callees_of m) number 1 + 0))) ≡ 10 = omega (arith, each) in
    weight-own m 1 g (rw own refl) ∙ ap (weight_with (weights_below (callees_of m) number)) second ∙ sum

pub returns-clause-asked : goal.returns-clause-asked
returns-clause-asked c m f imports own code =
    let number : ℕ = length (imported_functions m) + 0 in
    let two : length (imported_functions m) ≡ 2 = ap (λ (imports : List Import). length (filter_map imported_function imports)) imports in
    let none : weights_below (callees_of m) number 1 ≡ 0 = weight-asked m number (omega (arith, two)) imports in
    let sum : 1 + (1 + weights_below (callees_of m) number 1 + (1 + 0)) ≡ 3 = omega (arith, none) in
    weight-own m 0 f (rw own refl) ∙ ap (weight_with (weights_below (callees_of m) number)) code ∙ sum

pub returns-clause-no_third : goal.returns-clause-no_third
returns-clause-no_third c m f g own = weight-none m 2 (omega (arith, ap length own))
