use Rattle.std.proofs.Common.{◌+◌, length, ap, refl, ◌∙◌}
use Rattle.qw_module.specs.Start.{callees_of, weight_with, weights_below}
use Rattle.qw_module.specs.Syntax.{Sequences, code_of, named_below}
use Rattle.qw_module.specs.Validity.{imported_functions}
use Rattle.qw_promise.proofs.OwnWeights.{weight-own}
use Rattle.qw_promise.proofs.worked_laws.weights_of_bodies.Goals as goal

pub returns-clause-around : goal.returns-clause-around
unfolding named_below
returns-clause-around c m f own body =
    weight-own m 0 f (rw own refl)
    ∙ ap (λ (sequences : Sequences). weight_with (weights_below (callees_of m) (length (imported_functions m) + 0)) (code_of sequences)) body

pub returns-clause-twice : goal.returns-clause-twice
unfolding named_below
returns-clause-twice c m f own body =
    weight-own m 0 f (rw own refl)
    ∙ ap (λ (sequences : Sequences). weight_with (weights_below (callees_of m) (length (imported_functions m) + 0)) (code_of sequences)) body
