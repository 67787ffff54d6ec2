use Rattle.std.proofs.Common.{List, reverse, Option, Some, ap, sym, ◌∙◌}
use Rattle.std.specs.Option.{option_map}
use Rattle.std.proofs.lemmas.Option.{slice_get-map}
use Rattle.qw_module.specs.declared.instruction.ValType.{ValType}
use Rattle.qw_valid.specs.declared.walk.Open.{Open}
use Rattle.qw_valid.specs.Inner.Checkers.{body_of}
use Rattle.qw_valid.specs.Inner.Checking.{taken_in}
use Rattle.qw_valid.specs.Inner.Walks.{around_of, around_in}
use Rattle.qw_valid.proofs.walk.Walk.label.Goals as goal

pub returns : goal.returns
returns c =
    let w = c.args.self.now in
    let s = body_of w.checker in
    slice_get-map taken_in (around_in w) c.args.index ∙ ap (option_map taken_in) (slice_get-map (around_of s) (reverse w.opened.items) c.args.index)
    ∙ ap (λ (o : Option Open). option_map taken_in (option_map (around_of s) o)) c.in_ok-open.ensures
    ∙ ap (λ (ts : List ValType). Some ts) (sym c.taken.ensures)
