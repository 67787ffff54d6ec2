use Rattle.std.proofs.Common.{◌≡◌, ◌++◌, ◌∷◌, [], ℕ, List, Option, length, length-append, refl, ap, ap₂, ◌∙◌}
use Rattle.std.specs.Option.{option_to_list}
use Rattle.qw_physical.specs.declared.pipeline.Pipeline.{Pipeline}
use Rattle.qw_physical.specs.declared.pipeline.Sink.TheVariants as sinks
use Rattle.qw_compile_whole.specs.GuardedStatements.{guard_for}
use Rattle.qw_compile_whole.proofs.gathering.last_group.Goals as goal

pub returns : goal.returns
returns c =
    let last = c.in-Some.field-0 in
    let builders = c.pop.new.self.items in
    let is = c.pop.ensures.items ∙ ap (λ (o : Option Pipeline). c.pop.new.self.items ++ option_to_list o) c.in-Some.is in
    let one = c.in-Select.is in
    let two = c.in-Some.sink-is in
    let selects : c.in-Some.field-0.sink ≡ sinks.Select c.in-Select.items = cc in
    record {
      last = last;
      all_are = is;
      many = ap (λ (l : List Pipeline). length l) is ∙ length-append builders (last ∷ []);
      entry_is = refl;
      operators_are = refl;
      selects = selects;
      table_is = c.len.ensures ∙ c.pop.new.self.ok.0;
      columns_are = refl;
      functions_are = c.in_ok-functions.ensures;
      guard_is = c.guard_for-guard.ensures ∙ ap₂ (λ (x y : ℕ). guard_for x y) (c.len-tables.ensures ∙ c.args.pipelines.ok.0) refl;
    }
