use Rattle.std.proofs.Common.{rules, ◌≡◌, ◌+◌, ◌<◌, ◌==◌, ◌∙◌, sym, ap, length, Some, None, option_map, slice_get, slice_index_or}
use Rattle.qw_scalar.specs.Expression as meaning
use Rattle.std.proofs.lemmas.List.Quantifiers.{position-Some}
use Rattle.std.proofs.lemmas.Option.{slice_get-get_or}
use Rattle.qw_types.specs.declared.value.Ty.TheVariants.{Integer}
use Rattle.qw_typer.specs.declared.scope.FunctionColumn.{FunctionColumn as CodeFunction}
use Rattle.qw_typer.proofs.ScopeLemmas.{function_is}
use Rattle.qw_typer.proofs.scope.Grouping.function.Goals as goal

pub returns-in-Some : goal.returns-in-Some
returns-in-Some c =
    let found : Some c.in-Some.index ≡ c.function_index.result = search rules in
    let fs = c.args.self.now.functions.now in
    let k = c.in-Some.index in
    let before : k < length fs = (position-Some (λ (f : CodeFunction). f.place == c.args.place) fs k (record { place = 0; ty = Integer }) (sym c.function_index.ensures ∙ c.in-Some.is)).0 in
    let there : Some (meaning.column (length c.args.self.now.columns.now + k) (slice_index_or fs k (record { place = 0; ty = Integer })).ty) ≡ option_map (λ (f : CodeFunction). meaning.column (length c.args.self.now.columns.now + k) f.ty) (slice_get fs k) =
    sym (ap (option_map (λ (f : CodeFunction). meaning.column (length c.args.self.now.columns.now + k) f.ty)) (slice_get-get_or fs k (record { place = 0; ty = Integer }) before)) in
    there ∙ sym (function_is c.args.self.now c.args.place (Some c.in-Some.index) (found ∙ c.function_index.ensures))

pub returns-in-None : goal.returns-in-None
returns-in-None c =
    let none : None ≡ c.function_index.result = search rules in
    sym (function_is c.args.self.now c.args.place None (none ∙ c.function_index.ensures))
