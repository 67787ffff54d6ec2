use Rattle.std.proofs.Common.{rules, ◌≡◌, ◌-◌, [], ◌∷◌, ◌++◌, length, take, drop}
use Rattle.std.proofs.lemmas.Result.{err_from_is_err_and}
use Rattle.qw_typer.specs.Inner.Typing.{as_entries}
use Rattle.qw_typer.proofs.GroupingLemmas.{arguments_end, arguments_fit, functions_end, functions_kept, functions_refused}
use Rattle.qw_typer.proofs.StepLemmas.{first_rest}
use Rattle.qw_typer.proofs.grouping.functions.Goals as goal

pub returns-in_err-typed-clause-gives : goal.returns-in_err-typed-clause-gives
returns-in_err-typed-clause-gives c =
    let rest = c.loop-rest.rest.now in
    let first = first_rest rest c.one-item.result c.one-item.is c.in-len1-up.len_at_least in
    let err = err_from_is_err_and c.from_residual.result c.from_residual.ensures.1 in
    rw (err.1, err.2)
    (functions_refused c.in_err-typed.field-0.0 (as_entries c.args.entries.now) c.loop-rest.made.functions.items c.loop-rest.made.columns.items rest (take (length rest - 1) (drop 1 rest)) c.one-item.result _ first c.loop-rest.invariant.meant
    c.in_err-typed.ensures.gives)

pub loop-rest-preserved : goal.loop-rest-preserved
loop-rest-preserved c =
    let rest = c.loop-rest.rest.now in
    let others = take (length rest - 1) (drop 1 rest) in
    let first = first_rest rest c.one-item.result c.one-item.is c.in-len1-up.len_at_least in
    let more : c.push.new.self.items ≡ c.loop-rest.made.functions.items ++ c.in_ok-typed.typed.0 ∷ [] = search rules in
    let more_columns : c.push-in-len1-up.new.self.items ≡ c.loop-rest.made.columns.items ++ c.in_ok-typed.typed.1 ∷ [] = search rules in
    record {
      meant = functions_kept (as_entries c.args.entries.now) c.loop-rest.made.functions.items c.push.new.self.items c.loop-rest.made.columns.items c.push-in-len1-up.new.self.items c.in_ok-typed.typed.0 c.in_ok-typed.typed.1 rest others
          c.one-item.result _ c.in_ok-typed.ensures.gives.0 c.in_ok-typed.ensures.gives.1 more more_columns first c.loop-rest.invariant.meant;
      fits = arguments_fit c.loop-rest.made.functions.items c.push.new.self.items c.in_ok-typed.typed.0 rest others c.one-item.result _ _ more first c.in_ok-typed.ensures.fits c.loop-rest.invariant.fits;
    }

pub returns-clause-gives : goal.returns-clause-gives
returns-clause-gives c = functions_end (as_entries c.args.entries.now) c.loop-rest.made.functions.items c.loop-rest.made.columns.items c.loop-rest.rest.now _ c.in_default.len_below c.loop-rest.invariant.meant

pub returns-clause-fits : goal.returns-clause-fits
returns-clause-fits c = arguments_end c.loop-rest.made.functions.items _ _ _ _ c.loop-rest.invariant.fits
