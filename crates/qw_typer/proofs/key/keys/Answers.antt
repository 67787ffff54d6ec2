use Rattle.std.proofs.Common.{rules, ◌≡◌, ◌-◌, [], ◌∷◌, ◌++◌, length, map, take, drop}
use Rattle.std.proofs.lemmas.Result.{err_from_is_err_and}
use Rattle.qw_ast.specs.SyntaxTree as syntax
use Rattle.qw_typer.proofs.EntryLemmas.{head_rest}
use Rattle.qw_typer.proofs.KeyLemmas.{key_refused, keys_end, keys_kept}
use Rattle.qw_typer.proofs.key.keys.Goals as goal

pub returns-in_err-key : goal.returns-in_err-key
returns-in_err-key c =
    let rest = c.loop-rest.rest.now in
    let err = err_from_is_err_and c.from_residual.result c.from_residual.ensures.1 in
    rw (err.1, err.2)
    (key_refused c.args.names.now c.loop-rest.made.items rest (take (length rest - 1) (drop 1 rest)) _ _ c.in_err-key.field-0.0
    (head_rest rest _ c.in-len1-up.len_at_least) c.in_err-key.ensures c.loop-rest.invariant)

pub loop-rest-preserved : goal.loop-rest-preserved
loop-rest-preserved c =
    let rest = c.loop-rest.rest.now in
    let more : c.push.new.self.items ≡ c.loop-rest.made.items ++ c.in_ok-key.key ∷ [] = search rules in
    keys_kept c.args.names.now c.loop-rest.made.items c.push.new.self.items c.in_ok-key.key rest (take (length rest - 1) (drop 1 rest)) _ _
    (head_rest rest _ c.in-len1-up.len_at_least) more c.in_ok-key.ensures c.loop-rest.invariant

pub returns : goal.returns
returns c = keys_end c.args.names.now c.loop-rest.made.items c.loop-rest.rest.now (map syntax.sort_of c.args.order.now) c.in_default.len_below c.loop-rest.invariant
