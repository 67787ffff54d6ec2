use Rattle.std.proofs.Common.{◌≡◌, ◌-◌, rules, [], ◌∷◌, ◌++◌, length, take, drop, sym}
use Rattle.std.proofs.lemmas.Result.{err_from_is_err_and}
use Rattle.qw_typer.specs.declared.fault.FaultKind.TheVariants.{DuplicateAlias}
use Rattle.qw_typer.specs.declared.refusal.Token.TheVariants.{Name}
use Rattle.qw_typer.proofs.EntryLemmas.{duplicate_refused, entries_kept, entry_refused, head_rest}
use Rattle.qw_typer.proofs.QueryLemmas.{is_one}
use Rattle.qw_typer.proofs.entries.entries.Goals as goal

pub returns-in_err-found-clause-known : goal.returns-in_err-found-clause-known
returns-in_err-found-clause-known c =
    let rest = c.loop-rest.rest.now in
    let err = err_from_is_err_and c.from_residual.result c.from_residual.ensures.1 in
    rw (err.1, err.2)
    (entry_refused c.args.tables.now c.loop-rest.made.items rest (take (length rest - 1) (drop 1 rest)) c.args.named.now _ c.in_err-found.field-0.0 (head_rest rest _ c.in-len1-up.len_at_least) c.in_err-found.ensures.known c.loop-rest.invariant)

pub returns-then-is_known-clause-known : goal.returns-then-is_known-clause-known
returns-then-is_known-clause-known c =
    let rest = c.loop-rest.rest.now in
    let count : c.len.result ≡ length c.loop-rest.made.items = search rules in
    is_one DuplicateAlias (Name c.naming.result) _
    (duplicate_refused c.args.tables.now c.loop-rest.made.items c.in_ok-found.found rest (take (length rest - 1) (drop 1 rest)) c.args.named.now _ c.naming.result.now (head_rest rest _ c.in-len1-up.len_at_least)
    (rw count at c.in_ok-found.ensures.known.1) (sym (rw c.as_slice.ensures.value at c.if-is_known.ensures)) c.naming.ensures c.loop-rest.invariant)

pub loop-rest-preserved : goal.loop-rest-preserved
loop-rest-preserved c =
    let rest = c.loop-rest.rest.now in
    let count : c.len.result ≡ length c.loop-rest.made.items = search rules in
    let more : c.push.new.self.items ≡ c.loop-rest.made.items ++ c.in_ok-found.found ∷ [] = search rules in
    entries_kept c.args.tables.now c.loop-rest.made.items c.push.new.self.items c.in_ok-found.found rest (take (length rest - 1) (drop 1 rest)) c.args.named.now _ (head_rest rest _ c.in-len1-up.len_at_least) more
    c.in_ok-found.ensures.known.0 (rw count at c.in_ok-found.ensures.known.1) (sym (rw c.as_slice.ensures.value at c.if-is_known.ensures)) c.in_ok-found.ensures.tables c.loop-rest.invariant
