use Rattle.std.proofs.Common.{◌∷◌, [], Some, map, sym, ap, ◌∙◌}
use Rattle.std.proofs.lemmas.List.{map_push, append-nil}
use Rattle.qw_schema.specs.Inner.Parser.{behind}
use Rattle.qw_schema.specs.Inner.Tables.{sized, column_at, read_of}
use Rattle.qw_schema.specs.Inner.Written.{written}
use Rattle.qw_token.specs.Token.{lexemes}
use Rattle.qw_schema.proofs.TableLemmas.{column_shortens}
use Rattle.qw_schema.proofs.ListLemmas.{list_begins, list_none, further_end, further_stop, further_more, behind_behind, list_smaller}
use Rattle.qw_schema.proofs.parse.table.list.Goals as goal

pub returns-in_default : goal.returns-in_default
returns-in_default c = sym (list_none (column_at sized) (lexemes c.args.tokens.now) (sym c.in_default.ensures))

pub loop-behind_comma-init : goal.loop-behind_comma-init
loop-behind_comma-init c =
    rw (c.in_ok-columns.ensures.items, c.in_ok-kept.ensures)
    (list_begins (column_at sized) (lexemes c.args.tokens.now) (written c.in-Some.first, lexemes c.in-Some.rest.now) (sym c.in-Some.ensures))

pub returns-in_default-column : goal.returns-in_default-column
returns-in_default-column c =
    let columns = map read_of c.loop-behind_comma.columns.items in
    let rest = lexemes c.loop-behind_comma.rest.now in
    let stops = further_stop (column_at sized) rest (lexemes c.in-Some-symbol.behind_comma.now) (sym c.in-Some-symbol.ensures) (sym c.in_default-column.ensures) in
    sym (c.loop-behind_comma.invariant ∙ ap (behind columns) stops)

pub loop-behind_comma-smaller : goal.loop-behind_comma-smaller
loop-behind_comma-smaller c =
    list_smaller (column_at sized) (column_shortens sized)
    c.loop-behind_comma.rest.now c.in-Some-symbol.behind_comma.now c.in-Some-column.after.now (written c.in-Some-column.next)
    (sym c.in-Some-symbol.ensures) (sym c.in-Some-column.ensures)

pub loop-behind_comma-preserved : goal.loop-behind_comma-preserved
loop-behind_comma-preserved c =
    let items = c.loop-behind_comma.columns.items in
    let columns = map read_of items in
    let next = written c.in-Some-column.next in
    let rest = lexemes c.loop-behind_comma.rest.now in
    let after = lexemes c.in-Some-column.after.now in
    let more = further_more (column_at sized) (column_shortens sized) rest (lexemes c.in-Some-symbol.behind_comma.now) (next, after) (sym c.in-Some-symbol.ensures) (sym c.in-Some-column.ensures) in
    rw (c.in_ok-push.ensures.items, map_push read_of items c.in_ok-kept-2.field-0, c.in_ok-kept-2.ensures)
    (c.loop-behind_comma.invariant ∙ ap (behind columns) more ∙ behind_behind columns (next ∷ []) _)

pub returns : goal.returns
returns c =
    let columns = map read_of c.loop-behind_comma.columns.items in
    let rest = lexemes c.loop-behind_comma.rest.now in
    let ends = further_end (column_at sized) rest (sym c.in_default-symbol.ensures) in
    sym (c.loop-behind_comma.invariant ∙ ap (behind columns) ends ∙ ap (λ x. Some (x, rest)) (append-nil columns))
