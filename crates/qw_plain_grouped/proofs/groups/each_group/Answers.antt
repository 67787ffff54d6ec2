use Rattle.std.proofs.Common.{◌≡◌, ◌∙◌, arith, map, take, ap}
use Rattle.std.specs.List.{flat_map}
use Rattle.qw_meaning.specs.Flow.{codes_given, rows_given}
use Rattle.qw_grouped.specs.Grouped.{kinds_of}
use Rattle.qw_grouped.specs.Groups.{group_row, key_of, members, once}
use Rattle.qw_grouped.specs.Query.{function_of}
use Rattle.qw_plain_grouped.proofs.Members.{all_taken}
use Rattle.qw_plain_grouped.proofs.Steps.{table_of_keys}
use Rattle.qw_plain_grouped.proofs.groups.each_group.Goals as goal

pub returns : goal.returns
returns c =
    let all : c.deref.result.now ≡ map (key_of c.args.columns) c.args.rows.now = c.deref.ensures.value ∙ c.in_ok-all.ensures in
    let end : take c.loop-key.key-index c.deref-key-items.result.now ≡ c.in_ok-keys.keys.items =
    all_taken c.loop-key.key-index c.deref-key-items.result.now (omega (arith, c.loop-key-test.false)) ∙ c.deref-key-items.ensures.value in
    table_of_keys c.args.columns (kinds_of (map function_of c.args.functions.now)) c.args.rows.now c.in_ok-keys.keys.items c.loop-key.table.rows.items c.loop-key.table.codes.items c.requires.some
    (c.in_ok-keys.ensures ∙ ap once all)
    (c.loop-key.invariant.rows ∙ ap (flat_map (λ key. rows_given (group_row c.args.columns (kinds_of (map function_of c.args.functions.now)) (record { key = key; rows = members c.args.columns key c.args.rows.now })))) end)
    (c.loop-key.invariant.codes ∙ ap (flat_map (λ key. codes_given (group_row c.args.columns (kinds_of (map function_of c.args.functions.now)) (record { key = key; rows = members c.args.columns key c.args.rows.now })))) end)
