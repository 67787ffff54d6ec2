use Rattle.std.proofs.Common.{◌≡◌, ◌≤◌, true, false, Bool, ap, arith, length}
use Rattle.std.specs.Prelude.{not}
use Rattle.qw_map.specs.Columns.{column_end}
use Rattle.qw_map.specs.declared.layout.Placed.{Placed}
use Rattle.qw_columns.proofs.ColumnFacts.{column_held, nulls_room, values_kept}
use Rattle.qw_columns.proofs.WriteLemmas.{keeps_then}
use Rattle.qw_columns.proofs.writing.write_column.Goals as goal

pub write_values-requires-clause-room : goal.write_values-requires-clause-room
write_values-requires-clause-room c = omega (arith, c.requires.room)

pub write_nulls-requires-clause-room : goal.write_nulls-requires-clause-room
write_nulls-requires-clause-room c =
    let column = c.args.column.now in
    let may = rw c.column_type-column_type.ensures.column_type at c.if-not-column_type.true in
    rw (c.write_values.ensures.keeps.len)
    (nulls_room column.type.not_null c.args.placed.now (length column.values) (length c.args.memory.now.octets) may (ap (λ (p : Placed). p.rows) c.requires.placed) c.requires.room)

never : (b : Bool) → not b ≡ false → b ≡ false → ⊥
never true is may = cc may
never false is may = cc is

pub returns-then-not-column_type-clause-holds : goal.returns-then-not-column_type-clause-holds
returns-then-not-column_type-clause-holds c =
    let column = c.args.column.now in
    let placed = c.args.placed.now in
    let limits = c.column_type-column_type.ensures.limits in
    let end = c.requires.room in
    let before : placed.nulls ≤ length c.write_values.new.memory.octets = omega (arith, end, c.write_values.ensures.keeps.len) in
    let has = values_kept c.write_values.new.memory.octets c.write_nulls.new.memory.octets column.type.ty placed column.values c.requires.placed c.write_nulls.ensures.keeps.below
    c.write_nulls.ensures.keeps.len before c.write_values.ensures.values in
    let room : column_end column.type.not_null placed ≤ length c.write_nulls.new.memory.octets = rw (c.write_nulls.ensures.keeps.len, c.write_values.ensures.keeps.len) end in
    column_held c.write_nulls.new.memory.octets column.type.ty column.type.not_null placed column.values limits.sized limits.typed c.requires.placed room has
    (λ may. c.write_nulls.ensures.nulls)

pub returns-then-not-column_type-clause-keeps : goal.returns-then-not-column_type-clause-keeps
returns-then-not-column_type-clause-keeps c =
    let behind = ap (λ (p : Placed). p.nulls) c.requires.placed in
    keeps_then c.args.memory.now c.write_values.new.memory c.write_nulls.new.memory c.args.placed.now.values c.args.placed.now.nulls (omega (arith, behind))
    c.write_values.ensures.keeps c.write_nulls.ensures.keeps

pub returns-else-not-column_type-clause-holds : goal.returns-else-not-column_type-clause-holds
returns-else-not-column_type-clause-holds c =
    let column = c.args.column.now in
    let placed = c.args.placed.now in
    let limits = c.column_type-column_type.ensures.limits in
    let room : column_end column.type.not_null placed ≤ length c.write_values.new.memory.octets = rw (c.write_values.ensures.keeps.len) c.requires.room in
    let must = rw c.column_type-column_type.ensures.column_type at c.if-not-column_type.false in
    column_held c.write_values.new.memory.octets column.type.ty column.type.not_null placed column.values limits.sized limits.typed c.requires.placed room
    c.write_values.ensures.values (λ may. absurd (never column.type.not_null must may))
