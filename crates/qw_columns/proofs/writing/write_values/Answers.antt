use Rattle.std.proofs.Common.{◌≤◌, ◌+◌, length, arith}
use Rattle.qw_columns.proofs.CellPlaces.{long_room, long_there, short_room, short_there, texts_are, texts_room, texts_there}
use Rattle.qw_columns.proofs.ColumnFacts.{starts_kept}
use Rattle.qw_columns.proofs.WriteLemmas.{keeps_put, keeps_then, put-below, put-there, texts_whole}
use Rattle.qw_columns.proofs.writing.write_values.Goals as goal

pub write_short-requires-clause-room : goal.write_short-requires-clause-room
write_short-requires-clause-room c =
    let are = rw c.in-Short.is at (c.cells.ensures) in
    short_room c.args.column.now.type.ty c.in-Short.numbers c.args.column.now.values are c.args.placed.now _ c.requires.placed c.requires.room

pub write_long-requires-clause-room : goal.write_long-requires-clause-room
write_long-requires-clause-room c =
    let are = rw c.in-Long.is at (c.cells.ensures) in
    long_room c.args.column.now.type.ty c.in-Long.numbers c.args.column.now.values are c.args.placed.now _ c.requires.placed c.requires.room

pub write_offsets-requires-clause-room : goal.write_offsets-requires-clause-room
write_offsets-requires-clause-room c =
    let are = rw c.in-Texts.is at (c.cells.ensures) in
    let room = texts_room c.args.column.now.type.ty c.in-Texts.ends c.in-Texts.octets c.args.column.now.values are c.args.placed.now c.requires.placed in
    omega (arith, room.0, room.1, c.requires.room)

pub copy_octets-requires : goal.copy_octets-requires
copy_octets-requires c =
    let are = rw c.in-Texts.is at (c.cells.ensures) in
    let room = texts_room c.args.column.now.type.ty c.in-Texts.ends c.in-Texts.octets c.args.column.now.values are c.args.placed.now c.requires.placed in
    omega (arith, room.1, c.requires.room, c.write_offsets.ensures.keeps.len)

pub returns-in-Short-clause-values : goal.returns-in-Short-clause-values
returns-in-Short-clause-values c =
    let are = rw c.in-Short.is at (c.cells.ensures) in
    short_there c.args.column.now.type.ty c.in-Short.numbers c.args.column.now.values are c.write_short.new.memory.octets c.args.placed.now c.write_short.ensures.numbers

pub returns-in-Long-clause-values : goal.returns-in-Long-clause-values
returns-in-Long-clause-values c =
    let are = rw c.in-Long.is at (c.cells.ensures) in
    long_there c.args.column.now.type.ty c.in-Long.numbers c.args.column.now.values are c.write_long.new.memory.octets c.args.placed.now c.write_long.ensures.numbers

pub returns-in-Texts-clause-values : goal.returns-in-Texts-clause-values
returns-in-Texts-clause-values c =
    let type = c.args.column.now.type.ty in
    let ends = c.in-Texts.ends in
    let octets = c.in-Texts.octets in
    let values = c.args.column.now.values in
    let placed = c.args.placed.now in
    let before = c.write_offsets.new.memory.octets in
    let are = rw c.in-Texts.is at (c.cells.ensures) in
    let texts = texts_are type ends octets values are in
    let room = texts_room type ends octets values are placed c.requires.placed in
    let fits : placed.octets + length octets.now ≤ length before = omega (arith, room.1, c.requires.room, c.write_offsets.ensures.keeps.len) in
    let starts = rw texts.many at (c.write_offsets.ensures.starts octets.now values texts) in
    let copied = rw texts.together at (put-there before placed.octets octets.now fits) in
    rw c.copy_octets.ensures.copied
    (texts_there type ends octets values are _ placed
    (starts_kept before _ placed.values placed.octets values (length values + 1) (λ k below. put-below before placed.octets octets.now fits k below) (omega (arith, room.0, texts.many)) starts)
    (texts_whole _ placed.octets values (rw texts.together copied)))

pub returns-in-Texts-clause-keeps : goal.returns-in-Texts-clause-keeps
returns-in-Texts-clause-keeps c =
    let placed = c.args.placed.now in
    let before = c.write_offsets.new.memory in
    let octets = c.in-Texts.octets in
    let are = rw c.in-Texts.is at (c.cells.ensures) in
    let room = texts_room c.args.column.now.type.ty c.in-Texts.ends octets c.args.column.now.values are placed c.requires.placed in
    let fits : placed.octets + length octets.now ≤ length before.octets = omega (arith, room.1, c.requires.room, c.write_offsets.ensures.keeps.len) in
    rw c.copy_octets.ensures.copied
    (keeps_then c.args.memory.now before _ placed.values placed.octets (omega (arith, room.0)) c.write_offsets.ensures.keeps (keeps_put before placed.octets octets.now fits c.copy_octets.ensures.octets))
