use Rattle.std.proofs.Common.{◌≡◌, ◌≤◌, ◌+◌, ◌*◌, ◌∙◌, add-one, arith, length}
use Rattle.qw_linear.proofs.AccessFacts.{stored-inside}
use Rattle.qw_columns.specs.Inner.Writing.{flags_from}
use Rattle.qw_columns.proofs.WriteLemmas.{keeps_number, keeps_then, nulls_more}
use Rattle.qw_columns.proofs.writing.write_nulls.Goals as goal

pub loop-group-preserved : goal.loop-group-preserved
loop-group-preserved c =
    let memory = c.loop-group.memory in
    let group = c.loop-group.group in
    let values = c.args.column.now.values in
    let room : c.args.at + group + 1 ≤ length memory.octets =
    omega (arith, c.requires.room, c.div_ceil-group-end.ensures, c.len.ensures.rows, c.loop-group-test.true, c.loop-group.invariant.keeps.len) in
    let octet : c.from.result ≡ flags_from values (8 * group) 8 = c.from.ensures ∙ c.null_octet-octet.ensures in
    rw (c.store8.ensures.stored, stored-inside memory.octets (c.args.at + group) 1 c.from.result room, octet, add-one) (record {
      nulls = nulls_more memory.octets c.args.at values group room c.loop-group.invariant.nulls;
      keeps = keeps_then c.args.memory.now memory _ c.args.at (c.args.at + group) (omega arith) c.loop-group.invariant.keeps
          (keeps_number memory (c.args.at + group) 1 (flags_from values (8 * group) 8));
    })
