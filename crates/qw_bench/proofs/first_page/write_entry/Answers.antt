use Rattle.std.proofs.Common.{◌≡◌, ◌<◌, ◌^◌, refl, arith}
use Rattle.std.specs.Prelude.{if◌then◌else◌}
use Rattle.qw_map.specs.Layout.{is_text}
use Rattle.qw_bench.proofs.FirstPages.{entry-outside, entry-written}
use Rattle.qw_bench.proofs.first_page.write_entry.Goals as goal
use Rattle.qw_bench.proofs.first_page.write_entry.Goals.{then-used, else-used, then-is_text, else-is_text}

pub returns-clause-entry : goal.returns-clause-entry
returns-clause-entry c =
    let used = c.args.used.now in
    let one = c.args.placed.now in
    let small = c.requires.addresses in
    let nulls : (c.if-used.nulls ≡ (if used.not_null then 0 else one.nulls)) × (c.if-used.nulls < 2 ^ 32) =
    elim c.if-used.branch [
      | then-used w ↦ rw (w.nulls-is, w.if-used.true) (refl, omega arith)
      | else-used w ↦ rw (w.nulls-is, w.if-used.false) (refl, small.nulls)
    ] in
    let octets : (c.if-is_text.octets ≡ (if is_text used.ty then one.octets else 0)) × (c.if-is_text.octets < 2 ^ 32) =
    elim c.if-is_text.branch [
      | then-is_text w ↦ rw (w.octets-is, ← c.is_text.ensures, w.if-is_text.true) (refl, small.octets)
      | else-is_text w ↦ rw (w.octets-is, ← c.is_text.ensures, w.if-is_text.false) (refl, omega arith)
    ] in
    entry-written c.args.memory.now.octets c.put.new.memory.octets c.put-2.new.memory.octets c.put-3.new.memory.octets c.put-4.new.memory.octets c.args.entry
    c.if-used.nulls c.if-is_text.octets used one c.put.ensures.stored c.put-2.ensures.stored c.put-3.ensures.stored c.put-4.ensures.stored
    c.requires.inside small nulls.0 nulls.1 octets.0 octets.1

pub returns-clause-outside : goal.returns-clause-outside
returns-clause-outside c = entry-outside c.args.memory.now.octets c.put.new.memory.octets c.put-2.new.memory.octets c.put-3.new.memory.octets
    c.put-4.new.memory.octets c.args.entry c.if-used.nulls c.if-is_text.octets c.args.used.now c.args.placed.now c.put.ensures.stored c.put-2.ensures.stored
    c.put-3.ensures.stored c.put-4.ensures.stored
