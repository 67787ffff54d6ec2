use Rattle.std.proofs.Common.{◌<◌, length, refl, ◌∙◌, arith}
use Rattle.std.proofs.lemmas.Option.{slice_get-get_or, slice_get_within}
use Rattle.qw_bench.proofs.FirstPages.{first-more, first-none}
use Rattle.qw_bench.proofs.first_page.write_entries.Goals as goal

pub loop-index-init : goal.loop-index-init
loop-index-init c = record {
  first = first-none c.args.memory.now.octets c.args.entries c.args.columns.now c.args.placed.now;
  octets = λ are. are;
  len = refl;
  reserved = refl;
}

pub loop-index-preserved : goal.loop-index-preserved
loop-index-preserved c =
    let n = c.loop-index.index in
    let within : n < length c.args.placed.now = omega (arith, c.requires.many, c.loop-index-test.true) in
    let written = c.write_entry.ensures in
    record {
      first = first-more c.args.memory.now.octets c.loop-index.memory.octets c.write_entry.new.memory.octets c.args.entries n c.args.columns.now c.args.placed.now _ _
          (slice_get-get_or c.args.columns.now n _ c.loop-index-test.true) (slice_get-get_or c.args.placed.now n _ within) written.entry written.outside
          c.loop-index.invariant.first;
      octets = λ are. written.octets (c.loop-index.invariant.octets are);
      len = written.len ∙ c.loop-index.invariant.len;
      reserved = written.reserved ∙ c.loop-index.invariant.reserved;
    }

pub returns-clause-entries : goal.returns-clause-entries
returns-clause-entries c = λ k used one found there.
    let within = slice_get_within c.args.columns.now k used found in
    c.loop-index.invariant.first.each k used one (omega (arith, within, c.loop-index-test.false)) found there
