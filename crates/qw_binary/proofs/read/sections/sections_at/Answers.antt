use Rattle.std.proofs.Common.{arith}
use Rattle.std.proofs.lemmas.Result.{err_from_is_err_and}
use Rattle.qw_octet_grammar.specs.Reading.{read_all}
use Rattle.qw_octet_grammar.proofs.Loops.{all_begin, all_break, all_end, all_more, all_out}
use Rattle.qw_binary.specs.Sections.{no_sections, section}
use Rattle.qw_binary.specs.Inner.SoFar.{sections_of}
use Rattle.qw_binary.proofs.read.sections.sections_at.Goals as goal

pub returns-in_err-rest-in-len1-up : goal.returns-in_err-rest-in-len1-up
returns-in_err-rest-in-len1-up c =
    let p = err_from_is_err_and c.from_residual.result c.from_residual.ensures.1 in
    rw (p.1, p.2) (all_break section c.in_err-rest-in-len1-up.field-0.0 c.args.most c.loop.counter (sections_of c.loop.so_far) c.loop.rest.now (read_all section c.args.most no_sections c.args.octets.now)
    c.loop-test.true c.in-len1-up.len_at_least c.in_err-rest-in-len1-up.ensures c.loop.invariant)

pub loop-preserved : goal.loop-preserved
loop-preserved c =
    all_more section c.args.most c.loop.counter (sections_of c.loop.so_far) c.loop.rest.now (sections_of c.section_at.new.self) c.in_ok-rest-in-len1-up.rest.now (read_all section c.args.most no_sections c.args.octets.now)
    c.loop-test.true c.in-len1-up.len_at_least c.in_ok-rest-in-len1-up.ensures c.loop.invariant

pub loop-init : goal.loop-init
loop-init c = grind (arith, all_begin)

pub returns-in-empty : goal.returns-in-empty
returns-in-empty c = grind (arith, all_end)

pub returns-then-is_empty : goal.returns-then-is_empty
returns-then-is_empty c = grind (arith, all_end)

pub returns-else-is_empty : goal.returns-else-is_empty
returns-else-is_empty c = grind (arith, all_out)
