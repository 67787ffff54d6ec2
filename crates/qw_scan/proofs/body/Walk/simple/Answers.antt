use Rattle.qw_octet_grammar.proofs.GrammarLaws.{takes}
use Rattle.qw_binary.specs.Instructions.{simple as simple_grammar}
use Rattle.qw_binary.proofs.Apart.{simple_alone}
use Rattle.qw_scan.proofs.body.Walk.simple.Goals as goal

pub perform-requires : goal.perform-requires
perform-requires c =
    let t = takes (simple_grammar c.args.code) c.args.octets.now c.in-Ok.instr c.in-Ok.rest.now c.in-Ok.ensures in
    simple_alone c.args.code c.in-Ok.instr t.0 t.2
