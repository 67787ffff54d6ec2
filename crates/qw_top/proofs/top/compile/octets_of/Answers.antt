use Rattle.qw_top.proofs.top.compile.octets_of.Goals as goal

pub unreachable-requires : goal.unreachable-requires
unreachable-requires c =
    let spelled = c.in_ok-compiled.ensures.compiled.spelled in
    c.in-Err-NotSpelled.ensures.refused c.in-Err-NotSpelled.field-0-is (spelled.0, spelled.1)
