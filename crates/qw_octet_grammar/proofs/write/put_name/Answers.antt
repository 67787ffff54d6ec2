use Rattle.qw_octet_grammar.proofs.WriteLaws.{puts_name}
use Rattle.qw_octet_grammar.proofs.write.put_name.Goals as goal

pub returns : goal.returns
returns c =
    rw (c.in_ok-extend_from_slice.ensures.items, c.as_bytes.ensures.value) (puts_name c.args.text.now c.args.out.now.items c.put_size.new.out.items c.in_ok-put_size.ensures c.utf8.text)
