use Rattle.std.proofs.Common.{◌≡◌, rules}
use Rattle.qw_io.proofs.StandsLemmas.{at_front}
use Rattle.qw_io.proofs.file_shelf.FileShelf.take_opened.Goals as goal

pub returns-in-Ok-clause-stands : goal.returns-in-Ok-clause-stands
returns-in-Ok-clause-stands g c =
    let name : c.as_str.result.now ≡ c.args.name.now = search rules in
    rw (c.new.ensures.offset, c.new.ensures.file) (at_front _ _ _ c.in-Ok.file (rw (← name, ← c.in-Ok.is) c.open_named.ensures))
