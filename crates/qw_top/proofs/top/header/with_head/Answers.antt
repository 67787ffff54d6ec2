use Rattle.std.proofs.Common.{◌≡◌, None, sym}
use Rattle.std.specs.Prelude.{slice_get}
use Rattle.std.proofs.lemmas.List.{append-nil}
use Rattle.std.proofs.lemmas.Option.{slice_get_past}
use Rattle.qw_top.proofs.top.header.with_head.Goals as goal

pub returns-in-None : goal.returns-in-None
returns-in-None c =
    let none : slice_get c.args.items.now c.args.index ≡ None = slice_get_past c.args.items.now c.args.index c.in-None.ensures.lookup.3 in
    rw none (sym (append-nil c.args.heads.items))
