use Rattle.std.proofs.Common.{◌≡◌, ◌-◌, arith}
use Rattle.qw_csv.proofs.StorageLemmas.{get_is}
use Rattle.qw_csv.proofs.storage.Texts.start.Goals as goal

pub returns-clause-later : goal.returns-clause-later
returns-clause-later c before same =
    let place : c.args.row - 1 ≡ before = omega (arith, same) in
    get_is c.args.self.now.ends.items before c.index.result.now (omega (arith, same, c.requires.row)) (rw place at c.index.ensures)
