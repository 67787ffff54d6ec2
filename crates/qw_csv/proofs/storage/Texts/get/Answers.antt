use Rattle.qw_csv.proofs.StorageLemmas.{get_is, text_at}
use Rattle.qw_csv.proofs.storage.Texts.get.Goals as goal

pub part-requires : goal.part-requires
part-requires c =
    let there = get_is c.args.self.now.ends.items c.args.row c.index.result.now c.requires.row c.index.ensures in
    let (rises, within, _) = text_at 0 c.args.self.now.ends.items c.args.self.now.octets.items c.args.row c.start-start.result c.index.result.now c.requires.ends there
    c.start-start.ensures.first c.start-start.ensures.later in
    (rises, rw c.as_slice-octets.ensures.value within)

pub returns : goal.returns
returns c =
    let there = get_is c.args.self.now.ends.items c.args.row c.index.result.now c.requires.row c.index.ensures in
    let (_, _, found) = text_at 0 c.args.self.now.ends.items c.args.self.now.octets.items c.args.row c.start-start.result c.index.result.now c.requires.ends there
    c.start-start.ensures.first c.start-start.ensures.later in
    rw (c.part.ensures, c.as_slice-octets.ensures.value) found
