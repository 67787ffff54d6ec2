use Rattle.std.proofs.Common.{◌≡◌, ◌+◌, length, length-append, rules}
use Rattle.qw_csv.proofs.StorageLemmas.{ends_push, texts_push}
use Rattle.qw_csv.proofs.storage.Texts.push.Goals as goal

pub returns-clause-texts : goal.returns-clause-texts
returns-clause-texts c =
    let octets = c.args.self.now.octets.items in
    let long : c.in-Ok.end ≡ length octets + length c.args.text.now = search (rules, length-append) in
    rw (c.in_ok-push.ensures.items, long, c.in_ok-extend_from_slice.ensures.items) (texts_push 0 c.args.self.now.ends.items octets c.args.text.now c.requires)

pub returns-clause-ends : goal.returns-clause-ends
returns-clause-ends c =
    let octets = c.args.self.now.octets.items in
    let long : c.in-Ok.end ≡ length octets + length c.args.text.now = search (rules, length-append) in
    rw (c.in_ok-push.ensures.items, long, c.in_ok-extend_from_slice.ensures.items, length-append octets c.args.text.now)
    (ends_push 0 (length octets) (length c.args.text.now) c.args.self.now.ends.items c.requires)
