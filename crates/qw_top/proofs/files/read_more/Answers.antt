use Rattle.std.proofs.Common.{◌≡◌, ◌≤◌, ◌++◌, length, take, drop, arith}
use Rattle.std.proofs.lemmas.Grind.{common_steps}
use Rattle.qw_io.specs.Files.{OfFile}
use Rattle.qw_top.proofs.WholeFileLemmas.{IsFront-more}
use Rattle.qw_top.proofs.files.read_more.Goals as goal

pub returns-clause-front : goal.returns-clause-front
returns-clause-front g c front =
    let count = c.in_ok-count.count in
    let into = c.fetch.new.into in
    let fits : count ≤ length into = grind (arith, common_steps, c.in_ok-count.ensures.within, c.fetch.auto.into) in
    let at : c.len.result ≡ length c.args.bytes.now.items = grind (arith, common_steps) in
    let octets : OfFile (g.F.Shelf.files c.args.files.now) c.args.name.now (λ file. take count into ≡ take count (drop (length c.args.bytes.now.items) file)) = rw (← at) c.in_ok-count.ensures.octets in
    let is : c.extend_from_slice.new.self.items ≡ c.args.bytes.now.items ++ take count into = grind (arith, common_steps) in
    rw is (IsFront-more _ _ _ _ _ front fits octets)
