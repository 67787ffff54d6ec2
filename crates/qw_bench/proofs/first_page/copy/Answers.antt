use Rattle.std.proofs.Common.{◌≡◌, ℕ, ◌+◌, ◌<◌, ◌++◌, length, take, drop, ap, ◌∙◌, append_assoc, arith}
use Rattle.std.proofs.lemmas.List.Elements.{All-from_get_or}
use Rattle.qw_linear.specs.Linear.{Octets}
use Rattle.qw_bench.proofs.FirstPages.{copied-length, copied-octets}
use Rattle.qw_bench.proofs.first_page.copy.Goals as goal

copied : (c : goal.After-unwrap) → c.copy_in.new.self.octets ≡ take c.args.address c.args.memory.now.octets
    ++ (c.args.octets.now ++ drop (c.args.address + length c.args.octets.now) c.args.memory.now.octets)
copied c =
    let whole = rw c.unwrap.ensures at c.copy_in.ensures.copied in
    rw c.from.ensures at (ap (λ (m : Octets). m.octets) whole ∙ append_assoc (take c.from.result c.args.memory.now.octets) c.args.octets.now
    (drop (c.from.result + length c.args.octets.now) c.args.memory.now.octets))

pub returns-clause-copied : goal.returns-clause-copied
returns-clause-copied c = copied c

pub returns-clause-octets : goal.returns-clause-octets
returns-clause-octets c = λ are.
    let those = All-from_get_or (λ (octet : ℕ). octet < 256) c.args.octets.now 0 (λ k within. omega (arith, c.type_inv.octets k)) in
    copied-octets c.args.memory.now.octets c.copy_in.new.self.octets c.args.octets.now c.args.address c.requires (copied c) are those

pub returns-clause-len : goal.returns-clause-len
returns-clause-len c = copied-length c.args.memory.now.octets c.copy_in.new.self.octets c.args.octets.now c.args.address c.requires (copied c)
