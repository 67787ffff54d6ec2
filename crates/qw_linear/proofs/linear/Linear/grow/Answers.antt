use Rattle.std.proofs.Common.{◌≡◌, ◌+◌, ◌*◌, List, ℕ, length, ap, refl, ◌∙◌, arith}
use Rattle.std.specs.Vec.{vec_len}
use Rattle.qw_linear.proofs.GrowthFacts.{grown-octets}
use Rattle.qw_linear.specs.Linear.{Octets}
use Rattle.qw_linear.specs.Memory.{page}
use Rattle.qw_linear.proofs.linear.Linear.grow.Goals as goal

pub returns-clause-grown : goal.returns-clause-grown
returns-clause-grown c =
    let octets = c.self.inside.octets.items in
    let before = c.size-before.result in
    let room = page * (before + c.args.pages) in
    let whole : length octets ≡ before * page = ap (λ (memory : Octets). length memory.octets) c.self.view_is ∙ c.size-before.ensures.pages in
    let done = c.resize.ensures.succeeds (omega (arith, c.self.invariant.room, c.self.invariant.whole, whole)) in
    let grown = grown-octets octets c.resize.new.self.items c.args.pages before room (vec_len c.self.inside.octets) whole refl (omega arith)
    (c.resize.ensures.items ∙ rw done refl) in
    rw (← c.self.view_is) (ap (λ (xs : List ℕ). record { octets = xs; reserved = c.self.inside.reserved }) grown)
