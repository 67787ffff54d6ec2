use Rattle.std.proofs.Common.{◌≡◌, ◌+◌, ◌*◌, ◌≤◌, List, ℕ, length, ap, refl, ◌∙◌, arith}
use Rattle.std.proofs.lemmas.List.{with_items_is}
use Rattle.qw_linear.proofs.ClearedFacts.{cleared-octets, length-cleared}
use Rattle.qw_linear.specs.Linear.{Octets}
use Rattle.qw_linear.specs.Memory.{page, cleared}
use Rattle.qw_linear.proofs.linear.Linear.clear.Goals as goal

pub returns : goal.returns
returns c =
    let octets = c.self.inside.octets.items in
    let first = c.args.first in
    let pages = c.args.pages in
    let within : (first + pages) * page ≤ length octets = omega (arith, c.requires, ap (λ (memory : Octets). length memory.octets) c.self.view_is) in
    let done : c.put_zeros.new.octets ≡ cleared first pages octets =
    cleared-octets first pages (page * first) (page * pages) c.as_mut_slice.result.now octets c.put_zeros.new.octets refl refl
    c.as_mut_slice.ensures.value c.put_zeros.ensures in
    let whole : length c.put_zeros.new.octets ≡ c.self.inside.octets.len =
    omega (arith, ap (λ (xs : List ℕ). length xs) done, length-cleared first pages octets within) in
    rw (← c.self.view_is) (ap (λ (xs : List ℕ). record { octets = xs; reserved = c.self.inside.reserved }) (with_items_is c.self.inside.octets c.put_zeros.new.octets whole ∙ done))
