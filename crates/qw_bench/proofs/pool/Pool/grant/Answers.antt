use Rattle.std.proofs.Common.{◌≡◌, ◌+◌, ◌-◌, Bool, false, List, length, refl, sym, ap, ◌∙◌, arith}
use Rattle.std.specs.Vec.{with_items}
use Rattle.std.proofs.lemmas.List.{with_items_is}
use Rattle.qw_linear.specs.Linear.{Octets}
use Rattle.qw_map.specs.Free.{marked}
use Rattle.qw_map.proofs.FreeFacts.{length-marked}
use Rattle.qw_bench.specs.declared.pool.Pool.{Pool}
use Rattle.qw_bench.specs.Inner.Pools.{free_among}
use Rattle.qw_bench.proofs.PoolLemmas.{Gives, gives-next, gives-run}
use Rattle.qw_bench.proofs.pool.Pool.grant.Goals as goal
use Rattle.qw_bench.proofs.pool.Pool.grant.Goals.{After-add_taken, After-mark-taken}

-- the pool as the memory's next pages are given, and as a run of free pages is
abbrev grown_pool : After-add_taken → Pool
grown_pool c = record { memory = c.grow.new.self; free = c.add_taken.new.flags; free_count = c.args.self.now.free_count }

abbrev marked_pool : After-mark-taken → Pool
marked_pool c = record {
  memory = c.clear.new.self;
  free = with_items c.args.self.now.free c.mark-taken.new.flags;
  free_count = c.args.self.now.free_count - c.mark-taken.result;
}

-- the memory's next pages
next : (c : After-add_taken) → Gives c.args.self.now (grown_pool c) c.requires.kept c.size-first.result c.args.pages
next c =
    let grown = rw c.unwrap.ensures at c.grow.ensures.grown in
    gives-next c.args.self.now (grown_pool c) c.requires.kept c.size-first.result c.args.pages
    (let pages = c.size-first.ensures.pages in omega (arith, pages)) c.requires.room (ap (λ (m : Octets). m.octets) grown) (ap (λ (m : Octets). m.reserved) grown)
    c.add_taken.ensures.added c.add_taken.ensures.capacity refl

pub returns-in_default-clause-common : goal.returns-in_default-clause-common
returns-in_default-clause-common c = (next (goal.at.returns-in_default-clause-common c).After-add_taken).common

pub returns-in_default-clause-kept : goal.returns-in_default-clause-kept
returns-in_default-clause-kept c = (next (goal.at.returns-in_default-clause-kept c).After-add_taken).kept

pub returns-in_default-clause-size : goal.returns-in_default-clause-size
returns-in_default-clause-size c = (next (goal.at.returns-in_default-clause-size c).After-add_taken).size

-- a run of free pages
run : (c : After-mark-taken) → Gives c.args.self.now (marked_pool c) c.requires.kept c.in-Some.first c.args.pages
run c =
    let found = c.in-Some.ensures in
    let flags : c.mark-taken.new.flags ≡ marked false c.in-Some.first c.args.pages c.args.self.now.free.items =
    c.mark-taken.ensures.marked ∙ ap (marked false c.in-Some.first c.args.pages) c.as_mut_slice.ensures.value in
    let whole : length c.mark-taken.new.flags ≡ c.args.self.now.free.len =
    ap length flags ∙ length-marked false c.in-Some.first c.args.pages c.args.self.now.free.items ∙ sym c.args.self.now.free.ok.0 in
    let stored : (marked_pool c).free.items ≡ c.mark-taken.new.flags = with_items_is c.args.self.now.free c.mark-taken.new.flags whole in
    let counted : free_among (marked_pool c).free.items + c.mark-taken.result ≡ c.args.self.now.free_count =
    ap (λ (xs : List Bool). free_among xs + c.mark-taken.result) stored ∙ c.mark-taken.ensures.changed ∙ ap free_among c.as_mut_slice.ensures.value ∙ sym c.requires.kept.counted in
    gives-run c.args.self.now (marked_pool c) c.requires.kept c.in-Some.first c.args.pages
    found.some found.within (ap (λ (m : Octets). m.octets) c.clear.ensures) (ap (λ (m : Octets). m.reserved) c.clear.ensures)
    (stored ∙ flags) refl (omega (arith, counted))

pub returns-clause-kept : goal.returns-clause-kept
returns-clause-kept c = (run (goal.at.returns-clause-kept c).After-mark-taken).kept

pub returns-clause-size : goal.returns-clause-size
returns-clause-size c = (run (goal.at.returns-clause-size c).After-mark-taken).size
