use Rattle.std.proofs.Common.{◌≡◌, ℕ, ◌+◌, ◌*◌, List, ◌++◌, length, take, drop, refl, ◌∙◌, subst, arith}
use Rattle.qw_linear.specs.Memory.{with_number}
use Rattle.qw_map.specs.Layout.{descriptor_size}
use Rattle.qw_map.specs.declared.layout.Used.{Used}
use Rattle.qw_bench.specs.Inner.Entries.{AreEntries, SameOutside}
use Rattle.qw_bench.proofs.FirstPages.{begun-below, begun-fresh}
use Rattle.qw_bench.proofs.first_page.begin_page.Goals as goal

free : (c : goal.After-copy) → c.put.new.memory.octets ≡ with_number c.args.memory.now.octets c.args.descriptor 4 (c.args.descriptor + descriptor_size c.args.layout.now)
free c =
    let zeroth : c.args.descriptor + 0 ≡ c.args.descriptor = omega arith in
    rw (zeroth, c.descriptor_size.ensures) at c.put.ensures.stored

columns : (c : goal.After-copy) → c.columns-columns.result.now ≡ c.args.layout.now.columns
columns c = c.columns-columns.ensures.columns

abbrev texts_at : (c : goal.After-copy) → ℕ
texts_at c = c.args.descriptor + 64 + 16 * length c.args.layout.now.columns

entries : (c : goal.After-copy) → AreEntries c.write_entries.new.memory.octets (c.args.descriptor + 64) c.args.layout.now.columns c.args.placed.now
entries c = subst (λ (xs : List Used). AreEntries c.write_entries.new.memory.octets (c.args.descriptor + 64) xs c.args.placed.now) (columns c) c.write_entries.ensures.entries

outside : (c : goal.After-copy) → SameOutside c.put-2.new.memory.octets c.write_entries.new.memory.octets (c.args.descriptor + 64) (16 * length c.args.layout.now.columns)
outside c =
    subst (λ (xs : List Used). SameOutside c.put-2.new.memory.octets c.write_entries.new.memory.octets (c.args.descriptor + 64) (16 * length xs)) (columns c)
    c.write_entries.ensures.outside

long : (c : goal.After-copy) → length c.write_entries.new.memory.octets ≡ length c.args.memory.now.octets
long c = c.write_entries.ensures.len ∙ c.put-2.ensures.len ∙ c.put.ensures.len

copied : (c : goal.After-copy) → c.copy.new.memory.octets ≡ take (texts_at c) c.write_entries.new.memory.octets
    ++ (c.args.layout.now.literals ++ drop (texts_at c + length c.args.layout.now.literals) c.write_entries.new.memory.octets)
copied c =
    rw (← c.literals.ensures.literals, ← columns c) c.copy.ensures.copied

pub returns-clause-fresh : goal.returns-clause-fresh
returns-clause-fresh c = begun-fresh c.args.descriptor c.args.layout.now c.args.placed.now c.args.memory.now.octets c.put.new.memory.octets
    c.put-2.new.memory.octets c.write_entries.new.memory.octets c.copy.new.memory.octets (free c) c.put-2.ensures.stored (entries c) (outside c) (long c)
    (texts_at c) refl (copied c) c.columns-columns.ensures.small c.requires.inside c.requires.end c.requires.blank

pub returns-clause-below : goal.returns-clause-below
returns-clause-below c = begun-below c.args.descriptor c.args.layout.now c.args.placed.now c.args.memory.now.octets c.put.new.memory.octets
    c.put-2.new.memory.octets c.write_entries.new.memory.octets c.copy.new.memory.octets (free c) c.put-2.ensures.stored (entries c) (outside c) (long c)
    (texts_at c) refl (copied c) c.columns-columns.ensures.small c.requires.inside
