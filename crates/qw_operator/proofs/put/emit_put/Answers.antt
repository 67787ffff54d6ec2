use Rattle.std.proofs.Common.{List, length, sum_by, ap, sym, refl, subst, arith}
use Rattle.std.proofs.lemmas.List.{length-map}
use Rattle.qw_scalar.specs.Nodes.{nodes}
use Rattle.qw_scalar.specs.Tree.{expression_of}
use Rattle.qw_expr.specs.Bindings.{known_of}
use Rattle.qw_expr.specs.Emits.{extent}
use Rattle.qw_table.specs.Keys.{AreBelow}
use Rattle.qw_table.specs.declared.key.Field.{Field}
use Rattle.qw_operator.specs.Grouping.{group_of}
use Rattle.qw_operator.specs.Inner.Entering.{Enters, put_types}
use Rattle.qw_operator.proofs.GroupEmitted.{made_kinds, put_emits, put_short}
use Rattle.qw_operator.proofs.put.emit_put.Goals as goal

pub push_within-requires-clause-many : goal.push_within-requires-clause-many
push_within-requires-clause-many c =
    let many = c.in_ok-directory.ensures.made.many in
    let same = ap (λ (l : List Field). length l) c.deref.ensures.value in
    let counted = c.requires.can.many in
    omega (arith, many, same, counted)

pub push_within-requires-clause-few : goal.push_within-requires-clause-few
push_within-requires-clause-few c =
    let many = c.in_ok-directory.ensures.made.many in
    let same = ap (λ (l : List Field). length l) c.deref.ensures.value in
    let few = c.requires.can.few in
    omega (arith, many, same, few)

pub push_within-requires-clause-below : goal.push_within-requires-clause-below
push_within-requires-clause-below c = subst (λ (l : List Field). AreBelow c.in_ok-directory.field-0.free l) (sym c.deref.ensures.value) c.in_ok-directory.ensures.made.below

pub push_within-requires-clause-areas : goal.push_within-requires-clause-areas
push_within-requires-clause-areas c is =
    let made = c.in_ok-directory.ensures.made in
    let at = made.table_is in
    let free = made.free_is in
    let low = c.requires.table is in
    omega (arith, at, free, low)

pub push_within-requires-clause-room : goal.push_within-requires-clause-room
push_within-requires-clause-room c = c.in_ok-directory.ensures.made.room

pub returns-clause-emits : goal.returns-clause-emits
returns-clause-emits c =
    let g = group_of c.args.group.now in
    let d = c.in_ok-directory.field-0.directory in
    let free = c.in_ok-directory.field-0.free in
    let made = c.in_ok-push_within.ensures in
    put_emits (put_types c.args.place) (known_of c.args.known.now) g c.args.emitter.now c.open_put.new.emitter (record { first = c.open_put.new.emitter.first; block = c.push_within.new.block; own = c.open_put.new.emitter.own }) d free c.in_ok-directory.field-0.key.items c.in_ok-directory.ensures.made c.args.guard made.0 refl refl made.1 c.args.place refl
    (subst (λ (l : List Field). Enters c.args.place d free g l made.0) c.deref.ensures.value made.2)

pub returns-clause-kinds : goal.returns-clause-kinds
returns-clause-kinds c =
    let made = c.in_ok-directory.ensures.made in
    made_kinds (put_types c.args.place) (known_of c.args.known.now) (group_of c.args.group.now) c.args.emitter.now c.open_put.new.emitter c.open_put.new.emitter c.in_ok-directory.field-0.directory c.in_ok-directory.field-0.free c.in_ok-directory.field-0.key.items made

pub returns-clause-short : goal.returns-clause-short
returns-clause-short c =
    let g = group_of c.args.group.now in
    let d = c.in_ok-directory.field-0.directory in
    let free = c.in_ok-directory.field-0.free in
    let made = c.in_ok-push_within.ensures in
    let counted = c.requires.can.many in
    let mapped = length-map c.args.group.now.values.items expression_of in
    put_short c.args.guard c.open_put.new.emitter (record { first = c.open_put.new.emitter.first; block = c.push_within.new.block; own = c.open_put.new.emitter.own }) made.0 refl made.1 (sum_by nodes c.args.group.now.values.items) (length c.args.group.now.values.items) (extent c.args.emitter.now) c.args.place d free g
    c.in_ok-directory.field-0.key.items c.in_ok-directory.ensures.short (subst (λ (l : List Field). Enters c.args.place d free g l made.0) c.deref.ensures.value made.2) (omega (arith, counted, mapped))
