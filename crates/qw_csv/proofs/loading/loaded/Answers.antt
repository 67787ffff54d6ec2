use Rattle.std.proofs.Common.{◌≡◌, add-one, arith, length, map, refl, take_all}
use Rattle.std.proofs.lemmas.List.{length-map}
use Rattle.qw_types.specs.Contents.{column_type}
use Rattle.qw_csv.proofs.PushLemmas.{sized_types, types_more}
use Rattle.qw_csv.proofs.StorageLemmas.{get_is}
use Rattle.qw_csv.proofs.loading.loaded.Goals as goal

pub loop-column-preserved : goal.loop-column-preserved
loop-column-preserved c =
    let there = get_is c.args.columns.now c.loop-column.column-index c.column-item.result c.loop-column-test.true c.column-item.is in
    rw (c.in_ok-push.ensures.items, add-one, types_more c.args.columns.now c.loop-column.column-index c.column-item.result there, c.loop-column.invariant, c.column_type.ensures) refl

all : (c : goal.After-loop-column) → c.loop-column.types.items ≡ map column_type c.args.columns.now
all c = rw (take_all c.loop-column.column-index c.args.columns.now c.loop-column-test.false) at c.loop-column.invariant

pub new-requires : goal.new-requires
new-requires c =
    let long : length (map column_type c.args.columns.now) ≡ length c.args.columns.now = length-map c.args.columns.now column_type in
    rw (all c) (record {
      some = omega (arith, long, c.requires.limits.some);
      narrow = omega (arith, long, c.requires.limits.few);
      sized = sized_types c.args.columns.now c.requires.limits.sized;
      few = c.requires.few;
      kept = c.requires.kept;
    })
