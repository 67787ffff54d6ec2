use Rattle.std.proofs.Common.{◌≡◌, [], ℕ, Vec, Global, refl, arith, take_all}
use Rattle.std.proofs.lemmas.List.{length-map}
use Rattle.qw_csv.specs.Field.{lent}
use Rattle.qw_csv.specs.Loading.{AreTaken}
use Rattle.qw_csv.specs.declared.loading.PartFault.TheVariants.{At}
use Rattle.qw_csv.proofs.FileLemmas.{none_taken_yet}
use Rattle.qw_csv.proofs.MachineLemmas.{leaves_all}
use Rattle.qw_csv.proofs.PartLemmas.{next_fails, next_parts}
use Rattle.qw_csv.proofs.StorageLemmas.{get_is}
use Rattle.qw_csv.proofs.loading.load_parts.Goals as goal

pub loop-index-init : goal.loop-index-init
loop-index-init c =
    let (rows, named, before) = c.in-Ok.ensures.none in
    record { each = rows; few = rw rows (omega arith); columns = rw c.as_slice.ensures.same at c.in-Ok.ensures.columns }

pub take_rest-requires : goal.take_rest-requires
take_rest-requires c = rw c.next_part.ensures.rows c.loop-index.invariant.columns

pub returns-in-Err-clause-fault : goal.returns-in-Err-clause-fault
returns-in-Err-clause-fault c part why told =
    let is : c.in_part.result ≡ At part why = cc told in
    let (number, same, memory) = c.in_part.ensures part why is in
    let rows = c.loop-index.loaded.rows in
    let there = get_is c.args.parts.now c.loop-index.index c.index-parts-index.result c.loop-index-test.true c.index-parts-index.is in
    let none : AreTaken (lent c.args.null) c.args.table.now.columns rows [] c.next_part.result.named c.next_part.result.loaded.rows =
    rw c.next_part.ensures.rows (none_taken_yet (lent c.args.null) c.args.table.now.columns rows c.next_part.result.named rows c.next_part.ensures.named refl c.loop-index.invariant.few) in
    let fault = c.in-Err.ensures.fault (rw same at memory) c.index-parts-index.result.items rows [] (rw c.as_slice-in-loop-index.ensures.value (leaves_all c.index-parts-index.result.items)) c.next_part.ensures.before none in
    (memory, next_fails c.args.table.now (lent c.args.null) c.args.parts.now c.loop-index.index c.index-parts-index.result there rows c.loop-index.invariant.each part why number c.loop-index.invariant.few (rw same fault))

pub loop-index-preserved : goal.loop-index-preserved
loop-index-preserved c =
    let rows = c.loop-index.loaded.rows in
    let there = get_is c.args.parts.now c.loop-index.index c.index-parts-index.result c.loop-index-test.true c.index-parts-index.is in
    let none : AreTaken (lent c.args.null) c.args.table.now.columns rows [] c.next_part.result.named c.next_part.result.loaded.rows =
    rw c.next_part.ensures.rows (none_taken_yet (lent c.args.null) c.args.table.now.columns rows c.next_part.result.named rows c.next_part.ensures.named refl c.loop-index.invariant.few) in
    let whole = c.in-Ok-take_rest.ensures.rows c.index-parts-index.result.items rows [] (rw c.as_slice-in-loop-index.ensures.value (leaves_all c.index-parts-index.result.items)) none in
    record {
      each = next_parts c.args.table.now (lent c.args.null) c.args.parts.now c.loop-index.index c.index-parts-index.result there rows c.loop-index.invariant.each c.in-Ok-take_rest.next.rows whole;
      few = whole.few;
      columns = c.in-Ok-take_rest.ensures.columns;
    }

pub returns-clause-rows : goal.returns-clause-rows
returns-clause-rows c =
    record { some = omega (arith, c.requires, length-map c.args.parts.now (λ (part : Vec ℕ Global). part.items)); each = rw (take_all c.loop-index.index c.args.parts.now (omega (arith, c.loop-index-test.false))) at c.loop-index.invariant.each; few = c.loop-index.invariant.few }
