use Rattle.std.proofs.Common.{◌<◌, None, Err, [], refl, sym, ap, arith}
use Rattle.std.proofs.lemmas.Grind.{common_steps}
use Rattle.qw_command_line.specs.Read.{names_of}
use Rattle.qw_top.specs.Asking.{IsOne}
use Rattle.qw_top.specs.Inner.Shelves.{told_by}
use Rattle.qw_top.specs.Limits.{most_table_octets}
use Rattle.qw_top.specs.declared.files.ReadFault.TheVariants as read_faults
use Rattle.qw_top.proofs.AskingLemmas.{asks_none, asks_then}
use Rattle.qw_top.proofs.TableFileLemmas.{fails_within, front_none, is_longer, other_fault, read_there, shelf_none, takes_file, takes_more, unread_content, unread_long, unread_shelf}
use Rattle.qw_top.proofs.WholeFileLemmas.{HasRead-then}
use Rattle.qw_top.proofs.table_file.take_pieces.Goals as goal

-- before the first piece
pub loop-at-init : goal.loop-at-init
loop-at-init g c = (
  record {
    given = [];
    front = front_none (g.F.Shelf.files c.args.files.now) c.args.name.now;
    long = refl;
    taken = λ parts started. started;
    within = omega arith;
    shelf = shelf_none _;
    asked = asks_none _ _;
  },
  c.requires.room,
)

-- a piece that wasn't read
pub returns-in_err-count-clause-refused : goal.returns-in_err-count-clause-refused
returns-in_err-count-clause-refused g c =
    unread_content c.in_err-count.field-0.0 c.from_residual.result c.from_residual.ensures.1 _

pub returns-in_err-count-clause-too_long : goal.returns-in_err-count-clause-too_long
returns-in_err-count-clause-too_long g c long =
    absurd (unread_long c.in_err-count.field-0.0 c.from_residual.result c.from_residual.ensures.1
    (λ same. c.in_err-count.ensures.never_too_long (ap (λ fault. Err fault) same)) long)

pub returns-in_err-count-clause-shelf : goal.returns-in_err-count-clause-shelf
returns-in_err-count-clause-shelf g c =
    unread_shelf c.in_err-count.field-0.0 c.from_residual.result c.from_residual.ensures.1 c.args.name.now
    (Err c.in_err-count.field-0.0) _ _ _ refl c.loop-at.invariant.0.shelf c.in_err-count.ensures.shelf

pub returns-in_err-count-clause-asked : goal.returns-in_err-count-clause-asked
returns-in_err-count-clause-asked g c =
    asks_then (IsOne c.args.name.now most_table_octets) _ _ _ c.loop-at.invariant.0.asked c.in_err-count.ensures.asked

-- the end of the file
pub returns-then-count-eq0-clause-taken : goal.returns-then-count-eq0-clause-taken
returns-then-count-eq0-clause-taken g c =
    takes_file (told_by g.F.Shelf c.args.files.now) (told_by g.F.Shelf c.loop-at.files) c.args.name.now most_table_octets c.args.table.now (names_of c.args.names.now)
    c.args.loader c.loop-at.taken c.loop-at.at c.loop-at.invariant.0 c.loop-at-test.true
    (rw c.loop-at.invariant.0.shelf.same_files at (c.in_ok-count.ensures.end c.if-count-eq0.true))

pub returns-then-count-eq0-clause-shelf : goal.returns-then-count-eq0-clause-shelf
returns-then-count-eq0-clause-shelf g c = HasRead-then None _ _ _ c.loop-at.invariant.0.shelf c.in_ok-count.ensures.shelf

pub returns-then-count-eq0-clause-asked : goal.returns-then-count-eq0-clause-asked
returns-then-count-eq0-clause-asked g c =
    asks_then (IsOne c.args.name.now most_table_octets) _ _ _ c.loop-at.invariant.0.asked c.in_ok-count.ensures.asked

-- a record at fault
pub take-requires : goal.take-requires
take-requires g c =
    let (parts, started) = c.requires.start in
    (parts, c.loop-at.invariant.0.given, rw c.null_octets.ensures (c.loop-at.invariant.0.taken parts started))

pub fault_of-requires-clause-there : goal.fault_of-requires-clause-there
fault_of-requires-clause-there g c =
    let some : 0 < c.in_ok-count.count = grind (arith, common_steps) in
    rw c.in_ok-count.ensures.shelf.same_files (read_there (g.F.Shelf.files c.loop-at.files) c.args.name.now c.fetch_piece.new.piece c.loop-at.at c.in_ok-count.count some
    c.in_ok-count.ensures.fits c.in_ok-count.ensures.octets)

pub returns-in-Err-clause-refused : goal.returns-in-Err-clause-refused
returns-in-Err-clause-refused g c other same ample =
    let h = c.loop-at.invariant.0 in
    let (is, within, short) = c.fault_of.ensures.content other same ample in
    fails_within (told_by g.F.Shelf c.args.files.now) (told_by g.F.Shelf c.loop-at.files) c.args.name.now most_table_octets c.args.table.now (names_of c.args.names.now)
    c.args.loader c.loop-at.taken c.loop-at.at h other c.fetch_piece.new.piece c.in_ok-count.count c.in_ok-count.ensures.fits
    (rw h.shelf.same_files at c.in_ok-count.ensures.octets) within (rw (c.in_ok-count.ensures.shelf.same_files, h.shelf.same_files) at short)
    (rw (is, sym c.null_octets.ensures) (c.in-Err.ensures.fault (rw is at ample)))

pub returns-in-Err-clause-too_long : goal.returns-in-Err-clause-too_long
returns-in-Err-clause-too_long g c long =
    rw (c.in_ok-count.ensures.shelf.same_files, c.loop-at.invariant.0.shelf.same_files) at (c.fault_of.ensures.too_long (grind (arith, common_steps)))

pub returns-in-Err-clause-shelf : goal.returns-in-Err-clause-shelf
returns-in-Err-clause-shelf g c =
    HasRead-then _ _ _ _ (HasRead-then None _ _ _ c.loop-at.invariant.0.shelf c.in_ok-count.ensures.shelf) c.fault_of.ensures.shelf

pub returns-in-Err-clause-asked : goal.returns-in-Err-clause-asked
returns-in-Err-clause-asked g c =
    asks_then (IsOne c.args.name.now most_table_octets) _ _ _ (asks_then (IsOne c.args.name.now most_table_octets) _ _ _ c.loop-at.invariant.0.asked c.in_ok-count.ensures.asked) c.fault_of.ensures.asked

-- the next piece
pub loop-at-preserved : goal.loop-at-preserved
loop-at-preserved g c =
    let h = c.loop-at.invariant.0 in (
      takes_more (told_by g.F.Shelf c.args.files.now) (told_by g.F.Shelf c.loop-at.files) c.args.name.now most_table_octets c.args.table.now (names_of c.args.names.now)
          c.args.loader c.loop-at.taken c.loop-at.at h _ _ c.fetch_piece.new.piece c.in_ok-count.count c.in_ok-count.ensures.fits
          (rw h.shelf.same_files at c.in_ok-count.ensures.octets) c.in_ok-count.ensures.within (rw (sym c.null_octets.ensures) c.in-Ok.ensures.taken)
          (HasRead-then None _ _ _ h.shelf c.in_ok-count.ensures.shelf)
          (asks_then (IsOne c.args.name.now most_table_octets) _ _ _ h.asked c.in_ok-count.ensures.asked),
      grind (arith, common_steps),
    )

-- past the limit
pub returns-clause-too_long : goal.returns-clause-too_long
returns-clause-too_long g c _ =
    is_longer (told_by g.F.Shelf c.args.files.now) (told_by g.F.Shelf c.loop-at.files) c.args.name.now most_table_octets c.args.table.now (names_of c.args.names.now)
    c.args.loader c.loop-at.taken c.loop-at.at c.loop-at.invariant.0 c.loop-at-test.false

pub returns-clause-refused : goal.returns-clause-refused
returns-clause-refused g c load same ample = absurd (other_fault read_faults.TooLong load same)

pub returns-clause-shelf : goal.returns-clause-shelf
returns-clause-shelf g c = c.loop-at.invariant.0.shelf

pub returns-clause-asked : goal.returns-clause-asked
returns-clause-asked g c = c.loop-at.invariant.0.asked
