use Rattle.std.proofs.Common.{◌<◌, ◌++◌, ◌∙◌, List, ℕ, arith, length}
use Rattle.std.proofs.lemmas.Grind.{common_steps}
use Rattle.std.proofs.lemmas.Result.{MatchResult-weaker, err_from_is_err_and}
use Rattle.csv.specs.Reading.{strip_bom}
use Rattle.qw_types.specs.declared.value.Val.{Val}
use Rattle.qw_csv.specs.Field.{lent}
use Rattle.qw_csv.specs.Inner.Loading.{TakesAll}
use Rattle.qw_csv.specs.Loading.{LeavesToRead}
use Rattle.qw_csv.proofs.FileLemmas.{lines_fail, lines_taken, placed_more, placed_rest, rest_waits}
use Rattle.qw_csv.proofs.loader.take_lines.Goals as goal

pub wait_for-requires-clause-placed : goal.wait_for-requires-clause-placed
wait_for-requires-clause-placed c =
    rw c.in_ok-extend_from_slice.ensures.items (placed_more c.args.waiting.items c.args.piece.now c.args.place c.scan-scanned.result.place c.requires.placed c.scan-scanned.ensures.place)

pub returns-then-scanned-eq0-clause-taken : goal.returns-then-scanned-eq0-clause-taken
returns-then-scanned-eq0-clause-taken c =
    MatchResult-weaker c.wait_for.result c.wait_for.ensures.taken
    (λ _ h given before records leaves many taken. h given before records (rw c.in_ok-extend_from_slice.ensures.items leaves) many taken) (λ _ h. h)

pub returns-then-scanned-eq0-clause-fault : goal.returns-then-scanned-eq0-clause-fault
returns-then-scanned-eq0-clause-fault c =
    MatchResult-weaker c.wait_for.result c.wait_for.ensures.fault (λ _ h. h)
    (λ _ h memory given behind before records leaves many taken. h memory given behind before records (rw c.in_ok-extend_from_slice.ensures.items leaves) many taken)

pub returns-in_err-taken-clause-fault : goal.returns-in_err-taken-clause-fault
returns-in_err-taken-clause-fault c =
    let p = err_from_is_err_and c.from_residual-in_err-taken.result c.from_residual-in_err-taken.ensures.1 in
    let some : 0 < c.scan-scanned.result.whole = grind (arith, common_steps) in
    rw (p.1, p.2) (λ memory given behind before records leaves many taken.
    lines_fail c.args.waiting.items c.args.piece.now c.scan-scanned.result.whole c.args.place c.requires.placed some c.scan-scanned.ensures.whole c.args.table.now (lent c.args.null) (length before) given records leaves behind _
    (rw (c.as_slice.ensures.value, c.in_ok-extend_from_slice-2.ensures.items) at (c.in_err-taken.ensures.fault memory before records many taken)))

pub wait_for-requires-2-clause-placed : goal.wait_for-requires-2-clause-placed
wait_for-requires-2-clause-placed c =
    let whole = c.scan-scanned.result.whole in
    let some : 0 < whole = grind (arith, common_steps) in
    let kept = rest_waits c.args.waiting.items c.args.piece.now _ _ c.extend_from_slice-3.new.self.items whole c.args.place c.requires.placed c.in_ok-extend_from_slice-2.ensures.items c.truncate.ensures.items
    c.in_ok-extend_from_slice-3.ensures.items in
    rw kept (placed_rest c.args.waiting.items c.args.piece.now whole c.args.place c.requires.placed some c.scan-scanned.ensures.whole c.scan-scanned.result.place c.scan-scanned.ensures.place)

rest_leaves : (c : goal.After-wait_for-2) (given : List ℕ) (before : List (List Val)) (records : List (List (List ℕ))) → LeavesToRead given records (c.args.waiting.items ++ c.args.piece.now)
    → (h : TakesAll (lent c.args.null) c.args.table.now.columns before (strip_bom c.as_slice.result.now) records c.in_ok-taken.taken.named c.in_ok-taken.taken.loaded.rows)
    → LeavesToRead given (records ++ h.more) c.extend_from_slice-3.new.self.items
rest_leaves c given before records leaves h =
    let whole = c.scan-scanned.result.whole in
    let some : 0 < whole = grind (arith, common_steps) in
    let kept = rest_waits c.args.waiting.items c.args.piece.now _ _ c.extend_from_slice-3.new.self.items whole c.args.place c.requires.placed c.in_ok-extend_from_slice-2.ensures.items c.truncate.ensures.items
    c.in_ok-extend_from_slice-3.ensures.items in
    rw kept (lines_taken c.args.waiting.items c.args.piece.now whole c.args.place c.requires.placed some c.scan-scanned.ensures.whole c.args.table.now (lent c.args.null) (length before) given records leaves h.more
    (rw (c.as_slice.ensures.value, c.in_ok-extend_from_slice-2.ensures.items) at h.all))

pub returns-clause-taken : goal.returns-clause-taken
returns-clause-taken c =
    MatchResult-weaker c.wait_for-2.result c.wait_for-2.ensures.taken
    (λ _ h given before records leaves many taken.
    let t = c.in_ok-taken.ensures.taken before records taken in
    h given before (records ++ t.more) (rest_leaves c given before records leaves t) (c.in_ok-taken.ensures.before ∙ many) t.taken)
    (λ _ h. h)

pub returns-clause-fault : goal.returns-clause-fault
returns-clause-fault c =
    MatchResult-weaker c.wait_for-2.result c.wait_for-2.ensures.fault (λ _ h. h)
    (λ _ h memory given behind before records leaves many taken.
    let t = c.in_ok-taken.ensures.taken before records taken in
    h memory given behind before (records ++ t.more) (rest_leaves c given before records leaves t) (c.in_ok-taken.ensures.before ∙ many) t.taken)
