use Rattle.std.proofs.Common.{◌≤◌, ◌++◌, List, ℕ, length, arith}
use Rattle.std.proofs.lemmas.Grind.{common_steps}
use Rattle.std.proofs.lemmas.Result.{MatchResult-weaker}
use Rattle.qw_csv.specs.Loading.{LeavesToRead}
use Rattle.qw_csv.proofs.FileLemmas.{placed_line}
use Rattle.qw_csv.proofs.MachineLemmas.{leaves_bare}
use Rattle.qw_csv.proofs.loader.take_start.Goals as goal

pub returns-then-len-lt3-clause-taken : goal.returns-then-len-lt3-clause-taken
returns-then-len-lt3-clause-taken c given before records leaves many taken =
    record { many = many; records = records; leaves = rw c.in_ok-extend_from_slice.ensures.items leaves; taken = taken; columns = c.requires }

pub take_lines-requires-clause-placed : goal.take_lines-requires-clause-placed
take_lines-requires-clause-placed c = rw c.in_ok-line.ensures.items placed_line

bare : (c : goal.After-drop-waiting-2) (given : List ℕ) (records : List (List (List ℕ))) → LeavesToRead given records (c.args.waiting.items ++ c.args.piece.now)
    → LeavesToRead given records (c.in_ok-line.line.items ++ c.without_mark-text.result.now)
bare c given records leaves =
    let long : 3 ≤ length c.extend_from_slice.new.self.items = grind (arith, common_steps) in
    rw (c.in_ok-line.ensures.items, c.without_mark-text.ensures, c.as_slice.ensures.value, c.in_ok-extend_from_slice.ensures.items)
    (leaves_bare given (c.args.waiting.items ++ c.args.piece.now) records (rw c.in_ok-extend_from_slice.ensures.items at long) leaves)

pub returns-clause-taken : goal.returns-clause-taken
returns-clause-taken c =
    MatchResult-weaker c.take_lines.result c.take_lines.ensures.taken (λ _ h given before records leaves many taken. h given before records (bare c given records leaves) many taken) (λ _ h. h)

pub returns-clause-fault : goal.returns-clause-fault
returns-clause-fault c =
    MatchResult-weaker c.take_lines.result c.take_lines.ensures.fault (λ _ h. h) (λ _ h memory given behind before records leaves many taken. h memory given behind before records (bare c given records leaves) many taken)
