use Rattle.std.proofs.Common.{◌≡◌, ℕ, ◌+◌, pos, [], ◌∷◌, Some, sym, subst, refl, arith}
use Rattle.std.proofs.lemmas.Bool.{le-leb}
use Rattle.std.specs.Int.{w64, cast_signed}
use Rattle.qw_types.specs.declared.kind.Kind.TheVariants as kind
use Rattle.qw_feed.specs.Cells.{cells_block}
use Rattle.qw_feed.specs.Frames.{Before, From}
use Rattle.qw_feed.specs.Worked.{number, HasOne, two_rows, in_local}
use Rattle.qw_feed.proofs.CellFills.{row-same}
use Rattle.qw_feed.proofs.FinishRuns.{finish_ends}
use Rattle.qw_feed.proofs.Frames.{Keeps-same}
use Rattle.qw_feed.proofs.PushFeeds.{push_ends}
use Rattle.qw_feed.proofs.WorkedFacts.{fills, same_magnitude, same_number, two_rows_there}
use Rattle.qw_feed.proofs.worked_laws.rows_that_are_pushed.Goals as goal

pub returns-clause-filled : goal.returns-clause-filled
returns-clause-filled c = fills

pub returns-clause-unfilled : goal.returns-clause-unfilled
returns-clause-unfilled c = λ filled.
    let done = filled two_rows 0 112 (Keeps-same (From 3) (Before 64) two_rows) refl refl (omega arith) (omega arith) (λ a b from to. rw (le-leb 112 a from, le-leb (a + b) 65536 to) refl) in
    let cell = done.1.1.1.0.0 in
    let two : cast_signed w64 0 ≡ pos 2 = subst (λ (n : ℕ). cast_signed w64 n ≡ pos 2) (sym (same_number 0 cell.0 cell.1)) cell.3 in
    omega (arith, same_magnitude 0 2 two)

pub returns-clause-pushed : goal.returns-clause-pushed
returns-clause-pushed c = push_ends HasOne 24 (omega arith) (row-same (λ p offset octets. ⊥) (Some (kind.Number 0) ∷ [])) 64 65512 0 (omega arith) 128 0 (number 5 ∷ number 7 ∷ []) (number 2) two_rows two_rows_there (omega arith)
    (cells_block 8 (in_local ∷ [])) fills (omega arith)

pub returns-clause-finished : goal.returns-clause-finished
returns-clause-finished c = finish_ends HasOne 24 64 65512 0 (omega arith) (omega arith) (row-same (λ p offset octets. ⊥) (Some (kind.Number 0) ∷ [])) (λ code. ⊥) 128 0 two_rows (number 5 ∷ number 7 ∷ []) two_rows_there
