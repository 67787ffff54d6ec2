-- A call of `qwasm-layout`, by the reading of its words.
use Rattle.std.proofs.Common.{◌≡◌, ◌⊎◌, ℕ, List, Option, Err, inl, inr, refl, sym, subst}
use Rattle.qw_command_line.specs.Read.{Answers, AnswersStatement}
use Rattle.qw_command_line.specs.Words.{run, compile, check, gen, Reading, command, no_command, out_of_range}
use Rattle.qw_command_line.specs.declared.command.WordsFault.{WordsFault}
use Rattle.qw_command_line.specs.declared.command.WordsFault.TheVariants as words_faults
use Rattle.qw_top.specs.LayoutCall.{LayoutLeavesBy}
use Rattle.qw_top.specs.Top.{Files}
use Rattle.qw_top.specs.declared.status.Status.{Status}
use Rattle.qw_top.specs.declared.status.Status.TheVariants.{WriteFailed, NoMemory}
use Rattle.qw_top.specs.Inner.Noted.{NotesWords}
use Rattle.qw_top.proofs.CallLemmas.{want_ends}

-- words that aren't read, of one program as of the other
pub statement_unread : (r : Reading) (fault : WordsFault) → AnswersStatement r (Err fault) → Answers r (Err fault)
statement_unread r (words_faults.Refused text) is = is
statement_unread r (words_faults.OutOfRange number) is = is
statement_unread r words_faults.NoMemory is = tt

module _ (files : Files) (taken : Option (List ℕ)) where
  want_left : (r : Reading) (result : Status) → (result ≡ WriteFailed) ⊎ (result ≡ NoMemory) → LayoutLeavesBy files r result taken taken
  want_left no_command result ends = refl
  want_left (out_of_range number) result ends = refl
  want_left (command (run names options)) result ends = refl
  want_left (command (gen seed rows options)) result ends = refl
  want_left (command (check name)) result ends = refl
  want_left (command (compile names k)) result (inl is) = subst (λ (s : Status). LayoutLeavesBy files (command (compile names k)) s taken taken) (sym is) (inl refl)
  want_left (command (compile names k)) result (inr is) = subst (λ (s : Status). LayoutLeavesBy files (command (compile names k)) s taken taken) (sym is) (inl refl)

  -- nothing is left of them
  pub unread_left : (r : Reading) (fault : WordsFault) (result : Status) (old new : Option (List ℕ)) → AnswersStatement r (Err fault) → NotesWords fault result old new → LayoutLeavesBy files r result taken taken
  unread_left r (words_faults.Refused text) result old new is noted = subst (λ (q : Reading). LayoutLeavesBy files q result taken taken) (sym is) refl
  unread_left r (words_faults.OutOfRange number) result old new is noted = subst (λ (q : Reading). LayoutLeavesBy files q result taken taken) (sym is) refl
  unread_left r words_faults.NoMemory result old new is noted = want_left r result (want_ends result old new noted)
