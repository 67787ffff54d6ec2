-- A run of generated input, whose files are told and of which no reading fails.
use Rattle.std.proofs.Common.{◌≡◌, ℕ, List, inl, inr, subst, arith}
use Rattle.qw_io.specs.Faults.{IsCounted}
use Rattle.qw_command_line.specs.Words.{Names}
use Rattle.qw_command_line.specs.declared.command.RunOptions.{RunOptions}
use Rattle.qw_top.specs.Generated.{generated_files, generated_names}
use Rattle.qw_top.specs.Top.{Files}

module _ (seed rows : ℕ) (files : Files) (names : Names) (taken options : RunOptions) (files_are : files ≡ generated_files seed rows) (names_are : names ≡ generated_names) (options_are : taken ≡ options) where
  -- what holds of it by the files, names and options that it takes
  pub of_generated : (P : RunOptions → Files → Names → Type 0) → P taken files names → P options (generated_files seed rows) generated_names
  of_generated P holds =
      subst (λ (o : RunOptions). P o (generated_files seed rows) generated_names) options_are
      (subst (λ (n : Names). P taken (generated_files seed rows) n) names_are (subst (λ (f : Files). P taken f names) files_are holds))

-- where the count stays at 0, no fault is counted
pub none_counted : IsCounted 0 0 → ⊥
none_counted (inl less) = omega (arith, less)
none_counted (inr is) = absurd cc
