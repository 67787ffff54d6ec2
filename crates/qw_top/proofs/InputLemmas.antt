-- A run, of files or of generated input: what explains its end, and what it leaves.
use Rattle.std.proofs.Common.{◌≡◌, ℕ, List, Option, Some, subst}
use Rattle.std.proofs.lemmas.Option.{none-some, same_Some}
use Rattle.qw_bench.specs.Standing.{Standing}
use Rattle.qw_command_line.specs.Words.{run, compile, check, gen, Reading, command, no_command, out_of_range}
use Rattle.qw_top.specs.Call.{ExplainsBy, Input, LeavesBy, input_of}
use Rattle.qw_top.specs.Delivered.{RunLeaves}
use Rattle.qw_top.specs.Generated.{generated_files, generated_names}
use Rattle.qw_top.specs.Limits.{limits_of}
use Rattle.qw_top.specs.Top.{Files, RunExplains}
use Rattle.qw_top.specs.declared.status.Status.{Status}

module _ (files : Files) (input : Input) where
  pub input_explains : (r : Reading) (kept : Option Standing) (status : Status) → input_of files r ≡ Some input → ExplainsBy files r kept status →
      RunExplains (limits_of input.options) input.files input.names kept status
  input_explains no_command kept status is why = absurd (none-some input is)
  input_explains (out_of_range number) kept status is why = absurd (none-some input is)
  input_explains (command (compile names k)) kept status is why = absurd (none-some input is)
  input_explains (command (check name)) kept status is why = absurd (none-some input is)
  input_explains (command (run names options)) kept status is why =
      subst (λ (i : Input). RunExplains (limits_of i.options) i.files i.names kept status) (same_Some (record { files = files; names = names; options = options }) input is) why
  input_explains (command (gen seed rows options)) kept status is why =
      subst (λ (i : Input). RunExplains (limits_of i.options) i.files i.names kept status) (same_Some (record { files = generated_files seed rows; names = generated_names; options = options }) input is) why

  pub input_leaves : (r : Reading) (kept : Option Standing) (status : Status) (old new : Option (List ℕ)) → input_of files r ≡ Some input → LeavesBy files r status kept old new →
      RunLeaves input.options input.files input.names status kept old new
  input_leaves no_command kept status old new is left = absurd (none-some input is)
  input_leaves (out_of_range number) kept status old new is left = absurd (none-some input is)
  input_leaves (command (compile names k)) kept status old new is left = absurd (none-some input is)
  input_leaves (command (check name)) kept status old new is left = absurd (none-some input is)
  input_leaves (command (run names options)) kept status old new is left =
      subst (λ (i : Input). RunLeaves i.options i.files i.names status kept old new) (same_Some (record { files = files; names = names; options = options }) input is) left
  input_leaves (command (gen seed rows options)) kept status old new is left =
      subst (λ (i : Input). RunLeaves i.options i.files i.names status kept old new) (same_Some (record { files = generated_files seed rows; names = generated_names; options = options }) input is) left
