use Rattle.std.proofs.Common.{◌≡◌, ℕ, Some, None, List, refl, ◌∙◌}
use Rattle.qw_module.specs.Execution.{Store}
use Rattle.qw_map.specs.Areas.{World}
use Rattle.qw_map.specs.Runs.{Moment, OpenRun}
use Rattle.qw_map.specs.Seen.{Seen, seen}
use Rattle.qw_map.specs.Turns.{Done, Pages}
use Rattle.qw_low.specs.Syntax.{request}
use Rattle.qw_low.specs.Meaning.{meaning}
use Rattle.qw_low.specs.Places.{AreMeant, StandsFor, HasHosts, IsDone, beginning}
use Rattle.qw_low.specs.Worked.{i32, nearly_full}
use Rattle.qw_low.proofs.KeepStep.{course, keeps_step}
use Rattle.qw_low.proofs.worked_laws.open_runs_of_requests.Goals as goal

-- the course of a request for so many pages, after so many instructions
kept : (asked k : ℕ) (store : Store) (imported : HasHosts store) (so : Seen) → IsDone (meaning 200 0 (request (i32 asked) 2) nearly_full) → course 200 0 (request (i32 asked) 2) nearly_full store imported k ≡ so →
    (w : World) (memory locals : List ℕ) (b : Moment) → StandsFor w nearly_full memory → AreMeant w nearly_full.locals locals →
    OpenRun k (beginning store w (request (i32 asked) 2) locals memory) b → seen b ≡ so
kept asked k store imported so comes is w memory locals b stands are run = keeps_step 200 0 (request (i32 asked) 2) nearly_full store imported comes w memory locals stands are k b run ∙ is

pub returns-clause-before : goal.returns-clause-before
unfolding course
returns-clause-before c = λ store w memory locals b imported stands are run. kept 1 1 store imported (record { held = 127; refused = None; end = None }) tt refl w memory locals b stands are run

pub returns-clause-granted : goal.returns-clause-granted
unfolding course
returns-clause-granted c = λ store w memory locals b imported stands are run. kept 1 2 store imported (record { held = 128; refused = None; end = None }) tt refl w memory locals b stands are run

pub returns-clause-done : goal.returns-clause-done
unfolding course
returns-clause-done c = λ store w memory locals b imported stands are run. kept 1 10 store imported (record { held = 128; refused = None; end = Some Done }) tt refl w memory locals b stands are run

pub returns-clause-refused : goal.returns-clause-refused
unfolding course
returns-clause-refused c = λ store w memory locals b imported stands are run. kept 2 2 store imported (record { held = 127; refused = Some 2; end = None }) tt refl w memory locals b stands are run

pub returns-clause-stopped : goal.returns-clause-stopped
unfolding course
returns-clause-stopped c = λ store w memory locals b imported stands are run.
    kept 2 8 store imported (record { held = 127; refused = Some 2; end = Some (Pages 127 2 128) }) tt refl w memory locals b stands are run
