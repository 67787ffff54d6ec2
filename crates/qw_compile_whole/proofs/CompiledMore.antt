-- A module that is compiled from a promise is compiled from any other one with the same entries, cells and outcome that promises no lower bounds.
use Rattle.std.proofs.Common.{◌≡◌, ◌∙◌, ℕ, ◌+◌, ◌*◌, ◌≤◌, List, sym, subst, arith}
use Rattle.std.specs.List.{AllByRecursion}
use Rattle.std.proofs.lemmas.Nat.{mul-le}
use Rattle.qw_types.specs.declared.value.Val.{Val}
use Rattle.qw_module.specs.Execution.{Event, Silent, Loads, Stores, Grows, AsksHost, Raises, Traps, State}
use Rattle.qw_module.specs.declared.module.Module.{Module}
use Rattle.qw_map.specs.Areas.{AsksWithin, World}
use Rattle.qw_map.specs.Layout.{Layout}
use Rattle.qw_map.specs.Runs.{BehavesWithin, Moment, most_run}
use Rattle.qw_map.specs.Turns.{End, Done, Exception, Pages, Steps, Trap}
use Rattle.qw_meaning.specs.Outcome.{Outcome}
use Rattle.qw_meaning.specs.Select.{AreOfEntries, Entry}
use Rattle.qw_promise.specs.Compiled.{Answers, AnswersAt, IsCompiled, IsUsedOf, bound, weight_of}
use Rattle.qw_promise.specs.Promise.{Promise}

answers_more : (out : Outcome) (layout : Layout) (most more pages room descriptor : ℕ) (w : World) (memory : List ℕ) (end : End) → most ≤ more → pages ≤ room → Answers out layout most pages descriptor w memory end → Answers out layout more room descriptor w memory end
answers_more out layout most more pages room descriptor w memory Done few low h = h
answers_more out layout most more pages room descriptor w memory (Exception code) few low h = h
answers_more out layout most more pages room descriptor w memory (Pages held asked limit) few low h = (h.0, h.1, h.2, omega (arith, low, h.3))
answers_more out layout most more pages room descriptor w memory (Steps limit) few low h = omega (arith, few, h)
answers_more out layout most more pages room descriptor w memory Trap few low h = h

asks_more : (pages room : ℕ) (w : World) (event : Event) (state : State) → pages ≤ room → AsksWithin pages w event state → AsksWithin room w event state
asks_more pages room w Silent state low h = tt
asks_more pages room w (Loads address width) state low h = tt
asks_more pages room w (Stores address width) state low h = tt
asks_more pages room w (Grows asked granted) state low h = (omega (arith, low, h.0), h.1)
asks_more pages room w (AsksHost asked first) state low h = (omega (arith, low, h.0), h.1)
asks_more pages room w (Raises code) state low h = tt
asks_more pages room w (Traps why) state low h = tt

behaves_more : (most more pages room left : ℕ) (P Q : Moment → Type 0) (a : Moment) → most ≤ more → pages ≤ room → ((b : Moment) → P b → Q b) → BehavesWithin most pages left P a → BehavesWithin more room left Q a
behaves_more most more pages room left P Q a few low then h = record {
  goes_on = h.goes_on;
  fine = h.fine;
  asks = λ k b c before event state after run step. asks_more pages room b.world event state low (h.asks k b c before event state after run step);
  bounded = λ k b c run is. (let less = h.bounded k b c run is in omega (arith, less, few));
  ends = λ k b run over. (let all = h.ends k b run over in (omega (arith, all.0, few), λ within. then b (all.1 within)));
}

weighs_more : (w a b : ℕ) → a ≤ b → w * (1 + a) ≤ w * (1 + b)
weighs_more w a b h = mul-le w (1 + a) w (1 + b) (omega arith) (omega (arith, h))

pub compiled_more : (promise other : Promise) (layout : Layout) (m : Module) → other.entries ≡ promise.entries → other.cells ≡ promise.cells →
    ((tables : List (List (List Val))) → AreOfEntries other.entries tables → promise.outcome tables ≡ other.outcome tables) → ((tables : List (List (List Val))) → AreOfEntries other.entries tables → promise.units tables ≤ other.units tables) →
    ((tables : List (List (List Val))) → AreOfEntries other.entries tables → promise.pages tables ≤ other.pages tables) → IsCompiled promise layout m → IsCompiled other layout m
compiled_more promise other layout m entries_are cells_are same more room h = record {
  runnable = h.runnable;
  is_job = h.is_job;
  goes_with = record {
    columns = subst (λ (es : List Entry). AllByRecursion (IsUsedOf es) layout.columns) (sym entries_are) h.goes_with.columns;
    cells = cells_are ∙ h.goes_with.cells;
    small = h.goes_with.small;
    literals = h.goes_with.literals;
  };
  nests = h.nests;
  no_size = h.no_size;
  no_growth = h.no_growth;
  spelled = h.spelled;
  short = h.short;
  light = h.light;
  behaves = λ number descriptor limit placed tables memory of shaped ready.
      let few : bound promise tables m number ≤ bound other tables m number = weighs_more (weight_of m number) (promise.units tables) (other.units tables) (more tables of) in
      behaves_more (bound promise tables m number) (bound other tables m number) (promise.pages tables) (other.pages tables) most_run
      (AnswersAt (promise.outcome tables) layout (bound promise tables m number) (promise.pages tables) descriptor) (AnswersAt (other.outcome tables) layout (bound other tables m number) (other.pages tables) descriptor) _ few (room tables of)
      (λ b over. subst (λ (out : Outcome). AnswersAt out layout (bound other tables m number) (other.pages tables) descriptor b) (same tables of)
      (over.0, over.1, answers_more (promise.outcome tables) layout (bound promise tables m number) (bound other tables m number) (promise.pages tables) (other.pages tables) descriptor b.world b.memory over.0 few (room tables of) over.2))
      (h.behaves number descriptor limit placed tables memory (subst (λ (es : List Entry). AreOfEntries es tables) entries_are of) shaped ready);
  steady = h.steady;
}
