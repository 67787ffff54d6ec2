-- What behaves within bounds behaves; both may be weakened; and pages stay within their bound.
use Rattle.std.proofs.Common.{ℕ, ◌≤◌, ◌⊎◌, true, false, List, Some, None, ⊎_elim, arith}
use Rattle.qw_module.specs.Execution.{State, Event, Silent, Loads, Stores, Grows, AsksHost, Raises, Traps}
use Rattle.qw_map.specs.Areas.{World, AsksWithin, AsksOn, world_after}
use Rattle.qw_map.specs.Runs.{Moment, OpenRun, begins, goes_on, Behaves, BehavesWithin}

asks-on : (pages : ℕ) (w : World) (event : Event) (state : State) → AsksWithin pages w event state → AsksOn event state
asks-on pages w Silent state asks = tt
asks-on pages w (Loads address width) state asks = tt
asks-on pages w (Stores address width) state asks = tt
asks-on pages w (Grows asked granted) state asks = asks.1
asks-on pages w (AsksHost asked first) state asks = asks.1
asks-on pages w (Raises code) state asks = tt
asks-on pages w (Traps why) state asks = tt

-- within bounds or not
pub within-behaves : (most pages left : ℕ) (P : Moment → Type 0) (a : Moment) → BehavesWithin most pages left P a → Behaves left P a
within-behaves most pages left P a h = record {
  fine = h.fine;
  asks_on = λ k b c before event state after run step. asks-on pages b.world event state (h.asks k b c before event state after run step);
  ends = λ k b run over within. (h.ends k b run over).1 within;
}

-- With no more instructions left, what holds at an end may be weakened.
pub behaves-weaker : (left less : ℕ) (P Q : Moment → Type 0) (a : Moment) → less ≤ left → ((b : Moment) → P b → Q b) → Behaves left P a → Behaves less Q a
behaves-weaker left less P Q a le weaker h = record {
  fine = h.fine;
  asks_on = h.asks_on;
  ends = λ k b run over within. weaker b (h.ends k b run over (omega (arith, le, within)));
}

-- Within a greater number of instructions and of pages, what holds at an end may be weakened, also with more left, where all within the
-- bound were left before.
pub within-weaker : (most more pages others left less : ℕ) (P Q : Moment → Type 0) (a : Moment) → most ≤ more → pages ≤ others → (less ≤ left) ⊎ (most ≤ left) →
    ((b : Moment) → P b → Q b) → BehavesWithin most pages left P a → BehavesWithin more others less Q a
within-weaker most more pages others left less P Q a count room enough weaker h = record {
  goes_on = h.goes_on;
  fine = h.fine;
  asks = λ k b c before event state after run step. asks-more b.world event state (h.asks k b c before event state after run step);
  bounded = λ k b c run running. omega (arith, count, h.bounded k b c run running);
  ends = λ k b run over.
      let end = h.ends k b run over in (
        omega (arith, count, end.0),
        λ within. weaker b (end.1 (⊎_elim (λ fewer. omega (arith, fewer, within)) (λ all. let last = end.0 in omega (arith, all, last)) enough)),
      );
}
  where
    asks-more : (w : World) (event : Event) (state : State) → AsksWithin pages w event state → AsksWithin others w event state
    asks-more w Silent state asks = tt
    asks-more w (Loads address width) state asks = tt
    asks-more w (Stores address width) state asks = tt
    asks-more w (Grows asked granted) state asks = (let few = asks.0 in omega (arith, room, few), asks.1)
    asks-more w (AsksHost asked first) state asks = (let few = asks.0 in omega (arith, room, few), asks.1)
    asks-more w (Raises code) state asks = tt
    asks-more w (Traps why) state asks = tt

held-step : (pages : ℕ) (w : World) (before : List ℕ) (event : Event) (state : State) → AsksWithin pages w event state → w.held ≤ pages → (world_after w before event).held ≤ pages
held-step pages w before Silent state asks few = few
held-step pages w before (Loads address width) state asks few = few
held-step pages w before (Stores address width) state asks few = few
held-step pages w before (Grows asked true) state asks few = asks.0
held-step pages w before (Grows asked false) state asks few = few
held-step pages w before (AsksHost asked (Some first)) state asks few = asks.0
held-step pages w before (AsksHost asked None) state asks few = few
held-step pages w before (Raises code) state asks few = few
held-step pages w before (Traps why) state asks few = few

-- No more pages are held than the bound says.
pub held-within : (most pages left : ℕ) (P : Moment → Type 0) (a b : Moment) (k : ℕ) → BehavesWithin most pages left P a → a.world.held ≤ pages → OpenRun k a b → b.world.held ≤ pages
held-within most pages left P _ _ _ h few (begins a) = few
held-within most pages left P _ _ _ h few (goes_on k a b c before event state after run step) =
    held-step pages b.world before event state (h.asks k b c before event state after run step) (held-within most pages left P a b k h few run)
