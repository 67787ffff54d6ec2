-- The one notion by which blocks of Low carry rows: a scan, a conjunct, a probe, a join and the end of a pipeline are blocks that feed a sink.
-- What they feed is a flow (qw_meaning/specs/Flow): rows, and the exceptions raised.
use Rattle.std.specs.Prelude.{◌≡◌, ℕ, ◌+◌, ◌*◌, ◌≤◌, ◌⊎◌, Bool, true, false, List, [], ◌∷◌, ◌++◌, length, Result, Ok, Err}
use Rattle.std.specs.List.{Contains}
use Rattle.qw_types.specs.declared.code.Code.{Code}
use Rattle.qw_types.specs.declared.value.Val.{Val}
use Rattle.qw_meaning.specs.Flow.{Flow, spread}
use Rattle.qw_low.specs.Syntax.{Statement}
use Rattle.qw_low.specs.State.{LowState}
use Rattle.qw_low.specs.Meaning.{meaning}
use Rattle.qw_low.specs.Promise.{Ends}
use Rattle.qw_low.specs.Raising.{code_of}
use Rattle.qw_low.specs.Size.{size}
use Rattle.qw_feed.specs.Frames.{Keeps}

-- ---- flows
abbrev pub nothing : Flow (List Val)
nothing = record { rows = []; codes = [] }

abbrev pub one_row : List Val → Flow (List Val)
one_row row = record { rows = row ∷ []; codes = [] }

-- two flows, one after another
abbrev pub both : Flow (List Val) → Flow (List Val) → Flow (List Val)
both f g = record { rows = f.rows ++ g.rows; codes = f.codes ++ g.codes }

-- what comes of several, one after another
abbrev pub flow_over : {A : Type 0} → (A → Flow (List Val)) → List A → Flow (List Val)
flow_over work xs = spread work (record { rows = xs; codes = [] })

-- what comes by a value, or the exception that was raised in its place
abbrev pub flow_by : {A : Type 0} → Result A Code → (A → Flow (List Val)) → Flow (List Val)
flow_by (Ok v) work = work v
flow_by (Err code) work = record { rows = []; codes = code ∷ [] }

-- what comes where a condition is true
abbrev pub where_true : Flow (List Val) → Bool → Flow (List Val)
where_true flow true = flow
where_true flow false = nothing

-- ---- what is raised, and what is spent
-- a request for a page was refused (3), or one of these exceptions was raised
abbrev pub Tells : List Code → (raised : ℕ) → Type 0
Tells codes raised = (raised ≡ 3) ⊎ ((code : Code) × Contains codes code × (raised ≡ code_of code))

-- the units of several: one each, and so many more
abbrev pub spend : {A : Type 0} → (A → ℕ) → List A → ℕ
spend units [] = 0
spend units (x ∷ xs) = 1 + units x + spend units xs

-- ---- what is fed
-- A result, a table or groups: the places that stay as they are while rows are fed; what it is that a state has taken these rows, in this
-- order; and which rows there may be in all, of which each beginning may be too.
pub record Sink : Type 1 where
  pub Spared : (at width : ℕ) → Type 0
  pub Has : List (List Val) → LowState → Type 0
  pub May : List (List Val) → Type 0
  pub beginnings : (rows more : List (List Val)) → May (rows ++ more) → May rows

-- at most so many rows
abbrev pub AtMost : ℕ → List (List Val) → Type 0
AtMost total rows = length rows ≤ total

-- a condition on a state that all states meet
abbrev pub Any : LowState → Type 0
Any t = Unit {0}

-- The sink has taken a flow that has no exception, old locals and the spared places are as they were, and `After` holds besides.
pub record FedTo (sink : Sink) (IsOld : ℕ → Type 0) (After : LowState → Type 0) (flow : Flow (List Val)) (so_far : List (List Val)) (s t : LowState) : Type 0 where
  pub none : flow.codes ≡ []
  pub keeps : Keeps IsOld sink.Spared s t
  pub has : sink.Has (so_far ++ flow.rows) t
  pub after : After t

-- Whatever rows the sink has taken, if those of the flow may come behind them: within N times the block's size they have been taken too, or an
-- exception of the flow has been raised, or a refusal.
abbrev pub FeedsTo : Sink → (most fuel N : ℕ) → (IsOld : ℕ → Type 0) → (After : LowState → Type 0) → Flow (List Val) → Statement → LowState → Type 0
FeedsTo sink most fuel N IsOld After flow a s =
    (so_far : List (List Val)) → sink.Has so_far s → sink.May (so_far ++ flow.rows) →
    Ends (size a * N) (FedTo sink IsOld After flow so_far s) (λ t. ⊥) (Tells flow.codes) (meaning most fuel a s)
