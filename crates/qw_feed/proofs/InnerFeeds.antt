-- The innermost blocks of a pipeline as blocks that feed: conjuncts before what feeds, and items, by whose values it does.
use Rattle.std.proofs.Common.{◌≡◌, ℕ, ◌*◌, ◌<◌, ◌≤◌, Bool, true, false, List, ◌++◌, length, Result, Ok, Err, refl, sym, subst, arith}
use Rattle.std.proofs.lemmas.List.{append-nil}
use Rattle.qw_types.specs.declared.code.Code.{Code}
use Rattle.qw_types.specs.declared.truth.Truth.{Truth}
use Rattle.qw_types.specs.declared.value.Val.{Val}
use Rattle.qw_meaning.specs.Flow.{Flow}
use Rattle.qw_low.specs.Syntax.{Statement, seq}
use Rattle.qw_low.specs.State.{Part, LowState}
use Rattle.qw_low.specs.Meaning.{meaning}
use Rattle.qw_low.specs.Size.{size}
use Rattle.qw_low.specs.Promise.{Ends}
use Rattle.qw_low.specs.Raising.{Kept}
use Rattle.qw_low.proofs.Promises.{Ends-weaker}
use Rattle.qw_low.proofs.Results.{Kept-same}
use Rattle.qw_feed.specs.Cells.{AllSupply}
use Rattle.qw_feed.specs.Feeds.{flow_by, where_true, Tells, Sink, FedTo, FeedsTo}
use Rattle.qw_feed.specs.Frames.{Keeps}
use Rattle.qw_feed.specs.Stages.{Test, tests_block, Item, items_block, outs_of, all_true, all_values, AreTests, AreItems}
use Rattle.qw_feed.proofs.FeedRules.{raised-tells, own_by}
use Rattle.qw_feed.proofs.Frames.{Never, Keeps-then, Keeps-kept}
use Rattle.qw_feed.proofs.StageRuns.{tests_end, items_end, Onward}

-- the sink knows nothing of the locals from `known` on, which these blocks set
module _ (sink : Sink) (most fuel known : ℕ) (Old : ℕ → Type 0) (old_low : (i : ℕ) → Old i → i < known)
    (has_kept : (rows : List (List Val)) (s t : LowState) → Kept known s t → sink.Has rows s → sink.Has rows t) (N many : ℕ) (some : 1 ≤ N) where
  -- ---- conjuncts
  module _ (Held : (stage : ℕ) → LowState → Type 0) where
    abbrev Done : (Then : LowState → Type 0) → List (List Val) → Flow (List Val) → LowState → LowState → Type 0
    Done Then so_far g = FedTo sink Old Then g so_far

    -- where all of them are true, what follows feeds; where one isn't, `Then` has to hold as it is
    pub tests_feed : (Then : LowState → Type 0) (gs : List Test) (rs : List (Result Truth Code)) (f : Flow (List Val)) (rest : Statement) (s : LowState) → AreTests most fuel N known many Held 0 gs rs → Held 0 s → many ≤ length s.locals →
        ((t : LowState) → Kept known s t → Held (length gs) t → many ≤ length t.locals → all_true rs ≡ Ok true → FeedsTo sink most fuel N Old Then f rest t) → ((t : LowState) → Kept known s t → all_true rs ≡ Ok false → Then t) →
        FeedsTo sink most fuel N Old Then (flow_by (all_true rs) (where_true f)) (tests_block gs rest) s
    tests_feed Then gs rs f rest s are held room onward untrue so_far has within =
        tests_end most fuel N known many Held some (Done Then so_far (flow_by (all_true rs) (where_true f)) s) (Tells (flow_by (all_true rs) (where_true f)).codes) rest s (length gs) gs rs 0 s (omega arith) are (Kept-same known s) held room
        (follows (all_true rs) refl)
      where
        keeps : (t : LowState) → Kept known s t → Keeps Old sink.Spared s t
        keeps t kept = Keeps-kept Old sink.Spared known s t old_low kept

        goes : (q : Result Bool Code) → all_true rs ≡ q → q ≡ Ok true → (t : LowState) → Kept known s t → Held (length gs) t → many ≤ length t.locals → Ends (size rest * N) (Done Then so_far (flow_by q (where_true f)) s) Never (Tells (flow_by q (where_true f)).codes) (meaning most fuel rest t)
        goes (Ok true) is q_is t kept held' room' =
            Ends-weaker (size rest * N) (size rest * N) (Done Then so_far f t) (Done Then so_far f s) Never Never (Tells f.codes) (Tells f.codes) (meaning most fuel rest t) (omega arith)
            (λ u fed. record { none = fed.none; keeps = Keeps-then Old sink.Spared s t u (keeps t kept) fed.keeps; has = fed.has; after = fed.after }) (λ u x. x) (λ code x. x)
            (onward t kept held' room' is so_far (has_kept so_far s t kept has) (subst (λ (q : Result Bool Code). sink.May (so_far ++ (flow_by q (where_true f)).rows)) is within))
        goes (Ok false) is q_is t kept held' room' = absurd cc
        goes (Err c) is q_is t kept held' room' = absurd cc

        stays : (q : Result Bool Code) → all_true rs ≡ q → q ≡ Ok false → (t : LowState) → Kept known s t → Done Then so_far (flow_by q (where_true f)) s t
        stays (Ok false) is q_is t kept = record {
          none = refl;
          keeps = keeps t kept;
          has = subst (λ (rows : List (List Val)). sink.Has rows t) (sym (append-nil so_far)) (has_kept so_far s t kept has);
          after = untrue t kept is;
        }
        stays (Ok true) is q_is t kept = absurd cc
        stays (Err c) is q_is t kept = absurd cc

        follows : (q : Result Bool Code) → all_true rs ≡ q → Onward most fuel N known many Held some (Done Then so_far (flow_by (all_true rs) (where_true f)) s) (Tells (flow_by (all_true rs) (where_true f)).codes) rest s (length gs) (all_true rs)
        follows q is = record {
          true_then = goes (all_true rs) refl;
          false_then = stays (all_true rs) refl;
          raised_then = raised-tells (all_true rs) (where_true f);
        }

  -- ---- items
  module _ (next : ℕ) (behind : known ≤ next) (Held : LowState → Type 0) (held_kept : (s t : LowState) → Kept next s t → Held s → Held t) (Text : Part → ℕ → List ℕ → Type 0) where
    -- by the items' values what follows feeds
    pub items_feed : (Then : LowState → Type 0) (gs : List Item) (rs : List (Result Val Code)) (work : List Val → Flow (List Val)) (rest : Statement) (s : LowState) → AreItems most fuel N many Held Text next gs rs → Held s → many ≤ length s.locals →
        ((vs : List Val) (t : LowState) → all_values rs ≡ Ok vs → Kept next s t → AllSupply Text t.locals (outs_of gs) vs → FeedsTo sink most fuel N Old Then (work vs) rest t) →
        FeedsTo sink most fuel N Old Then (flow_by (all_values rs) work) (seq (items_block gs) rest) s
    items_feed Then gs rs work rest s are held room onward =
        own_by sink most fuel known Old old_low has_kept {A = List Val} N next (λ vs t. AllSupply Text t.locals (outs_of gs) vs) Then (all_values rs) work (items_block gs) rest s behind
        (items_end most fuel N next many some Held held_kept Text gs rs next s (omega arith) are held room) onward
