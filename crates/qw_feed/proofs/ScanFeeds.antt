-- A scan of a table, each row of which feeds: a local says how many are left.
use Rattle.std.proofs.Common.{◌≡◌, ℕ, suc, ◌+◌, ◌-◌, ◌*◌, ◌%◌, ◌^◌, ◌<◌, inl, List, [], ◌∷◌, ◌++◌, length, length-append, length-set, Some, slice_get, slice_set, refl, sym, ap, ◌∙◌, arith}
use Rattle.std.proofs.lemmas.List.{append_assoc}
use Rattle.qw_types.specs.declared.value.Val.{Val}
use Rattle.qw_meaning.specs.Flow.{Flow}
use Rattle.qw_map.proofs.TurnFacts.{slice_get-set_same}
use Rattle.qw_module.specs.declared.instruction.ValType.TheVariants.{I32}
use Rattle.qw_module.specs.declared.instruction.Binary.TheVariants.{Sub}
use Rattle.qw_low.specs.Syntax.{Statement, local, binop, seq}
use Rattle.qw_low.specs.State.{Number, LowState}
use Rattle.qw_low.specs.Meaning.{value, meaning}
use Rattle.qw_low.specs.Promise.{Ends, IsSet}
use Rattle.qw_low.specs.Raising.{Kept}
use Rattle.qw_low.proofs.Promises.{Ends-more, assign_ends}
use Rattle.qw_low.proofs.Results.{Kept-one, at_least}
use Rattle.qw_feed.specs.Feeds.{flow_over, spend, Any, Sink, FeedsTo}
use Rattle.qw_feed.specs.Frames.{But, Keeps}
use Rattle.qw_feed.specs.Room.{i32}
use Rattle.qw_feed.specs.Scans.{next_block, rows_block}
use Rattle.qw_feed.proofs.FeedRules.{Quiet, feeds_before, feeds_weaker}
use Rattle.qw_feed.proofs.Frames.{Never, Keeps-same, Keeps-then, Keeps-set, Keeps-less}
use Rattle.qw_feed.proofs.LoopFeeds.{loop_feeds}

pub at-length : {A : Type 0} (xs ys : List A) (y : A) → slice_get (xs ++ y ∷ ys) (length xs) ≡ Some y
at-length [] ys y = refl
at-length (x ∷ xs) ys y = at-length xs ys y

-- Each row keeps old locals, of which local l is one, and sets no other that the sink knows of; the scan keeps all of these but l.
module _ (sink : Sink) (most full l : ℕ) (Old : ℕ → Type 0) (l_old : Old l) (has_kept : (rows : List (List Val)) (s t : LowState) → Kept l s t → sink.Has rows s → sink.Has rows t)
    (rows : List (List Val)) (few : length rows < 2 ^ 30) (flow : List Val → Flow (List Val)) (units : List Val → ℕ) (row : Statement) (s0 : LowState)
    (row_feeds : (i : ℕ) (r : List Val) (s : LowState) → slice_get rows i ≡ Some r → Keeps (But l Old) sink.Spared s0 s → slice_get s.locals l ≡ Some (Number (4 * (length rows - i))) →
    FeedsTo sink most full (1 + units r) Old Any (flow r) row s) where
  abbrev Steady : ℕ → Type 0
  Steady = But l Old

  -- these are left
  pub record Scans (left : List (List Val)) (s : LowState) : Type 0 where
    pub done : List (List Val)
    pub parts : rows ≡ done ++ left
    pub left_is : slice_get s.locals l ≡ Some (Number (4 * length left))
    pub room : l < length s.locals
    pub keeps : Keeps Steady sink.Spared s0 s

  abbrev body : Statement
  body = seq row (next_block l)

  module _ (r : List Val) (left : List (List Val)) (s : LowState) (at : Scans (r ∷ left) s) where
    abbrev N : ℕ
    N = 1 + units r

    there : slice_get rows (length at.done) ≡ Some r
    there = ap (λ (rs : List (List Val)). slice_get rs (length at.done)) at.parts ∙ at-length at.done left r

    many : length rows ≡ length at.done + suc (length left)
    many = ap (λ (rs : List (List Val)). length rs) at.parts ∙ length-append at.done (r ∷ left)

    here : slice_get s.locals l ≡ Some (Number (4 * (length rows - length at.done)))
    here = at.left_is ∙ ap (λ (m : ℕ). Some (Number m)) (omega (arith, many))

    module _ (t : LowState) (keeps : Keeps Old sink.Spared s t) where
      abbrev fewer : LowState
      fewer = record t { locals = slice_set t.locals l (Number (4 * length left)) }

      room_t : l < length t.locals
      room_t = omega (arith, keeps.many, at.room)

      left_t : slice_get t.locals l ≡ Some (Number (4 * suc (length left)))
      left_t = keeps.locals l l_old ∙ at.left_is

      one_less : value t (binop I32 Sub (local l) (i32 4)) ≡ Some (Number (4 * length left))
      one_less =
          let difference : (4 * suc (length left) + 2 ^ 32 - 4) % 2 ^ 32 ≡ 4 * length left = omega (arith, many, few) in
          rw (left_t, difference) refl

      steady : Keeps Steady sink.Spared t fewer
      steady = Keeps-set Steady sink.Spared t t l (Number (4 * length left)) (λ i old is. old.1 is) (Keeps-same Steady sink.Spared t)

      onward : Scans left fewer
      onward = record {
        done = at.done ++ r ∷ [];
        parts = at.parts ∙ sym (append_assoc at.done (r ∷ []) left);
        left_is = slice_get-set_same t.locals l (Number (4 * length left)) room_t;
        room = omega (arith, room_t, length-set t.locals l (Number (4 * length left)));
        keeps = Keeps-then Steady sink.Spared s0 t fewer
            (Keeps-then Steady sink.Spared s0 s t at.keeps (Keeps-less Steady sink.Spared Old sink.Spared s t (λ i old. old.0) (λ at' width it. it) keeps)) steady;
      }

      abbrev Post : LowState → Type 0
      Post u = Quiet sink most full Steady t u × Scans left u

      goes_on : Ends (4 * N) Post Never (λ code. ⊥) (meaning most full (next_block l) t)
      goes_on = Ends-more Post Never (λ code. ⊥) 4 (4 * N) (meaning most full (next_block l) t) (at_least 4 N (omega arith))
          (assign_ends Post Never (λ code. ⊥) most full l (binop I32 Sub (local l) (i32 4)) (Number (4 * length left)) t one_less room_t
          ((steady, λ rs. has_kept rs t fewer (Kept-one t l (Number (4 * length left)))), onward))

    step : FeedsTo sink most full N Steady (Scans left) (flow r) body s
    step = feeds_before sink most full N Steady Old Any (Scans left) (flow r) row (next_block l) s (λ i old. old.0) (row_feeds (length at.done) r s there at.keeps here) (λ t keeps any. goes_on t keeps)

  before_end : (r : List Val) (left : List (List Val)) (s : LowState) → Scans (r ∷ left) s → IsSet (value s (local l))
  before_end r left s at = inl (3 + 4 * length left, at.left_is ∙ ap (λ (m : ℕ). Some (Number m)) (omega arith))

  -- all rows feed, in the order of the table
  pub scan_feeds : length rows < full → slice_get s0.locals l ≡ Some (Number (4 * length rows)) → l < length s0.locals → FeedsTo sink most full (1 + spend units rows) (But l Old) Any (flow_over flow rows) (rows_block l row) s0
  scan_feeds more left_is room =
      feeds_weaker sink most full (1 + spend units rows) (1 + spend units rows) Steady Steady (Scans []) Any (flow_over flow rows) (rows_block l row) s0 (omega arith) (λ i old. old) (λ t keeps scans. tt)
      (loop_feeds (List Val) sink most full Steady flow units (local l) body Scans (λ s at. at.left_is ∙ ap (λ (m : ℕ). Some (Number m)) (omega arith)) before_end step rows s0 more
      (record { done = []; parts = refl; left_is = left_is; room = room; keeps = Keeps-same Steady sink.Spared s0 }))
