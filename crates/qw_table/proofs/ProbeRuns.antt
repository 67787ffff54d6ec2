-- A probe: what a block feeds for each entry of a slot that a test finds to be the same, and what it leaves besides.
use Rattle.std.proofs.Common.{◌≡◌, ℕ, ◌+◌, ◌*◌, ◌<◌, ◌≤◌, inr, Bool, true, false, if◌then◌else◌, List, [], ◌∷◌, length, length-set, Some, slice_get, slice_set, refl, sym, ap, ◌∙◌, subst, arith}
use Rattle.std.proofs.lemmas.Bool.{le-leb}
use Rattle.qw_types.specs.declared.value.Val.{Val}
use Rattle.qw_linear.specs.Memory.{page}
use Rattle.qw_meaning.specs.Flow.{Flow}
use Rattle.qw_map.proofs.TurnFacts.{slice_get-set_same}
use Rattle.qw_module.specs.Numbers.{truth}
use Rattle.qw_module.specs.declared.instruction.ValType.TheVariants.{I32}
use Rattle.qw_module.specs.declared.instruction.Load.TheVariants as loads
use Rattle.qw_low.specs.Syntax.{Statement, local, skip, seq, load, conditional}
use Rattle.qw_low.specs.State.{Own, Value, Number, Address, Cells, LowState}
use Rattle.qw_low.specs.Meaning.{value, meaning}
use Rattle.qw_low.specs.Size as sizes
use Rattle.qw_low.specs.Promise.{Ends, IsSet}
use Rattle.qw_low.specs.Raising.{Kept}
use Rattle.qw_low.proofs.Promises.{Ends-more, Ends-weaker}
use Rattle.qw_low.proofs.Results.{Kept-one, at_least}
use Rattle.qw_low.proofs.BlockSteps.{load_ends}
use Rattle.qw_feed.specs.Feeds.{flow_over, nothing, spend, Sink, FeedsTo}
use Rattle.qw_feed.specs.Frames.{pos, Keeps}
use Rattle.qw_feed.specs.Rows.{Row, address}
use Rattle.qw_feed.specs.Stages.{Test}
use Rattle.qw_feed.proofs.FeedRules.{Quiet, feeds_weaker, feeds_skip, feeds_choose, feeds_then, feeds_before}
use Rattle.qw_feed.proofs.Frames.{Never, Keeps-same, Keeps-then, Keeps-set, Keeps-less, Keeps-kept}
use Rattle.qw_feed.proofs.LoopFeeds.{loop_feeds}
use Rattle.qw_table.specs.Tables.{newest, Linked, slot_at, walk_block, probe_block}
use Rattle.qw_table.proofs.Chains.{newest-loaded, Linked-same}

module _ (Has : Cells → ℕ → ℕ → List Val → Type 0) (size : ℕ) (wide : 8 ≤ size)
    (has_same : (c c' : Cells) (k o : ℕ) (values : List Val) → ((a b : ℕ) → o + 8 ≤ a → a + b ≤ o + size → c' (Own k) a b ≡ c (Own k) a b) → Has c k o values → Has c' k o values)
    (sink : Sink) (most full x : ℕ) (Old Old' : ℕ → Type 0) (old_low : (i : ℕ) → Old i → i < x) (old_in : (i : ℕ) → Old i → Old' i) (x_in : Old' x)
    (sink_kept : (rows : List (List Val)) (s t : LowState) → Kept x s t → sink.Has rows s → sink.Has rows t)
    (test : Test) (found : Statement) (same : List Val → Bool) (inner : List Val → Flow (List Val)) (units : List Val → ℕ)
    (base front : ℕ) (spared : (at width : ℕ) → base ≤ at → at + width ≤ front → sink.Spared at width) (s0 : LowState)
    (Also : List Row → LowState → Type 0) (also_kept : (left : List Row) (s t : LowState) → Kept x s t → Also left s → Also left t)
    (also_other : (e : Row) (left : List Row) (s : LowState) → same e.values ≡ false → Also (e ∷ left) s → Also left s) where
  -- at an entry: its address is in local x, its octets are as they were
  pub record AtEntry (e : Row) (s : LowState) : Type 0 where
    pub x_is : slice_get s.locals x ≡ Some (address e)
    pub room : x < length s.locals
    pub keeps : Keeps Old sink.Spared s0 s
    pub has : Has s.cells e.part e.offset e.values

  abbrev pub flow_at : Row → Flow (List Val)
  flow_at e = if same e.values then inner e.values else nothing

  abbrev pub units_at : Row → ℕ
  units_at e = units e.values

  -- `Known` says what else the test leaves
  module _ (Known : Row → LowState → Type 0) (test_ends : (e : Row) (s : LowState) → AtEntry e s →
      Ends (sizes.size test.block * (1 + units e.values)) (λ t. Kept (x + 1) s t × (value t test.out ≡ Some (Number (truth (same e.values)))) × Known e t) Never (λ code. ⊥) (meaning most full test.block s))
      (found_feeds : (e : Row) (left : List Row) (s : LowState) → AtEntry e s → Known e s → same e.values ≡ true → Also (e ∷ left) s → FeedsTo sink most full (1 + units e.values) Old' (Also left) (inner e.values) found s) where
    -- these are left
    pub record Walks (left : List Row) (s : LowState) : Type 0 where
      pub x_is : slice_get s.locals x ≡ Some (newest left)
      pub room : x < length s.locals
      pub keeps : Keeps Old sink.Spared s0 s
      pub linked : Linked Has size s.cells base front left
      pub also : Also left s

    abbrev choice : Statement
    choice = conditional test.out found skip

    abbrev onward : Statement
    onward = load x (loads.Full I32) 0 (local x)

    abbrev body : Statement
    body = seq test.block (seq choice onward)

    module _ (e : Row) (left : List Row) (s : LowState) (at : Walks (e ∷ left) s) where
      abbrev N : ℕ
      N = 1 + units e.values

      at_s : AtEntry e s
      at_s = record { x_is = at.x_is; room = at.room; keeps = at.keeps; has = at.linked.4 }

      abbrev Decided : LowState → Type 0
      Decided t = Kept (x + 1) s t × (value t test.out ≡ Some (Number (truth (same e.values)))) × Known e t

      module _ (t : LowState) (decided : Decided t) where
        abbrev kept : Kept (x + 1) s t
        kept = decided.0

        under : Kept x s t
        under = record { others = kept.others; many = kept.many; below = λ i less. kept.below i (omega (arith, less)) }

        keeps_one : Keeps Old sink.Spared s t
        keeps_one = Keeps-kept Old sink.Spared (x + 1) s t (λ i old. omega (arith, old_low i old)) kept

        keeps_t : Keeps Old sink.Spared s0 t
        keeps_t = Keeps-then Old sink.Spared s0 s t at.keeps keeps_one

        linked_t : Linked Has size t.cells base front (e ∷ left)
        linked_t = Linked-same Has size wide has_same s.cells t.cells base front (e ∷ left) (λ k a b from to. ap (λ (r : LowState). r.cells (Own k) a b) kept.others) at.linked

        at_t : AtEntry e t
        at_t = record { x_is = kept.below x (omega arith) ∙ at.x_is; room = omega (arith, kept.many, at.room); keeps = keeps_t; has = linked_t.4 }

        also_t : Also (e ∷ left) t
        also_t = also_kept (e ∷ left) s t under at.also

        module _ (u : LowState) (keeps : Keeps Old' sink.Spared t u) (also_u : Also left u) where
          abbrev u' : LowState
          u' = record u { locals = slice_set u.locals x (newest left) }

          room_u : x < length u.locals
          room_u = omega (arith, keeps.many, at_t.room)

          x_there : slice_get u.locals x ≡ Some (address e)
          x_there = keeps.locals x x_in ∙ at_t.x_is

          linked_u : Linked Has size u.cells base front (e ∷ left)
          linked_u = Linked-same Has size wide has_same t.cells u.cells base front (e ∷ left) (λ k a b from to. keeps.cells k a b (spared (pos k a) b from to)) linked_t

          less : Keeps Old sink.Spared t u
          less = Keeps-less Old sink.Spared Old' sink.Spared t u old_in (λ at' width it. it) keeps

          other : (i : ℕ) → Old i → i ≡ x → ⊥
          other i old is = omega (arith, old_low i old, is)

          one : Kept x u u'
          one = Kept-one u x (newest left)

          walks : Walks left u'
          walks = record {
            x_is = slice_get-set_same u.locals x (newest left) room_u;
            room = omega (arith, room_u, length-set u.locals x (newest left));
            keeps = Keeps-set Old sink.Spared s0 u x (newest left) other (Keeps-then Old sink.Spared s0 t u keeps_t less);
            linked = linked_u.5;
            also = also_kept left u u' one also_u;
          }

          goes_on : Ends (3 * N) (λ w. Quiet sink most full Old u w × Walks left w) Never (λ code. ⊥) (meaning most full onward u)
          goes_on =
              let Post : LowState → Type 0 = λ w. Quiet sink most full Old u w × Walks left w in
              Ends-more Post Never (λ code. ⊥) 3 (3 * N) (meaning most full onward u) (at_least 3 N (omega arith))
              (load_ends Post Never (λ code. ⊥) most full u x (loads.Full I32) 0 (local x) (Own e.part) e.offset e.offset (newest left) (newest left) x_there (omega arith) linked_u.3 (newest-loaded left) room_u
              ((Keeps-set Old sink.Spared u u x (newest left) other (Keeps-same Old sink.Spared u), λ rows. sink_kept rows u u' one), walks))

        chooses : FeedsTo sink most full N Old (Walks left) (flow_at e) (seq choice onward) t
        chooses = feeds_before sink most full N Old Old' (Also left) (Walks left) (flow_at e) choice onward t old_in
            (feeds_choose sink most full N Old' (Also left) (inner e.values) nothing test.out (same e.values) found skip t (omega arith) decided.1
            (λ is. found_feeds e left t at_t decided.2 is also_t)
            (λ isnt. feeds_skip sink most full N Old' (Also left) t (also_other e left t isnt also_t)))
            (λ u keeps also_u. goes_on u keeps also_u)

      step : FeedsTo sink most full N Old (Walks left) (flow_at e) body s
      step = feeds_then sink most full N Old Decided (Walks left) (flow_at e) test.block (seq choice onward) s
          (Ends-weaker (sizes.size test.block * N) (sizes.size test.block * N) Decided (λ t. Quiet sink most full Old s t × Decided t) Never Never (λ code. ⊥) (λ code. ⊥) (meaning most full test.block s) (omega arith)
          (λ t decided. ((keeps_one t decided, λ rows. sink_kept rows s t (under t decided)), decided)) (λ t y. y) (λ code y. y) (test_ends e s at_s))
          (λ t keeps decided. chooses t decided)

    before_end : (e : Row) (left : List Row) (s : LowState) → Walks (e ∷ left) s → IsSet (value s (local x))
    before_end e left s at = inr (Own e.part, e.offset, at.x_is)

    -- of a slot's entries those that are the same feed
    pub walk_feeds : (es : List Row) (s : LowState) → length es < full → Walks es s → FeedsTo sink most full (1 + spend units_at es) Old (Also []) (flow_over flow_at es) (walk_block x test found) s
    walk_feeds es s more at =
        feeds_weaker sink most full (1 + spend units_at es) (1 + spend units_at es) Old Old (Walks []) (Also []) (flow_over flow_at es) (walk_block x test found) s (omega arith) (λ i old. old) (λ t keeps walks. walks.also)
        (loop_feeds Row sink most full Old flow_at units_at (local x) body Walks (λ s' at'. at'.x_is) before_end step es s more at)

    -- with the slot's load before it
    module _ (k o j d h : ℕ) (es : List Row) (sized : slice_get s0.own k ≡ Some page) (inside : o + 4096 ≤ page) (slot_has : s0.cells (Own k) (o + 4 * j) 4 ≡ Some (newest es)) (linked : Linked Has size s0.cells base front es)
        (j_low : j < 1024) (d_is : slice_get s0.locals d ≡ Some (Address (Own k) o)) (h_is : slice_get s0.locals h ≡ Some (Number (4 * j))) (room : x < length s0.locals) (more : length es < full) (also : Also es s0) where
      abbrev head : Value
      head = newest es

      abbrev s1 : LowState
      s1 = record s0 { locals = slice_set s0.locals x head }

      set_keeps : Keeps Old sink.Spared s0 s1
      set_keeps = Keeps-set Old sink.Spared s0 s0 x head (λ i old is. omega (arith, old_low i old, is)) (Keeps-same Old sink.Spared s0)

      begun : Walks es s1
      begun = record {
        x_is = slice_get-set_same s0.locals x head room;
        room = omega (arith, room, length-set s0.locals x head);
        keeps = set_keeps;
        linked = linked;
        also = also_kept es s0 s1 (Kept-one s0 x head) also;
      }

      slot_is : value s0 (slot_at d h) ≡ Some (Address (Own k) (o + 4 * j))
      slot_is = rw (d_is, h_is, sized, le-leb (o + 4 * j) page (omega (arith, inside, j_low))) refl

      abbrev N' : ℕ
      N' = 1 + spend units_at es

      pub probe_feeds : FeedsTo sink most full (1 + spend units_at es) Old (Also []) (flow_over flow_at es) (probe_block d h x test found) s0
      probe_feeds = feeds_then sink most full N' Old (λ t. t ≡ s1) (Also []) (flow_over flow_at es) (load x (loads.Full I32) 0 (slot_at d h)) (walk_block x test found) s0
          (let Post : LowState → Type 0 = λ t. Quiet sink most full Old s0 t × (t ≡ s1) in
          Ends-more Post Never (λ code. ⊥) 5 (5 * N') (meaning most full (load x (loads.Full I32) 0 (slot_at d h)) s0) (at_least 5 N' (omega arith))
          (load_ends Post Never (λ code. ⊥) most full s0 x (loads.Full I32) 0 (slot_at d h) (Own k) (o + 4 * j) (o + 4 * j) head head slot_is (omega arith) slot_has (newest-loaded es) room
          ((set_keeps, λ rows. sink_kept rows s0 s1 (Kept-one s0 x head)), refl)))
          (λ t keeps is. subst (λ (s : LowState). FeedsTo sink most full N' Old (Also []) (flow_over flow_at es) (walk_block x test found) s) (sym is)
          (walk_feeds es s1 more begun))
