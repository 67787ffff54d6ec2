-- The walk of a LEFT JOIN over the entries of a slot: what goes on with each entry that a row meets, and what goes on with the row alone where there is none.
use Rattle.std.proofs.Common.{◌≡◌, ℕ, suc, ◌+◌, ◌*◌, ◌<◌, ◌≤◌, ◌⊎◌, ◌&&◌, ◌||◌, inl, inr, Bool, true, false, if◌then◌else◌, Option, Some, None, List, [], ◌∷◌, ◌++◌, length, length-set, slice_get, slice_set, Result, Ok, Err, refl, sym, ap, ap₂, ◌∙◌, subst, ⊎_elim, arith}
use Rattle.std.specs.List.{list_any, flat_map}
use Rattle.std.proofs.Math.Bool.{or-false, or-true}
use Rattle.std.proofs.lemmas.Bool.{or_parts}
use Rattle.std.proofs.lemmas.List.{append_assoc, append-nil}
use Rattle.std.proofs.lemmas.List.Folds.{list_any-append}
use Rattle.qw_types.specs.declared.code.Code.{Code}
use Rattle.qw_types.specs.declared.value.Val.{Val}
use Rattle.qw_meaning.specs.Flow.{Flow}
use Rattle.qw_map.proofs.TurnFacts.{slice_get-set_same, slice_get-set_other}
use Rattle.qw_module.specs.Numbers.{truth}
use Rattle.qw_module.specs.declared.instruction.ValType.TheVariants.{I32}
use Rattle.qw_module.specs.declared.instruction.Load.TheVariants as loads
use Rattle.qw_low.specs.Syntax.{Statement, local, skip, seq, assign, load, conditional, while}
use Rattle.qw_low.specs.State.{Own, Value, Number, Cells, LowState}
use Rattle.qw_low.specs.Meaning.{value, meaning}
use Rattle.qw_low.specs.Size as sizes
use Rattle.qw_low.specs.Promise.{Ends, IsSet}
use Rattle.qw_low.specs.Raising.{Kept}
use Rattle.qw_low.proofs.Promises.{Ends-more, Ends-weaker}
use Rattle.qw_low.proofs.Results.{Kept-one, Kept-then, at_least}
use Rattle.qw_low.proofs.BlockSteps.{load_ends}
use Rattle.qw_feed.specs.Feeds.{nothing, both, flow_by, where_true, flow_over, spend, Any, Sink, FeedsTo}
use Rattle.qw_feed.specs.Frames.{pos, Keeps}
use Rattle.qw_feed.specs.Room.{i32}
use Rattle.qw_feed.specs.Rows.{Row, address}
use Rattle.qw_feed.specs.Stages.{Test}
use Rattle.qw_feed.proofs.FeedRules.{Quiet, feeds_weaker, feeds_skip, feeds_choose, feeds_before, feeds_both, feeds_raised, own_then}
use Rattle.qw_feed.proofs.Frames.{Never, Keeps-same, Keeps-then, Keeps-set, Keeps-less, Keeps-kept, Kept-less}
use Rattle.qw_feed.proofs.LoopFeeds.{loop_feeds}
use Rattle.qw_table.specs.Outer.{pass_or_raise, goes_on, outer_choice, outer_turn, outer_walk, Tried}
use Rattle.qw_table.specs.Tables.{newest, Linked}
use Rattle.qw_table.proofs.Chains.{newest-loaded, Linked-same}
use Rattle.qw_table.proofs.Chosen.{sets, in_turn, leads_on, leads_past, feeds_led, feeds_past}

-- ---- the turns: one for each entry, and one more
abbrev pub turns_of : List Row → List (Option Row)
turns_of [] = None ∷ []
turns_of (e ∷ es) = Some e ∷ turns_of es

-- what comes by a value of an entry, or of there being none
abbrev at_turn : {A : Type 0} → (Row → A) → A → Option Row → A
at_turn one last (Some e) = one e
at_turn one last None = last

pub turns_many : (es : List Row) → length (turns_of es) ≡ suc (length es)
turns_many [] = refl
turns_many (e ∷ es) = ap suc (turns_many es)

turns_spent : (units : Row → ℕ) (last : ℕ) (es : List Row) → spend (at_turn units last) (turns_of es) ≡ spend units es + (1 + last)
turns_spent units last [] = omega arith
turns_spent units last (e ∷ es) = let rest = turns_spent units last es in omega (arith, rest)

turns_flat : {A : Type 0} (one : Row → List A) (last : List A) (work : Option Row → List A) → ((e : Row) → work (Some e) ≡ one e) → work None ≡ last → (es : List Row) → flat_map work (turns_of es) ≡ flat_map one es ++ last
turns_flat one last work each end [] = ap (λ l. l ++ []) end ∙ append-nil last
turns_flat one last work each end (e ∷ es) = ap₂ (λ k l. k ++ l) (each e) (turns_flat one last work each end es) ∙ sym (append_assoc (one e) (flat_map one es) last)

abbrev flow_of : List (List Val) → List Code → Flow (List Val)
flow_of rows codes = record { rows = rows; codes = codes }

turns_flow : (one : Row → Flow (List Val)) (last : Flow (List Val)) (es : List Row) → flow_over (at_turn one last) (turns_of es) ≡ both (flow_over one es) last
turns_flow one last es = ap₂ flow_of
    (turns_flat (λ (e : Row). (one e).rows) last.rows (λ (t : Option Row). (at_turn one last t).rows) (λ e. refl) refl es)
    (turns_flat (λ (e : Row). (one e).codes) last.codes (λ (t : Option Row). (at_turn one last t).codes) (λ e. refl) refl es)

both-none : (f : Flow (List Val)) → both f nothing ≡ f
both-none f = ap₂ flow_of (append-nil f.rows) (append-nil f.codes)

module _ (Has : Cells → ℕ → ℕ → List Val → Type 0) (size : ℕ) (wide : 8 ≤ size)
    (has_same : (c c' : Cells) (k o : ℕ) (values : List Val) → ((a b : ℕ) → o + 8 ≤ a → a + b ≤ o + size → c' (Own k) a b ≡ c (Own k) a b) → Has c k o values → Has c' k o values)
    (sink : Sink) (most full m x : ℕ) (apart : m + 3 ≤ x) (Old Old' Aside : ℕ → Type 0) (old_low : (i : ℕ) → Old i → i < m) (old_in : (i : ℕ) → Old i → Old' i) (own_in : (i : ℕ) → m ≤ i → i ≤ x → Old' i)
    (aside_in : (i : ℕ) → Old' i → (i ≡ m + 2 → ⊥) → Aside i) (sink_kept : (rows : List (List Val)) (s t : LowState) → Kept m s t → sink.Has rows s → sink.Has rows t)
    (test : Test) (try clear rest : Statement) (same : List Val → Bool) (passes : List Val → Result Bool Code) (feed : List Val → Flow (List Val)) (units : List Val → ℕ) (lone : Flow (List Val)) (lone_units : ℕ)
    (base front : ℕ) (spared : (at width : ℕ) → base ≤ at → at + width ≤ front → sink.Spared at width) (s0 : LowState) (es : List Row) (Passed : Row → LowState → Type 0) (Cleared : LowState → Type 0) where
  abbrev w : ℕ
  w = m + 1

  abbrev g : ℕ
  g = m + 2

  abbrev pub meets : Row → Bool
  meets e = same e.values && pass_or_raise (passes e.values)

  abbrev pub flow_at : Row → Flow (List Val)
  flow_at e = if same e.values then flow_by (passes e.values) (where_true (feed e.values)) else nothing

  abbrev units_at : Row → ℕ
  units_at e = units e.values

  -- what every part of a turn keeps beside its own: old locals, m, w, and what leads to the entry
  abbrev Stays : ℕ → Type 0
  Stays i = Old i ⊎ ((m ≤ i) × (i ≤ x) × (i ≡ g → ⊥))

  -- x leads to the first of those that are left, and m is 1 where something has gone on
  pub record Between (left : List Row) (gone : Bool) (s : LowState) : Type 0 where
    pub x_is : slice_get s.locals x ≡ Some (newest left)
    pub room : x < length s.locals
    pub keeps : Keeps Old sink.Spared s0 s
    pub linked : Linked Has size s.cells base front left
    pub w_is : slice_get s.locals w ≡ Some (Number 1)
    pub m_is : slice_get s.locals m ≡ Some (Number (truth gone))

  between_keeps : (left : List Row) (gone : Bool) (s t : LowState) → Keeps Stays sink.Spared s t → Between left gone s → Between left gone t
  between_keeps left gone s t keeps h = record {
    x_is = keeps.locals x (inr (omega (arith, apart), omega arith, λ is. omega (arith, apart, is))) ∙ h.x_is;
    room = omega (arith, h.room, keeps.many);
    keeps = Keeps-then Old sink.Spared s0 s t h.keeps (Keeps-less Old sink.Spared Stays sink.Spared s t (λ i old. inl old) (λ at width it. it) keeps);
    linked = Linked-same Has size wide has_same s.cells t.cells base front left (λ k a b from to. keeps.cells k a b (spared (pos k a) b from to)) h.linked;
    w_is = keeps.locals w (inr (omega arith, omega (arith, apart), λ is. omega (arith, is))) ∙ h.w_is;
    m_is = keeps.locals m (inr (omega arith, omega (arith, apart), λ is. omega (arith, is))) ∙ h.m_is;
  }

  stays_old : (i : ℕ) → Stays i → Old' i
  stays_old i it = ⊎_elim (λ old. old_in i old) (λ own. own_in i own.0 own.1) it

  stays_aside : (i : ℕ) → Stays i → Aside i
  stays_aside i it = ⊎_elim (λ old. aside_in i (old_in i old) (λ is. let low = old_low i old in omega (arith, low, is))) (λ own. aside_in i (own_in i own.0 own.1) own.2) it

  stays_low : (i : ℕ) → Stays i → i < x + 1
  stays_low i it = ⊎_elim (λ old. let low = old_low i old in omega (arith, low, apart)) (λ own. omega (arith, own.1)) it

  stays_other : (i : ℕ) → Stays i → i ≡ g → ⊥
  stays_other i it is = ⊎_elim (λ old. let low = old_low i old in omega (arith, low, is)) (λ own. own.2 is) it

  -- a local of the walk's own is set: what is old is kept
  set_keeps : (s : LowState) (i : ℕ) (v : Value) → m ≤ i → Keeps Old sink.Spared s (record s { locals = slice_set s.locals i v })
  set_keeps s i v high = Keeps-set Old sink.Spared s s i v (λ j old is. let low = old_low j old in omega (arith, low, is, high)) (Keeps-same Old sink.Spared s)

  set_kept : (s : LowState) (i : ℕ) (v : Value) → m ≤ i → Kept m s (record s { locals = slice_set s.locals i v })
  set_kept s i v high = Kept-less m i s (record s { locals = slice_set s.locals i v }) high (Kept-one s i v)

  quiet_set : (s : LowState) (i : ℕ) (v : Value) → m ≤ i → Quiet sink most full Old s (record s { locals = slice_set s.locals i v })
  quiet_set s i v high = (set_keeps s i v high, λ rows. sink_kept rows s (record s { locals = slice_set s.locals i v }) (set_kept s i v high))

  -- after g is set to 0
  begun_turn : (s : LowState) → Keeps Stays sink.Spared s (record s { locals = slice_set s.locals g (Number 0) })
  begun_turn s = Keeps-set Stays sink.Spared s s g (Number 0) stays_other (Keeps-same Stays sink.Spared s)

  -- the pair has gone on
  marked : (left : List Row) (gone : Bool) (s : LowState) → Between left gone s → Between left true (record s { locals = slice_set s.locals m (Number 1) })
  marked left gone s h = record {
    x_is = slice_get-set_other s.locals m x (Number 1) (λ is. omega (arith, apart, is)) ∙ h.x_is;
    room = omega (arith, h.room, length-set s.locals m (Number 1));
    keeps = Keeps-then Old sink.Spared s0 s (record s { locals = slice_set s.locals m (Number 1) }) h.keeps (set_keeps s m (Number 1) (omega arith));
    linked = h.linked;
    w_is = slice_get-set_other s.locals m w (Number 1) (λ is. omega (arith, is)) ∙ h.w_is;
    m_is = slice_get-set_same s.locals m (Number 1) (omega (arith, h.room, apart));
  }

  abbrev onward : Statement
  onward = conditional (local x) (load x (loads.Full I32) 0 (local x)) skip

  abbrev go : Statement
  go = conditional (local g) (seq rest (assign m (i32 1))) skip

  abbrev choice : Statement
  choice = outer_choice m w g x test try clear

  abbrev body : Statement
  body = outer_turn m w g x test try clear rest

  -- to the next entry
  moved : (N : ℕ) → 1 ≤ N → (e : Row) (left : List Row) (gone : Bool) (s : LowState) → Between (e ∷ left) gone s → Ends (sizes.size onward * N) (λ t. Quiet sink most full Old s t × Between left gone t) Never (λ code. ⊥) (meaning most full onward s)
  moved N some e left gone s h =
      let t : LowState = record s { locals = slice_set s.locals x (newest left) } in
      let Post : LowState → Type 0 = λ u. Quiet sink most full Old s u × Between left gone u in
      let next : Statement = load x (loads.Full I32) 0 (local x) in
      leads_on most full N some Post (local x) next skip s (inr (Own e.part, e.offset, h.x_is))
      (Ends-more Post Never (λ code. ⊥) 3 (3 * N) (meaning most full next s) (at_least 3 N some)
      (load_ends Post Never (λ code. ⊥) most full s x (loads.Full I32) 0 (local x) (Own e.part) e.offset e.offset (newest left) (newest left) h.x_is (omega arith) h.linked.3 (newest-loaded left) h.room (
        quiet_set s x (newest left) (omega (arith, apart)),
        record {
          x_is = slice_get-set_same s.locals x (newest left) h.room;
          room = omega (arith, h.room, length-set s.locals x (newest left));
          keeps = Keeps-then Old sink.Spared s0 s t h.keeps (set_keeps s x (newest left) (omega (arith, apart)));
          linked = h.linked.5;
          w_is = slice_get-set_other s.locals x w (newest left) (λ is. omega (arith, apart, is)) ∙ h.w_is;
          m_is = slice_get-set_other s.locals x m (newest left) (λ is. omega (arith, apart, is)) ∙ h.m_is;
        },
      )))

  -- ---- the last turn
  -- x is 0
  record Ending (gone : Bool) (to_come going : ℕ) (s : LowState) : Type 0 where
    x_is : slice_get s.locals x ≡ Some (Number 0)
    room : x < length s.locals
    keeps : Keeps Old sink.Spared s0 s
    m_is : slice_get s.locals m ≡ Some (Number (truth gone))
    w_is : slice_get s.locals w ≡ Some (Number to_come)
    g_is : slice_get s.locals g ≡ Some (Number going)

  ending_kept : (gone : Bool) (to_come going : ℕ) (s t : LowState) → Kept (x + 1) s t → Ending gone to_come going s → Ending gone to_come going t
  ending_kept gone to_come going s t kept h = record {
    x_is = kept.below x (omega arith) ∙ h.x_is;
    room = omega (arith, h.room, kept.many);
    keeps = Keeps-then Old sink.Spared s0 s t h.keeps (Keeps-kept Old sink.Spared (x + 1) s t (λ i old. let low = old_low i old in omega (arith, low, apart)) kept);
    m_is = kept.below m (omega (arith, apart)) ∙ h.m_is;
    w_is = kept.below w (omega (arith, apart)) ∙ h.w_is;
    g_is = kept.below g (omega (arith, apart)) ∙ h.g_is;
  }

  ending_g : (gone : Bool) (to_come going v : ℕ) (s : LowState) → Ending gone to_come going s → Ending gone to_come v (record s { locals = slice_set s.locals g (Number v) })
  ending_g gone to_come going v s h = record {
    x_is = slice_get-set_other s.locals g x (Number v) (λ is. omega (arith, apart, is)) ∙ h.x_is;
    room = omega (arith, h.room, length-set s.locals g (Number v));
    keeps = Keeps-then Old sink.Spared s0 s (record s { locals = slice_set s.locals g (Number v) }) h.keeps (set_keeps s g (Number v) (omega arith));
    m_is = slice_get-set_other s.locals g m (Number v) (λ is. omega (arith, is)) ∙ h.m_is;
    w_is = slice_get-set_other s.locals g w (Number v) (λ is. omega (arith, is)) ∙ h.w_is;
    g_is = slice_get-set_same s.locals g (Number v) (omega (arith, h.room, apart));
  }

  ending_w : (gone : Bool) (to_come going v : ℕ) (s : LowState) → Ending gone to_come going s → Ending gone v going (record s { locals = slice_set s.locals w (Number v) })
  ending_w gone to_come going v s h = record {
    x_is = slice_get-set_other s.locals w x (Number v) (λ is. omega (arith, apart, is)) ∙ h.x_is;
    room = omega (arith, h.room, length-set s.locals w (Number v));
    keeps = Keeps-then Old sink.Spared s0 s (record s { locals = slice_set s.locals w (Number v) }) h.keeps (set_keeps s w (Number v) (omega arith));
    m_is = slice_get-set_other s.locals w m (Number v) (λ is. omega (arith, is)) ∙ h.m_is;
    w_is = slice_get-set_same s.locals w (Number v) (omega (arith, h.room, apart));
    g_is = slice_get-set_other s.locals w g (Number v) (λ is. omega (arith, is)) ∙ h.g_is;
  }

  -- no turn is to come
  abbrev Ended : LowState → Type 0
  Ended t = slice_get t.locals w ≡ Some (Number 0)

  -- and x is still 0
  abbrev Closing : LowState → Type 0
  Closing t = (slice_get t.locals x ≡ Some (Number 0)) × Ended t

  closes : (N : ℕ) → 1 ≤ N → (s : LowState) → Closing s → Ends (sizes.size onward * N) (λ t. Quiet sink most full Old s t × Ended t) Never (λ code. ⊥) (meaning most full onward s)
  closes N some s h = leads_past most full N some (λ t. Quiet sink most full Old s t × Ended t) (local x) (load x (loads.Full I32) 0 (local x)) skip s h.0 (omega arith, ((Keeps-same Old sink.Spared s, λ rows has. has), h.1))

  abbrev any : Bool
  any = list_any meets es

  module _ (test_ends : (e : Row) (done left : List Row) (s : LowState) → es ≡ done ++ e ∷ left → slice_get s.locals x ≡ Some (address e) → x < length s.locals → Keeps Old sink.Spared s0 s → Has s.cells e.part e.offset e.values →
      Ends (sizes.size test.block * (1 + units e.values)) (λ t. Kept (x + 1) s t × (value t test.out ≡ Some (Number (truth (same e.values))))) Never (λ code. ⊥) (meaning most full test.block s))
      (try_feeds : (e : Row) (done left : List Row) (s : LowState) → es ≡ done ++ e ∷ left → slice_get s.locals x ≡ Some (address e) → slice_get s.locals g ≡ Some (Number 0) → Keeps Old sink.Spared s0 s → Has s.cells e.part e.offset e.values → same e.values ≡ true →
      FeedsTo sink most full (1 + units e.values) Aside (Tried g (Passed e) (passes e.values)) (flow_by (passes e.values) (where_true nothing)) try s)
      (rest_feeds : (e : Row) (done left : List Row) (s : LowState) → es ≡ done ++ e ∷ left → Keeps Old sink.Spared s0 s → same e.values ≡ true → passes e.values ≡ Ok true → Passed e s → FeedsTo sink most full (1 + units e.values) Old' Any (feed e.values) rest s)
      (clear_ends : (s : LowState) → any ≡ false → Keeps Old sink.Spared s0 s → Ends (sizes.size clear * (1 + lone_units)) (λ t. Kept (x + 1) s t × Cleared t) Never (λ code. ⊥) (meaning most full clear s))
      (lone_feeds : (s : LowState) → any ≡ false → Keeps Old sink.Spared s0 s → Cleared s → FeedsTo sink most full (1 + lone_units) Old' Any lone rest s) where
    -- ---- an entry's turn
    module _ (e : Row) (done left : List Row) (split : es ≡ done ++ e ∷ left) where
      abbrev N : ℕ
      N = 1 + units e.values

      abbrev gone : Bool
      gone = list_any meets done

      -- whether the entry has the key, and if so what its conjuncts come to
      abbrev Settled : Bool → Result Bool Code → LowState → Type 0
      Settled true r t = Tried g (Passed e) r t
      Settled false r t = slice_get t.locals g ≡ Some (Number 0)

      abbrev Chosen : Bool → Result Bool Code → LowState → Type 0
      Chosen b r t = Between (e ∷ left) gone t × Settled b r t

      abbrev Later : LowState → Type 0
      Later = Between left (list_any meets (done ++ e ∷ []))

      chooses : (s : LowState) → Between (e ∷ left) gone s → slice_get s.locals g ≡ Some (Number 0) →
          FeedsTo sink most full N Old (Chosen (same e.values) (passes e.values)) (if same e.values then flow_by (passes e.values) (where_true nothing) else nothing) choice s
      chooses s h g_is =
          let r : Result Bool Code = passes e.values in
          let After : LowState → Type 0 = Chosen (same e.values) r in
          let f : Flow (List Val) = if same e.values then flow_by r (where_true nothing) else nothing in
          let last : Statement = seq (assign w (i32 0)) (conditional (local m) skip (seq (goes_on g) clear)) in
          feeds_led most full N (omega arith) sink Old After f (local x) (seq test.block (conditional test.out try skip)) last s (inr (Own e.part, e.offset, h.x_is))
          (own_then sink most full m Old old_low sink_kept N (x + 1) (λ t. value t test.out ≡ Some (Number (truth (same e.values)))) After f test.block (conditional test.out try skip) s (omega (arith, apart))
          (test_ends e done left s split h.x_is h.room h.keeps h.linked.4)
          (λ t kept told.
          let now : Between (e ∷ left) gone t = between_keeps (e ∷ left) gone s t (Keeps-kept Stays sink.Spared (x + 1) s t stays_low kept) h in
          let still : slice_get t.locals g ≡ Some (Number 0) = kept.below g (omega (arith, apart)) ∙ g_is in
          feeds_choose sink most full N Old After (flow_by r (where_true nothing)) nothing test.out (same e.values) try skip t (omega arith) told
          (λ is. feeds_weaker sink most full N N Aside Old (Tried g (Passed e) r) After (flow_by r (where_true nothing)) try t (omega arith) (λ i old. stays_aside i (inl old))
          (λ u keeps tried. (between_keeps (e ∷ left) gone t u (Keeps-less Stays sink.Spared Aside sink.Spared t u stays_aside (λ at width it. it) keeps) now, subst (λ (b : Bool). Settled b r u) (sym is) tried))
          (try_feeds e done left t split now.x_is still now.keeps now.linked.4 is))
          (λ isnt. feeds_skip sink most full N Old After t (now, subst (λ (b : Bool). Settled b r t) (sym isnt) still))))

      any_is : (b : Bool) → meets e ≡ b → (gone || b) ≡ list_any meets (done ++ e ∷ [])
      any_is b is = sym (list_any-append meets done (e ∷ []) ∙ ap (λ (c : Bool). gone || c) (or-false (meets e) ∙ is))

      -- the pair goes on, or it doesn't; and the next entry is led to
      goes : (b : Bool) → meets e ≡ b → (s : LowState) → Between (e ∷ left) gone s → slice_get s.locals g ≡ Some (Number (truth b)) → (b ≡ true → FeedsTo sink most full N Old' Any (feed e.values) rest s) →
          FeedsTo sink most full N Old Later (if b then feed e.values else nothing) (seq go onward) s
      goes b is s h g_is feeds =
          let f : Flow (List Val) = if b then feed e.values else nothing in
          let Went : LowState → Type 0 = Between (e ∷ left) (gone || b) in
          subst (λ (c : Bool). FeedsTo sink most full N Old (Between left c) f (seq go onward) s) (any_is b is)
          (feeds_before sink most full N Old Old Went (Between left (gone || b)) f go onward s (λ i old. old)
          (feeds_choose sink most full N Old Went (feed e.values) nothing (local g) b (seq rest (assign m (i32 1))) skip s (omega arith) g_is
          (λ yes. feeds_before sink most full N Old Old' Any Went (feed e.values) rest (assign m (i32 1)) s old_in (feeds yes)
          (λ t keeps any.
          let now : Between (e ∷ left) gone t = between_keeps (e ∷ left) gone s t (Keeps-less Stays sink.Spared Old' sink.Spared s t stays_old (λ at width it. it) keeps) h in
          sets most full N (omega arith) (λ u. Quiet sink most full Old t u × Went u) m (i32 1) (Number 1) t refl (omega (arith, now.room, apart))
          (quiet_set t m (Number 1) (omega arith), subst (λ (c : Bool). Between (e ∷ left) c (record t { locals = slice_set t.locals m (Number 1) })) (sym (ap (λ (c : Bool). gone || c) yes ∙ or-true gone)) (marked (e ∷ left) gone t now))))
          (λ no. feeds_skip sink most full N Old Went s (subst (λ (c : Bool). Between (e ∷ left) c s) (sym (ap (λ (c : Bool). gone || c) no ∙ or-false gone)) h)))
          (λ t keeps went. moved N (omega arith) e left (gone || b) t went))

      turned : (b : Bool) (r : Result Bool Code) → same e.values ≡ b → passes e.values ≡ r → (s : LowState) → FeedsTo sink most full N Old (Chosen b r) (if b then flow_by r (where_true nothing) else nothing) choice s →
          FeedsTo sink most full N Old Later (if b then flow_by r (where_true (feed e.values)) else nothing) (seq choice (seq go onward)) s
      turned false r is r_is s chosen = feeds_both sink most full N Old (Chosen false r) Later nothing nothing choice (seq go onward) s chosen
          (λ t keeps mid. goes false (ap (λ (b : Bool). b && pass_or_raise (passes e.values)) is) t mid.0 mid.1 (λ yes. absurd cc))
      turned true (Ok false) is r_is s chosen = feeds_both sink most full N Old (Chosen true (Ok false)) Later nothing nothing choice (seq go onward) s chosen
          (λ t keeps mid. goes false (ap₂ (λ (b : Bool) (q : Result Bool Code). b && pass_or_raise q) is r_is) t mid.0 mid.1 (λ yes. absurd cc))
      turned true (Ok true) is r_is s chosen = feeds_both sink most full N Old (Chosen true (Ok true)) Later nothing (feed e.values) choice (seq go onward) s chosen
          (λ t keeps mid. goes true (ap₂ (λ (b : Bool) (q : Result Bool Code). b && pass_or_raise q) is r_is) t mid.0 mid.1.0 (λ yes. rest_feeds e done left t split mid.0.keeps is r_is mid.1.1))
      turned true (Err c) is r_is s chosen = feeds_raised sink most full N Old (Chosen true (Err c)) Later (flow_of [] (c ∷ [])) choice (seq go onward) s (λ none. cc) chosen

      entry_turn : (s : LowState) → Between (e ∷ left) gone s → FeedsTo sink most full N Old Later (flow_at e) body s
      entry_turn s h =
          let Ready : LowState → Type 0 = λ t. Between (e ∷ left) gone t × (slice_get t.locals g ≡ Some (Number 0)) in
          own_then sink most full m Old old_low sink_kept N m Ready Later (flow_at e) (assign g (i32 0)) (seq choice (seq go onward)) s (omega arith)
          (sets most full N (omega arith) (λ t. Kept m s t × Ready t) g (i32 0) (Number 0) s refl (omega (arith, h.room, apart))
          (set_kept s g (Number 0) (omega arith), (between_keeps (e ∷ left) gone s (record s { locals = slice_set s.locals g (Number 0) }) (begun_turn s) h, slice_get-set_same s.locals g (Number 0) (omega (arith, h.room, apart)))))
          (λ t kept ready. turned (same e.values) (passes e.values) refl refl t (chooses t ready.0 ready.1))

    -- ---- the turn of the row alone
    -- something went on before, or the row goes on alone
    abbrev Last : Bool → LowState → Type 0
    Last true t = Ending true 0 0 t
    Last false t = Ending false 0 1 t × Cleared t

    abbrev last_units : Bool → ℕ
    last_units b = if b then 0 else lone_units

    abbrev last_flow : Bool → Flow (List Val)
    last_flow b = if b then nothing else lone

    last_chooses : (b : Bool) → any ≡ b → (s : LowState) → Ending b 1 0 s → Ends (sizes.size choice * (1 + last_units b)) (λ t. Kept m s t × Last b t) Never (λ code. ⊥) (meaning most full choice s)
    last_chooses b is s h =
        let N : ℕ = 1 + last_units b in
        let s1 : LowState = record s { locals = slice_set s.locals w (Number 0) } in
        let Post : LowState → Type 0 = λ t. Kept m s t × Last b t in
        let end : Statement = conditional (local m) skip (seq (goes_on g) clear) in
        let entry : Statement = seq test.block (conditional test.out try skip) in
        leads_past most full N (omega arith) Post (local x) entry (seq (assign w (i32 0)) end) s h.x_is
        (in_turn most full N (omega arith) (λ t. t ≡ s1) Post (assign w (i32 0)) end s
        (sets most full N (omega arith) (λ t. t ≡ s1) w (i32 0) (Number 0) s refl (omega (arith, h.room, apart)) refl)
        (λ t t_is. subst (λ (q : LowState). Ends (sizes.size end * N) Post Never (λ code. ⊥) (meaning most full end q)) (sym t_is) (ends b is s h)))
      where
        ends : (b : Bool) → any ≡ b → (s : LowState) → Ending b 1 0 s → Ends (sizes.size (conditional (local m) skip (seq (goes_on g) clear)) * (1 + last_units b)) (λ t. Kept m s t × Last b t) Never (λ code. ⊥)
            (meaning most full (conditional (local m) skip (seq (goes_on g) clear)) (record s { locals = slice_set s.locals w (Number 0) }))
        ends true is s h =
            let s1 : LowState = record s { locals = slice_set s.locals w (Number 0) } in
            let now : Ending true 0 0 s1 = ending_w true 1 0 0 s h in
            leads_on most full 1 (omega arith) (λ t. Kept m s t × Last true t) (local m) skip (seq (goes_on g) clear) s1 (inl (0, now.m_is)) (omega arith, (set_kept s w (Number 0) (omega arith), now))
        ends false is s h =
            let N : ℕ = 1 + lone_units in
            let s1 : LowState = record s { locals = slice_set s.locals w (Number 0) } in
            let s2 : LowState = record s1 { locals = slice_set s1.locals g (Number 1) } in
            let now : Ending false 0 0 s1 = ending_w false 1 0 0 s h in
            let going : Ending false 0 1 s2 = ending_g false 0 0 1 s1 now in
            let Post : LowState → Type 0 = λ t. Kept m s t × Last false t in
            leads_past most full N (omega arith) Post (local m) skip (seq (goes_on g) clear) s1 now.m_is
            (in_turn most full N (omega arith) (λ t. t ≡ s2) Post (goes_on g) clear s1
            (sets most full N (omega arith) (λ t. t ≡ s2) g (i32 1) (Number 1) s1 refl (omega (arith, now.room, apart)) refl)
            (λ t t_is. subst (λ (q : LowState). Ends (sizes.size clear * N) Post Never (λ code. ⊥) (meaning most full clear q)) (sym t_is)
            (Ends-weaker (sizes.size clear * N) (sizes.size clear * N) (λ u. Kept (x + 1) s2 u × Cleared u) Post Never Never (λ code. ⊥) (λ code. ⊥) (meaning most full clear s2) (omega arith)
            (λ u done. (
              Kept-then m m s s2 u (omega arith) (Kept-then m m s s1 s2 (omega arith) (set_kept s w (Number 0) (omega arith)) (set_kept s1 g (Number 1) (omega arith))) (Kept-less m (x + 1) s2 u (omega (arith, apart)) done.0),
              (ending_kept false 0 1 s2 u done.0 going, done.1),
            ))
            (λ u y. y) (λ code y. y) (clear_ends s2 is going.keeps))))

    last_goes : (b : Bool) → any ≡ b → (s : LowState) → Last b s → FeedsTo sink most full (1 + last_units b) Old Closing (last_flow b) go s
    last_goes true is s h = feeds_past most full 1 (omega arith) sink Old Closing nothing (local g) (seq rest (assign m (i32 1))) skip s h.g_is (feeds_skip sink most full 1 Old Closing s (h.x_is, h.w_is))
    last_goes false is s h =
        let N : ℕ = 1 + lone_units in
        feeds_led most full N (omega arith) sink Old Closing lone (local g) (seq rest (assign m (i32 1))) skip s (inl (0, h.0.g_is))
        (feeds_before sink most full N Old Old' Any Closing lone rest (assign m (i32 1)) s old_in (lone_feeds s is h.0.keeps h.1)
        (λ t keeps done.
        sets most full N (omega arith) (λ u. Quiet sink most full Old t u × Closing u) m (i32 1) (Number 1) t refl (omega (arith, h.0.room, keeps.many, apart)) (
          quiet_set t m (Number 1) (omega arith),
          (
            slice_get-set_other t.locals m x (Number 1) (λ e. omega (arith, apart, e)) ∙ (keeps.locals x (own_in x (omega (arith, apart)) (omega arith)) ∙ h.0.x_is),
            slice_get-set_other t.locals m w (Number 1) (λ e. omega (arith, e)) ∙ (keeps.locals w (own_in w (omega arith) (omega (arith, apart))) ∙ h.0.w_is),
          ),
        )))

    last_turn : (b : Bool) → any ≡ b → (s : LowState) → Between [] any s → FeedsTo sink most full (1 + last_units b) Old Ended (last_flow b) body s
    last_turn b is s h =
        let N : ℕ = 1 + last_units b in
        let s1 : LowState = record s { locals = slice_set s.locals g (Number 0) } in
        let begun : Between [] any s1 = between_keeps [] any s s1 (begun_turn s) h in
        let started : Ending b 1 0 s1 = record {
          x_is = begun.x_is;
          room = begun.room;
          keeps = begun.keeps;
          m_is = begun.m_is ∙ ap (λ (c : Bool). Some (Number (truth c))) is;
          w_is = begun.w_is;
          g_is = slice_get-set_same s.locals g (Number 0) (omega (arith, h.room, apart));
        } in
        own_then sink most full m Old old_low sink_kept N m (Ending b 1 0) Ended (last_flow b) (assign g (i32 0)) (seq choice (seq go onward)) s (omega arith)
        (sets most full N (omega arith) (λ t. Kept m s t × Ending b 1 0 t) g (i32 0) (Number 0) s refl (omega (arith, h.room, apart)) (set_kept s g (Number 0) (omega arith), started))
        (λ t kept ending. own_then sink most full m Old old_low sink_kept N m (Last b) Ended (last_flow b) choice (seq go onward) t (omega arith) (last_chooses b is t ending)
        (λ u kept' last. feeds_before sink most full N Old Old Closing Ended (last_flow b) go onward u (λ i old. old) (last_goes b is u last) (λ v keeps closing. closes N (omega arith) v closing)))

    -- ---- all turns
    abbrev At : List (Option Row) → LowState → Type 0
    At [] s = Ended s
    At (None ∷ ts) s = (ts ≡ []) × Between [] any s
    At (Some e ∷ ts) s = (done : List Row) × (left : List Row) × (es ≡ done ++ e ∷ left) × (ts ≡ turns_of left) × Between (e ∷ left) (list_any meets done) s

    at_turns : (done left : List Row) (s : LowState) → es ≡ done ++ left → Between left (list_any meets done) s → At (turns_of left) s
    at_turns done [] s split h = (refl, subst (λ (l : List Row). Between [] (list_any meets l) s) (sym (split ∙ append-nil done)) h)
    at_turns done (e ∷ left) s split h = (done, left, split, refl, h)

    abbrev flow_turn : Option Row → Flow (List Val)
    flow_turn = at_turn flow_at (last_flow any)

    abbrev units_turn : Option Row → ℕ
    units_turn = at_turn units_at (last_units any)

    step : (t : Option Row) (ts : List (Option Row)) (s : LowState) → At (t ∷ ts) s → FeedsTo sink most full (1 + units_turn t) Old (At ts) (flow_turn t) body s
    step None ts s at = subst (λ (l : List (Option Row)). FeedsTo sink most full (1 + last_units any) Old (At l) (last_flow any) body s) (sym at.0) (last_turn any refl s at.1)
    step (Some e) ts s at =
        let done : List Row = at.0 in
        let left : List Row = at.1 in
        let N : ℕ = 1 + units e.values in
        subst (λ (l : List (Option Row)). FeedsTo sink most full N Old (At l) (flow_at e) body s) (sym at.3)
        (feeds_weaker sink most full N N Old Old (Between left (list_any meets (done ++ e ∷ []))) (At (turns_of left)) (flow_at e) body s (omega arith) (λ i old. old)
        (λ t keeps h. at_turns (done ++ e ∷ []) left t (at.2 ∙ sym (append_assoc done (e ∷ []) left)) h) (entry_turn e done left at.2 s at.4))

    before_end : (t : Option Row) (ts : List (Option Row)) (s : LowState) → At (t ∷ ts) s → IsSet (value s (local w))
    before_end None ts s at = inl (0, at.1.w_is)
    before_end (Some e) ts s at = inl (0, at.4.w_is)

    abbrev walked : Flow (List Val)
    walked = if any then flow_over flow_at es else lone

    -- none is met: nothing comes of the entries
    unmet_at : (e : Row) → meets e ≡ false → flow_at e ≡ nothing
    unmet_at e is = unmet (same e.values) (passes e.values) is
      where
        unmet : (b : Bool) (r : Result Bool Code) → (b && pass_or_raise r) ≡ false → (if b then flow_by r (where_true (feed e.values)) else nothing) ≡ nothing
        unmet false r none = refl
        unmet true (Ok false) none = refl
        unmet true (Ok true) none = absurd cc
        unmet true (Err c) none = absurd cc

    unmet_flow : (left : List Row) → list_any meets left ≡ false → flow_over flow_at left ≡ nothing
    unmet_flow [] none = refl
    unmet_flow (e ∷ left) none =
        let parts = or_parts (meets e) (list_any meets left) none in
        let first = unmet_at e parts.0 in
        let others = unmet_flow left parts.1 in
        ap₂ (λ (f g : Flow (List Val)). both f g) first others

    all_flow : (b : Bool) → any ≡ b → both (flow_over flow_at es) (last_flow b) ≡ (if b then flow_over flow_at es else lone)
    all_flow true is = both-none (flow_over flow_at es)
    all_flow false is = ap (λ (f : Flow (List Val)). both f lone) (unmet_flow es is)

    -- What goes on with the entries that are met, or with the row alone.
    pub walk_feeds : (s : LowState) → 1 + length es < full → slice_get s.locals x ≡ Some (newest es) → x < length s.locals → Keeps Old sink.Spared s0 s → Linked Has size s.cells base front es →
        FeedsTo sink most full (2 + (spend units_at es + last_units any)) Old Any walked (outer_walk m w g x test try clear rest) s
    walk_feeds s more x_is room keeps linked =
        let N : ℕ = 2 + (spend units_at es + last_units any) in
        let loop : Statement = while (local w) body in
        let s1 : LowState = record s { locals = slice_set s.locals m (Number 0) } in
        let s2 : LowState = record s1 { locals = slice_set s1.locals w (Number 1) } in
        let one = length-set s.locals m (Number 0) in
        let two = length-set s1.locals w (Number 1) in
        let spent = turns_spent units_at (last_units any) es in
        let begun : Between es false s2 = record {
          x_is = slice_get-set_other s1.locals w x (Number 1) (λ is. omega (arith, apart, is)) ∙ (slice_get-set_other s.locals m x (Number 0) (λ is. omega (arith, apart, is)) ∙ x_is);
          room = omega (arith, room, one, two);
          keeps = Keeps-then Old sink.Spared s0 s s2 keeps (Keeps-then Old sink.Spared s s1 s2 (set_keeps s m (Number 0) (omega arith)) (set_keeps s1 w (Number 1) (omega arith)));
          linked = linked;
          w_is = slice_get-set_same s1.locals w (Number 1) (omega (arith, room, one, apart));
          m_is = slice_get-set_other s1.locals w m (Number 1) (λ is. omega (arith, is)) ∙ slice_get-set_same s.locals m (Number 0) (omega (arith, room, apart));
        } in
        own_then sink most full m Old old_low sink_kept N m (λ t. t ≡ s1) Any walked (assign m (i32 0)) (seq (assign w (i32 1)) loop) s (omega arith)
        (sets most full N (omega arith) (λ t. Kept m s t × (t ≡ s1)) m (i32 0) (Number 0) s refl (omega (arith, room, apart)) (set_kept s m (Number 0) (omega arith), refl))
        (λ t kept t_is. subst (λ (q : LowState). FeedsTo sink most full N Old Any walked (seq (assign w (i32 1)) loop) q) (sym t_is)
        (own_then sink most full m Old old_low sink_kept N m (λ u. u ≡ s2) Any walked (assign w (i32 1)) loop s1 (omega arith)
        (sets most full N (omega arith) (λ u. Kept m s1 u × (u ≡ s2)) w (i32 1) (Number 1) s1 refl (omega (arith, room, one, apart)) (set_kept s1 w (Number 1) (omega arith), refl))
        (λ u kept' u_is. subst (λ (q : LowState). FeedsTo sink most full N Old Any walked loop q) (sym u_is)
        (subst (λ (f : Flow (List Val)). FeedsTo sink most full N Old Any f loop s2) (turns_flow flow_at (last_flow any) es ∙ all_flow any refl)
        (feeds_weaker sink most full (1 + spend units_turn (turns_of es)) N Old Old (At []) Any (flow_over flow_turn (turns_of es)) loop s2 (omega (arith, spent)) (λ i old. old) (λ v keeps' ended. tt)
        (loop_feeds (Option Row) sink most full Old flow_turn units_turn (local w) body At (λ s' ended. ended) before_end step (turns_of es) s2 (let many = turns_many es in omega (arith, many, more)) (at_turns [] es s2 refl begun)))))))
