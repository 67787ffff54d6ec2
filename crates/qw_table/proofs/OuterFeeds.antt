-- What a lookup of a LEFT JOIN feeds: the entries that a row meets, or the row alone.
use Rattle.std.proofs.Common.{◌≡◌, ℕ, ◌+◌, ◌*◌, ◌<◌, ◌≤◌, ◌&&◌, ◌||◌, inl, Bool, true, false, not, if◌then◌else◌, Option, Some, None, List, [], ◌∷◌, ◌++◌, length, length-set, map, slice_get, slice_set, take, Result, Ok, refl, sym, ap, ◌∙◌, subst, ⊎_elim, arith}
use Rattle.std.specs.List.{list_any}
use Rattle.std.proofs.Math.Bool.{not-not}
use Rattle.std.proofs.lemmas.Bool.{le-leb}
use Rattle.qw_linear.specs.Memory.{page}
use Rattle.qw_types.specs.ValueOrder.{is_same_row}
use Rattle.qw_types.specs.declared.code.Code.{Code}
use Rattle.qw_types.specs.declared.kind.Kind.{Kind}
use Rattle.qw_types.specs.declared.value.Val.{Val}
use Rattle.qw_layout.specs.Hash.{slot}
use Rattle.qw_meaning.specs.Flow.{Flow}
use Rattle.qw_map.proofs.TurnFacts.{slice_get-set_same}
use Rattle.qw_module.specs.Numbers.{truth}
use Rattle.qw_module.specs.declared.instruction.ValType.TheVariants.{I32}
use Rattle.qw_module.specs.declared.instruction.Load.TheVariants as loads
use Rattle.qw_low.specs.Syntax.{Statement, local, skip, seq, assign, load}
use Rattle.qw_low.specs.State.{Part, Own, Value, Number, Address, Cells, LowState}
use Rattle.qw_low.specs.Meaning.{value, meaning}
use Rattle.qw_low.specs.Size.{size}
use Rattle.qw_low.specs.Promise.{Ends}
use Rattle.qw_low.specs.Raising.{Kept}
use Rattle.qw_low.specs.Held.{SaysNull, SaysValue}
use Rattle.qw_low.proofs.BlockSteps.{load_ends}
use Rattle.qw_low.proofs.Promises.{Ends-more, Ends-weaker}
use Rattle.qw_low.proofs.Results.{Kept-one, Kept-set, Kept-then, at_least}
use Rattle.qw_feed.specs.Cells.{AllSupply, AllUse, AreOfKinds, kinds_of}
use Rattle.qw_feed.specs.Feeds.{nothing, flow_by, where_true, flow_over, spend, Any, Sink, FeedsTo}
use Rattle.qw_feed.specs.Frames.{pos, Keeps}
use Rattle.qw_feed.specs.Room.{i32}
use Rattle.qw_feed.specs.Rows.{Row, address}
use Rattle.qw_feed.specs.Stages.{Among, Test}
use Rattle.qw_feed.proofs.FeedRules.{feeds_more, own_then}
use Rattle.qw_feed.proofs.Frames.{Never, Keeps-kept, Kept-less}
use Rattle.qw_feed.proofs.StageRuns.{all-same}
use Rattle.qw_table.specs.Entries.{HoldsValue, Stands}
use Rattle.qw_table.specs.Keys.{AreHeld, text_octets, TestsKey, FindsSlot}
use Rattle.qw_table.specs.Joins.{have_values, sure, unless_null, guarded, sources_of, keyed, where_equal}
use Rattle.qw_table.specs.Outer.{pass_or_raise, is_met, stands_alone, or_alone, outer_front, outer_walk, OuterProbes, Tried}
use Rattle.qw_table.specs.Tables.{IsTable, newest, slot_at, values_of}
use Rattle.qw_table.specs.declared.key.Field.{Field}
use Rattle.qw_table.proofs.Chains.{newest-loaded, table-spared}
use Rattle.qw_table.proofs.Chosen.{sets, in_turn, leads_on, leads_past}
use Rattle.qw_table.proofs.HeldKeys.{null-said}
use Rattle.qw_table.proofs.JoinFeeds.{sure_held, slot-low, kinds, Has, wide, entry_same, values-later}
use Rattle.qw_table.proofs.OuterRuns.{walk_feeds}
use Rattle.qw_table.proofs.ProbeFeeds.{supplied_held, cells_taken, alike_taken}

-- ---- a block that feeds nothing, where no field is null
module _ (most fuel N : ℕ) (some : 1 ≤ N) (P : LowState → Type 0) where
  abbrev To : Statement → LowState → Type 0
  To a s = Ends (size a * N) P Never (λ code. ⊥) (meaning most fuel a s)

  one_guarded : (null : Option ℕ) (f : Field) (v : Val) (vs : List Val) (a : Statement) (s : LowState) → f.cell.null ≡ null → HoldsValue f.cell v s → (have_values (v ∷ vs) ≡ have_values vs → To a s) → (have_values (v ∷ vs) ≡ false → P s) → To (unless_null null a) s
  one_guarded None f v vs a s is held rest none = ⊎_elim
      (λ lost. absurd (subst (SaysNull s) is lost.1))
      (λ there. rest (values-later v vs there.0))
      (null-said f.cell v s held)
  one_guarded (Some n) f v vs a s is held rest none = ⊎_elim
      (λ lost. leads_on most fuel N some P (local n) skip a s (inl (0, subst (SaysNull s) is lost.1)) (omega arith, none (ap (λ (w : Val). have_values (w ∷ vs)) lost.0)))
      (λ there. leads_past most fuel N some P (local n) skip a s (subst (SaysValue s) is there.1) (rest (values-later v vs there.0)))
      (null-said f.cell v s held)

  guarded_ends : (fs : List Field) (vs : List Val) (a : Statement) (s : LowState) → AreHeld fs vs s → (have_values vs ≡ true → To a s) → (have_values vs ≡ false → P s) → To (guarded fs a) s
  guarded_ends [] [] a s held rest none = rest refl
  guarded_ends [] (v ∷ vs) a s held rest none = absurd held
  guarded_ends (f ∷ fs) [] a s held rest none = absurd held
  guarded_ends (f ∷ fs) (v ∷ vs) a s held rest none =
      one_guarded f.cell.null f v vs (guarded fs a) s refl held.0.0 (λ same. guarded_ends fs vs a s held.1 (λ have. rest (same ∙ have)) (λ have. none (same ∙ have))) none

-- ---- units and entries of a chain
pub spend_has : (u : Row → ℕ) (done : List Row) (e : Row) (left : List Row) → u e ≤ spend u (done ++ e ∷ left)
spend_has u [] e left = omega arith
spend_has u (d ∷ done) e left = let rest = spend_has u done e left in omega (arith, rest)

pub many_spent : (u : Row → ℕ) (es : List Row) → length es ≤ spend u es
many_spent u [] = omega arith
many_spent u (e ∷ es) = let rest = many_spent u es in omega (arith, rest)

any_values : (test : List Val → Bool) (es : List Row) → list_any test (values_of es) ≡ list_any (λ (e : Row). test e.values) es
any_values test [] = refl
any_values test (e ∷ es) = ap (λ (b : Bool). test e.values || b) (any_values test es)

is_true : (b c : Bool) → c ≡ not b → c ≡ false → b ≡ true
is_true true c is none = refl
is_true false c is none = absurd cc

turned : {A : Type 0} (b c : Bool) → c ≡ not b → (x y : A) → (if c then x else y) ≡ (if b then y else x)
turned true c is x y = ap (λ (d : Bool). if d then x else y) is
turned false c is x y = ap (λ (d : Bool). if d then x else y) is

none_split : (done : List Row) (e : Row) (left : List Row) → [] ≡ done ++ e ∷ left → ⊥
none_split [] e left is = cc
none_split (d ∷ done) e left is = cc

module _ (Text : Part → ℕ → List ℕ → Type 0) (cells : List Field) (key : List Field) (later : List (Option Kind)) (kinds_are : kinds Text cells (length key) ≡ kinds_of (sources_of key) ++ later)
    (sink : Sink) (most fuel free : ℕ) (Old Old' Aside : ℕ → Type 0) (among_old : (i : ℕ) → Among free i → Old i) (old_low : (i : ℕ) → Old i → i < free) (old_in : (i : ℕ) → Old i → Old' i)
    (own_in : (i : ℕ) → free ≤ i → i ≤ free + 7 → Old' i) (aside_in : (i : ℕ) → Old' i → (i ≡ free + 2 → ⊥) → Aside i)
    (has_kept : (rows : List (List Val)) (s t : LowState) → Kept free s t → sink.Has rows s → sink.Has rows t) (try clear rest : Statement)
    (passes : List Val → Result Bool Code) (feed : List Val → Flow (List Val)) (units : List Val → ℕ) (lone : Flow (List Val)) (lone_units : ℕ) where
  abbrev fields : ℕ
  fields = length key

  abbrev Entry : Cells → ℕ → ℕ → List Val → Type 0
  Entry = Has Text cells fields

  abbrev size_of_entry : ℕ
  size_of_entry = wide Text cells fields

  -- what comes of an entry that has the key
  abbrev pub inner : List Val → Flow (List Val)
  inner entry = flow_by (passes entry) (where_true (feed entry))

  module _ (k o front : ℕ) (chains : ℕ → List Row) (entries : List (List Val)) (values : List Val) (s : LowState) (spared : (at width : ℕ) → pos k o ≤ at → at + width ≤ front → sink.Spared at width)
      (stands : (t : LowState) → Keeps Old sink.Spared s t → (p : Part) (at : ℕ) (octets : List ℕ) → Text p at octets → Stands t p at octets)
      (known : (entry : List Val) → text_octets values ≤ units entry) (turns : 2 + (text_octets values + spend (λ (e : Row). units e.values) (chains (slot values))) ≤ fuel)
      (uses : AllUse (Among free) (sources_of key)) (supplied : AllSupply Text s.locals (sources_of key) values) (table : IsTable Entry (keyed fields) size_of_entry k o front chains entries s.cells s.own)
      (Passed : Row → LowState → Type 0) (Cleared : LowState → Type 0)
      (try_feeds : (e : Row) (done left : List Row) (t : LowState) → chains (slot values) ≡ done ++ e ∷ left → slice_get t.locals (free + 7) ≡ Some (address e) → slice_get t.locals (free + 2) ≡ Some (Number 0) → Keeps Old sink.Spared s t →
      Entry t.cells e.part e.offset e.values → is_same_row values (take fields e.values) ≡ true →
      FeedsTo sink most fuel (1 + units e.values) Aside (Tried (free + 2) (Passed e) (passes e.values)) (flow_by (passes e.values) (where_true nothing)) try t)
      (rest_feeds : (e : Row) (done left : List Row) (t : LowState) → chains (slot values) ≡ done ++ e ∷ left → Keeps Old sink.Spared s t → is_same_row values (take fields e.values) ≡ true → passes e.values ≡ Ok true → Passed e t →
      FeedsTo sink most fuel (1 + units e.values) Old' Any (feed e.values) rest t)
      (clear_ends : (t : LowState) → stands_alone fields passes values (values_of (chains (slot values))) ≡ true → Keeps Old sink.Spared s t →
      Ends (size clear * (1 + lone_units)) (λ u. Kept (free + 8) t u × Cleared u) Never (λ code. ⊥) (meaning most fuel clear t))
      (lone_feeds : (t : LowState) → stands_alone fields passes values (values_of (chains (slot values))) ≡ true → Keeps Old sink.Spared s t → Cleared t → FeedsTo sink most fuel (1 + lone_units) Old' Any lone rest t) where
    abbrev x : ℕ
    x = free + 7

    abbrev same : List Val → Bool
    same entry = is_same_row values (take fields entry)

    abbrev es : List Row
    es = chains (slot values)

    abbrev pub alone : Bool
    alone = stands_alone fields passes values (values_of es)

    abbrev spent : ℕ
    spent = spend (λ (e : Row). units e.values) es

    abbrev pub whole : Flow (List Val)
    whole = flow_over (where_equal fields inner values) es

    abbrev meets : Row → Bool
    meets e = same e.values && pass_or_raise (passes e.values)

    keeps_of : (t : LowState) → Kept free s t → Keeps Old sink.Spared s t
    keeps_of t kept = Keeps-kept Old sink.Spared free s t old_low kept

    held_at : (t : LowState) → Keeps Old sink.Spared s t → AreHeld key values t
    held_at t keeps = supplied_held Text t (λ p at octets text. (stands t keeps p at octets text).0) key values (all-same Text (Among free) s.locals t.locals (λ i among. keeps.locals i (among_old i among)) (sources_of key) values uses supplied)

    table_at : (t : LowState) → Keeps Old sink.Spared s t → IsTable Entry (keyed fields) size_of_entry k o front chains entries t.cells t.own
    table_at t keeps = table-spared Entry size_of_entry (omega arith) (entry_same Text cells fields) (keyed fields) k o Old sink.Spared front chains entries s t spared keeps table

    -- those that are walked: none where the key has a null
    abbrev walked : Bool → List Row
    walked b = if b then es else []

    -- ---- the front
    module _ (directory : ℕ) (find : Statement) (finds : FindsSlot (map sure key) (free + 3) find) (more : ℕ) (low : directory < free) (d_is : slice_get s.locals directory ≡ Some (Address (Own k) o)) (enough : 1 + text_octets values ≤ more) (most_turns : more ≤ fuel)
        (room : free + 17 ≤ length s.locals) where
      abbrev Begun : LowState → Type 0
      Begun t = Kept free s t × (slice_get t.locals x ≡ Some (newest (walked (have_values values))))

      abbrev s1 : LowState
      s1 = record s { locals = slice_set s.locals x (Number 0) }

      kept_1 : Kept free s s1
      kept_1 = Kept-less free x s s1 (omega arith) (Kept-one s x (Number 0))

      abbrev leads : Statement
      leads = load x (loads.Full I32) 0 (slot_at directory (free + 6))

      led : have_values values ≡ true → (t : LowState) → Kept (free + 3) s1 t → slice_get t.locals (free + 6) ≡ Some (Number (4 * slot values)) → Ends (size leads * more) Begun Never (λ code. ⊥) (meaning most fuel leads t)
      led have t kept h_is =
          let kept_t : Kept free s t = Kept-then free (free + 3) s s1 t (omega arith) kept_1 kept in
          let table_t = table_at t (keeps_of t kept_t) in
          let j : ℕ = slot values in
          let j_low : j < 1024 = slot-low values in
          let head : Value = newest es in
          let inside = table_t.directory.inside in
          let sized : slice_get t.own k ≡ Some page = table_t.directory.sized in
          let d_t : slice_get t.locals directory ≡ Some (Address (Own k) o) = kept_t.below directory low ∙ d_is in
          let slot_is : value t (slot_at directory (free + 6)) ≡ Some (Address (Own k) (o + 4 * j)) = rw (d_t, h_is, sized, le-leb (o + 4 * j) page (omega (arith, inside, j_low))) refl in
          let room_t : x < length t.locals = omega (arith, room, kept_t.many) in
          Ends-more Begun Never (λ code. ⊥) 5 (5 * more) (meaning most fuel leads t) (at_least 5 more (omega (arith, enough)))
          (load_ends Begun Never (λ code. ⊥) most fuel t x (loads.Full I32) 0 (slot_at directory (free + 6)) (Own k) (o + 4 * j) (o + 4 * j) head head slot_is (omega arith) (table_t.directory.slots j j_low) (newest-loaded es) room_t
          (Kept-set free s t x head kept_t (omega arith), slice_get-set_same t.locals x head room_t ∙ ap (λ (b : Bool). Some (newest (walked b))) (sym have)))

      front_ends : Ends (size (outer_front directory key (free + 6) x find) * more) Begun Never (λ code. ⊥) (meaning most fuel (outer_front directory key (free + 6) x find) s)
      front_ends =
          let room_x : x < length s.locals = omega (arith, room) in
          let one = length-set s.locals x (Number 0) in
          let some : 1 ≤ more = omega (arith, enough) in
          let body : Statement = seq find leads in
          let held : AreHeld key values s1 = held_at s1 (keeps_of s1 kept_1) in
          in_turn most fuel more some (λ t. t ≡ s1) Begun (assign x (i32 0)) (guarded key body) s
          (sets most fuel more some (λ t. t ≡ s1) x (i32 0) (Number 0) s refl room_x refl)
          (λ t t_is. subst (λ (q : LowState). Ends (size (guarded key body) * more) Begun Never (λ code. ⊥) (meaning most fuel (guarded key body) q)) (sym t_is)
          (guarded_ends most fuel more some Begun key values body s1 held
          (λ have. in_turn most fuel more some (λ u. Kept (free + 3) s1 u × (slice_get u.locals (free + 6) ≡ Some (Number (4 * slot values)))) Begun find leads s1
          (Ends-weaker (size find * more) (size find * more) (λ u. Kept (free + 3) s1 u × (slice_get u.locals (free + 3 + 3) ≡ Some (Number (4 * slot values)))) (λ u. Kept (free + 3) s1 u × (slice_get u.locals (free + 6) ≡ Some (Number (4 * slot values))))
          Never Never (λ code. ⊥) (λ code. ⊥) (meaning most fuel find s1) (omega arith) (λ u done. (done.0, subst (λ (i : ℕ). slice_get u.locals i ≡ Some (Number (4 * slot values))) (omega arith) done.1)) (λ u y. y) (λ code y. y)
          (finds.runs most fuel more s1 values enough most_turns (sure_held key values s1 have held) (omega (arith, room, one))))
          (λ u done. led have u done.0 done.1))
          (λ have. (kept_1, slice_get-set_same s.locals x (Number 0) room_x ∙ ap (λ (b : Bool). Some (newest (walked b))) (sym have)))))

    -- ---- the walk
    module _ (test : Statement) (tests : TestsKey (map sure key) (free + 7) (free + 8) test) (room : free + 17 ≤ length s.locals) where
      abbrev told : Test
      told = record { out = local (free + 8); block = test }

      -- an entry is tested
      tested : have_values values ≡ true → (e : Row) (done left : List Row) (t : LowState) → es ≡ done ++ e ∷ left → slice_get t.locals x ≡ Some (address e) → Keeps Old sink.Spared s t → Entry t.cells e.part e.offset e.values →
          Ends (size test * (1 + units e.values)) (λ u. Kept (x + 1) t u × (value u (local (free + 8)) ≡ Some (Number (truth (same e.values))))) Never (λ code. ⊥) (meaning most fuel test t)
      tested have e done left t split x_is keeps has =
          let all = spend_has (λ (d : Row). units d.values) done e left in
          let within : units e.values ≤ spent = subst (λ (l : List Row). units e.values ≤ spend (λ (d : Row). units d.values) l) (sym split) all in
          Ends-weaker (size test * (1 + units e.values)) (size test * (1 + units e.values)) (λ u. Kept (free + 8) t u × (slice_get u.locals (free + 8) ≡ Some (Number (truth (same e.values)))))
          (λ u. Kept (x + 1) t u × (value u (local (free + 8)) ≡ Some (Number (truth (same e.values))))) Never Never (λ code. ⊥) (λ code. ⊥) (meaning most fuel test t) (omega arith)
          (λ u done'. (Kept-less (x + 1) (free + 8) t u (omega arith) done'.0, done'.1)) (λ u y. y) (λ code y. y)
          (tests.runs most fuel (1 + units e.values) t e.part e.offset values (take fields e.values) (let least = known e.values in omega (arith, least)) (omega (arith, within, turns)) (sure_held key values t have (held_at t keeps))
          (alike_taken key later e.values (subst (λ (ks : List (Option Kind)). AreOfKinds ks e.values) kinds_are has.0.0) has.1) x_is
          (cells_taken Text (Stands t) t.cells e.part (e.offset + 24) fields e.values (stands t keeps) has.0.1) (omega (arith, room, keeps.many)))

      abbrev walk : Statement
      walk = outer_walk free (free + 1) (free + 2) x told try clear rest

      alone_is : (b : Bool) → have_values values ≡ b → list_any meets (walked b) ≡ not alone
      alone_is true have =
          let any : Bool = list_any (is_met fields passes values) (values_of es) in
          sym (any_values (is_met fields passes values) es) ∙ (sym (not-not any) ∙ ap (λ (b : Bool). not (not (b && any))) (sym have))
      alone_is false have = let any : Bool = list_any (is_met fields passes values) (values_of es) in ap (λ (b : Bool). not (not (b && any))) (sym have)

      clears : (t : LowState) → alone ≡ true → Keeps Old sink.Spared s t → Ends (size clear * (1 + lone_units)) (λ u. Kept (x + 1) t u × Cleared u) Never (λ code. ⊥) (meaning most fuel clear t)
      clears t is keeps = Ends-weaker (size clear * (1 + lone_units)) (size clear * (1 + lone_units)) (λ u. Kept (free + 8) t u × Cleared u) (λ u. Kept (x + 1) t u × Cleared u) Never Never (λ code. ⊥) (λ code. ⊥) (meaning most fuel clear t) (omega arith)
          (λ u done. (Kept-less (x + 1) (free + 8) t u (omega arith) done.0, done.1)) (λ u y. y) (λ code y. y) (clear_ends t is keeps)

      walks : (b : Bool) → have_values values ≡ b → (t : LowState) → Kept free s t → slice_get t.locals x ≡ Some (newest (walked b)) → (more : ℕ) → 2 + (spent + (if alone then lone_units else 0)) ≤ more → FeedsTo sink most fuel more Old Any (or_alone alone lone whole values) walk t
      walks true have t kept x_is more enough =
          let any_is = alone_is true have in
          let any : Bool = list_any meets es in
          let table_t = table_at t (keeps_of t kept) in
          let N : ℕ = 2 + (spent + (if any then 0 else lone_units)) in
          let units_are : (if any then 0 else lone_units) ≡ (if alone then lone_units else 0) = turned alone any any_is 0 lone_units in
          let flow_is : (if any then whole else lone) ≡ or_alone alone lone whole values = turned alone any any_is whole lone ∙ ap (λ (b : Bool). if alone then lone else (if b then whole else nothing)) (sym have) in
          let long = many_spent (λ (e : Row). units e.values) es in
          subst (λ (f : Flow (List Val)). FeedsTo sink most fuel more Old Any f walk t) flow_is
          (feeds_more sink most fuel N more Old Any (if any then whole else lone) walk t (omega (arith, enough, units_are))
          (walk_feeds Entry size_of_entry (omega arith) (entry_same Text cells fields) sink most fuel free x (omega arith) Old Old' Aside old_low old_in own_in aside_in has_kept told try clear rest same passes feed units lone lone_units
          (pos k (o + 4096)) front (λ at width from to. spared at width (omega (arith, from)) to) s es Passed Cleared
          (λ e done left u split leads room_u keeps has. tested have e done left u split leads keeps has) try_feeds rest_feeds (λ u none keeps. clears u (is_true alone any any_is none) keeps) (λ u none keeps cleared. lone_feeds u (is_true alone any any_is none) keeps cleared)
          t (omega (arith, long, turns)) x_is (omega (arith, room, kept.many)) (keeps_of t kept) (table_t.linked (slot values) (slot-low values))))
      walks false have t kept x_is more enough =
          let any_is = alone_is false have in
          let alone_now : alone ≡ true = is_true alone false any_is refl in
          let units_are : lone_units ≡ (if alone then lone_units else 0) = ap (λ (b : Bool). if b then lone_units else 0) (sym alone_now) in
          subst (λ (f : Flow (List Val)). FeedsTo sink most fuel more Old Any f walk t) (ap (λ (b : Bool). or_alone b lone whole values) (sym alone_now))
          (feeds_more sink most fuel (2 + (0 + lone_units)) more Old Any lone walk t (omega (arith, enough, units_are))
          (walk_feeds Entry size_of_entry (omega arith) (entry_same Text cells fields) sink most fuel free x (omega arith) Old Old' Aside old_low old_in own_in aside_in has_kept told try clear rest same passes feed units lone lone_units
          (pos k (o + 4096)) front (λ at width from to. spared at width (omega (arith, from)) to) s [] Passed Cleared
          (λ e done left u split leads room_u keeps has. absurd (none_split done e left split)) (λ e done left u split leads g_is keeps has is. absurd (none_split done e left split)) (λ e done left u split keeps is passed ready. absurd (none_split done e left split))
          (λ u none keeps. clears u alone_now keeps) (λ u none keeps cleared. lone_feeds u alone_now keeps cleared)
          t (omega (arith, turns)) x_is (omega (arith, room, kept.many)) (keeps_of t kept) tt))

    -- Of a row each entry that it meets feeds, or the row alone.
    pub outer_feeds : (directory : ℕ) (a : Statement) → OuterProbes directory key free try clear rest a → (more : ℕ) → directory < free → slice_get s.locals directory ≡ Some (Address (Own k) o) →
        2 + (text_octets values + spend (λ (e : Row). units e.values) (chains (slot values)) + (if alone then lone_units else 0)) ≤ more → more ≤ fuel → free + 17 ≤ length s.locals → FeedsTo sink most fuel more Old Any (or_alone alone lone whole values) a s
    outer_feeds directory a probes more low d_is enough most_turns room =
        subst (λ (b : Statement). FeedsTo sink most fuel more Old Any (or_alone alone lone whole values) b s) (sym probes.is)
        (own_then sink most fuel free Old old_low has_kept more free (λ t. slice_get t.locals x ≡ Some (newest (walked (have_values values)))) Any (or_alone alone lone whole values) (outer_front directory key (free + 6) x probes.find) (walk probes.test probes.tests room) s (omega arith)
        (front_ends directory probes.find probes.finds more low d_is (omega (arith, enough)) most_turns room)
        (λ t kept x_is. walks probes.test probes.tests room (have_values values) refl t kept x_is more (omega (arith, enough))))
