-- What a probe feeds, whatever is done with the entries that it meets.
use Rattle.std.proofs.Common.{◌≡◌, ℕ, zero, suc, ◌+◌, ◌*◌, ◌<◌, ◌≤◌, Bool, true, Option, Some, None, List, [], ◌∷◌, ◌++◌, length, map, take, slice_get, sym, ◌∙◌, subst, arith}
use Rattle.qw_types.specs.ValueOrder.{is_same_row}
use Rattle.qw_types.specs.declared.kind.Kind.{Kind}
use Rattle.qw_types.specs.declared.value.Val.{Val}
use Rattle.qw_types.specs.declared.value.Val.TheVariants as val
use Rattle.qw_layout.specs.Hash.{slot}
use Rattle.qw_meaning.specs.Flow.{Flow}
use Rattle.qw_module.specs.Numbers.{truth}
use Rattle.qw_low.specs.declared.cell.Cell.{Cell}
use Rattle.qw_low.specs.Syntax.{Statement, local, seq}
use Rattle.qw_low.specs.State.{Part, Own, Number, Address, Cells, LowState}
use Rattle.qw_low.specs.Meaning.{value, meaning}
use Rattle.qw_low.specs.Size.{size}
use Rattle.qw_low.specs.Promise.{Ends}
use Rattle.qw_low.specs.Raising.{Kept}
use Rattle.qw_low.specs.Held.{LiesAt, SaysNull, SaysValue}
use Rattle.qw_low.proofs.Promises.{Ends-weaker}
use Rattle.qw_feed.specs.Cells.{HasCell, HasCells, AreOfKinds, Says, Lacks, Supplies, AllSupply, AllUse, kinds_of}
use Rattle.qw_feed.specs.Feeds.{flow_over, spend, Any, Sink, FeedsTo}
use Rattle.qw_feed.specs.Frames.{pos, Keeps}
use Rattle.qw_feed.specs.Rows.{Row, address}
use Rattle.qw_feed.specs.Stages.{Among, Test}
use Rattle.qw_feed.proofs.FeedRules.{feeds_more, own_then}
use Rattle.qw_feed.proofs.Frames.{Never, Keeps-same, Keeps-then, Keeps-kept, Kept-less}
use Rattle.qw_feed.proofs.StageRuns.{all-same}
use Rattle.qw_table.specs.Entries.{HoldsValue, Stands}
use Rattle.qw_table.specs.Keys.{AreHeld, AreAlike, text_octets, TestsKey}
use Rattle.qw_table.specs.Joins.{have_values, sure, sources_of, keyed, Probes, where_values, where_equal}
use Rattle.qw_table.specs.Tables.{IsTable, probe_block}
use Rattle.qw_table.specs.declared.key.Field.{Field}
use Rattle.qw_table.proofs.Chains.{table-spared}
use Rattle.qw_table.proofs.JoinFeeds.{sure_held, guarded_feeds, slot-low, kinds, Has, wide, entry_same}
use Rattle.qw_table.proofs.ProbeRuns.{probe_feeds}

-- ---- what locals supply, they hold, where texts lie
says-value : (s : LowState) (null : Option ℕ) → Says s.locals 0 null → SaysValue s null
says-value s None h = h
says-value s (Some n) h = h

says-null : (s : LowState) (null : Option ℕ) → Lacks s.locals null → SaysNull s null
says-null s None h = h
says-null s (Some n) h = h

module _ (Text : Part → ℕ → List ℕ → Type 0) (s : LowState) (lies : (p : Part) (o : ℕ) (octets : List ℕ) → Text p o octets → LiesAt s p o octets) where
  supplied_holds : (c : Cell) (v : Val) → Supplies Text s.locals c v → HoldsValue c v s
  supplied_holds c val.Null h = says-null s c.null h
  supplied_holds c (val.Num z) h = (h.0, h.1, says-value s c.null h.2)
  supplied_holds c (val.Date z) h = (h.0, says-value s c.null h.1)
  supplied_holds c (val.Text t) h = (record { part = h.0; offset = h.1; is_at = h.2; is_long = h.3; short = h.4; lies = lies h.0 h.1 t h.5 }, says-value s c.null h.6)

  pub supplied_held : (fs : List Field) (vs : List Val) → AllSupply Text s.locals (sources_of fs) vs → AreHeld fs vs s
  supplied_held [] [] h = tt
  supplied_held [] (v ∷ vs) h = absurd h
  supplied_held (f ∷ fs) [] h = absurd h
  supplied_held (f ∷ fs) (v ∷ vs) h = ((supplied_holds f.cell v h.0.0, h.0.1), supplied_held fs vs h.1)

-- ---- the key of an entry
pub cell_map : (Text Text' : Part → ℕ → List ℕ → Type 0) (c : Cells) (k at : ℕ) (v : Val) → ((p : Part) (o : ℕ) (octets : List ℕ) → Text p o octets → Text' p o octets) → HasCell Text c k at v → HasCell Text' c k at v
cell_map Text Text' c k at val.Null also h = h
cell_map Text Text' c k at (val.Num z) also h = h
cell_map Text Text' c k at (val.Date z) also h = h
cell_map Text Text' c k at (val.Text t) also h = (h.0, h.1, h.2, h.3, also h.0 h.1 t h.4, h.5)

pub cells_taken : (Text Text' : Part → ℕ → List ℕ → Type 0) (c : Cells) (k at n : ℕ) (vs : List Val) → ((p : Part) (o : ℕ) (octets : List ℕ) → Text p o octets → Text' p o octets) → HasCells Text c k at vs → HasCells Text' c k at (take n vs)
cells_taken Text Text' c k at zero vs also h = tt
cells_taken Text Text' c k at (suc n) [] also h = tt
cells_taken Text Text' c k at (suc n) (v ∷ vs) also h = (cell_map Text Text' c k at v also h.0, cells_taken Text Text' c k (at + 16) n vs also h.1)

pub alike_taken : (key : List Field) (later : List (Option Kind)) (values : List Val) → AreOfKinds (kinds_of (sources_of key) ++ later) values → have_values (take (length key) values) ≡ true → AreAlike (map sure key) (take (length key) values)
alike_taken [] later values of have = tt
alike_taken (f ∷ fs) later [] of have = absurd of
alike_taken (f ∷ fs) later (val.Null ∷ vs) of have = absurd cc
alike_taken (f ∷ fs) later (val.Num z ∷ vs) of have = ((of.0, tt), alike_taken fs later vs of.1 have)
alike_taken (f ∷ fs) later (val.Date z ∷ vs) of have = ((of.0, tt), alike_taken fs later vs of.1 have)
alike_taken (f ∷ fs) later (val.Text t ∷ vs) of have = ((of.0, tt), alike_taken fs later vs of.1 have)

module _ (Text : Part → ℕ → List ℕ → Type 0) (cells : List Field) (key : List Field) (later : List (Option Kind)) (kinds_are : kinds Text cells (length key) ≡ kinds_of (sources_of key) ++ later)
    (sink : Sink) (most fuel free : ℕ) (Old Old' : ℕ → Type 0) (among_old : (i : ℕ) → Among free i → Old i) (old_low : (i : ℕ) → Old i → i < free) (old_in : (i : ℕ) → Old i → Old' i) (x_in : Old' (free + 4))
    (has_kept : (rows : List (List Val)) (s t : LowState) → Kept free s t → sink.Has rows s → sink.Has rows t) (found : Statement) (inner : List Val → Flow (List Val)) (units : List Val → ℕ) (turns : (values : List Val) → 1 + units values ≤ fuel) where
  abbrev fields : ℕ
  fields = length key

  abbrev Entry : Cells → ℕ → ℕ → List Val → Type 0
  Entry = Has Text cells fields

  abbrev size_of_entry : ℕ
  size_of_entry = wide Text cells fields

  module _ (k o front : ℕ) (chains : ℕ → List Row) (entries : List (List Val)) (values : List Val) (s : LowState) (spared : (at width : ℕ) → pos k o ≤ at → at + width ≤ front → sink.Spared at width)
      (stands : (t : LowState) → Keeps Old sink.Spared s t → (p : Part) (at : ℕ) (octets : List ℕ) → Text p at octets → Stands t p at octets)
      (known : (entry : List Val) → text_octets values ≤ units entry) (uses : AllUse (Among free) (sources_of key)) (supplied : AllSupply Text s.locals (sources_of key) values) (table : IsTable Entry (keyed fields) size_of_entry k o front chains entries s.cells s.own)
      (met : (e : Row) (t : LowState) → slice_get t.locals (free + 4) ≡ Some (address e) → Keeps Old sink.Spared s t → Entry t.cells e.part e.offset e.values → is_same_row values (take fields e.values) ≡ true → FeedsTo sink most fuel (1 + units e.values) Old' Any (inner e.values) found t) where
    abbrev x : ℕ
    x = free + 4

    abbrev same : List Val → Bool
    same entry = is_same_row values (take fields entry)

    abbrev es : List Row
    es = chains (slot values)

    abbrev N : ℕ
    N = 1 + spend (λ (e : Row). units e.values) es

    abbrev whole : Flow (List Val)
    whole = flow_over (where_equal fields inner values) es

    keeps_of : (t : LowState) → Kept free s t → Keeps Old sink.Spared s t
    keeps_of t kept = Keeps-kept Old sink.Spared free s t old_low kept

    held_at : (t : LowState) → Keeps Old sink.Spared s t → AreHeld key values t
    held_at t keeps = supplied_held Text t (λ p at octets text. (stands t keeps p at octets text).0) key values (all-same Text (Among free) s.locals t.locals (λ i among. keeps.locals i (among_old i among)) (sources_of key) values uses supplied)

    module _ (have : have_values values ≡ true) (test : Statement) (tests : TestsKey (map sure key) (free + 4) (free + 5) test) (t0 : LowState) (kept0 : Kept free s t0) (room : free + 14 ≤ length s.locals) where
      abbrev told : Test
      told = record { out = local (free + 5); block = test }

      -- an entry is tested
      tested : (e : Row) (t : LowState) → slice_get t.locals x ≡ Some (address e) → Keeps Old sink.Spared s t → Entry t.cells e.part e.offset e.values →
          Ends (size test * (1 + units e.values)) (λ u. Kept (x + 1) t u × (value u (local (free + 5)) ≡ Some (Number (truth (same e.values)))) × Unit {0}) Never (λ code. ⊥) (meaning most fuel test t)
      tested e t x_is keeps has =
          Ends-weaker (size test * (1 + units e.values)) (size test * (1 + units e.values)) (λ u. Kept (free + 5) t u × (slice_get u.locals (free + 5) ≡ Some (Number (truth (same e.values)))))
          (λ u. Kept (x + 1) t u × (value u (local (free + 5)) ≡ Some (Number (truth (same e.values)))) × Unit {0}) Never Never (λ code. ⊥) (λ code. ⊥) (meaning most fuel test t) (omega arith)
          (λ u done. (Kept-less (x + 1) (free + 5) t u (omega arith) done.0, done.1, tt)) (λ u y. y) (λ code y. y)
          (tests.runs most fuel (1 + units e.values) t e.part e.offset values (take fields e.values) (let all = known e.values in omega (arith, all)) (turns e.values) (sure_held key values t have (held_at t keeps))
          (alike_taken key later e.values (subst (λ (ks : List (Option Kind)). AreOfKinds ks e.values) kinds_are has.0.0) has.1) x_is
          (cells_taken Text (Stands t) t.cells e.part (e.offset + 24) fields e.values (stands t keeps) has.0.1) (omega (arith, room, keeps.many)))

      keeps_0 : Keeps Old sink.Spared s t0
      keeps_0 = keeps_of t0 kept0

      table_0 : IsTable Entry (keyed fields) size_of_entry k o front chains entries t0.cells t0.own
      table_0 = table-spared Entry size_of_entry (omega arith) (entry_same Text cells fields) (keyed fields) k o Old sink.Spared front chains entries s t0 spared keeps_0 table

      probing : (d : ℕ) → slice_get t0.locals d ≡ Some (Address (Own k) o) → slice_get t0.locals (free + 3) ≡ Some (Number (4 * slot values)) → length es < fuel → FeedsTo sink most fuel N Old Any whole (probe_block d (free + 3) x told found) t0
      probing d d_is h_is more = probe_feeds Entry size_of_entry (omega arith) (entry_same Text cells fields) sink most fuel x Old Old' (λ i old. let low = old_low i old in omega (arith, low)) old_in x_in
          (λ rows t u kept. has_kept rows t u (Kept-less free x t u (omega arith) kept)) told found same inner units (pos k (o + 4096)) front (λ at width from to. spared at width (omega (arith, from)) to) t0 (λ left t. Unit {0}) (λ left t u kept also. also) (λ e left t isnt also. also)
          (λ e t. Unit {0}) (λ e t at. tested e t at.x_is (Keeps-then Old sink.Spared s t0 t keeps_0 at.keeps) at.has) (λ e left t at it is also. met e t at.x_is (Keeps-then Old sink.Spared s t0 t keeps_0 at.keeps) at.has is)
          k o (slot values) d (free + 3) es table_0.directory.sized table_0.directory.inside (table_0.directory.slots (slot values) (slot-low values)) (table_0.linked (slot values) (slot-low values)) (slot-low values) d_is h_is (omega (arith, room, kept0.many)) more tt

    -- Of a row whose key has no null, each entry with an equal key feeds.
    pub probes_feed : (directory : ℕ) (a : Statement) → Probes directory key free found a → (more : ℕ) → directory < free → slice_get s.locals directory ≡ Some (Address (Own k) o) → 1 + text_octets values ≤ more → N ≤ more → more ≤ fuel → length es < fuel →
        free + 14 ≤ length s.locals → FeedsTo sink most fuel more Old Any (where_values whole values) a s
    probes_feed directory a probes more low d_is row_units all_units most_turns chain_turns room =
        let probe : Statement = probe_block directory (free + 3) x (record { out = local (free + 5); block = probes.test }) found in
        let held : AreHeld key values s = held_at s (Keeps-same Old sink.Spared s) in
        subst (λ (b : Statement). FeedsTo sink most fuel more Old Any (where_values whole values) b s) (sym probes.is)
        (guarded_feeds sink most fuel more (omega (arith, row_units)) Old key values whole (seq probes.find probe) s held
        (λ have. own_then sink most fuel free Old old_low has_kept more free (λ t. slice_get t.locals (free + 3) ≡ Some (Number (4 * slot values))) Any whole probes.find probe s (omega arith)
        (probes.finds.runs most fuel more s values row_units most_turns (sure_held key values s have held) (omega (arith, room)))
        (λ t kept is. feeds_more sink most fuel N more Old Any whole probe t all_units
        (probing have probes.test probes.tests t kept room directory (kept.below directory low ∙ d_is) is chain_turns))))
