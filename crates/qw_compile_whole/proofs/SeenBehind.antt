-- What is seen behind something that stands between two places behind the tables of joins, as a table of groups does, or the areas of set functions: what was
-- seen, and that. The tables of joins stand there still, and the table of groups.
use Rattle.std.proofs.Common.{◌≡◌, ℕ, ◌+◌, ◌*◌, ◌<◌, ◌≤◌, inr, Some, List, length, slice_get, refl, sym, ◌∙◌, arith}
use Rattle.std.proofs.lemmas.Option.{slice_get_within}
use Rattle.qw_linear.specs.Memory.{page}
use Rattle.qw_module.specs.declared.instruction.ValType.{ValType}
use Rattle.qw_types.specs.declared.value.Val.{Val}
use Rattle.qw_layout.specs.Row.{entry_size}
use Rattle.qw_low.specs.State.{Part, Column, Own, Value, Cells, LowState}
use Rattle.qw_low.proofs.LessKnown.{IsLess, seen}
use Rattle.qw_feed.specs.Frames.{pos, Before, Keeps}
use Rattle.qw_feed.proofs.Frames.{Keeps-less, Keeps-then}
use Rattle.qw_table.specs.declared.key.Field.{Field}
use Rattle.qw_table.proofs.Chains.{Linked-same}
use Rattle.qw_group.specs.Groups.{HasGroup, group_size}
use Rattle.qw_group.specs.declared.group.Aggregate.{Aggregate}
use Rattle.qw_group.proofs.GroupFeeds.{group_same}
use Rattle.qw_group.proofs.PlaceRuns.{Linked-map}
use Rattle.qw_group.proofs.WalkRuns.{StandGroups}
use Rattle.qw_expr.specs.Computes.{Known, AreHeld}
use Rattle.qw_physical.specs.declared.pipeline.ReadColumn.{ReadColumn}
use Rattle.qw_operator.specs.Carries.{directory}
use Rattle.qw_operator.proofs.Seen.{StandsIn, held_more, longer_keeps, stands_later}
use Rattle.qw_operator.proofs.Stood.{AllStand, EntryOf, Stood, cells_map, stood_keeps}
use Rattle.qw_compile.proofs.PipelineRuns.{Grounds, Steady, less_known}
use Rattle.qw_compile_whole.proofs.Widened.{less_widened, seen_where, stands_widened, table_seen, widened, widened_less}

-- ---- tables of joins stand where more is seen
module _ (from to : ℕ) (d c : Cells) (less : IsLess c d) where
  entry_widened : (s : LowState) (cells : List Field) (fields : ℕ) (x : Cells) (k o : ℕ) (vs : List Val) → EntryOf c s cells fields x k o vs → EntryOf (widened from to d c) s cells fields x k o vs
  entry_widened s cells fields x k o vs h = ((h.0.0, cells_map (StandsIn c s) (StandsIn (widened from to d c) s) x k (o + 24) vs (λ p at octets. stands_widened from to d c less s p at octets) h.0.1), h.1)

  pub all_widened : (stoods : List Stood) (s : LowState) → AllStand c stoods s → AllStand (widened from to d c) stoods s
  all_widened stoods s stand i st there = let old = stand i st there in record {
    at = old.at;
    table = record {
      directory = old.table.directory;
      linked = λ j low.
          Linked-map (EntryOf c s st.cells st.fields) (EntryOf (widened from to d c) s st.cells st.fields) (entry_size 0 (length st.cells) 0) s.cells s.cells (pos st.part (st.offset + 4096)) st.front (st.chains j)
          (λ e there'. (refl, λ h. entry_widened s st.cells st.fields s.cells e.part e.offset e.values h)) (old.table.linked j low);
      same = old.table.same;
    };
  }

-- ---- a table of groups stands where its octets and its local do
pub groups_keep : (Text : Part → ℕ → List ℕ → Type 0) (key : List Field) (aggregates : List Aggregate) (k o d front : ℕ) (rows : List (List Val)) (Old : ℕ → Type 0) (Spared : (at width : ℕ) → Type 0) (s t : LowState) → Old d → ((at width : ℕ) → pos k o ≤ at → at + width ≤ front → Spared at width) → pos k o + 4096 ≤ front → Keeps Old Spared s t →
    StandGroups (length key) (HasGroup Text key aggregates) (group_size key aggregates) k o d front rows s → StandGroups (length key) (HasGroup Text key aggregates) (group_size key aggregates) k o d front rows t
groups_keep Text key aggregates k o d front rows Old Spared s t old spared room keeps h = record {
  at = keeps.locals d old ∙ h.at;
  chains = h.chains;
  directory = record {
    sized = keeps.own k page h.directory.sized;
    inside = h.directory.inside;
    behind = h.directory.behind;
    slots = λ j j_low. keeps.cells k (o + 4 * j) 4 (spared (pos k (o + 4 * j)) 4 (omega arith) (omega (arith, j_low, room))) ∙ h.directory.slots j j_low;
  };
  linked = λ j j_low.
      Linked-same (HasGroup Text key aggregates rows) (group_size key aggregates) (omega arith) (group_same Text key aggregates rows) s.cells t.cells (pos k (o + 4096)) front (h.chains j) (λ i a b low high. keeps.cells i a b (spared (pos i a) b (omega (arith, low)) high)) (h.linked j j_low);
  same = h.same;
}

-- ---- what is seen in a later state
pub record Sees (c more : Cells) (literals : List Known) (many from to : ℕ) (s t : LowState) : Type 0 where
  pub less : IsLess more t.cells
  pub long : many ≤ length t.locals
  pub also : (p : Part) (i : ℕ) (octets : List ℕ) → StandsIn c s p i octets → StandsIn more t p i octets
  pub held : (row : List Val) → AreHeld literals row (seen more t)
  pub there : (k at width : ℕ) → 2 ≤ width → from ≤ pos k at → pos k at + width ≤ to → more (Own k) at width ≡ t.cells (Own k) at width

-- tables that stand one behind another before a place, and behind another
abbrev pub StandBetween : (base front : ℕ) → List Stood → Type 0
StandBetween base front stoods = (i : ℕ) (st : Stood) → slice_get stoods i ≡ Some st → (base ≤ pos st.part st.offset) × (st.front ≤ front)

-- locals that stay, and those of the tables among them
pub record LocalsStay (T n : ℕ) (stoods : List Stood) (Old : ℕ → Type 0) : Type 0 where
  pub steady : (i : ℕ) → Steady T n i → Old i
  pub tables : (i : ℕ) → i < length stoods → Old (directory i)

module _ (T n : ℕ) (columns : List ReadColumn) (literals : List Known) (contents : List (List (List Val))) (c : Cells) (base u most fuel N many : ℕ) (types : List ValType) (s0 : LowState) (grounds : Grounds T n columns literals c base u fuel N many types s0)
    (s : LowState) (keeps : Keeps (Steady T n) (Before base) s0 s) (from to front : ℕ) (to_before : to ≤ front) (behind : base ≤ front) where
  abbrev around : Cells
  around = widened from to s.cells c

  less : IsLess c s.cells
  less = less_known T n columns literals contents c base u most fuel N many types s0 grounds s keeps

  pub around_where : (P : ℕ → ℕ → Type 0) → ((at width : ℕ) → from ≤ at → at + width ≤ to → P at width) → ((at width : ℕ) → 12 ≤ at → at + width ≤ base → P at width) → (k a b : ℕ) (v : Value) → around (Own k) a b ≡ Some v → P (pos k a) b
  around_where P table others = seen_where from to s.cells c P (λ k a b low high. table (pos k a) b low high) (λ k a b v is. let own = (grounds.own_seen k a b v is).0 in others (pos k a) b own.0 own.1)

  pub around_before : (k a b : ℕ) (v : Value) → around (Own k) a b ≡ Some v → pos k a + b ≤ front
  around_before = around_where (λ at width. at + width ≤ front) (λ at width low high. omega (arith, high, to_before)) (λ at width low high. omega (arith, high, behind))

  module _ (stoods : List Stood) (Old : ℕ → Type 0) (stays : LocalsStay T n stoods Old) (t : LowState) (kept : Keeps Old (Before front) s t) where
    pub same_later : Keeps (Steady T n) (Before base) s0 t
    same_later = Keeps-then (Steady T n) (Before base) s0 s t keeps (Keeps-less (Steady T n) (Before base) Old (Before front) s t stays.steady (λ at width low. omega (arith, low, behind)) kept)

    less_later : IsLess around t.cells
    less_later (Column k) a b v is = kept.mapped k a b ∙ widened_less from to s.cells c less (Column k) a b v is
    less_later (Own k) a b v is = kept.cells k a b (around_before k a b v is) ∙ widened_less from to s.cells c less (Own k) a b v is

    pub sees : Sees c around literals many from to s t
    sees = record {
      less = less_later;
      long = let long = grounds.long in omega (arith, long, same_later.many);
      also = λ p i octets there. stands_widened from to s.cells c less t p i octets (stands_later c s t p i octets (longer_keeps Old (Before front) s t kept) there);
      held = λ row. held_more c (seen around t) literals row (less_widened from to s.cells c less) (grounds.held t (λ i low high. same_later.locals i (inr (low, high))) (same_later.own 0 page grounds.first_page) row);
      there = λ k at width two low high. table_seen from to s.cells c k at width two low high ∙ sym (kept.cells k at width (omega (arith, high, to_before)));
    }

    pub stand_later : StandBetween base front stoods → AllStand c stoods s → AllStand around stoods t
    stand_later fronts stand = all_widened from to s.cells c less stoods t
        (λ i st there. stood_keeps c i st Old (Before front) s t (stays.tables i (slice_get_within stoods i st there)) (λ at width low high. (let before = (fronts i st there).1 in omega (arith, high, before))) kept (stand i st there))
