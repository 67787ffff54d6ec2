-- What the blocks of a join feed.
use Rattle.std.proofs.Common.{◌≡◌, ℕ, suc, ◌+◌, ◌*◌, ◌^◌, ◌<◌, ◌≤◌, inl, inr, Bool, true, false, if◌then◌else◌, Option, Some, None, List, [], ◌∷◌, ◌++◌, length, map, take, slice_get, refl, sym, ap, ◌∙◌, subst, ⊎_elim, arith, mod-lt}
use Rattle.qw_linear.specs.Memory.{page}
use Rattle.qw_types.specs.declared.kind.Kind.{Kind}
use Rattle.qw_types.specs.declared.value.Val.{Val}
use Rattle.qw_types.specs.declared.value.Val.TheVariants as val
use Rattle.qw_layout.specs.Hash.{key_hash, slot}
use Rattle.qw_layout.specs.Row.{entry_size}
use Rattle.qw_meaning.specs.Flow.{Flow}
use Rattle.qw_low.specs.Syntax.{Statement, local, skip, seq, conditional}
use Rattle.qw_low.specs.State.{Part, Own, Number, Cells, LowState}
use Rattle.qw_low.specs.Meaning.{meaning}
use Rattle.qw_low.specs.Size.{size}
use Rattle.qw_low.specs.Raising.{Kept}
use Rattle.qw_low.specs.Held.{SaysNull, SaysValue}
use Rattle.qw_low.proofs.Promises.{Ends-weaker}
use Rattle.qw_feed.specs.Cells.{HasCells, AllSupply, AllUse, kinds_of, cells_block}
use Rattle.qw_feed.specs.Feeds.{nothing, one_row, Any, Sink, FeedsTo}
use Rattle.qw_feed.specs.Frames.{pos, Outside, Below, From, But, Stored}
use Rattle.qw_feed.specs.Rows.{Filled, Fills}
use Rattle.qw_feed.specs.Stages.{Among}
use Rattle.qw_feed.proofs.CellFills.{kinds-many, length-kinds, supplied-kinds}
use Rattle.qw_feed.proofs.CellRuns.{cells-same, cells_end}
use Rattle.qw_feed.proofs.FeedRules.{feeds_choose, feeds_skip, feeds_less, own_then}
use Rattle.qw_feed.proofs.Frames.{Never, below-under}
use Rattle.qw_feed.proofs.StageRuns.{all-same}
use Rattle.qw_table.specs.Entries.{HoldsValue}
use Rattle.qw_table.specs.Keys.{AreHeld, text_octets}
use Rattle.qw_table.specs.Joins.{have_values, sure, unless_null, guarded, sources_of, keyed, Builds, HasJoinEntry, where_values}
use Rattle.qw_table.specs.Tables.{table_sink, insert_block}
use Rattle.qw_table.specs.declared.key.Field.{Field}
use Rattle.qw_table.proofs.Chains.{table_kept}
use Rattle.qw_table.proofs.HeldKeys.{null-said}
use Rattle.qw_table.proofs.InsertRuns.{insert_feeds}

-- ---- keys without nulls
pub values-later : (v : Val) (vs : List Val) → (v ≡ val.Null → ⊥) → have_values (v ∷ vs) ≡ have_values vs
values-later val.Null vs some = absurd (some refl)
values-later (val.Num z) vs some = refl
values-later (val.Date z) vs some = refl
values-later (val.Text t) vs some = refl

pub sure_held : (fs : List Field) (vs : List Val) (s : LowState) → have_values vs ≡ true → AreHeld fs vs s → AreHeld (map sure fs) vs s
sure_held [] [] s have h = tt
sure_held [] (v ∷ vs) s have h = absurd h
sure_held (f ∷ fs) [] s have h = absurd h
sure_held (f ∷ fs) (val.Null ∷ vs) s have h = absurd cc
sure_held (f ∷ fs) (val.Num z ∷ vs) s have h = (((h.0.0.0, h.0.0.1, tt), h.0.1), sure_held fs vs s have h.1)
sure_held (f ∷ fs) (val.Date z ∷ vs) s have h = (((h.0.0.0, tt), h.0.1), sure_held fs vs s have h.1)
sure_held (f ∷ fs) (val.Text t ∷ vs) s have h = (((h.0.0.0, tt), h.0.1), sure_held fs vs s have h.1)

-- a block feeds where no field is null, and else there is nothing
module _ (sink : Sink) (most fuel N : ℕ) (some : 1 ≤ N) (Old : ℕ → Type 0) where
  abbrev To : Flow (List Val) → Statement → LowState → Type 0
  To f a s = FeedsTo sink most fuel N Old Any f a s

  one_guarded : (null : Option ℕ) (f : Field) (v : Val) (vs : List Val) (flow : Flow (List Val)) (a : Statement) (s : LowState) → f.cell.null ≡ null → HoldsValue f.cell v s →
      (have_values (v ∷ vs) ≡ have_values vs → To (where_values flow vs) a s) → To (where_values flow (v ∷ vs)) (unless_null null a) s
  one_guarded None f v vs flow a s is held rest = ⊎_elim
      (λ none. absurd (subst (SaysNull s) is none.1))
      (λ there. let same = values-later v vs there.0 in subst (λ (b : Bool). To (if b then flow else nothing) a s) (sym same) (rest same))
      (null-said f.cell v s held)
  one_guarded (Some n) f v vs flow a s is held rest = ⊎_elim
      (λ none. subst (λ (w : Val). To (where_values flow (w ∷ vs)) (conditional (local n) skip a) s) (sym none.0)
      (feeds_choose sink most fuel N Old Any nothing nothing (local n) true skip a s some (subst (SaysNull s) is none.1) (λ yes. feeds_skip sink most fuel N Old Any s tt) (λ isnt. absurd cc)))
      (λ there. let same = values-later v vs there.0 in subst (λ (b : Bool). To (if b then flow else nothing) (conditional (local n) skip a) s) (sym same)
      (feeds_choose sink most fuel N Old Any nothing (where_values flow vs) (local n) false skip a s some (subst (SaysValue s) is there.1) (λ yes. absurd cc) (λ isnt. rest same)))
      (null-said f.cell v s held)

  pub guarded_feeds : (fs : List Field) (vs : List Val) (flow : Flow (List Val)) (a : Statement) (s : LowState) → AreHeld fs vs s → (have_values vs ≡ true → To flow a s) → To (where_values flow vs) (guarded fs a) s
  guarded_feeds [] [] flow a s held rest = rest refl
  guarded_feeds [] (v ∷ vs) flow a s held rest = absurd held
  guarded_feeds (f ∷ fs) [] flow a s held rest = absurd held
  guarded_feeds (f ∷ fs) (v ∷ vs) flow a s held rest =
      one_guarded f.cell.null f v vs flow (guarded fs a) s refl held.0.0 (λ same. guarded_feeds fs vs flow a s held.1 (λ have. rest (same ∙ have)))

-- ---- a row is entered
pub slot-low : (key : List Val) → slot key < 1024
slot-low key = let low : key_hash key < 2 ^ 64 = mod-lt _ (omega arith) in omega (arith, low)

sources-many : (fs : List Field) → length (sources_of fs) ≡ length fs
sources-many [] = refl
sources-many (f ∷ fs) = ap suc (sources-many fs)

module _ (Text : Part → ℕ → List ℕ → Type 0) (cells : List Field) (fields : ℕ) where
  abbrev pub kinds : List (Option Kind)
  kinds = kinds_of (sources_of cells)

  abbrev pub Has : Cells → ℕ → ℕ → List Val → Type 0
  Has = HasJoinEntry Text kinds fields

  abbrev pub wide : ℕ
  wide = entry_size 0 (length cells) 0

  many : length kinds ≡ length cells
  many = length-kinds (sources_of cells) ∙ sources-many cells

  pub entry_same : (c c' : Cells) (k o : ℕ) (values : List Val) → ((a b : ℕ) → o + 8 ≤ a → a + b ≤ o + wide → c' (Own k) a b ≡ c (Own k) a b) → Has c k o values → Has c' k o values
  entry_same c c' k o values same h =
      let count : length values ≡ length cells = kinds-many kinds values h.0.0 ∙ many in
      ((h.0.0, cells-same Text c c' k (o + 24) values (λ a b from to. same a b (omega (arith, from)) (omega (arith, to, count))) h.0.1), h.1)

  pub entry_fill : (base most fuel free : ℕ) (row : List Val) (s : LowState) → AllUse (Among free) (sources_of cells) → AllSupply Text s.locals (sources_of cells) row → have_values (take fields row) ≡ true →
      Fills Has wide base most fuel row (cells_block 24 (sources_of cells)) s
  entry_fill base most fuel free row s uses supplied have t k o keeps at sized fits low zeros =
      let block : Statement = cells_block 24 (sources_of cells) in
      let count : length (sources_of cells) ≡ length cells = sources-many cells in
      Ends-weaker (size block) (size block) (λ u. Stored (Outside (pos k (o + 24)) (pos k (o + 24 + 16 * length (sources_of cells)))) t u × HasCells Text u.cells k (o + 24) row) (Filled Has wide k o row t) Never Never (λ code. ⊥) (λ code. ⊥)
      (meaning most fuel block t) (omega arith)
      (λ u done. (
        record { others = done.0.others; mapped = done.0.mapped; cells = λ j a b apart. done.0.cells j a b (⊎_elim (λ below. inl (omega (arith, below))) (λ above. inr (omega (arith, above, count))) apart) },
        ((supplied-kinds Text s.locals (sources_of cells) row supplied, done.1), have),
      ))
      (λ u x. x) (λ code x. x)
      (cells_end Text (λ code. ⊥) most fuel k o (sources_of cells) row 24 t at sized (omega (arith, fits, count)) (λ a b from to. zeros a b (omega (arith, from)) to)
      (all-same Text (Among free) s.locals t.locals (λ i among. keeps.locals i (inr (omega (arith, among.0)))) (sources_of cells) row uses supplied))

  -- a row whose key has no null is entered into its key's slot
  pub builds_feed : (directory : ℕ) (key : List Field) (free : ℕ) (a : Statement) → Builds directory key cells free a →
      (k o u before most fuel more : ℕ) (May : List (List Val) → Type 0) (beginnings : (rows others : List (List Val)) → May (rows ++ others) → May rows) (values row : List Val) (s : LowState) → 5 ≤ directory → directory < free → wide + u ≤ page →
      ((entries : List (List Val)) → May entries → before + length entries * wide + 2 * u < (most + 1) * u) → 1 + text_octets values ≤ more → more ≤ fuel → AreHeld key values s → take fields row ≡ values →
      AllUse (Among free) (sources_of cells) → AllSupply Text s.locals (sources_of cells) row → free + 5 ≤ length s.locals →
      FeedsTo (table_sink Has (keyed fields) wide k o directory u before May beginnings) most fuel more (Below free) Any (where_values (one_row row) values) a s
  builds_feed directory key free a builds k o u before most fuel more May beginnings values row s high low small enough units turns held key_is uses supplied room =
      let sink : Sink = table_sink Has (keyed fields) wide k o directory u before May beginnings in
      let insert : Statement = insert_block wide directory (free + 3) (free + 4) (cells_block 24 (sources_of cells)) in
      let old_low : (i : ℕ) → Below free i → i < free = λ i old. below-under free free i (omega arith) (omega (arith, low)) old in
      let kept_table : (rows : List (List Val)) (t w : LowState) → Kept free t w → sink.Has rows t → sink.Has rows w = λ rows t w kept has. table_kept Has (keyed fields) wide k o directory u before free rows t w (omega (arith, high, low)) low kept has in
      subst (λ (b : Statement). FeedsTo sink most fuel more (Below free) Any (where_values (one_row row) values) b s) (sym builds.is)
      (guarded_feeds sink most fuel more (omega (arith, units)) (Below free) key values (one_row row) (seq builds.find insert) s held
      (λ have. own_then sink most fuel free (Below free) old_low kept_table more free (λ t. slice_get t.locals (free + 3) ≡ Some (Number (4 * slot values))) Any (one_row row) builds.find insert s (omega arith)
      (builds.finds.runs most fuel more s values units turns (sure_held key values s have held) (omega (arith, room)))
      (λ t kept is.
      feeds_less sink most fuel more (But (free + 4) (From 3)) (Below free) Any (one_row row) insert t (λ i old. ⊎_elim (λ z. (inl z, λ e. omega (arith, z, e))) (λ g. (inr (omega (arith, g.0)), λ e. omega (arith, g.1, e))) old)
      (insert_feeds Has wide (omega arith) entry_same k o directory u (free + 4) (free + 3) (high, omega (arith, low)) (omega (arith, high, low), omega arith) small most fuel (keyed fields) before May beginnings enough more (omega (arith, units))
      row t (cells_block 24 (sources_of cells)) (omega (arith, room, kept.many)) (slot-low (take fields row))
      (is ∙ ap (λ (q : List Val). Some (Number (4 * slot q))) (sym key_is))
      (entry_fill (pos k (o + 4096)) most fuel free row t uses
      (all-same Text (Among free) s.locals t.locals (λ i among. kept.below i among.1) (sources_of cells) row uses supplied)
      (subst (λ (q : List Val). have_values q ≡ true) (sym key_is) have))))))
