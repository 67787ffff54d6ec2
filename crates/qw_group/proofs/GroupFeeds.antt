-- What a block of the form `Groups` feeds: the groups of one row more.
use Rattle.std.proofs.Common.{◌≡◌, ℕ, suc, ◌+◌, ◌*◌, ◌^◌, ◌<◌, ◌≤◌, inl, inr, true, List, [], ◌∷◌, ◌++◌, length, length-append, Option, Some, None, slice_get, refl, sym, ap, ◌∙◌, subst, ⊎_elim, arith}
use Rattle.std.proofs.lemmas.Nat.{mul-le}
use Rattle.qw_types.specs.ValueOrder.{is_same_row}
use Rattle.qw_types.specs.declared.value.Val.{Val}
use Rattle.qw_types.specs.declared.value.Val.TheVariants as val
use Rattle.qw_linear.specs.Memory.{page}
use Rattle.qw_layout.specs.Hash.{slot}
use Rattle.qw_layout.specs.Row.{cell_offset}
use Rattle.qw_grouped.specs.Groups.{key_of, keys, members}
use Rattle.qw_module.specs.Numbers.{truth}
use Rattle.qw_low.specs.Syntax.{Statement, local}
use Rattle.qw_low.specs.State.{Part, Own, Number, Cells, LowState}
use Rattle.qw_low.specs.Meaning.{value, meaning}
use Rattle.qw_low.specs.Size.{size}
use Rattle.qw_low.specs.Raising.{Kept}
use Rattle.qw_low.proofs.Promises.{Ends-more, Ends-weaker}
use Rattle.qw_feed.specs.Cells.{HasCells, Supplies, Lacks, AllSupply, AllUse, cells_block}
use Rattle.qw_feed.specs.Feeds.{one_row, Any, Sink, FeedsTo}
use Rattle.qw_feed.specs.Frames.{pos, Before, Below, Outside, Keeps, Stored}
use Rattle.qw_feed.specs.Rows.{address, Filled}
use Rattle.qw_feed.specs.Stages.{Among, Test}
use Rattle.qw_feed.proofs.CellRuns.{cells-same, cells_end}
use Rattle.qw_feed.proofs.FeedRules.{feeds_less, own_then}
use Rattle.qw_feed.proofs.Frames.{Never, Keeps-same, Keeps-then, Keeps-less, Keeps-kept, Kept-less, below-less, below-under}
use Rattle.qw_feed.proofs.StageRuns.{all-same}
use Rattle.qw_table.specs.Entries.{Stands, MayBe}
use Rattle.qw_table.specs.Keys.{AreHeld, AreAlike, is_nullable, text_octets}
use Rattle.qw_table.specs.Joins.{sources_of}
use Rattle.qw_table.specs.Tables.{in_slot}
use Rattle.qw_table.specs.declared.key.Field.{Field}
use Rattle.qw_table.proofs.JoinFeeds.{slot-low}
use Rattle.qw_table.proofs.ProbeFeeds.{supplied_held, cell_map}
use Rattle.qw_group.specs.Areas.{InPlace}
use Rattle.qw_group.specs.Groups.{HasAreas, HasGroup, Groups, AllGive, AreChosenWithin, ArgumentsUse, functions_in, group_size, groups_sink, group_block}
use Rattle.qw_group.specs.declared.group.Aggregate.{Aggregate}
use Rattle.qw_group.proofs.EntryAreas.{all-give-same, areas-same, areas-none, areas_do}
use Rattle.qw_group.proofs.GroupRuns.{groups_kept, group_feeds, Searches, Updates, Places}
use Rattle.qw_group.proofs.KeyFacts.{members-few, members-more, members-other, no-members}
use Rattle.qw_group.proofs.WideRuns.{none}

-- ---- keys
pub alike-many : (fs : List Field) (vs : List Val) → AreAlike fs vs → length vs ≡ length fs
alike-many [] [] h = refl
alike-many [] (v ∷ vs) h = absurd h
alike-many (f ∷ fs) [] h = absurd h
alike-many (f ∷ fs) (v ∷ vs) h = ap suc (alike-many fs vs h.1)

sources-many : (fs : List Field) → length (sources_of fs) ≡ length fs
sources-many [] = refl
sources-many (f ∷ fs) = ap suc (sources-many fs)

module _ (Text : Part → ℕ → List ℕ → Type 0) where
  may-be : (s : LowState) (f : Field) (v : Val) → Supplies Text s.locals f.cell v → MayBe (is_nullable f.cell.null) v
  may-be s f val.Null h = by f.cell.null h
    where
      by : (null : Option ℕ) → Lacks s.locals null → is_nullable null ≡ true
      by None h = absurd h
      by (Some n) h = refl
  may-be s f (val.Num v) h = tt
  may-be s f (val.Date v) h = tt
  may-be s f (val.Text v) h = tt

  supplied-alike : (s : LowState) (fs : List Field) (vs : List Val) → AllSupply Text s.locals (sources_of fs) vs → AreAlike fs vs
  supplied-alike s [] [] h = tt
  supplied-alike s [] (v ∷ vs) h = absurd h
  supplied-alike s (f ∷ fs) [] h = absurd h
  supplied-alike s (f ∷ fs) (v ∷ vs) h = ((h.0.1, may-be s f v h.0.0), supplied-alike s fs vs h.1)

  pub cells_map : (Text' : Part → ℕ → List ℕ → Type 0) (c : Cells) (k at : ℕ) (vs : List Val) → ((p : Part) (o : ℕ) (octets : List ℕ) → Text p o octets → Text' p o octets) → HasCells Text c k at vs → HasCells Text' c k at vs
  cells_map Text' c k at [] also h = tt
  cells_map Text' c k at (v ∷ vs) also h = (cell_map Text Text' c k at v also h.0, cells_map Text' c k (at + 16) vs also h.1)

module _ (Text : Part → ℕ → List ℕ → Type 0) (key : List Field) (aggregates : List Aggregate) where
  abbrev columns : ℕ
  columns = length key

  abbrev at0 : ℕ
  at0 = cell_offset columns

  abbrev pub Has : List (List Val) → Cells → ℕ → ℕ → List Val → Type 0
  Has = HasGroup Text key aggregates

  abbrev wide : ℕ
  wide = group_size key aggregates

  pub group_same : (rows : List (List Val)) (c c' : Cells) (k o : ℕ) (values : List Val) → ((a b : ℕ) → o + 8 ≤ a → a + b ≤ o + wide → c' (Own k) a b ≡ c (Own k) a b) → Has rows c k o values → Has rows c' k o values
  group_same rows c c' k o values same h = (
    h.0,
    cells-same Text c c' k (o + 24) values (λ a b from to. same a b (omega (arith, from)) (omega (arith, to, alike-many key values h.0))) h.1,
    areas-same Text columns aggregates (members columns values rows) c c' k (o + at0) (λ a b wide' from to. same a b (omega (arith, from)) (omega (arith, to))) h.2,
  )

  pub group_other : (rows : List (List Val)) (r : List Val) (c : Cells) (k o : ℕ) (values : List Val) → (values ≡ key_of columns r → ⊥) → Has rows c k o values → Has (rows ++ r ∷ []) c k o values
  group_other rows r c k o values other h = (h.0, h.1, subst (λ (l : List (List Val)). HasAreas Text columns aggregates l c k (o + at0)) (sym (members-other columns values r rows other)) h.2)

  module _ (directory free : ℕ) (a : Statement) (groups : Groups directory key aggregates free a) (k o u before most fuel units chosen : ℕ) (May : List (List Val) → Type 0) (beginnings : (rows more : List (List Val)) → May (rows ++ more) → May rows) (row : List Val) (s : LowState)
      (low : (5 ≤ directory) × (directory < free)) (small : wide + u ≤ page) (stands : (t : LowState) → Keeps (Below free) (Before (pos k o)) s t → (p : Part) (at : ℕ) (octets : List ℕ) → Text p at octets → Stands t p at octets)
      (uses : AllUse (Among free) (sources_of key)) (supplied : AllSupply Text s.locals (sources_of key) (key_of columns row)) (argument_uses : ArgumentsUse free aggregates) (gives : AllGive Text s.locals columns aggregates row)
      (few_rows : (xs : List (List Val)) → May xs → 1 ≤ length aggregates → length xs ≤ 10 ^ 18)
      (chosen_within : AreChosenWithin columns (functions_in aggregates) row chosen) (key_turns : 1 + text_octets (key_of columns row) ≤ fuel) (area_turns : 1 + chosen ≤ fuel) (room : free + 24 ≤ length s.locals) where
    abbrev values : List Val
    values = key_of columns row

    abbrev g : ℕ
    g = free + 4

    abbrev h : ℕ
    h = free + 3

    abbrev told : Test
    told = record { out = local (free + 6); block = groups.test }

    abbrev fill : Statement
    fill = cells_block 24 (sources_of key)

    -- a test of a key, and a change of the areas
    abbrev V : ℕ
    V = 1 + text_octets (key_of columns row)

    abbrev W : ℕ
    W = 1 + chosen

    low_g : (5 ≤ directory) × (directory < g)
    low_g = (low.0, omega (arith, low.1))

    high_h : (5 ≤ h) × (h < g)
    high_h = (omega (arith, low.0, low.1), omega arith)

    module _ (t : LowState) (kept : Kept free s t) where
      keeps_t : Keeps (Below free) (Before (pos k o)) s t
      keeps_t = Keeps-kept (Below free) (Before (pos k o)) free s t (λ i old. below-under free free i (omega arith) (omega (arith, low.0, low.1)) old) kept

      keeps_then : (t' : LowState) → Kept g t t' → Keeps (Below free) (Before (pos k o)) s t'
      keeps_then t' kept' = Keeps-then (Below free) (Before (pos k o)) s t t' keeps_t (Keeps-kept (Below free) (Before (pos k o)) g t t' (λ i old. let under = below-under free free i (omega arith) (omega (arith, low.0, low.1)) old in omega (arith, under)) kept')

      supplied_at : (t' : LowState) → Keeps (Below free) (Before (pos k o)) s t' → AllSupply Text t'.locals (sources_of key) values
      supplied_at t' keeps = all-same Text (Among free) s.locals t'.locals (λ i among. keeps.locals i (inr among)) (sources_of key) values uses supplied

      held_at : (t' : LowState) → Keeps (Below free) (Before (pos k o)) s t' → AreHeld key values t'
      held_at t' keeps = supplied_held Text t' (λ p at octets text. (stands t' keeps p at octets text).0) key values (supplied_at t' keeps)

      -- the search
      searched : (rows : List (List Val)) → Searches columns Has wide (omega arith) group_same group_other k o directory u before g h low_g high_h small most fuel row (slot-low values) told fill groups.update V W (omega arith) (omega arith) rows t
      searched rows e t' kept' x_is has =
          let keeps : Keeps (Below free) (Before (pos k o)) s t' = keeps_then t' kept' in
          let cells : t'.cells ≡ t.cells = ap (λ (q : LowState). q.cells) kept'.others in
          let there : HasCells (Stands t') t'.cells e.part (e.offset + 24) e.values = subst (λ (c : Cells). HasCells (Stands t') c e.part (e.offset + 24) e.values) (sym cells) (cells_map Text (Stands t') t.cells e.part (e.offset + 24) e.values (stands t' keeps) has.1) in
          Ends-weaker (size groups.test * V) (size groups.test * V) (λ w. Kept (free + 6) t' w × (slice_get w.locals (free + 6) ≡ Some (Number (truth (is_same_row values e.values))))) (λ w. Kept (g + 2) t' w × (value w (local (free + 6)) ≡ Some (Number (truth (is_same_row values e.values))))) Never Never none none (meaning most fuel groups.test t') (omega arith)
          (λ w done. (Kept-less (g + 2) (free + 6) t' w (omega arith) done.0, done.1)) (λ w y. y) (λ code y. y)
          (groups.tests.runs most fuel V t' e.part e.offset values e.values (omega arith) key_turns (held_at t' keeps) has.0 (subst (λ (i : ℕ). slice_get t'.locals i ≡ Some (address e)) (omega arith) x_is) there (omega (arith, room, kept.many, kept'.many)))

      -- a new entry
      placed : (rows : List (List Val)) → Places columns Has wide (omega arith) group_same group_other k o directory u before g h low_g high_h small most fuel row (slot-low values) told fill groups.update V W (omega arith) (omega arith) rows t
      placed rows fresh t' kept' w part offset keeps free_is sized fits base zeros =
          let count : length (sources_of key) ≡ columns = sources-many key in
          let none_there : members columns values rows ≡ [] = no-members columns values rows fresh in
          let keeps_s : Keeps (Below free) (Before (pos k o)) s t' = keeps_then t' kept' in
          let given : AllSupply Text w.locals (sources_of key) values = all-same Text (Among free) t'.locals w.locals (λ i among. keeps.locals i (inr (omega (arith, among.0)))) (sources_of key) values uses (supplied_at t' keeps_s) in
          Ends-weaker (size fill) (size fill) (λ v. Stored (Outside (pos part (offset + 24)) (pos part (offset + 24 + 16 * length (sources_of key)))) w v × HasCells Text v.cells part (offset + 24) values) (Filled (Has rows) wide part offset values w) Never Never (λ code. ⊥) (λ code. ⊥)
          (meaning most fuel fill w) (omega arith)
          (λ v done. (
            record { others = done.0.others; mapped = done.0.mapped; cells = λ l x b apart. done.0.cells l x b (⊎_elim (λ below. inl (omega (arith, below))) (λ above. inr (omega (arith, above, count))) apart) },
            (
              supplied-alike Text s key values supplied,
              done.1,
              subst (λ (l : List (List Val)). HasAreas Text columns aggregates l v.cells part (offset + at0)) (sym none_there)
                  (areas-none Text columns aggregates v.cells part (offset + at0) (λ x b from to. done.0.cells part x b (inr (omega (arith, from, count))) ∙ zeros x b (omega (arith, from)) (omega (arith, to, fits)))),
            ),
          ))
          (λ v y. y) (λ code y. y)
          (cells_end Text (λ code. ⊥) most fuel part offset (sources_of key) values 24 w free_is sized (omega (arith, fits, count)) (λ x b from to. zeros x b (omega (arith, from)) to) given)

      -- an entry is changed in place
      updated : (rows : List (List Val)) → May (rows ++ row ∷ []) → Updates columns Has wide (omega arith) group_same group_other k o directory u before g h low_g high_h small most fuel row (slot-low values) told fill groups.update V W (omega arith) (omega arith) rows t
      updated rows may e t' keeps g_is sized fits base is_it has =
          let ms : List (List Val) = members columns e.values rows in
          let off : ℕ = e.offset in
          let p : ℕ = e.part in
          let to : ℕ = off + at0 + 32 * length aggregates in
          let few : 1 ≤ length aggregates → length ms < 10 ^ 18 = λ there. (let all = few_rows (rows ++ row ∷ []) may there in omega (arith, members-few columns e.values rows, all, length-append rows (row ∷ []))) in
          let keeps_s : Keeps (Below free) (Before (pos k o)) s t' = Keeps-then (Below free) (Before (pos k o)) s t t' keeps_t (Keeps-less (Below free) (Before (pos k o)) (Below g) (Before (pos k o)) t t' (λ i. below-less free g i (omega arith)) (λ x b it. it) keeps) in
          let standing : (w : LowState) → InPlace p (off + at0) to (free + 15) t' w → (l : Part) (x : ℕ) (octets : List ℕ) → Text l x octets → Stands w l x octets =
          λ w done. stands w (Keeps-then (Below free) (Before (pos k o)) s t' w keeps_s (in_place p (off + at0) to t' w (omega (arith, base)) done)) in
          Ends-weaker (size groups.update * W) (size groups.update * W) (λ w. InPlace p (off + at0) to (free + 15) t' w × HasAreas Text columns aggregates (ms ++ row ∷ []) w.cells p (off + at0)) (λ w. InPlace p (off + 8) (off + wide) (g + 1) t' w × Has (rows ++ row ∷ []) w.cells p off e.values) Never Never none none
          (meaning most fuel groups.update t') (omega arith)
          (λ w done. (
            record {
              others = done.0.others;
              many = done.0.many;
              below = λ i under. done.0.below i (omega (arith, under));
              mapped = done.0.mapped;
              cells = λ l x b apart. done.0.cells l x b (⊎_elim (λ below. inl (omega (arith, below))) (λ above. inr (omega (arith, above))) apart);
            },
            (
              has.0,
              cells-same Text t'.cells w.cells p (off + 24) e.values (λ x b from till. done.0.cells p x b (inl (omega (arith, till, alike-many key e.values has.0)))) has.1,
              subst (λ (l : List (List Val)). HasAreas Text columns aggregates l w.cells p (off + at0)) (sym (members-more columns e.values row rows is_it)) done.1,
            ),
          )) (λ w y. y) (λ code y. y)
          (areas_do Text most fuel W chosen p off g (free + 15) free (omega arith) area_turns (omega arith) (omega arith) row (omega arith) columns at0 aggregates groups.update ms t' groups.updates argument_uses few
          chosen_within
          (all-give-same Text free s.locals t'.locals (λ i among. keeps_s.locals i (inr among)) columns aggregates row argument_uses gives) g_is sized (omega (arith, fits)) (omega (arith, room, keeps_s.many)) standing has.2)
        where
          in_place : (p from to : ℕ) (v w : LowState) → pos k o ≤ pos p from → InPlace p from to (free + 15) v w → Keeps (Below free) (Before (pos k o)) v w
          in_place p from to v w base done = subst (λ (q : LowState). Keeps (Below free) (Before (pos k o)) v q) (sym done.others) (record {
            many = done.many;
            locals = λ i old. let under = below-under free free i (omega arith) (omega (arith, low.0, low.1)) old in done.below i (omega (arith, under));
            own = λ l size' is. is;
            columns = refl;
            limit = refl;
            refused = refl;
            mapped = done.mapped;
            cells = λ l x b spared. done.cells l x b (inl (omega (arith, spared, base)));
          })

    abbrev pub sink : Sink
    sink = groups_sink columns Has wide k o directory u before May beginnings

    -- a row feeds the groups
    pub groups_feed : (N : ℕ) → units < fuel → 1 + text_octets (key_of columns row) + units * (1 + text_octets (key_of columns row)) + chosen ≤ N → ((xs : List (List Val)) → May xs → before + length (keys columns xs) * wide + 2 * u < (most + 1) * u) → ((xs : List (List Val)) → May xs → length (in_slot slot (slot values) (keys columns xs)) ≤ units) →
        FeedsTo sink most fuel N (Below free) Any (one_row row) a s
    groups_feed N below le enough met =
        let group : Statement = group_block wide directory h g told fill groups.update in
        let old_low : (i : ℕ) → Below free i → i < free = λ i old. below-under free free i (omega arith) (omega (arith, low.0, low.1)) old in
        let has_kept : (rows : List (List Val)) (t w : LowState) → Kept free t w → sink.Has rows t → sink.Has rows w = λ rows t w kept has. groups_kept columns Has wide k o directory u before rows free t w (omega (arith, low.0, low.1)) low.1 kept has in
        let fewer : V ≤ N = omega (arith, le) in
        let find_units : size groups.find * V ≤ size groups.find * N = mul-le (size groups.find) V (size groups.find) N (omega arith) fewer in
        let H : LowState → Type 0 = λ t. slice_get t.locals h ≡ Some (Number (4 * slot values)) in
        subst (λ (b : Statement). FeedsTo sink most fuel N (Below free) Any (one_row row) b s) (sym groups.is)
        (own_then sink most fuel free (Below free) old_low has_kept N free H Any (one_row row) groups.find group s (omega arith)
        (Ends-more (λ t. Kept free s t × H t) Never none (size groups.find * V) (size groups.find * N) (meaning most fuel groups.find s) find_units
        (groups.finds.runs most fuel V s values (omega arith) key_turns (supplied_held Text s (λ p at octets text. (stands s (Keeps-same (Below free) (Before (pos k o)) s) p at octets text).0) key values supplied) (omega (arith, room))))
        (λ t kept is. feeds_less sink most fuel N (Below g) (Below free) Any (one_row row) group t (λ i. below-less free g i (omega arith))
        (group_feeds columns Has wide (omega arith) group_same group_other k o directory u before g h low_g high_h small most fuel row (slot-low values) told fill groups.update V W (omega arith) (omega arith) May beginnings units below enough met N (omega (arith, le)) t
        (λ rows may. searched t kept rows) (λ rows may. updated t kept rows may) (λ rows may. placed t kept rows) is (omega (arith, room, kept.many)))))
