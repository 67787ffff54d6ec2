-- A walk over all groups: each once.
use Rattle.std.specs.Prelude.{cond}
use Rattle.std.proofs.Common.{◌≡◌, ◌≢◌, ℕ, zero, suc, ◌+◌, ◌-◌, ◌*◌, ◌%◌, ◌^◌, ◌<◌, ◌≤◌, ◌==◌, inl, inr, Bool, true, false, List, [], ◌∷◌, ◌++◌, length, Some, slice_get, slice_set, refl, sym, ap, ap₂, ◌∙◌, subst, ⊎_elim, arith}
use Rattle.std.specs.List.{flat_map}
use Rattle.std.specs.List.Sorted.{IsPermutation}
use Rattle.std.proofs.lemmas.Bool.{eq-eqb, ne_eqb, cases_eq}
use Rattle.std.proofs.lemmas.List.{append_assoc}
use Rattle.std.proofs.lemmas.List.Sorted.{IsPermutation-refl, IsPermutation-cons, IsPermutation-trans, IsPermutation-append, IsPermutation-append_left, IsPermutation-to_front}
use Rattle.qw_types.specs.declared.code.Code.{Code}
use Rattle.qw_types.specs.declared.value.Val.{Val}
use Rattle.qw_linear.specs.Memory.{page}
use Rattle.qw_layout.specs.Hash.{slot}
use Rattle.qw_meaning.specs.Flow.{Flow}
use Rattle.qw_grouped.specs.Groups.{keys}
use Rattle.qw_map.proofs.TurnFacts.{slice_get-set_same}
use Rattle.qw_module.specs.declared.instruction.ValType.TheVariants.{I32}
use Rattle.qw_module.specs.declared.instruction.Binary.TheVariants.{Sub}
use Rattle.qw_low.specs.Syntax.{local, binop, Statement, assign, while}
use Rattle.qw_low.specs.State.{Own, Number, Address, Cells, LowState}
use Rattle.qw_low.specs.Meaning.{value, meaning}
use Rattle.qw_low.specs.Promise.{Ends, IsSet}
use Rattle.qw_low.specs.Raising.{Kept}
use Rattle.qw_low.proofs.Promises.{Ends-more, assign_ends}
use Rattle.qw_low.proofs.Results.{Kept-same, Kept-one, at_least}
use Rattle.qw_feed.specs.Feeds.{Any, Sink, FeedsTo, flow_over, spend}
use Rattle.qw_feed.specs.Frames.{pos, Keeps, Below}
use Rattle.qw_feed.specs.Room.{i32}
use Rattle.qw_feed.specs.Rows.{Row, address}
use Rattle.qw_feed.proofs.FeedRules.{Quiet, feeds_weaker, feeds_then}
use Rattle.qw_feed.proofs.Frames.{Never, Keeps-same, Keeps-then, Keeps-set, Keeps-less, below-less}
use Rattle.qw_feed.proofs.LoopFeeds.{loop_feeds}
use Rattle.qw_table.specs.Tables.{IsDirectory, Linked, values_of, in_slot, probe_block}
use Rattle.qw_table.proofs.Chains.{Linked-same}
use Rattle.qw_table.proofs.ProbeRuns.{AtEntry, probe_feeds}
use Rattle.qw_group.specs.Groups.{HasGroups}
use Rattle.qw_group.specs.Walks.{slots_down, always, walk_turn, groups_walk_block}

-- A table of groups that stands before a place, wherever free space is.
pub record StandGroups (columns : ℕ) (Has : List (List Val) → Cells → (part offset : ℕ) → (key : List Val) → Type 0) (size : ℕ) (k o d front : ℕ) (rows : List (List Val)) (s : LowState) : Type 0 where
  pub at : slice_get s.locals d ≡ Some (Address (Own k) o)
  pub chains : ℕ → List Row
  pub directory : IsDirectory k o front chains s.cells s.own
  pub linked : (j : ℕ) → j < 1024 → Linked (Has rows) size s.cells (pos k (o + 4096)) front (chains j)
  pub same : (j : ℕ) → j < 1024 → IsPermutation (values_of (chains j)) (in_slot slot j (keys columns rows))

-- one that has just been filled stands before free space
abbrev pub standing : (columns : ℕ) → (Has : List (List Val) → Cells → (part offset : ℕ) → (key : List Val) → Type 0) → (size k o d u before : ℕ) → (rows : List (List Val)) → (s : LowState) → (has : HasGroups columns Has size k o d u before rows s) →
    StandGroups columns Has size k o d (pos has.part has.offset) rows s
standing columns Has size k o d u before rows s has = record { at = has.at; chains = has.chains; directory = has.directory; linked = has.linked; same = has.same }

one-more : (m : ℕ) → 1 ≤ 1 + m
one-more m = omega arith

same-most : (m : ℕ) → m ≤ m
same-most m = omega arith

abbrev first : List ℕ → ℕ
first [] = 0
first (x ∷ xs) = x

abbrev rest : List ℕ → List ℕ
rest [] = []
rest (x ∷ xs) = xs

module _ (sink : Sink) (most full c n' : ℕ) (low : 5 ≤ c) (further : c + 1 < n')
    (sink_kept : (rows : List (List Val)) (s t : LowState) → Kept c s t → sink.Has rows s → sink.Has rows t)
    (found : Statement) (inner : List Val → Flow (List Val)) (units : List Val → ℕ)
    (columns : ℕ) (Has : List (List Val) → Cells → ℕ → ℕ → List Val → Type 0) (size : ℕ) (wide : 8 ≤ size)
    (has_same : (rows : List (List Val)) (c c' : Cells) (k o : ℕ) (key : List Val) → ((a b : ℕ) → o + 8 ≤ a → a + b ≤ o + size → c' (Own k) a b ≡ c (Own k) a b) → Has rows c k o key → Has rows c' k o key)
    (k o d front : ℕ) (rows : List (List Val)) (s0 : LowState) (has : StandGroups columns Has size k o d front rows s0) (d_low : (5 ≤ d) × (d < c)) (room : c + 1 < length s0.locals)
    (spared : (at width : ℕ) → pos k o ≤ at → at + width ≤ front → sink.Spared at width) (more : 1024 < full) (shorter : (j : ℕ) → j < 1024 → length (has.chains j) < full) where
  abbrev x : ℕ
  x = c + 1

  -- at a group's entry
  pub record Here (e : Row) (s : LowState) : Type 0 where
    pub x_is : slice_get s.locals (c + 1) ≡ Some (address e)
    pub far : c + 1 < length s.locals
    pub keeps : Keeps (Below c) sink.Spared s0 s
    pub has_group : Has rows s.cells e.part e.offset e.values

  abbrev flow_at : Row → Flow (List Val)
  flow_at e = inner e.values

  abbrev units_at : Row → ℕ
  units_at e = units e.values

  abbrev pub flow_of : ℕ → Flow (List Val)
  flow_of j = flow_over flow_at (has.chains j)

  abbrev pub units_of : ℕ → ℕ
  units_of j = spend units_at (has.chains j)

  module _ (found_to : (e : Row) (s : LowState) → Here e s → FeedsTo sink most full (1 + units e.values) (Below n') Any (inner e.values) found s) where
    -- these slots are left
    pub record Left (left : List ℕ) (s : LowState) : Type 0 where
      pub down : left ≡ slots_down (length left)
      pub few : length left ≤ 1024
      pub c_is : slice_get s.locals c ≡ Some (Number (4 * length left))
      pub keeps : Keeps (Below c) sink.Spared s0 s

    module _ (j : ℕ) (left : List ℕ) (s : LowState) (at : Left (j ∷ left) s) where
      abbrev N : ℕ
      N = 1 + units_of j

      j_is : j ≡ length left
      j_is = ap first at.down

      j_low : j < 1024
      j_low = omega (arith, j_is, at.few)

      abbrev t : LowState
      t = record s { locals = slice_set s.locals c (Number (4 * length left)) }

      many : length s.locals ≡ length s0.locals
      many = at.keeps.many

      t_is : slice_get t.locals c ≡ Some (Number (4 * length left))
      t_is = slice_get-set_same s.locals c (Number (4 * length left)) (omega (arith, many, room))

      keeps_one : Keeps (Below c) sink.Spared s t
      keeps_one = Keeps-set (Below c) sink.Spared s s c (Number (4 * length left)) (λ i old is. ⊎_elim (λ z. omega (arith, z, is, low)) (λ g. omega (arith, g.1, is)) old) (Keeps-same (Below c) sink.Spared s)

      keeps_t : Keeps (Below c) sink.Spared s0 t
      keeps_t = Keeps-then (Below c) sink.Spared s0 s t at.keeps keeps_one

      counts : Ends (4 * N) (λ w. Quiet sink most full (Below c) s w × (w ≡ t)) Never (λ code. ⊥) (meaning most full (assign c (binop I32 Sub (local c) (i32 4))) s)
      counts =
          let Post : LowState → Type 0 = λ w. Quiet sink most full (Below c) s w × (w ≡ t) in
          let fewer : (4 * suc (length left) + 2 ^ 32 - 4) % 2 ^ 32 ≡ 4 * length left = omega (arith, at.few) in
          let is : value s (binop I32 Sub (local c) (i32 4)) ≡ Some (Number (4 * length left)) = rw (at.c_is, fewer) refl in
          Ends-more Post Never (λ code. ⊥) 4 (4 * N) (meaning most full (assign c (binop I32 Sub (local c) (i32 4))) s) (at_least 4 N (omega arith))
          (assign_ends Post Never (λ code. ⊥) most full c (binop I32 Sub (local c) (i32 4)) (Number (4 * length left)) s is (omega (arith, many, room)) ((keeps_one, λ q. sink_kept q s t (Kept-one s c (Number (4 * length left)))), refl))

      sink_x : (q : List (List Val)) (v w : LowState) → Kept x v w → sink.Has q v → sink.Has q w
      sink_x q v w kept = sink_kept q v w (record { others = kept.others; many = kept.many; below = λ i less. kept.below i (omega (arith, less)) })

      spared_chain : (at width : ℕ) → pos k (o + 4096) ≤ at → at + width ≤ front → sink.Spared at width
      spared_chain at' width from to = spared at' width (omega (arith, from)) to

      abbrev one : List Val → Bool
      one v = true

      abbrev Also : List Row → LowState → Type 0
      Also es w = Unit {0}

      abbrev At : Row → LowState → Type 0
      At = AtEntry (Has rows) size wide (has_same rows) sink most full x (Below x) (Below n') (λ i old. ⊎_elim (λ z. omega (arith, z)) (λ g. g.1) old) (λ i old. below-less x n' i (omega (arith, further)) old) (inr (omega (arith, low), further)) sink_x
          always found one inner units (pos k (o + 4096)) front spared_chain t Also (λ es v w kept also. also) (λ e es v isnt also. also)

      -- a slot's entries
      probes : FeedsTo sink most full N (Below x) Any (flow_of j) (probe_block d c x always found) t
      probes = probe_feeds (Has rows) size wide (has_same rows) sink most full x (Below x) (Below n') (λ i old. ⊎_elim (λ z. omega (arith, z)) (λ g. g.1) old) (λ i old. below-less x n' i (omega (arith, further)) old) (inr (omega (arith, low), further)) sink_x
          always found one inner units (pos k (o + 4096)) front spared_chain t Also (λ es v w kept also. also) (λ e es v isnt also. also)
          (λ e w. Unit {0}) (λ e v here. (omega arith, (Kept-same (x + 1) v, refl, tt)))
          (λ e es v here known is also. feeds_weaker sink most full (1 + units e.values) (1 + units e.values) (Below n') (Below n') Any Any (inner e.values) found v (omega arith) (λ i old. old) (λ w keeps a. tt)
          (found_to e v (record { x_is = here.x_is; far = here.room; keeps = Keeps-then (Below c) sink.Spared s0 t v keeps_t (Keeps-less (Below c) sink.Spared (Below x) sink.Spared t v (λ i. below-less c x i (omega arith)) (λ a' b it. it) here.keeps); has_group = here.has })))
          k o j d c (has.chains j) (keeps_t.own k page has.directory.sized) has.directory.inside
          (keeps_t.cells k (o + 4 * j) 4 (spared (pos k (o + 4 * j)) 4 (omega arith) (omega (arith, j_low, has.directory.behind))) ∙ has.directory.slots j j_low)
          (Linked-same (Has rows) size wide (has_same rows) s0.cells t.cells (pos k (o + 4096)) front (has.chains j) (λ i a b from to. keeps_t.cells i a b (spared_chain (pos i a) b from to)) (has.linked j j_low))
          j_low (keeps_t.locals d (inr (d_low.0, d_low.1)) ∙ has.at) (t_is ∙ ap (λ (m : ℕ). Some (Number (4 * m))) (sym j_is)) (omega (arith, keeps_t.many, room)) (shorter j j_low) tt

      step : FeedsTo sink most full N (Below c) (Left left) (flow_of j) (walk_turn d c found) s
      step = feeds_then sink most full N (Below c) (λ w. w ≡ t) (Left left) (flow_of j) (assign c (binop I32 Sub (local c) (i32 4))) (probe_block d c x always found) s counts
          (λ w keeps is. subst (λ (q : LowState). FeedsTo sink most full N (Below c) (Left left) (flow_of j) (probe_block d c x always found) q) (sym is)
          (feeds_weaker sink most full N N (Below x) (Below c) Any (Left left) (flow_of j) (probe_block d c x always found) t (omega arith) (λ i. below-less c x i (omega arith))
          (λ v kept any. record {
            down = ap rest at.down;
            few = omega (arith, at.few);
            c_is = kept.locals c (inr (low, omega arith)) ∙ t_is;
            keeps = Keeps-then (Below c) sink.Spared s0 t v keeps_t (Keeps-less (Below c) sink.Spared (Below x) sink.Spared t v (λ i. below-less c x i (omega arith)) (λ a' b it. it) kept);
          })
          probes))

    before_end : (j : ℕ) (left : List ℕ) (s : LowState) → Left (j ∷ left) s → IsSet (value s (local c))
    before_end j left s at = inl (3 + 4 * length left, at.c_is ∙ ap (λ (m : ℕ). Some (Number m)) (omega arith))

    down-many : (n : ℕ) → length (slots_down n) ≡ n
    down-many zero = refl
    down-many (suc n) = ap suc (down-many n)

    abbrev s1 : LowState
    s1 = record s0 { locals = slice_set s0.locals c (Number 4096) }

    keeps_1 : Keeps (Below c) sink.Spared s0 s1
    keeps_1 = Keeps-set (Below c) sink.Spared s0 s0 c (Number 4096) (λ i old is. ⊎_elim (λ z. omega (arith, z, is, low)) (λ g. omega (arith, g.1, is)) old) (Keeps-same (Below c) sink.Spared s0)

    begun : Left (slots_down 1024) s1
    begun = record {
      down = ap slots_down (sym (down-many 1024));
      few = omega (arith, down-many 1024);
      c_is = slice_get-set_same s0.locals c (Number 4096) (omega (arith, room)) ∙ ap (λ (m : ℕ). Some (Number (4 * m))) (sym (down-many 1024));
      keeps = keeps_1;
    }

    c_room : c < length s0.locals
    c_room = omega (arith, room)

    abbrev M : ℕ
    M = 1 + spend units_of (slots_down 1024)

    -- each entry of each slot
    pub walk_feeds : FeedsTo sink most full M (Below c) Any (flow_over flow_of (slots_down 1024)) (groups_walk_block d c found) s0
    walk_feeds = feeds_then sink most full M (Below c) (λ w. w ≡ s1) Any (flow_over flow_of (slots_down 1024)) (assign c (i32 4096)) (while (local c) (walk_turn d c found)) s0
        (let Post : LowState → Type 0 = λ w. Quiet sink most full (Below c) s0 w × (w ≡ s1) in
        Ends-more Post Never (λ code. ⊥) 2 (2 * M) (meaning most full (assign c (i32 4096)) s0) (at_least 2 M (one-more (spend units_of (slots_down 1024))))
        (assign_ends Post Never (λ code. ⊥) most full c (i32 4096) (Number 4096) s0 refl c_room ((keeps_1, λ q. sink_kept q s0 s1 (Kept-one s0 c (Number 4096))), refl)))
        (λ w keeps is. subst (λ (q : LowState). FeedsTo sink most full M (Below c) Any (flow_over flow_of (slots_down 1024)) (while (local c) (walk_turn d c found)) q) (sym is)
        (feeds_weaker sink most full M M (Below c) (Below c) (Left []) Any (flow_over flow_of (slots_down 1024)) (while (local c) (walk_turn d c found)) s1 (same-most M) (λ i old. old) (λ v kept l. tt)
        (loop_feeds ℕ sink most full (Below c) flow_of units_of (local c) (walk_turn d c found) Left (λ v l. l.c_is) before_end step (slots_down 1024) s1 (subst (λ (m : ℕ). m < full) (sym (down-many 1024)) more) begun)))

-- ---- each group once
module _ (slot_of : List Val → ℕ) where
  none_there : (n : ℕ) (x : List Val) (xs : List (List Val)) → n ≤ slot_of x → flat_map (λ j. in_slot slot_of j (x ∷ xs)) (slots_down n) ≡ flat_map (λ j. in_slot slot_of j xs) (slots_down n)
  none_there zero x xs le = refl
  none_there (suc n) x xs le =
      let test : (slot_of x == n) ≡ false = ne_eqb (slot_of x) n (λ is. omega (arith, is, le)) in
      ap₂ (λ (a b : List (List Val)). a ++ b) (ap (λ (b : Bool). cond b (x ∷ in_slot slot_of n xs) (in_slot slot_of n xs)) test) (none_there n x xs (omega (arith, le)))

  -- one of a list comes to the front
  to-front : (xs ys zs : List (List Val)) (x : List Val) → IsPermutation ys (x ∷ zs) → IsPermutation (xs ++ ys) (x ∷ (xs ++ zs))
  to-front [] ys zs x h = h
  to-front (w ∷ xs) ys zs x h = IsPermutation-trans (w ∷ (xs ++ ys)) (w ∷ x ∷ (xs ++ zs)) (x ∷ w ∷ (xs ++ zs)) (IsPermutation-cons w (xs ++ ys) (x ∷ (xs ++ zs)) (to-front xs ys zs x h))
      (IsPermutation-append_left (xs ++ zs) (w ∷ x ∷ []) (x ∷ w ∷ []) (IsPermutation-to_front (w ∷ []) x))

  put_there : (n : ℕ) (x : List Val) (xs : List (List Val)) → slot_of x < n → IsPermutation (flat_map (λ j. in_slot slot_of j (x ∷ xs)) (slots_down n)) (x ∷ flat_map (λ j. in_slot slot_of j xs) (slots_down n))
  put_there zero x xs less = absurd (omega (arith, less))
  put_there (suc n) x xs less = ⊎_elim
      (λ (here : slot_of x ≡ n).
      subst (λ (l : List (List Val)). IsPermutation l (x ∷ flat_map (λ j. in_slot slot_of j xs) (slots_down (suc n))))
      (sym (ap₂ (λ (a b : List (List Val)). a ++ b) (ap (λ (b : Bool). cond b (x ∷ in_slot slot_of n xs) (in_slot slot_of n xs)) (eq-eqb (slot_of x) n here)) (none_there n x xs (omega (arith, here)))))
      (IsPermutation-refl (x ∷ flat_map (λ j. in_slot slot_of j xs) (slots_down (suc n)))))
      (λ (other : slot_of x ≢ n).
      let test : (slot_of x == n) ≡ false = ne_eqb (slot_of x) n other in
      subst (λ (l : List (List Val)). IsPermutation (l ++ flat_map (λ j. in_slot slot_of j (x ∷ xs)) (slots_down n)) (x ∷ flat_map (λ j. in_slot slot_of j xs) (slots_down (suc n)))) (sym (ap (λ (b : Bool). cond b (x ∷ in_slot slot_of n xs) (in_slot slot_of n xs)) test))
      (to-front (in_slot slot_of n xs) (flat_map (λ j. in_slot slot_of j (x ∷ xs)) (slots_down n)) (flat_map (λ j. in_slot slot_of j xs) (slots_down n)) x (put_there n x xs (omega (arith, less, other)))))
      (cases_eq (slot_of x) n)

  empty_slots : (n : ℕ) → flat_map (λ j. in_slot slot_of j []) (slots_down n) ≡ []
  empty_slots zero = refl
  empty_slots (suc n) = empty_slots n

  pub by_slots : (n : ℕ) (xs : List (List Val)) → ((x : List Val) → slot_of x < n) → IsPermutation (flat_map (λ j. in_slot slot_of j xs) (slots_down n)) xs
  by_slots n [] low = subst (λ (l : List (List Val)). IsPermutation l []) (sym (empty_slots n)) (IsPermutation-refl [])
  by_slots n (x ∷ xs) low = IsPermutation-trans (flat_map (λ j. in_slot slot_of j (x ∷ xs)) (slots_down n)) (x ∷ flat_map (λ j. in_slot slot_of j xs) (slots_down n)) (x ∷ xs) (put_there n x xs (low x))
      (IsPermutation-cons x (flat_map (λ j. in_slot slot_of j xs) (slots_down n)) xs (by_slots n xs low))

  alike : (n : ℕ) → (f g : ℕ → List (List Val)) → ((j : ℕ) → j < n → IsPermutation (f j) (g j)) → IsPermutation (flat_map f (slots_down n)) (flat_map g (slots_down n))
  alike zero f g each = IsPermutation-refl []
  alike (suc n) f g each = IsPermutation-append (f n) (g n) (flat_map f (slots_down n)) (flat_map g (slots_down n)) (each n (omega arith)) (alike n f g (λ j less. each j (omega (arith, less))))

-- The keys of the entries that a walk meets are those of the rows, each once.
pub walk_once : (columns : ℕ) (Has : List (List Val) → Cells → ℕ → ℕ → List Val → Type 0) (size : ℕ) (k o d front : ℕ) (rows : List (List Val)) (s : LowState) (has : StandGroups columns Has size k o d front rows s) → ((w : List Val) → slot w < 1024) → IsPermutation (flat_map (λ j. values_of (has.chains j)) (slots_down 1024)) (keys columns rows)
walk_once columns Has size k o d front rows s has low =
    whole 1024 (λ j. values_of (has.chains j)) (λ j. in_slot slot j (keys columns rows)) has.same (by_slots slot 1024 (keys columns rows) low)
  where
    whole : (n : ℕ) (f g : ℕ → List (List Val)) → ((j : ℕ) → j < n → IsPermutation (f j) (g j)) → IsPermutation (flat_map g (slots_down n)) (keys columns rows) → IsPermutation (flat_map f (slots_down n)) (keys columns rows)
    whole n f g each h = IsPermutation-trans (flat_map f (slots_down n)) (flat_map g (slots_down n)) (keys columns rows) (alike slot n f g each) h

-- ---- the slots' entries as one list
flat-append : {A : Type 0} (g : Row → List A) (xs ys : List Row) → flat_map g (xs ++ ys) ≡ flat_map g xs ++ flat_map g ys
flat-append g [] ys = refl
flat-append g (x ∷ xs) ys = ap (λ l. g x ++ l) (flat-append g xs ys) ∙ sym (append_assoc (g x) (flat_map g xs) (flat_map g ys))

flat-flat : {A : Type 0} (g : Row → List A) (chains : ℕ → List Row) (js : List ℕ) → flat_map (λ j. flat_map g (chains j)) js ≡ flat_map g (flat_map chains js)
flat-flat g chains [] = refl
flat-flat g chains (j ∷ js) = ap (λ l. flat_map g (chains j) ++ l) (flat-flat g chains js) ∙ sym (flat-append g (chains j) (flat_map chains js))

pub flow-flat : (f : Row → Flow (List Val)) (chains : ℕ → List Row) (js : List ℕ) → flow_over (λ j. flow_over f (chains j)) js ≡ flow_over f (flat_map chains js)
flow-flat f chains js = ap₂ (λ (rs : List (List Val)) (cs : List Code). let r : Flow (List Val) = record { rows = rs; codes = cs } in r) (flat-flat (λ e. (f e).rows) chains js) (flat-flat (λ e. (f e).codes) chains js)

spend-append : (u : Row → ℕ) (xs ys : List Row) → spend u (xs ++ ys) ≡ spend u xs + spend u ys
spend-append u [] ys = omega arith
spend-append u (x ∷ xs) ys = omega (arith, spend-append u xs ys)

pub spend-flat : (u : Row → ℕ) (chains : ℕ → List Row) (js : List ℕ) → spend (λ j. spend u (chains j)) js ≡ length js + spend u (flat_map chains js)
spend-flat u chains [] = refl
spend-flat u chains (j ∷ js) = omega (arith, spend-flat u chains js, spend-append u (chains j) (flat_map chains js))

values-append : (xs ys : List Row) → values_of (xs ++ ys) ≡ values_of xs ++ values_of ys
values-append [] ys = refl
values-append (x ∷ xs) ys = ap (λ (l : List (List Val)). x.values ∷ l) (values-append xs ys)

pub values-flat : (chains : ℕ → List Row) (js : List ℕ) → values_of (flat_map chains js) ≡ flat_map (λ j. values_of (chains j)) js
values-flat chains [] = refl
values-flat chains (j ∷ js) = values-append (chains j) (flat_map chains js) ∙ ap (λ (l : List (List Val)). values_of (chains j) ++ l) (values-flat chains js)

pub slots-many : (n : ℕ) → length (slots_down n) ≡ n
slots-many zero = refl
slots-many (suc n) = ap suc (slots-many n)

filtered : (b : Bool) (x : List Val) (xs : List (List Val)) → length (cond b (x ∷ xs) xs) ≤ 1 + length xs
filtered true x xs = omega arith
filtered false x xs = omega arith

pub slot-few : (j : ℕ) (xs : List (List Val)) → length (in_slot slot j xs) ≤ length xs
slot-few j [] = omega arith
slot-few j (x ∷ xs) = omega (arith, filtered (slot x == j) x (in_slot slot j xs), slot-few j xs)
