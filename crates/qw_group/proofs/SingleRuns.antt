-- All rows as one group: its areas are placed, and take the arguments of one row more.
use Rattle.std.proofs.Common.{◌≡◌, ℕ, ◌+◌, ◌-◌, ◌*◌, ◌^◌, ◌%◌, ◌<◌, ◌≤◌, inl, inr, IsTrue, List, [], ◌∷◌, ◌++◌, length, length-append, length-set, Some, slice_get, slice_set, refl, sym, ap, ◌∙◌, subst, ⊎_elim, arith}
use Rattle.std.proofs.lemmas.Bool.{le-leb}
use Rattle.qw_types.specs.declared.value.Val.{Val}
use Rattle.qw_linear.specs.Memory.{page}
use Rattle.qw_map.proofs.TurnFacts.{slice_get-set_same, slice_get-set_other}
use Rattle.qw_module.specs.declared.instruction.ValType.TheVariants.{I32}
use Rattle.qw_module.specs.declared.instruction.Binary.TheVariants.{Sub}
use Rattle.qw_low.specs.Syntax.{local, binop, advance, Statement, seq, assign}
use Rattle.qw_low.specs.State.{Part, Own, Number, Address, LowState}
use Rattle.qw_low.specs.Meaning.{value, meaning}
use Rattle.qw_low.specs.Size.{size}
use Rattle.qw_low.specs.Promise.{Ends}
use Rattle.qw_low.proofs.Promises.{Ends-then, Ends-weaker, assign_ends}
use Rattle.qw_low.proofs.BlockSteps.{assign_then}
use Rattle.qw_feed.specs.Feeds.{one_row, Any, Tells, FedTo, FeedsTo}
use Rattle.qw_feed.specs.Frames.{pos, Keeps, But, From, Below, Before}
use Rattle.qw_feed.specs.Room.{i32, room_block, HasRoom, Paid}
use Rattle.qw_feed.proofs.Frames.{Never, Keeps-set, Keeps-less, below-under}
use Rattle.qw_feed.proofs.RoomRuns.{IsRefusal, Roomy, room_ends}
use Rattle.qw_table.specs.Entries.{Stands}
use Rattle.qw_table.specs.Joins.{Told}
use Rattle.qw_table.proofs.JoinTyped.{room_typed}
use Rattle.qw_group.specs.Areas.{InPlace}
use Rattle.qw_group.specs.Groups.{HasAreas, UpdatesAreas, AllGive, AreChosenWithin, ArgumentsUse, functions_in}
use Rattle.qw_group.specs.Single.{HasSingle, single_sink, single_block, Begins, Gathers}
use Rattle.qw_group.specs.declared.group.Aggregate.{Aggregate}
use Rattle.qw_group.proofs.EntryAreas.{areas-none, areas_do}
use Rattle.qw_group.proofs.GroupClauses.{updates_typed, updates_short}
use Rattle.qw_group.proofs.WideRuns.{none}

-- ---- the areas are placed
module _ (Text : Part → ℕ → List ℕ → Type 0) (aggregates : List Aggregate) (e u budget most fuel : ℕ) (e_high : 5 ≤ e) (small : 32 * length aggregates + u ≤ page) (s : LowState) (many : e < length s.locals) (part offset : ℕ)
    (h : HasRoom part offset s) (paid : Paid u budget offset s.held) (enough : budget + 2 * u < (most + 1) * u) where
  abbrev front : ℕ
  front = pos part offset

  abbrev n : ℕ
  n = 32 * length aggregates

  -- all locals are as they were but those of free space and the one that leads there
  abbrev pub Placed : LowState → Type 0
  Placed t = (k : ℕ) × (o : ℕ) × (pos part offset ≤ pos k o) × Keeps (But e (From 3)) (Before (pos part offset)) s t × HasSingle Text aggregates k o e u (budget + 32 * length aggregates) [] t

  module _ (t : LowState) (r : Roomy n u budget front s t) where
    abbrev k : ℕ
    k = r.part

    abbrev o : ℕ
    o = r.offset

    abbrev t1 : LowState
    t1 = record t { locals = slice_set t.locals e (Address (Own k) o) }

    abbrev t2 : LowState
    t2 = record t1 { locals = slice_set t1.locals 1 (Address (Own k) (o + n)) }

    abbrev t3 : LowState
    t3 = record t2 { locals = slice_set t2.locals 2 (Number (page - (o + n))) }

    many1 : length t1.locals ≡ length s.locals
    many1 = length-set t.locals e (Address (Own k) o) ∙ r.keeps.many

    many2 : length t2.locals ≡ length s.locals
    many2 = length-set t1.locals 1 (Address (Own k) (o + n)) ∙ many1

    e_there : slice_get t3.locals e ≡ Some (Address (Own k) o)
    e_there = slice_get-set_other t2.locals 2 e (Number (page - (o + n))) (λ i. omega (arith, i, e_high)) ∙ (slice_get-set_other t1.locals 1 e (Address (Own k) (o + n)) (λ i. omega (arith, i, e_high))
        ∙ slice_get-set_same t.locals e (Address (Own k) o) (omega (arith, many, r.keeps.many)))

    keeps3 : Keeps (But e (From 3)) (Before front) s t3
    keeps3 = Keeps-set (But e (From 3)) (Before front) s t2 2 (Number (page - (o + n))) (λ i old is. ⊎_elim (λ z. omega (arith, z, is)) (λ g. omega (arith, g, is)) old.0)
        (Keeps-set (But e (From 3)) (Before front) s t1 1 (Address (Own k) (o + n)) (λ i old is. ⊎_elim (λ z. omega (arith, z, is)) (λ g. omega (arith, g, is)) old.0)
        (Keeps-set (But e (From 3)) (Before front) s t e (Address (Own k) o) (λ i old is. old.1 is)
        (Keeps-less (But e (From 3)) (Before front) (From 3) (Before front) s t (λ i old. old.0) (λ at width below. below) r.keeps)))

    placed : Placed t3
    placed = (
      k,
      o,
      r.behind,
      keeps3,
      record {
        part = k;
        offset = o + n;
        room = record {
          last = r.room.last;
          pages = r.room.pages;
          within = r.fits;
          free = slice_get-set_other t2.locals 2 1 (Number (page - (o + n))) (λ i. omega (arith, i)) ∙ slice_get-set_same t1.locals 1 (Address (Own k) (o + n)) (omega (arith, many, many1, e_high));
          left = slice_get-set_same t2.locals 2 (Number (page - (o + n))) (omega (arith, many, many2, e_high));
          zeros = λ a b from to. r.room.zeros a b (omega arith) to;
          owned = r.room.owned;
          limited = r.room.limited;
          few = r.room.few;
        };
        at = e_there;
        sized = r.room.pages k (omega arith);
        inside = r.fits;
        behind = omega arith;
        areas = areas-none Text 0 aggregates t3.cells k o (λ a b from to. r.room.zeros a b from (omega (arith, to, r.fits)));
        paid = ⊎_elim inl (λ so. inr (omega (arith, so))) r.paid;
      },
    )

    further : value t1 (advance (local 1) (i32 n)) ≡ Some (Address (Own k) (o + n))
    further =
        let at : slice_get t1.locals 1 ≡ Some (Address (Own k) o) = slice_get-set_other t.locals e 1 (Address (Own k) o) (λ i. omega (arith, i, e_high)) ∙ r.room.free in
        rw (at, r.room.pages k (omega arith), le-leb (o + n) page r.fits) refl

    fewer : value t2 (binop I32 Sub (local 2) (i32 n)) ≡ Some (Number (page - (o + n)))
    fewer =
        let at : slice_get t2.locals 2 ≡ Some (Number (page - o)) = slice_get-set_other t1.locals 1 2 (Address (Own k) (o + n)) (λ i. omega (arith, i)) ∙ (slice_get-set_other t.locals e 2 (Address (Own k) o) (λ i. omega (arith, i, e_high)) ∙ r.room.left) in
        let difference : (page - o + 2 ^ 32 - n) % 2 ^ 32 ≡ page - (o + n) = omega (arith, r.fits) in
        rw (at, difference) refl

    places : Ends 10 Placed Never IsRefusal (meaning most fuel (seq (assign e (local 1)) (seq (assign 1 (advance (local 1) (i32 n))) (assign 2 (binop I32 Sub (local 2) (i32 n))))) t)
    places = assign_then Placed Never IsRefusal most fuel t 8 (seq (assign 1 (advance (local 1) (i32 n))) (assign 2 (binop I32 Sub (local 2) (i32 n)))) e (local 1) (Address (Own k) o) r.room.free (omega (arith, many, r.keeps.many))
        (assign_then Placed Never IsRefusal most fuel t1 4 (assign 2 (binop I32 Sub (local 2) (i32 n))) 1 (advance (local 1) (i32 n)) (Address (Own k) (o + n)) further (omega (arith, many, many1, e_high))
        (assign_ends Placed Never IsRefusal most fuel 2 (binop I32 Sub (local 2) (i32 n)) (Number (page - (o + n))) t2 fewer (omega (arith, many, many2, e_high)) placed))

  pub single_ends : Ends 26 Placed Never IsRefusal (meaning most fuel (single_block n e) s)
  single_ends = Ends-then Placed Never IsRefusal 16 10 (Roomy n u budget front s) (meaning most fuel (room_block n) s) (meaning most fuel (seq (assign e (local 1)) (seq (assign 1 (advance (local 1) (i32 n))) (assign 2 (binop I32 Sub (local 2) (i32 n))))))
      (room_ends most fuel n u budget budget (omega (arith, small)) (omega arith) (omega (arith, small)) s (omega (arith, many, e_high)) part offset h paid enough)
      places

-- ---- one row more
module _ (Text : Part → ℕ → List ℕ → Type 0) (aggregates : List Aggregate) (e free : ℕ) (a : Statement) (updates : UpdatesAreas e 0 free aggregates a) (low : (5 ≤ e) × (e < free)) (uses : ArgumentsUse free aggregates) (k o u budget most fuel chosen more : ℕ) (May : List (List Val) → Type 0)
    (beginnings : (rows others : List (List Val)) → May (rows ++ others) → May rows) (row : List Val) (s : LowState) (stands : (t : LowState) → Keeps (Below free) (Before (pos k o)) s t → (p : Part) (at : ℕ) (octets : List ℕ) → Text p at octets → Stands t p at octets)
    (gives : AllGive Text s.locals 0 aggregates row) (few_rows : (xs : List (List Val)) → May xs → 1 ≤ length aggregates → length xs ≤ 10 ^ 18)
    (chosen_within : AreChosenWithin 0 (functions_in aggregates) row chosen) (units : 1 + chosen ≤ more) (turns : more ≤ fuel) (room : free + 9 ≤ length s.locals) where
  in_place : (to : ℕ) (t : LowState) → InPlace k (o + 0) to free s t → Keeps (Below free) (Before (pos k o)) s t
  in_place to t done = subst (λ (q : LowState). Keeps (Below free) (Before (pos k o)) s q) (sym done.others) (record {
    many = done.many;
    locals = λ i old. let under = below-under free free i (omega arith) (omega (arith, low.0, low.1)) old in done.below i under;
    own = λ l size' is. is;
    columns = refl;
    limit = refl;
    refused = refl;
    mapped = done.mapped;
    cells = λ l x b spared. done.cells l x b (inl (omega (arith, spared)));
  })

  pub single_feeds : FeedsTo (single_sink Text aggregates k o e u budget May beginnings) most fuel more (Below free) Any (one_row row) a s
  single_feeds so_far has may =
      let few : 1 ≤ length aggregates → length so_far < 10 ^ 18 = λ there. (let all = few_rows (so_far ++ row ∷ []) may there in omega (arith, all, length-append so_far (row ∷ []))) in
      let to : ℕ = o + 0 + 32 * length aggregates in
      let zeroth : o + 0 ≡ o = omega arith in
      Ends-weaker (size a * more) (size a * more) (λ t. InPlace k (o + 0) to free s t × HasAreas Text 0 aggregates (so_far ++ row ∷ []) t.cells k (o + 0)) (FedTo (single_sink Text aggregates k o e u budget May beginnings) (Below free) Any (one_row row) so_far s) Never Never none (Tells [])
      (meaning most fuel a s) (omega arith)
      (λ t done. record { none = refl; keeps = in_place to t done.0; has = changed so_far has t done.0 (subst (λ (n : ℕ). HasAreas Text 0 aggregates (so_far ++ row ∷ []) t.cells k n) zeroth done.1); after = tt })
      (λ t y. y) (λ code y. absurd y)
      (areas_do Text most fuel more chosen k o e free free (omega (arith, units)) turns low.1 (omega arith) row units 0 0 aggregates a so_far s updates uses few chosen_within gives has.at has.sized (omega (arith, has.inside)) room
      (λ t done. stands t (in_place to t done)) (subst (λ (n : ℕ). HasAreas Text 0 aggregates so_far s.cells k n) (sym zeroth) has.areas))
    where
      changed : (so_far : List (List Val)) → HasSingle Text aggregates k o e u budget so_far s → (t : LowState) → InPlace k (o + 0) (o + 0 + 32 * length aggregates) free s t → HasAreas Text 0 aggregates (so_far ++ row ∷ []) t.cells k o → HasSingle Text aggregates k o e u budget (so_far ++ row ∷ []) t
      changed so_far has t done areas = record {
        part = has.part;
        offset = has.offset;
        room = record {
          last = ap (λ (q : LowState). length q.own) done.others ∙ has.room.last;
          pages = λ l low'. ap (λ (q : LowState). slice_get q.own l) done.others ∙ has.room.pages l low';
          within = has.room.within;
          free = done.below 1 (omega (arith, low.0, low.1)) ∙ has.room.free;
          left = done.below 2 (omega (arith, low.0, low.1)) ∙ has.room.left;
          zeros = λ x b from till. done.cells has.part x b (inr (omega (arith, from, has.behind))) ∙ has.room.zeros x b from till;
          owned = omega (arith, has.room.owned, ap (λ (q : LowState). length q.own) done.others, ap (λ (q : LowState). q.held) done.others);
          limited = omega (arith, has.room.limited, ap (λ (q : LowState). q.held) done.others);
          few = omega (arith, has.room.few, ap (λ (q : LowState). q.limit) done.others);
        };
        at = done.below e low.1 ∙ has.at;
        sized = ap (λ (q : LowState). slice_get q.own k) done.others ∙ has.sized;
        inside = has.inside;
        behind = has.behind;
        areas = areas;
        paid = subst (λ (held : ℕ). Paid u budget has.offset held) (sym (ap (λ (q : LowState). q.held) done.others)) has.paid;
      }

-- ---- the clauses
pub begins : (e : ℕ) (aggregates : List Aggregate) → 5 ≤ e → length aggregates ≤ 2000 → Begins e aggregates (single_block (32 * length aggregates) e)
begins e aggregates high few = record {
  runs = λ text u budget most fuel part offset s small has paid enough many.
      Ends-weaker 26 (size (single_block (32 * length aggregates) e)) (Placed (Told text) aggregates e u budget most fuel high small s many part offset has paid enough)
      (λ t. (k : ℕ) × (o : ℕ) × (pos part offset ≤ pos k o) × Keeps (Below e) (Before (pos part offset)) s t × HasSingle (Told text) aggregates k o e u (budget + 32 * length aggregates) [] t) Never Never IsRefusal IsRefusal (meaning most fuel (single_block (32 * length aggregates) e) s) (omega arith)
      (λ t placed. (
        placed.0,
        placed.1,
        placed.2,
        Keeps-less (Below e) (Before (pos part offset)) (But e (From 3)) (Before (pos part offset)) s t (λ i old. ⊎_elim (λ z. (inl z, λ is. omega (arith, z, is, high))) (λ g. (inr (omega (arith, g.0)), λ is. omega (arith, g.1, is))) old) (λ at width below. below) placed.3,
        placed.4,
      )) (λ t x. x) (λ code x. x)
      (single_ends (Told text) aggregates e u budget most fuel high small s many part offset has paid enough);
  typed = λ types free_is left_is e_is. let n : 32 * length aggregates < 2 ^ 32 = omega (arith, few) in
      (room_typed types free_is left_is (32 * length aggregates) n, ((I32, e_is, free_is), ((I32, free_is, (free_is, (n, refl), refl)), (I32, left_is, (left_is, (n, refl), refl)))));
  short = omega arith;
}

pub gathers : (e : ℕ) (aggregates : List Aggregate) (free : ℕ) (a : Statement) → (5 ≤ e) × (e < free) → ArgumentsUse free aggregates → UpdatesAreas e 0 free aggregates a → Gathers e aggregates free a
gathers e aggregates free a low uses updates = record {
  runs = λ text may beginnings k o u budget most fuel chosen more row s stands gives few_rows chosen_within units turns room.
      single_feeds (Told text) aggregates e free a updates low uses k o u budget most fuel chosen more (λ xs. IsTrue (may xs)) beginnings row s stands gives few_rows chosen_within units turns room;
  typed = λ types e_is declared own. updates_typed types e 0 free aggregates a e_is own declared updates;
  short = updates_short e 0 free aggregates a updates;
}
