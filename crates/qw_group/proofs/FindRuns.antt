-- The entry of a key is looked for.
use Rattle.std.proofs.Common.{◌≡◌, ℕ, suc, ◌+◌, ◌*◌, ◌<◌, ◌⊎◌, inl, inr, Bool, List, [], ◌∷◌, length, length-set, Some, slice_get, slice_set, refl, sym, ap, ◌∙◌, ⊎_elim, arith}
use Rattle.std.proofs.lemmas.Bool.{le-leb}
use Rattle.qw_types.specs.ValueOrder.{is_same_row}
use Rattle.qw_types.specs.declared.value.Val.{Val}
use Rattle.qw_linear.specs.Memory.{page}
use Rattle.qw_map.proofs.TurnFacts.{slice_get-set_same}
use Rattle.qw_module.specs.Numbers.{truth}
use Rattle.qw_module.specs.declared.instruction.ValType.TheVariants.{I32}
use Rattle.qw_module.specs.declared.instruction.Load.TheVariants as loads
use Rattle.qw_low.specs.Syntax.{local, Statement, seq, assign, load, conditional, while}
use Rattle.qw_low.specs.State.{Own, Number, Address, Cells, LowState}
use Rattle.qw_low.specs.Meaning.{value, cost, meaning}
use Rattle.qw_low.specs.Size as sizes
use Rattle.qw_low.specs.Promise.{Ends, IsSet}
use Rattle.qw_low.specs.Raising.{Kept}
use Rattle.qw_low.proofs.Promises.{Ends-more, Ends-then, assign_ends, conditional_ends, turns_end}
use Rattle.qw_low.proofs.Results.{Kept-same, Kept-set, Kept-then}
use Rattle.qw_low.proofs.BlockSteps.{assign_then, load_then, load_ends}
use Rattle.qw_feed.specs.Frames.{pos}
use Rattle.qw_feed.specs.Room.{i32}
use Rattle.qw_feed.specs.Rows.{Row, address}
use Rattle.qw_feed.specs.Stages.{Test}
use Rattle.qw_feed.proofs.Frames.{Never}
use Rattle.qw_table.specs.Tables.{newest, Linked, slot_at}
use Rattle.qw_table.proofs.Chains.{newest-loaded}
use Rattle.qw_group.specs.Groups.{In, HasGroups, find_turn, find_block}
use Rattle.qw_group.proofs.KeyFacts.{is-same, isnt-same, same-or}
use Rattle.qw_group.proofs.WideRuns.{none, set_other}

module _ (columns : ℕ) (Has : List (List Val) → Cells → ℕ → ℕ → List Val → Type 0) (size most fuel d h g k o u before U : ℕ) (rows : List (List Val)) (s : LowState) (has : HasGroups columns Has size k o d u before rows s) (j : ℕ) (key : List Val)
    (j_low : j < 1024) (d_low : d < g) (h_low : h < g) (h_is : slice_get s.locals h ≡ Some (Number (4 * j))) (room : g + 1 < length s.locals) (more : length (has.chains j) < fuel) (test : Test)
    (test_ends : (e : Row) (t : LowState) → Kept g s t → slice_get t.locals (g + 1) ≡ Some (address e) → Has rows s.cells e.part e.offset e.values →
    Ends (sizes.size test.block * U) (λ w. Kept (g + 2) t w × (value w test.out ≡ Some (Number (truth (is_same_row key e.values))))) Never none (meaning most fuel test.block t)) where
  abbrev chain : List Row
  chain = has.chains j

  abbrev L : List Row → Type 0
  L es = Linked (Has rows) size s.cells (pos k (o + 4096)) (pos has.part has.offset) es

  abbrev pub each : ℕ
  each = sizes.size test.block * U + (cost test.out + 5)

  -- these are left, and the others have other keys
  pub record Going (left : List Row) (t : LowState) : Type 0 where
    pub kept : Kept g s t
    pub x_is : slice_get t.locals (g + 1) ≡ Some (newest left)
    pub g_is : slice_get t.locals g ≡ Some (Number 0)
    pub inside : (f : Row) → In f left → In f chain
    pub others : (f : Row) → In f chain → In f left ⊎ (f.values ≡ key → ⊥)
    pub linked : L left

  pub record Met (e : Row) (t : LowState) : Type 0 where
    pub kept : Kept g s t
    pub there : In e chain
    pub is_it : e.values ≡ key
    pub g_is : slice_get t.locals g ≡ Some (address e)

  pub record Missed (t : LowState) : Type 0 where
    pub kept : Kept g s t
    pub others : (f : Row) → In f chain → f.values ≡ key → ⊥
    pub g_is : slice_get t.locals g ≡ Some (Number 0)

  abbrev pub Found : LowState → Type 0
  Found t = ((e : Row) × Met e t) ⊎ Missed t

  abbrev Seeks : ℕ → LowState → Type 0
  Seeks n t = ((left : List Row) × (length left ≡ n) × Going left t) ⊎ ((n ≡ 0) × (slice_get t.locals (g + 1) ≡ Some (Number 0)) × (e : Row) × Met e t)

  module _ (e : Row) (left : List Row) (t : LowState) (at : Going (e ∷ left) t) where
    abbrev hit : Statement
    hit = seq (assign g (local (g + 1))) (assign (g + 1) (i32 0))

    abbrev miss : Statement
    miss = load (g + 1) (loads.Full I32) 0 (local (g + 1))

    abbrev I : LowState → Type 0
    I = Seeks (length left)

    abbrev choice : Statement
    choice = conditional test.out hit miss

    abbrev Decided : LowState → Type 0
    Decided w = Kept (g + 2) t w × (value w test.out ≡ Some (Number (truth (is_same_row key e.values))))

    module _ (t1 : LowState) (decided : Decided t1) where
      kept1 : Kept g s t1
      kept1 = Kept-then g (g + 2) s t t1 (omega arith) at.kept decided.0

      many1 : length t1.locals ≡ length s.locals
      many1 = kept1.many

      x1 : slice_get t1.locals (g + 1) ≡ Some (address e)
      x1 = decided.0.below (g + 1) (omega arith) ∙ at.x_is

      g1 : slice_get t1.locals g ≡ Some (Number 0)
      g1 = decided.0.below g (omega arith) ∙ at.g_is

      abbrev t2 : LowState
      t2 = record t1 { locals = slice_set t1.locals g (address e) }

      kept2 : Kept g s t2
      kept2 = Kept-set g s t1 g (address e) kept1 (omega arith)

      hits : e.values ≡ key → Ends 4 (Seeks 0) Never none (meaning most fuel hit t1)
      hits is =
          assign_then (Seeks 0) Never none most fuel t1 2 (assign (g + 1) (i32 0)) g (local (g + 1)) (address e) x1 (omega (arith, many1, room))
          (assign_ends (Seeks 0) Never none most fuel (g + 1) (i32 0) (Number 0) t2 refl (omega (arith, kept2.many, room))
          (inr (
            refl,
            slice_get-set_same t2.locals (g + 1) (Number 0) (omega (arith, kept2.many, room)),
            e,
            record {
              kept = Kept-set g s t2 (g + 1) (Number 0) kept2 (omega arith);
              there = at.inside e (inl refl);
              is_it = is;
              g_is = set_other t2.locals (g + 1) g (Number 0) (address e) (λ i. omega (arith, i)) (slice_get-set_same t1.locals g (address e) (omega (arith, many1, room)));
            },
          )))

      link_is : t1.cells (Own e.part) (e.offset + 0) 4 ≡ Some (newest left)
      link_is =
          let same : e.offset + 0 ≡ e.offset = omega arith in
          rw same (ap (λ (r : LowState). r.cells (Own e.part) e.offset 4) kept1.others ∙ at.linked.3)

      misses : (e.values ≡ key → ⊥) → Ends 3 I Never none (meaning most fuel miss t1)
      misses isnt =
          load_ends I Never none most fuel t1 (g + 1) (loads.Full I32) 0 (local (g + 1)) (Own e.part) e.offset (e.offset + 0) (newest left) (newest left) x1 refl link_is (newest-loaded left) (omega (arith, many1, room))
          (inl (
            left,
            refl,
            record {
              kept = Kept-set g s t1 (g + 1) (newest left) kept1 (omega arith);
              x_is = slice_get-set_same t1.locals (g + 1) (newest left) (omega (arith, many1, room));
              g_is = set_other t1.locals (g + 1) g (newest left) (Number 0) (λ i. omega (arith, i)) g1;
              inside = λ f there. at.inside f (inr there);
              others = λ f there. ⊎_elim (λ here. ⊎_elim (λ same. inr (λ is. isnt (ap (λ (q : Row). q.values) (sym same) ∙ is))) (λ later. inl later) here) (λ other. inr other) (at.others f there);
              linked = at.linked.5;
            },
          ))

    -- the number of turns left, by whether it was found
    turn_ends : (n : ℕ) × (n < suc (length left)) × Ends each (Seeks n) Never none (meaning most fuel (find_turn g test) t)
    turn_ends = ⊎_elim
        (λ (same : e.values ≡ key). (
          0,
          omega arith,
          tested 0 (λ t1 decided. conditional_ends (Seeks 0) Never none most fuel 4 test.out hit miss t1
              (inl (inl (0, decided.1 ∙ ap (λ (b : Bool). Some (Number (truth b))) (is-same key e.values (sym same))), hits t1 decided same))),
        ))
        (λ (other : e.values ≡ key → ⊥). (
          length left,
          omega arith,
          tested (length left) (λ t1 decided. conditional_ends I Never none most fuel 4 test.out hit miss t1
              (inr (decided.1 ∙ ap (λ (b : Bool). Some (Number (truth b))) (isnt-same key e.values (λ i. other (sym i))), Ends-more I Never none 3 4 (meaning most fuel miss t1) (omega arith) (misses t1 decided other)))),
        ))
        (⊎_elim (λ i. inl (sym i)) (λ no. inr (λ i. no (sym i))) (same-or key e.values))
      where
        tested : (n : ℕ) → ((t1 : LowState) → Kept (g + 2) t t1 × (value t1 test.out ≡ Some (Number (truth (is_same_row key e.values)))) → Ends (cost test.out + 1 + 4) (Seeks n) Never none (meaning most fuel (conditional test.out (seq (assign g (local (g + 1))) (assign (g + 1) (i32 0))) (load (g + 1) (loads.Full I32) 0 (local (g + 1)))) t1)) →
            Ends each (Seeks n) Never none (meaning most fuel (find_turn g test) t)
        tested n onward =
            Ends-more (Seeks n) Never none (sizes.size test.block * U + (cost test.out + 1 + 4)) each (meaning most fuel (find_turn g test) t) (omega arith)
            (Ends-then (Seeks n) Never none (sizes.size test.block * U) (cost test.out + 1 + 4) (λ w. Kept (g + 2) t w × (value w test.out ≡ Some (Number (truth (is_same_row key e.values))))) (meaning most fuel test.block t) (meaning most fuel (conditional test.out (seq (assign g (local (g + 1))) (assign (g + 1) (i32 0))) (load (g + 1) (loads.Full I32) 0 (local (g + 1)))))
            (test_ends e t at.kept at.x_is at.linked.4) onward)

  turn : (n : ℕ) (t : LowState) → Seeks n t → ((value t (local (g + 1)) ≡ Some (Number 0)) × Found t) ⊎ (IsSet (value t (local (g + 1))) × (m : ℕ) × (m < n) × Ends each (Seeks m) Never none (meaning most fuel (find_turn g test) t))
  turn n t (inl going) = by_left going.0 going.1 going.2
    where
      by_left : (left : List Row) → length left ≡ n → Going left t → ((value t (local (g + 1)) ≡ Some (Number 0)) × Found t) ⊎ (IsSet (value t (local (g + 1))) × (m : ℕ) × (m < n) × Ends each (Seeks m) Never none (meaning most fuel (find_turn g test) t))
      by_left [] is at = inl (at.x_is, inr (record { kept = at.kept; others = λ f there same. ⊎_elim (λ nowhere. absurd nowhere) (λ other. other same) (at.others f there); g_is = at.g_is }))
      by_left (e ∷ left) is at = let one = turn_ends e left t at in inr (inr (Own e.part, e.offset, at.x_is), one.0, omega (arith, is, one.1), one.2)
  turn n t (inr met) = inl (met.1, inl (met.2, met.3))

  abbrev s1 : LowState
  s1 = record s { locals = slice_set s.locals g (Number 0) }

  abbrev s2 : LowState
  s2 = record s1 { locals = slice_set s1.locals (g + 1) (newest chain) }

  many : length s1.locals ≡ length s.locals
  many = length-set s.locals g (Number 0)

  begun : Going chain s2
  begun = record {
    kept = Kept-set g s s1 (g + 1) (newest chain) (Kept-set g s s g (Number 0) (Kept-same g s) (omega arith)) (omega arith);
    x_is = slice_get-set_same s1.locals (g + 1) (newest chain) (omega (arith, many, room));
    g_is = set_other s1.locals (g + 1) g (newest chain) (Number 0) (λ i. omega (arith, i)) (slice_get-set_same s.locals g (Number 0) (omega (arith, room)));
    inside = λ f there. there;
    others = λ f there. inl there;
    linked = has.linked j j_low;
  }

  slot_is : value s1 (slot_at d h) ≡ Some (Address (Own k) (o + 4 * j))
  slot_is = rw (set_other s.locals g d (Number 0) (Address (Own k) o) (λ i. omega (arith, i, d_low)) has.at, set_other s.locals g h (Number 0) (Number (4 * j)) (λ i. omega (arith, i, h_low)) h_is, has.directory.sized, le-leb (o + 4 * j) page (omega (arith, has.directory.inside, j_low))) refl

  -- so many instructions for an entry of the slot, and 9
  pub find_ends : Ends (length chain * (each + 3) + 9) Found Never none (meaning most fuel (find_block d h g test) s)
  find_ends =
      let same : each + 1 + 2 ≡ each + 3 = omega arith in
      Ends-more Found Never none (2 + (5 + (length chain * (each + 1 + 2) + 2))) (length chain * (each + 3) + 9) (meaning most fuel (find_block d h g test) s) (omega (arith, ap (λ (m : ℕ). length chain * m) same))
      (assign_then Found Never none most fuel s (5 + (length chain * (each + 1 + 2) + 2)) (seq (load (g + 1) (loads.Full I32) 0 (slot_at d h)) (while (local (g + 1)) (find_turn g test))) g (i32 0) (Number 0) refl (omega (arith, room))
      (load_then Found Never none most fuel s1 (length chain * (each + 1 + 2) + 2) (while (local (g + 1)) (find_turn g test)) (g + 1) (loads.Full I32) 0 (slot_at d h) (Own k) (o + 4 * j) (o + 4 * j) (newest chain) (newest chain) slot_is (omega arith)
      (has.directory.slots j j_low) (newest-loaded chain) (omega (arith, many, room))
      (turns_end each Seeks Found Never none (local (g + 1)) (meaning most fuel (find_turn g test)) turn fuel (length chain) s2 more (inl (chain, refl, begun)))))
