-- Where less is known of memory a statement does the same, as far as it does not go wrong.
use Rattle.std.proofs.Common.{◌≡◌, ℕ, zero, suc, ◌+◌, ◌*◌, ◌==◌, nat_le, nat_lt, ◌&&◌, ◌||◌, if◌then◌else◌, Bool, true, false, length, Option, Some, None, slice_get, slice_set, refl, sym, ap, ap₂, ◌∙◌, subst}
use Rattle.std.specs.Option.{option_and_then}
use Rattle.qw_linear.specs.Memory.{page}
use Rattle.qw_module.specs.declared.instruction.Load.{Load}
use Rattle.qw_module.specs.Numbers.{binary, converted, division, load_width, relation, store_width, unary}
use Rattle.qw_low.specs.Syntax.{Expression, constant_of, local, unop, binop, divop, is_zero, relop, cvtop, advance, retreat, Statement, skip, seq, assign, load, store, conditional, while, request, raise, exit}
use Rattle.qw_low.specs.State.{Part, Column, Own, Value, Number, Address, Cells, LowState, is_within, loaded_as, same_part, stored_as, with_cell, with_pages, with_part}
use Rattle.qw_low.specs.Meaning.{value, cost, Outcome, Completed, Exited, Stopped, Wrong, Unfinished, advanced, and_then, by_value, counting, found_at, if_defined, meaning, of_number, of_numbers, put_at, raised, requested, retreated, turns, unless_zero, with_local, zero_test}
use Rattle.qw_low.specs.Promise.{Ends}

-- the state, of whose memory these cells are known
abbrev pub seen : Cells → LowState → LowState
seen c s = record s { cells = c }

-- what is known by the one is known by the other
abbrev pub IsLess : Cells → Cells → Type 0
IsLess c d = (p : Part) (offset width : ℕ) (v : Value) → c p offset width ≡ Some v → d p offset width ≡ Some v

-- the same outcome, of states of which the second one knows more
abbrev pub Matches : Outcome → Outcome → Type 0
Matches (Completed n s) out = (d : Cells) × IsLess s.cells d × (out ≡ Completed n (seen d s))
Matches (Exited n s) out = (d : Cells) × IsLess s.cells d × (out ≡ Exited n (seen d s))
Matches (Stopped code n s) out = (d : Cells) × IsLess s.cells d × (out ≡ Stopped code n (seen d s))
Matches Wrong out = Unit {0}
Matches Unfinished out = Unit {0}

-- ---- expressions read no memory
module _ (s : LowState) (d : Cells) where
  advanced-seen : (a n : Option Value) → advanced (seen d s) a n ≡ advanced s a n
  advanced-seen None n = refl
  advanced-seen (Some (Number x)) n = refl
  advanced-seen (Some (Address p o)) None = refl
  advanced-seen (Some (Address p o)) (Some (Address q x)) = refl
  advanced-seen (Some (Address (Column k) o)) (Some (Number n)) = refl
  advanced-seen (Some (Address (Own k) o)) (Some (Number n)) = refl

  pub value-seen : (e : Expression) → value (seen d s) e ≡ value s e
  value-seen (constant_of c) = refl
  value-seen (local x) = refl
  value-seen (unop t u e) = ap (of_number (unary t u)) (value-seen e)
  value-seen (binop t b l r) = ap₂ (of_numbers (λ x y. Some (binary t b x y))) (value-seen l) (value-seen r)
  value-seen (divop t d' l r) = ap₂ (of_numbers (λ x y. if_defined (division t d' x y))) (value-seen l) (value-seen r)
  value-seen (is_zero t e) = ap (zero_test t) (value-seen e)
  value-seen (relop t r a b) = ap₂ (of_numbers (λ x y. Some (relation t r x y))) (value-seen a) (value-seen b)
  value-seen (cvtop c e) = ap (of_number (converted c)) (value-seen e)
  value-seen (advance a n) = ap₂ (advanced (seen d s)) (value-seen a) (value-seen n) ∙ advanced-seen (value s a) (value s n)
  value-seen (retreat a n) = ap₂ retreated (value-seen a) (value-seen n)

-- ---- outcomes
matched-counting : (n : ℕ) (out other : Outcome) → Matches out other → Matches (counting n out) (counting n other)
matched-counting n (Completed m s) other h = (h.0, h.1, ap (counting n) h.2)
matched-counting n (Exited m s) other h = (h.0, h.1, ap (counting n) h.2)
matched-counting n (Stopped code m s) other h = (h.0, h.1, ap (counting n) h.2)
matched-counting n Wrong other h = tt
matched-counting n Unfinished other h = tt

matched-then : (out other : Outcome) (f g : LowState → Outcome) → Matches out other → ((s : LowState) (d : Cells) → IsLess s.cells d → Matches (f s) (g (seen d s))) → Matches (and_then out f) (and_then other g)
matched-then (Completed n s) other f g h same =
    subst (λ (o : Outcome). Matches (counting n (f s)) (and_then o g)) (sym h.2) (matched-counting n (f s) (g (seen h.0 s)) (same s h.0 h.1))
matched-then (Exited n s) other f g h same = (h.0, h.1, ap (λ (o : Outcome). and_then o g) h.2)
matched-then (Stopped code n s) other f g h same = (h.0, h.1, ap (λ (o : Outcome). and_then o g) h.2)
matched-then Wrong other f g h same = tt
matched-then Unfinished other f g h same = tt

matched-value : (found : Option Value) (f g : ℕ → Outcome) → ((n : ℕ) → Matches (f n) (g n)) → Matches (by_value found f) (by_value found g)
matched-value None f g same = tt
matched-value (Some (Number n)) f g same = same n
matched-value (Some (Address p o)) f g same = same 1

matched-unless : (n : ℕ) (a b a' b' : Outcome) → Matches a a' → Matches b b' → Matches (unless_zero n a b) (unless_zero n a' b')
matched-unless zero a b a' b' first second = second
matched-unless (suc n) a b a' b' first second = first

-- the state after a request that was granted
abbrev granted : LowState → (to pages : ℕ) → LowState
granted s x pages = record (with_pages s pages) { locals = slice_set s.locals x (Address (Own (length s.own)) 0) }

module _ (s : LowState) (d : Cells) (less : IsLess s.cells d) where
  matched-local : (n x : ℕ) (found other : Option Value) → ((v : Value) → found ≡ Some v → other ≡ Some v) → Matches (with_local n s x found) (with_local n (seen d s) x other)
  matched-local n x None other more = tt
  matched-local n x (Some v) other more =
      subst (λ (o : Option Value). Matches (with_local n s x (Some v)) (with_local n (seen d s) x o)) (sym (more v refl)) (by_test (nat_lt x (length s.locals)))
    where
      by_test : (b : Bool) → Matches (if b then Completed n (record s { locals = slice_set s.locals x v }) else Wrong) (if b then Completed n (record (seen d s) { locals = slice_set s.locals x v }) else Wrong)
      by_test true = (d, less, refl)
      by_test false = tt

  -- ---- loads and stores
  found-more : (l : Load) (offset : ℕ) (a : Option Value) (v : Value) → found_at s l offset a ≡ Some v → found_at (seen d s) l offset a ≡ Some v
  found-more l offset None v is = is
  found-more l offset (Some (Number n)) v is = is
  found-more l offset (Some (Address p o)) v is = by_cell (s.cells p (o + offset) (load_width l)) refl is
    where
      by_cell : (found : Option Value) → s.cells p (o + offset) (load_width l) ≡ found → option_and_then (loaded_as l) found ≡ Some v → option_and_then (loaded_as l) (d p (o + offset) (load_width l)) ≡ Some v
      by_cell None there is = absurd cc
      by_cell (Some w) there is = rw (less p (o + offset) (load_width l) w there) is

  less-stored : (p : Part) (o width : ℕ) (v : Value) → IsLess (with_cell s.cells p o width v) (with_cell d p o width v)
  less-stored p o width v q a b w = by_tests (same_part p q) ((a == o) && (b == width)) (nat_le (a + b) o || nat_le (o + width) a)
    where
      by_tests : (here exact apart : Bool) → (if here then (if exact then Some v else (if apart then s.cells q a b else None)) else s.cells q a b) ≡ Some w →
          (if here then (if exact then Some v else (if apart then d q a b else None)) else d q a b) ≡ Some w
      by_tests false exact apart is = less q a b w is
      by_tests true true apart is = is
      by_tests true false true is = less q a b w is
      by_tests true false false is = is

  matched-put : (n offset width : ℕ) (a v : Option Value) → Matches (put_at n s offset width a v) (put_at n (seen d s) offset width a v)
  matched-put n offset width None v = tt
  matched-put n offset width (Some (Number x)) v = tt
  matched-put n offset width (Some (Address (Column k) o)) v = tt
  matched-put n offset width (Some (Address (Own k) o)) None = tt
  matched-put n offset width (Some (Address (Own k) o)) (Some v) = by_test (is_within (slice_get s.own k) (o + offset + width))
    where
      by_test : (b : Bool) → Matches (if b then Completed n (record s { cells = with_cell s.cells (Own k) (o + offset) width v }) else Wrong) (if b then Completed n (record (seen d s) { cells = with_cell d (Own k) (o + offset) width v }) else Wrong)
      by_test true = (with_cell d (Own k) (o + offset) width v, less-stored (Own k) (o + offset) width v, refl)
      by_test false = tt

  -- ---- requests
  less-grown : (k size : ℕ) → IsLess (with_part s.cells k size) (with_part d k size)
  less-grown k size q a b w = by_tests (same_part (Own k) q) (nat_le (a + b) size)
    where
      by_tests : (here within : Bool) → (if here then (if within then Some (Number 0) else None) else s.cells q a b) ≡ Some w → (if here then (if within then Some (Number 0) else None) else d q a b) ≡ Some w
      by_tests false within is = less q a b w is
      by_tests true within is = is

  matched-request : (most n x : ℕ) (found : Option Value) → Matches (requested most n s x found) (requested most n (seen d s) x found)
  matched-request most n x None = tt
  matched-request most n x (Some (Address p o)) = tt
  matched-request most n x (Some (Number pages)) =
      by_tests (nat_lt x (length s.locals) && (nat_le 1 pages && nat_le (s.held + pages) most)) (nat_le (s.held + pages) s.limit)
    where
      by_tests : (may grants : Bool) → Matches (if may then (if grants then Completed (n + 9) (granted s x pages) else Stopped 3 (n + 7) (record s { refused = Some pages })) else Wrong)
          (if may then (if grants then Completed (n + 9) (granted (seen d s) x pages) else Stopped 3 (n + 7) (record (seen d s) { refused = Some pages })) else Wrong)
      by_tests true true = (with_part d (length s.own) (pages * page), less-grown (length s.own) (pages * page), refl)
      by_tests true false = (d, less, refl)
      by_tests false grants = tt

  matched-raise : (code : ℕ) → Matches (raised code s) (raised code (seen d s))
  matched-raise zero = tt
  matched-raise (suc zero) = (d, less, refl)
  matched-raise (suc (suc zero)) = (d, less, refl)
  matched-raise (suc (suc (suc code))) = tt

-- ---- loops and statements
module _ (e : Expression) (body : LowState → Outcome) (same : (s : LowState) (d : Cells) → IsLess s.cells d → Matches (body s) (body (seen d s))) where
  matched-turns : (fuel : ℕ) (s : LowState) (d : Cells) → IsLess s.cells d → Matches (turns e body fuel s) (turns e body fuel (seen d s))
  matched-turns zero s d less = tt
  matched-turns (suc fuel) s d less =
      rw (value-seen s d e) (matched-value (value s e)
      (λ n. unless_zero n (counting (cost e + 2) (and_then (body s) (λ t. turns e body fuel t))) (Completed (cost e + 1) s))
      (λ n. unless_zero n (counting (cost e + 2) (and_then (body (seen d s)) (λ t. turns e body fuel t))) (Completed (cost e + 1) (seen d s)))
      (λ n. matched-unless n (counting (cost e + 2) (and_then (body s) (λ t. turns e body fuel t))) (Completed (cost e + 1) s)
      (counting (cost e + 2) (and_then (body (seen d s)) (λ t. turns e body fuel t))) (Completed (cost e + 1) (seen d s))
      (matched-counting (cost e + 2) _ _ (matched-then (body s) (body (seen d s)) (λ t. turns e body fuel t) (λ t. turns e body fuel t) (same s d less)
      (λ t c more. matched-turns fuel t c more)))
      (d, less, refl)))

module _ (most fuel : ℕ) where
  pub matched : (a : Statement) (s : LowState) (d : Cells) → IsLess s.cells d → Matches (meaning most fuel a s) (meaning most fuel a (seen d s))
  matched skip s d less = (d, less, refl)
  matched (seq a b) s d less = matched-then (meaning most fuel a s) (meaning most fuel a (seen d s)) (meaning most fuel b) (meaning most fuel b) (matched a s d less) (matched b)
  matched (assign x e) s d less = rw (value-seen s d e) (matched-local s d less (cost e + 1) x (value s e) (value s e) (λ v is. is))
  matched (load x l offset a) s d less =
      rw (value-seen s d a) (matched-local s d less (cost a + 2) x (found_at s l offset (value s a)) (found_at (seen d s) l offset (value s a)) (found-more s d less l offset (value s a)))
  matched (store st offset a e) s d less =
      rw (value-seen s d a, value-seen s d e) (matched-put s d less (cost a + cost e + 1) offset (store_width st) (value s a) (option_and_then (stored_as st) (value s e)))
  matched (conditional e a b) s d less =
      rw (value-seen s d e) (matched-value (value s e) (λ n. counting (cost e + 1) (unless_zero n (meaning most fuel a s) (meaning most fuel b s)))
      (λ n. counting (cost e + 1) (unless_zero n (meaning most fuel a (seen d s)) (meaning most fuel b (seen d s))))
      (λ n. matched-counting (cost e + 1) _ _ (matched-unless n (meaning most fuel a s) (meaning most fuel b s) (meaning most fuel a (seen d s)) (meaning most fuel b (seen d s)) (matched a s d less) (matched b s d less))))
  matched (while e a) s d less = matched-turns e (meaning most fuel a) (matched a) fuel s d less
  matched (request e x) s d less = rw (value-seen s d e) (matched-request s d less most (cost e) x (value s e))
  matched (raise code) s d less = matched-raise s d less code
  matched exit s d less = (d, less, refl)

  -- What a block promises where some cells alone are known, it promises where more is known: of the state that it leaves there, seen so.
  module _ (m n : ℕ) (P Q X Y : LowState → Type 0) (R S : ℕ → Type 0) (c : Cells) (cells_are : (t : LowState) → Q t → t.cells ≡ c) where
    both-outcomes : (less more : Outcome) → Matches less more → Ends n Q Y S less → Ends m P X R more → Ends m (λ t. P t × Q (seen c t)) X R more
    both-outcomes (Completed k t) more h known whole =
        let back : Q (seen c t) = subst (λ (d : Cells). Q (seen d t)) (cells_are t known.1) known.1 in
        subst (λ (o : Outcome). Ends m P X R o → Ends m (λ t. P t × Q (seen c t)) X R o) (sym h.2) (λ w. (w.0, (w.1, back))) whole
    both-outcomes (Exited k t) more h known whole =
        subst (λ (o : Outcome). Ends m P X R o → Ends m (λ t. P t × Q (seen c t)) X R o) (sym h.2) (λ w. w) whole
    both-outcomes (Stopped code k t) more h known whole =
        subst (λ (o : Outcome). Ends m P X R o → Ends m (λ t. P t × Q (seen c t)) X R o) (sym h.2) (λ w. w) whole
    both-outcomes Wrong more h known whole = absurd known
    both-outcomes Unfinished more h known whole = absurd known

    pub seen_ends : (a : Statement) (s : LowState) → IsLess c s.cells → Ends n Q Y S (meaning most fuel a (seen c s)) → Ends m P X R (meaning most fuel a s) → Ends m (λ t. P t × Q (seen c t)) X R (meaning most fuel a s)
    seen_ends a s less known whole = both-outcomes (meaning most fuel a (seen c s)) (meaning most fuel a s) (matched a (seen c s) s.cells less) known whole
