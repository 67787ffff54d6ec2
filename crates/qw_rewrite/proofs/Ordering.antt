-- A plan without LEFT JOIN, of whose FROM nothing can raise, comes to the same bag of rows and of exceptions in any order of its entries.
use Rattle.std.proofs.Common.{◌≡◌, ◌∙◌, ◌⊎◌, ℕ, zero, suc, Bool, true, false, ◌&&◌, ◌||◌, List, [], ◌∷◌, ◌++◌, map, length, Result, inl, inr, refl, sym, ap, ap₂, subst, subst₂, ⊎_elim, append-nil, append_assoc}
use Rattle.std.specs.List.{AllByRecursion, flat_map}
use Rattle.std.proofs.lemmas.Bool.{cases_Bool}
use Rattle.std.proofs.lemmas.List.Sorted.{IsPermutation-trans, IsPermutation-append, IsPermutation-append_comm}
use Rattle.qw_types.specs.declared.code.Code.{Code}
use Rattle.qw_types.specs.declared.value.Val.{Val}
use Rattle.qw_types.specs.declared.value.Val.TheVariants.{Null}
use Rattle.qw_scalar.specs.Expression.{Condition}
use Rattle.qw_meaning.specs.Flow.{Flow, codes_given, each, kept, rows_given}
use Rattle.qw_meaning.specs.From.{crossed, merged}
use Rattle.qw_meaning.proofs.FromLemmas.{cell}
use Rattle.qw_algebra.specs.Columns.{condition_names_only, entries_below, is_of, owns}
use Rattle.qw_algebra.specs.Node.{Node, scan, filter, join, project, node_flow}
use Rattle.qw_algebra.proofs.Flows.{each_none}
use Rattle.qw_algebra.proofs.Lists.{all_append, all_more}
use Rattle.qw_rewrite.specs.Lowest.{NamesBelow}
use Rattle.qw_rewrite.specs.Order.{Chosen, Scanned, choose, chosen_by, in_order, is_inner, next_ones, comes_next, more_rows, product_behind, product_of, rearranged, scans_of}
use Rattle.qw_rewrite.specs.Placed.{conjuncts_of}
use Rattle.qw_rewrite.specs.Probe.{keyed}
use Rattle.qw_rewrite.specs.Sift.{are_quiet, is_quiet, quiet_front, sifted}
use Rattle.qw_rewrite.proofs.Arranged.{AllApart, Perm, merged_assoc, same-bag, sides_turned}
use Rattle.qw_rewrite.proofs.PermutedRows.{rows-alike, rows-permuted}
use Rattle.qw_rewrite.proofs.Keys.{keyed_flow}
use Rattle.qw_rewrite.proofs.Names.{Passes, and_left, and_right, condition_names_from, names_have}
use Rattle.qw_rewrite.proofs.Pairs.{each_join, pairs}
use Rattle.qw_rewrite.proofs.Rows.{IsNullAt, NamesOnly}
use Rattle.qw_rewrite.proofs.Sifting.{AreApart, IsHonest, IsOver, IsSound, IsSteady, all_front, other_side, owns_join, rows_over, sift, steady_front, tells_all}
use Rattle.qw_rewrite.proofs.Stages.{HaveTruths, each_part}

-- ---- one list in the order of another
-- x is one of a list, and the others are these in their order
abbrev pub Picks : {A : Type 0} → A → List A → List A → Type 0
Picks {A} x [] ys = ⊥
Picks {A} x (z ∷ xs) ys = ((x ≡ z) × (ys ≡ xs)) ⊎ ((rest : List A) × ((ys ≡ z ∷ rest) × Picks x xs rest))

abbrev pub Arranged : {A : Type 0} → List A → List A → Type 0
Arranged {A} xs [] = xs ≡ []
Arranged {A} xs (z ∷ zs) = (rest : List A) × (Picks z xs rest × Arranged rest zs)

pub arranged-same : {A : Type 0} (xs : List A) → Arranged xs xs
arranged-same [] = refl
arranged-same (x ∷ xs) = (xs, (inl (refl, refl), arranged-same xs))

chosen_picks : {A : Type 0} (before : A → A → Bool) (x : A) (xs : List A) → Picks (choose before x xs).one (x ∷ xs) (choose before x xs).others
chosen_picks {A} before x [] = inl (refl, refl)
chosen_picks {A} before x (y ∷ ys) = by (before (choose before y ys).one x) (chosen_picks before y ys)
  where
    by : (b : Bool) → Picks (choose before y ys).one (y ∷ ys) (choose before y ys).others
        → Picks (chosen_by b x (y ∷ ys) (choose before y ys)).one (x ∷ y ∷ ys) (chosen_by b x (y ∷ ys) (choose before y ys)).others
    by true h = inr ((choose before y ys).others, (refl, h))
    by false h = inl (refl, refl)

next_arranged : (counts : List ℕ) (free : List Condition) (many : ℕ) (taken : List ℕ) (left : List Scanned) → Arranged left (next_ones counts free many taken left)
next_arranged counts free zero taken left = arranged-same left
next_arranged counts free (suc many) taken [] = refl
next_arranged counts free (suc many) taken (x ∷ xs) =
    let c : Chosen Scanned = choose (comes_next counts free taken) x xs in
    (c.others, (chosen_picks (comes_next counts free taken) x xs, next_arranged counts free many (c.one.entry ∷ taken) c.others))

pub in_order_arranged : (counts : List ℕ) (free : List Condition) (xs : List Scanned) → Arranged xs (in_order counts free xs)
in_order_arranged counts free [] = refl
in_order_arranged counts free (x ∷ xs) =
    let c : Chosen Scanned = choose (more_rows counts free) x xs in
    (c.others, (chosen_picks (more_rows counts free) x xs, next_arranged counts free (length xs) (c.one.entry ∷ []) c.others))

-- what holds of each
picked_holds : {A : Type 0} (P : A → Type 0) (z : A) (xs rest : List A) → Picks z xs rest → AllByRecursion P xs → P z × AllByRecursion P rest
picked_holds P z [] rest h all = absurd h
picked_holds P z (x ∷ xs) rest (inl h) all = (subst P (sym h.0) all.0, subst (AllByRecursion P) (sym h.1) all.1)
picked_holds P z (x ∷ xs) rest (inr h) all =
    let more = picked_holds P z xs h.0 h.1.1 all.1 in
    (more.0, subst (AllByRecursion P) (sym h.1.0) (all.0, more.1))

pub arranged_holds : {A : Type 0} (P : A → Type 0) (zs xs : List A) → Arranged xs zs → AllByRecursion P xs → AllByRecursion P zs
arranged_holds P [] xs h all = tt
arranged_holds P (z ∷ zs) xs h all = let one = picked_holds P z xs h.0 h.1.0 all in (one.0, arranged_holds P zs h.0 h.1.1 one.1)

-- what holds of each two
module _ {A : Type 0} (R : A → A → Type 0) (turn : (a b : A) → R a b → R b a) where
  abbrev pub AllPairs : List A → Type 0
  AllPairs [] = Unit {0}
  AllPairs (x ∷ xs) = AllByRecursion (R x) xs × AllPairs xs

  pairs_picked : (z : A) (xs rest : List A) → Picks z xs rest → AllPairs xs → AllPairs (z ∷ rest)
  pairs_picked z [] rest h all = absurd h
  pairs_picked z (x ∷ xs) rest (inl h) all = subst₂ (λ (a : A) (l : List A). AllPairs (a ∷ l)) (sym h.0) (sym h.1) all
  pairs_picked z (x ∷ xs) rest (inr h) all =
      let below = pairs_picked z xs h.0 h.1.1 all.1 in
      let first = picked_holds (R x) z xs h.0 h.1.1 all.0 in
      subst (λ (l : List A). AllPairs (z ∷ l)) (sym h.1.0) ((turn x z first.0, below.0), (first.1, below.1))

  pub pairs_arranged : (zs xs : List A) → Arranged xs zs → AllPairs xs → AllPairs zs
  pairs_arranged [] xs h all = tt
  pairs_arranged (z ∷ zs) xs h all =
      let here = pairs_picked z xs h.0 h.1.0 all in
      (arranged_holds (R z) zs h.0 h.1.1 here.0, pairs_arranged zs h.0 h.1.1 here.1)

-- ---- products
map_merged : (a x : List Val) (ys : List (List Val)) → map (merged (merged a x)) ys ≡ map (merged a) (map (merged x) ys)
map_merged a x [] = refl
map_merged a x (y ∷ ys) = ap₂ (λ (p : List Val) (l : List (List Val)). p ∷ l) (merged_assoc a x y) (map_merged a x ys)

map_both : (f : List Val → List Val) (xs ys : List (List Val)) → map f (xs ++ ys) ≡ map f xs ++ map f ys
map_both f [] ys = refl
map_both f (x ∷ xs) ys = ap (λ (l : List (List Val)). f x ∷ l) (map_both f xs ys)

one_assoc : (a : List Val) (xs ys : List (List Val)) → pairs (map (merged a) xs) ys ≡ map (merged a) (pairs xs ys)
one_assoc a [] ys = refl
one_assoc a (x ∷ xs) ys = ap₂ (λ (p q : List (List Val)). p ++ q) (map_merged a x ys) (one_assoc a xs ys) ∙ sym (map_both (merged a) (map (merged x) ys) (pairs xs ys))

pairs_append : (xs ys zs : List (List Val)) → pairs (xs ++ ys) zs ≡ pairs xs zs ++ pairs ys zs
pairs_append [] ys zs = refl
pairs_append (x ∷ xs) ys zs = ap (λ (l : List (List Val)). map (merged x) zs ++ l) (pairs_append xs ys zs) ∙ sym (append_assoc (map (merged x) zs) (pairs xs zs) (pairs ys zs))

pub pairs_assoc : (ws_ xs ys : List (List Val)) → pairs (pairs ws_ xs) ys ≡ pairs ws_ (pairs xs ys)
pairs_assoc [] xs ys = refl
pairs_assoc (a ∷ ws_) xs ys = pairs_append (map (merged a) xs) (pairs ws_ xs) ys ∙ ap₂ (λ (p q : List (List Val)). p ++ q) (one_assoc a xs ys) (pairs_assoc ws_ xs ys)

beside_none : (xs : List (List Val)) → pairs ([] ∷ []) xs ≡ xs
beside_none xs = append-nil (map (merged []) xs) ∙ all xs
  where
    all : (xs : List (List Val)) → map (merged []) xs ≡ xs
    all [] = refl
    all (x ∷ xs) = ap (λ (l : List (List Val)). x ∷ l) (all xs)

none_beside : (xs : List (List Val)) → pairs xs ([] ∷ []) ≡ xs
none_beside [] = refl
none_beside (x ∷ xs) = ap₂ (λ (p : List Val) (l : List (List Val)). p ∷ l) (whole x) (none_beside xs)
  where
    whole : (x : List Val) → merged x [] ≡ x
    whole [] = refl
    whole (v ∷ x) = refl

pub mapped : {A B : Type 0} (f : A → B) (xs ys : List A) → Perm xs ys → Perm (map f xs) (map f ys)
mapped {A} {B} f xs ys h = subst₂ (λ (l m : List B). Perm l m) (ones xs) (ones ys) (rows-permuted (λ x. f x ∷ []) xs ys h)
  where
    ones : (xs : List A) → flat_map (λ x. f x ∷ []) xs ≡ map f xs
    ones [] = refl
    ones (x ∷ xs) = ap (λ (l : List B). f x ∷ l) (ones xs)

pub left_bag : (xs ys zs : List (List Val)) → Perm xs ys → Perm (pairs xs zs) (pairs ys zs)
left_bag xs ys zs h = rows-permuted (λ p. map (merged p) zs) xs ys h

pub right_bag : (ws xs ys : List (List Val)) → Perm xs ys → Perm (pairs ws xs) (pairs ws ys)
right_bag ws xs ys h = rows-alike (λ w. map (merged w) xs) (λ w. map (merged w) ys) ws (λ w. mapped (merged w) xs ys h)

exchange : (ws zs ts : List (List Val)) → AllApart ws zs → Perm (pairs ws (pairs zs ts)) (pairs zs (pairs ws ts))
exchange ws zs ts apart =
    subst₂ (λ (l m : List (List Val)). Perm l m) (pairs_assoc ws zs ts) (pairs_assoc zs ws ts) (left_bag (pairs ws zs) (pairs zs ws) ts (sides_turned ws zs apart))

-- ---- a clause over a bag
pub record SameBag (f g : Flow (List Val)) : Type 0 where
  pub rows : Perm f.rows g.rows
  pub codes : Perm f.codes g.codes

pub each_bag : (work : List Val → Result (List (List Val)) Code) (f g : Flow (List Val)) → SameBag f g → SameBag (each work f) (each work g)
each_bag work f g same = record {
  rows = rows-permuted (λ row. rows_given (work row)) f.rows g.rows same.rows;
  codes = IsPermutation-append f.codes g.codes (flat_map (λ row. codes_given (work row)) f.rows) (flat_map (λ row. codes_given (work row)) g.rows) same.codes
      (rows-permuted (λ row. codes_given (work row)) f.rows g.rows same.rows);
}

-- the sides of an inner join may change places (so may that which is built)
pub joined_turned : (on : List Condition) (one other : Flow (List Val)) → AllApart one.rows other.rows → SameBag (each (kept on) (crossed one other)) (each (kept on) (crossed other one))
joined_turned on one other apart = each_bag (kept on) (crossed one other) (crossed other one) (record {
  rows = sides_turned one.rows other.rows apart;
  codes = turn one.codes other.codes;
})
  where
    turn : (xs ys : List Code) → Perm (xs ++ ys) (ys ++ xs)
    turn xs ys = IsPermutation-append_comm xs ys

-- ---- plans
-- a plan's joins without conjuncts
abbrev pub bare : Node → Node
bare (scan entry table) = scan entry table
bare (filter conjuncts below) = bare below
bare (join outer left right on keys) = join false (bare left) (bare right) [] []
bare (project below items) = bare below

pub bare_entries : (node : Node) → entries_below (bare node) ≡ entries_below node
bare_entries (scan entry table) = refl
bare_entries (filter conjuncts below) = bare_entries below
bare_entries (join outer left right on keys) = ap₂ (λ (ls rs : List ℕ). ls ++ rs) (bare_entries left) (bare_entries right)
bare_entries (project below items) = bare_entries below

-- a plan reads an entry
some_scan : (node : Node) → (x : Scanned) × ((xs : List Scanned) × (scans_of node ≡ x ∷ xs))
some_scan (scan entry table) = (record { entry = entry; table = table }, ([], refl))
some_scan (filter conjuncts below) = some_scan below
some_scan (join outer left right on keys) = let l = some_scan left in (l.0, (l.1.0 ++ scans_of right, ap (λ (xs : List Scanned). xs ++ scans_of right) l.1.1))
some_scan (project below items) = some_scan below

-- its conjuncts name columns of its entries alone
wider : (t u : ℕ → Bool) → ((i : ℕ) → t i ≡ true → u i ≡ true) → (cs : List Condition) → NamesOnly t cs → NamesOnly u cs
wider t u more cs h = all_more (λ c. condition_names_only t c ≡ true) (λ c. condition_names_only u c ≡ true) cs (λ c is. condition_names_from (Passes t) u (λ i ty p. more i p) c (names_have t c is)) h

or-left : (a b : Bool) → a ≡ true → (a || b) ≡ true
or-left true b h = refl
or-left false b h = absurd cc

or-right : (a b : Bool) → b ≡ true → (a || b) ≡ true
or-right true b h = refl
or-right false b h = h

pub names_own : (node : Node) → NamesBelow node → NamesOnly (owns node) (conjuncts_of node)
names_own (scan entry table) h = tt
names_own (filter conjuncts below) h = all_append (λ c. condition_names_only (owns below) c ≡ true) (conjuncts_of below) conjuncts (names_own below h.1) h.0
names_own (join outer left right on keys) h =
    let P : Condition → Type 0 = λ c. condition_names_only (owns (join outer left right on keys)) c ≡ true in
    all_append P (conjuncts_of left ++ conjuncts_of right) on
    (all_append P (conjuncts_of left) (conjuncts_of right)
    (wider (owns left) (owns (join outer left right on keys)) (λ i is. owns_join outer left right on keys i ∙ or-left (owns left i) (owns right i) is) (conjuncts_of left) (names_own left h.1.0))
    (wider (owns right) (owns (join outer left right on keys)) (λ i is. owns_join outer left right on keys i ∙ or-right (owns left i) (owns right i) is) (conjuncts_of right) (names_own right h.1.1)))
    h.0
names_own (project below items) h = names_own below h

module _ (tables : List (List (List Val))) (Fits : ℕ → Val → Type 0) where
  abbrev Sound : Node → Type 0
  Sound node = IsSound tables Fits node

  abbrev scanned : Scanned → Node
  scanned e = scan e.entry e.table

  abbrev pub scan_rows : Scanned → List (List Val)
  scan_rows e = (node_flow tables (scanned e)).rows

  -- the product of entries' rows
  abbrev pub cross : List Scanned → List (List Val)
  cross [] = [] ∷ []
  cross (e ∷ es) = pairs (scan_rows e) (cross es)

  cross_append : (ws_ bs : List Scanned) → pairs (cross ws_) (cross bs) ≡ cross (ws_ ++ bs)
  cross_append [] bs = beside_none (cross bs)
  cross_append (a ∷ ws_) bs = pairs_assoc (scan_rows a) (cross ws_) (cross bs) ∙ ap (pairs (scan_rows a)) (cross_append ws_ bs)

  joined_bare : (left right : Node) → node_flow tables (join false (bare left) (bare right) [] []) ≡ crossed (node_flow tables (bare left)) (node_flow tables (bare right))
  joined_bare left right = each_none (crossed (node_flow tables (bare left)) (node_flow tables (bare right)))

  pub bare_rows : (node : Node) → (node_flow tables (bare node)).rows ≡ cross (scans_of node)
  bare_rows (scan entry table) = sym (none_beside (scan_rows (record { entry = entry; table = table })))
  bare_rows (filter conjuncts below) = bare_rows below
  bare_rows (join outer left right on keys) =
      ap (λ (f : Flow (List Val)). f.rows) (joined_bare left right) ∙ (ap₂ pairs (bare_rows left) (bare_rows right) ∙ cross_append (scans_of left) (scans_of right))
  bare_rows (project below items) = bare_rows below

  pub bare_codes : (node : Node) → (node_flow tables (bare node)).codes ≡ []
  bare_codes (scan entry table) = refl
  bare_codes (filter conjuncts below) = bare_codes below
  bare_codes (join outer left right on keys) =
      ap (λ (f : Flow (List Val)). f.codes) (joined_bare left right) ∙ ap₂ (λ (xs ys : List Code). xs ++ ys) (bare_codes left) (bare_codes right)
  bare_codes (project below items) = bare_codes below

  -- ---- what is known of a plan's scans and conjuncts
  sound_bare : (node : Node) → Sound node → Sound (bare node)
  sound_bare (scan entry table) s = s
  sound_bare (filter conjuncts below) s = sound_bare below s.1
  sound_bare (join outer left right on keys) s = (
    (tt, subst₂ (λ (ls rs : List ℕ). (i : ℕ) → is_of ls i ≡ true → is_of rs i ≡ false) (sym (bare_entries left)) (sym (bare_entries right)) s.0.1),
    (sound_bare left s.1.0, sound_bare right s.1.1),
  )
  sound_bare (project below items) s = absurd s

  honest_all : (node : Node) → Sound node → AllByRecursion (IsHonest tables Fits) (conjuncts_of node)
  honest_all (scan entry table) s = tt
  honest_all (filter conjuncts below) s = all_append (IsHonest tables Fits) (conjuncts_of below) conjuncts (honest_all below s.1) s.0
  honest_all (join outer left right on keys) s =
      all_append (IsHonest tables Fits) (conjuncts_of left ++ conjuncts_of right) on (all_append (IsHonest tables Fits) (conjuncts_of left) (conjuncts_of right) (honest_all left s.1.0) (honest_all right s.1.1)) s.0.0
  honest_all (project below items) s = absurd s

  steady_of : (cs : List Condition) → AllByRecursion (IsHonest tables Fits) cs → are_quiet cs ≡ true → AllByRecursion (IsSteady tables Fits) cs
  steady_of cs h e = subst (AllByRecursion (IsSteady tables Fits)) (all_front cs e).0 (steady_front tables Fits cs h)

  steady_all : (node : Node) → Sound node → is_quiet node ≡ true → AllByRecursion (IsSteady tables Fits) (conjuncts_of node)
  steady_all (scan entry table) s q = tt
  steady_all (filter conjuncts below) s q =
      all_append (IsSteady tables Fits) (conjuncts_of below) conjuncts (steady_all below s.1 (and_left (is_quiet below) (are_quiet conjuncts) q)) (steady_of conjuncts s.0 (and_right (is_quiet below) (are_quiet conjuncts) q))
  steady_all (join outer left right on keys) s q =
      let both : (is_quiet left && is_quiet right) ≡ true = and_left (is_quiet left && is_quiet right) (are_quiet on) q in
      all_append (IsSteady tables Fits) (conjuncts_of left ++ conjuncts_of right) on
      (all_append (IsSteady tables Fits) (conjuncts_of left) (conjuncts_of right) (steady_all left s.1.0 (and_left (is_quiet left) (is_quiet right) both)) (steady_all right s.1.1 (and_right (is_quiet left) (is_quiet right) both)))
      (steady_of on s.0.0 (and_right (is_quiet left && is_quiet right) (are_quiet on) q))
  steady_all (project below items) s q = absurd s

  rows_bare : (node : Node) → Sound node → AllByRecursion (IsOver tables Fits (owns node)) (node_flow tables (bare node)).rows
  rows_bare node s = subst (λ (es : List ℕ). AllByRecursion (IsOver tables Fits (is_of es)) (node_flow tables (bare node)).rows) (bare_entries node) (rows_over tables Fits (bare node) (sound_bare node s))

  told_bare : (node : Node) → Sound node → is_quiet node ≡ true → AllByRecursion (HaveTruths (conjuncts_of node)) (node_flow tables (bare node)).rows
  told_bare node s q = all_more (IsOver tables Fits (owns node)) (HaveTruths (conjuncts_of node)) (node_flow tables (bare node)).rows
      (λ row over. tells_all tables Fits (conjuncts_of node) (steady_all node s q) row over.fine) (rows_bare node s)

  -- ---- a plan of which nothing can raise is all its conjuncts over the product of its entries
  pub hoisted : (node : Node) → Sound node → NamesBelow node → is_inner node ≡ true → is_quiet node ≡ true → node_flow tables node ≡ each (kept (conjuncts_of node)) (node_flow tables (bare node))
  hoisted (scan entry table) s n inner q = sym (each_none (node_flow tables (scan entry table)))
  hoisted (filter conjuncts below) s n inner q =
      let quiet_below : is_quiet below ≡ true = and_left (is_quiet below) (are_quiet conjuncts) q in
      ap (each (kept conjuncts)) (hoisted below s.1 n.1 inner quiet_below)
      ∙ sym (each_part (conjuncts_of below) conjuncts (node_flow tables (bare below)) (told_bare below s.1 quiet_below))
  hoisted (join true left right on keys) s n inner q = absurd cc
  hoisted (join false left right on keys) s n inner q =
      let both : (is_quiet left && is_quiet right) ≡ true = and_left (is_quiet left && is_quiet right) (are_quiet on) q in
      let quiet_left : is_quiet left ≡ true = and_left (is_quiet left) (is_quiet right) both in
      let quiet_right : is_quiet right ≡ true = and_right (is_quiet left) (is_quiet right) both in
      let ls : List Condition = conjuncts_of left in
      let rs : List Condition = conjuncts_of right in
      let L : Flow (List Val) = node_flow tables (bare left) in
      let R : Flow (List Val) = node_flow tables (bare right) in
      ap₂ (λ (f g : Flow (List Val)). each (kept on) (crossed f g)) (hoisted left s.1.0 n.1.0 (and_left (is_inner left) (is_inner right) inner) quiet_left) (hoisted right s.1.1 n.1.1 (and_right (is_inner left) (is_inner right) inner) quiet_right)
      ∙ sym (each_join (owns left) (owns right) ls rs on (names_own left n.1.0) (names_own right n.1.1) L R
      (all_more (IsOver tables Fits (owns left)) (λ l. HaveTruths ls l × IsNullAt (owns right) l) L.rows
      (λ l over. (tells_all tables Fits ls (steady_all left s.1.0 quiet_left) l over.fine, λ i t. over.elsewhere i (other_side (owns left i) (owns right i) (s.0.1 i) t))) (rows_bare left s.1.0))
      (all_more (IsOver tables Fits (owns right)) (λ r. HaveTruths rs r × IsNullAt (owns left) r) R.rows
      (λ r over. (tells_all tables Fits rs (steady_all right s.1.1 quiet_right) r over.fine, λ i t. over.elsewhere i (s.0.1 i t))) (rows_bare right s.1.1)))
      ∙ ap₂ (λ (cs : List Condition) (f : Flow (List Val)). each (kept cs) f) (sym (append_assoc ls rs on)) (sym (joined_bare left right))
  hoisted (project below items) s n inner q = absurd s

  -- ---- entries that are apart
  abbrev pub Beside : Scanned → Scanned → Type 0
  Beside e f = AreApart tables Fits (scanned e) (scanned f)

  pub turned_apart : (left right : Node) → AreApart tables Fits left right → AreApart tables Fits right left
  turned_apart left right apart i is = other_side (owns left i) (owns right i) (apart i) is

  rows_apart : (e f : Scanned) → Sound (scanned e) → Sound (scanned f) → Beside e f → AllApart (scan_rows e) (scan_rows f)
  rows_apart e f one other apart =
      all_more (IsOver tables Fits (owns (scanned e))) (λ a. AllByRecursion (λ b. (i : ℕ) → (cell a i ≡ Null) ⊎ (cell b i ≡ Null)) (scan_rows f)) (scan_rows e)
      (λ a over_a. all_more (IsOver tables Fits (owns (scanned f))) (λ b. (i : ℕ) → (cell a i ≡ Null) ⊎ (cell b i ≡ Null)) (scan_rows f)
      (λ b over_b i. ⊎_elim (λ yes. inr (over_b.elsewhere i (apart i yes))) (λ no. inl (over_a.elsewhere i no)) (cases_Bool (owns (scanned e) i)))
      (rows_over tables Fits (scanned f) other)) (rows_over tables Fits (scanned e) one)

  abbrev pub AllSound : List Scanned → Type 0
  AllSound es = AllByRecursion (λ e. Sound (scanned e)) es

  abbrev pub AllBeside : List Scanned → Type 0
  AllBeside es = AllPairs Beside (λ e f. turned_apart (scanned e) (scanned f)) es

  -- the product of entries in another order
  cross_picked : (z : Scanned) (xs rest : List Scanned) → Picks z xs rest → AllSound xs → AllBeside xs → Perm (cross xs) (cross (z ∷ rest))
  cross_picked z [] rest h sound beside = absurd h
  cross_picked z (x ∷ xs) rest (inl h) sound beside = same-bag (cross (x ∷ xs)) (cross (z ∷ rest)) (ap₂ (λ (e : Scanned) (es : List Scanned). cross (e ∷ es)) (sym h.0) (sym h.1))
  cross_picked z (x ∷ xs) rest (inr h) sound beside =
      let one = picked_holds (λ e. Sound (scanned e)) z xs h.0 h.1.1 sound.1 in
      let near = picked_holds (Beside x) z xs h.0 h.1.1 beside.0 in
      subst (λ (es : List Scanned). Perm (cross (x ∷ xs)) (cross (z ∷ es))) (sym h.1.0)
      (IsPermutation-trans (cross (x ∷ xs)) (pairs (scan_rows x) (cross (z ∷ h.0))) (cross (z ∷ x ∷ h.0))
      (right_bag (scan_rows x) (cross xs) (cross (z ∷ h.0)) (cross_picked z xs h.0 h.1.1 sound.1 beside.1))
      (exchange (scan_rows x) (scan_rows z) (cross h.0) (rows_apart x z sound.0 one.0 near.0)))

  pub cross_arranged : (zs xs : List Scanned) → Arranged xs zs → AllSound xs → AllBeside xs → Perm (cross xs) (cross zs)
  cross_arranged [] xs h sound beside = same-bag (cross xs) (cross []) (ap cross h)
  cross_arranged (z ∷ zs) xs h sound beside =
      let here = pairs_picked Beside (λ e f. turned_apart (scanned e) (scanned f)) z xs h.0 h.1.0 beside in
      let one = picked_holds (λ e. Sound (scanned e)) z xs h.0 h.1.0 sound in
      IsPermutation-trans (cross xs) (cross (z ∷ h.0)) (cross (z ∷ zs)) (cross_picked z xs h.0 h.1.0 sound beside)
      (right_bag (scan_rows z) (cross h.0) (cross zs) (cross_arranged zs h.0 h.1.1 one.1 here.1))

  -- ---- a plan's scans are sound and apart
  scans_sound : (node : Node) → Sound node → AllSound (scans_of node)
  scans_sound (scan entry table) s = (s, tt)
  scans_sound (filter conjuncts below) s = scans_sound below s.1
  scans_sound (join outer left right on keys) s = all_append (λ e. Sound (scanned e)) (scans_of left) (scans_of right) (scans_sound left s.1.0) (scans_sound right s.1.1)
  scans_sound (project below items) s = absurd s

  -- each of them owns columns of the plan alone
  scans_within : (node : Node) → AllByRecursion (λ (e : Scanned). (i : ℕ) → owns (scanned e) i ≡ true → owns node i ≡ true) (scans_of node)
  scans_within (scan entry table) = (λ i is. is, tt)
  scans_within (filter conjuncts below) = scans_within below
  scans_within (join outer left right on keys) =
      let P : Scanned → Type 0 = λ e. (i : ℕ) → owns (scanned e) i ≡ true → owns (join outer left right on keys) i ≡ true in
      all_append P (scans_of left) (scans_of right)
      (all_more (λ (e : Scanned). (i : ℕ) → owns (scanned e) i ≡ true → owns left i ≡ true) P (scans_of left) (λ e h i is. owns_join outer left right on keys i ∙ or-left (owns left i) (owns right i) (h i is)) (scans_within left))
      (all_more (λ (e : Scanned). (i : ℕ) → owns (scanned e) i ≡ true → owns right i ≡ true) P (scans_of right) (λ e h i is. owns_join outer left right on keys i ∙ or-right (owns left i) (owns right i) (h i is)) (scans_within right))
  scans_within (project below items) = scans_within below

  beside_append : (ws_ bs : List Scanned) → AllBeside ws_ → AllBeside bs → AllByRecursion (λ a. AllByRecursion (Beside a) bs) ws_ → AllBeside (ws_ ++ bs)
  beside_append [] bs one other between = other
  beside_append (a ∷ ws_) bs one other between = (all_append (Beside a) ws_ bs one.0 between.0, beside_append ws_ bs one.1 other between.1)

  apart_both : (left right : Node) → AreApart tables Fits left right → (e f : Scanned) → ((i : ℕ) → owns (scanned e) i ≡ true → owns left i ≡ true) → ((i : ℕ) → owns (scanned f) i ≡ true → owns right i ≡ true) → Beside e f
  apart_both left right apart e f in_left in_right i is = by (owns (scanned f) i) (in_right i)
    where
      by : (b : Bool) → (b ≡ true → owns right i ≡ true) → b ≡ false
      by false h = refl
      by true h = sym (h refl) ∙ apart i (in_left i is)

  scans_beside : (node : Node) → Sound node → AllBeside (scans_of node)
  scans_beside (scan entry table) s = (tt, tt)
  scans_beside (filter conjuncts below) s = scans_beside below s.1
  scans_beside (join outer left right on keys) s =
      beside_append (scans_of left) (scans_of right) (scans_beside left s.1.0) (scans_beside right s.1.1)
      (all_more (λ (e : Scanned). (i : ℕ) → owns (scanned e) i ≡ true → owns left i ≡ true) (λ e. AllByRecursion (Beside e) (scans_of right)) (scans_of left)
      (λ e in_left. all_more (λ (f : Scanned). (i : ℕ) → owns (scanned f) i ≡ true → owns right i ≡ true) (Beside e) (scans_of right) (λ f in_right. apart_both left right s.0.1 e f in_left in_right) (scans_within right)) (scans_within left))
  scans_beside (project below items) s = absurd s

  -- ---- the left-deep product
  behind_rows : (es : List Scanned) (node : Node) → (node_flow tables (product_behind node es)).rows ≡ pairs (node_flow tables node).rows (cross es)
  behind_rows [] node = sym (none_beside (node_flow tables node).rows)
  behind_rows (e ∷ es) node =
      behind_rows es (join false node (scanned e) [] [])
      ∙ (ap (λ (f : Flow (List Val)). pairs f.rows (cross es)) (each_none (crossed (node_flow tables node) (node_flow tables (scanned e))))
      ∙ pairs_assoc (node_flow tables node).rows (scan_rows e) (cross es))

  behind_codes : (es : List Scanned) (node : Node) → (node_flow tables node).codes ≡ [] → (node_flow tables (product_behind node es)).codes ≡ []
  behind_codes [] node h = h
  behind_codes (e ∷ es) node h =
      behind_codes es (join false node (scanned e) [] [])
      (ap (λ (f : Flow (List Val)). f.codes) (each_none (crossed (node_flow tables node) (node_flow tables (scanned e)))) ∙ ap (λ (xs : List Code). xs ++ []) h)

  behind_sound : (es : List Scanned) (node : Node) → Sound node → AllSound es → AllBeside es → AllByRecursion (λ e. AreApart tables Fits node (scanned e)) es → Sound (product_behind node es)
  behind_sound [] node s sound beside apart = s
  behind_sound (e ∷ es) node s sound beside apart =
      behind_sound es (join false node (scanned e) [] []) ((tt, apart.0), (s, sound.0)) sound.1 beside.1 (both es apart.1 beside.0)
    where
      or-cases : (a b : Bool) → (a || b) ≡ true → (a ≡ true) ⊎ (b ≡ true)
      or-cases true b h = inl refl
      or-cases false b h = inr h

      both : (fs : List Scanned) → AllByRecursion (λ f. AreApart tables Fits node (scanned f)) fs → AllByRecursion (Beside e) fs → AllByRecursion (λ f. AreApart tables Fits (join false node (scanned e) [] []) (scanned f)) fs
      both [] h g = tt
      both (f ∷ fs) h g = (
        λ i is. ⊎_elim (λ one. h.0 i one) (λ other. g.0 i other) (or-cases (owns node i) (owns (scanned e) i) (sym (owns_join false node (scanned e) [] [] i) ∙ is)),
        both fs h.1 g.1,
      )

  -- ---- the theorem
  -- FROM and WHERE of a plan whose FROM is inner and can't raise come to the same bag where its entries are in another order and its conjuncts placed anew
  module _ (counts : List ℕ) (conjuncts : List Condition) (from : Node) (s : Sound (filter conjuncts from)) (n : NamesBelow from) (inner : is_inner from ≡ true) (q : is_quiet from ≡ true) where
    abbrev all : List Condition
    all = conjuncts_of from ++ conjuncts

    abbrev free : List Condition
    free = quiet_front all

    old_flow : node_flow tables (filter conjuncts from) ≡ each (kept all) (node_flow tables (bare from))
    old_flow = ap (each (kept conjuncts)) (hoisted from s.1 n inner q) ∙ sym (each_part (conjuncts_of from) conjuncts (node_flow tables (bare from)) (told_bare from s.1 q))

    product_bag : (x : Scanned) (xs : List Scanned) → scans_of from ≡ x ∷ xs
        → SameBag (node_flow tables (bare from)) (node_flow tables (product_of (in_order counts free (scans_of from)))) × Sound (product_of (in_order counts free (scans_of from)))
    product_bag x xs is =
        let ss : List Scanned = x ∷ xs in
        let order : Arranged ss (in_order counts free ss) = in_order_arranged counts free ss in
        let sound : AllSound ss = subst AllSound is (scans_sound from s.1) in
        let beside : AllBeside ss = subst AllBeside is (scans_beside from s.1) in
        let sound' : AllSound (in_order counts free ss) = arranged_holds (λ e. Sound (scanned e)) (in_order counts free ss) ss order sound in
        let beside' : AllBeside (in_order counts free ss) = pairs_arranged Beside (λ e f. turned_apart (scanned e) (scanned f)) (in_order counts free ss) ss order beside in
        let c : Chosen Scanned = choose (more_rows counts free) x xs in
        let rest : List Scanned = next_ones counts free (length xs) (c.one.entry ∷ []) c.others in
        subst (λ (es : List Scanned). SameBag (node_flow tables (bare from)) (node_flow tables (product_of (in_order counts free es))) × Sound (product_of (in_order counts free es))) (sym is) (
          record {
            rows = subst₂ (λ (l m : List (List Val)). Perm l m) (sym (bare_rows from ∙ ap cross is)) (sym (behind_rows rest (scanned c.one))) (cross_arranged (in_order counts free ss) ss order sound beside);
            codes = same-bag (node_flow tables (bare from)).codes (node_flow tables (product_of (in_order counts free ss))).codes (bare_codes from ∙ sym (behind_codes rest (scanned c.one) refl));
          },
          behind_sound rest (scanned c.one) sound'.0 sound'.1 beside'.1 beside'.0,
        )

    pub reordered_bag : SameBag (node_flow tables (filter conjuncts from)) (node_flow tables (keyed true (sifted true [] (rearranged counts conjuncts from))))
    reordered_bag =
        let first = some_scan from in
        let made = product_bag first.0 first.1.0 first.1.1 in
        let new : Node = rearranged counts conjuncts from in
        let honest : AllByRecursion (IsHonest tables Fits) all = all_append (IsHonest tables Fits) (conjuncts_of from) conjuncts (honest_all from s.1) s.0 in
        let flow : node_flow tables (keyed true (sifted true [] new)) ≡ node_flow tables new =
        keyed_flow tables true (sifted true [] new) ∙ (sift tables Fits new true [] (honest, made.1) tt (inl refl) ∙ each_none (node_flow tables new)) in
        subst₂ (λ (f g : Flow (List Val)). SameBag f g) (sym old_flow) (sym flow) (each_bag (kept all) (node_flow tables (bare from)) (node_flow tables (product_of (in_order counts free (scans_of from)))) made.0)

    -- and that one is sound too
    pub rearranged_sound : Sound (rearranged counts conjuncts from)
    rearranged_sound =
        let first = some_scan from in
        (all_append (IsHonest tables Fits) (conjuncts_of from) conjuncts (honest_all from s.1) s.0, (product_bag first.0 first.1.0 first.1.1).1)
