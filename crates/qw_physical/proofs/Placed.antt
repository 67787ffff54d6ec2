-- What the steps of a well placed plan keep, so that its joins may look up by keys of their own and rows made again from what is kept.
use Rattle.std.proofs.Common.{◌≡◌, ◌∙◌, ℕ, zero, suc, ◌+◌, ◌/◌, ◌%◌, Bool, true, false, ◌&&◌, if◌then◌else◌, List, [], ◌∷◌, ◌++◌, map, IfOk, Some, Result, slice_get, refl, sym, ap, subst, subst₂, arith}
use Rattle.std.specs.List.{AllByRecursion, filter_map}
use Rattle.std.specs.List as list
use Rattle.qw_types.specs.Value.{IsSized}
use Rattle.qw_types.specs.declared.code.Code.{Code}
use Rattle.qw_types.specs.declared.schema.ColumnType.{ColumnType}
use Rattle.qw_types.specs.declared.value.Ty.{Ty}
use Rattle.qw_types.specs.declared.value.Val.{Val}
use Rattle.qw_scalar.specs.Columns.{HasColumns}
use Rattle.qw_scalar.specs.Expression.{Condition, Expression, scale_of}
use Rattle.qw_scalar.specs.Typing.{IsTyped, IsValueOf, kind_of}
use Rattle.qw_scalar.proofs.ColumnLemmas.{columns_more, conditions_more}
use Rattle.qw_scalar.proofs.TypingLemmas.{typed_value}
use Rattle.qw_raise.specs.Raise.{can_raise, condition_can_raise}
use Rattle.qw_raise.specs.Range.{IsInRange, IsSizedColumn}
use Rattle.qw_raise.proofs.RaiseLemmas.{holds_of, or_false, quiet_value}
use Rattle.qw_leaves.specs.Compared.{OfCompared}
use Rattle.qw_leaves.proofs.ComparedLemmas.{by_compared}
use Rattle.qw_meaning.specs.Select.{Entry, IsColumnOf, IsConditionOver, type_in, types_of}
use Rattle.qw_algebra.specs.Columns.{condition_names_only, is_of, names_only, owns}
use Rattle.qw_algebra.specs.Node.{Node, scan, filter, join, project, node_flow}
use Rattle.qw_algebra.proofs.Lists.{all_map, all_more}
use Rattle.qw_rewrite.specs.Placed.{IsSizedCondition, IsSizedPlan}
use Rattle.qw_rewrite.specs.Probe.{are_alike, are_eligible, face, is_eligible, is_equality, keyed, keys_from, keys_of_join}
use Rattle.qw_rewrite.specs.Probed.{AreProbes, at_keys, beside_keys, is_key, probed_by}
use Rattle.qw_rewrite.specs.Sift.{beyond, is_clean_on, is_quiet, moved, quiet_front, sifted, within}
use Rattle.qw_rewrite.proofs.Grounds.{FitsAt, IsLaid, IsTypedNode}
use Rattle.qw_rewrite.proofs.Joins.{tested}
use Rattle.qw_rewrite.proofs.Keys.{keys_are, none_of}
use Rattle.qw_rewrite.proofs.Once.{keyed_entries, sifted_entries}
use Rattle.qw_rewrite.proofs.Names.{and_left, and_right}
use Rattle.qw_rewrite.proofs.Rows.{NamesOnly}
use Rattle.qw_rewrite.proofs.Sifting.{IsFine, IsOver, IsSound, rows_over}
use Rattle.qw_rewrite.proofs.Stages.{all_filtered}
use Rattle.qw_pipe.specs.Units.{operand_of}
use Rattle.qw_physical.specs.Reads.{IsScaled, is_read}
use Rattle.qw_physical.specs.declared.pipeline.ReadColumn.{ReadColumn}
use Rattle.qw_physical.proofs.Conjuncts.{AllConjuncts}
use Rattle.qw_physical.proofs.EqualKeys.{AllOperands, BothOperands, HasOneScale, IsDivided, IsTold, divided, operand_has}
use Rattle.qw_leaves.proofs.LeafLists.{all_pairs}
use Rattle.qw_physical.proofs.QueryNulls.{none_more, one_more}

-- ---- keys

abbrev pub IsKey : (tl tr : ℕ → Bool) → Condition → Type 0
IsKey tl tr c = (is_eligible tl tr c ≡ true) × (condition_can_raise c ≡ false)

-- the keys of each join are eligible equalities of its ON, in their order
abbrev pub AreKeyed : Node → Type 0
AreKeyed (scan entry table) = Unit {0}
AreKeyed (filter conjuncts below) = AreKeyed below
AreKeyed (join outer left right on keys) =
    ((filter_map (λ k. slice_get on k) keys ≡ at_keys keys 0 on) × AllByRecursion (IsKey (owns left) (owns right)) (at_keys keys 0 on)) × (AreKeyed left × AreKeyed right)
AreKeyed (project below items) = AreKeyed below

front_quiet : (cs : List Condition) → AllByRecursion (λ c. condition_can_raise c ≡ false) (quiet_front cs)
front_quiet [] = tt
front_quiet (c ∷ cs) = one (condition_can_raise c) refl (front_quiet cs)
  where
    one : (b : Bool) → condition_can_raise c ≡ b → AllByRecursion (λ d. condition_can_raise d ≡ false) (quiet_front cs)
        → AllByRecursion (λ d. condition_can_raise d ≡ false) (if b then [] else c ∷ quiet_front cs)
    one true e h = tt
    one false e h = (e, h)

module _ (tl tr : ℕ → Bool) (on : List Condition) where
  -- the keys are looked up by their positions
  found_step : (a b : Bool) (c : Condition) (ks : List ℕ) (k : ℕ) (rest front : List Condition) → slice_get on k ≡ Some c → filter_map (λ i. slice_get on i) ks ≡ rest
      → is_eligible tl tr c ≡ b → list.filter (is_eligible tl tr) front ≡ rest
      → filter_map (λ i. slice_get on i) (if a then [] else if b then k ∷ ks else ks) ≡ list.filter (is_eligible tl tr) (if a then [] else c ∷ front)
  found_step true b c ks k rest front here h e f = refl
  found_step false true c ks k rest front here h e f = rw (here, e) (ap (λ (xs : List Condition). c ∷ xs) (h ∙ sym f))
  found_step false false c ks k rest front here h e f = rw e (h ∙ sym f)

  found_are : (cs : List Condition) (k : ℕ) → ((j : ℕ) → slice_get on (k + j) ≡ slice_get cs j)
      → filter_map (λ i. slice_get on i) (keys_from tl tr k cs) ≡ list.filter (is_eligible tl tr) (quiet_front cs)
  found_are [] k at = refl
  found_are (c ∷ cs) k at =
      found_step (condition_can_raise c) (is_eligible tl tr c) c (keys_from tl tr (k + 1) cs) k (list.filter (is_eligible tl tr) (quiet_front cs)) (quiet_front cs)
      (ap (slice_get on) (none_more k) ∙ at 0) (found_are cs (k + 1) (λ j. ap (slice_get on) (one_more k j) ∙ at (suc j))) refl refl

keys_of : (clean : Bool) (left right : Node) (on : List Condition)
    → (filter_map (λ k. slice_get on k) (keys_of_join clean left right on) ≡ at_keys (keys_of_join clean left right on) 0 on)
    × AllByRecursion (IsKey (owns left) (owns right)) (at_keys (keys_of_join clean left right on) 0 on)
keys_of clean left right on = one (is_clean_on clean left right)
  where
    tl : ℕ → Bool
    tl = owns left

    tr : ℕ → Bool
    tr = owns right

    from_none : (j : ℕ) → 0 + j ≡ j
    from_none j = omega arith

    none : at_keys [] 0 on ≡ []
    none = (none_of [] 0 on tt).0

    some : at_keys (keys_from tl tr 0 on) 0 on ≡ list.filter (is_eligible tl tr) (quiet_front on)
    some = (keys_are tl tr on 0 [] tt).0

    one : (b : Bool) → (filter_map (λ k. slice_get on k) (if b then keys_from tl tr 0 on else []) ≡ at_keys (if b then keys_from tl tr 0 on else []) 0 on)
        × AllByRecursion (IsKey tl tr) (at_keys (if b then keys_from tl tr 0 on else []) 0 on)
    one true = (
      found_are tl tr on on 0 (λ j. ap (slice_get on) (from_none j)) ∙ sym some,
      subst (AllByRecursion (IsKey tl tr)) (sym some)
          (all_pairs (λ c. is_eligible tl tr c ≡ true) (λ c. condition_can_raise c ≡ false) (list.filter (is_eligible tl tr) (quiet_front on))
          (tested (is_eligible tl tr) (quiet_front on)) (all_filtered (λ c. condition_can_raise c ≡ false) (is_eligible tl tr) (quiet_front on) (front_quiet on))),
    )
    one false = (sym none, subst (AllByRecursion (IsKey tl tr)) (sym none) tt)

pub keyed_keys : (node : Node) (clean : Bool) → AreKeyed (keyed clean node)
keyed_keys (scan entry table) clean = tt
keyed_keys (filter conjuncts below) clean = keyed_keys below clean
keyed_keys (join outer left right on keys) clean =
    let k = keys_of clean left right on in (
      (
        k.0,
        subst₂ (λ (ls rs : List ℕ). AllByRecursion (IsKey (is_of ls) (is_of rs)) (at_keys (keys_of_join clean left right on) 0 on))
            (sym (keyed_entries left clean)) (sym (keyed_entries right (clean && is_quiet left))) k.1,
      ),
      (keyed_keys left clean, keyed_keys right (clean && is_quiet left)),
    )
keyed_keys (project below items) clean = keyed_keys below clean

one_scale : (tl tr : ℕ → Bool) (c : Condition) → is_eligible tl tr c ≡ true → IsScaled c → HasOneScale c
one_scale tl tr = by_compared (λ c o. are_eligible tl tr o ≡ true → OfCompared (λ op a b. are_alike (kind_of a) (kind_of b) ≡ true → scale_of a ≡ scale_of b) o → OfCompared (λ op a b. scale_of a ≡ scale_of b) o)
    (λ op a b h scaled. scaled (and_right (face tl tr a b) (are_alike (kind_of a) (kind_of b)) (and_right (is_equality op) (face tl tr a b && are_alike (kind_of a) (kind_of b)) h))) (λ c h scaled. tt)

-- ---- sizes of columns

type_sized : (columns : List ColumnType) (j : ℕ) (ty : Ty) → AllByRecursion (λ (c : ColumnType). IsSized c.ty) columns → slice_get (types_of columns) j ≡ Some ty → IsSized ty
type_sized [] j ty h e = absurd cc
type_sized (c ∷ columns) zero ty h e =
    let same : c.ty ≡ ty = cc in
    subst IsSized same h.0
type_sized (c ∷ columns) (suc j) ty h e = type_sized columns j ty h.1 e

entry_sized : (entries : List Entry) (k j : ℕ) (ty : Ty) → AllByRecursion (λ (e : Entry). AllByRecursion (λ (c : ColumnType). IsSized c.ty) e.columns) entries
    → type_in (slice_get entries k) j ≡ Some ty → IsSized ty
entry_sized [] k j ty h e = absurd cc
entry_sized (entry ∷ entries) zero j ty h e = type_sized entry.columns j ty h.0 e
entry_sized (entry ∷ entries) (suc k) j ty h e = entry_sized entries k j ty h.1 e

-- ---- plans over tables

module _ (entries : List Entry) (tables : List (List (List Val))) (columns : List ReadColumn)
    (sized : AllByRecursion (λ (e : Entry). AllByRecursion (λ (c : ColumnType). IsSized c.ty) e.columns) entries) where
  abbrev pub F : ℕ → Val → Type 0
  F = FitsAt entries tables

  -- a plan is laid out, also where conjuncts are moved and keys are found
  pub laid_of : (node : Node) → IsSound tables F node → IsLaid entries tables node
  laid_of (scan entry table) s = s
  laid_of (filter conjuncts below) s = laid_of below s.1
  laid_of (join outer left right on keys) s = (s.0.1, (laid_of left s.1.0, laid_of right s.1.1))
  laid_of (project below items) s = absurd s

  pub sifted_laid : (node : Node) (clean : Bool) (above : List Condition) → IsLaid entries tables node → IsLaid entries tables (sifted clean above node)
  sifted_laid (scan entry table) clean above l = l
  sifted_laid (filter conjuncts below) clean above l = sifted_laid below clean (moved (clean && is_quiet below) conjuncts ++ above) l
  sifted_laid (join true left right on keys) clean above l = (
    subst₂ (λ (ls rs : List ℕ). (i : ℕ) → is_of ls i ≡ true → is_of rs i ≡ false) (sym (sifted_entries left clean (within left above))) (sym (sifted_entries right (clean && is_quiet left) [])) l.0,
    (sifted_laid left clean (within left above) l.1.0, sifted_laid right (clean && is_quiet left) [] l.1.1),
  )
  sifted_laid (join false left right on keys) clean above l =
      let down : List Condition = moved (is_clean_on clean left right) on ++ above in (
        subst₂ (λ (ls rs : List ℕ). (i : ℕ) → is_of ls i ≡ true → is_of rs i ≡ false) (sym (sifted_entries left clean (within left down)))
            (sym (sifted_entries right (clean && is_quiet left) (within right (beyond left down)))) l.0,
        (sifted_laid left clean (within left down) l.1.0, sifted_laid right (clean && is_quiet left) (within right (beyond left down)) l.1.1),
      )
  sifted_laid (project below items) clean above l = absurd l

  pub keyed_laid : (node : Node) (clean : Bool) → IsLaid entries tables node → IsLaid entries tables (keyed clean node)
  keyed_laid (scan entry table) clean l = l
  keyed_laid (filter conjuncts below) clean l = keyed_laid below clean l
  keyed_laid (join outer left right on keys) clean l = (
    subst₂ (λ (ls rs : List ℕ). (i : ℕ) → is_of ls i ≡ true → is_of rs i ≡ false) (sym (keyed_entries left clean)) (sym (keyed_entries right (clean && is_quiet left))) l.0,
    (keyed_laid left clean l.1.0, keyed_laid right (clean && is_quiet left) l.1.1),
  )
  keyed_laid (project below items) clean l = absurd l

  abbrev IsOver_entries : Condition → Type 0
  IsOver_entries c = IsConditionOver (IsColumnOf entries) c

  pub typed_of : (node : Node) → AllConjuncts IsOver_entries node → IsTypedNode entries tables node
  typed_of (scan entry table) h = tt
  typed_of (filter conjuncts below) h = (h.0, typed_of below h.1)
  typed_of (join outer left right on keys) h = (h.0, (typed_of left h.1.0, typed_of right h.1.1))
  typed_of (project below items) h = absurd h

  sized_condition : (c : Condition) → IsOver_entries c → IsSizedCondition c
  sized_condition c t = (t.0, conditions_more (IsColumnOf entries) IsSizedColumn (λ i ty h. entry_sized entries (i / 64) (i % 64) ty sized h) c t.1)

  pub sized_of : (node : Node) → AllConjuncts IsOver_entries node → IsSizedPlan node
  sized_of (scan entry table) h = tt
  sized_of (filter conjuncts below) h = (all_more IsOver_entries IsSizedCondition conjuncts sized_condition h.0, sized_of below h.1)
  sized_of (join outer left right on keys) h = (all_more IsOver_entries IsSizedCondition on sized_condition h.0, (sized_of left h.1.0, sized_of right h.1.1))
  sized_of (project below items) h = absurd h

  -- ---- operands of keys have values

  told_operand : (row : List Val) → IsFine tables F row → (e : Expression) → IsTyped e → HasColumns (IsColumnOf entries) e → can_raise e ≡ false → IsTold row e
  told_operand row fine e t h q =
      let within_range : HasColumns (IsInRange row) e = columns_more (IsColumnOf entries) (IsInRange row) (λ i ty c. fine i ty c (entry_sized entries (i / 64) (i % 64) ty sized c)) e h in
      let g = quiet_value row e t within_range q in
      record {
        value = g.value;
        is = g.is;
        kind = subst (λ (r : Result Val Code). IfOk r (λ v. IsValueOf (kind_of e) v)) g.is (typed_value e row t (holds_of row e within_range));
      }

  told_operands : (row : List Val) → IsFine tables F row → (tl tr : ℕ → Bool) (c : Condition) → IsKey tl tr c → IsOver_entries c → AllOperands (IsTold row) c
  told_operands row fine tl tr =
      by_compared (λ c o. (are_eligible tl tr o ≡ true) × (condition_can_raise c ≡ false) → IsOver_entries c → BothOperands (IsTold row) o)
      (λ op a b k t. let quiet = or_false (can_raise a) (can_raise b) k.1 in (told_operand row fine a t.0.0.0 t.1.0 quiet.0, told_operand row fine b t.0.0.1 t.1.1 quiet.1)) (λ c k t. absurd (let no = k.0 in cc))

  pub told_keys : (row : List Val) → IsFine tables F row → (tl tr test : ℕ → Bool) (cs : List Condition) → AllByRecursion (IsKey tl tr) cs → AllByRecursion IsOver_entries cs
      → AllByRecursion (IsTold row) (map (operand_of test) cs)
  told_keys row fine tl tr test [] k t = tt
  told_keys row fine tl tr test (c ∷ cs) k t =
      (operand_has (IsTold row) test c (told_operands row fine tl tr c k.0 t.0), told_keys row fine tl tr test cs k.1 t.1)

  -- what holds of all conjuncts of ON holds of its keys, and of the others
  pub keys_have : (P : Condition → Type 0) (keys : List ℕ) (k : ℕ) (cs : List Condition) → AllByRecursion P cs → AllByRecursion P (at_keys keys k cs) × AllByRecursion P (beside_keys keys k cs)
  keys_have P keys k [] h = (tt, tt)
  keys_have P keys k (c ∷ cs) h = one (is_key keys k) (keys_have P keys (k + 1) cs h.1)
    where
      one : (b : Bool) → AllByRecursion P (at_keys keys (k + 1) cs) × AllByRecursion P (beside_keys keys (k + 1) cs)
          → AllByRecursion P (if b then c ∷ at_keys keys (k + 1) cs else at_keys keys (k + 1) cs) × AllByRecursion P (if b then beside_keys keys (k + 1) cs else c ∷ beside_keys keys (k + 1) cs)
      one true g = ((h.0, g.0), g.1)
      one false g = (g.0, (h.0, g.1))

  -- ---- ready to be run

  -- What a join needs. A key's operands name only columns of their side, since it is divided.
  pub record ReadyJoin (outer : Bool) (left right : Node) (on : List Condition) (keys : List ℕ) : Type 0 where
    pub apart : (i : ℕ) → owns left i ≡ true → owns right i ≡ false
    pub over_left : AllByRecursion (IsOver tables F (owns left)) (node_flow tables left).rows
    pub over_right : AllByRecursion (IsOver tables F (owns right)) (node_flow tables right).rows
    pub equal : filter_map (λ k. slice_get on k) keys ≡ at_keys keys 0 on
    pub divided : AllByRecursion (IsDivided (owns left) (owns right)) (at_keys keys 0 on)
    pub told : (test : ℕ → Bool) (row : List Val) → IsFine tables F row → AllByRecursion (IsTold row) (map (operand_of test) (at_keys keys 0 on))
    pub named : (test : ℕ → Bool) → AllByRecursion (λ e. names_only (is_read columns) e ≡ true) (map (operand_of test) (at_keys keys 0 on))
    pub others : NamesOnly (is_read columns) (beside_keys keys 0 on)
    pub probe : node_flow tables (join outer left right on keys) ≡ probed_by outer (owns left) (owns right) (at_keys keys 0 on) (beside_keys keys 0 on) (node_flow tables left) (node_flow tables right)

  abbrev pub IsReady : Node → Type 0
  IsReady (scan entry table) = IsSound tables F (scan entry table)
  IsReady (filter conjuncts below) = NamesOnly (is_read columns) conjuncts × IsReady below
  IsReady (join outer left right on keys) = ReadyJoin outer left right on keys × (IsReady left × IsReady right)
  IsReady (project below items) = ⊥

  named_operands : (test : ℕ → Bool) (c : Condition) → condition_names_only (is_read columns) c ≡ true → names_only (is_read columns) (operand_of test c) ≡ true
  named_operands test c h =
      operand_has (λ e. names_only (is_read columns) e ≡ true) test c
      (by_compared (λ d o. condition_names_only (is_read columns) d ≡ true → BothOperands (λ e. names_only (is_read columns) e ≡ true) o)
      (λ op a b h. (and_left (names_only (is_read columns) a) (names_only (is_read columns) b) h, and_right (names_only (is_read columns) a) (names_only (is_read columns) b) h)) (λ d h. refl) c h)

  pub ready : (node : Node) → IsSound tables F node → AreProbes tables node → AreKeyed node → AllConjuncts IsOver_entries node → AllConjuncts (λ c. condition_names_only (is_read columns) c ≡ true) node → AllConjuncts IsScaled node
      → IsReady node
  ready (scan entry table) s p k t n z = s
  ready (filter conjuncts below) s p k t n z = (n.0, ready below s.1 p k t.1 n.1 z.1)
  ready (join outer left right on keys) s p k t n z =
      let eligible : AllByRecursion (IsKey (owns left) (owns right)) (at_keys keys 0 on) = k.0.1 in
      let typed : AllByRecursion IsOver_entries (at_keys keys 0 on) = (keys_have IsOver_entries keys 0 on t.0).0 in
      let names = keys_have (λ c. condition_names_only (is_read columns) c ≡ true) keys 0 on n.0 in (
        record {
          apart = s.0.1;
          over_left = rows_over tables F left s.1.0;
          over_right = rows_over tables F right s.1.1;
          equal = k.0.0;
          divided = all_more (λ c. IsKey (owns left) (owns right) c × IsScaled c) (IsDivided (owns left) (owns right)) (at_keys keys 0 on)
              (λ c e. divided (owns left) (owns right) s.0.1 c e.0.0 (one_scale (owns left) (owns right) c e.0.0 e.1))
              (all_pairs (IsKey (owns left) (owns right)) IsScaled (at_keys keys 0 on) eligible (keys_have IsScaled keys 0 on z.0).0);
          told = λ test row fine. told_keys row fine (owns left) (owns right) test (at_keys keys 0 on) eligible typed;
          named = λ test. all_map (λ e. names_only (is_read columns) e ≡ true) (operand_of test) (at_keys keys 0 on)
              (all_more (λ c. condition_names_only (is_read columns) c ≡ true) (λ c. names_only (is_read columns) (operand_of test c) ≡ true) (at_keys keys 0 on) (named_operands test) names.0);
          others = names.1;
          probe = p.0;
        },
        (ready left s.1.0 p.1.0 k.1.0 t.1.0 n.1.0 z.1.0, ready right s.1.1 p.1.1 k.1.1 t.1.1 n.1.1 z.1.1),
      )
  ready (project below items) s p k t n z = absurd s
