-- What is known of each join of a well placed plan: the entries of its sides are apart, the rows of a side are null at the other's columns, and its
-- keys are eligible equalities, by which it comes to its pairs. The right side of an outer one is a scan.
use Rattle.std.proofs.Common.{◌≡◌, ◌∙◌, ℕ, ◌+◌, Bool, true, false, not, ◌&&◌, if◌then◌else◌, List, [], ◌∷◌, ◌++◌, length, slice_get, refl, sym, ap, subst, subst₂, append_assoc, length-append}
use Rattle.std.specs.List.{AllByRecursion, filter_map}
use Rattle.std.specs.List as list
use Rattle.qw_types.specs.declared.value.Val.{Val}
use Rattle.qw_types.specs.declared.value.Val.TheVariants.{Null}
use Rattle.qw_scalar.specs.Expression.{Condition}
use Rattle.qw_meaning.specs.Flow.{Flow}
use Rattle.qw_meaning.specs.Select.{AreOfEntries, IsSpecification, Specification, conjuncts_on, entries_of}
use Rattle.qw_meaning.proofs.FromLemmas.{cell}
use Rattle.qw_raise.specs.Raise.{condition_can_raise}
use Rattle.qw_algebra.specs.Columns.{condition_names_only, is_of, owns}
use Rattle.qw_algebra.specs.Node.{Node, scan, filter, join, project, node_flow}
use Rattle.qw_algebra.specs.Written.{from_written, written}
use Rattle.qw_algebra.proofs.Lists.{all_append, all_more}
use Rattle.qw_rewrite.specs.Placed.{IsSizedPlan}
use Rattle.qw_rewrite.specs.Probe.{is_eligible, keyed, keys_from, keys_of_join}
use Rattle.qw_rewrite.specs.Probed.{AreProbes, at_keys, beside_keys, probed_by}
use Rattle.qw_rewrite.specs.Sift.{beyond, is_clean_on, is_quiet, moved, quiet_front, sifted, stayed, within}
use Rattle.qw_rewrite.proofs.Grounds.{FitsAt, clauses_sound}
use Rattle.qw_rewrite.proofs.Joins.{tested}
use Rattle.qw_rewrite.proofs.Keys.{keyed_flow, keys_are, none_of}
use Rattle.qw_rewrite.proofs.Once.{keyed_entries, sifted_entries}
use Rattle.qw_rewrite.proofs.Moved.{moved_all, stayed_all}
use Rattle.qw_rewrite.proofs.Probes.{placed_probes}
use Rattle.qw_rewrite.proofs.Sifting.{IsHonest, IsOver, IsSound, rows_over}
use Rattle.qw_rewrite.proofs.Stages.{all_filtered}
use Rattle.qw_physical.proofs.Scanned.{IsScanned, ScansRights, clauses_scan, keyed_scanned, sifted_scan}
use Rattle.qw_physical.proofs.Conjuncts.{AllConjuncts, clauses_all, sifted_all}
use Rattle.qw_physical.proofs.Plans.{at_seam}

-- ---- the equalities at the keys

eligible_found : (tl tr : ℕ → Bool) (front cs : List Condition)
    → filter_map (λ k. slice_get (front ++ cs) k) (keys_from tl tr (length front) cs) ≡ list.filter (is_eligible tl tr) (quiet_front cs)
eligible_found tl tr front [] = refl
eligible_found tl tr front (c ∷ cs) =
    one (condition_can_raise c) (is_eligible tl tr c) refl
    (subst₂ (λ (all : List Condition) (k : ℕ). filter_map (λ j. slice_get all j) (keys_from tl tr k cs) ≡ list.filter (is_eligible tl tr) (quiet_front cs))
    (append_assoc front (c ∷ []) cs) (length-append front (c ∷ [])) (eligible_found tl tr (front ++ c ∷ []) cs))
  where
    one : (a b : Bool) → is_eligible tl tr c ≡ b
        → filter_map (λ j. slice_get (front ++ c ∷ cs) j) (keys_from tl tr (length front + 1) cs) ≡ list.filter (is_eligible tl tr) (quiet_front cs)
        → filter_map (λ j. slice_get (front ++ c ∷ cs) j) (if a then [] else if b then length front ∷ keys_from tl tr (length front + 1) cs else keys_from tl tr (length front + 1) cs)
        ≡ list.filter (is_eligible tl tr) (if a then [] else c ∷ quiet_front cs)
    one true b e h = refl
    one false true e h = rw (at_seam front c cs, e) (ap (λ (more : List Condition). c ∷ more) h)
    one false false e h = rw e h

equalities_are : (clean : Bool) (left right : Node) (on : List Condition) → filter_map (λ k. slice_get on k) (keys_of_join clean left right on) ≡ at_keys (keys_of_join clean left right on) 0 on
equalities_are clean left right on = one (is_clean_on clean left right)
  where
    one : (b : Bool) → filter_map (λ k. slice_get on k) (if b then keys_from (owns left) (owns right) 0 on else []) ≡ at_keys (if b then keys_from (owns left) (owns right) 0 on else []) 0 on
    one true = eligible_found (owns left) (owns right) [] on ∙ sym (keys_are (owns left) (owns right) on 0 [] tt).0
    one false = sym (none_of [] 0 on tt).0

keys_eligible : (clean : Bool) (left right : Node) (on : List Condition) → AllByRecursion (λ c. is_eligible (owns left) (owns right) c ≡ true) (at_keys (keys_of_join clean left right on) 0 on)
keys_eligible clean left right on = one (is_clean_on clean left right)
  where
    one : (b : Bool) → AllByRecursion (λ c. is_eligible (owns left) (owns right) c ≡ true) (at_keys (if b then keys_from (owns left) (owns right) 0 on else []) 0 on)
    one true =
        subst (λ (cs : List Condition). AllByRecursion (λ c. is_eligible (owns left) (owns right) c ≡ true) cs) (sym (keys_are (owns left) (owns right) on 0 [] tt).0)
        (tested (is_eligible (owns left) (owns right)) (quiet_front on))
    one false = subst (λ (cs : List Condition). AllByRecursion (λ c. is_eligible (owns left) (owns right) c ≡ true) cs) (sym (none_of [] 0 on tt).0) tt

-- ---- plans

-- null at every column that isn't owned
abbrev pub IsNullBeside : (owned : ℕ → Bool) → List Val → Type 0
IsNullBeside owned row = (i : ℕ) → owned i ≡ false → cell row i ≡ Null

module _ (tables : List (List (List Val))) (P : Condition → Type 0) where
  pub record IsKeyedJoin (outer : Bool) (left right : Node) (on : List Condition) (keys : List ℕ) : Type 0 where
    pub conjuncts : AllByRecursion P on
    pub apart : (i : ℕ) → owns left i ≡ true → owns right i ≡ false
    pub lefts : AllByRecursion (IsNullBeside (owns left)) (node_flow tables left).rows
    pub rights : AllByRecursion (IsNullBeside (owns right)) (node_flow tables right).rows
    pub eligible : AllByRecursion (λ c. is_eligible (owns left) (owns right) c ≡ true) (at_keys keys 0 on)
    pub equalities : filter_map (λ k. slice_get on k) keys ≡ at_keys keys 0 on
    pub probes : node_flow tables (join outer left right on keys)
        ≡ probed_by outer (owns left) (owns right) (at_keys keys 0 on) (beside_keys keys 0 on) (node_flow tables left) (node_flow tables right)
    pub scanned : outer ≡ true → IsScanned right

  -- of each join below the select list
  abbrev pub IsGround : Node → Type 0
  IsGround (scan entry table) = Unit {0}
  IsGround (filter conjuncts below) = AllByRecursion P conjuncts × IsGround below
  IsGround (join outer left right on keys) = IsKeyedJoin outer left right on keys × (IsGround left × IsGround right)
  IsGround (project below items) = ⊥

  rows_beside : (Fits : ℕ → Val → Type 0) (node : Node) (clean : Bool) → IsSound tables Fits node → AllByRecursion (IsNullBeside (owns (keyed clean node))) (node_flow tables (keyed clean node)).rows
  rows_beside Fits node clean s =
      subst₂ (λ (es : List ℕ) (f : Flow (List Val)). AllByRecursion (IsNullBeside (is_of es)) f.rows) (sym (keyed_entries node clean)) (sym (keyed_flow tables clean node))
      (all_more (IsOver tables Fits (owns node)) (IsNullBeside (owns node)) (node_flow tables node).rows (λ row over. over.elsewhere) (rows_over tables Fits node s))

  pub grounded : (Fits : ℕ → Val → Type 0) (node : Node) (clean : Bool) → IsSound tables Fits node → AllConjuncts P node → ScansRights node → AreProbes tables (keyed clean node) → IsGround (keyed clean node)
  grounded Fits (scan entry table) clean s h z p = tt
  grounded Fits (filter conjuncts below) clean s h z p = (h.0, grounded Fits below clean s.1 h.1 z p)
  grounded Fits (join outer left right on keys) clean s h z p = (
    record {
      conjuncts = h.0;
      apart = subst₂ (λ (ls rs : List ℕ). (i : ℕ) → is_of ls i ≡ true → is_of rs i ≡ false) (sym (keyed_entries left clean)) (sym (keyed_entries right (clean && is_quiet left))) s.0.1;
      lefts = rows_beside Fits left clean s.1.0;
      rights = rows_beside Fits right (clean && is_quiet left) s.1.1;
      eligible = subst₂ (λ (ls rs : List ℕ). AllByRecursion (λ c. is_eligible (is_of ls) (is_of rs) c ≡ true) (at_keys (keys_of_join clean left right on) 0 on))
          (sym (keyed_entries left clean)) (sym (keyed_entries right (clean && is_quiet left))) (keys_eligible clean left right on);
      equalities = equalities_are clean left right on;
      probes = p.0;
      scanned = λ e. keyed_scanned right (clean && is_quiet left) (z.0 e);
    },
    (grounded Fits left clean s.1.0 h.1.0 z.1.0 p.1.0, grounded Fits right (clean && is_quiet left) s.1.1 h.1.1 z.1.1 p.1.1),
  )
  grounded Fits (project below items) clean s h z p = absurd s

-- sifting keeps plans sound
sifted_sound : (tables : List (List (List Val))) (Fits : ℕ → Val → Type 0) (node : Node) (clean : Bool) (above : List Condition) → AllByRecursion (IsHonest tables Fits) above → IsSound tables Fits node
    → IsSound tables Fits (sifted clean above node)
sifted_sound tables Fits (scan entry table) clean above ha s = (ha, s)
sifted_sound tables Fits (filter conjuncts below) clean above ha s =
    let own : Bool = clean && is_quiet below in (
      stayed_all (IsHonest tables Fits) own conjuncts s.0,
      sifted_sound tables Fits below clean (moved own conjuncts ++ above) (all_append (IsHonest tables Fits) (moved own conjuncts) above (moved_all (IsHonest tables Fits) own conjuncts s.0) ha) s.1,
    )
sifted_sound tables Fits (join true left right on keys) clean above ha s = (
  all_filtered (IsHonest tables Fits) (λ c. not (condition_names_only (owns left) c)) above ha,
  (
    (
      s.0.0,
      subst₂ (λ (ls rs : List ℕ). (i : ℕ) → is_of ls i ≡ true → is_of rs i ≡ false) (sym (sifted_entries left clean (within left above)))
          (sym (sifted_entries right (clean && is_quiet left) [])) s.0.1,
    ),
    (
      sifted_sound tables Fits left clean (within left above) (all_filtered (IsHonest tables Fits) (condition_names_only (owns left)) above ha) s.1.0,
      sifted_sound tables Fits right (clean && is_quiet left) [] tt s.1.1,
    ),
  ),
)
sifted_sound tables Fits (join false left right on keys) clean above ha s =
    let own : Bool = is_clean_on clean left right in
    let down : List Condition = moved own on ++ above in
    let hd : AllByRecursion (IsHonest tables Fits) down = all_append (IsHonest tables Fits) (moved own on) above (moved_all (IsHonest tables Fits) own on s.0.0) ha in
    let rest : AllByRecursion (IsHonest tables Fits) (beyond left down) = all_filtered (IsHonest tables Fits) (λ c. not (condition_names_only (owns left) c)) down hd in
    let here : AllByRecursion (IsHonest tables Fits) (beyond right (beyond left down)) = all_filtered (IsHonest tables Fits) (λ c. not (condition_names_only (owns right) c)) (beyond left down) rest in (
      (
        all_append (IsHonest tables Fits) (beyond right (beyond left down)) (stayed own on) here (stayed_all (IsHonest tables Fits) own on s.0.0),
        subst₂ (λ (ls rs : List ℕ). (i : ℕ) → is_of ls i ≡ true → is_of rs i ≡ false) (sym (sifted_entries left clean (within left down)))
            (sym (sifted_entries right (clean && is_quiet left) (within right (beyond left down)))) s.0.1,
      ),
      (
        sifted_sound tables Fits left clean (within left down) (all_filtered (IsHonest tables Fits) (condition_names_only (owns left)) down hd) s.1.0,
        sifted_sound tables Fits right (clean && is_quiet left) (within right (beyond left down)) (all_filtered (IsHonest tables Fits) (condition_names_only (owns right)) (beyond left down) rest) s.1.1,
      ),
    )
sifted_sound tables Fits (project below items) clean above ha s = absurd s

-- the well placed plan of a query, below its select list
abbrev pub clauses : Specification → Node
clauses query = keyed true (sifted true [] (filter query.conjuncts (from_written query.sources)))

pub query_grounded : (P : Condition → Type 0) (query : Specification) (tables : List (List (List Val))) → IsSpecification query → AreOfEntries (entries_of query.sources) tables
    → IsSizedPlan (written query) → AllByRecursion P (conjuncts_on query.sources ++ query.conjuncts) → IsGround tables P (clauses query)
query_grounded P query tables whole of sized h =
    let from : Node = filter query.conjuncts (from_written query.sources) in
    let fits : ℕ → Val → Type 0 = FitsAt (entries_of query.sources) tables in
    let sound : IsSound tables fits (sifted true [] from) = sifted_sound tables fits from true [] tt (clauses_sound query tables whole of sized) in
    grounded tables P fits (sifted true [] from) true sound (sifted_all P from true [] tt (clauses_all P query h))
    (sifted_scan from true [] (clauses_scan query)) (placed_probes query tables (keyed true (sifted true [] (written query))) whole of sized refl)
