-- The well placed plan of a query in the order that counts suggest, each join built from its side of fewer rows, comes to the query's bag of rows and of exceptions.
use Rattle.std.proofs.Common.{◌≡◌, ℕ, Bool, true, false, not, ◌&&◌, List, [], ◌++◌, refl, sym, subst, subst₂}
use Rattle.std.specs.List.{AllByRecursion}
use Rattle.qw_types.specs.declared.value.Val.{Val}
use Rattle.qw_scalar.specs.Expression.{Condition}
use Rattle.qw_meaning.specs.Flow.{Flow, selected}
use Rattle.qw_meaning.specs.Outcome.{flow}
use Rattle.qw_meaning.specs.Select.{AreOfEntries, IsSpecification, Specification, entries_of}
use Rattle.qw_algebra.specs.Columns.{condition_names_only, is_of, owns}
use Rattle.qw_algebra.specs.Node.{Node, scan, filter, join, project, node_flow}
use Rattle.qw_algebra.specs.Written.{from_written, written}
use Rattle.qw_algebra.proofs.Lists.{all_append}
use Rattle.qw_rewrite.specs.Lowest.{NamesBelow}
use Rattle.qw_rewrite.specs.Order.{is_inner, ordered, ordered_as, rearranged, turned}
use Rattle.qw_rewrite.specs.Placed.{IsSizedPlan, IsWellPlaced}
use Rattle.qw_rewrite.specs.Probe.{keyed}
use Rattle.qw_rewrite.specs.Sift.{beyond, is_clean_on, is_quiet, moved, sifted, stayed, within}
use Rattle.qw_rewrite.proofs.Below.{placed_below}
use Rattle.qw_rewrite.proofs.Grounds.{FitsAt, clauses_sound, flow_of_query}
use Rattle.qw_rewrite.proofs.Moved.{moved_all, stayed_all}
use Rattle.qw_rewrite.proofs.Names.{and_left, and_right}
use Rattle.qw_rewrite.proofs.Once.{keyed_entries, sifted_entries}
use Rattle.qw_rewrite.proofs.Ordering.{SameBag, each_bag, rearranged_sound}
use Rattle.qw_rewrite.proofs.Sifting.{IsHonest, IsSound}
use Rattle.qw_rewrite.proofs.Stages.{all_filtered}
use Rattle.qw_rewrite.proofs.Turned.{ordered_bag, then-bag, turned_bag}

-- sifting keeps plans sound
pub sifted_sound : (tables : List (List (List Val))) (Fits : ℕ → Val → Type 0) (node : Node) (clean : Bool) (above : List Condition) → AllByRecursion (IsHonest tables Fits) above → IsSound tables Fits node
    → IsSound tables Fits (sifted clean above node)
sifted_sound tables Fits (scan entry table) clean above ha s = (ha, s)
sifted_sound tables Fits (filter conjuncts below) clean above ha s =
    let own : Bool = clean && is_quiet below in (
      stayed_all (IsHonest tables Fits) own conjuncts s.0,
      sifted_sound tables Fits below clean (moved own conjuncts ++ above) (all_append (IsHonest tables Fits) (moved own conjuncts) above (moved_all (IsHonest tables Fits) own conjuncts s.0) ha) s.1,
    )
sifted_sound tables Fits (join true left right on keys) clean above ha s = (
  all_filtered (IsHonest tables Fits) (λ c. not (condition_names_only (owns left) c)) above ha,
  (
    (
      s.0.0,
      subst₂ (λ (ls rs : List ℕ). (i : ℕ) → is_of ls i ≡ true → is_of rs i ≡ false) (sym (sifted_entries left clean (within left above)))
          (sym (sifted_entries right (clean && is_quiet left) [])) s.0.1,
    ),
    (
      sifted_sound tables Fits left clean (within left above) (all_filtered (IsHonest tables Fits) (condition_names_only (owns left)) above ha) s.1.0,
      sifted_sound tables Fits right (clean && is_quiet left) [] tt s.1.1,
    ),
  ),
)
sifted_sound tables Fits (join false left right on keys) clean above ha s =
    let own : Bool = is_clean_on clean left right in
    let down : List Condition = moved own on ++ above in
    let hd : AllByRecursion (IsHonest tables Fits) down = all_append (IsHonest tables Fits) (moved own on) above (moved_all (IsHonest tables Fits) own on s.0.0) ha in
    let rest : AllByRecursion (IsHonest tables Fits) (beyond left down) = all_filtered (IsHonest tables Fits) (λ c. not (condition_names_only (owns left) c)) down hd in
    let here : AllByRecursion (IsHonest tables Fits) (beyond right (beyond left down)) = all_filtered (IsHonest tables Fits) (λ c. not (condition_names_only (owns right) c)) (beyond left down) rest in (
      (
        all_append (IsHonest tables Fits) (beyond right (beyond left down)) (stayed own on) here (stayed_all (IsHonest tables Fits) own on s.0.0),
        subst₂ (λ (ls rs : List ℕ). (i : ℕ) → is_of ls i ≡ true → is_of rs i ≡ false) (sym (sifted_entries left clean (within left down)))
            (sym (sifted_entries right (clean && is_quiet left) (within right (beyond left down)))) s.0.1,
      ),
      (
        sifted_sound tables Fits left clean (within left down) (all_filtered (IsHonest tables Fits) (condition_names_only (owns left)) down hd) s.1.0,
        sifted_sound tables Fits right (clean && is_quiet left) (within right (beyond left down)) (all_filtered (IsHonest tables Fits) (condition_names_only (owns right)) (beyond left down) rest) s.1.1,
      ),
    )
sifted_sound tables Fits (project below items) clean above ha s = absurd s

-- so does naming keys
pub keyed_sound : (tables : List (List (List Val))) (Fits : ℕ → Val → Type 0) (node : Node) (clean : Bool) → IsSound tables Fits node → IsSound tables Fits (keyed clean node)
keyed_sound tables Fits (scan entry table) clean s = s
keyed_sound tables Fits (filter conjuncts below) clean s = (s.0, keyed_sound tables Fits below clean s.1)
keyed_sound tables Fits (join outer left right on keys) clean s = (
  (
    s.0.0,
    subst₂ (λ (ls rs : List ℕ). (i : ℕ) → is_of ls i ≡ true → is_of rs i ≡ false) (sym (keyed_entries left clean)) (sym (keyed_entries right (clean && is_quiet left))) s.0.1,
  ),
  (keyed_sound tables Fits left clean s.1.0, keyed_sound tables Fits right (clean && is_quiet left) s.1.1),
)
keyed_sound tables Fits (project below items) clean s = absurd s

-- and the order
pub ordered_sound : (tables : List (List (List Val))) (Fits : ℕ → Val → Type 0) (counts : List ℕ) (conjuncts : List Condition) (from : Node) → IsSound tables Fits (filter conjuncts from) → NamesBelow from
    → IsSound tables Fits (ordered counts (filter conjuncts from))
ordered_sound tables Fits counts conjuncts from s n = by (is_inner from && is_quiet from) refl
  where
    by : (b : Bool) → (is_inner from && is_quiet from) ≡ b → IsSound tables Fits (ordered_as b counts conjuncts from)
    by true h =
        let new = rearranged_sound tables Fits counts conjuncts from s n (and_left (is_inner from) (is_quiet from) h) (and_right (is_inner from) (is_quiet from) h) in
        keyed_sound tables Fits (sifted true [] (rearranged counts conjuncts from)) true (sifted_sound tables Fits (rearranged counts conjuncts from) true [] tt new)
    by false h = s

-- FROM and WHERE
clauses_bag : (tables : List (List (List Val))) (Fits : ℕ → Val → Type 0) (counts : List ℕ) (conjuncts : List Condition) (from : Node) → IsSound tables Fits (filter conjuncts from) → NamesBelow from
    → SameBag (node_flow tables (turned counts (ordered counts (filter conjuncts from)))) (node_flow tables (filter conjuncts from))
clauses_bag tables Fits counts conjuncts from s n =
    then-bag (node_flow tables (turned counts (ordered counts (filter conjuncts from)))) (node_flow tables (ordered counts (filter conjuncts from))) (node_flow tables (filter conjuncts from))
    (turned_bag tables Fits counts (ordered counts (filter conjuncts from)) (ordered_sound tables Fits counts conjuncts from s n))
    (ordered_bag tables Fits counts conjuncts from s n)

-- of the well placed plan of a query
pub order_of_query : (query : Specification) (tables : List (List (List Val))) (counts : List ℕ) (node : Node) → IsSpecification query → AreOfEntries (entries_of query.sources) tables → IsSizedPlan (written query) → IsWellPlaced query node
    → SameBag (node_flow tables (turned counts (ordered counts node))) (flow query tables)
order_of_query query tables counts node whole of sized placed =
    let from : Node = from_written query.sources in
    let own : Bool = true && is_quiet from in
    let stay : List Condition = stayed own query.conjuncts in
    let lower : Node = keyed true (sifted true (moved own query.conjuncts ++ []) from) in
    let fits : ℕ → Val → Type 0 = FitsAt (entries_of query.sources) tables in
    let sound : IsSound tables fits (filter stay lower) = keyed_sound tables fits (sifted true [] (filter query.conjuncts from)) true (sifted_sound tables fits (filter query.conjuncts from) true [] tt (clauses_sound query tables whole of sized)) in
    let names : NamesBelow (keyed true (sifted true [] (written query))) = placed_below query (keyed true (sifted true [] (written query))) whole refl in
    subst (λ (n : Node). SameBag (node_flow tables (turned counts (ordered counts n))) (flow query tables)) (sym placed)
    (subst (λ (f : Flow (List Val)). SameBag (node_flow tables (turned counts (ordered counts (keyed true (sifted true [] (written query)))))) f) (flow_of_query query tables (keyed true (sifted true [] (written query))) whole of sized refl)
    (each_bag (selected query.items) (node_flow tables (turned counts (ordered counts (filter stay lower)))) (node_flow tables (filter stay lower)) (clauses_bag tables fits counts stay lower sound names.1)))
