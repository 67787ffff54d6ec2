-- Each join of a plan in the order that counts suggest, built from either side, comes to what its keys find.
use Rattle.std.proofs.Common.{◌≡◌, ◌∙◌, ◌⊎◌, ℕ, nat_lt, Bool, true, false, if◌then◌else◌, ◌&&◌, List, [], ◌++◌, inl, inr, refl, sym, subst, subst₂, ⊎_elim}
use Rattle.qw_types.specs.declared.value.Val.{Val}
use Rattle.qw_scalar.specs.Expression.{Condition}
use Rattle.qw_meaning.specs.Select.{AreOfEntries, IsSpecification, Specification, entries_of}
use Rattle.qw_algebra.specs.Columns.{is_of, owns}
use Rattle.qw_algebra.specs.Node.{Node, scan, filter, join, project, node_flow}
use Rattle.qw_algebra.specs.Written.{from_written, written}
use Rattle.qw_rewrite.specs.Lowest.{NamesBelow}
use Rattle.qw_rewrite.specs.Order.{is_inner, joined_by, ordered, ordered_as, rearranged, rows_below, turned}
use Rattle.qw_rewrite.specs.Placed.{IsSizedPlan, IsWellPlaced}
use Rattle.qw_rewrite.specs.Probe.{keyed, keys_from, keys_of_join}
use Rattle.qw_rewrite.specs.Probed.{AreProbes, at_keys, beside_keys, probed_by}
use Rattle.qw_rewrite.specs.Sift.{is_clean_on, is_quiet, moved, sifted, stayed}
use Rattle.qw_rewrite.proofs.Below.{placed_below}
use Rattle.qw_rewrite.proofs.Grounds.{FitsAt, clauses_sound}
use Rattle.qw_rewrite.proofs.Joins.{probe_of_join}
use Rattle.qw_rewrite.proofs.Once.{keyed_entries}
use Rattle.qw_rewrite.proofs.OrderOfQuery.{keyed_sound, ordered_sound, sifted_sound}
use Rattle.qw_rewrite.proofs.Probes.{no_keys}
use Rattle.qw_rewrite.proofs.Sifting.{IsSound}
use Rattle.qw_rewrite.proofs.Turned.{keys_turned, owns_turned, sound_turned}

-- the keys of each join are all of its eligible equalities, or, where something before it can raise, none
abbrev pub KeysFound : Node → Type 0
KeysFound (scan entry table) = Unit {0}
KeysFound (filter conjuncts below) = KeysFound below
KeysFound (join outer left right on keys) = ((keys ≡ keys_from (owns left) (owns right) 0 on) ⊎ (keys ≡ [])) × (KeysFound left × KeysFound right)
KeysFound (project below items) = KeysFound below

pub keyed_found : (node : Node) (clean : Bool) → KeysFound (keyed clean node)
keyed_found (scan entry table) clean = tt
keyed_found (filter conjuncts below) clean = keyed_found below clean
keyed_found (join outer left right on keys) clean = (
  subst₂ (λ (ls rs : List ℕ). (keys_of_join clean left right on ≡ keys_from (is_of ls) (is_of rs) 0 on) ⊎ (keys_of_join clean left right on ≡ []))
      (sym (keyed_entries left clean)) (sym (keyed_entries right (clean && is_quiet left))) (one (is_clean_on clean left right)),
  (keyed_found left clean, keyed_found right (clean && is_quiet left)),
)
  where
    one : (b : Bool) → ((if b then keys_from (owns left) (owns right) 0 on else []) ≡ keys_from (owns left) (owns right) 0 on) ⊎ ((if b then keys_from (owns left) (owns right) 0 on else []) ≡ [])
    one true = inl refl
    one false = inr refl
keyed_found (project below items) clean = keyed_found below clean

owned : (counts : List ℕ) (node : Node) → owns (turned counts node) ≡ owns node
owned counts node = λ j i. owns_turned counts node i j

pub turned_found : (counts : List ℕ) (node : Node) → KeysFound node → KeysFound (turned counts node)
turned_found counts (scan entry table) h = h
turned_found counts (filter conjuncts below) h = turned_found counts below h
turned_found counts (join true left right on keys) h = (
  subst₂ (λ (tl tr : ℕ → Bool). (keys ≡ keys_from tl tr 0 on) ⊎ (keys ≡ [])) (sym (owned counts left)) (sym (owned counts right)) h.0,
  (turned_found counts left h.1.0, turned_found counts right h.1.1),
)
turned_found counts (join false left right on keys) h = by (nat_lt (rows_below counts left) (rows_below counts right)) (turned_found counts left h.1.0) (turned_found counts right h.1.1)
  where
    by : (b : Bool) → KeysFound (turned counts left) → KeysFound (turned counts right) → KeysFound (joined_by b (turned counts left) (turned counts right) on keys)
    by false one other = (subst₂ (λ (tl tr : ℕ → Bool). (keys ≡ keys_from tl tr 0 on) ⊎ (keys ≡ [])) (sym (owned counts left)) (sym (owned counts right)) h.0, (one, other))
    by true one other = (
      subst₂ (λ (tl tr : ℕ → Bool). (keys ≡ keys_from tl tr 0 on) ⊎ (keys ≡ [])) (sym (owned counts right)) (sym (owned counts left))
          (⊎_elim (λ e. inl (e ∙ keys_turned (owns left) (owns right) 0 on)) (λ e. inr e) h.0),
      (other, one),
    )
turned_found counts (project below items) h = turned_found counts below h

pub found_probes : (tables : List (List (List Val))) (Fits : ℕ → Val → Type 0) (node : Node) → IsSound tables Fits node → KeysFound node → AreProbes tables node
found_probes tables Fits (scan entry table) s h = tt
found_probes tables Fits (filter conjuncts below) s h = found_probes tables Fits below s.1 h
found_probes tables Fits (join outer left right on keys) s h = (by h.0, (found_probes tables Fits left s.1.0 h.1.0, found_probes tables Fits right s.1.1 h.1.1))
  where
    by : (keys ≡ keys_from (owns left) (owns right) 0 on) ⊎ (keys ≡ []) → node_flow tables (join outer left right on keys)
        ≡ probed_by outer (owns left) (owns right) (at_keys keys 0 on) (beside_keys keys 0 on) (node_flow tables left) (node_flow tables right)
    by (inl e) = subst (λ (ks : List ℕ). node_flow tables (join outer left right on ks) ≡ probed_by outer (owns left) (owns right) (at_keys ks 0 on) (beside_keys ks 0 on) (node_flow tables left) (node_flow tables right)) (sym e)
        (probe_of_join tables Fits outer left right on s)
    by (inr e) = subst (λ (ks : List ℕ). node_flow tables (join outer left right on ks) ≡ probed_by outer (owns left) (owns right) (at_keys ks 0 on) (beside_keys ks 0 on) (node_flow tables left) (node_flow tables right)) (sym e)
        (no_keys tables Fits outer left right on s)
found_probes tables Fits (project below items) s h = absurd s

-- of the order, with its test
ordered_found : (counts : List ℕ) (conjuncts : List Condition) (from : Node) → KeysFound from → KeysFound (ordered counts (filter conjuncts from))
ordered_found counts conjuncts from h = by (is_inner from && is_quiet from)
  where
    by : (b : Bool) → KeysFound (ordered_as b counts conjuncts from)
    by true = keyed_found (sifted true [] (rearranged counts conjuncts from)) true
    by false = h

-- each join of the ordered plan finds by its keys what it comes to
pub probes_of_query : (query : Specification) (tables : List (List (List Val))) (counts : List ℕ) (node : Node) → IsSpecification query → AreOfEntries (entries_of query.sources) tables → IsSizedPlan (written query) → IsWellPlaced query node
    → AreProbes tables (turned counts (ordered counts node))
probes_of_query query tables counts node whole of sized placed =
    let from : Node = from_written query.sources in
    let own : Bool = true && is_quiet from in
    let stay : List Condition = stayed own query.conjuncts in
    let lower : Node = keyed true (sifted true (moved own query.conjuncts ++ []) from) in
    let fits : ℕ → Val → Type 0 = FitsAt (entries_of query.sources) tables in
    let sound : IsSound tables fits (filter stay lower) = keyed_sound tables fits (sifted true [] (filter query.conjuncts from)) true (sifted_sound tables fits (filter query.conjuncts from) true [] tt (clauses_sound query tables whole of sized)) in
    let names : NamesBelow (keyed true (sifted true [] (written query))) = placed_below query (keyed true (sifted true [] (written query))) whole refl in
    subst (λ (n : Node). AreProbes tables (turned counts (ordered counts n))) (sym placed)
    (found_probes tables fits (turned counts (ordered counts (filter stay lower))) (sound_turned tables fits counts (ordered counts (filter stay lower)) (ordered_sound tables fits counts stay lower sound names.1))
    (turned_found counts (ordered counts (filter stay lower)) (ordered_found counts stay lower (keyed_found (sifted true (moved own query.conjuncts ++ []) from) true))))
