-- Each pipeline that builds a table feeds entries of the rows of its side.
use Rattle.std.proofs.Common.{◌≡◌, ◌∙◌, ◌≤◌, ℕ, zero, suc, ◌+◌, Bool, true, false, if◌then◌else◌, List, [], ◌∷◌, ◌++◌, length, map, take, Some, slice_get, refl, sym, ap, subst, append-nil, append_assoc, length-append, arith}
use Rattle.std.specs.List.{AllByRecursion, AllZip, Contains, flat_map}
use Rattle.std.specs.List as list
use Rattle.std.specs.List.Sorted.{IsPermutation}
use Rattle.std.proofs.ByRecursion.{all_shuffled}
use Rattle.std.proofs.lemmas.List.Elements.{Contains-append_left, Contains-append_right}
use Rattle.std.proofs.lemmas.List.Sorted.{Contains-permutation, IsPermutation-sym, length_permutation}
use Rattle.qw_types.specs.Value.{IsOfTypeOrNull, IsSized}
use Rattle.qw_types.specs.declared.code.Code.{Code}
use Rattle.qw_types.specs.declared.schema.ColumnType.{ColumnType}
use Rattle.qw_types.specs.declared.value.Val.{Val}
use Rattle.qw_scalar.specs.Expression.{Condition, Expression}
use Rattle.qw_scalar.specs.Typing.{IsValueOf, kind_of}
use Rattle.qw_meaning.specs.Flow.{Flow, codes_given, kept, selected, spread}
use Rattle.qw_meaning.specs.From.{completed_pairs, crossed, joined}
use Rattle.qw_meaning.specs.Select.{Entry}
use Rattle.qw_algebra.specs.Columns.{owns}
use Rattle.qw_algebra.specs.Node.{Node, scan, filter, join, project, node_flow}
use Rattle.qw_algebra.proofs.Lists.{all_append, all_flat_map, all_more, flat_map_none}
use Rattle.qw_rewrite.specs.Probed.{at_keys}
use Rattle.qw_rewrite.proofs.Sifting.{IsOver}
use Rattle.qw_pipe.specs.Pipes.{split}
use Rattle.qw_pipe.specs.Units.{operand_of}
use Rattle.qw_feed.specs.Feeds.{nothing, one_row}
use Rattle.qw_table.specs.Joins.{have_values}
use Rattle.qw_physical.specs.Physical.{Build, Pipeline, build}
use Rattle.qw_physical.specs.Courses.{AreBuilt, fed, pipeline_fed}
use Rattle.qw_physical.specs.Sides.{FeedsSide, IsEntryOf, IsMadeFor, IsOfEntries, sides}
use Rattle.qw_physical.specs.Spelled.{all_spelled, kept_columns, spelled}
use Rattle.qw_physical.specs.declared.pipeline.ReadColumn.{ReadColumn}
use Rattle.qw_physical.proofs.Declared.{AllScans, IsDeclared, ScanDeclared, rows_declared}
use Rattle.qw_physical.proofs.Entries.{front_dropped, front_taken, kept_values}
use Rattle.qw_physical.proofs.EntryRows.{all_filter}
use Rattle.qw_physical.proofs.Feeding.{Feeds, built_count, building, feeds, lookup, side_fed, spelled_count, spelled_join}
use Rattle.qw_physical.proofs.Joining.{entry_is, entry_key, kept_are, kept_count, the_build}
use Rattle.qw_physical.proofs.Placed.{F, IsReady, ReadyJoin}
use Rattle.qw_physical.proofs.QueryNulls.{NullAt, OuterRights}
use Rattle.qw_leaves.proofs.LeafLists.{all_pairs}

-- ---- pipelines in order

module _ (tables : List (List (List Val))) where
  -- what each of some pipelines feeds, over tables that those before it built
  abbrev pub FeedSides : (built : List (List (List Val))) → List Pipeline → List Node → Type 0
  FeedSides built [] [] = Unit {0}
  FeedSides built (p ∷ ps) (side ∷ more) =
      FeedsSide tables built p side
      × ((entries : List (List Val)) → (pipeline_fed tables built p).codes ≡ [] → IsPermutation (pipeline_fed tables built p).rows entries → FeedSides (built ++ entries ∷ []) ps more)
  FeedSides built [] (side ∷ more) = ⊥
  FeedSides built (p ∷ ps) [] = ⊥

  feed_append : (xs ys : List Pipeline) (ss ts : List Node) (start : List (List (List Val))) → FeedSides start xs ss
      → ((own : List (List (List Val))) → AreBuilt tables start xs own → FeedSides (start ++ own) ys ts) → FeedSides start (xs ++ ys) (ss ++ ts)
  feed_append [] ys [] ts start h more = subst (λ (b : List (List (List Val))). FeedSides b ys ts) (append-nil start) (more [] tt)
  feed_append [] ys (s ∷ ss) ts start h more = absurd h
  feed_append (x ∷ xs) ys [] ts start h more = absurd h
  feed_append (x ∷ xs) ys (s ∷ ss) ts start h more = (
    h.0,
    λ entries none permuted. feed_append xs ys ss ts (start ++ entries ∷ []) (h.1 entries none permuted)
        (λ own built. subst (λ (b : List (List (List Val))). FeedSides b ys ts) (sym (append_assoc start (entries ∷ []) own)) (more (entries ∷ own) (none, permuted, built))),
  )

  -- of one of them
  pub record HasSide (start more : List (List (List Val))) (before : List Pipeline) (p : Pipeline) (ss : List Node) : Type 0 where
    pub side : Node
    pub stands : slice_get ss (length before) ≡ Some side
    pub feeds : FeedsSide tables (start ++ more) p side

  pub side_of : (before : List Pipeline) (p : Pipeline) (after : List Pipeline) (ss : List Node) (start more : List (List (List Val))) → FeedSides start (before ++ p ∷ after) ss
      → AreBuilt tables start before more → HasSide start more before p ss
  side_of [] p after [] start more h built = absurd h
  side_of [] p after (s ∷ ss) start [] h built =
      record { side = s; stands = refl; feeds = subst (λ (b : List (List (List Val))). FeedsSide tables b p s) (sym (append-nil start)) h.0 }
  side_of [] p after (s ∷ ss) start (e ∷ more) h built = absurd built
  side_of (x ∷ before) p after [] start more h built = absurd h
  side_of (x ∷ before) p after (s ∷ ss) start [] h built = absurd built
  side_of (x ∷ before) p after (s ∷ ss) start (e ∷ more) h built =
      let rest = side_of before p after ss (start ++ e ∷ []) more (h.1 e built.0 built.1) built.2 in
      record {
        side = rest.side;
        stands = rest.stands;
        feeds = subst (λ (b : List (List (List Val))). FeedsSide tables b p rest.side) (append_assoc start (e ∷ []) more) rest.feeds;
      }

-- ---- one entry

few_made : {A B : Type 0} (f : A → List B) (xs : List A) → AllByRecursion (λ x. length (f x) ≤ 1) xs → length (flat_map f xs) ≤ length xs
few_made f [] h = omega arith
few_made f (x ∷ xs) h = omega (arith, length-append (f x) (flat_map f xs), h.0, few_made f xs h.1)

pub filter_holds : {A : Type 0} (test : A → Bool) (xs : List A) → AllByRecursion (λ x. test x ≡ true) (list.filter test xs)
filter_holds test [] = tt
filter_holds test (x ∷ xs) = one (test x) refl (list.filter test xs) (filter_holds test xs)
  where
    one : (b : Bool) → test x ≡ b → (rest : List _) → AllByRecursion (λ y. test y ≡ true) rest → AllByRecursion (λ y. test y ≡ true) (if b then x ∷ rest else rest)
    one true e rest h = (e, h)
    one false e rest h = h

kinds_mapped : (es fs : List Expression) (vs : List Val) → es ≡ fs → AllZip (λ (e : Expression) (v : Val). IsValueOf (kind_of e) v) fs vs → AllZip (λ (e : Expression) (v : Val). IsValueOf (kind_of e) v) es vs
kinds_mapped es fs vs e h = subst (λ (xs : List Expression). AllZip (λ (e : Expression) (v : Val). IsValueOf (kind_of e) v) xs vs) (sym e) h

module _ (entries : List Entry) (tables : List (List (List Val))) (columns : List ReadColumn)
    (sized : AllByRecursion (λ (e : Entry). AllByRecursion (λ (c : ColumnType). IsSized c.ty) e.columns) entries)
    (known : List Entry) (there : AllByRecursion (IsOfEntries known) columns) where
  kept_typed : (owned : ℕ → Bool) (cs : List ReadColumn) (r : List Val) → AllByRecursion (λ (c : ReadColumn). owned c.number ≡ true) cs → AllByRecursion (IsOfEntries known) cs → IsDeclared known owned r
      → AllZip (λ (c : ReadColumn) (v : Val). IsOfTypeOrNull c.ty c.not_null v) cs (kept_values cs r)
  kept_typed owned [] r h g d = tt
  kept_typed owned (c ∷ cs) r h g d = (d c.number h.0 (record { ty = c.ty; not_null = c.not_null }) g.0, kept_typed owned cs r h.1 g.1 d)

  module _ (outer : Bool) (left right : Node) (on : List Condition) (keys : List ℕ) (m : ℕ) (j : ReadyJoin entries tables columns sized outer left right on keys) (before : List (List (List Val))) where
    abbrev b : Build
    b = the_build entries tables columns sized outer left right on keys m j

    abbrev of_row : List Val → Flow (List Val)
    of_row r = fed before [] (build b) r

    -- the values that a row is entered with
    abbrev entry_of : (r : List Val) → IsOver tables (F entries tables columns sized) (owns right) r → List Val
    entry_of r over =
        (entry_key entries tables columns sized outer left right on keys m j r over).values ++ kept_values (kept_columns columns (lookup entries tables columns sized outer right on keys)) r

    entry_made : (r : List Val) → IsOver tables (F entries tables columns sized) (owns right) r → IsDeclared known (owns right) r → AllByRecursion (IsMadeFor (build b)) (of_row r).rows
    entry_made r over declared =
        subst (λ (f : Flow (List Val)). AllByRecursion (IsEntryOf b) f.rows) (sym (entry_is entries tables columns sized outer left right on keys m j before r over)) (one (have_values ws) refl)
      where
        ws : List Val
        ws = (entry_key entries tables columns sized outer left right on keys m j r over).values

        kv : List Val
        kv = kept_values (kept_columns columns (lookup entries tables columns sized outer right on keys)) r

        front : take (length b.key) (ws ++ kv) ≡ ws
        front = front_taken (length b.key) ws kv (kept_count entries tables columns sized outer left right on keys m j r over)

        one : (q : Bool) → have_values ws ≡ q → AllByRecursion (IsEntryOf b) (if q then one_row (ws ++ kv) else nothing).rows
        one true e = (
          record {
            key = subst (AllZip (λ (x : Expression) (v : Val). IsValueOf (kind_of x) v) b.key) (sym front)
                (kinds_mapped b.key (map (operand_of (owns right)) (at_keys keys 0 on)) ws (kept_are entries tables columns sized outer left right on keys m j)
                (entry_key entries tables columns sized outer left right on keys m j r over).kinds);
            present = ap have_values front ∙ e;
            kept = subst (AllZip (λ (c : ReadColumn) (v : Val). IsOfTypeOrNull c.ty c.not_null v) b.kept)
                (sym (front_dropped (length b.key) ws kv (kept_count entries tables columns sized outer left right on keys m j r over)))
                (kept_typed (owns right) b.kept r (filter_holds (λ (c : ReadColumn). owns right c.number) columns)
                (all_filter (IsOfEntries known) (λ (c : ReadColumn). owns right c.number) columns there) declared);
          },
          tt,
        )
        one false e = tt

    entry_few : (r : List Val) → IsOver tables (F entries tables columns sized) (owns right) r → length (of_row r).rows ≤ 1
    entry_few r over =
        subst (λ (f : Flow (List Val)). length f.rows ≤ 1) (sym (entry_is entries tables columns sized outer left right on keys m j before r over)) (one (have_values (entry_key entries tables columns sized outer left right on keys m j r over).values))
      where
        one : (q : Bool) → length (if q then one_row (entry_of r over) else nothing).rows ≤ 1
        one true = omega arith
        one false = omega arith

    entry_quiet : (r : List Val) → IsOver tables (F entries tables columns sized) (owns right) r → (of_row r).codes ≡ []
    entry_quiet r over =
        ap (λ (f : Flow (List Val)). f.codes) (entry_is entries tables columns sized outer left right on keys m j before r over) ∙ one (have_values (entry_key entries tables columns sized outer left right on keys m j r over).values)
      where
        one : (q : Bool) → (if q then one_row (entry_of r over) else nothing).codes ≡ []
        one true = refl
        one false = refl

  -- ---- the pipelines that build

  side_feeds : (outer : Bool) (left right : Node) (on : List Condition) (keys : List ℕ) (next m : ℕ) (built : List (List (List Val))) (ready : IsReady entries tables columns sized (join outer left right on keys))
      → AllScans (ScanDeclared known tables) right → OuterRights (NullAt known) right → Feeds entries tables columns sized next right built
      → FeedsSide tables built (spelled columns m (building entries tables columns sized next outer right on keys)) right
  side_feeds outer left right on keys next m built ready scans nulls r =
      let work : List Val → Flow (List Val) = of_row outer left right on keys m ready.0 built in
      let p : Pipeline = spelled columns m (building entries tables columns sized next outer right on keys) in
      let over : List Val → Type 0 = IsOver tables (F entries tables columns sized) (owns right) in
      let R : List (List Val) = (node_flow tables right).rows in
      let a = side_fed entries tables columns sized outer left right on keys next m built ready r in
      let quiet : flat_map (λ row. (work row).codes) R ≡ [] =
      flat_map_none (λ row. (work row).codes) R (all_more over (λ row. (work row).codes ≡ []) R (λ row o. entry_quiet outer left right on keys m ready.0 built row o) ready.0.over_right) in
      let all_codes : (spread work (node_flow tables right)).codes ≡ (node_flow tables right).codes =
      ap (λ (cs : List Code). (node_flow tables right).codes ++ cs) quiet ∙ append-nil (node_flow tables right).codes in
      record {
        codes = λ code h. subst (λ (cs : List Code). Contains cs code) all_codes (Contains-permutation (pipeline_fed tables built p).codes (spread work (node_flow tables right)).codes code a.1 h);
        few = subst (λ (n : ℕ). n ≤ length R) (length_permutation (pipeline_fed tables built p).rows (spread work (node_flow tables right)).rows a.0)
            (few_made (λ row. (work row).rows) R (all_more over (λ row. length (work row).rows ≤ 1) R (λ row o. entry_few outer left right on keys m ready.0 built row o) ready.0.over_right));
        entries = all_shuffled (IsMadeFor p.sink) (spread work (node_flow tables right)).rows (pipeline_fed tables built p).rows (IsPermutation-sym (pipeline_fed tables built p).rows (spread work (node_flow tables right)).rows a.0)
            (all_flat_map (IsMadeFor p.sink) (λ row. (work row).rows) R
            (all_more (λ row. over row × IsDeclared known (owns right) row) (λ row. AllByRecursion (IsMadeFor p.sink) (work row).rows) R (λ row o. entry_made outer left right on keys m ready.0 built row o.0 o.1)
            (all_pairs over (IsDeclared known (owns right)) R ready.0.over_right (rows_declared known tables entries columns sized right ready.1.1 scans nulls))));
      }

  pub feed_sides : (node : Node) (next : ℕ) (start : List (List (List Val))) → length start ≡ next → IsReady entries tables columns sized node → AllScans (ScanDeclared known tables) node → OuterRights (NullAt known) node
      → FeedSides tables start (all_spelled columns next (split next node).builds) (sides node)
  feed_sides (scan entry table) next start long ready scans nulls = tt
  feed_sides (filter conjuncts below) next start long ready scans nulls = feed_sides below next start long ready.1 scans nulls
  feed_sides (join outer left right on keys) next start long ready scans nulls =
      let m : ℕ = next + length (split next right).builds in
      let firsts : List Pipeline = all_spelled columns next (split next right).builds in
      let p : Pipeline = spelled columns m (building entries tables columns sized next outer right on keys) in
      let lasts : List Pipeline = all_spelled columns (m + 1) (split (m + 1) left).builds in
      let go = feed_sides left (m + 1) in
      subst (λ (ps : List Pipeline). FeedSides tables start ps (sides right ++ right ∷ sides left)) (sym (spelled_join entries tables columns sized outer left right on keys next))
      (feed_append tables firsts (p ∷ lasts) (sides right) (right ∷ sides left) start (feed_sides right next start long ready.1.1 scans.1 nulls.1.1)
      (λ own built. (
        side_feeds outer left right on keys next m (start ++ own) ready scans.1 nulls.1.1 (feeds entries tables columns sized right next start own long built ready.1.1),
        λ stored none permuted. go ((start ++ own) ++ stored ∷ [])
            (length-append (start ++ own) (stored ∷ []) ∙ ap (λ (k : ℕ). k + 1) (length-append start own
            ∙ counted (length start) (length own) (length (split next right).builds) next long
            (built_count tables start firsts own built ∙ spelled_count columns next (split next right).builds))) ready.1.0 scans.0 nulls.1.0,
      )))
    where
      counted : (a b k n : ℕ) → a ≡ n → b ≡ k → a + b ≡ n + k
      counted a b k n e f = omega (arith, e, f)
  feed_sides (project below items) next start long ready scans nulls = absurd ready

-- ---- exceptions of sides are the plan's

joined_front : (outer : Bool) (on : List Condition) (one other : Flow (List Val)) (code : Code) → Contains (one.codes ++ other.codes) code → Contains (joined outer on one other).codes code
joined_front true on one other code h = Contains-append_left (one.codes ++ other.codes) (flat_map (λ l. (completed_pairs on other.rows l).codes) one.rows) code h
joined_front false on one other code h = Contains-append_left (one.codes ++ other.codes) (flat_map (λ row. codes_given (kept on row)) (crossed one other).rows) code h

pub side_codes : (tables : List (List (List Val))) (code : Code) (node : Node) → AllByRecursion (λ side. Contains (node_flow tables side).codes code → Contains (node_flow tables node).codes code) (sides node)
side_codes tables code (scan entry table) = tt
side_codes tables code (filter conjuncts below) =
    all_more (λ side. Contains (node_flow tables side).codes code → Contains (node_flow tables below).codes code)
    (λ side. Contains (node_flow tables side).codes code → Contains (node_flow tables (filter conjuncts below)).codes code) (sides below)
    (λ side f h. Contains-append_left (node_flow tables below).codes (flat_map (λ row. codes_given (kept conjuncts row)) (node_flow tables below).rows) code (f h)) (side_codes tables code below)
side_codes tables code (join outer left right on keys) =
    let L : List Code = (node_flow tables left).codes in
    let R : List Code = (node_flow tables right).codes in
    let whole : List Code = (node_flow tables (join outer left right on keys)).codes in
    let of_left : Contains L code → Contains whole code = λ h. joined_front outer on (node_flow tables left) (node_flow tables right) code (Contains-append_left L R code h) in
    let of_right : Contains R code → Contains whole code = λ h. joined_front outer on (node_flow tables left) (node_flow tables right) code (Contains-append_right L R code h) in
    all_append (λ side. Contains (node_flow tables side).codes code → Contains whole code) (sides right) (right ∷ sides left)
    (all_more (λ side. Contains (node_flow tables side).codes code → Contains R code) (λ side. Contains (node_flow tables side).codes code → Contains whole code) (sides right) (λ side f h. of_right (f h)) (side_codes tables code right))
    (of_right, all_more (λ side. Contains (node_flow tables side).codes code → Contains L code) (λ side. Contains (node_flow tables side).codes code → Contains whole code) (sides left) (λ side f h. of_left (f h)) (side_codes tables code left))
side_codes tables code (project below items) =
    all_more (λ side. Contains (node_flow tables side).codes code → Contains (node_flow tables below).codes code)
    (λ side. Contains (node_flow tables side).codes code → Contains (node_flow tables (project below items)).codes code) (sides below)
    (λ side f h. Contains-append_left (node_flow tables below).codes (flat_map (λ row. codes_given (selected items row)) (node_flow tables below).rows) code (f h)) (side_codes tables code below)

pub element_at : {A : Type 0} (P : A → Type 0) (xs : List A) (k : ℕ) (x : A) → AllByRecursion P xs → slice_get xs k ≡ Some x → P x
element_at P [] k x h e = absurd cc
element_at P (y ∷ xs) zero x h e =
    let same : y ≡ x = cc in
    subst P same h.0
element_at P (y ∷ xs) (suc k) x h e = element_at P xs k x h.1 e
