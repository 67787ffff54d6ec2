-- The columns and literals of a tree of the code and of what it stands for are the same, each once: an abbreviation repeats an operand only behind itself
-- (ISO/IEC 9075:1992, 6.9, 8.3, 8.4).
use Rattle.std.proofs.Common.{◌≡◌, ◌∙◌, ℕ, Bool, true, false, ◌||◌, if◌then◌else◌, List, [], ◌∷◌, ◌++◌, map, refl, sym, ap, ap₂}
use Rattle.std.specs.List.{AllByRecursion, flat_map, list_any}
use Rattle.std.proofs.lemmas.List.{append_assoc}
use Rattle.std.proofs.lemmas.List.Folds.{list_any-append}
use Rattle.qw_scalar.specs.declared.expression.Expr.{Expr}
use Rattle.qw_scalar.specs.declared.expression.Cond.{Cond}
use Rattle.qw_scalar.specs.declared.expression.Function.TheVariants.{Coalesce, NullIf}
use Rattle.qw_scalar.specs.declared.expression.Exprs.{Exprs}
use Rattle.qw_scalar.specs.declared.expression.Branches.{Branches}
use Rattle.qw_scalar.specs.declared.expression.Matches.{Matches}
use Rattle.qw_scalar.specs.declared.expression.Expr.TheVariants.{Null, Number, Date, Text, Column, Arithmetic', Negative', Extract', Case', Match', Call'}
use Rattle.qw_scalar.specs.declared.expression.Cond.TheVariants.{Compare', Between', In', Predicate', And', Or', Not', Is'}
use Rattle.qw_scalar.specs.declared.expression.Exprs.TheVariants as Exprs
use Rattle.qw_scalar.specs.declared.expression.Branches.TheVariants as Branches
use Rattle.qw_scalar.specs.declared.expression.Matches.TheVariants as Matches
use Rattle.qw_scalar.specs.Expression.{Condition, Expression, among, cases, coalesced, unless_among}
use Rattle.qw_scalar.specs.Tree.{choices_of, condition_of, expression_of, expressions_of, matches_of}
use Rattle.qw_leaves.specs.declared.leaf.Leaf.{Leaf}
use Rattle.qw_leaves.specs.Leaves.{condition_leaves, leaves, leaves_in, leaves_of_all, leaves_of_branches, leaves_of_matches, leaves_within}
use Rattle.qw_meaning.specs.Query.{QueryParts, joined_of, query_of, source_of}
use Rattle.qw_meaning.specs.Select.{Joined, conjuncts_on}
use Rattle.qw_meaning.specs.declared.query.Joined as coded_join
use Rattle.qw_meaning.specs.declared.query.Source as coded_source
use Rattle.qw_algebra.specs.Sizes.{tests_in, tests_on}
use Rattle.qw_algebra.proofs.Lists.{map_append}
use Rattle.qw_whole.specs.Layouts.{and_all_new, and_new, leaves_of}

-- ---- each ON of a query
tests_of_joins : (joins : List coded_join.Joined) → flat_map (λ (j : Joined). j.on) (map joined_of joins) ≡ map condition_of (tests_in joins)
tests_of_joins [] = refl
tests_of_joins (j ∷ joins) = ap (λ (cs : List Condition). map condition_of j.on.items ++ cs) (tests_of_joins joins) ∙ sym (map_append condition_of j.on.items (tests_in joins))

tests_of_sources : (sources : List coded_source.Source) → conjuncts_on (map source_of sources) ≡ map condition_of (tests_on sources)
tests_of_sources [] = refl
tests_of_sources (source ∷ sources) =
    ap₂ (λ (cs ds : List Condition). cs ++ ds) (tests_of_joins source.joins.items) (tests_of_sources sources) ∙ sym (map_append condition_of (tests_in source.joins.items) (tests_on sources))

-- the leaves of a query's trees, in written order
abbrev pub leaves_written : QueryParts → List Leaf
leaves_written parts = flat_map leaves_within (tests_on parts.sources) ++ (flat_map leaves_within parts.conjuncts ++ flat_map leaves_in parts.items)

or_true : (b : Bool) → (b || true) ≡ true
or_true true = refl
or_true false = refl

-- ---- lists of which each element stands once
module _ {T : Type 0} (same : T → T → Bool) (itself : (x : T) → same x x ≡ true) where
  abbrev IsThere : List T → T → Type 0
  IsThere xs x = list_any (λ y. same y x) xs ≡ true

  abbrev AreThere : List T → (more : List T) → Type 0
  AreThere xs more = AllByRecursion (IsThere xs) more

  stays_in : (xs ys : List T) (x : T) → IsThere xs x → IsThere (xs ++ ys) x
  stays_in xs ys x h = list_any-append (λ y. same y x) xs ys ∙ ap (λ (b : Bool). b || list_any (λ y. same y x) ys) h

  last_is : (xs : List T) (x : T) → IsThere (xs ++ x ∷ []) x
  last_is xs x = list_any-append (λ y. same y x) xs (x ∷ []) ∙ ap (λ (b : Bool). list_any (λ y. same y x) xs || (b || false)) (itself x) ∙ or_true (list_any (λ y. same y x) xs)

  new_there : (xs : List T) (x : T) → IsThere (and_new same xs x) x
  new_there xs x = choose (list_any (λ y. same y x) xs) refl
    where
      choose : (b : Bool) → list_any (λ y. same y x) xs ≡ b → IsThere (if b then xs else xs ++ x ∷ []) x
      choose true h = h
      choose false h = last_is xs x

  one_stays : (xs : List T) (y x : T) → IsThere xs x → IsThere (and_new same xs y) x
  one_stays xs y x h = choose (list_any (λ z. same z y) xs)
    where
      choose : (b : Bool) → IsThere (if b then xs else xs ++ y ∷ []) x
      choose true = h
      choose false = stays_in xs (y ∷ []) x h

  stays : (more xs : List T) (x : T) → IsThere xs x → IsThere (and_all_new same xs more) x
  stays [] xs x h = h
  stays (y ∷ more) xs x h = stays more (and_new same xs y) x (one_stays xs y x h)

  all_stay : (more xs ys : List T) → AreThere xs ys → AreThere (and_all_new same xs more) ys
  all_stay more xs [] h = tt
  all_stay more xs (y ∷ ys) h = (stays more xs y h.0, all_stay more xs ys h.1)

  all_come : (more xs : List T) → AreThere (and_all_new same xs more) more
  all_come [] xs = tt
  all_come (y ∷ more) xs = (stays more (and_new same xs y) y (new_there xs y), all_come more (and_new same xs y))

  nothing_new : (more xs : List T) → AreThere xs more → and_all_new same xs more ≡ xs
  nothing_new [] xs h = refl
  nothing_new (y ∷ more) xs h =
      let kept : and_new same xs y ≡ xs = ap (λ (b : Bool). if b then xs else xs ++ y ∷ []) h.0 in
      ap (λ (l : List T). and_all_new same l more) kept ∙ nothing_new more xs h.1

  pub in_parts : (xs more behind : List T) → and_all_new same xs (more ++ behind) ≡ and_all_new same (and_all_new same xs more) behind
  in_parts xs [] behind = refl
  in_parts xs (y ∷ more) behind = in_parts (and_new same xs y) more behind

  -- ---- what is among leaves, each once
  module _ (among_leaves : List Leaf → List T) (joined : (ls ms : List Leaf) → among_leaves (ls ++ ms) ≡ among_leaves ls ++ among_leaves ms) where
    -- what of leaves comes behind these
    abbrev with_leaves : List T → List Leaf → List T
    with_leaves xs ls = and_all_new same xs (among_leaves ls)

    -- they bring the same, whatever stands before them
    abbrev pub AreAlike : (ls ms : List Leaf) → Type 0
    AreAlike ls ms = (xs : List T) → and_all_new same xs (among_leaves ls) ≡ and_all_new same xs (among_leaves ms)

    with_both : (ls ms : List Leaf) (xs : List T) → with_leaves xs (ls ++ ms) ≡ with_leaves (with_leaves xs ls) ms
    with_both ls ms xs = ap (and_all_new same xs) (joined ls ms) ∙ in_parts xs (among_leaves ls) (among_leaves ms)

    none : (ls : List Leaf) → AreAlike ls ls
    none ls xs = refl

    chained : (ls ms ns : List Leaf) → AreAlike ls ms → AreAlike ms ns → AreAlike ls ns
    chained ls ms ns first second xs = first xs ∙ second xs

    pub both_alike : (ls ms ls2 ms2 : List Leaf) → AreAlike ls ls2 → AreAlike ms ms2 → AreAlike (ls ++ ms) (ls2 ++ ms2)
    both_alike ls ms ls2 ms2 first second xs =
        with_both ls ms xs ∙ ap (λ (l : List T). with_leaves l ms) (first xs) ∙ second (with_leaves xs ls2) ∙ sym (with_both ls2 ms2 xs)

    as_lists : (ls ms : List Leaf) → ls ≡ ms → AreAlike ls ms
    as_lists ls ms e xs = ap (λ (l : List Leaf). with_leaves xs l) e

    -- leaves that stand before come again
    again : (ls ms ns : List Leaf) → AreAlike (ls ++ (ms ++ ns)) (ls ++ (ms ++ (ls ++ ns)))
    again ls ms ns xs =
        let seen : List T = with_leaves xs ls in
        let more : List T = with_leaves seen ms in
        let there : AreThere more (among_leaves ls) = all_stay (among_leaves ms) seen (among_leaves ls) (all_come (among_leaves ls) xs) in
        with_both ls (ms ++ ns) xs ∙ with_both ms ns seen
        ∙ ap (λ (l : List T). with_leaves l ns) (sym (nothing_new (among_leaves ls) more there))
        ∙ sym (with_both ls ns more) ∙ sym (with_both ms (ls ++ ns) seen) ∙ sym (with_both ls (ms ++ (ls ++ ns)) xs)

    -- as between has it: x a x b for x a b
    range : (x a b : List Leaf) → AreAlike (x ++ (a ++ b)) ((x ++ a) ++ (x ++ b))
    range x a b = chained (x ++ (a ++ b)) (x ++ (a ++ (x ++ b))) ((x ++ a) ++ (x ++ b)) (again x a b) (as_lists (x ++ (a ++ (x ++ b))) ((x ++ a) ++ (x ++ b)) (sym (append_assoc x a (x ++ b))))

    first_again : (x a : List Leaf) → AreAlike (x ++ a) ((x ++ a) ++ x)
    first_again x a xs =
        let seen : List T = with_leaves xs x in
        let there : AreThere (with_leaves seen a) (among_leaves x) = all_stay (among_leaves a) seen (among_leaves x) (all_come (among_leaves x) xs) in
        with_both x a xs ∙ sym (nothing_new (among_leaves x) (with_leaves seen a) there) ∙ ap (λ (l : List T). with_leaves l x) (sym (with_both x a xs)) ∙ sym (with_both (x ++ a) x xs)

    later : (x a b c : List Leaf) → AreAlike (x ++ (a ++ (b ++ c))) ((x ++ a) ++ (b ++ (x ++ c)))
    later x a b c =
        chained (x ++ (a ++ (b ++ c))) (x ++ ((a ++ b) ++ c)) ((x ++ a) ++ (b ++ (x ++ c))) (as_lists (x ++ (a ++ (b ++ c))) (x ++ ((a ++ b) ++ c)) (ap (λ (l : List Leaf). x ++ l) (sym (append_assoc a b c))))
        (chained (x ++ ((a ++ b) ++ c)) (x ++ ((a ++ b) ++ (x ++ c))) ((x ++ a) ++ (b ++ (x ++ c))) (again x (a ++ b) c)
        (as_lists (x ++ ((a ++ b) ++ (x ++ c))) ((x ++ a) ++ (b ++ (x ++ c))) (ap (λ (l : List Leaf). x ++ l) (append_assoc a b (x ++ c)) ∙ sym (append_assoc x a (b ++ (x ++ c))))))

    -- ---- trees
    mutual
      pub expression_alike : (e : Expr) → AreAlike (leaves_in e) (leaves (expression_of e))
      expression_alike Null = none []
      expression_alike (Number v s) = none (leaves_in (Number v s))
      expression_alike (Date d) = none (leaves_in (Date d))
      expression_alike (Text t) = none (leaves_in (Text t))
      expression_alike (Column i ty) = none (leaves_in (Column i ty))
      expression_alike (Arithmetic' operator _ a _ b) = both_alike (leaves_in a) (leaves_in b) (leaves (expression_of a)) (leaves (expression_of b)) (expression_alike a) (expression_alike b)
      expression_alike (Negative' _ a) = expression_alike a
      expression_alike (Extract' field _ a) = expression_alike a
      expression_alike (Case' _ branches) = branches_alike branches _
      expression_alike (Match' _ x _ matches) =
          chained (leaves_in x ++ leaves_of_matches matches) (leaves (expression_of x) ++ leaves_of_matches matches) _
          (both_alike (leaves_in x) (leaves_of_matches matches) (leaves (expression_of x)) (leaves_of_matches matches) (expression_alike x) (none (leaves_of_matches matches)))
          (matches_alike matches _ (expression_of x))
      expression_alike (Call' Coalesce _ arguments) = coalesced_alike arguments _
      expression_alike (Call' NullIf _ arguments) = unless_alike arguments

      pub condition_alike : (c : Cond) → AreAlike (leaves_within c) (condition_leaves (condition_of c))
      condition_alike (Compare' op _ a _ b) = both_alike (leaves_in a) (leaves_in b) (leaves (expression_of a)) (leaves (expression_of b)) (expression_alike a) (expression_alike b)
      condition_alike (Between' _ x _ a _ b) =
          let of_x : List Leaf = leaves (expression_of x) in
          let of_a : List Leaf = leaves (expression_of a) in
          let of_b : List Leaf = leaves (expression_of b) in
          chained (leaves_in x ++ (leaves_in a ++ leaves_in b)) (of_x ++ (of_a ++ of_b)) ((of_x ++ of_a) ++ (of_x ++ of_b))
          (both_alike (leaves_in x) (leaves_in a ++ leaves_in b) of_x (of_a ++ of_b) (expression_alike x) (both_alike (leaves_in a) (leaves_in b) of_a of_b (expression_alike a) (expression_alike b)))
          (range of_x of_a of_b)
      condition_alike (In' _ x _ values) =
          chained (leaves_in x ++ leaves_of_all values) (leaves (expression_of x) ++ leaves_of_all values) _
          (both_alike (leaves_in x) (leaves_of_all values) (leaves (expression_of x)) (leaves_of_all values) (expression_alike x) (none (leaves_of_all values)))
          (among_alike values (expression_of x))
      condition_alike (Predicate' p _ a) = expression_alike a
      condition_alike (And' _ c _ d) = both_alike (leaves_within c) (leaves_within d) (condition_leaves (condition_of c)) (condition_leaves (condition_of d)) (condition_alike c) (condition_alike d)
      condition_alike (Or' _ c _ d) = both_alike (leaves_within c) (leaves_within d) (condition_leaves (condition_of c)) (condition_leaves (condition_of d)) (condition_alike c) (condition_alike d)
      condition_alike (Not' _ c) = condition_alike c
      condition_alike (Is' _ c t) = condition_alike c

      among_alike : (es : Exprs) (x : Expression) → AreAlike (leaves x ++ leaves_of_all es) (condition_leaves (among x (expressions_of es)))
      among_alike (Exprs.Last' _ e) x = both_alike (leaves x) (leaves_in e) (leaves x) (leaves (expression_of e)) (none (leaves x)) (expression_alike e)
      among_alike (Exprs.More' _ e _ es) x =
          let of_e : List Leaf = leaves (expression_of e) in
          let rest : List Leaf = leaves_of_all es in
          chained (leaves x ++ (leaves_in e ++ rest)) (leaves x ++ (of_e ++ rest)) _
          (both_alike (leaves x) (leaves_in e ++ rest) (leaves x) (of_e ++ rest) (none (leaves x)) (both_alike (leaves_in e) rest of_e rest (expression_alike e) (none rest)))
          (chained (leaves x ++ (of_e ++ rest)) ((leaves x ++ of_e) ++ (leaves x ++ rest)) _ (range (leaves x) of_e rest)
          (both_alike (leaves x ++ of_e) (leaves x ++ rest) (leaves x ++ of_e) (condition_leaves (among x (expressions_of es))) (none (leaves x ++ of_e)) (among_alike es x)))

      unless_alike : (es : Exprs) → AreAlike (leaves_of_all es) (leaves (unless_among (expressions_of es)))
      unless_alike (Exprs.Last' _ e) = expression_alike e
      unless_alike (Exprs.More' _ e _ es) =
          let of_e : List Leaf = leaves (expression_of e) in
          let rest : List Leaf = leaves_of_all es in
          chained (leaves_in e ++ rest) (of_e ++ rest) _ (both_alike (leaves_in e) rest of_e rest (expression_alike e) (none rest))
          (chained (of_e ++ rest) ((of_e ++ rest) ++ of_e) _ (first_again of_e rest)
          (both_alike (of_e ++ rest) of_e (condition_leaves (among (expression_of e) (expressions_of es))) of_e (among_alike es (expression_of e)) (none of_e)))

      coalesced_alike : (es : Exprs) (s : ℕ) → AreAlike (leaves_of_all es) (leaves (cases s (coalesced (expressions_of es))))
      coalesced_alike (Exprs.Last' _ e) s = expression_alike e
      coalesced_alike (Exprs.More' _ e _ es) s =
          let of_e : List Leaf = leaves (expression_of e) in
          let rest : List Leaf = leaves (cases s (coalesced (expressions_of es))) in
          chained (leaves_in e ++ leaves_of_all es) (of_e ++ rest) _ (both_alike (leaves_in e) (leaves_of_all es) of_e rest (expression_alike e) (coalesced_alike es s)) (again of_e [] rest)

      branches_alike : (b : Branches) (s : ℕ) → AreAlike (leaves_of_branches b) (leaves (cases s (choices_of b)))
      branches_alike (Branches.Else' _ e) s = expression_alike e
      branches_alike (Branches.When' _ c _ e _ rest) s =
          let of_e : List Leaf = leaves (expression_of e) in
          let of_rest : List Leaf = leaves (cases s (choices_of rest)) in
          both_alike (leaves_within c) (leaves_in e ++ leaves_of_branches rest) (condition_leaves (condition_of c)) (of_e ++ of_rest) (condition_alike c)
          (both_alike (leaves_in e) (leaves_of_branches rest) of_e of_rest (expression_alike e) (branches_alike rest s))

      matches_alike : (m : Matches) (s : ℕ) (x : Expression) → AreAlike (leaves x ++ leaves_of_matches m) (leaves (cases s (matches_of m x)))
      matches_alike (Matches.Last' _ v _ e _ other) s x =
          let of_v : List Leaf = leaves (expression_of v) in
          let of_e : List Leaf = leaves (expression_of e) in
          let of_other : List Leaf = leaves (expression_of other) in
          chained (leaves x ++ (leaves_in v ++ (leaves_in e ++ leaves_in other))) (leaves x ++ (of_v ++ (of_e ++ of_other))) ((leaves x ++ of_v) ++ (of_e ++ of_other))
          (both_alike (leaves x) (leaves_in v ++ (leaves_in e ++ leaves_in other)) (leaves x) (of_v ++ (of_e ++ of_other)) (none (leaves x))
          (both_alike (leaves_in v) (leaves_in e ++ leaves_in other) of_v (of_e ++ of_other) (expression_alike v) (both_alike (leaves_in e) (leaves_in other) of_e of_other (expression_alike e) (expression_alike other))))
          (as_lists (leaves x ++ (of_v ++ (of_e ++ of_other))) ((leaves x ++ of_v) ++ (of_e ++ of_other)) (sym (append_assoc (leaves x) of_v (of_e ++ of_other))))
      matches_alike (Matches.When' _ v _ e _ rest) s x =
          let of_v : List Leaf = leaves (expression_of v) in
          let of_e : List Leaf = leaves (expression_of e) in
          let more : List Leaf = leaves_of_matches rest in
          let of_rest : List Leaf = leaves (cases s (matches_of rest x)) in
          chained (leaves x ++ (leaves_in v ++ (leaves_in e ++ more))) (leaves x ++ (of_v ++ (of_e ++ more))) ((leaves x ++ of_v) ++ (of_e ++ of_rest))
          (both_alike (leaves x) (leaves_in v ++ (leaves_in e ++ more)) (leaves x) (of_v ++ (of_e ++ more)) (none (leaves x))
          (both_alike (leaves_in v) (leaves_in e ++ more) of_v (of_e ++ more) (expression_alike v) (both_alike (leaves_in e) more of_e more (expression_alike e) (none more))))
          (chained (leaves x ++ (of_v ++ (of_e ++ more))) ((leaves x ++ of_v) ++ (of_e ++ (leaves x ++ more))) ((leaves x ++ of_v) ++ (of_e ++ of_rest)) (later (leaves x) of_v of_e more)
          (both_alike (leaves x ++ of_v) (of_e ++ (leaves x ++ more)) (leaves x ++ of_v) (of_e ++ of_rest) (none (leaves x ++ of_v)) (both_alike of_e (leaves x ++ more) of_e of_rest (none of_e) (matches_alike rest s x))))

    -- ---- lists of trees, and queries
    pub conditions_alike : (cs : List Cond) → AreAlike (flat_map leaves_within cs) (flat_map condition_leaves (map condition_of cs))
    conditions_alike [] = none []
    conditions_alike (c ∷ cs) =
        both_alike (leaves_within c) (flat_map leaves_within cs) (condition_leaves (condition_of c)) (flat_map condition_leaves (map condition_of cs)) (condition_alike c) (conditions_alike cs)

    pub expressions_alike : (es : List Expr) → AreAlike (flat_map leaves_in es) (flat_map leaves (map expression_of es))
    expressions_alike [] = none []
    expressions_alike (e ∷ es) =
        both_alike (leaves_in e) (flat_map leaves_in es) (leaves (expression_of e)) (flat_map leaves (map expression_of es)) (expression_alike e) (expressions_alike es)

    pub query_alike : (parts : QueryParts) → AreAlike (leaves_written parts) (leaves_of (query_of parts))
    query_alike parts =
        let on : List Leaf = flat_map leaves_within (tests_on parts.sources) in
        let on_of : List Leaf = flat_map condition_leaves (conjuncts_on (query_of parts).sources) in
        let conjuncts : List Leaf = flat_map leaves_within parts.conjuncts in
        let conjuncts_of : List Leaf = flat_map condition_leaves (query_of parts).conjuncts in
        let items : List Leaf = flat_map leaves_in parts.items in
        let items_of : List Leaf = flat_map leaves (query_of parts).items in
        let tests : AreAlike on on_of = chained on (flat_map condition_leaves (map condition_of (tests_on parts.sources))) on_of (conditions_alike (tests_on parts.sources))
        (as_lists (flat_map condition_leaves (map condition_of (tests_on parts.sources))) on_of (ap (λ (cs : List Condition). flat_map condition_leaves cs) (sym (tests_of_sources parts.sources)))) in
        both_alike on (conjuncts ++ items) on_of (conjuncts_of ++ items_of) tests
        (both_alike conjuncts items conjuncts_of items_of (conditions_alike parts.conjuncts) (expressions_alike parts.items))
