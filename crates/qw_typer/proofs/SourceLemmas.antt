-- The sources of FROM over its entries, join by join: each ON reaches the entries of its source up to its own.
use Rattle.std.proofs.Common.{◌≡◌, ℕ, ◌+◌, ◌≤◌, ◌<◌, List, [], ◌∷◌, ◌++◌, map, length, take, drop, get_or, sum_by, Result, Ok, Err, refl, sym, ap, ◌∙◌, arith}
use Rattle.std.proofs.lemmas.Grind.{flat_map-append}
use Rattle.std.proofs.lemmas.List.{append-nil, length-append, length-drop, length-map, map-append, take-map, drop-map, take_more}
use Rattle.std.proofs.lemmas.List.Sums.{sum_by-append}
use Rattle.qw_meaning.specs.Select as specified
use Rattle.qw_meaning.specs.Query.{joined_of, source_of}
use Rattle.qw_meaning.specs.declared.query.Joined as made_join
use Rattle.qw_meaning.specs.declared.query.Source as made_source
use Rattle.qw_scalar.specs.declared.expression.Cond.{Cond}
use Rattle.qw_scalar.specs.Nodes as typed
use Rattle.qw_ast.specs.declared.script.Joined as coded_join
use Rattle.qw_ast.specs.declared.script.Source as coded_source
use Rattle.qw_ast.specs.Limits.{entries_in, entries_of, over_joins, over_sources}
use Rattle.qw_ast.specs.Syntax.{Joined, Source}
use Rattle.qw_ast.specs.SyntaxTree as syntax
use Rattle.qw_ast.proofs.StatementLemmas.{drop_next}
use Rattle.qw_typer.specs.declared.refusal.Refusal.{Refusal}
use Rattle.qw_typer.specs.declared.scope.Entry.{Entry as CodeEntry}
use Rattle.qw_typer.specs.Faults.{Fault}
use Rattle.qw_typer.specs.Meant.{Entry}
use Rattle.qw_typer.specs.Typed.{entry_meant}
use Rattle.qw_typer.specs.Sizes.{tests_in, tests_on, text_octets_of}
use Rattle.qw_typer.specs.Inner.Sizes.{FitsTests, nodes_condition, octets_condition}
use Rattle.qw_typer.specs.Inner.Typing.{◌>>=◌, Refuses, as_entries, as_entry, typed_joined, typed_joins, typed_source, typed_sources}
use Rattle.qw_typer.proofs.OutcomeLemmas.{refuses_then}
use Rattle.qw_typer.proofs.StepLemmas.{push_length, push_map}

-- ---- joins

-- behind those that are made come those of the rest
abbrev pub AfterJoins : List CodeEntry → List made_join.Joined → List Joined → Result (List specified.Joined) Fault
AfterJoins own made rest = typed_joins (as_entries (take (length made + 1) own)) (as_entries (drop (length made + 1) own)) rest >>= (λ xs. Ok (map joined_of made ++ xs))

-- what the next join reaches, and the entries behind its own
joins_split : (own : List CodeEntry) (n : ℕ) (e : CodeEntry) (j : Joined) (joins : List Joined) → n < length own → e ≡ get_or own n e
    → typed_joins (as_entries (take n own)) (as_entries (drop n own)) (j ∷ joins)
    ≡ (typed_joined (as_entries (take (n + 1) own)) (as_entry e) j >>= (λ x. typed_joins (as_entries (take (n + 1) own)) (as_entries (drop (n + 1) own)) joins >>= (λ xs. Ok (x ∷ xs))))
joins_split own n e j joins lt is =
    let behind : drop n own ≡ e ∷ drop (n + 1) own = drop_next own n e lt ∙ ap (λ (f : CodeEntry). f ∷ drop (n + 1) own) (sym is) in
    let reach : as_entries (take (n + 1) own) ≡ as_entries (take n own) ++ as_entry e ∷ [] =
    ap as_entries (take_more own n e lt ∙ ap (λ (f : CodeEntry). take n own ++ f ∷ []) (sym is)) ∙ map-append as_entry (take n own) (e ∷ []) in
    ap (λ (es : List CodeEntry). typed_joins (as_entries (take n own)) (as_entries es) (j ∷ joins)) behind
    ∙ ap (λ (scope : List Entry). typed_joined scope (as_entry e) j >>= (λ x. typed_joins scope (as_entries (drop (n + 1) own)) joins >>= (λ xs. Ok (x ∷ xs)))) (sym reach)

one_more : (made made' : List made_join.Joined) (x : made_join.Joined) → made' ≡ made ++ x ∷ [] → length made' + 1 ≡ length made + 1 + 1
one_more made made' x more = let a = ap (λ (xs : List made_join.Joined). length xs) more in let b = push_length made x in omega (arith, a, b)

pub joins_refused : (r : Refusal) (own : List CodeEntry) (n : ℕ) (e : CodeEntry) (made : List made_join.Joined) (rest rest' : List coded_join.Joined) (j : coded_join.Joined) (all : Result (List specified.Joined) Fault)
    → n ≡ length made + 1 → n < length own → e ≡ get_or own n e → rest ≡ j ∷ rest' → all ≡ AfterJoins own made (map syntax.joined_of rest) → Refuses r (typed_joined (as_entries (take (n + 1) own)) (as_entry e) (syntax.joined_of j)) → Refuses r all
joins_refused r own n e made rest rest' j all number lt is first before refused =
    let w = syntax.joined_of j in
    let others = map syntax.joined_of rest' in
    let from : all ≡ AfterJoins own made (w ∷ others) = rw first at before in
    let whole = from
    ∙ ap (λ (k : ℕ). typed_joins (as_entries (take k own)) (as_entries (drop k own)) (w ∷ others) >>= (λ xs. Ok (map joined_of made ++ xs))) (sym number)
    ∙ ap (λ (q : Result (List specified.Joined) Fault). q >>= (λ xs. Ok (map joined_of made ++ xs))) (joins_split own n e w others lt is) in
    rw whole
    (refuses_then r (typed_joined (as_entries (take (n + 1) own)) (as_entry e) w >>= (λ x. typed_joins (as_entries (take (n + 1) own)) (as_entries (drop (n + 1) own)) others >>= (λ xs. Ok (x ∷ xs)))) (λ xs. Ok (map joined_of made ++ xs))
    (refuses_then r (typed_joined (as_entries (take (n + 1) own)) (as_entry e) w) (λ x. typed_joins (as_entries (take (n + 1) own)) (as_entries (drop (n + 1) own)) others >>= (λ xs. Ok (x ∷ xs))) refused))

pub joins_end : (own : List CodeEntry) (made : List made_join.Joined) (rest : List coded_join.Joined) (all : Result (List specified.Joined) Fault) → length rest < 1 → all ≡ AfterJoins own made (map syntax.joined_of rest) → all ≡ Ok (map joined_of made)
joins_end own made [] all none h = h ∙ ap Ok (append-nil (map joined_of made))
joins_end own made (j ∷ rest) all none h = absurd (omega (arith, none))

-- ---- a source

pub source_refused : (r : Refusal) (own : List CodeEntry) (source : coded_source.Source) → 0 < length own → Refuses r (typed_joins (as_entries (take 1 own)) (as_entries (drop 1 own)) (map syntax.joined_of source.joins.items))
    → Refuses r (typed_source (as_entries own) (syntax.source_of source))
source_refused r [] source some refused = absurd (omega (arith, some))
source_refused r (f ∷ own) source some refused =
    refuses_then r (typed_joins (as_entry f ∷ []) (as_entries own) (map syntax.joined_of source.joins.items)) (λ js. Ok (record { first = entry_meant (as_entry f); joins = js })) refused

-- ---- sources

abbrev pub AfterSources : List CodeEntry → List made_source.Source → List Source → Result (List specified.Source) Fault
AfterSources entries made rest = typed_sources (as_entries entries) rest >>= (λ xs. Ok (map source_of made ++ xs))

-- how many entries a source has
pub own_count : (source : coded_source.Source) → length (entries_in (syntax.source_of source)) ≡ length source.joins.items + 1
own_count source =
    let a = length-map (map syntax.joined_of source.joins.items) (λ (j : Joined). j.entry) in
    let b = length-map source.joins.items syntax.joined_of in
    omega (arith, a, b)

sources_split : (entries own behind : List CodeEntry) (source : coded_source.Source) (sources : List Source) → own ≡ take (length source.joins.items + 1) entries → behind ≡ drop (length source.joins.items + 1) entries
    → typed_sources (as_entries entries) (syntax.source_of source ∷ sources)
    ≡ (typed_source (as_entries own) (syntax.source_of source) >>= (λ x. typed_sources (as_entries behind) sources >>= (λ xs. Ok (x ∷ xs))))
sources_split entries own behind source sources o b =
    let w = syntax.source_of source in
    let n = length source.joins.items + 1 in
    let count = own_count source in
    let own_is : take (length (entries_in w)) (as_entries entries) ≡ as_entries own = ap (λ (k : ℕ). take k (as_entries entries)) count ∙ take-map as_entry n entries ∙ ap as_entries (sym o) in
    let behind_is : drop (length (entries_in w)) (as_entries entries) ≡ as_entries behind = ap (λ (k : ℕ). drop k (as_entries entries)) count ∙ drop-map as_entry n entries ∙ ap as_entries (sym b) in
    ap (λ (scope : List Entry). typed_source scope w >>= (λ x. typed_sources (drop (length (entries_in w)) (as_entries entries)) sources >>= (λ xs. Ok (x ∷ xs)))) own_is
    ∙ ap (λ (scope : List Entry). typed_source (as_entries own) w >>= (λ x. typed_sources scope sources >>= (λ xs. Ok (x ∷ xs)))) behind_is

pub sources_kept : (entries own behind : List CodeEntry) (made made' : List made_source.Source) (x : made_source.Source) (rest rest' : List coded_source.Source) (s : coded_source.Source) (all : Result (List specified.Source) Fault)
    → own ≡ take (length s.joins.items + 1) entries → behind ≡ drop (length s.joins.items + 1) entries → rest ≡ s ∷ rest' → made' ≡ made ++ x ∷ [] → typed_source (as_entries own) (syntax.source_of s) ≡ Ok (source_of x)
    → all ≡ AfterSources entries made (map syntax.source_of rest) → all ≡ AfterSources behind made' (map syntax.source_of rest')
sources_kept entries own behind made made' x rest rest' s all o b first more gives before =
    let others = map syntax.source_of rest' in
    let r = typed_sources (as_entries behind) others in
    let from : all ≡ AfterSources entries made (syntax.source_of s ∷ others) = rw first at before in
    from
    ∙ ap (λ (q : Result (List specified.Source) Fault). q >>= (λ xs. Ok (map source_of made ++ xs))) (sources_split entries own behind s others o b ∙ ap (λ (q : Result specified.Source Fault). q >>= (λ y. r >>= (λ ys. Ok (y ∷ ys)))) gives)
    ∙ added r
  where
    added : (r : Result (List specified.Source) Fault) → ((r >>= (λ xs. Ok (source_of x ∷ xs))) >>= (λ xs. Ok (map source_of made ++ xs))) ≡ (r >>= (λ xs. Ok (map source_of made' ++ xs)))
    added (Ok xs) = ap Ok (sym (ap (λ (ms : List made_source.Source). map source_of ms ++ xs) more ∙ push_map source_of made x xs))
    added (Err f) = refl

pub sources_refused : (r : Refusal) (entries own : List CodeEntry) (made : List made_source.Source) (rest rest' : List coded_source.Source) (s : coded_source.Source) (all : Result (List specified.Source) Fault)
    → own ≡ take (length s.joins.items + 1) entries → rest ≡ s ∷ rest' → all ≡ AfterSources entries made (map syntax.source_of rest) → Refuses r (typed_source (as_entries own) (syntax.source_of s)) → Refuses r all
sources_refused r entries own made rest rest' s all o first before refused =
    let others = map syntax.source_of rest' in
    let behind = drop (length s.joins.items + 1) entries in
    let from : all ≡ AfterSources entries made (syntax.source_of s ∷ others) = rw first at before in
    let whole = from ∙ ap (λ (q : Result (List specified.Source) Fault). q >>= (λ xs. Ok (map source_of made ++ xs))) (sources_split entries own behind s others o refl) in
    rw whole
    (refuses_then r (typed_source (as_entries own) (syntax.source_of s) >>= (λ x. typed_sources (as_entries behind) others >>= (λ xs. Ok (x ∷ xs)))) (λ xs. Ok (map source_of made ++ xs))
    (refuses_then r (typed_source (as_entries own) (syntax.source_of s)) (λ x. typed_sources (as_entries behind) others >>= (λ xs. Ok (x ∷ xs))) refused))

pub sources_end : (entries : List CodeEntry) (made : List made_source.Source) (rest : List coded_source.Source) (all : Result (List specified.Source) Fault) → length rest < 1 → all ≡ AfterSources entries made (map syntax.source_of rest) → all ≡ Ok (map source_of made)
sources_end entries made [] all none h = h ∙ ap Ok (append-nil (map source_of made))
sources_end entries made (s ∷ rest) all none h = absurd (omega (arith, none))

-- as many entries are left as the rest of the sources has
pub counts_kept : (entries behind : List CodeEntry) (rest rest' : List coded_source.Source) (s : coded_source.Source) → behind ≡ drop (length s.joins.items + 1) entries → rest ≡ s ∷ rest'
    → length entries ≡ length (entries_of (map syntax.source_of rest)) → length behind ≡ length (entries_of (map syntax.source_of rest'))
counts_kept entries behind rest rest' s b first count =
    let whole : length entries ≡ length (entries_in (syntax.source_of s) ++ entries_of (map syntax.source_of rest')) = rw first at count in
    let both = length-append (entries_in (syntax.source_of s)) (entries_of (map syntax.source_of rest')) in
    let own = own_count s in
    let left = ap (λ (es : List CodeEntry). length es) b in
    let dropped = length-drop (length s.joins.items + 1) entries in
    omega (arith, whole, both, own, left, dropped)

pub enough : (entries : List CodeEntry) (rest rest' : List coded_source.Source) (s : coded_source.Source) → rest ≡ s ∷ rest' → length entries ≡ length (entries_of (map syntax.source_of rest)) → length s.joins.items + 1 ≤ length entries
enough entries rest rest' s first count =
    let whole : length entries ≡ length (entries_in (syntax.source_of s) ++ entries_of (map syntax.source_of rest')) = rw first at count in
    let both = length-append (entries_in (syntax.source_of s)) (entries_of (map syntax.source_of rest')) in
    let own = own_count s in
    omega (arith, whole, both, own)

pub still_left : (entries behind : List CodeEntry) (n all : ℕ) → behind ≡ drop n entries → length entries ≤ all → length behind ≤ all
still_left entries behind n all b within =
    let left = ap (λ (es : List CodeEntry). length es) b in
    let dropped = length-drop n entries in
    omega (arith, left, dropped, within)

-- ---- sizes

-- with so many nodes and octets still to come, the conjuncts stay within all of these
pub record TestsWith (made : List Cond) (n k all_nodes all_octets : ℕ) : Type 0 where
  pub nodes_left : sum_by typed.nodes_of made + n ≤ all_nodes
  pub octets_left : sum_by text_octets_of made + k ≤ all_octets

pub tests_more : (made made' new : List Cond) (n k m j all_nodes all_octets : ℕ) → made' ≡ made ++ new → FitsTests new n k → TestsWith made (n + m) (k + j) all_nodes all_octets → TestsWith made' m j all_nodes all_octets
tests_more made made' new n k m j all_nodes all_octets more one before =
    let nodes_more : sum_by typed.nodes_of made' ≡ sum_by typed.nodes_of made + sum_by typed.nodes_of new = ap (λ (cs : List Cond). sum_by typed.nodes_of cs) more ∙ sum_by-append typed.nodes_of made new in
    let octets_more : sum_by text_octets_of made' ≡ sum_by text_octets_of made + sum_by text_octets_of new = ap (λ (cs : List Cond). sum_by text_octets_of cs) more ∙ sum_by-append text_octets_of made new in
    let nodes_left = before.nodes_left in
    let octets_left = before.octets_left in
    record { nodes_left = omega (arith, nodes_more, nodes_left); octets_left = omega (arith, octets_more, octets_left) }

abbrev pub JoinsWith : List made_join.Joined → (rest all : List Joined) → Type 0
JoinsWith made rest all = TestsWith (tests_in made) (over_joins nodes_condition rest) (over_joins octets_condition rest) (over_joins nodes_condition all) (over_joins octets_condition all)

pub joins_fit : (made made' : List made_join.Joined) (x : made_join.Joined) (rest rest' : List coded_join.Joined) (j : coded_join.Joined) (all : List Joined) → made' ≡ made ++ x ∷ [] → rest ≡ j ∷ rest'
    → FitsTests x.on.items (nodes_condition (syntax.condition_of j.on)) (octets_condition (syntax.condition_of j.on)) → JoinsWith made (map syntax.joined_of rest) all → JoinsWith made' (map syntax.joined_of rest') all
joins_fit made made' x rest rest' j all more first one before =
    let tests : tests_in made' ≡ tests_in made ++ x.on.items =
    ap tests_in more ∙ flat_map-append (λ (k : made_join.Joined). k.on.items) made (x ∷ []) ∙ ap (λ (cs : List Cond). tests_in made ++ cs) (append-nil x.on.items) in
    tests_more (tests_in made) (tests_in made') x.on.items (nodes_condition (syntax.condition_of j.on)) (octets_condition (syntax.condition_of j.on)) (over_joins nodes_condition (map syntax.joined_of rest')) (over_joins octets_condition (map syntax.joined_of rest'))
    (over_joins nodes_condition all) (over_joins octets_condition all) tests one (rw first at before)

abbrev pub SourcesWith : List made_source.Source → (rest all : List Source) → Type 0
SourcesWith made rest all = TestsWith (tests_on made) (over_sources nodes_condition rest) (over_sources octets_condition rest) (over_sources nodes_condition all) (over_sources octets_condition all)

pub sources_fit : (made made' : List made_source.Source) (x : made_source.Source) (rest rest' : List coded_source.Source) (s : coded_source.Source) (all : List Source) → made' ≡ made ++ x ∷ [] → rest ≡ s ∷ rest'
    → FitsTests (tests_in x.joins.items) (over_joins nodes_condition (map syntax.joined_of s.joins.items)) (over_joins octets_condition (map syntax.joined_of s.joins.items))
    → SourcesWith made (map syntax.source_of rest) all → SourcesWith made' (map syntax.source_of rest') all
sources_fit made made' x rest rest' s all more first one before =
    let tests : tests_on made' ≡ tests_on made ++ tests_in x.joins.items =
    ap tests_on more ∙ flat_map-append (λ (t : made_source.Source). tests_in t.joins.items) made (x ∷ []) ∙ ap (λ (cs : List Cond). tests_on made ++ cs) (append-nil (tests_in x.joins.items)) in
    tests_more (tests_on made) (tests_on made') (tests_in x.joins.items) (over_joins nodes_condition (map syntax.joined_of s.joins.items)) (over_joins octets_condition (map syntax.joined_of s.joins.items))
    (over_sources nodes_condition (map syntax.source_of rest')) (over_sources octets_condition (map syntax.source_of rest')) (over_sources nodes_condition all) (over_sources octets_condition all) tests one (rw first at before)
