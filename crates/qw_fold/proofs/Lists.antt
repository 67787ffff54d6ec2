-- Of conjuncts and items that stand for others one for one, what is promised of the specification that they make.
use Rattle.std.proofs.Common.{◌≡◌, ℕ, ◌+◌, ◌≤◌, ◌<◌, ◌++◌, IsTrue, List, [], ◌∷◌, length, map, take, get_or, sum_by, refl, sym, ap, subst, ◌∙◌, arith, append-nil}
use Rattle.std.proofs.lemmas.List.Elements.{all_zip_more, length_all_zip}
use Rattle.std.proofs.lemmas.List.Sums.{sum_by-cons}
use Rattle.std.specs.List.{AllByRecursion, AllZip, flat_map}
use Rattle.qw_types.specs.declared.value.Ty.{Ty}
use Rattle.qw_scalar.specs.declared.expression.Expr.{Expr}
use Rattle.qw_scalar.specs.declared.expression.Cond.{Cond}
use Rattle.qw_scalar.specs.Nodes.{nodes, nodes_of}
use Rattle.qw_meaning.specs.Select.{IsColumnOf, IsConditionOver, IsItemOver, IsSpecification, Parts, specification_of}
use Rattle.qw_meaning.proofs.SelectLemmas.{entry_of}
use Rattle.qw_scalar.specs.Tree.{condition_of, expression_of}
use Rattle.qw_fold.specs.Folded.{AreFolded, IsFolded}
use Rattle.qw_scalar.specs.Same.{AreSame, IsSame}
use Rattle.qw_meaning.specs.Same.{MeansTheSame}
use Rattle.qw_scalar.specs.Texts.{texts_in, texts_within}
use Rattle.qw_fold.specs.Inner.Made.{AreFoldOf, ConjunctsFold, IsFoldOf, ItemsFold}
use Rattle.qw_fold.proofs.Named.{follows_columns, follows_conditions}

-- one more
pub next_conjunct : (xs ys : List Cond) (i : ℕ) (x y : Cond) → i < length xs → x ≡ get_or xs i x → ConjunctsFold (take i xs) ys → AreFoldOf (condition_of x) (nodes_of x) (texts_within x) y →
    ConjunctsFold (take (i + 1) xs) (ys ++ y ∷ [])
next_conjunct xs ys i x y lt is h made = all_zip_more (λ (c d : Cond). AreFoldOf (condition_of c) (nodes_of c) (texts_within c) d) xs ys i x y lt is h made

pub next_item : (xs ys : List Expr) (i : ℕ) (x y : Expr) → i < length xs → x ≡ get_or xs i x → ItemsFold (take i xs) ys → IsFoldOf (expression_of x) (nodes x) (texts_in x) y →
    ItemsFold (take (i + 1) xs) (ys ++ y ∷ [])
next_item xs ys i x y lt is h made = all_zip_more (λ (e f : Expr). IsFoldOf (expression_of e) (nodes e) (texts_in e) f) xs ys i x y lt is h made

-- what is promised of conjuncts
pub record ConjunctsPromise (Holds : ℕ → Ty → Type 0) (old new : List Cond) : Type 0 where
  pub same : AllZip AreSame (map condition_of old) (map condition_of new)
  pub over : AllByRecursion (IsConditionOver Holds) (map condition_of old) → AllByRecursion (IsConditionOver Holds) (map condition_of new)
  pub folded : AllByRecursion AreFolded new
  pub short : sum_by nodes_of new ≤ sum_by nodes_of old
  pub texts : flat_map texts_within new ≡ flat_map texts_within old
  pub count : length new ≡ length old

pub conjuncts_promise : (Holds : ℕ → Ty → Type 0) (old new : List Cond) → ConjunctsFold old new → ConjunctsPromise Holds old new
conjuncts_promise Holds [] [] h = record { same = tt; over = λ k. tt; folded = tt; short = omega arith; texts = refl; count = refl }
conjuncts_promise Holds [] (d ∷ ds) h = absurd h
conjuncts_promise Holds (c ∷ cs) [] h = absurd h
conjuncts_promise Holds (c ∷ cs) (d ∷ ds) h =
    let rest = conjuncts_promise Holds cs ds h.1 in
    record {
      same = (h.0.follows.same, rest.same);
      over = λ k. ((h.0.follows.typed k.0.0, follows_conditions Holds (condition_of c) (condition_of d) h.0.follows k.0.1), rest.over k.1);
      folded = (h.0.folded, rest.folded);
      short = omega (arith, h.0.short, rest.short, sum_by-cons nodes_of c cs, sum_by-cons nodes_of d ds);
      texts = rw (h.0.same_texts, rest.texts) refl;
      count = ap (λ n. Rattle.std.proofs.Common.suc n) rest.count;
    }

pub record ItemsPromise (Holds : ℕ → Ty → Type 0) (old new : List Expr) : Type 0 where
  pub same : AllZip IsSame (map expression_of old) (map expression_of new)
  pub over : AllByRecursion (IsItemOver Holds) (map expression_of old) → AllByRecursion (IsItemOver Holds) (map expression_of new)
  pub folded : AllByRecursion IsFolded new
  pub short : sum_by nodes new ≤ sum_by nodes old
  pub texts : flat_map texts_in new ≡ flat_map texts_in old
  pub count : length new ≡ length old

pub items_promise : (Holds : ℕ → Ty → Type 0) (old new : List Expr) → ItemsFold old new → ItemsPromise Holds old new
items_promise Holds [] [] h = record { same = tt; over = λ k. tt; folded = tt; short = omega arith; texts = refl; count = refl }
items_promise Holds [] (f ∷ fs) h = absurd h
items_promise Holds (e ∷ es) [] h = absurd h
items_promise Holds (e ∷ es) (f ∷ fs) h =
    let rest = items_promise Holds es fs h.1 in
    record {
      same = (h.0.follows.same, rest.same);
      over = λ k. (((h.0.follows.typed k.0.0.0, rw (← h.0.follows.same.kind) k.0.0.1), follows_columns Holds (expression_of e) (expression_of f) h.0.follows k.0.1), rest.over k.1);
      folded = (h.0.folded, rest.folded);
      short = omega (arith, h.0.short, rest.short, sum_by-cons nodes e es, sum_by-cons nodes f fs);
      texts = rw (h.0.same_texts, rest.texts) refl;
      count = ap (λ n. Rattle.std.proofs.Common.suc n) rest.count;
    }

-- the parts of a specification, and those that are made of them
pub record FoldsTo (old new : Parts) : Type 0 where
  pub table : new.table ≡ old.table
  pub columns : new.columns ≡ old.columns
  pub conjuncts : ConjunctsFold old.conjuncts new.conjuncts
  pub items : ItemsFold old.items new.items

pub specification_made : (old new : Parts) → FoldsTo old new → IsSpecification (specification_of old) → IsSpecification (specification_of new)
specification_made old new f h =
    let a = conjuncts_promise (IsColumnOf (entry_of old ∷ [])) old.conjuncts new.conjuncts f.conjuncts in
    let b = items_promise (IsColumnOf (entry_of old ∷ [])) old.items new.items f.items in
    let conjuncts = length_all_zip AreSame (map condition_of old.conjuncts) (map condition_of new.conjuncts) a.same in
    let items = length_all_zip IsSame (map expression_of old.items) (map expression_of new.items) b.same in
    record {
      some_source = h.some_source;
      few_entries = h.few_entries;
      few_columns = rw f.columns h.few_columns;
      few_conjuncts = omega (arith, h.few_conjuncts);
      some_item = omega (arith, h.some_item);
      few_items = omega (arith, h.few_items);
      sources = (tt, tt);
      conjuncts = rw (f.table, f.columns) (a.over h.conjuncts);
      items = rw (f.table, f.columns) (b.over h.items);
    }

-- what holds of no column
abbrev NoColumn : ℕ → Ty → Type 0
NoColumn i ty = ⊥

pub same_made : (old new : Parts) → FoldsTo old new → MeansTheSame (specification_of old) (specification_of new)
same_made old new f = record {
  sources = rw (f.table, f.columns) refl;
  conjuncts = (conjuncts_promise NoColumn old.conjuncts new.conjuncts f.conjuncts).same;
  items = (items_promise NoColumn old.items new.items f.items).same;
}

pub folded_made : (old new : Parts) → FoldsTo old new → AllByRecursion AreFolded new.conjuncts × AllByRecursion IsFolded new.items
folded_made old new f = ((conjuncts_promise NoColumn old.conjuncts new.conjuncts f.conjuncts).folded, (items_promise NoColumn old.items new.items f.items).folded)

pub short_made : (old new : Parts) → FoldsTo old new → (sum_by nodes_of new.conjuncts ≤ sum_by nodes_of old.conjuncts) × (sum_by nodes new.items ≤ sum_by nodes old.items)
short_made old new f = ((conjuncts_promise NoColumn old.conjuncts new.conjuncts f.conjuncts).short, (items_promise NoColumn old.items new.items f.items).short)

pub texts_made : (old new : Parts) → FoldsTo old new → (flat_map texts_within new.conjuncts ≡ flat_map texts_within old.conjuncts) × (flat_map texts_in new.items ≡ flat_map texts_in old.items)
texts_made old new f = ((conjuncts_promise NoColumn old.conjuncts new.conjuncts f.conjuncts).texts, (items_promise NoColumn old.items new.items f.items).texts)
