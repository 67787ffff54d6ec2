-- Lists that grow at their end while what is left of another falls.
use Rattle.std.proofs.Common.{◌≡◌, ℕ, suc, ◌+◌, ◌*◌, ◌-◌, ◌≤◌, ◌<◌, List, [], ◌∷◌, ◌++◌, map, length, get_or, take, drop, Result, Ok, Err, refl, sym, ap, ◌∙◌, arith, inl, inr}
use Rattle.std.proofs.Math.ListN.{drop_of_length-le}
use Rattle.std.proofs.lemmas.List.{append-nil, append_assoc, take_all}
use Rattle.std.specs.Prelude.{◌⊎◌}
use Rattle.std.specs.List.{AllByRecursion}
use Rattle.qw_types.specs.declared.schema.Column.{Column}
use Rattle.qw_types.specs.declared.schema.Table.{Table}
use Rattle.qw_scalar.specs.declared.expression.Expr.{Expr}
use Rattle.qw_scalar.specs.declared.expression.Expr.TheVariants as expr
use Rattle.qw_scalar.specs.Expression as meaning
use Rattle.qw_grouped.specs.WholeQuery.{whole_of}
use Rattle.qw_scalar.specs.Tree.{expression_of}
use Rattle.qw_ast.specs.declared.script.Item.{Item}
use Rattle.qw_ast.specs.declared.script.Statement.{Statement}
use Rattle.qw_ast.specs.Limits.{IsQuery}
use Rattle.qw_ast.specs.SyntaxTree as syntax
use Rattle.qw_ast.specs.SyntaxTree.{select_of}
use Rattle.qw_ast.specs.Syntax.{Select, SelectItem}
use Rattle.qw_ast.proofs.StatementLemmas.{drop_next}
use Rattle.qw_typer.specs.declared.fault.TypeFault.{TypeFault}
use Rattle.qw_typer.specs.declared.fault.TypeFault.TheVariants as type_fault
use Rattle.qw_typer.specs.declared.query.TypedQuery.{TypedQuery}
use Rattle.qw_typer.specs.declared.refusal.Refusal.{Refusal}
use Rattle.qw_typer.specs.declared.refusal.Refusal.TheVariants as refusal
use Rattle.qw_typer.specs.Faults.{Fault}
use Rattle.qw_typer.specs.Meanings.{AreMeant}
use Rattle.qw_typer.specs.declared.scope.Entry.{Entry as CodeEntry}
use Rattle.qw_typer.specs.Meant.{Scope}
use Rattle.qw_typer.specs.Inner.Queries.{IsFaultOf, IsOneOf}
use Rattle.qw_typer.specs.Typed.{HasFirstFault, Means, column_names, columns_from, columns_meant, item_name, item_names, query_faults}
use Rattle.qw_typer.specs.Inner.Typing.{◌>>=◌, Refuses, as_entries, spelled, typed_item, typed_items}
use Rattle.qw_typer.proofs.OutcomeLemmas.{refuses_then}

pub push_map : {A B : Type 0} (f : A → B) (xs : List A) (x : A) (ys : List B) → map f (xs ++ x ∷ []) ++ ys ≡ map f xs ++ f x ∷ ys
push_map f [] x ys = refl
push_map f (z ∷ zs) x ys = ap (λ ws. f z ∷ ws) (push_map f zs x ys)

pub push_more : {A : Type 0} (xs : List A) (x : A) (ys : List A) → (xs ++ x ∷ []) ++ ys ≡ xs ++ x ∷ ys
push_more [] x ys = refl
push_more (z ∷ zs) x ys = ap (λ ws. z ∷ ws) (push_more zs x ys)

pub push_length : {A : Type 0} (xs : List A) (x : A) → length (xs ++ x ∷ []) ≡ suc (length xs)
push_length [] x = refl
push_length (z ∷ zs) x = ap suc (push_length zs x)

none_more : {A : Type 0} (xs : List A) → xs ++ [] ≡ xs
none_more [] = refl
none_more (x ∷ xs) = ap (λ ys. x ∷ ys) (none_more xs)

-- the first of some, and those behind it
pub first_rest : {A : Type 0} (xs : List A) (x : A) → x ≡ get_or xs 0 x → 1 ≤ length xs → xs ≡ x ∷ take (length xs - 1) (drop 1 xs)
first_rest [] x e h = absurd (omega arith)
first_rest (y ∷ ys) x e h =
    let all : take (length (y ∷ ys) - 1) ys ≡ ys = take_all (length (y ∷ ys) - 1) ys (omega arith) in
    rw all (ap (λ z. z ∷ ys) (sym e))

-- ---- columns and names

-- one column of an entry more
pub column_kept : (columns : List Column) (i : ℕ) (d : Column) (number first : ℕ) (made made' : List Expr) (all : List meaning.Expression) → i < length columns → first ≡ 64 * number
    → made' ≡ made ++ expr.Column (first + i) (get_or columns i d).ty ∷ []
    → map expression_of made ++ columns_from (64 * number + i) (drop i columns) ≡ all → map expression_of made' ++ columns_from (64 * number + (i + 1)) (drop (i + 1) columns) ≡ all
column_kept columns i d number first made made' all lt at more before =
    let c = get_or columns i d in
    let others = columns_from (64 * number + (i + 1)) (drop (i + 1) columns) in
    let next : suc (64 * number + i) ≡ 64 * number + (i + 1) = omega arith in
    let from : map expression_of made ++ (meaning.column (64 * number + i) c.ty ∷ columns_from (suc (64 * number + i)) (drop (i + 1) columns)) ≡ all =
    sym (ap (λ (cs : List Column). map expression_of made ++ columns_from (64 * number + i) cs) (drop_next columns i d lt)) ∙ before in
    ap (λ (es : List Expr). map expression_of es ++ others) more ∙ push_map expression_of made (expr.Column (first + i) c.ty) others
    ∙ ap (λ (k : ℕ). map expression_of made ++ meaning.column (k + i) c.ty ∷ others) at
    ∙ sym (ap (λ (k : ℕ). map expression_of made ++ meaning.column (64 * number + i) c.ty ∷ columns_from k (drop (i + 1) columns)) next) ∙ from

pub columns_first : (number : ℕ) (columns : List Column) (made : List Expr) → map expression_of made ++ columns_from (64 * number + 0) columns ≡ map expression_of made ++ columns_from (64 * number) columns
columns_first number columns made = let none : 64 * number + 0 ≡ 64 * number = omega arith in ap (λ (k : ℕ). map expression_of made ++ columns_from k columns) none

pub columns_end : (columns : List Column) (i number : ℕ) (made : List Expr) (all : List meaning.Expression) → length columns ≤ i → map expression_of made ++ columns_from (64 * number + i) (drop i columns) ≡ all → map expression_of made ≡ all
columns_end columns i number made all le h =
    sym (append-nil (map expression_of made)) ∙ sym (ap (λ (cs : List Column). map expression_of made ++ columns_from (64 * number + i) cs) (drop_of_length-le columns le)) ∙ h

-- the columns of one entry more
pub entry_columns : (made made' : List Expr) (rest rest' : List CodeEntry) (e : CodeEntry) (all : List meaning.Expression) → rest ≡ e ∷ rest' → map expression_of made' ≡ map expression_of made ++ columns_from (64 * e.number) e.columns.now
    → map expression_of made ++ columns_meant (as_entries rest) ≡ all → map expression_of made' ++ columns_meant (as_entries rest') ≡ all
entry_columns made made' rest rest' e all first more before =
    let others = columns_meant (as_entries rest') in
    ap (λ es. es ++ others) more ∙ append_assoc (map expression_of made) (columns_from (64 * e.number) e.columns.now) others
    ∙ sym (ap (λ (es : List CodeEntry). map expression_of made ++ columns_meant (as_entries es)) first) ∙ before

-- the names of one entry more
pub entry_names : (names names' : List (List ℕ)) (rest rest' : List CodeEntry) (e : CodeEntry) (all : List (List ℕ)) → rest ≡ e ∷ rest' → names' ≡ names ++ map (λ (c : Column). c.name) e.columns.now
    → names ++ column_names (as_entries rest) ≡ all → names' ++ column_names (as_entries rest') ≡ all
entry_names names names' rest rest' e all first more before =
    let others = column_names (as_entries rest') in
    ap (λ ns. ns ++ others) more ∙ append_assoc names (map (λ (c : Column). c.name) e.columns.now) others
    ∙ sym (ap (λ (es : List CodeEntry). names ++ column_names (as_entries es)) first) ∙ before

pub names_step : (names : List (List ℕ)) (name : List ℕ) (i : SelectItem) (others : List SelectItem) (all : List (List ℕ)) → name ≡ item_name (length names + 1) i
    → names ++ item_names (length names + 1) (i ∷ others) ≡ all → (names ++ name ∷ []) ++ item_names (length (names ++ name ∷ []) + 1) others ≡ all
names_step names name i others all same h = rw (next, push_more names name (item_names (suc (length names + 1)) others), same) h
  where
    next : length (names ++ name ∷ []) + 1 ≡ suc (length names + 1)
    next = let l = push_length names name in omega (arith, l)

-- ---- items

abbrev pub After : Scope → List Expr → List SelectItem → Result (List meaning.Expression) Fault
After scope made rest = typed_items scope rest >>= (λ xs. Ok (map expression_of made ++ xs))

pub items_step : (scope : Scope) (made : List Expr) (e : Expr) (i : SelectItem) (others : List SelectItem) (all : Result (List meaning.Expression) Fault) → typed_item scope i.value ≡ Ok (expression_of e)
    → all ≡ After scope made (i ∷ others) → all ≡ After scope (made ++ e ∷ []) others
items_step scope made e i others all is h = h ∙ rw is (more (typed_items scope others))
  where
    more : (r : Result (List meaning.Expression) Fault) → ((r >>= (λ xs. Ok (expression_of e ∷ xs))) >>= (λ xs. Ok (map expression_of made ++ xs))) ≡ (r >>= (λ xs. Ok (map expression_of (made ++ e ∷ []) ++ xs)))
    more (Ok xs) = ap Ok (sym (push_map expression_of made e xs))
    more (Err f) = refl

pub items_refused : (r : Refusal) (scope : Scope) (made : List Expr) (i : SelectItem) (others : List SelectItem) (all : Result (List meaning.Expression) Fault) → all ≡ After scope made (i ∷ others) → Refuses r (typed_item scope i.value)
    → Refuses r all
items_refused r scope made i others all h refused =
    rw h (refuses_then r (typed_items scope (i ∷ others)) (λ xs. Ok (map expression_of made ++ xs)) (refuses_then r (typed_item scope i.value) (λ x. typed_items scope others >>= (λ xs. Ok (x ∷ xs))) refused))

pub items_kept : (scope : Scope) (made made' : List Expr) (e : Expr) (rest rest' : List Item) (item : Item) (all : Result (List meaning.Expression) Fault) → typed_item scope (syntax.expression_of item.expression) ≡ Ok (expression_of e)
    → made' ≡ made ++ e ∷ [] → rest ≡ item ∷ rest' → all ≡ After scope made (map syntax.item_of rest) → all ≡ After scope made' (map syntax.item_of rest')
items_kept scope made made' e rest rest' item all is more first h = rw more (items_step scope made e (syntax.item_of item) (map syntax.item_of rest') all is (rw first at h))

pub items_end : (scope : Scope) (made : List Expr) (all : Result (List meaning.Expression) Fault) → all ≡ After scope made [] → all ≡ Ok (map expression_of made)
items_end scope made all h = h ∙ ap Ok (none_more (map expression_of made))

-- ---- queries

pub meant_step : (schema : List Table) (all : List Select) (s : Select) (others : List Select) (made : List TypedQuery) (t : TypedQuery) → Means schema s (whole_of t.query) t.names.items t.keys.items
    → ((ts : List TypedQuery) → AreMeant schema (s ∷ others) ts → AreMeant schema all (made ++ ts)) → (ts : List TypedQuery) → AreMeant schema others ts → AreMeant schema all ((made ++ t ∷ []) ++ ts)
meant_step schema all s others made t m h ts k = rw (push_more made t ts) (h (t ∷ ts) (m, k))

pub faults_step : (schema : List Table) (all : List Select) (s : Select) (others : List Select) (made : List TypedQuery) (t : TypedQuery) → query_faults schema s ≡ []
    → ((fault : TypeFault) → HasFirstFault schema (length made + 1) (s ∷ others) fault → HasFirstFault schema 1 all fault)
    → (fault : TypeFault) → HasFirstFault schema (length (made ++ t ∷ []) + 1) others fault → HasFirstFault schema 1 all fault
faults_step schema all s others made t none h fault k = h fault (HasFirstFault.later (length made + 1) s others fault none (rw (← next) k))
  where
    next : length (made ++ t ∷ []) + 1 ≡ suc (length made + 1)
    next = let l = push_length made t in omega (arith, l)

-- ---- statements

pub queries_kept : (rest others : List Statement) (s : Statement) → rest ≡ s ∷ others → AllByRecursion IsQuery (map select_of rest) → IsQuery (select_of s) × AllByRecursion IsQuery (map select_of others)
queries_kept rest others s first h = rw first at h

pub meant_kept : (schema : List Table) (all : List Select) (rest others : List Statement) (s : Statement) (made made' : List TypedQuery) (t : TypedQuery) → rest ≡ s ∷ others → made' ≡ made ++ t ∷ []
    → Means schema (select_of s) (whole_of t.query) t.names.items t.keys.items → ((ts : List TypedQuery) → AreMeant schema (map select_of rest) ts → AreMeant schema all (made ++ ts))
    → (ts : List TypedQuery) → AreMeant schema (map select_of others) ts → AreMeant schema all (made' ++ ts)
meant_kept schema all rest others s made made' t first more m h ts k = rw more (meant_step schema all (select_of s) (map select_of others) made t m (rw first at h) ts k)

pub faults_kept : (schema : List Table) (all : List Select) (rest others : List Statement) (s : Statement) (made made' : List TypedQuery) (t : TypedQuery) → rest ≡ s ∷ others → made' ≡ made ++ t ∷ []
    → query_faults schema (select_of s) ≡ [] → ((fault : TypeFault) → HasFirstFault schema (length made + 1) (map select_of rest) fault → HasFirstFault schema 1 all fault)
    → (fault : TypeFault) → HasFirstFault schema (length made' + 1) (map select_of others) fault → HasFirstFault schema 1 all fault
faults_kept schema all rest others s made made' t first more none h fault k = faults_step schema all (select_of s) (map select_of others) made t none (rw first at h) fault (rw more at k)

pub meant_end : (schema : List Table) (all : List Select) (rest : List Statement) (made : List TypedQuery) → length rest < 1
    → ((ts : List TypedQuery) → AreMeant schema (map select_of rest) ts → AreMeant schema all (made ++ ts)) → AreMeant schema all made
meant_end schema all [] made none h = rw (none_more made) at (h [] tt)
meant_end schema all (s ∷ others) made none h = absurd (omega arith)

-- the fault that a refused query is told for
is_fault : (schema : List Table) (k : ℕ) (s : Select) (others : List Select) (r : Refusal) (fault : TypeFault) → IsOneOf r (query_faults schema s) → IsFaultOf k r fault
    → (fault ≡ type_fault.NoMemory) ⊎ HasFirstFault schema k (s ∷ others) fault
unfolding IsOneOf
is_fault schema k s others refusal.NoMemory fault one is = inl is
is_fault schema k s others (refusal.Fault kind token) type_fault.NoMemory one is = inl refl
is_fault schema k s others (refusal.Fault kind token) (type_fault.Fault statement kind' name) one is =
    inr (rw (is.0, is.1, is.2) (HasFirstFault.here k s others (record { kind = kind; name = spelled token }) one))

pub refused_query : (schema : List Table) (all : List Select) (rest others : List Statement) (s : Statement) (k : ℕ) (r : Refusal) (fault : TypeFault) → rest ≡ s ∷ others
    → IsOneOf r (query_faults schema (select_of s)) → IsFaultOf k r fault → ((f : TypeFault) → HasFirstFault schema k (map select_of rest) f → HasFirstFault schema 1 all f)
    → (fault ≡ type_fault.NoMemory) ⊎ HasFirstFault schema 1 all fault
refused_query schema all rest others s k r fault first one is h = elim (is_fault schema k (select_of s) (map select_of others) r fault one is) [
  | inl e ↦ inl e
  | inr f ↦ inr ((rw first at h) fault f)
]
