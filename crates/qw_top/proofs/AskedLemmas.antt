-- What the text of a script asks for is one, and of a text that is refused the fault is one, or in one statement.
use Rattle.std.proofs.Common.{◌≡◌, ℕ, suc, List, [], ◌∷◌, Some, inr, refl, sym, subst, length, ap, ◌∙◌, arith, map}
use Rattle.std.specs.Prelude.{Contains}
use Rattle.std.proofs.lemmas.Option.{same_Some}
use Rattle.qw_types.specs.declared.kind.Kind.{Kind}
use Rattle.qw_types.specs.declared.schema.Table.{Table}
use Rattle.qw_grouped.specs.Whole.{Whole}
use Rattle.qw_order.specs.declared.sort_key.SortKey.{SortKey}
use Rattle.qw_ast.specs.Syntax.{Select}
use Rattle.qw_parse.proofs.ScriptLemmas.{script_one}
use Rattle.qw_typer.specs.Faults.{Fault}
use Rattle.qw_typer.specs.Typed as typed
use Rattle.qw_typer.specs.Typed.{HasFirstFault, query_faults}
use Rattle.qw_typer.specs.declared.fault.TypeFault.{TypeFault}
use Rattle.qw_typer.specs.declared.fault.TypeFault.TheVariants as typing
use Rattle.qw_typer.proofs.LawLemmas.{one_meaning}
use Rattle.qw_sink.specs.declared.sink.Head.{Head}
use Rattle.qw_top.specs.Causes.{AreOne, Cause, queries_mistyped}
use Rattle.qw_top.specs.Top.{AreAsked, Asked, AsksFor, IsAsked, IsHeader, IsMistyped}

-- ---- what a script asks for

abbrev head : List ℕ → Kind → Head
head name kind = record { name = name; kind = kind }

-- heads of the same names and kinds are the same
same_heads : (a b : List Head) → map (λ (h : Head). h.name) a ≡ map (λ (h : Head). h.name) b → map (λ (h : Head). Some h.kind) a ≡ map (λ (h : Head). Some h.kind) b → a ≡ b
same_heads [] [] names kinds = refl
same_heads [] (k ∷ b) names kinds = cc
same_heads (h ∷ a) [] names kinds = cc
same_heads (h ∷ a) (k ∷ b) names kinds =
    let name : h.name ≡ k.name = cc in
    let kind : Some h.kind ≡ Some k.kind = cc in
    let rest_names : map (λ (h : Head). h.name) a ≡ map (λ (h : Head). h.name) b = cc in
    let rest_kinds : map (λ (h : Head). Some h.kind) a ≡ map (λ (h : Head). Some h.kind) b = cc in
    let first : h ≡ k = ap (λ (n : List ℕ). head n h.kind) name ∙ ap (λ (kind : Kind). head k.name kind) (same_Some h.kind k.kind kind) in
    ap (λ (x : Head). x ∷ a) first ∙ ap (λ (xs : List Head). k ∷ xs) (same_heads a b rest_names rest_kinds)

same_header : (whole : Whole) (names : List (List ℕ)) (a b : List Head) → IsHeader whole names a → IsHeader whole names b → a ≡ b
same_header whole names a b h k = same_heads a b (h.names_are ∙ sym k.names_are) (h.kinds_are ∙ sym k.kinds_are)

abbrev asked : Whole → List Head → List SortKey → Asked
asked whole header keys = record { whole = whole; header = header; keys = keys }

IsAsked-unique : (schema : List Table) (query : Select) (a b : Asked) → IsAsked schema query a → IsAsked schema query b → a ≡ b
IsAsked-unique schema query a b h k =
    let e = one_meaning schema query a.whole b.whole h.names k.names a.keys b.keys h.means k.means in
    let first = subst (λ (n : List (List ℕ)). IsHeader a.whole n a.header) e.1 h.header in
    let second = subst (λ (w : Whole). IsHeader w k.names a.header) e.0 first in
    ap (λ (w : Whole). asked w a.header a.keys) e.0
    ∙ ap (λ (heads : List Head). asked b.whole heads a.keys) (same_header b.whole k.names a.header b.header second k.header)
    ∙ ap (λ (keys : List SortKey). asked b.whole b.header keys) e.2

AreAsked-unique : (schema : List Table) (script : List Select) (a b : List Asked) → AreAsked schema script a → AreAsked schema script b → a ≡ b
AreAsked-unique schema [] [] [] h k = refl
AreAsked-unique schema [] [] (two ∷ b) h k = absurd k
AreAsked-unique schema [] (one ∷ a) b h k = absurd h
AreAsked-unique schema (query ∷ script) [] b h k = absurd h
AreAsked-unique schema (query ∷ script) (one ∷ a) [] h k = absurd k
AreAsked-unique schema (query ∷ script) (one ∷ a) (two ∷ b) h k =
    ap (λ (x : Asked). x ∷ a) (IsAsked-unique schema query one two h.0 k.0) ∙ ap (λ (xs : List Asked). two ∷ xs) (AreAsked-unique schema script a b h.1 k.1)

pub AsksFor-unique : (schema : List Table) (text : List ℕ) (a b : List Asked) → AsksFor schema text a → AsksFor schema text b → a ≡ b
AsksFor-unique schema text a b h k =
    let e = script_one text h.script k.script h.reads k.reads in
    AreAsked-unique schema k.script a b (subst (λ (s : List Select). AreAsked schema s a) e h.asked) k.asked

-- ---- the faults of a script

none_among : (schema : List Table) (query : Select) (fault : Fault) → query_faults schema query ≡ [] → Contains (query_faults schema query) fault → ⊥
none_among schema query fault none among =
    let within = among.1 in
    let many : length (query_faults schema query) ≡ 0 = ap length none in
    omega (arith, within, many)

-- where all mean something, none has a fault
asked_faultless : (schema : List Table) (k : ℕ) (script : List Select) (queries : List Asked) (fault : TypeFault) → AreAsked schema script queries → HasFirstFault schema k script fault → ⊥
asked_faultless schema _ _ [] _ all (typed.here k query script given among) = all
asked_faultless schema _ _ (one ∷ queries) _ all (typed.here k query script given among) = none_among schema query given all.0.means.faultless among
asked_faultless schema _ _ [] _ all (typed.later k query script fault none first) = all
asked_faultless schema _ _ (one ∷ queries) _ all (typed.later k query script fault none first) = asked_faultless schema (suc k) script queries fault all.1 first

pub asked_or_mistyped : (schema : List Table) (text : List ℕ) (queries : List Asked) (fault : TypeFault) → AsksFor schema text queries → IsMistyped schema text fault → ⊥
asked_or_mistyped schema text queries fault asks (script, reads, first) =
    let e = script_one text asks.script script asks.reads reads in
    asked_faultless schema 1 script queries fault (subst (λ (s : List Select). AreAsked schema s queries) e asks.asked) first

-- faults in one statement
record InOne (fault other : TypeFault) : Type 0 where
  statement : ℕ
  one : Fault
  two : Fault
  fault_is : fault ≡ typing.Fault statement one.kind one.name
  other_is : other ≡ typing.Fault statement two.kind two.name

first_in_one : (schema : List Table) (k : ℕ) (script : List Select) (fault other : TypeFault) → HasFirstFault schema k script fault → HasFirstFault schema k script other → InOne fault other
first_in_one schema _ _ _ _ (typed.here k query script one among) (typed.here _ _ _ two among') =
    record { statement = k; one = one; two = two; fault_is = refl; other_is = refl }
first_in_one schema _ _ _ _ (typed.here k query script one among) (typed.later _ _ _ other none first) = absurd (none_among schema query one none among)
first_in_one schema _ _ _ _ (typed.later k query script fault none first) (typed.here _ _ _ two among) = absurd (none_among schema query two none among)
first_in_one schema _ _ _ _ (typed.later k query script fault none first) (typed.later _ _ _ other none' first') = first_in_one schema (suc k) script fault other first first'

pub mistyped_one : (schema : List Table) (text : List ℕ) (fault other_fault : TypeFault) (cause other : Cause) → cause ≡ queries_mistyped fault → other ≡ queries_mistyped other_fault →
    IsMistyped schema text fault → IsMistyped schema text other_fault → AreOne cause other
mistyped_one schema text fault other_fault cause other is is' (script, reads, first) (script', reads', first') =
    let e = script_one text script script' reads reads' in
    let both = first_in_one schema 1 script' fault other_fault (subst (λ (s : List Select). HasFirstFault schema 1 s fault) e first) first' in
    inr (record {
      statement = both.statement;
      kind = both.one.kind;
      name = both.one.name;
      other_kind = both.two.kind;
      other_name = both.two.name;
      cause_is = is ∙ ap queries_mistyped both.fault_is;
      other_is = is' ∙ ap queries_mistyped both.other_is;
    })
