-- What is computed of control instructions and of ends is their typing rule, place by place.
use Rattle.std.proofs.Common.{◌≡◌, ◌≢◌, List, [], ◌∷◌, ◌++◌, map, refl, sym, ap, ap₂, subst, ◌∙◌, Option, None, Some, true, append-nil}
use Rattle.std.proofs.lemmas.Bool.{false≢true}
use Rattle.std.proofs.lemmas.Option.{same_Some}
use Rattle.qw_module.specs.declared.instruction.ValType.{ValType}
use Rattle.qw_valid.specs.declared.walk.Opener.{Opener}
use Rattle.qw_valid.specs.declared.walk.Opener.TheVariants.{Body, Block, Loop, Then, Else}
use Rattle.qw_module.specs.Syntax.{Code, done}
use Rattle.qw_module.specs.Typing.{types_of, scope_of}
use Rattle.qw_module.specs.Places.{Token, plain, unreachable_here, block_begins, loop_begins, if_begins, else_begins, ends, branches, branches_if, branches_by, returns, calls, tokens_before, Opened, body, in_block, in_loop, in_if, in_else, Place, Typing, scope_in, Follows, at_plain, at_unreachable, at_block, at_loop, at_if, at_else, at_end_of_if, at_end_of_else, at_end_of_block, at_end_of_loop, at_end_of_body, at_br, at_br_if, at_br_table, at_return, at_call}
use Rattle.qw_module.specs.Places as places
use Rattle.qw_module.proofs.PlaceLemmas.{demands}
use Rattle.qw_valid.specs.Inner.Checking.{Known, nothing, all_pushed, Around, taken_in, Walked, walked, scope_at, is_left, ended, turned, is_none, closed_by}
use Rattle.qw_valid.specs.Kinds.{taken_by}
use Rattle.qw_valid.proofs.KindFacts.{if_some, if_from, AreAs, all_pushed-on, all_pushed-back, left-on, left-back}

abbrev pub at : List Opened → List ValType → Place
at around types = record { opened = around; types = types }

-- what is open as the definition of places sees it, over operands of these types
abbrev pub opened_of : Opener → Option ValType → (below : List ValType) → Opened
opened_of Body result below = body
opened_of Block result below = in_block result below
opened_of Loop result below = in_loop result below
opened_of Then result below = in_if result below
opened_of Else result below = in_else result below

abbrev pub AreOpened : List Around → List Opened → Type 0
AreOpened [] [] = Unit {0}
AreOpened (a ∷ around) (o ∷ os) = (below : List ValType) × (o ≡ opened_of a.opener a.result below) × AreAs a.below below × AreOpened around os
AreOpened [] (o ∷ os) = ⊥
AreOpened (a ∷ around) [] = ⊥

-- what is known and what is around describe a place
abbrev pub Describes : Known → List Around → Place → Type 0
Describes known around p = AreAs known p.types × AreOpened around p.opened

-- the last that is around is the body itself, and no other is
abbrev pub AreWhole : Typing → List Around → Type 0
AreWhole f [] = Unit {0}
AreWhole f (a ∷ []) = (a.opener ≡ Body) × (types_of a.result ≡ f.results) × (a.below ≡ nothing) × (a.after ≡ done)
AreWhole f (a ∷ b ∷ around) = (a.opener ≢ Body) × AreWhole f (b ∷ around)

-- ---- the labels
body_or_not : (f : Typing) (a : Around) (around : List Around) → AreWhole f (a ∷ around) → (a.opener ≡ Body → types_of a.result ≡ f.results)
body_or_not f a [] whole is = whole.1
body_or_not f a (b ∷ around) whole is = absurd (whole.0 is)

whole_below : (f : Typing) (a : Around) (around : List Around) → AreWhole f (a ∷ around) → AreWhole f around
whole_below f a [] whole = tt
whole_below f a (b ∷ around) whole = whole.1

taken_same : (f : Typing) (opener : Opener) (result : Option ValType) (below : List ValType) → (opener ≡ Body → types_of result ≡ f.results) →
    places.taken_by f (opened_of opener result below) ≡ taken_by opener result
taken_same f Body result below is = sym (is refl)
taken_same f _ result below is = refl

labels_same : (f : Typing) (around : List Around) (os : List Opened) → AreWhole f around → AreOpened around os → map (places.taken_by f) os ≡ map taken_in around
labels_same f [] [] whole are = refl
labels_same f (a ∷ around) (o ∷ os) whole are =
    let first : places.taken_by f o ≡ taken_in a = ap (places.taken_by f) are.1 ∙ taken_same f a.opener a.result are.0 (body_or_not f a around whole) in
    ap₂ (λ (t : List ValType) (ts : List (List ValType)). t ∷ ts) first (labels_same f around os (whole_below f a around whole) are.3)
labels_same f [] (o ∷ os) whole are = absurd are
labels_same f (a ∷ around) [] whole are = absurd are

pub scope_same : (f : Typing) (around : List Around) (os : List Opened) → AreWhole f around → AreOpened around os → scope_in f os ≡ scope_at f around
scope_same f around os whole are = ap (λ (labels : List (List ValType)). scope_of f.outside f.locals f.results labels) (labels_same f around os whole are)

-- ---- on and back
abbrev pub PlaceOn : Option Walked → Place → Type 0
PlaceOn r q = (w : Walked) × (r ≡ Some w) × Describes w.known w.around q

abbrev pub PlaceBack : Typing → Known → List Around → Token → Place → Type 0
PlaceBack f known around token q = (p : Place) × Describes known around p × Follows f token p q

-- the token that stands at the end of a sequence
abbrev pub token_end : Opener → Option Code → Token
token_end Then (Some other) = else_begins
token_end _ _ = ends

module _ (f : Typing) (around : List Around) where
  ended-on : (a : Around) (known : Known) (os : List Opened) (types below : List ValType) (q : Place) → AreAs known types → types ≡ types_of a.result →
      AreAs a.below below → AreOpened around os → q ≡ at os (types_of a.result ++ below) → PlaceOn (ended a around known) q
  ended-on a known os types below q are e below_are opened_are same =
      let all : is_left (types_of a.result) known ≡ true = left-on (types_of a.result) known (subst (AreAs known) e are) in
      let w : Walked = walked (all_pushed (types_of a.result) a.below) around a.after in
      (w, if_from (is_left (types_of a.result) known) (Some w) all, subst (Describes w.known w.around) (sym same) (all_pushed-on (types_of a.result) a.below below below_are, opened_are))

  turned-on : (a : Around) (other : Code) (known : Known) (os : List Opened) (types below : List ValType) (q : Place) → AreAs known types → types ≡ types_of a.result →
      AreAs a.below below → AreOpened around os → q ≡ at (in_else a.result below ∷ os) [] → PlaceOn (turned a other around known) q
  turned-on a other known os types below q are e below_are opened_are same =
      let all : is_left (types_of a.result) known ≡ true = left-on (types_of a.result) known (subst (AreAs known) e are) in
      let w : Walked = walked nothing (record { opener = Else; result = a.result; below = a.below; other = None; after = a.after } ∷ around) other in
      (w, if_from (is_left (types_of a.result) known) (Some w) all, subst (Describes w.known w.around) (sym same) (refl, (below, refl, below_are, opened_are)))

pub close-on : (f : Typing) (a : Around) (opener : Opener) (other : Option Code) → a.opener ≡ opener → a.other ≡ other → (around : List Around) (known : Known) (os : List Opened) (types below : List ValType) (q : Place) →
    AreWhole f (a ∷ around) → AreAs known types → AreAs a.below below → AreOpened around os →
    Follows f (token_end opener other) (at (opened_of opener a.result below ∷ os) types) q → PlaceOn (closed_by opener a around known) q
close-on f a Block other is also around known os types below q whole are below_are opened_are follows =
    let d = demands f ends (at (in_block a.result below ∷ os) types) q follows in
    ended-on f around a known os types below q are d.0 below_are opened_are d.1
close-on f a Loop other is also around known os types below q whole are below_are opened_are follows =
    let d = demands f ends (at (in_loop a.result below ∷ os) types) q follows in
    ended-on f around a known os types below q are d.0 below_are opened_are d.1
close-on f a Else other is also around known os types below q whole are below_are opened_are follows =
    let d = demands f ends (at (in_else a.result below ∷ os) types) q follows in
    ended-on f around a known os types below q are d.0 below_are opened_are d.1
close-on f a Then (Some other) is also around known os types below q whole are below_are opened_are follows =
    let d = demands f else_begins (at (in_if a.result below ∷ os) types) q follows in
    rw also (turned-on f around a other known os types below q are d.0 below_are opened_are d.1)
close-on f a Then None is also around known os types below q whole are below_are opened_are follows =
    let d = demands f ends (at (in_if a.result below ∷ os) types) q follows in
    let none : types_of a.result ≡ [] = ap types_of d.0 in
    let on = ended-on f around a known os types below q are (d.1 ∙ sym none) below_are opened_are (d.2 ∙ ap (λ (ts : List ValType). at os (ts ++ below)) (sym none)) in
    let first : is_none a.result ≡ true = ap is_none d.0 in
    rw (also, first) on
close-on f a Body other is also [] known os types below q whole are below_are opened_are follows =
    let d = demands f ends (at (body ∷ os) types) q follows in
    let empty : AreAs a.below [] = subst (λ (k : Known). AreAs k []) (sym whole.2) refl in
    let results : f.results ≡ types_of a.result ++ [] = sym (append-nil (types_of a.result) ∙ whole.1) in
    ended-on f [] a known [] types [] q are (d.1 ∙ sym whole.1) empty tt (d.2 ∙ ap (at []) results)
close-on f a Body other is also (b ∷ around) known os types below q whole are below_are opened_are follows = absurd (whole.0 is)

-- ---- back from an end
pub ended-back : (around : List Around) (a : Around) (known : Known) (w : Walked) (q : Place) → ended a around known ≡ Some w → Describes w.known w.around q →
    (below : List ValType) × (q ≡ at q.opened (types_of a.result ++ below)) × AreAs a.below below × AreAs known (types_of a.result) × AreOpened around q.opened
ended-back around a known w q e described =
    let next : Walked = walked (all_pushed (types_of a.result) a.below) around a.after in
    let s = if_some (is_left (types_of a.result) known) (Some next) w e in
    let here : Describes next.known next.around q = subst (λ (v : Walked). Describes v.known v.around q) (sym (same_Some next w s.1)) described in
    let b = all_pushed-back (types_of a.result) a.below q.types here.0 in
    (b.0, ap (at q.opened) b.1, b.2, left-back (types_of a.result) known s.0, here.1)

pub turned-back : (around : List Around) (a : Around) (other : Code) (known : Known) (w : Walked) (q : Place) → turned a other around known ≡ Some w → Describes w.known w.around q →
    (below : List ValType) × (os : List Opened) × (q ≡ at (in_else a.result below ∷ os) []) × AreAs a.below below × AreAs known (types_of a.result) × AreOpened around os
turned-back around a other known w q e described =
    let next : Walked = walked nothing (record { opener = Else; result = a.result; below = a.below; other = None; after = a.after } ∷ around) other in
    let s = if_some (is_left (types_of a.result) known) (Some next) w e in
    let here : Describes next.known next.around q = subst (λ (v : Walked). Describes v.known v.around q) (sym (same_Some next w s.1)) described in
    let top = last_opened around a.result a.below q.opened here.1 in
    (top.0, top.1, ap₂ (λ (os : List Opened) (ts : List ValType). at os ts) top.2 here.0, top.3, left-back (types_of a.result) known s.0, top.4)
  where
    last_opened : (around : List Around) (result : Option ValType) (below : Known) (os : List Opened) →
        AreOpened (record { opener = Else; result = result; below = below; other = None; after = a.after } ∷ around) os →
        (types : List ValType) × (rest : List Opened) × (os ≡ in_else result types ∷ rest) × AreAs below types × AreOpened around rest
    last_opened around result below [] are = absurd are
    last_opened around result below (o ∷ rest) are = (are.0, rest, ap (λ (x : Opened). x ∷ rest) are.1, are.2, are.3)

none_is : (result : Option ValType) → is_none result ≡ true → result ≡ None
none_is None e = refl
none_is (Some t) e = absurd (false≢true e)

pub close-back : (f : Typing) (a : Around) (opener : Opener) (other : Option Code) → a.opener ≡ opener → a.other ≡ other → (around : List Around) (known : Known) (w : Walked) (q : Place) →
    AreWhole f (a ∷ around) → closed_by opener a around known ≡ Some w → Describes w.known w.around q → PlaceBack f known (a ∷ around) (token_end opener other) q
close-back f a Block other is also around known w q whole e described =
    let b = ended-back around a known w q e described in (
      at (in_block a.result b.0 ∷ q.opened) (types_of a.result),
      (b.3, (b.0, ap (λ (o : Opener). opened_of o a.result b.0) (sym is), b.2, b.4)),
      subst (Follows f ends (at (in_block a.result b.0 ∷ q.opened) (types_of a.result))) (sym b.1) (at_end_of_block f q.opened a.result b.0),
    )
close-back f a Loop other is also around known w q whole e described =
    let b = ended-back around a known w q e described in (
      at (in_loop a.result b.0 ∷ q.opened) (types_of a.result),
      (b.3, (b.0, ap (λ (o : Opener). opened_of o a.result b.0) (sym is), b.2, b.4)),
      subst (Follows f ends (at (in_loop a.result b.0 ∷ q.opened) (types_of a.result))) (sym b.1) (at_end_of_loop f q.opened a.result b.0),
    )
close-back f a Else other is also around known w q whole e described =
    let b = ended-back around a known w q e described in (
      at (in_else a.result b.0 ∷ q.opened) (types_of a.result),
      (b.3, (b.0, ap (λ (o : Opener). opened_of o a.result b.0) (sym is), b.2, b.4)),
      subst (Follows f ends (at (in_else a.result b.0 ∷ q.opened) (types_of a.result))) (sym b.1) (at_end_of_else f q.opened a.result b.0),
    )
close-back f a Then (Some other) is also around known w q whole e described =
    let b = turned-back around a other known w q (rw also at e) described in (
      at (in_if a.result b.0 ∷ b.1) (types_of a.result),
      (b.4, (b.0, ap (λ (o : Opener). opened_of o a.result b.0) (sym is), b.3, b.5)),
      subst (Follows f else_begins (at (in_if a.result b.0 ∷ b.1) (types_of a.result))) (sym b.2) (at_else f b.1 a.result b.0),
    )
close-back f a Then None is also around known w q whole e described =
    let s = if_some (is_none a.result) (ended a around known) w (rw also at e) in
    let none : a.result ≡ None = none_is a.result s.0 in
    let b = ended-back around a known w q s.1 described in
    let here : AreAs known [] = subst (λ (r : Option ValType). AreAs known (types_of r)) none b.3 in
    let same : q ≡ at q.opened b.0 = b.1 ∙ ap (λ (r : Option ValType). at q.opened (types_of r ++ b.0)) none in (
      at (in_if None b.0 ∷ q.opened) [],
      (here, (b.0, sym (ap₂ (λ (o : Opener) (r : Option ValType). opened_of o r b.0) is none), b.2, b.4)),
      subst (Follows f ends (at (in_if None b.0 ∷ q.opened) [])) (sym same) (at_end_of_if f q.opened b.0),
    )
close-back f a Body other is also (b ∷ around) known w q whole e described = absurd (whole.0 is)
close-back f a Body other is also [] known w q whole e described =
    let b = ended-back [] a known w q e described in
    let none : b.0 ≡ [] = subst (λ (k : Known). AreAs k b.0) whole.2 b.2 in
    let all : AreAs known f.results = subst (AreAs known) whole.1 b.3 in
    let os : q.opened ≡ [] = none_opened q.opened b.4 in
    let types : types_of a.result ++ b.0 ≡ f.results = ap (λ (ts : List ValType). types_of a.result ++ ts) none ∙ append-nil (types_of a.result) ∙ whole.1 in
    let same : q ≡ at [] f.results = b.1 ∙ ap₂ (λ (o : List Opened) (ts : List ValType). at o ts) os types in (
      at (body ∷ []) f.results,
      (all, ([], ap (λ (o : Opener). opened_of o a.result []) (sym is), subst (λ (k : Known). AreAs k []) (sym whole.2) refl, tt)),
      subst (Follows f ends (at (body ∷ []) f.results)) (sym same) (at_end_of_body f),
    )
  where
    none_opened : (os : List Opened) → AreOpened [] os → os ≡ []
    none_opened [] are = refl
    none_opened (o ∷ os) are = absurd are
