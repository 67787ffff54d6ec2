-- After so many tokens what is known and around describes exactly the places that they lead to; so the first token where nothing is computed
-- is the first that is refused.
use Rattle.std.proofs.Common.{◌≡◌, ◌+◌, List, [], ◌∷◌, ◌++◌, length, take, refl, sym, ap, subst, ◌∙◌, Option, None, Some, arith, length-append, ◌⊎◌, inl, inr, ⊎_elim}
use Rattle.std.proofs.Math.Seq.{take-append_seam, take-append-add}
use Rattle.std.proofs.lemmas.Option.{same_Some, none-some}
use Rattle.qw_module.specs.declared.instruction.ValType.{ValType}
use Rattle.qw_valid.specs.declared.walk.Opener.{Opener}
use Rattle.qw_valid.specs.declared.walk.Opener.TheVariants.{Body, Block, Loop, Then, Else}
use Rattle.qw_module.specs.Syntax.{Code, done}
use Rattle.qw_module.specs.Typing.{types_of}
use Rattle.qw_module.specs.Places.{Token, plain, unreachable_here, block_begins, loop_begins, if_begins, else_begins, ends, branches, branches_if, branches_by, returns, calls, Opened, body, Place, Typing, Follows, Leads, at_start, IsTypable, IsRefusedAt}
use Rattle.qw_module.proofs.PlaceLemmas.{demands}
use Rattle.qw_valid.specs.Inner.Checking.{Known, nothing, Around, Walked, advanced_by, first_walked}
use Rattle.qw_valid.proofs.ControlPlaces.{at, opened_of, AreOpened, Describes, AreWhole, PlaceOn, PlaceBack, token_end, close-on, close-back}
use Rattle.qw_valid.proofs.Places.{token_here, place-on, place-back}
use Rattle.qw_valid.proofs.Reached.{place-next, leads-snoc, snoc-leads, start_back, some_place}
use Rattle.qw_scan.specs.Inner.Stepping.{alone, with_other, at_else_of, stepped}

-- ---- what is to come behind an `else` changes nothing of what is open

opened-other : (other : Option Code) (a : Around) (around : List Around) (os : List Opened) → AreOpened (a ∷ around) os → AreOpened (with_other other a ∷ around) os
opened-other other a around [] are = absurd are
opened-other other a around (o ∷ os) are = are

opened-back : (other : Option Code) (a : Around) (around : List Around) (os : List Opened) → AreOpened (with_other other a ∷ around) os → AreOpened (a ∷ around) os
opened-back other a around [] are = absurd are
opened-back other a around (o ∷ os) are = are

whole-other : (f : Typing) (other : Option Code) (a : Around) (around : List Around) → AreWhole f (a ∷ around) → AreWhole f (with_other other a ∷ around)
whole-other f other a [] whole = whole
whole-other f other a (b ∷ around) whole = whole

-- ---- a token is one place

end-none : (opener : Opener) → token_end opener None ≡ ends
end-none Body = refl
end-none _ = refl

-- all but an `else`
abbrev IsElse : Token → Type 0
IsElse else_begins = Unit {0}
IsElse _ = ⊥

here-alone : (token : Token) (opener : Opener) → (IsElse token → ⊥) → token_here (alone token) opener None ≡ token
here-alone (plain o) opener other = refl
here-alone unreachable_here opener other = refl
here-alone (block_begins result) opener other = refl
here-alone (loop_begins result) opener other = refl
here-alone (if_begins result) opener other = refl
here-alone else_begins opener other = absurd (other tt)
here-alone ends opener other = end-none opener
here-alone (branches label) opener other = refl
here-alone (branches_if label) opener other = refl
here-alone (branches_by labels default) opener other = refl
here-alone returns opener other = refl
here-alone (calls index) opener other = refl

stepped-alone : (f : Typing) (token : Token) (known : Known) (a : Around) (around : List Around) → (IsElse token → ⊥) →
    stepped f token known (a ∷ around) ≡ advanced_by f (alone token) known (with_other None a ∷ around)
stepped-alone f (plain o) known a around other = refl
stepped-alone f unreachable_here known a around other = refl
stepped-alone f (block_begins result) known a around other = refl
stepped-alone f (loop_begins result) known a around other = refl
stepped-alone f (if_begins result) known a around other = refl
stepped-alone f else_begins known a around other = absurd (other tt)
stepped-alone f ends known a around other = refl
stepped-alone f (branches label) known a around other = refl
stepped-alone f (branches_if label) known a around other = refl
stepped-alone f (branches_by labels default) known a around other = refl
stepped-alone f returns known a around other = refl
stepped-alone f (calls index) known a around other = refl

-- ---- on

on-else : (f : Typing) (opener : Opener) (a : Around) → a.opener ≡ opener → (around : List Around) (known : Known) (os : List Opened) (types : List ValType) (q : Place) →
    AreWhole f (a ∷ around) → Describes known (a ∷ around) (at os types) → Follows f else_begins (at os types) q → PlaceOn (at_else_of opener a around known) q
on-else f opener a is around known [] types q whole described follows = absurd described.1
on-else f Then a is around known (o ∷ os) types q whole described follows =
    let are = described.1 in
    close-on f (with_other (Some done) a) Then (Some done) is refl around known os types are.0 q (whole-other f (Some done) a around whole) described.0 are.2 are.3
    (subst (λ (x : Opened). Follows f else_begins (at (x ∷ os) types) q) (are.1 ∙ ap (λ (x : Opener). opened_of x a.result are.0) is) follows)
on-else f Body a is around known (o ∷ os) types q whole described follows =
    let are = described.1 in
    absurd (demands f else_begins (at (body ∷ os) types) q (subst (λ (x : Opened). Follows f else_begins (at (x ∷ os) types) q) (are.1 ∙ ap (λ (x : Opener). opened_of x a.result are.0) is) follows))
on-else f Block a is around known (o ∷ os) types q whole described follows =
    let are = described.1 in
    absurd (demands f else_begins (at (opened_of Block a.result are.0 ∷ os) types) q (subst (λ (x : Opened). Follows f else_begins (at (x ∷ os) types) q) (are.1 ∙ ap (λ (x : Opener). opened_of x a.result are.0) is) follows))
on-else f Loop a is around known (o ∷ os) types q whole described follows =
    let are = described.1 in
    absurd (demands f else_begins (at (opened_of Loop a.result are.0 ∷ os) types) q (subst (λ (x : Opened). Follows f else_begins (at (x ∷ os) types) q) (are.1 ∙ ap (λ (x : Opener). opened_of x a.result are.0) is) follows))
on-else f Else a is around known (o ∷ os) types q whole described follows =
    let are = described.1 in
    absurd (demands f else_begins (at (opened_of Else a.result are.0 ∷ os) types) q (subst (λ (x : Opened). Follows f else_begins (at (x ∷ os) types) q) (are.1 ∙ ap (λ (x : Opener). opened_of x a.result are.0) is) follows))

on-alone : (f : Typing) (token : Token) → (IsElse token → ⊥) → (a : Around) (around : List Around) (known : Known) (p q : Place) →
    AreWhole f (a ∷ around) → Describes known (a ∷ around) p → Follows f token p q → PlaceOn (stepped f token known (a ∷ around)) q
on-alone f token other a around known p q whole described follows =
    subst (λ (r : Option Walked). PlaceOn r q) (sym (stepped-alone f token known a around other))
    (place-on f (alone token) (with_other None a) around known p.opened p.types q (whole-other f None a around whole) described.0 (opened-other None a around p.opened described.1)
    (subst (λ (t : Token). Follows f t p q) (sym (here-alone token a.opener other)) follows))

-- ---- back

back-else : (f : Typing) (opener : Opener) (a : Around) → a.opener ≡ opener → (around : List Around) (known : Known) (w : Walked) (q : Place) → AreWhole f (a ∷ around) →
    at_else_of opener a around known ≡ Some w → Describes w.known w.around q → PlaceBack f known (a ∷ around) else_begins q
back-else f Then a is around known w q whole e described =
    let b = close-back f (with_other (Some done) a) Then (Some done) is refl around known w q (whole-other f (Some done) a around whole) e described in
    (b.0, (b.1.0, opened-back (Some done) a around b.0.opened b.1.1), b.2)
back-else f _ a is around known w q whole e described = absurd (none-some w e)

back-alone : (f : Typing) (token : Token) → (IsElse token → ⊥) → (a : Around) (around : List Around) (known : Known) (w : Walked) (q : Place) → AreWhole f (a ∷ around) →
    stepped f token known (a ∷ around) ≡ Some w → Describes w.known w.around q → PlaceBack f known (a ∷ around) token q
back-alone f token other a around known w q whole e described =
    let b = place-back f (alone token) (with_other None a) around known w q (whole-other f None a around whole) (sym (stepped-alone f token known a around other) ∙ e) described in
    (b.0, (b.1.0, opened-back None a around b.0.opened b.1.1), subst (λ (t : Token). Follows f t b.0 q) (here-alone token a.opener other) b.2)

-- ---- what is around stays whole

whole-else : (f : Typing) (opener : Opener) (a : Around) → a.opener ≡ opener → (around : List Around) (known : Known) (w : Walked) → AreWhole f (a ∷ around) →
    at_else_of opener a around known ≡ Some w → AreWhole f w.around
whole-else f Then a is around known w whole e =
    let same : advanced_by f done known (with_other (Some done) a ∷ around) ≡ Some w = rw is e in
    ((place-next f done (with_other (Some done) a) around known (whole-other f (Some done) a around whole)).2 w same).whole
whole-else f _ a is around known w whole e = absurd (none-some w e)

whole-alone : (f : Typing) (token : Token) → (IsElse token → ⊥) → (a : Around) (around : List Around) (known : Known) (w : Walked) → AreWhole f (a ∷ around) →
    stepped f token known (a ∷ around) ≡ Some w → AreWhole f w.around
whole-alone f token other a around known w whole e =
    ((place-next f (alone token) (with_other None a) around known (whole-other f None a around whole)).2 w (sym (stepped-alone f token known a around other) ∙ e)).whole

-- ---- for any token

is-else : (token : Token) → (IsElse token → ⊥) ⊎ (token ≡ else_begins)
is-else (plain o) = inl (λ e. e)
is-else unreachable_here = inl (λ e. e)
is-else (block_begins result) = inl (λ e. e)
is-else (loop_begins result) = inl (λ e. e)
is-else (if_begins result) = inl (λ e. e)
is-else else_begins = inr refl
is-else ends = inl (λ e. e)
is-else (branches label) = inl (λ e. e)
is-else (branches_if label) = inl (λ e. e)
is-else (branches_by labels default) = inl (λ e. e)
is-else returns = inl (λ e. e)
is-else (calls index) = inl (λ e. e)

module _ (f : Typing) (a : Around) (around : List Around) (known : Known) (whole : AreWhole f (a ∷ around)) where
  step-on : (token : Token) (p q : Place) → Describes known (a ∷ around) p → Follows f token p q → PlaceOn (stepped f token known (a ∷ around)) q
  step-on token p q described follows = ⊎_elim
      (λ other. on-alone f token other a around known p q whole described follows)
      (λ e. subst (λ (t : Token). PlaceOn (stepped f t known (a ∷ around)) q) (sym e)
      (on-else f a.opener a refl around known p.opened p.types q whole described (subst (λ (t : Token). Follows f t p q) e follows)))
      (is-else token)

  step-back : (token : Token) (w : Walked) (q : Place) → stepped f token known (a ∷ around) ≡ Some w → Describes w.known w.around q → PlaceBack f known (a ∷ around) token q
  step-back token w q e described = ⊎_elim
      (λ other. back-alone f token other a around known w q whole e described)
      (λ is. subst (λ (t : Token). PlaceBack f known (a ∷ around) t q) (sym is)
      (back-else f a.opener a refl around known w q whole (subst (λ (t : Token). stepped f t known (a ∷ around) ≡ Some w) is e) described))
      (is-else token)

  step-whole : (token : Token) (w : Walked) → stepped f token known (a ∷ around) ≡ Some w → AreWhole f w.around
  step-whole token w e = ⊎_elim
      (λ other. whole-alone f token other a around known w whole e)
      (λ is. whole-else f a.opener a refl around known w whole (subst (λ (t : Token). stepped f t known (a ∷ around) ≡ Some w) is e))
      (is-else token)

-- ---- after so many tokens

pub record Stands (f : Typing) (passed : List Token) (known : Known) (around : List Around) : Type 0 where
  pub whole : AreWhole f around
  pub on : (q : Place) → Leads f passed at_start q → Describes known around q
  pub back : (q : Place) → Describes known around q → Leads f passed at_start q

-- at first, the body is open
abbrev pub at_first : Option ValType → List Around
at_first result = (first_walked result done).around

pub stands-first : (f : Typing) (result : Option ValType) → types_of result ≡ f.results → Stands f [] nothing (at_first result)
stands-first f result same = record {
  whole = (refl, same, refl, refl);
  on = λ q same_q. subst (Describes nothing (at_first result)) same_q (refl, ([], refl, refl, tt));
  back = λ q described. start_back result q described;
}

pub stands-next : (f : Typing) (passed : List Token) (token : Token) (known : Known) (around : List Around) (w : Walked) →
    Stands f passed known around → stepped f token known around ≡ Some w → Stands f (passed ++ token ∷ []) w.known w.around
stands-next f passed token known [] w stands e = absurd (none-some w e)
stands-next f passed token known (a ∷ around) w stands e = record {
  whole = step-whole f a around known stands.whole token w e;
  on = λ q leads.
      let s = leads-snoc f passed token at_start q leads in
      let r = step-on f a around known stands.whole token s.0 q (stands.on s.0 s.1) s.2 in
      subst (λ (v : Walked). Describes v.known v.around q) (same_Some r.0 w (sym r.1 ∙ e)) r.2;
  back = λ q described.
      let b = step-back f a around known stands.whole token w q e described in
      snoc-leads f passed token at_start b.0 q (stands.back b.0 b.1) b.2;
}

pub stands-refused : (f : Typing) (passed : List Token) (token : Token) (more : List Token) (known : Known) (a : Around) (around : List Around) →
    Stands f passed known (a ∷ around) → stepped f token known (a ∷ around) ≡ None → IsRefusedAt f (passed ++ token ∷ more) (length passed)
stands-refused f passed token more known a around stands e =
    let before : take (length passed) (passed ++ token ∷ more) ≡ passed = take-append_seam passed (token ∷ more) in
    let with_it : take (length passed + 1) (passed ++ token ∷ more) ≡ passed ++ token ∷ [] = take-append-add passed (token ∷ more) 1 in
    let some = some_place known (a ∷ around) in
    record {
      there = omega (arith, length-append passed (token ∷ more));
      before = (some.0, subst (λ (ts : List Token). Leads f ts at_start some.0) (sym before) (stands.back some.0 some.1));
      refused = λ typable.
          let s = leads-snoc f passed token at_start typable.0 (subst (λ (ts : List Token). Leads f ts at_start typable.0) with_it typable.1) in
          let r = step-on f a around known stands.whole token s.0 typable.0 (stands.on s.0 s.1) s.2 in
          none-some r.0 (sym e ∙ r.1);
    }

pub stands-typable : (f : Typing) (passed : List Token) (known : Known) (around : List Around) → Stands f passed known around → IsTypable f passed
stands-typable f passed known around stands = let some = some_place known around in (some.0, stands.back some.0 some.1)
