-- One place more is computed exactly as the typing rules say: on from the places that are described to those that are, and back.
use Rattle.std.proofs.Common.{◌≡◌, ℕ, List, [], ◌∷◌, ◌++◌, reverse, refl, sym, ap, ap₂, subst, ◌∙◌, Option, None, Some, slice_get, true}
use Rattle.std.specs.Option.{option_map, option_and_then}
use Rattle.std.specs.List.{AllByRecursion}
use Rattle.std.proofs.lemmas.Bool.{and_parts, and_from, false≢true}
use Rattle.std.proofs.lemmas.Option.{same_Some}
use Rattle.qw_module.specs.declared.instruction.ValType.{ValType}
use Rattle.qw_module.specs.declared.instruction.ValType.TheVariants.{I32}
use Rattle.qw_valid.specs.declared.walk.Opener.{Opener}
use Rattle.qw_valid.specs.declared.walk.Opener.TheVariants.{Block, Loop, Then}
use Rattle.qw_module.specs.Syntax.{Code, done, op, unreachable, block, loop, if_then, if_else, br, br_if, br_table, return, call}
use Rattle.qw_module.specs.Typing.{Scope, Takes, OpTyped}
use Rattle.qw_module.specs.Places.{Token, plain, unreachable_here, block_begins, loop_begins, if_begins, branches, branches_if, branches_by, returns, calls, Opened, Place, Typing, scope_in, Follows, at_plain, at_unreachable, at_block, at_loop, at_if, at_br, at_br_if, at_br_table, at_return, at_call}
use Rattle.qw_module.proofs.PlaceLemmas.{demands}
use Rattle.qw_valid.specs.Inner.Checking.{Known, anything, popped, all_pushed, all_popped, after_call, after_op, Around, Walked, walked, scope_at, after_br, back, after_br_if, is_there_alike, all_take, after_table, after_br_table, after_return, after_calling, opened, goes, advanced_by}
use Rattle.qw_valid.proofs.KindFacts.{then_some, map_some, then_from, map_from, if_some, if_from, are_same-true, are_same-refl, AreAs, some_as, popped-on, popped-back, all_popped-on, all_popped-back, all_pushed-on, all_pushed-back}
use Rattle.qw_valid.proofs.OpPlaces.{On, op-on, op-back}
use Rattle.qw_valid.proofs.ControlPlaces.{at, opened_of, AreOpened, Describes, AreWhole, scope_same, PlaceOn, PlaceBack, token_end, close-on, close-back}

-- the token that stands where so much of a sequence is left
abbrev pub token_here : Code → Opener → Option Code → Token
token_here done opener other = token_end opener other
token_here (op o rest) opener other = plain o
token_here (unreachable rest) opener other = unreachable_here
token_here (block result inner rest) opener other = block_begins result
token_here (loop result inner rest) opener other = loop_begins result
token_here (if_then result inner rest) opener other = if_begins result
token_here (if_else result inner more rest) opener other = if_begins result
token_here (br index rest) opener other = branches index
token_here (br_if index rest) opener other = branches_if index
token_here (br_table labels default rest) opener other = branches_by labels default
token_here (return rest) opener other = returns
token_here (call index rest) opener other = calls index

-- ---- the labels of a table
all_take-on : (labels : List (List ValType)) (taken : List ValType) (indices : List ℕ) → AllByRecursion (λ index. slice_get labels index ≡ Some taken) indices →
    all_take labels taken indices ≡ true
all_take-on labels taken [] all = refl
all_take-on labels taken (index ∷ indices) all =
    let first : is_there_alike (slice_get labels index) taken ≡ true = rw (all.0) (are_same-refl taken) in
    and_from (is_there_alike (slice_get labels index) taken) (all_take labels taken indices) first (all_take-on labels taken indices all.1)

there_alike : (found : Option (List ValType)) (taken : List ValType) → is_there_alike found taken ≡ true → found ≡ Some taken
there_alike None taken e = absurd (false≢true e)
there_alike (Some ts) taken e = ap (λ (us : List ValType). Some us) (are_same-true ts taken e)

all_take-back : (labels : List (List ValType)) (taken : List ValType) (indices : List ℕ) → all_take labels taken indices ≡ true →
    AllByRecursion (λ index. slice_get labels index ≡ Some taken) indices
all_take-back labels taken [] e = tt
all_take-back labels taken (index ∷ indices) e =
    let parts = and_parts (is_there_alike (slice_get labels index) taken) (all_take labels taken indices) e in
    (there_alike (slice_get labels index) taken parts.0, all_take-back labels taken indices parts.1)

-- ---- on
module _ (f : Typing) (around : List Around) (os : List Opened) (opened_are : AreOpened around os) where
  goes-on : (rest : Code) (r : Option Known) (after : List ValType) (q : Place) → On r after → q ≡ at os after → PlaceOn (goes around rest r) q
  goes-on rest r after q on same =
      (walked on.0 around rest, map_from (λ k. walked k around rest) r on.0 on.1, subst (Describes on.0 around) (sym same) (on.2, opened_are))

  begins-on : (opener : Opener) (result : Option ValType) (other : Option Code) (after inner : Code) (below : Known) (types : List ValType) (q : Place) → AreAs below types →
      q ≡ at (opened_of opener result types ∷ os) [] → (r : Option Walked) → r ≡ Some (opened opener result other after around inner below) → PlaceOn r q
  begins-on opener result other after inner below types q are same r e =
      let w : Walked = opened opener result other after around inner below in
      (w, e, subst (Describes w.known w.around) (sym same) (refl, (types, refl, are, opened_are)))

pub place-on : (f : Typing) (code : Code) (a : Around) (around : List Around) (known : Known) (os : List Opened) (types : List ValType) (q : Place) → AreWhole f (a ∷ around) →
    AreAs known types → AreOpened (a ∷ around) os → Follows f (token_here code a.opener a.other) (at os types) q → PlaceOn (advanced_by f code known (a ∷ around)) q
place-on f done a around known [] types q whole are opened_are follows = absurd opened_are
place-on f done a around known (o ∷ os) types q whole are opened_are follows =
    close-on f a a.opener a.other refl refl around known os types opened_are.0 q whole are opened_are.2 opened_are.3
    (subst (λ (x : Opened). Follows f (token_end a.opener a.other) (at (x ∷ os) types) q) opened_are.1 follows)
place-on f (op o rest) a around known os types q whole are opened_are follows =
    let d = demands f (plain o) (at os types) q follows in
    let typed = subst (λ (s : Scope). OpTyped s o types d.0) (scope_same f (a ∷ around) os whole opened_are) d.2 in
    goes-on f (a ∷ around) os opened_are rest (after_op (scope_at f (a ∷ around)) o known) d.0 q (op-on (scope_at f (a ∷ around)) o types d.0 typed known are) d.1
place-on f (unreachable rest) a around known os types q whole are opened_are follows =
    let d = demands f unreachable_here (at os types) q follows in
    (walked anything (a ∷ around) rest, refl, subst (Describes anything (a ∷ around)) (sym d.1) (tt, opened_are))
place-on f (block result inner rest) a around known os types q whole are opened_are follows =
    let d = demands f (block_begins result) (at os types) q follows in
    begins-on f (a ∷ around) os opened_are Block result None rest inner known types q are d _ refl
place-on f (loop result inner rest) a around known os types q whole are opened_are follows =
    let d = demands f (loop_begins result) (at os types) q follows in
    begins-on f (a ∷ around) os opened_are Loop result None rest inner known types q are d _ refl
place-on f (if_then result inner rest) a around known os types q whole are opened_are follows =
    let d = demands f (if_begins result) (at os types) q follows in
    let k = popped-on I32 known d.0 (subst (AreAs known) d.1 are) in
    begins-on f (a ∷ around) os opened_are Then result None rest inner k.0 d.0 q k.2 d.2 _ (map_from (opened Then result None rest (a ∷ around) inner) (popped I32 known) k.0 k.1)
place-on f (if_else result inner other rest) a around known os types q whole are opened_are follows =
    let d = demands f (if_begins result) (at os types) q follows in
    let k = popped-on I32 known d.0 (subst (AreAs known) d.1 are) in
    begins-on f (a ∷ around) os opened_are Then result (Some other) rest inner k.0 d.0 q k.2 d.2 _
    (map_from (opened Then result (Some other) rest (a ∷ around) inner) (popped I32 known) k.0 k.1)
place-on f (br index rest) a around known os types q whole are opened_are follows =
    let d = demands f (branches index) (at os types) q follows in
    let scope : Scope = scope_at f (a ∷ around) in
    let found : Takes scope index d.0 = subst (λ (s : Scope). Takes s index d.0) (scope_same f (a ∷ around) os whole opened_are) d.3 in
    let k = all_popped-on d.0 known d.1 (subst (AreAs known) d.4 are) in
    let e : after_br scope index known ≡ Some anything =
    map_from (λ below. anything) (option_and_then (λ taken. all_popped taken known) (slice_get scope.labels index)) k.0
    (then_from (λ taken. all_popped taken known) (slice_get scope.labels index) d.0 (Some k.0) found k.1) in
    goes-on f (a ∷ around) os opened_are rest (after_br scope index known) d.2 q (anything, e, tt) d.5
place-on f (br_if index rest) a around known os types q whole are opened_are follows =
    let d = demands f (branches_if index) (at os types) q follows in
    let scope : Scope = scope_at f (a ∷ around) in
    let found : Takes scope index d.0 = subst (λ (s : Scope). Takes s index d.0) (scope_same f (a ∷ around) os whole opened_are) d.2 in
    let j = popped-on I32 known (d.0 ++ d.1) (subst (AreAs known) d.3 are) in
    let k = all_popped-on d.0 j.0 d.1 j.2 in
    let after : Known = all_pushed d.0 k.0 in
    let e : after_br_if scope index known ≡ Some after =
    then_from (λ taken. option_and_then (back taken) (popped I32 known)) (slice_get scope.labels index) d.0 (Some after) found
    (then_from (back d.0) (popped I32 known) j.0 (Some after) j.1 (map_from (all_pushed d.0) (all_popped d.0 j.0) k.0 k.1)) in
    goes-on f (a ∷ around) os opened_are rest (after_br_if scope index known) (d.0 ++ d.1) q (after, e, all_pushed-on d.0 k.0 d.1 k.2) d.4
place-on f (br_table labels default rest) a around known os types q whole are opened_are follows =
    let d = demands f (branches_by labels default) (at os types) q follows in
    let scope : Scope = scope_at f (a ∷ around) in
    let same = scope_same f (a ∷ around) os whole opened_are in
    let found : Takes scope default d.0 = subst (λ (s : Scope). Takes s default d.0) same d.4 in
    let all : AllByRecursion (λ label. Takes scope label d.0) labels = subst (λ (s : Scope). AllByRecursion (λ label. Takes s label d.0) labels) same d.3 in
    let j = popped-on I32 known (d.0 ++ d.1) (subst (AreAs known) d.5 are) in
    let k = all_popped-on d.0 j.0 d.1 j.2 in
    let e : after_br_table scope labels default known ≡ Some anything =
    then_from (λ taken. option_and_then (after_table scope labels taken) (popped I32 known)) (slice_get scope.labels default) d.0 (Some anything) found
    (then_from (after_table scope labels d.0) (popped I32 known) j.0 (Some anything) j.1
    (if_from (all_take scope.labels d.0 labels) (option_map (λ below. anything) (all_popped d.0 j.0)) (all_take-on scope.labels d.0 labels all)
    ∙ map_from (λ below. anything) (all_popped d.0 j.0) k.0 k.1)) in
    goes-on f (a ∷ around) os opened_are rest (after_br_table scope labels default known) d.2 q (anything, e, tt) d.6
place-on f (return rest) a around known os types q whole are opened_are follows =
    let d = demands f returns (at os types) q follows in
    let k = all_popped-on f.results known d.0 (subst (AreAs known) d.2 are) in
    goes-on f (a ∷ around) os opened_are rest (after_return (scope_at f (a ∷ around)) known) d.1 q
    (anything, map_from (λ below. anything) (all_popped f.results known) k.0 k.1, tt) d.3
place-on f (call index rest) a around known os types q whole are opened_are follows =
    let d = demands f (calls index) (at os types) q follows in
    let taken : List ValType = reverse d.0.params in
    let given : List ValType = reverse d.0.results in
    let k = all_popped-on taken known d.1 (subst (AreAs known) d.3 are) in
    let e = then_from (λ signature. after_call signature known) (slice_get f.outside.functions index) d.0 (Some (all_pushed given k.0)) d.2
    (map_from (all_pushed given) (all_popped taken known) k.0 k.1) in
    goes-on f (a ∷ around) os opened_are rest (after_calling (scope_at f (a ∷ around)) index known) (given ++ d.1) q (all_pushed given k.0, e, all_pushed-on given k.0 d.1 k.2) d.4

-- ---- back
goes-back : (around : List Around) (rest : Code) (r : Option Known) (w : Walked) (q : Place) → goes around rest r ≡ Some w → Describes w.known w.around q →
    (k : Known) × (r ≡ Some k) × AreAs k q.types × AreOpened around q.opened
goes-back around rest r w q e described =
    let m = map_some (λ k. walked k around rest) r w e in
    let here : Describes m.0 around q = subst (λ (v : Walked). Describes v.known v.around q) (sym m.2) described in
    (m.0, m.1, here.0, here.1)

begins-back : (f : Typing) (around : List Around) (opener : Opener) (result : Option ValType) (other : Option Code) (after inner : Code) (below : Known) (w : Walked) (q : Place) →
    opened opener result other after around inner below ≡ w → Describes w.known w.around q →
    (types : List ValType) × (os : List Opened) × (q ≡ at (opened_of opener result types ∷ os) []) × AreAs below types × AreOpened around os
begins-back f around opener result other after inner below w q e described =
    let next : Walked = opened opener result other after around inner below in
    let here : Describes next.known next.around q = subst (λ (v : Walked). Describes v.known v.around q) (sym e) described in
    of_opened q.opened here.1 here.0
  where
    of_opened : (os : List Opened) → AreOpened (record { opener = opener; result = result; below = below; other = other; after = after } ∷ around) os → q.types ≡ [] →
        (types : List ValType) × (rest : List Opened) × (at os q.types ≡ at (opened_of opener result types ∷ rest) []) × AreAs below types × AreOpened around rest
    of_opened [] are none = absurd are
    of_opened (o ∷ os) are none = (are.0, os, ap₂ (λ (x : Opened) (ts : List ValType). at (x ∷ os) ts) are.1 none, are.2, are.3)

pub place-back : (f : Typing) (code : Code) (a : Around) (around : List Around) (known : Known) (w : Walked) (q : Place) → AreWhole f (a ∷ around) →
    advanced_by f code known (a ∷ around) ≡ Some w → Describes w.known w.around q → PlaceBack f known (a ∷ around) (token_here code a.opener a.other) q
place-back f done a around known w q whole e described = close-back f a a.opener a.other refl refl around known w q whole e described
place-back f (op o rest) a around known w q whole e described =
    let scope : Scope = scope_at f (a ∷ around) in
    let g = goes-back (a ∷ around) rest (after_op scope o known) w q e described in
    let b = op-back scope o known g.0 q.types g.1 g.2 in
    let typed = subst (λ (s : Scope). OpTyped s o b.0 q.types) (sym (scope_same f (a ∷ around) q.opened whole g.3)) b.2 in
    (at q.opened b.0, (b.1, g.3), at_plain f q.opened o b.0 q.types typed)
place-back f (unreachable rest) a around known w q whole e described =
    let here : Describes anything (a ∷ around) q = subst (λ (v : Walked). Describes v.known v.around q) (sym (same_Some (walked anything (a ∷ around) rest) w e)) described in
    let some = some_as known in
    (at q.opened some.0, (some.1, here.1), at_unreachable f q.opened some.0 q.types)
place-back f (block result inner rest) a around known w q whole e described =
    let b = begins-back f (a ∷ around) Block result None rest inner known w q (same_Some (opened Block result None rest (a ∷ around) inner known) w e) described in
    (at b.1 b.0, (b.3, b.4), subst (Follows f (block_begins result) (at b.1 b.0)) (sym b.2) (at_block f b.1 result b.0))
place-back f (loop result inner rest) a around known w q whole e described =
    let b = begins-back f (a ∷ around) Loop result None rest inner known w q (same_Some (opened Loop result None rest (a ∷ around) inner known) w e) described in
    (at b.1 b.0, (b.3, b.4), subst (Follows f (loop_begins result) (at b.1 b.0)) (sym b.2) (at_loop f b.1 result b.0))
place-back f (if_then result inner rest) a around known w q whole e described =
    let m = map_some (opened Then result None rest (a ∷ around) inner) (popped I32 known) w e in
    let b = begins-back f (a ∷ around) Then result None rest inner m.0 w q m.2 described in
    (at b.1 (I32 ∷ b.0), (popped-back I32 known m.0 b.0 m.1 b.3, b.4), subst (Follows f (if_begins result) (at b.1 (I32 ∷ b.0))) (sym b.2) (at_if f b.1 result b.0))
place-back f (if_else result inner other rest) a around known w q whole e described =
    let m = map_some (opened Then result (Some other) rest (a ∷ around) inner) (popped I32 known) w e in
    let b = begins-back f (a ∷ around) Then result (Some other) rest inner m.0 w q m.2 described in
    (at b.1 (I32 ∷ b.0), (popped-back I32 known m.0 b.0 m.1 b.3, b.4), subst (Follows f (if_begins result) (at b.1 (I32 ∷ b.0))) (sym b.2) (at_if f b.1 result b.0))
place-back f (br index rest) a around known w q whole e described =
    let scope : Scope = scope_at f (a ∷ around) in
    let g = goes-back (a ∷ around) rest (after_br scope index known) w q e described in
    let m = map_some (λ below. anything) (option_and_then (λ taken. all_popped taken known) (slice_get scope.labels index)) g.0 g.1 in
    let t = then_some (λ taken. all_popped taken known) (slice_get scope.labels index) m.0 m.1 in
    let some = some_as m.0 in
    let found : Takes (scope_in f q.opened) index t.0 = subst (λ (s : Scope). Takes s index t.0) (sym (scope_same f (a ∷ around) q.opened whole g.3)) t.1 in
    (at q.opened (t.0 ++ some.0), (all_popped-back t.0 known m.0 some.0 t.2 some.1, g.3), at_br f q.opened index t.0 some.0 q.types found)
place-back f (br_if index rest) a around known w q whole e described =
    let scope : Scope = scope_at f (a ∷ around) in
    let g = goes-back (a ∷ around) rest (after_br_if scope index known) w q e described in
    let t = then_some (λ taken. option_and_then (back taken) (popped I32 known)) (slice_get scope.labels index) g.0 g.1 in
    let j = then_some (back t.0) (popped I32 known) g.0 t.2 in
    let m = map_some (all_pushed t.0) (all_popped t.0 j.0) g.0 j.2 in
    let b = all_pushed-back t.0 m.0 q.types (subst (λ (k : Known). AreAs k q.types) (sym m.2) g.2) in
    let found : Takes (scope_in f q.opened) index t.0 = subst (λ (s : Scope). Takes s index t.0) (sym (scope_same f (a ∷ around) q.opened whole g.3)) t.1 in
    let before : AreAs known (I32 ∷ t.0 ++ b.0) = popped-back I32 known j.0 (t.0 ++ b.0) j.1 (all_popped-back t.0 j.0 m.0 b.0 m.1 b.2) in (
      at q.opened (I32 ∷ t.0 ++ b.0),
      (before, g.3),
      subst (λ (ts : List ValType). Follows f (branches_if index) (at q.opened (I32 ∷ t.0 ++ b.0)) (at q.opened ts)) (sym b.1) (at_br_if f q.opened index t.0 b.0 found),
    )
place-back f (br_table labels default rest) a around known w q whole e described =
    let scope : Scope = scope_at f (a ∷ around) in
    let g = goes-back (a ∷ around) rest (after_br_table scope labels default known) w q e described in
    let t = then_some (λ taken. option_and_then (after_table scope labels taken) (popped I32 known)) (slice_get scope.labels default) g.0 g.1 in
    let j = then_some (after_table scope labels t.0) (popped I32 known) g.0 t.2 in
    let i = if_some (all_take scope.labels t.0 labels) (option_map (λ below. anything) (all_popped t.0 j.0)) g.0 j.2 in
    let m = map_some (λ below. anything) (all_popped t.0 j.0) g.0 i.1 in
    let some = some_as m.0 in
    let same = sym (scope_same f (a ∷ around) q.opened whole g.3) in
    let found : Takes (scope_in f q.opened) default t.0 = subst (λ (s : Scope). Takes s default t.0) same t.1 in
    let all : AllByRecursion (λ label. Takes (scope_in f q.opened) label t.0) labels =
    subst (λ (s : Scope). AllByRecursion (λ label. Takes s label t.0) labels) same (all_take-back scope.labels t.0 labels i.0) in
    let before : AreAs known (I32 ∷ t.0 ++ some.0) = popped-back I32 known j.0 (t.0 ++ some.0) j.1 (all_popped-back t.0 j.0 m.0 some.0 m.1 some.1) in
    (at q.opened (I32 ∷ t.0 ++ some.0), (before, g.3), at_br_table f q.opened labels default t.0 some.0 q.types all found)
place-back f (return rest) a around known w q whole e described =
    let scope : Scope = scope_at f (a ∷ around) in
    let g = goes-back (a ∷ around) rest (after_return scope known) w q e described in
    let m = map_some (λ below. anything) (all_popped f.results known) g.0 g.1 in
    let some = some_as m.0 in
    (at q.opened (f.results ++ some.0), (all_popped-back f.results known m.0 some.0 m.1 some.1, g.3), at_return f q.opened some.0 q.types)
place-back f (call index rest) a around known w q whole e described =
    let scope : Scope = scope_at f (a ∷ around) in
    let g = goes-back (a ∷ around) rest (after_calling scope index known) w q e described in
    let t = then_some (λ signature. after_call signature known) (slice_get f.outside.functions index) g.0 g.1 in
    let taken : List ValType = reverse t.0.params in
    let given : List ValType = reverse t.0.results in
    let m = map_some (all_pushed given) (all_popped taken known) g.0 t.2 in
    let b = all_pushed-back given m.0 q.types (subst (λ (k : Known). AreAs k q.types) (sym m.2) g.2) in (
      at q.opened (taken ++ b.0),
      (all_popped-back taken known m.0 b.0 m.1 b.2, g.3),
      subst (λ (ts : List ValType). Follows f (calls index) (at q.opened (taken ++ b.0)) (at q.opened ts)) (sym b.1) (at_call f q.opened index t.0 b.0 t.1),
    )
