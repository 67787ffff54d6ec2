-- After so many places what is known and around describes exactly the places that the tokens so far lead to; so the first place where nothing
-- is computed is the first that is refused, and a body that was gone through is typable.
use Rattle.std.proofs.Common.{◌≡◌, ◌≢◌, ℕ, ◌+◌, ◌<◌, List, [], ◌∷◌, ◌++◌, length, take, refl, sym, ap, ap₂, subst, ◌∙◌, Option, None, Some, arith, append-nil, append_assoc, length-append}
use Rattle.std.proofs.Math.Seq.{take-append_seam, take-append-add}
use Rattle.std.proofs.lemmas.Option.{same_Some, none-some}
use Rattle.qw_module.specs.declared.instruction.ValType.{ValType}
use Rattle.qw_valid.specs.declared.walk.Opener.{Opener}
use Rattle.qw_valid.specs.declared.walk.Opener.TheVariants.{Body, Block, Loop, Then, Else}
use Rattle.qw_module.specs.Syntax.{Code, done, op, unreachable, block, loop, if_then, if_else, br, br_if, br_table, return, call}
use Rattle.qw_module.specs.Typing.{types_of}
use Rattle.qw_module.specs.Places.{Token, ends, tokens_before, tokens_of, Opened, body, Place, Typing, Follows, Leads, at_start, IsTypable, IsRefusedAt}
use Rattle.qw_valid.specs.Inner.Checking.{Known, nothing, popped, after_op, scope_at, after_br, after_br_if, after_br_table, after_return, after_calling, is_left, all_pushed, ended, turned, is_none, closed_by, Around, Walked, walked, opened, goes, advanced_by, ending_by, left_around, tokens_left, first_walked}
use Rattle.qw_valid.proofs.KindFacts.{map_some, if_some, some_as}
use Rattle.qw_valid.proofs.ControlPlaces.{at, opened_of, AreOpened, Describes, AreWhole, token_end}
use Rattle.qw_valid.proofs.Places.{token_here, place-on, place-back}

-- ---- what is left is the token that stands here, and what is left after it
-- after what was computed: the tokens that are left, what is around is whole, and a body that was ended has nothing left
pub record Goes (f : Typing) (tokens : List Token) (w : Walked) : Type 0 where
  pub left : tokens ≡ tokens_left w
  pub whole : AreWhole f w.around
  pub finished : w.around ≡ [] → w.rest ≡ done

goes_to : (f : Typing) (tokens : List Token) (next w : Walked) → Some next ≡ Some w → tokens ≡ tokens_left next → AreWhole f next.around → (next.around ≡ [] → next.rest ≡ done) → Goes f tokens w
goes_to f tokens next w e left whole finished = subst (Goes f tokens) (same_Some next w e) (record { left = left; whole = whole; finished = finished })

not_empty : {A : Type 0} (a : Around) (around : List Around) → a ∷ around ≡ [] → A
not_empty a around e = absurd (cc)

goes_known : (f : Typing) (a : Around) (around : List Around) (rest : Code) (r : Option Known) (w : Walked) → AreWhole f (a ∷ around) → goes (a ∷ around) rest r ≡ Some w →
    Goes f (tokens_before rest (left_around (a ∷ around))) w
goes_known f a around rest r w whole e =
    let m = map_some (λ k. walked k (a ∷ around) rest) r w e in
    goes_to f (tokens_before rest (left_around (a ∷ around))) (walked m.0 (a ∷ around) rest) w (ap (λ (v : Walked). Some v) m.2) refl whole (λ none. not_empty a around none)

-- what goes on after an end
end_whole : (f : Typing) (a : Around) (around : List Around) → AreWhole f (a ∷ around) → AreWhole f around
end_whole f a [] whole = tt
end_whole f a (b ∷ around) whole = whole.1

end_finished : (f : Typing) (a : Around) (around : List Around) → AreWhole f (a ∷ around) → around ≡ [] → a.after ≡ done
end_finished f a [] whole none = whole.3
end_finished f a (b ∷ around) whole none = not_empty b around none

ended_goes : (f : Typing) (a : Around) (around : List Around) (known : Known) (w : Walked) → AreWhole f (a ∷ around) → ended a around known ≡ Some w →
    Goes f (tokens_before a.after (left_around around)) w
ended_goes f a around known w whole e =
    let next : Walked = walked (all_pushed (types_of a.result) a.below) around a.after in
    let s = if_some (is_left (types_of a.result) known) (Some next) w e in
    goes_to f (tokens_before a.after (left_around around)) next w s.1 refl (end_whole f a around whole) (end_finished f a around whole)

-- an `else` is around what its `if` was
else_whole : (f : Typing) (a : Around) (around : List Around) → a.opener ≡ Then → AreWhole f (a ∷ around) →
    AreWhole f (record { opener = Else; result = a.result; below = a.below; other = None; after = a.after } ∷ around)
else_whole f a [] is whole = let apart : Then ≡ Body = sym is ∙ whole.0 in absurd (cc)
else_whole f a (b ∷ around) is whole = (λ e. absurd (cc), whole.1)

turned_goes : (f : Typing) (a : Around) (other : Code) (around : List Around) (known : Known) (w : Walked) → a.opener ≡ Then → AreWhole f (a ∷ around) → turned a other around known ≡ Some w →
    Goes f (tokens_before other (ends ∷ tokens_before a.after (left_around around))) w
turned_goes f a other around known w is whole e =
    let new : Around = record { opener = Else; result = a.result; below = a.below; other = None; after = a.after } in
    let next : Walked = walked nothing (new ∷ around) other in
    let s = if_some (is_left (types_of a.result) known) (Some next) w e in
    goes_to f (tokens_before other (ends ∷ tokens_before a.after (left_around around))) next w s.1 refl (else_whole f a around is whole) (λ none. not_empty new around none)

-- the tokens left at an end: the one here, and more
abbrev pub IsNext : Typing → List Token → Token → (Option Walked) → Type 0
IsNext f tokens token r = (more : List Token) × (tokens ≡ token ∷ more) × ((w : Walked) → r ≡ Some w → Goes f more w)

close-next : (f : Typing) (a : Around) (opener : Opener) (other : Option Code) → a.opener ≡ opener → a.other ≡ other → (around : List Around) (known : Known) → AreWhole f (a ∷ around) →
    IsNext f (ending_by opener other a.after (left_around around)) (token_end opener other) (closed_by opener a around known)
close-next f a Then (Some other) is also around known whole =
    (tokens_before other (ends ∷ tokens_before a.after (left_around around)), refl, λ w e. turned_goes f a other around known w is whole (rw also at e))
close-next f a Then None is also around known whole =
    (tokens_before a.after (left_around around), refl, λ w e. ended_goes f a around known w whole (if_some (is_none a.result) (ended a around known) w (rw also at e)).1)
close-next f a _ other is also around known whole = (tokens_before a.after (left_around around), refl, λ w e. ended_goes f a around known w whole e)

begins-next : (f : Typing) (opener : Opener) (result : Option ValType) (other : Option Code) (after inner : Code) (a : Around) (around : List Around) (below : Known) (w : Walked) → opener ≢ Body →
    AreWhole f (a ∷ around) → opened opener result other after (a ∷ around) inner below ≡ w → Goes f (tokens_before inner (ending_by opener other after (left_around (a ∷ around)))) w
begins-next f opener result other after inner a around below w apart whole e =
    let new : Around = record { opener = opener; result = result; below = below; other = other; after = after } in
    subst (Goes f (tokens_before inner (ending_by opener other after (left_around (a ∷ around))))) e
    (record { left = refl; whole = (apart, whole); finished = λ none. not_empty new (a ∷ around) none })

pub place-next : (f : Typing) (code : Code) (a : Around) (around : List Around) (known : Known) → AreWhole f (a ∷ around) →
    IsNext f (tokens_before code (left_around (a ∷ around))) (token_here code a.opener a.other) (advanced_by f code known (a ∷ around))
place-next f done a around known whole = close-next f a a.opener a.other refl refl around known whole
place-next f (op o rest) a around known whole = (_, refl, λ w e. goes_known f a around rest (after_op (scope_at f (a ∷ around)) o known) w whole e)
place-next f (unreachable rest) a around known whole =
    (_, refl, λ w e. goes_to f (tokens_before rest (left_around (a ∷ around))) (walked _ (a ∷ around) rest) w e refl whole (λ none. not_empty a around none))
place-next f (block result inner rest) a around known whole =
    (_, refl, λ w e. begins-next f Block result None rest inner a around known w (λ b. absurd (cc)) whole (same_Some (opened Block result None rest (a ∷ around) inner known) w e))
place-next f (loop result inner rest) a around known whole =
    (_, refl, λ w e. begins-next f Loop result None rest inner a around known w (λ b. absurd (cc)) whole (same_Some (opened Loop result None rest (a ∷ around) inner known) w e))
place-next f (if_then result inner rest) a around known whole = (
  _,
  refl,
  λ w e. let m = map_some (opened Then result None rest (a ∷ around) inner) (popped _ known) w e in
      begins-next f Then result None rest inner a around m.0 w (λ b. absurd (cc)) whole m.2,
)
place-next f (if_else result inner other rest) a around known whole = (
  _,
  refl,
  λ w e. let m = map_some (opened Then result (Some other) rest (a ∷ around) inner) (popped _ known) w e in
      begins-next f Then result (Some other) rest inner a around m.0 w (λ b. absurd (cc)) whole m.2,
)
place-next f (br index rest) a around known whole = (_, refl, λ w e. goes_known f a around rest (after_br (scope_at f (a ∷ around)) index known) w whole e)
place-next f (br_if index rest) a around known whole = (_, refl, λ w e. goes_known f a around rest (after_br_if (scope_at f (a ∷ around)) index known) w whole e)
place-next f (br_table labels default rest) a around known whole =
    (_, refl, λ w e. goes_known f a around rest (after_br_table (scope_at f (a ∷ around)) labels default known) w whole e)
place-next f (return rest) a around known whole = (_, refl, λ w e. goes_known f a around rest (after_return (scope_at f (a ∷ around)) known) w whole e)
place-next f (call index rest) a around known whole = (_, refl, λ w e. goes_known f a around rest (after_calling (scope_at f (a ∷ around)) index known) w whole e)

-- ---- one token more at the end of those that lead somewhere
pub leads-snoc : (f : Typing) (tokens : List Token) (token : Token) (p q : Place) → Leads f (tokens ++ token ∷ []) p q → (m : Place) × Leads f tokens p m × Follows f token m q
leads-snoc f [] token p q (middle, follows, same) = (p, refl, subst (Follows f token p) same follows)
leads-snoc f (first ∷ tokens) token p q (middle, follows, rest) =
    let r = leads-snoc f tokens token middle q rest in
    (r.0, (middle, follows, r.1), r.2)

pub snoc-leads : (f : Typing) (tokens : List Token) (token : Token) (p m q : Place) → Leads f tokens p m → Follows f token m q → Leads f (tokens ++ token ∷ []) p q
snoc-leads f [] token p m q same follows = (q, subst (λ (x : Place). Follows f token x q) (sym same) follows, refl)
snoc-leads f (first ∷ tokens) token p m q (middle, here, rest) follows = (middle, here, snoc-leads f tokens token middle m q rest follows)

-- ---- after so many places
pub record IsAt (f : Typing) (tokens : List Token) (n : ℕ) (w : Walked) : Type 0 where
  pub passed : List Token
  pub split : tokens ≡ passed ++ tokens_left w
  pub count : n ≡ length passed
  pub whole : AreWhole f w.around
  pub finished : w.around ≡ [] → w.rest ≡ done
  pub on : (q : Place) → Leads f passed at_start q → Describes w.known w.around q
  pub back : (q : Place) → Describes w.known w.around q → Leads f passed at_start q

-- at first
pub start_back : (result : Option ValType) (q : Place) → Describes nothing (first_walked result done).around q → at_start ≡ q
start_back result q described = of_opened q.opened q.types described.1 described.0 where
  none : (os : List Opened) → AreOpened [] os → os ≡ []
  none [] are = refl
  none (o ∷ os) are = absurd are

  of_opened : (os : List Opened) (types : List ValType) → AreOpened (first_walked result done).around os → types ≡ [] → at (body ∷ []) [] ≡ at os types
  of_opened [] types are e = absurd are
  of_opened (o ∷ os) types are e = ap₂ (λ (xs : List Opened) (ts : List ValType). at xs ts)
      (ap₂ (λ (x : Opened) (xs : List Opened). x ∷ xs) (sym are.1) (sym (none os are.3))) (sym e)

pub begins-at : (f : Typing) (result : Option ValType) (code : Code) → types_of result ≡ f.results → IsAt f (tokens_of code) 0 (first_walked result code)
begins-at f result code same = record {
  passed = [];
  split = refl;
  count = refl;
  whole = (refl, same, refl, refl);
  finished = λ none. absurd (cc);
  on = λ q same_q. subst (Describes nothing (first_walked result code).around) same_q (refl, ([], refl, refl, tt));
  back = λ q described. start_back result q described;
}

-- one place more
pub advances-at : (f : Typing) (tokens : List Token) (n : ℕ) (known : Known) (a : Around) (around : List Around) (code : Code) (w : Walked) →
    IsAt f tokens n (walked known (a ∷ around) code) → advanced_by f code known (a ∷ around) ≡ Some w → IsAt f tokens (n + 1) w
advances-at f tokens n known a around code w is e =
    let token : Token = token_here code a.opener a.other in
    let next = place-next f code a around known is.whole in
    let more = next.2 w e in
    let split : tokens ≡ (is.passed ++ token ∷ []) ++ tokens_left w =
    is.split ∙ ap (λ (ts : List Token). is.passed ++ ts) (next.1 ∙ ap (λ (ts : List Token). token ∷ ts) more.left) ∙ sym (append_assoc is.passed (token ∷ []) (tokens_left w)) in
    record {
      passed = is.passed ++ token ∷ [];
      split = split;
      count = omega (arith, is.count, length-append is.passed (token ∷ []));
      whole = more.whole;
      finished = more.finished;
      on = λ q leads.
          let s = leads-snoc f is.passed token at_start q leads in
          let d = is.on s.0 s.1 in
          let r = place-on f code a around known s.0.opened s.0.types q is.whole d.0 d.1 s.2 in
          subst (λ (v : Walked). Describes v.known v.around q) (same_Some r.0 w (sym r.1 ∙ e)) r.2;
      back = λ q described.
          let b = place-back f code a around known w q is.whole e described in
          snoc-leads f is.passed token at_start b.0 q (is.back b.0 b.1) b.2;
    }

-- some place is described
some_opened : (around : List Around) → (os : List Opened) × AreOpened around os
some_opened [] = ([], tt)
some_opened (a ∷ around) =
    let below = some_as a.below in
    let more = some_opened around in
    (opened_of a.opener a.result below.0 ∷ more.0, (below.0, refl, below.1, more.1))

pub some_place : (known : Known) (around : List Around) → (q : Place) × Describes known around q
some_place known around =
    let types = some_as known in
    let os = some_opened around in
    (at os.0 types.0, (types.1, os.1))

-- the first place where nothing is computed
pub refused-at : (f : Typing) (tokens : List Token) (n : ℕ) (known : Known) (a : Around) (around : List Around) (code : Code) →
    IsAt f tokens n (walked known (a ∷ around) code) → advanced_by f code known (a ∷ around) ≡ None → IsRefusedAt f tokens n
refused-at f tokens n known a around code is e =
    let token : Token = token_here code a.opener a.other in
    let next = place-next f code a around known is.whole in
    let split : tokens ≡ is.passed ++ token ∷ next.0 = is.split ∙ ap (λ (ts : List Token). is.passed ++ ts) next.1 in
    let before : take n tokens ≡ is.passed = ap₂ (λ (k : ℕ) (ts : List Token). take k ts) is.count split ∙ take-append_seam is.passed (token ∷ next.0) in
    let with_it : take (n + 1) tokens ≡ is.passed ++ token ∷ [] =
    ap₂ (λ (k : ℕ) (ts : List Token). take (k + 1) ts) is.count split ∙ take-append-add is.passed (token ∷ next.0) 1 in
    let some = some_place known (a ∷ around) in
    record {
      there = omega (arith, is.count, ap (λ (ts : List Token). length ts) split, length-append is.passed (token ∷ next.0));
      before = (some.0, subst (λ (ts : List Token). Leads f ts at_start some.0) (sym before) (is.back some.0 some.1));
      refused = λ typable.
          let s = leads-snoc f is.passed token at_start typable.0 (subst (λ (ts : List Token). Leads f ts at_start typable.0) with_it typable.1) in
          let d = is.on s.0 s.1 in
          let r = place-on f code a around known s.0.opened s.0.types typable.0 is.whole d.0 d.1 s.2 in
          none-some r.0 (sym e ∙ r.1);
    }

-- the end
pub typable-at : (f : Typing) (tokens : List Token) (n : ℕ) (w : Walked) → IsAt f tokens n w → w.around ≡ [] → IsTypable f tokens
typable-at f tokens n w is none =
    let nothing_left : tokens_left w ≡ [] = ap₂ (λ (code : Code) (around : List Around). tokens_before code (left_around around)) (is.finished none) none in
    let all : tokens ≡ is.passed = is.split ∙ ap (λ (ts : List Token). is.passed ++ ts) nothing_left ∙ append-nil is.passed in
    let some = some_place w.known w.around in
    (some.0, subst (λ (ts : List Token). Leads f ts at_start some.0) (sym all) (is.back some.0 some.1))

-- ---- the same of a walk, whatever is around
pub advanced-at : (f : Typing) (tokens : List Token) (n : ℕ) (known : Known) (around : List Around) (code : Code) (w : Walked) →
    IsAt f tokens n (walked known around code) → advanced_by f code known around ≡ Some w → IsAt f tokens (n + 1) w
advanced-at f tokens n known [] code w is e =
    absurd (none-some w (subst (λ (c : Code). advanced_by f c known [] ≡ Some w) (is.finished refl) e))
advanced-at f tokens n known (a ∷ around) code w is e = advances-at f tokens n known a around code w is e

pub fewer-at : (f : Typing) (tokens : List Token) (n : ℕ) (known : Known) (around : List Around) (code : Code) (w : Walked) →
    IsAt f tokens n (walked known around code) → advanced_by f code known around ≡ Some w → length (tokens_left w) < length (tokens_left (walked known around code))
fewer-at f tokens n known [] code w is e =
    absurd (none-some w (subst (λ (c : Code). advanced_by f c known [] ≡ Some w) (is.finished refl) e))
fewer-at f tokens n known (a ∷ around) code w is e =
    let next = place-next f code a around known is.whole in
    let more = next.2 w e in
    omega (arith, ap (λ (ts : List Token). length ts) next.1, ap (λ (ts : List Token). length ts) more.left)

pub refused-here : (f : Typing) (tokens : List Token) (n : ℕ) (known : Known) (around : List Around) (code : Code) → 0 < length around →
    IsAt f tokens n (walked known around code) → advanced_by f code known around ≡ None → IsRefusedAt f tokens n
refused-here f tokens n known [] code some is e = absurd (omega arith)
refused-here f tokens n known (a ∷ around) code some is e = refused-at f tokens n known a around code is e
