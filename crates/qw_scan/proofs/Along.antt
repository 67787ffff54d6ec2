-- A walk over octets stands where the tokens that it has read lead to; so it ends where the body is typable, and is refused at the first place
-- that is.
use Rattle.std.proofs.Common.{◌≡◌, ℕ, zero, suc, ◌+◌, ◌-◌, ◌<◌, ◌≤◌, Bool, true, false, List, [], ◌∷◌, ◌++◌, length, take, drop, get_or, Option, Some, None, Result, Ok, Err, refl, sym, ap, subst, ◌∙◌, append_assoc, arith, length-append}
use Rattle.std.proofs.lemmas.Option.{same_Some, none-some}
use Rattle.qw_octet_grammar.specs.declared.fault.BinaryFault.{BinaryFault}
use Rattle.qw_octet_grammar.specs.Grammar.{Next, goes_on, ends}
use Rattle.qw_octet_grammar.specs.Reading.{read}
use Rattle.qw_octet_grammar.proofs.GrammarLaws.{bind_ok, ok_is}
use Rattle.qw_octet_grammar.proofs.Loops.{tail_of, begin_items}
use Rattle.qw_module.specs.declared.instruction.ValType.{ValType}
use Rattle.qw_module.specs.declared.instruction.ValType.TheVariants.{I32}
use Rattle.qw_valid.specs.declared.walk.Opener.{Opener}
use Rattle.qw_valid.specs.declared.walk.Opener.TheVariants.{Block, Loop, Then, Else}
use Rattle.qw_module.specs.Syntax.{Code, done}
use Rattle.qw_module.specs.Typing.{types_of}
use Rattle.qw_module.specs.Places.{Token, plain, unreachable_here, block_begins, loop_begins, if_begins, else_begins, branches, branches_if, branches_by, returns, calls, Typing, IsTypable, IsRefusedAt}
use Rattle.qw_module.specs.Places.{ends as end_here}
use Rattle.qw_valid.specs.Inner.Checking.{Known, nothing, anything, popped, after_op, scope_at, after_br, after_br_if, after_br_table, after_return, after_calling, is_left, is_none, ended, closed_by, opened, goes, all_pushed, Around, Walked, walked}
use Rattle.qw_valid.proofs.KindFacts.{map_some, if_some}
use Rattle.qw_valid.specs.declared.operands.Refusal.{Refusal}
use Rattle.qw_valid.specs.declared.operands.Refusal.TheVariants.{IllTyped}
use Rattle.qw_scan.specs.Places.{Passed, none_passed, then_open, and_then, after_end, after_else, place, places}
use Rattle.qw_scan.specs.Inner.Tokens.{token, after_token}
use Rattle.qw_scan.specs.Inner.Answering.{Steps}
use Rattle.qw_scan.specs.Inner.Stepping.{with_other, at_else_of, stepped}
use Rattle.qw_scan.proofs.TokenSteps.{places_so_far, place_reads, one_token, places_chain, all_places}
use Rattle.qw_scan.proofs.Steps.{Stands, at_first, stands-first, stands-next, stands-refused, stands-typable}

-- ---- how many are around after a token

abbrev Counts : Next Passed (List Token) → List Around → Type 0
Counts (goes_on p) around = length around ≡ length p.turns + 1
Counts (ends found) around = around ≡ []

ended-around : (a : Around) (around : List Around) (known : Known) (w : Walked) → ended a around known ≡ Some w → around ≡ w.around
ended-around a around known w e =
    let next : Walked = walked (all_pushed (types_of a.result) a.below) around a.after in
    ap (λ (v : Walked). v.around) (same_Some next w (if_some (is_left (types_of a.result) known) (Some next) w e).1)

closed-around : (opener : Opener) (a : Around) (around : List Around) (known : Known) (w : Walked) → closed_by opener (with_other None a) around known ≡ Some w → around ≡ w.around
closed-around Then a around known w e = ended-around (with_other None a) around known w (if_some (is_none a.result) (ended (with_other None a) around known) w e).1
closed-around _ a around known w e = ended-around (with_other None a) around known w e

else-around : (opener : Opener) (a : Around) (around : List Around) (known : Known) (w : Walked) → at_else_of opener a around known ≡ Some w → length around + 1 ≡ length w.around
else-around Then a around known w e =
    let next : Walked = walked nothing (record { opener = Else; result = a.result; below = a.below; other = None; after = a.after } ∷ around) done in
    let long : length around + 1 ≡ length next.around = omega arith in
    long ∙ ap (λ (v : Walked). length v.around) (same_Some next w (if_some (is_left (types_of a.result) known) (Some next) w e).1)
else-around _ a around known w e = absurd (none-some w e)

goes-around : (around : List Around) (rest : Code) (r : Option Known) (w : Walked) → goes around rest r ≡ Some w → around ≡ w.around
goes-around around rest r w e = ap (λ (v : Walked). v.around) (map_some (λ k. walked k around rest) r w e).2

abbrev going : Passed → Result (Next Passed (List Token)) BinaryFault
going q = Ok (goes_on q)

abbrev leading : Next Passed (List Token) → Result (Next Passed (List Token)) BinaryFault
leading next = Ok next

module _ (f : Typing) (p : Passed) (known : Known) (a : Around) (around : List Around) (w : Walked) (long : length (a ∷ around) ≡ length p.turns + 1) where
  at-end : (turns : List Bool) → length turns ≡ length p.turns → around ≡ w.around → Counts (after_end p turns) w.around
  at-end [] same is = sym is ∙ none around (omega (arith, long, same))
    where
      none : (around : List Around) → length around ≡ 0 → around ≡ []
      none [] e = refl
      none (b ∷ bs) e = absurd (omega (arith, e))
  at-end (turn ∷ turns) same is = omega (arith, long, same, ap (λ (bs : List Around). length bs) is)

  at-else : (turns : List Bool) (next : Next Passed (List Token)) → length turns ≡ length p.turns → after_else p turns ≡ Ok next → length around + 1 ≡ length w.around → Counts next w.around
  at-else [] next same e is = absurd cc
  at-else (false ∷ turns) next same e is = absurd cc
  at-else (true ∷ turns) next same e is =
      let count : length w.around ≡ length (false ∷ turns) + 1 = omega (arith, long, same, is) in
      subst (λ (n : Next Passed (List Token)). Counts n w.around) (ok_is (goes_on (then_open p else_begins (false ∷ turns))) next e) count

  -- a place that goes on
  on-count : (q : Passed) (next : Next Passed (List Token)) → going q ≡ leading next → length w.around ≡ length q.turns + 1 → Counts next w.around
  on-count q next e count = subst (λ (n : Next Passed (List Token)). Counts n w.around) (ok_is (goes_on q) next e) count

  kept : (q : Passed) (next : Next Passed (List Token)) → going q ≡ leading next → length q.turns ≡ length p.turns → with_other None a ∷ around ≡ w.around → Counts next w.around
  kept q next e same is = on-count q next e (omega (arith, long, same, ap (λ (bs : List Around). length bs) is))

  more : (q : Passed) (next : Next Passed (List Token)) (v : Walked) → going q ≡ leading next → length q.turns ≡ length p.turns + 1 → length v.around ≡ length around + 2 → v ≡ w → Counts next w.around
  more q next v e same count is = on-count q next e (omega (arith, long, same, count, ap (λ (u : Walked). length u.around) is))

  counts-next : (t : Token) (next : Next Passed (List Token)) → stepped f t known (a ∷ around) ≡ Some w → after_token p t ≡ Ok next → Counts next w.around
  counts-next end_here next e leads =
      subst (λ (n : Next Passed (List Token)). Counts n w.around) (ok_is (after_end p p.turns) next leads) (at-end p.turns refl (closed-around a.opener a around known w e))
  counts-next else_begins next e leads = at-else p.turns next refl leads (else-around a.opener a around known w e)
  counts-next (block_begins result) next e leads =
      let v : Walked = opened Block result None done (with_other None a ∷ around) done known in
      more (then_open p (block_begins result) (false ∷ p.turns)) next v leads (omega arith) (omega arith) (same_Some v w e)
  counts-next (loop_begins result) next e leads =
      let v : Walked = opened Loop result None done (with_other None a ∷ around) done known in
      more (then_open p (loop_begins result) (false ∷ p.turns)) next v leads (omega arith) (omega arith) (same_Some v w e)
  counts-next (if_begins result) next e leads =
      let m = map_some (opened Then result None done (with_other None a ∷ around) done) (popped I32 known) w e in
      more (then_open p (if_begins result) (true ∷ p.turns)) next (opened Then result None done (with_other None a ∷ around) done m.0) leads (omega arith) (omega arith) m.2
  counts-next (plain o) next e leads = kept (and_then p (plain o)) next leads refl (goes-around (with_other None a ∷ around) done (after_op (scope_at f (with_other None a ∷ around)) o known) w e)
  counts-next unreachable_here next e leads = kept (and_then p unreachable_here) next leads refl (ap (λ (v : Walked). v.around) (same_Some (walked anything (with_other None a ∷ around) done) w e))
  counts-next (branches label) next e leads = kept (and_then p (branches label)) next leads refl (goes-around (with_other None a ∷ around) done (after_br (scope_at f (with_other None a ∷ around)) label known) w e)
  counts-next (branches_if label) next e leads = kept (and_then p (branches_if label)) next leads refl (goes-around (with_other None a ∷ around) done (after_br_if (scope_at f (with_other None a ∷ around)) label known) w e)
  counts-next (branches_by labels default) next e leads =
      kept (and_then p (branches_by labels default)) next leads refl (goes-around (with_other None a ∷ around) done (after_br_table (scope_at f (with_other None a ∷ around)) labels default known) w e)
  counts-next returns next e leads = kept (and_then p returns) next leads refl (goes-around (with_other None a ∷ around) done (after_return (scope_at f (with_other None a ∷ around)) known) w e)
  counts-next (calls index) next e leads = kept (and_then p (calls index)) next leads refl (goes-around (with_other None a ∷ around) done (after_calling (scope_at f (with_other None a ∷ around)) index known) w e)

-- ---- along the octets

abbrev pub Along : Typing → ℕ → Known → List Around → Next Passed (List Token) → Type 0
Along f at known around (goes_on p) = (length around ≡ length p.turns + 1) × (at ≡ length p.places) × Stands f p.places known around
Along f at known around (ends found) = (around ≡ []) × Stands f found known around

-- after so many tokens of at most k, these octets are left, and these tokens are found in the end
pub record IsAlong (f : Typing) (found : List Token) (behind : List ℕ) (k at : ℕ) (known : Known) (around : List Around) (rest : List ℕ) : Type 0 where
  pub next : Next Passed (List Token)
  pub left : places_chain (k - at) next rest ≡ Ok (found, behind)
  pub along : Along f at known around next

pub along_first : (f : Typing) (result : Option ValType) (octets : List ℕ) (found : List Token) (behind : List ℕ) → types_of result ≡ f.results → read places octets ≡ Ok (found, behind) →
    IsAlong f found behind (suc (length octets)) 0 nothing (at_first result) octets
along_first f result octets found behind same e = record {
  next = goes_on none_passed;
  left = begin_items none_passed place octets ∙ e;
  along = (omega arith, refl, stands-first f result same);
}

-- the token that stands here
record IsHere (f : Typing) (found : List Token) (behind : List ℕ) (fewer at : ℕ) (known : Known) (around : List Around) (code : ℕ) (bytes : List ℕ) : Type 0 where
  pub p : Passed
  pub t : Token
  pub next : Next Passed (List Token)
  pub after : List ℕ
  pub reads : read (token code) bytes ≡ Ok (t, after)
  pub leads : after_token p t ≡ Ok next
  pub left : places_chain fewer next after ≡ Ok (found, behind)
  pub long : length around ≡ length p.turns + 1
  pub place : at ≡ length p.places
  pub stands : Stands f p.places known around

here : (f : Typing) (found : List Token) (behind : List ℕ) (k at : ℕ) (known : Known) (a : Around) (around : List Around) (code : ℕ) (bytes : List ℕ) → at < k →
    IsAlong f found behind k at known (a ∷ around) (code ∷ bytes) → IsHere f found behind (k - (at + 1)) at known (a ∷ around) code bytes
here f found behind k at known a around code bytes lt is = by_next is.next is.left is.along
  where
    by_next : (next : Next Passed (List Token)) → places_chain (k - at) next (code ∷ bytes) ≡ Ok (found, behind) → Along f at known (a ∷ around) next → IsHere f found behind (k - (at + 1)) at known (a ∷ around) code bytes
    by_next (ends tokens) left along = absurd (not_none along.0)
      where
        not_none : a ∷ around ≡ [] → ⊥
        not_none e = cc
    by_next (goes_on p) left along =
        let n : k - at ≡ suc (k - (at + 1)) = omega (arith, lt) in
        let whole : places_chain (suc (k - (at + 1))) (goes_on p) (code ∷ bytes) ≡ Ok (found, behind) = sym (ap (λ (m : ℕ). places_chain m (goes_on p) (code ∷ bytes)) n) ∙ left in
        let b = bind_ok (read (place p code) bytes) (λ y. places_chain (k - (at + 1)) y.0 y.1) (found, behind) whole in
        let r = place_reads p code bytes b.0.0 b.0.1 b.1 in
        record { p = p; t = r.0; next = b.0.0; after = b.0.1; reads = r.1; leads = r.2; left = b.2; long = along.0; place = along.1; stands = along.2 }

along-step : (f : Typing) (found : List Token) (behind : List ℕ) (k at : ℕ) (known : Known) (a : Around) (around : List Around) (code : ℕ) (bytes : List ℕ) (w : Walked) →
    (h : IsHere f found behind (k - (at + 1)) at known (a ∷ around) code bytes) → stepped f h.t known (a ∷ around) ≡ Some w → IsAlong f found behind k (at + 1) w.known w.around h.after
along-step f found behind k at known a around code bytes w h e = record {
  next = h.next;
  left = h.left;
  along = by_next h.next (one_token h.p h.t h.next h.leads) (counts-next f h.p known a around w h.long h.t h.next e h.leads);
}
  where
    stands : Stands f (h.p.places ++ h.t ∷ []) w.known w.around
    stands = stands-next f h.p.places h.t known (a ∷ around) w h.stands e

    by_next : (next : Next Passed (List Token)) → places_so_far next ≡ h.p.places ++ h.t ∷ [] → Counts next w.around → Along f (at + 1) w.known w.around next
    by_next (ends tokens) same count = (count, subst (λ (ts : List Token). Stands f ts w.known w.around) (sym same) stands)
    by_next (goes_on q) same count =
        (count, omega (arith, h.place, ap (λ (ts : List Token). length ts) same, length-append h.p.places (h.t ∷ [])), subst (λ (ts : List Token). Stands f ts w.known w.around) (sym same) stands)

refused-step : (f : Typing) (found : List Token) (behind : List ℕ) (fewer at : ℕ) (known : Known) (a : Around) (around : List Around) (code : ℕ) (bytes : List ℕ) →
    (h : IsHere f found behind fewer at known (a ∷ around) code bytes) → stepped f h.t known (a ∷ around) ≡ None → IsRefusedAt f found at
refused-step f found behind fewer at known a around code bytes h e =
    let m = all_places fewer h.next h.after found behind h.left in
    let whole : h.p.places ++ h.t ∷ m.0 ≡ found =
    sym (m.1 ∙ ap (λ (ts : List Token). ts ++ m.0) (one_token h.p h.t h.next h.leads) ∙ append_assoc h.p.places (h.t ∷ []) m.0) in
    subst (λ (ts : List Token). IsRefusedAt f ts at) whole
    (subst (λ (n : ℕ). IsRefusedAt f (h.p.places ++ h.t ∷ m.0) n) (sym h.place) (stands-refused f h.p.places h.t m.0 known a around h.stands e))

pub along_done : (f : Typing) (found : List Token) (behind : List ℕ) (k at : ℕ) (known : Known) (rest : List ℕ) → IsAlong f found behind k at known [] rest → IsTypable f found
along_done f found behind k at known rest is = by_next (k - at) is.next is.left is.along
  where
    by_next : (n : ℕ) (next : Next Passed (List Token)) → places_chain n next rest ≡ Ok (found, behind) → Along f at known [] next → IsTypable f found
    by_next n (goes_on p) left along = absurd (omega (arith, along.0))
    by_next zero (ends tokens) left along = subst (λ (ts : List Token). IsTypable f ts) (ap (λ z. z.0) (ok_is (tokens, rest) (found, behind) left)) (stands-typable f tokens known [] along.1)
    by_next (suc n) (ends tokens) left along = subst (λ (ts : List Token). IsTypable f ts) (ap (λ z. z.0) (ok_is (tokens, rest) (found, behind) left)) (stands-typable f tokens known [] along.1)

-- ---- one step of the walk, by its answer

abbrev Answers : {X : Type 0} → Typing → Known → List Around → (X → Walked × List ℕ) → Result X Refusal → (code : ℕ) → (bytes : List ℕ) → Type 0
Answers f known around view result code bytes = Steps (λ t. stepped f t known around) view result (read (token code) bytes)

module _ (f : Typing) (found : List Token) (behind : List ℕ) (k at : ℕ) (known : Known) where
  pub along_more : {X : Type 0} (view : X → Walked × List ℕ) (x : X) (around : List Around) (rest : List ℕ) → 0 < length around → at < k → 1 ≤ length rest → IsAlong f found behind k at known around rest →
      Answers f known around view (Ok x) (get_or rest 0 0) (take (length rest - 1) (drop 1 rest)) → IsAlong f found behind k (at + 1) (view x).0.known (view x).0.around (view x).1
  along_more view x [] rest some lt long is answer = absurd (omega (arith, some))
  along_more view x (a ∷ around) [] some lt long is answer = absurd (omega (arith, long))
  along_more view x (a ∷ around) (b ∷ bytes) some lt long is answer =
      let h = here f found behind k at known a around b bytes lt is in
      let read_here = subst (λ (bs : List ℕ). Answers f known (a ∷ around) view (Ok x) b bs) (tail_of b bytes) answer in
      let told = subst (λ (r : Result (Token × List ℕ) BinaryFault). Steps (λ t. stepped f t known (a ∷ around)) view (Ok x) r) h.reads read_here in
      let m = map_some (λ (w : Walked). (w, h.after)) (stepped f h.t known (a ∷ around)) (view x) told in
      subst (λ (z : Walked × List ℕ). IsAlong f found behind k (at + 1) z.0.known z.0.around z.1) m.2 (along-step f found behind k at known a around b bytes m.0 h m.1)

  pub along_refused : {X : Type 0} (view : X → Walked × List ℕ) (around : List Around) (rest : List ℕ) → 0 < length around → at < k → 1 ≤ length rest → IsAlong f found behind k at known around rest →
      Answers f known around view (Err IllTyped) (get_or rest 0 0) (take (length rest - 1) (drop 1 rest)) → IsRefusedAt f found at
  along_refused view [] rest some lt long is answer = absurd (omega (arith, some))
  along_refused view (a ∷ around) [] some lt long is answer = absurd (omega (arith, long))
  along_refused view (a ∷ around) (b ∷ bytes) some lt long is answer =
      let h = here f found behind k at known a around b bytes lt is in
      let read_here = subst (λ (bs : List ℕ). Answers f known (a ∷ around) view (Err IllTyped) b bs) (tail_of b bytes) answer in
      refused-step f found behind (k - (at + 1)) at known a around b bytes h
      (subst (λ (r : Result (Token × List ℕ) BinaryFault). Steps (λ t. stepped f t known (a ∷ around)) view (Err IllTyped) r) h.reads read_here)
