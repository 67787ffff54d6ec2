-- Where the check of a body stands after so many of its places.
use Rattle.std.proofs.Common.{◌≡◌, ℕ, suc, ◌+◌, ◌-◌, ◌<◌, ◌≤◌, List, [], ◌∷◌, length, reverse, get_or, take, drop, Option, Some, Result, Ok, Err, refl, ap, subst, ◌∙◌, arith}
use Rattle.std.proofs.lemmas.List.{length-reverse}
use Rattle.std.proofs.lemmas.Option.{same_Some}
use Rattle.qw_octet_grammar.specs.declared.fault.BinaryFault.{BinaryFault}
use Rattle.qw_octet_grammar.specs.Reading.{read}
use Rattle.qw_module.specs.declared.instruction.ValType.{ValType}
use Rattle.qw_module.specs.Syntax.{Sequences, code_of, done}
use Rattle.qw_module.specs.Places.{Token, tokens_of, IsTypable, IsRefusedAt}
use Rattle.qw_binary.specs.Instructions.{expression}
use Rattle.qw_valid.specs.declared.operands.Refusal.{Refusal}
use Rattle.qw_valid.specs.declared.operands.Refusal.TheVariants.{IllTyped}
use Rattle.qw_valid.specs.Inner.Checking.{nothing, Around, Walked, walked, first_walked}
use Rattle.qw_scan.specs.declared.body.Frame.{Frame}
use Rattle.qw_scan.specs.declared.body.Walk.{Walk}
use Rattle.qw_scan.specs.declared.scope.Scope.{Scope}
use Rattle.qw_scan.specs.Places.{places}
use Rattle.qw_scan.specs.Read.{mapped}
use Rattle.qw_scan.specs.Inner.Answering.{Steps}
use Rattle.qw_scan.specs.Inner.Stepping.{stepped, walks}
use Rattle.qw_scan.specs.Inner.Tables.{typing_of}
use Rattle.qw_scan.specs.Inner.Tokens.{token}
use Rattle.qw_scan.specs.Inner.Walking.{rounds, around_in, walked_of}
use Rattle.qw_scan.proofs.Along.{IsAlong, along_first, along_more, along_refused, along_done}
use Rattle.qw_scan.proofs.Here.{walks-same, steps_same}
use Rattle.qw_scan.proofs.SamePlaces.{tokens_in, same_places}

-- the walk is after so many places of the body, and these octets are left
pub record IsOn (scope : Scope) (octets : List ℕ) (at : ℕ) (w : Walk) (rest : List ℕ) : Type 0 where
  pub scoped : w.scope ≡ scope
  pub along : (found : List Token) (behind : List ℕ) → read places octets ≡ Ok (found, behind) →
      IsAlong (typing_of scope) found behind (suc (length octets)) at w.stack.known (around_in w) rest

rounds_length : (kinds : List (Option ValType)) (frames : List Frame) → length (rounds kinds frames) ≡ length frames
rounds_length kinds [] = refl
rounds_length kinds (frame ∷ frames) = omega (arith, rounds_length (take frame.height kinds) frames)

no_rounds : (kinds : List (Option ValType)) (frames : List Frame) → length frames ≡ 0 → rounds kinds frames ≡ []
no_rounds kinds [] none = refl
no_rounds kinds (frame ∷ frames) none = absurd (omega (arith, none))

-- the places of a body that is read
placed : (octets : List ℕ) (body : Sequences) (behind : List ℕ) → read expression octets ≡ Ok (body, behind) → read places octets ≡ Ok (tokens_of (code_of body), behind)
placed octets body behind e = same_places octets ∙ ap (mapped tokens_in) e

pub on_first : (scope : Scope) (octets : List ℕ) (w : Walk) → Some (walked nothing (first_walked scope.result done).around done) ≡ Some (walked_of w) → w.scope ≡ scope → IsOn scope octets 0 w octets
on_first scope octets w first scoped = record {
  scoped = scoped;
  along = λ found behind e.
      subst (λ (v : Walked). IsAlong (typing_of scope) found behind (suc (length octets)) 0 v.known v.around octets) (same_Some _ _ first) (along_first (typing_of scope) scope.result octets found behind refl e);
}

module _ (scope : Scope) (octets : List ℕ) (at : ℕ) (w : Walk) (rest : List ℕ) (on : IsOn scope octets at w rest) where
  pub on_done : length w.frames.items ≡ 0 → (body : Sequences) (behind : List ℕ) → read expression octets ≡ Ok (body, behind) → IsTypable (typing_of scope) (tokens_of (code_of body))
  on_done none body behind e =
      let empty = no_rounds w.stack.below (reverse w.frames.items) (omega (arith, length-reverse w.frames.items, none)) in
      along_done (typing_of scope) (tokens_of (code_of body)) behind (suc (length octets)) at w.stack.known rest
      (subst (λ (around : List Around). IsAlong (typing_of scope) (tokens_of (code_of body)) behind (suc (length octets)) at w.stack.known around rest) empty (on.along (tokens_of (code_of body)) behind (placed octets body behind e)))

  module _ (some : 0 < length w.frames.items) (below : at < suc (length octets)) (long : 1 ≤ length rest) where
    some_around : 0 < length (around_in w)
    some_around = omega (arith, rounds_length w.stack.below (reverse w.frames.items), length-reverse w.frames.items, some)

    stepping : {X : Type 0} (view : X → Walked × List ℕ) (result : Result X Refusal) (r : Result (Token × List ℕ) BinaryFault) → Steps (λ t. walks (typing_of w.scope) t w.stack.known (around_in w)) view result r →
        Steps (λ t. stepped (typing_of scope) t w.stack.known (around_in w)) view result r
    stepping view result r answer =
        steps_same (λ t. walks (typing_of scope) t w.stack.known (around_in w)) (λ t. stepped (typing_of scope) t w.stack.known (around_in w)) view result r
        (λ t. walks-same (typing_of scope) t w.stack.known w.stack.below (reverse w.frames.items) (omega (arith, length-reverse w.frames.items, some)))
        (subst (λ (s : Scope). Steps (λ t. walks (typing_of s) t w.stack.known (around_in w)) view result r) on.scoped answer)

    pub on_more : {X : Type 0} (view : X → Walked × List ℕ) (x : X) (new : Walk) (left : List ℕ) →
        Steps (λ t. walks (typing_of w.scope) t w.stack.known (around_in w)) view (Ok x) (read (token (get_or rest 0 0)) (take (length rest - 1) (drop 1 rest))) → view x ≡ (walked_of new, left) → new.scope ≡ w.scope → IsOn scope octets (at + 1) new left
    on_more view x new left answer same scoped = record {
      scoped = scoped ∙ on.scoped;
      along = λ found behind e.
          subst (λ (z : Walked × List ℕ). IsAlong (typing_of scope) found behind (suc (length octets)) (at + 1) z.0.known z.0.around z.1) same
          (along_more (typing_of scope) found behind (suc (length octets)) at w.stack.known view x (around_in w) rest some_around below long (on.along found behind e) (stepping view (Ok x) _ answer));
    }

    pub on_refused : {X : Type 0} (view : X → Walked × List ℕ) →
        Steps (λ t. walks (typing_of w.scope) t w.stack.known (around_in w)) view (Err IllTyped) (read (token (get_or rest 0 0)) (take (length rest - 1) (drop 1 rest))) →
        (body : Sequences) (behind : List ℕ) → read expression octets ≡ Ok (body, behind) → IsRefusedAt (typing_of scope) (tokens_of (code_of body)) at
    on_refused view answer body behind e =
        along_refused (typing_of scope) (tokens_of (code_of body)) behind (suc (length octets)) at w.stack.known view (around_in w) rest some_around below long
        (on.along (tokens_of (code_of body)) behind (placed octets body behind e)) (stepping view (Err IllTyped) _ answer)
