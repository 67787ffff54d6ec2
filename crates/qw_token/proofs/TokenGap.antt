-- What follows the gap at the front of a text.
use Rattle.std.proofs.Common.{◌≡◌, ℕ, ◌<◌, ◌≤◌, Bool, true, false, cond, eqb, ◌&&◌, List, [], ◌∷◌, ◌++◌, length, Option, Some, None, refl, sym, subst, ◌∙◌, arith, inl, inr}
use Rattle.std.specs.Prelude.{IsTrue}
use Rattle.std.specs.List.{AllByRecursion}
use Rattle.std.proofs.lemmas.Bool.{and_parts, cases_Bool, eqb-true, false≢true}
use Rattle.std.proofs.lemmas.List.{length-append}
use Rattle.qw_token.specs.Token.{IsAfterGap, begins_comment, begins_with, is_comment_octet, is_separator}
use Rattle.qw_token.specs.Token as token
use Rattle.qw_token.specs.Inner.Lexer.{after_run, after_separator}
use Rattle.qw_token.proofs.TokenLemmas.{after_run_is, after_run-shorter}

pub AfterGap-shorter : (text rest : List ℕ) → IsAfterGap text rest → length rest ≤ length text
AfterGap-shorter text rest (token.no_more all plain none) = omega arith
AfterGap-shorter text rest (token.separator b more all is gap) = omega (arith, AfterGap-shorter more all gap)
AfterGap-shorter text rest (token.comment octets more all passes ends gap) = omega (arith, AfterGap-shorter more all gap, length-append octets more)

-- ---- one gap

-- the same as a function, which in a comment comes to its end first
after_gap : Bool → List ℕ → List ℕ
after_gap within [] = []
after_gap true (b ∷ bs) = cond (is_comment_octet b) (after_gap true bs) (after_gap false bs)
after_gap false (b ∷ bs) = cond (is_separator b) (after_gap false bs) (cond (begins_comment (b ∷ bs)) (after_gap true bs) (b ∷ bs))

line_feed_is : (b : ℕ) → is_comment_octet b ≡ false → b ≡ 10
line_feed_is b e =
    elim (cases_Bool (eqb b 10)) [
      | inl h ↦ eqb-true b 10 h
      | inr h ↦ let other : is_comment_octet b ≡ true = rw h refl in absurd (false≢true (sym e ∙ other))
    ]

after_comment : (octets text : List ℕ) → AllByRecursion (λ b. IsTrue (is_comment_octet b)) octets → begins_with is_comment_octet text ≡ false → after_gap true (octets ++ text) ≡ after_gap false text
unfolding after_gap
after_comment [] [] passes ends = refl
after_comment [] (b ∷ bs) passes ends = subst (λ c. after_gap true (c ∷ bs) ≡ after_gap false (c ∷ bs)) (sym (line_feed_is b ends)) refl
after_comment (b ∷ bs) text passes ends = rw passes.0 (after_comment bs text passes.1 ends)

after_no_gap : (rest : List ℕ) → begins_with is_separator rest ≡ false → begins_comment rest ≡ false → after_gap false rest ≡ rest
unfolding after_gap
after_no_gap [] plain none = refl
after_no_gap (b ∷ bs) plain none = rw (plain, none) refl

after_gap_is : (text rest : List ℕ) → IsAfterGap text rest → after_gap false text ≡ rest
unfolding after_gap
after_gap_is text rest (token.no_more all plain none) = after_no_gap all plain none
after_gap_is text rest (token.separator b more all is gap) = rw is (after_gap_is more all gap)
after_gap_is text rest (token.comment octets more all passes ends gap) = after_comment octets more passes ends ∙ after_gap_is more all gap

pub AfterGap-unique : (text r s : List ℕ) → IsAfterGap text r → IsAfterGap text s → r ≡ s
AfterGap-unique text r s p q = sym (after_gap_is text r p) ∙ after_gap_is text s q

-- ---- one separator after another

over_comment : (text rest : List ℕ) → IsAfterGap (after_run is_comment_octet text) rest → IsAfterGap (45 ∷ 45 ∷ text) rest
over_comment text rest gap =
    let run = after_run_is is_comment_octet text in
    let behind = after_run is_comment_octet text in
    subst (λ x. IsAfterGap (45 ∷ 45 ∷ x) rest) (sym run.parts) (token.comment run.front behind rest run.passes run.stops gap)

-- what the loop does at the front of a text
pub data Passes (text : List ℕ) : Option (List ℕ) → Type 0 where
  passes : (more : List ℕ) → length more < length text → ((rest : List ℕ) → IsAfterGap more rest → IsAfterGap text rest) → Passes text (Some more)
  stays : IsAfterGap text text → Passes text None

pub after_separator_is : (text : List ℕ) → Passes text (after_separator text)
after_separator_is [] = stays (token.no_more [] refl refl)
after_separator_is (b ∷ []) =
    elim (cases_Bool (is_separator b)) [
      | inl h ↦ rw h (passes [] (omega arith) (λ rest gap. token.separator b [] rest h gap))
      | inr h ↦ rw h (stays (token.no_more (b ∷ []) h (elim (cases_Bool (eqb b 45)) [ inl k ↦ rw k refl | inr k ↦ rw k refl ])))
    ]
after_separator_is (b ∷ c ∷ bs) =
    elim (cases_Bool ((eqb b 45) && (eqb c 45))) [
      | inl h ↦
          let two = and_parts (eqb b 45) (eqb c 45) h in
          let shorter = after_run-shorter is_comment_octet bs in
          rw h (passes (after_run is_comment_octet bs) (omega (arith, shorter)) (λ rest gap.
          rw (eqb-true b 45 two.0, eqb-true c 45 two.1) (over_comment bs rest gap)))
      | inr h ↦ elim (cases_Bool (is_separator b)) [
        | inl k ↦ rw (h, k) (passes (c ∷ bs) (omega arith) (λ rest gap. token.separator b (c ∷ bs) rest k gap))
        | inr k ↦ rw (h, k) (stays (token.no_more (b ∷ c ∷ bs) k h))
      ]
    ]

pub gap-goes_on : (text more rest : List ℕ) → Some more ≡ after_separator text → IsAfterGap more rest → IsAfterGap text rest
gap-goes_on text more rest e gap = told (subst (Passes text) (sym e) (after_separator_is text))
  where
    told : Passes text (Some more) → IsAfterGap text rest
    told (passes all shorter on) = on rest gap

pub gap-shorter : (text more : List ℕ) → Some more ≡ after_separator text → length more < length text
gap-shorter text more e = told (subst (Passes text) (sym e) (after_separator_is text))
  where
    told : Passes text (Some more) → length more < length text
    told (passes all shorter on) = shorter

pub gap-ends : (text : List ℕ) → None ≡ after_separator text → IsAfterGap text text
gap-ends text e = told (subst (Passes text) (sym e) (after_separator_is text))
  where
    told : Passes text None → IsAfterGap text text
    told (stays gap) = gap
