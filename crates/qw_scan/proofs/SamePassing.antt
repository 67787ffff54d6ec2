-- Things that are passed over end where they end when they are read, and are stuck where they are stuck.
use Rattle.std.proofs.Common.{◌≡◌, ℕ, zero, suc, List, [], ◌∷◌, ◌++◌, Result, Ok, Err, refl, ap, ◌∙◌}
use Rattle.qw_octet_grammar.specs.declared.fault.BinaryFault.{BinaryFault}
use Rattle.qw_octet_grammar.specs.Grammar.{Grammar, is, after}
use Rattle.qw_octet_grammar.specs.Reading.{◌>>=◌, Fails, read}
use Rattle.qw_octet_grammar.specs.Numbers.{u32}
use Rattle.qw_octet_grammar.specs.Vectors.{counted, one_more, vector}
use Rattle.qw_octet_grammar.proofs.Loops.{fails_through}
use Rattle.qw_scan.specs.Read.{mapped, passed_over}
use Rattle.qw_scan.specs.Inner.Passing.{over, all_over, vector_over}
use Rattle.qw_scan.proofs.SamePlaces.{by-is, by-after, by-both}

-- ---- one thing

pub over_ok : {A : Type 0} (g : Grammar A) (bytes : List ℕ) (x : A) (rest : List ℕ) → read g bytes ≡ Ok (x, rest) → read (over g) bytes ≡ Ok (tt, rest)
unfolding read
over_ok g bytes x rest h = ap (λ r. r >>= λ y. Ok (tt, y.1)) h

pub over_fails : {A : Type 0} (e : BinaryFault) (g : Grammar A) (bytes : List ℕ) → Fails e (read g bytes) → Fails e (read (over g) bytes)
unfolding read
over_fails e g bytes h = fails_through e (read g bytes) (λ y. Ok (tt, y.1)) _ h refl

-- the same is left, whatever is made of what is read
pub made-over : {A B : Type 0} (g : Grammar A) (make : A → B) (bytes : List ℕ) → mapped passed_over (read g bytes) ≡ mapped passed_over (read (after g (λ x. is (make x))) bytes)
unfolding read
made-over {A} {B} g make bytes = of_result (read g bytes)
  where
    of_result : (r : Result (A × List ℕ) BinaryFault) → mapped passed_over r ≡ mapped passed_over (r >>= λ y. Ok (make y.0, y.1))
    of_result (Ok y) = refl
    of_result (Err fault) = refl

pub over_same : {A : Type 0} (g : Grammar A) (bytes : List ℕ) → read (over g) bytes ≡ mapped passed_over (read g bytes)
unfolding read
over_same {A} g bytes = of_result (read g bytes)
  where
    of_result : (r : Result (A × List ℕ) BinaryFault) → (r >>= λ y. Ok (tt, y.1)) ≡ mapped passed_over r
    of_result (Ok y) = refl
    of_result (Err fault) = refl

-- ---- so many, and vectors

-- each item is passed over, whatever stands before it
module _ {A : Type 0} (step : List A → Grammar (List A)) (item : Grammar (Unit {0})) (each : (before : List A) (bytes : List ℕ) → read item bytes ≡ mapped passed_over (read (step before) bytes)) where
  pub all_steps_over : (n : ℕ) (before : List A) (bytes : List ℕ) → read (all_over n item) bytes ≡ mapped passed_over (read (counted n step before) bytes)
  unfolding counted
  all_steps_over zero before bytes = by-is passed_over bytes before tt refl
  all_steps_over (suc n) before bytes =
      by-both passed_over bytes (step before) item passed_over (counted n step) (counted n (λ (u : Unit {0}). item)) (each before bytes) (λ y rest. all_steps_over n y rest)

module _ {A : Type 0} (g : Grammar A) (item : Grammar (Unit {0})) (same : (bytes : List ℕ) → read item bytes ≡ mapped passed_over (read g bytes)) where
  pub one_more_over : (before : List A) (bytes : List ℕ) → read item bytes ≡ mapped passed_over (read (one_more g before) bytes)
  one_more_over before bytes = same bytes ∙ made-over g (λ x. before ++ x ∷ []) bytes

  pub all_same : (n : ℕ) (before : List A) (bytes : List ℕ) → read (all_over n item) bytes ≡ mapped passed_over (read (counted n (one_more g) before) bytes)
  all_same n before bytes = all_steps_over (one_more g) item one_more_over n before bytes

  pub vector_same : (bytes : List ℕ) → read (vector_over item) bytes ≡ mapped passed_over (read (vector g) bytes)
  vector_same bytes = by-after passed_over bytes u32 _ _ (λ n rest r. all_same n [] rest)
