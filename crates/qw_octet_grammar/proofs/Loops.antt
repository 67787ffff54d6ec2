-- Reading items one after the other, as a loop does.
use Rattle.std.proofs.Common.{◌≡◌, ℕ, zero, suc, ◌-◌, ◌+◌, ◌≤◌, ◌<◌, List, [], ◌∷◌, ◌++◌, length, get_or, take, drop, Result, Ok, Err, refl, sym, ap, ◌∙◌, arith}
use Rattle.std.proofs.Math.Seq.{take-length}
use Rattle.qw_octet_grammar.specs.declared.fault.BinaryFault.{BinaryFault}
use Rattle.qw_octet_grammar.specs.declared.fault.BinaryFault.TheVariants.{NoMemory, NotModule, OutOfProfile}
use Rattle.qw_octet_grammar.specs.Grammar.{Grammar, Next, goes_on, ends, items}
use Rattle.qw_octet_grammar.specs.Vectors.{counted, one_more}
use Rattle.qw_octet_grammar.specs.Reading.{◌>>=◌, Fails, read, chain, read_all}

-- a fault of a step is one of all that begins with it
pub fails_through : {A B : Type 0} (e : BinaryFault) (first : Result A BinaryFault) (next : A → Result B BinaryFault) (total : Result B BinaryFault) → Fails e first → (first >>= next) ≡ total → Fails e total
fails_through NoMemory first next total h so_far = tt
fails_through NotModule first next total h so_far = sym so_far ∙ ap (λ r. r >>= next) h
fails_through (OutOfProfile what) first next total h so_far = sym so_far ∙ ap (λ r. r >>= next) h

-- what follows the first octet, as a slice pattern cuts it
pub tail_of : (b : ℕ) (bytes : List ℕ) → take (length (b ∷ bytes) - 1) (drop 1 (b ∷ bytes)) ≡ bytes
tail_of b bytes = let k : length (b ∷ bytes) - 1 ≡ length bytes = omega arith in ap (λ n. take n bytes) k ∙ take-length bytes

-- ---- so many items

module _ {S : Type 0} (step : S → Grammar S) where
  one_counted : (n : ℕ) (s : S) (bytes : List ℕ) → read (counted (suc n) step s) bytes ≡ (read (step s) bytes >>= λ y. read (counted n step y.0) y.1)
  unfolding read counted
  one_counted n s bytes = refl

  next_counted : (count i : ℕ) (s : S) (bytes : List ℕ) (total : Result (S × List ℕ) BinaryFault) → i < count → read (counted (count - i) step s) bytes ≡ total
      → (read (step s) bytes >>= λ y. read (counted (count - (i + 1)) step y.0) y.1) ≡ total
  next_counted count i s bytes total lt so_far =
      let k : count - i ≡ suc (count - (i + 1)) = omega arith in
      sym (one_counted (count - (i + 1)) s bytes) ∙ sym (ap (λ n. read (counted n step s) bytes) k) ∙ so_far

  pub goes_on_counted : (count i : ℕ) (s : S) (bytes : List ℕ) (t : S) (rest : List ℕ) (total : Result (S × List ℕ) BinaryFault) → i < count → read (step s) bytes ≡ Ok (t, rest)
      → read (counted (count - i) step s) bytes ≡ total → read (counted (count - (i + 1)) step t) rest ≡ total
  goes_on_counted count i s bytes t rest total lt h so_far =
      sym (ap (λ r. r >>= λ y. read (counted (count - (i + 1)) step y.0) y.1) h) ∙ next_counted count i s bytes total lt so_far

  pub ends_counted : (e : BinaryFault) (count i : ℕ) (s : S) (bytes : List ℕ) (total : Result (S × List ℕ) BinaryFault) → i < count → Fails e (read (step s) bytes)
      → read (counted (count - i) step s) bytes ≡ total → Fails e total
  ends_counted e count i s bytes total lt h so_far =
      fails_through e (read (step s) bytes) (λ y. read (counted (count - (i + 1)) step y.0) y.1) total h (next_counted count i s bytes total lt so_far)

  pub done_counted : (count i : ℕ) (s : S) (bytes : List ℕ) (total : Result (S × List ℕ) BinaryFault) → count ≤ i → read (counted (count - i) step s) bytes ≡ total → total ≡ Ok (s, bytes)
  unfolding read counted
  done_counted count i s bytes total le so_far =
      let k : count - i ≡ 0 = omega arith in
      sym so_far ∙ ap (λ n. read (counted n step s) bytes) k

  pub begin_counted : (count : ℕ) (s : S) (bytes : List ℕ) → read (counted (count - 0) step s) bytes ≡ read (counted count step s) bytes
  begin_counted count s bytes = let k : count - 0 ≡ count = omega arith in ap (λ n. read (counted n step s) bytes) k

-- an item behind those before it
pub one_more_ok : {A : Type 0} (item : Grammar A) (before : List A) (bytes : List ℕ) (x : A) (rest : List ℕ) → read item bytes ≡ Ok (x, rest) → read (one_more item before) bytes ≡ Ok (before ++ x ∷ [], rest)
unfolding read
one_more_ok item before bytes x rest h = ap (λ r. r >>= λ y. Ok (before ++ y.0 ∷ [], y.1)) h

pub one_more_fails : {A : Type 0} (e : BinaryFault) (item : Grammar A) (before : List A) (bytes : List ℕ) → Fails e (read item bytes) → Fails e (read (one_more item before) bytes)
unfolding read
one_more_fails e item before bytes h = fails_through e (read item bytes) (λ y. Ok (before ++ y.0 ∷ [], y.1)) _ h refl

module _ {A : Type 0} (item : Grammar A) where
  pub goes_on_one_more : (count i : ℕ) (before : List A) (bytes : List ℕ) (x : A) (rest : List ℕ) (total : Result (List A × List ℕ) BinaryFault) → i < count → read item bytes ≡ Ok (x, rest)
      → read (counted (count - i) (one_more item) before) bytes ≡ total → read (counted (count - (i + 1)) (one_more item) (before ++ x ∷ [])) rest ≡ total
  goes_on_one_more count i before bytes x rest total lt h so_far =
      goes_on_counted (one_more item) count i before bytes (before ++ x ∷ []) rest total lt (one_more_ok item before bytes x rest h) so_far

  pub ends_one_more : (e : BinaryFault) (count i : ℕ) (before : List A) (bytes : List ℕ) (total : Result (List A × List ℕ) BinaryFault) → i < count → Fails e (read item bytes)
      → read (counted (count - i) (one_more item) before) bytes ≡ total → Fails e total
  ends_one_more e count i before bytes total lt h so_far = ends_counted (one_more item) e count i before bytes total lt (one_more_fails e item before bytes h) so_far

-- ---- items by a state

module _ {S A : Type 0} (p : S → ℕ → List ℕ → Result (Next S A × List ℕ) BinaryFault) where
  next_chain : (k i : ℕ) (s : S) (bytes : List ℕ) (total : Result (A × List ℕ) BinaryFault) → i < k → 1 ≤ length bytes → chain p (k - i) (goes_on s) bytes ≡ total
      → (p s (get_or bytes 0 0) (take (length bytes - 1) (drop 1 bytes)) >>= λ y. chain p (k - (i + 1)) y.0 y.1) ≡ total
  next_chain k i s [] total lt long so_far = let none : ⊥ = omega (arith, long) in absurd none
  next_chain k i s (b ∷ bytes) total lt long so_far =
      let e : k - i ≡ suc (k - (i + 1)) = omega arith in
      ap (λ w. p s b w >>= λ y. chain p (k - (i + 1)) y.0 y.1) (tail_of b bytes) ∙ sym (ap (λ n. chain p n (goes_on s) (b ∷ bytes)) e) ∙ so_far

  pub chain_more : (k i : ℕ) (s : S) (bytes : List ℕ) (r : Next S A) (rest : List ℕ) (total : Result (A × List ℕ) BinaryFault) → i < k → 1 ≤ length bytes
      → p s (get_or bytes 0 0) (take (length bytes - 1) (drop 1 bytes)) ≡ Ok (r, rest) → chain p (k - i) (goes_on s) bytes ≡ total → chain p (k - (i + 1)) r rest ≡ total
  chain_more k i s bytes r rest total lt long h so_far =
      sym (ap (λ q. q >>= λ y. chain p (k - (i + 1)) y.0 y.1) h) ∙ next_chain k i s bytes total lt long so_far

  pub chain_breaks : (e : BinaryFault) (k i : ℕ) (s : S) (bytes : List ℕ) (total : Result (A × List ℕ) BinaryFault) → i < k → 1 ≤ length bytes
      → Fails e (p s (get_or bytes 0 0) (take (length bytes - 1) (drop 1 bytes))) → chain p (k - i) (goes_on s) bytes ≡ total → Fails e total
  chain_breaks e k i s bytes total lt long h so_far =
      fails_through e (p s (get_or bytes 0 0) (take (length bytes - 1) (drop 1 bytes))) (λ y. chain p (k - (i + 1)) y.0 y.1) total h (next_chain k i s bytes total lt long so_far)

  pub chain_short : (n : ℕ) (s : S) (bytes : List ℕ) (total : Result (A × List ℕ) BinaryFault) → length bytes < 1 → chain p n (goes_on s) bytes ≡ total → total ≡ Err NotModule
  chain_short zero s [] total lt so_far = sym so_far
  chain_short (suc n) s [] total lt so_far = sym so_far
  chain_short n s (b ∷ bytes) total lt so_far = let none : ⊥ = omega (arith, lt) in absurd none

  pub chain_out : (k i : ℕ) (s : S) (bytes : List ℕ) (total : Result (A × List ℕ) BinaryFault) → k ≤ i → chain p (k - i) (goes_on s) bytes ≡ total → total ≡ Err NotModule
  chain_out k i s bytes total le so_far = let e : k - i ≡ 0 = omega arith in sym so_far ∙ ap (λ n. chain p n (goes_on s) bytes) e

  pub chain_done : (n : ℕ) (y : A) (bytes : List ℕ) (total : Result (A × List ℕ) BinaryFault) → chain p n (ends y) bytes ≡ total → total ≡ Ok (y, bytes)
  chain_done zero y bytes total so_far = sym so_far
  chain_done (suc n) y bytes total so_far = sym so_far

pub begin_items : {S A : Type 0} (s : S) (step : S → ℕ → Grammar (Next S A)) (bytes : List ℕ) → chain (λ s b. read (step s b)) (suc (length bytes) - 0) (goes_on s) bytes ≡ read (items s step) bytes
unfolding read
begin_items s step bytes = let k : suc (length bytes) - 0 ≡ suc (length bytes) = omega arith in ap (λ n. chain (λ s b. read (step s b)) n (goes_on s) bytes) k

-- ---- items to the end of the octets

module _ {S : Type 0} (step : S → ℕ → Grammar S) where
  next_all : (k i : ℕ) (s : S) (bytes : List ℕ) (total : Result S BinaryFault) → i < k → 1 ≤ length bytes → read_all step (k - i) s bytes ≡ total
      → (read (step s (get_or bytes 0 0)) (take (length bytes - 1) (drop 1 bytes)) >>= λ y. read_all step (k - (i + 1)) y.0 y.1) ≡ total
  next_all k i s [] total lt long so_far = let none : ⊥ = omega (arith, long) in absurd none
  next_all k i s (b ∷ bytes) total lt long so_far =
      let e : k - i ≡ suc (k - (i + 1)) = omega arith in
      ap (λ w. read (step s b) w >>= λ y. read_all step (k - (i + 1)) y.0 y.1) (tail_of b bytes) ∙ sym (ap (λ n. read_all step n s (b ∷ bytes)) e) ∙ so_far

  pub all_more : (k i : ℕ) (s : S) (bytes : List ℕ) (t : S) (rest : List ℕ) (total : Result S BinaryFault) → i < k → 1 ≤ length bytes
      → read (step s (get_or bytes 0 0)) (take (length bytes - 1) (drop 1 bytes)) ≡ Ok (t, rest) → read_all step (k - i) s bytes ≡ total → read_all step (k - (i + 1)) t rest ≡ total
  all_more k i s bytes t rest total lt long h so_far =
      sym (ap (λ q. q >>= λ y. read_all step (k - (i + 1)) y.0 y.1) h) ∙ next_all k i s bytes total lt long so_far

  pub all_break : (e : BinaryFault) (k i : ℕ) (s : S) (bytes : List ℕ) (total : Result S BinaryFault) → i < k → 1 ≤ length bytes
      → Fails e (read (step s (get_or bytes 0 0)) (take (length bytes - 1) (drop 1 bytes))) → read_all step (k - i) s bytes ≡ total → Fails e total
  all_break e k i s bytes total lt long h so_far =
      fails_through e (read (step s (get_or bytes 0 0)) (take (length bytes - 1) (drop 1 bytes))) (λ y. read_all step (k - (i + 1)) y.0 y.1) total h (next_all k i s bytes total lt long so_far)

  pub all_end : (n : ℕ) (s : S) (bytes : List ℕ) (total : Result S BinaryFault) → length bytes < 1 → read_all step n s bytes ≡ total → total ≡ Ok s
  all_end zero s [] total lt so_far = sym so_far
  all_end (suc n) s [] total lt so_far = sym so_far
  all_end n s (b ∷ bytes) total lt so_far = let none : ⊥ = omega (arith, lt) in absurd none

  pub all_out : (k i : ℕ) (s : S) (bytes : List ℕ) (total : Result S BinaryFault) → k ≤ i → 1 ≤ length bytes → read_all step (k - i) s bytes ≡ total → total ≡ Err NotModule
  all_out k i s [] total le long so_far = let none : ⊥ = omega (arith, long) in absurd none
  all_out k i s (b ∷ bytes) total le long so_far = let e : k - i ≡ 0 = omega arith in sym so_far ∙ ap (λ n. read_all step n s (b ∷ bytes)) e

  pub all_begin : (k : ℕ) (s : S) (bytes : List ℕ) → read_all step (k - 0) s bytes ≡ read_all step k s bytes
  all_begin k s bytes = let e : k - 0 ≡ k = omega arith in ap (λ n. read_all step n s bytes) e

-- what a loop over the items of a vector cites
pub ruleset vector_loop = (goes_on_one_more, ends_one_more, done_counted, begin_counted)
