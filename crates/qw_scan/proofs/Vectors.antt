-- A vector read one thing at a time with none of them kept.
use Rattle.std.proofs.Common.{◌≡◌, ℕ, zero, suc, ◌+◌, ◌-◌, ◌<◌, ◌≤◌, List, [], ◌∷◌, ◌++◌, Result, Ok, Err, refl, sym, ap, ◌∙◌, append_assoc, arith}
use Rattle.std.proofs.lemmas.List.{append-nil}
use Rattle.qw_octet_grammar.specs.declared.fault.BinaryFault.{BinaryFault}
use Rattle.qw_octet_grammar.specs.Grammar.{Grammar}
use Rattle.qw_octet_grammar.specs.Numbers.{u32}
use Rattle.qw_octet_grammar.specs.Vectors.{counted, one_more, vector}
use Rattle.qw_octet_grammar.specs.Reading.{◌>>=◌, read}
use Rattle.qw_octet_grammar.proofs.GrammarLaws.{ok_is}
use Rattle.qw_scan.specs.Read.{mapped}

abbrev read_as : {A : Type 0} → List A → List ℕ → Result (List A × List ℕ) BinaryFault
read_as l mid = Ok (l, mid)

two-views : {A : Type 0} (f g h : List A → List A) → ((l : List A) → f l ≡ g (h l)) → (r : Result (List A × List ℕ) BinaryFault) → mapped f r ≡ mapped g (mapped h r)
two-views f g h same (Ok x) = ap (λ l. read_as l x.1) (same x.0)
two-views f g h same (Err fault) = refl

-- what a view was read as
unmapped : {A : Type 0} (x : A) (r : Result (List A × List ℕ) BinaryFault) (left : List A) (mid : List ℕ) → mapped (λ l. x ∷ l) r ≡ read_as left mid → (more : List A) × (left ≡ x ∷ more) × (r ≡ read_as more mid)
unmapped x (Ok y) left mid e =
    let q = ok_is (x ∷ y.0, y.1) (left, mid) e in
    (y.0, sym (ap (λ z. z.0) q), ap (λ (bs : List ℕ). read_as y.0 bs) (ap (λ z. z.1) q))
unmapped x (Err fault) left mid e = absurd cc

module _ {A : Type 0} (item : Grammar A) where
  abbrev Items : ℕ → List A → List ℕ → Result (List A × List ℕ) BinaryFault
  Items n before bytes = read (counted n (one_more item) before) bytes

  abbrev put_behind : List A → A × List ℕ → Result (List A × List ℕ) BinaryFault
  put_behind before y = Ok (before ++ y.0 ∷ [], y.1)

  -- those before stand before all
  pub shifted : (n : ℕ) (before : List A) (bytes : List ℕ) → Items n before bytes ≡ mapped (λ l. before ++ l) (Items n [] bytes)
  unfolding read counted
  shifted zero before bytes = ap (λ l. read_as l bytes) (sym (append-nil before))
  shifted (suc n) before bytes = by_first (read item bytes) (λ b rest. shifted n b rest)
    where
      by_first : (r : Result (A × List ℕ) BinaryFault) → ((b : List A) (rest : List ℕ) → Items n b rest ≡ mapped (λ l. b ++ l) (Items n [] rest)) →
          ((r >>= put_behind before) >>= λ y. Items n y.0 y.1) ≡ mapped (λ l. before ++ l) ((r >>= put_behind []) >>= λ y. Items n y.0 y.1)
      by_first (Err fault) later = refl
      by_first (Ok y) later =
          later (before ++ y.0 ∷ []) y.1
          ∙ two-views (λ l. (before ++ y.0 ∷ []) ++ l) (λ l. before ++ l) (λ l. y.0 ∷ l) (λ l. append_assoc before (y.0 ∷ []) l) (Items n [] y.1)
          ∙ ap (mapped (λ l. before ++ l)) (sym (later (y.0 ∷ []) y.1))

  shifted_to : (n : ℕ) (before : List A) (bytes : List ℕ) (left : List A) (mid : List ℕ) → Items n before bytes ≡ read_as left mid → mapped (λ l. before ++ l) (Items n [] bytes) ≡ read_as left mid
  shifted_to n before bytes left mid e = sym (shifted n before bytes) ∙ e

  items-first : (n : ℕ) (bytes : List ℕ) → Items (suc n) [] bytes ≡ ((read item bytes >>= put_behind []) >>= λ y. Items n y.0 y.1)
  unfolding read counted
  items-first n bytes = refl

  -- the first thing and what follows it, and the others
  abbrev pub Next : ℕ → (bytes : List ℕ) → (left : List A) → (mid : List ℕ) → Type 0
  Next n bytes left mid = (x : A) × (after : List ℕ) × (more : List A) × (read item bytes ≡ Ok (x, after)) × (read (counted n (one_more item) []) after ≡ Ok (more, mid)) × (left ≡ x ∷ more)

  pub first_item : (n : ℕ) (bytes : List ℕ) (left : List A) (mid : List ℕ) → read (counted (suc n) (one_more item) []) bytes ≡ Ok (left, mid) → Next n bytes left mid
  first_item n bytes left mid e = by_first (read item bytes) refl (sym (items-first n bytes) ∙ e)
    where
      by_first : (r : Result (A × List ℕ) BinaryFault) → read item bytes ≡ r → ((r >>= put_behind []) >>= λ y. Items n y.0 y.1) ≡ read_as left mid → Next n bytes left mid
      by_first (Ok y) reads e =
          let m = unmapped y.0 (Items n [] y.1) left mid (shifted_to n (y.0 ∷ []) y.1 left mid e) in
          (y.0, y.1, m.0, reads, m.2, m.1)
      by_first (Err fault) reads e = absurd cc

  pub next_item : (count i : ℕ) (bytes : List ℕ) (left : List A) (mid : List ℕ) → i < count → read (counted (count - i) (one_more item) []) bytes ≡ Ok (left, mid) → Next (count - (i + 1)) bytes left mid
  next_item count i bytes left mid lt e =
      let k : count - i ≡ suc (count - (i + 1)) = omega arith in
      first_item (count - (i + 1)) bytes left mid (ap (λ (n : ℕ). Items n [] bytes) (sym k) ∙ e)

  -- none is left
  none_left : (bytes : List ℕ) (left : List A) (mid : List ℕ) → Items 0 [] bytes ≡ read_as left mid → left ≡ []
  unfolding read counted
  none_left bytes left mid e = sym (ap (λ z. z.0) (ok_is ([], bytes) (left, mid) e))

  pub no_item : (count i : ℕ) (bytes : List ℕ) (left : List A) (mid : List ℕ) → count ≤ i → read (counted (count - i) (one_more item) []) bytes ≡ Ok (left, mid) → left ≡ []
  no_item count i bytes left mid le e =
      let k : count - i ≡ 0 = omega arith in
      none_left bytes left mid (ap (λ (n : ℕ). Items n [] bytes) (sym k) ∙ e)

  -- a vector is what its count says
  pub behind_count : (bytes : List ℕ) (count : ℕ) (mid : List ℕ) → read u32 bytes ≡ Ok (count, mid) → read (counted count (one_more item) []) mid ≡ read (vector item) bytes
  unfolding read
  behind_count bytes count mid e = sym (ap (λ r. r >>= λ y. Items y.0 [] y.1) e)
