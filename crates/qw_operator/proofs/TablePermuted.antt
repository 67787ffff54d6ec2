-- The entries of a table by its slots are those that were entered, in another order.
use Rattle.std.proofs.Common.{◌≡◌, ℕ, zero, suc, ◌+◌, ◌<◌, ◌≤◌, ◌==◌, Bool, true, false, cond, List, [], ◌∷◌, ◌++◌, take, refl, sym, ap, ap₂, subst, arith}
use Rattle.std.proofs.lemmas.Bool.{eq-eqb, eqb-true}
use Rattle.std.proofs.lemmas.List.Sorted.{IsPermutation-refl, IsPermutation-sym, IsPermutation-trans, IsPermutation-append, IsPermutation-append_right, IsPermutation-cons, IsPermutation-middle}
use Rattle.std.specs.List.Sorted.{IsPermutation}
use Rattle.qw_types.specs.declared.value.Val.{Val}
use Rattle.qw_low.specs.State.{Cells}
use Rattle.qw_feed.specs.Rows.{Row}
use Rattle.qw_table.specs.Joins.{keyed}
use Rattle.qw_table.specs.Tables.{IsTable, in_slot, values_of}
use Rattle.qw_table.proofs.JoinFeeds.{slot-low}
use Rattle.qw_operator.proofs.Stood.{all_entries, all_entries_are, entries_from}

module _ (slot : List Val → ℕ) where
  -- those of slots from one on, so many
  abbrev parts : List (List Val) → (a n : ℕ) → List (List Val)
  parts es a zero = []
  parts es a (suc n) = in_slot slot a es ++ parts es (suc a) n

  differs : (b : Bool) → b ≡ true → b ≡ false → ⊥
  differs true so isnt = cc
  differs false so isnt = cc

  taken : (e : List Val) (es : List (List Val)) (j : ℕ) (b : Bool) → (slot e == j) ≡ b → in_slot slot j (e ∷ es) ≡ cond b (e ∷ in_slot slot j es) (in_slot slot j es)
  taken e es j b is = ap (λ (t : Bool). cond t (e ∷ in_slot slot j es) (in_slot slot j es)) is

  is_false : (b : Bool) → (b ≡ true → ⊥) → b ≡ false
  is_false true isnt = absurd (isnt refl)
  is_false false isnt = refl

  -- an entry of a lower slot is in none of them
  lower : (e : List Val) (es : List (List Val)) (a n : ℕ) → slot e < a → parts (e ∷ es) a n ≡ parts es a n
  lower e es a zero less = refl
  lower e es a (suc n) less = ap₂ (λ (x y : List (List Val)). x ++ y) (taken e es a false (is_false (slot e == a) (λ so. let same : slot e ≡ a = eqb-true (slot e) a so in omega (arith, same, less)))) (lower e es (suc a) n (omega (arith, less)))

  -- one more entry is in one of them
  one_more : (e : List Val) (es : List (List Val)) (a n : ℕ) (b : Bool) → (slot e == a) ≡ b → a ≤ slot e → (a < slot e → IsPermutation (e ∷ parts es (suc a) n) (parts (e ∷ es) (suc a) n)) → IsPermutation (e ∷ parts es a (suc n)) (parts (e ∷ es) a (suc n))
  one_more e es a n true is low further =
      let same : slot e ≡ a = eqb-true (slot e) a is in
      let all : parts (e ∷ es) a (suc n) ≡ e ∷ parts es a (suc n) = ap₂ (λ (x y : List (List Val)). x ++ y) (taken e es a true is) (lower e es (suc a) n (omega (arith, same))) in
      subst (IsPermutation (e ∷ parts es a (suc n))) (sym all) (IsPermutation-refl (e ∷ parts es a (suc n)))
  one_more e es a n false is low further =
      let here : List (List Val) = in_slot slot a es in
      let other : slot e ≡ a → ⊥ = λ so. differs (slot e == a) (eq-eqb (slot e) a so) is in
      let all : parts (e ∷ es) a (suc n) ≡ here ++ parts (e ∷ es) (suc a) n = ap (λ (x : List (List Val)). x ++ parts (e ∷ es) (suc a) n) (taken e es a false is) in
      subst (IsPermutation (e ∷ parts es a (suc n))) (sym all)
      (IsPermutation-trans (e ∷ (here ++ parts es (suc a) n)) (here ++ e ∷ parts es (suc a) n) (here ++ parts (e ∷ es) (suc a) n)
      (IsPermutation-sym (here ++ e ∷ parts es (suc a) n) (e ∷ (here ++ parts es (suc a) n)) (IsPermutation-middle here e (parts es (suc a) n)))
      (IsPermutation-append_right here (e ∷ parts es (suc a) n) (parts (e ∷ es) (suc a) n) (further (omega (arith, low, other)))))

  in_parts : (e : List Val) (es : List (List Val)) (a n : ℕ) → a ≤ slot e → slot e < a + n → IsPermutation (e ∷ parts es a n) (parts (e ∷ es) a n)
  in_parts e es a zero low high = absurd (omega (arith, low, high))
  in_parts e es a (suc n) low high = one_more e es a n (slot e == a) refl low (λ less. in_parts e es (suc a) n (omega (arith, less)) (omega (arith, high)))

  parts_none : (a n : ℕ) → parts [] a n ≡ []
  parts_none a zero = refl
  parts_none a (suc n) = parts_none (suc a) n

  -- each entry is in one of them
  parted : (n : ℕ) → ((v : List Val) → slot v < n) → (es : List (List Val)) → IsPermutation es (parts es 0 n)
  parted n low [] = subst (IsPermutation []) (sym (parts_none 0 n)) (IsPermutation-refl [])
  parted n low (e ∷ es) =
      let below = low e in
      IsPermutation-trans (e ∷ es) (e ∷ parts es 0 n) (parts (e ∷ es) 0 n) (IsPermutation-cons e es (parts es 0 n) (parted n low es)) (in_parts e es 0 n (omega arith) (omega (arith, below)))

  chained : (chains : ℕ → List Row) (es : List (List Val)) (a n : ℕ) → ((j : ℕ) → j < a + n → IsPermutation (values_of (chains j)) (in_slot slot j es)) → IsPermutation (entries_from chains a n) (parts es a n)
  chained chains es a zero same = IsPermutation-refl []
  chained chains es a (suc n) same =
      IsPermutation-append (values_of (chains a)) (in_slot slot a es) (entries_from chains (suc a) n) (parts es (suc a) n) (same a (omega arith)) (chained chains es (suc a) n (λ j low. same j (omega (arith, low))))

  slots_permuted : (chains : ℕ → List Row) (es : List (List Val)) (n : ℕ) → ((v : List Val) → slot v < n) → ((j : ℕ) → j < n → IsPermutation (values_of (chains j)) (in_slot slot j es)) → IsPermutation es (entries_from chains 0 n)
  slots_permuted chains es n low same =
      IsPermutation-trans es (parts es 0 n) (entries_from chains 0 n) (parted n low es)
      (IsPermutation-sym (entries_from chains 0 n) (parts es 0 n) (chained chains es 0 n (λ j below. same j (omega (arith, below)))))

pub table_permuted : (Has : Cells → ℕ → ℕ → List Val → Type 0) (fields size k o front : ℕ) (chains : ℕ → List Row) (entries : List (List Val)) (c : Cells) (own : List ℕ) → IsTable Has (keyed fields) size k o front chains entries c own →
    IsPermutation entries (all_entries chains)
table_permuted Has fields size k o front chains entries c own table =
    subst (IsPermutation entries) (sym (all_entries_are chains)) (slots_permuted (keyed fields) chains entries 1024 (λ v. slot-low (take fields v)) table.same)
