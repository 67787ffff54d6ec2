-- The members of groups, and keys each once, of one row more.
use Rattle.std.specs.Prelude.{cond}
use Rattle.std.proofs.Common.{◌≡◌, ℕ, ◌+◌, ◌≤◌, ◌⊎◌, inl, inr, not, Bool, true, false, List, [], ◌∷◌, ◌++◌, length, length-append, refl, sym, ap, ◌∙◌, subst, ⊎_elim, arith}
use Rattle.std.specs.List.{filter}
use Rattle.std.proofs.lemmas.Bool.{cases_Bool, false≢true}
use Rattle.qw_types.specs.ValueOrder.{is_same_row}
use Rattle.qw_types.specs.declared.value.Val.{Val}
use Rattle.qw_grouped.specs.Groups.{key_of, keys, members}
use Rattle.qw_types.proofs.ValueOrderLemmas as ordered
use Rattle.qw_group.specs.Groups.{In}
use Rattle.qw_group.proofs.TakenFacts.{filter-more, filter-less}

-- ---- keys that aren't distinct are equal
pub is-same : (a b : List Val) → a ≡ b → is_same_row a b ≡ true
is-same a b is = subst (λ (x : List Val). is_same_row a x ≡ true) is (ordered.same_row a)

pub isnt-same : (a b : List Val) → (a ≡ b → ⊥) → is_same_row a b ≡ false
isnt-same a b isnt = ⊎_elim (λ yes. absurd (isnt (ordered.rows a b yes))) (λ no. no) (cases_Bool (is_same_row a b))

pub same-or : (a b : List Val) → (a ≡ b) ⊎ (a ≡ b → ⊥)
same-or a b = ⊎_elim (λ yes. inl (ordered.rows a b yes)) (λ no. inr (λ is. false≢true (sym no ∙ is-same a b is))) (cases_Bool (is_same_row a b))

pub in-append : {A : Type 0} → (x y : A) (xs : List A) → In x (xs ++ y ∷ []) → In x xs ⊎ (x ≡ y)
in-append x y [] (inl is) = inr is
in-append x y [] (inr none) = absurd none
in-append x y (z ∷ xs) (inl is) = inl (inl is)
in-append x y (z ∷ xs) (inr more) = ⊎_elim (λ i. inl (inr i)) (λ is. inr is) (in-append x y xs more)

abbrev unlike : List Val → List Val → Bool
unlike w v = not (is_same_row w v)

module _ (columns : ℕ) where
  -- one row more
  pub members-more : (w r : List Val) (rows : List (List Val)) → w ≡ key_of columns r → members columns w (rows ++ r ∷ []) ≡ members columns w rows ++ r ∷ []
  members-more w r rows is = filter-more (λ q. is_same_row w (key_of columns q)) r (is-same w (key_of columns r) is) rows

  pub members-other : (w r : List Val) (rows : List (List Val)) → (w ≡ key_of columns r → ⊥) → members columns w (rows ++ r ∷ []) ≡ members columns w rows
  members-other w r rows isnt = filter-less (λ q. is_same_row w (key_of columns q)) r (isnt-same w (key_of columns r) isnt) rows

  filtered : (b : Bool) (x : List Val) (xs : List (List Val)) → length (cond b (x ∷ xs) xs) ≤ 1 + length xs
  filtered true x xs = omega arith
  filtered false x xs = omega arith

  pub members-few : (w : List Val) (rows : List (List Val)) → length (members columns w rows) ≤ length rows
  members-few w [] = omega arith
  members-few w (r ∷ rows) = omega (arith, filtered (is_same_row w (key_of columns r)) r (members columns w rows), members-few w rows)

  pub members-grow : (w r : List Val) (rows : List (List Val)) → length (members columns w rows) ≤ length (members columns w (rows ++ r ∷ []))
  members-grow w r rows = ⊎_elim
      (λ (same : w ≡ key_of columns r). omega (arith, length-append (members columns w rows) (r ∷ []), ap (λ (l : List (List Val)). length l) (members-more w r rows same)))
      (λ (other : w ≡ key_of columns r → ⊥). omega (arith, ap (λ (l : List (List Val)). length l) (members-other w r rows other)))
      (same-or w (key_of columns r))

  pub keys-new : (rows : List (List Val)) (r : List Val) → ((q : List Val) → In q rows → key_of columns q ≡ key_of columns r → ⊥) → keys columns (rows ++ r ∷ []) ≡ keys columns rows ++ key_of columns r ∷ []
  keys-new [] r none = refl
  keys-new (x ∷ rows) r none =
      let test : unlike (key_of columns x) (key_of columns r) ≡ true = ap not (isnt-same (key_of columns x) (key_of columns r) (λ is. none x (inl refl) is)) in
      ap (λ (l : List (List Val)). key_of columns x ∷ filter (unlike (key_of columns x)) l) (keys-new rows r (λ q q_in. none q (inr q_in)))
      ∙ ap (λ (l : List (List Val)). key_of columns x ∷ l) (filter-more (unlike (key_of columns x)) (key_of columns r) test (keys columns rows))

  keys-either : (rows : List (List Val)) (r : List Val) → (keys columns (rows ++ r ∷ []) ≡ keys columns rows) ⊎ (keys columns (rows ++ r ∷ []) ≡ keys columns rows ++ key_of columns r ∷ [])
  keys-either [] r = inr refl
  keys-either (x ∷ rows) r = ⊎_elim
      (λ same. inl (ap (λ (l : List (List Val)). key_of columns x ∷ filter (unlike (key_of columns x)) l) same))
      (λ more. ⊎_elim
      (λ (is : key_of columns x ≡ key_of columns r). inl (ap (λ (l : List (List Val)). key_of columns x ∷ filter (unlike (key_of columns x)) l) more
      ∙ ap (λ (l : List (List Val)). key_of columns x ∷ l) (filter-less (unlike (key_of columns x)) (key_of columns r) (ap not (is-same (key_of columns x) (key_of columns r) is)) (keys columns rows))))
      (λ (isnt : key_of columns x ≡ key_of columns r → ⊥). inr (ap (λ (l : List (List Val)). key_of columns x ∷ filter (unlike (key_of columns x)) l) more
      ∙ ap (λ (l : List (List Val)). key_of columns x ∷ l) (filter-more (unlike (key_of columns x)) (key_of columns r) (ap not (isnt-same (key_of columns x) (key_of columns r) isnt)) (keys columns rows))))
      (same-or (key_of columns x) (key_of columns r)))
      (keys-either rows r)

  pub keys-old : (rows : List (List Val)) (r q : List Val) → In q rows → key_of columns q ≡ key_of columns r → keys columns (rows ++ r ∷ []) ≡ keys columns rows
  keys-old [] r q none is = absurd none
  keys-old (x ∷ rows) r q (inl same) is = ⊎_elim
      (λ e. ap (λ (l : List (List Val)). key_of columns x ∷ filter (unlike (key_of columns x)) l) e)
      (λ e. ap (λ (l : List (List Val)). key_of columns x ∷ filter (unlike (key_of columns x)) l) e
      ∙ ap (λ (l : List (List Val)). key_of columns x ∷ l) (filter-less (unlike (key_of columns x)) (key_of columns r) (ap not (is-same (key_of columns x) (key_of columns r) (sym (ap (key_of columns) same) ∙ is))) (keys columns rows)))
      (keys-either rows r)
  keys-old (x ∷ rows) r q (inr there) is = ap (λ (l : List (List Val)). key_of columns x ∷ filter (unlike (key_of columns x)) l) (keys-old rows r q there is)

  -- a row of the group is among them
  pub some-row : (w : List Val) (rows : List (List Val)) → 1 ≤ length (members columns w rows) → (q : List Val) × In q rows × (w ≡ key_of columns q)
  some-row w [] few = absurd (omega (arith, few))
  some-row w (r ∷ rows) few = ⊎_elim
      (λ (same : w ≡ key_of columns r). (r, inl refl, same))
      (λ (other : w ≡ key_of columns r → ⊥). let test : is_same_row w (key_of columns r) ≡ false = isnt-same w (key_of columns r) other in
      let one = some-row w rows (subst (λ (b : Bool). 1 ≤ length (cond b (r ∷ members columns w rows) (members columns w rows))) test few) in (one.0, inr one.1, one.2))
      (same-or w (key_of columns r))

  -- where no row has the key, the group has none
  pub no-members : (w : List Val) (rows : List (List Val)) → ((q : List Val) → In q rows → key_of columns q ≡ w → ⊥) → members columns w rows ≡ []
  no-members w rows none = empty (members columns w rows) (λ some. let one = some-row w rows some in none one.0 one.1 (sym one.2))
    where
      empty : (xs : List (List Val)) → (1 ≤ length xs → ⊥) → xs ≡ []
      empty [] isnt = refl
      empty (x ∷ xs) isnt = absurd (isnt (omega arith))
