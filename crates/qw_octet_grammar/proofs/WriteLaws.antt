-- What is put by the parts of a grammar is put by the whole.
use Rattle.std.proofs.Common.{◌≡◌, ℕ, suc, ◌+◌, ◌-◌, ◌<◌, ◌≤◌, Bool, true, false, List, [], ◌∷◌, ◌++◌, length, get_or, map, take, drop, refl, sym, ap, subst, ◌∙◌, append_assoc, arith}
use Rattle.std.proofs.lemmas.List.{append-nil, length-map, get_or-map}
use Rattle.std.proofs.Math.Seq.{take-suc, take-length, drop-length}
use Rattle.std.proofs.lemmas.Str.{is_utf8-from_IsUtf8}
use Rattle.std.specs.Str.{is_utf8, IsUtf8}
use Rattle.qw_octet_grammar.specs.declared.fault.BinaryFault.TheVariants.{NotModule}
use Rattle.qw_octet_grammar.specs.Grammar.{Next, goes_on, ends, Grammar, is, refuse, octet, after, within, items, pick, Spells, SpellsAll}
use Rattle.qw_octet_grammar.specs.Numbers.{u32}
use Rattle.qw_octet_grammar.specs.Vectors.{counted, one_more, vector, name}
use Rattle.qw_octet_grammar.specs.Writing.{Puts}
use Rattle.qw_octet_grammar.specs.Inner.Awaiting.{Awaits, AwaitsItems, AwaitsAll}

-- nothing is put
pub puts_is : {A : Type 0} (x : A) (old : List ℕ) → Puts (is x) x old old
unfolding Spells Puts
puts_is x old = ([], sym (append-nil old), (refl, refl))

-- an octet, and what stands behind it
pub puts_octet : {A : Type 0} (k : ℕ → Grammar A) (b : ℕ) (x : A) (old new : List ℕ) → Puts (k b) x (old ++ b ∷ []) new → Puts (octet k) x old new
unfolding Spells Puts
puts_octet k b x old new h = (b ∷ h.0, h.1 ∙ append_assoc old (b ∷ []) h.0, h.2)

-- one after the other
pub puts_after : {A B : Type 0} (g : Grammar B) (k : B → Grammar A) (y : B) (x : A) (old mid new : List ℕ) → Puts g y old mid → Puts (k y) x mid new → Puts (after g k) x old new
unfolding Spells Puts
puts_after g k y x old mid new p q =
    (p.0 ++ q.0, q.1 ∙ ap (λ w. w ++ q.0) p.1 ∙ append_assoc old p.0 q.0, (y, p.0, q.0, refl, p.2, q.2))

-- one alone, from which the value is made
pub puts_made : {A B : Type 0} (g : Grammar B) (make : B → A) (y : B) (old new : List ℕ) → Puts g y old new → Puts (after g (λ y. is (make y))) (make y) old new
unfolding Puts
puts_made g make y old new p = puts_after g (λ y. is (make y)) y (make y) old new new p (puts_is (make y) new)

-- what fills its size, behind the size
pub puts_within : {A : Type 0} (g : Grammar A) (x : A) (inner old mid : List ℕ) → Puts u32 (length inner) old mid → Spells g x inner → Puts (after u32 (λ size. within size false g)) x old (mid ++ inner)
unfolding Spells Puts
puts_within g x inner old mid p s = (p.0 ++ inner, ap (λ w. w ++ inner) p.1 ∙ append_assoc old p.0 inner, (length inner, p.0, inner, refl, p.2, (refl, s)))

pub spells_first : {A : Type 0} (b : Bool) (g h : Grammar A) (x : A) (text : List ℕ) → b ≡ true → Spells g x text → Spells (pick b g h) x text
spells_first true g h x text e s = s
spells_first false g h x text e s = absurd cc

pub spells_second : {A : Type 0} (b : Bool) (g h : Grammar A) (x : A) (text : List ℕ) → b ≡ false → Spells h x text → Spells (pick b g h) x text
spells_second true g h x text e s = absurd cc
spells_second false g h x text e s = s

-- a name
pub puts_name : (text old mid : List ℕ) → Puts u32 (length text) old mid → IsUtf8 text → Puts name text old (mid ++ text)
unfolding Spells Puts
puts_name text old mid p utf8 =
    let whole : take (length text) text ≡ text = take-length text in
    let none : drop (length text) text ≡ [] = drop-length text in
    let test : is_utf8 (take (length text) text) ≡ true = ap is_utf8 whole ∙ is_utf8-from_IsUtf8 text utf8 in
    let s : Spells (pick (is_utf8 (take (length text) text)) (is (take (length text) text)) (refuse NotModule)) text (drop (length text) text) =
    spells_first (is_utf8 (take (length text) text)) (is (take (length text) text)) (refuse NotModule) text (drop (length text) text) test (whole, none) in
    (p.0 ++ text, ap (λ w. w ++ text) p.1 ∙ append_assoc old p.0 text, (length text, p.0, text, refl, p.2, (omega arith, s)))

-- what was put behind nothing
pub spelled : {A : Type 0} (g : Grammar A) (x : A) (new : List ℕ) → Puts g x [] new → Spells g x new
unfolding Puts
spelled g x new h = subst (λ w. Spells g x w) (sym h.1) h.2

-- ---- what comes next

pub awaits_behind : {A B : Type 0} (g : Grammar B) (k : B → Grammar A) (y : B) (old new : List ℕ) → Puts g y old new → Awaits (after g k) (k y) old new
unfolding Puts Awaits
awaits_behind g k y old new p = λ x text s. puts_after g k y x old new (new ++ text) p (text, refl, s)

awaits_after : {A B : Type 0} (whole : Grammar A) (g : Grammar B) (k : B → Grammar A) (y : B) (old now new : List ℕ) → Awaits whole (after g k) old now → Puts g y now new → Awaits whole (k y) old new
unfolding Spells Puts Awaits
awaits_after whole g k y old now new a p = λ x text s.
    let h = a x (p.0 ++ text) (y, p.0, text, refl, p.2, s) in
    (h.0, ap (λ w. w ++ text) p.1 ∙ append_assoc now p.0 text ∙ h.1, h.2)

pub awaits_end : {A : Type 0} (whole : Grammar A) (x : A) (old now : List ℕ) → Awaits whole (is x) old now → Puts whole x old now
unfolding Spells Puts Awaits
awaits_end whole x old now a = let h = a x [] (refl, refl) in (h.0, sym (append-nil now) ∙ h.1, h.2)

-- ---- so many items

module _ {S : Type 0} (whole : Grammar S) (step : S → Grammar S) where
  pub awaits_next : (count i : ℕ) (s t : S) (old now new : List ℕ) → i < count → Awaits whole (counted (count - i) step s) old now → Puts (step s) t now new → Awaits whole (counted (count - (i + 1)) step t) old new
  unfolding counted Puts Awaits
  awaits_next count i s t old now new lt a p =
      let k : count - i ≡ suc (count - (i + 1)) = omega arith in
      let b : Awaits whole (counted (suc (count - (i + 1))) step s) old now = subst (λ n. Awaits whole (counted n step s) old now) k a in
      awaits_after whole (step s) (counted (count - (i + 1)) step) t old now new b p

  pub awaits_all : (count i : ℕ) (s : S) (old now : List ℕ) → count ≤ i → Awaits whole (counted (count - i) step s) old now → Puts whole s old now
  unfolding counted Puts Awaits
  awaits_all count i s old now le a =
      let k : count - i ≡ 0 = omega arith in
      awaits_end whole s old now (subst (λ n. Awaits whole (counted n step s) old now) k a)

-- ---- the items of a list, of which each is put behind those before it

module _ {A : Type 0} (item : Grammar A) where
  pub vector_begin : (xs : List A) (old new : List ℕ) → Puts u32 (length xs) old new → Awaits (vector item) (counted (length xs - 0) (one_more item) (take 0 xs)) old new
  unfolding Puts Awaits
  vector_begin xs old new p =
      let k : length xs - 0 ≡ length xs = omega arith in
      subst (λ n. Awaits (vector item) (counted n (one_more item) []) old new) (sym k) (awaits_behind u32 (λ n. counted n (one_more item) []) (length xs) old new p)

  pub vector_next : (xs : List A) (i : ℕ) (d : A) (old now new : List ℕ) → i < length xs → Awaits (vector item) (counted (length xs - i) (one_more item) (take i xs)) old now → Puts item (get_or xs i d) now new
      → Awaits (vector item) (counted (length xs - (i + 1)) (one_more item) (take (i + 1) xs)) old new
  unfolding Puts Awaits
  vector_next xs i d old now new lt a p =
      let one : Puts (one_more item (take i xs)) (take i xs ++ get_or xs i d ∷ []) now new = puts_made item (λ x. take i xs ++ x ∷ []) (get_or xs i d) now new p in
      let k : i + 1 ≡ suc i = omega arith in
      let e : take (i + 1) xs ≡ take i xs ++ get_or xs i d ∷ [] = ap (λ n. take n xs) k ∙ take-suc xs i d lt in
      awaits_next (vector item) (one_more item) (length xs) i (take i xs) (take (i + 1) xs) old now new lt a (subst (λ w. Puts (one_more item (take i xs)) w now new) (sym e) one)

  pub vector_end : (xs : List A) (i : ℕ) (old now : List ℕ) → i ≡ length xs → Awaits (vector item) (counted (length xs - i) (one_more item) (take i xs)) old now → Puts (vector item) xs old now
  unfolding Puts Awaits
  vector_end xs i old now e a =
      let all : take i xs ≡ xs = ap (λ n. take n xs) e ∙ take-length xs in
      subst (λ w. Puts (vector item) w old now) all (awaits_all (vector item) (one_more item) (length xs) i (take i xs) old now (omega (arith, e)) a)

-- ---- items by a state

module _ {S A : Type 0} (step : S → ℕ → Grammar (Next S A)) (from : S) where
  pub items_begin : (old : List ℕ) → AwaitsItems step from (goes_on from) old old
  unfolding Spells Puts AwaitsItems
  items_begin old = λ x n text c. (text, refl, (n, c))

  pub items_next : (s : S) (r : Next S A) (old now new : List ℕ) → AwaitsItems step from (goes_on s) old now → Puts (octet (step s)) r now new → AwaitsItems step from r old new
  unfolding Spells Puts AwaitsItems
  items_next s r old now new a ([], e, none) = absurd none
  items_next s r old now new a (b ∷ first, e, p) = λ x n text c.
      let h = a x (suc n) (b ∷ first ++ text) (r, first, text, refl, p, c) in
      (h.0, ap (λ w. w ++ text) e ∙ append_assoc now (b ∷ first) text ∙ h.1, h.2)

  pub items_end : (y : A) (old now : List ℕ) → AwaitsItems step from (ends y) old now → Puts (items from step) y old now
  unfolding Puts AwaitsItems
  items_end y old now a = let h = a y 0 [] (refl, refl) in (h.0, sym (append-nil now) ∙ h.1, h.2)

-- ---- items to the end of the octets

module _ {S : Type 0} (step : S → ℕ → Grammar S) (from : S) where
  pub all_begin : (old : List ℕ) → AwaitsAll step from from old old
  unfolding Puts AwaitsAll
  all_begin old = λ last n text c. (n, text, refl, c)

  pub all_next : (s t : S) (old now new : List ℕ) → AwaitsAll step from s old now → Puts (octet (step s)) t now new → AwaitsAll step from t old new
  unfolding Spells Puts AwaitsAll
  all_next s t old now new a ([], e, none) = absurd none
  all_next s t old now new a (b ∷ first, e, p) = λ last n text c.
      let h = a last (suc n) (b ∷ first ++ text) (t, first, text, refl, p, c) in
      (h.0, h.1, ap (λ w. w ++ text) e ∙ append_assoc now (b ∷ first) text ∙ h.2, h.3)

  pub all_end : (t : S) (old now : List ℕ) → AwaitsAll step from t old now → (most : ℕ) × (all : List ℕ) × (now ≡ old ++ all) × SpellsAll step most from t all
  unfolding Puts AwaitsAll
  all_end t old now a = let h = a t 0 [] refl in (h.0, h.1, sym (append-nil now) ∙ h.2, h.3)

-- what a loop that puts the items of a vector cites
pub ruleset vector_put = (vector_begin, vector_next, vector_end)

-- what a loop that puts items by a state cites
pub ruleset items_put = (items_begin, items_next, items_end)

-- ---- the same of what a list's items are seen as

module _ {A B : Type 0} (item : Grammar B) (view : A → B) where
  pub views_begin : (xs : List A) (old new : List ℕ) → Puts u32 (length xs) old new → Awaits (vector item) (counted (length xs - 0) (one_more item) (take 0 (map view xs))) old new
  views_begin xs old new p =
      let e : length (map view xs) ≡ length xs = length-map xs view in
      subst (λ n. Awaits (vector item) (counted (n - 0) (one_more item) (take 0 (map view xs))) old new) e (vector_begin item (map view xs) old new (subst (λ n. Puts u32 n old new) (sym e) p))

  pub views_next : (xs : List A) (i : ℕ) (d : A) (old now new : List ℕ) → i < length xs → Awaits (vector item) (counted (length xs - i) (one_more item) (take i (map view xs))) old now → Puts item (view (get_or xs i d)) now new
      → Awaits (vector item) (counted (length xs - (i + 1)) (one_more item) (take (i + 1) (map view xs))) old new
  views_next xs i d old now new lt a p =
      let e : length (map view xs) ≡ length xs = length-map xs view in
      let got : get_or (map view xs) i (view d) ≡ view (get_or xs i d) = get_or-map view xs i d (view d) lt in
      subst (λ n. Awaits (vector item) (counted (n - (i + 1)) (one_more item) (take (i + 1) (map view xs))) old new) e
      (vector_next item (map view xs) i (view d) old now new (omega (arith, lt, e)) (subst (λ n. Awaits (vector item) (counted (n - i) (one_more item) (take i (map view xs))) old now) (sym e) a) (subst (λ x. Puts item x now new) (sym got) p))

  pub views_end : (xs : List A) (i : ℕ) (old now : List ℕ) → i ≡ length xs → Awaits (vector item) (counted (length xs - i) (one_more item) (take i (map view xs))) old now → Puts (vector item) (map view xs) old now
  views_end xs i old now at a =
      let e : length (map view xs) ≡ length xs = length-map xs view in
      vector_end item (map view xs) i old now (at ∙ sym e) (subst (λ n. Awaits (vector item) (counted (n - i) (one_more item) (take i (map view xs))) old now) (sym e) a)

-- what a loop that puts such items cites
pub ruleset views_put = (views_begin, views_next, views_end)
