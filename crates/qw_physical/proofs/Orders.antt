-- Flows whose rows and whose exceptions are the same in another order.
use Rattle.std.proofs.Common.{◌≡◌, List, [], ◌∷◌, ◌++◌, refl, sym, subst, subst₂, append_assoc}
use Rattle.std.specs.List.{AllByRecursion, flat_map}
use Rattle.std.specs.List.Sorted.{IsPermutation}
use Rattle.std.proofs.lemmas.List.Sorted.{IsPermutation-refl, IsPermutation-sym, IsPermutation-trans, IsPermutation-append, IsPermutation-append_left, IsPermutation-append_right, IsPermutation-append_comm}
use Rattle.qw_types.specs.declared.code.Code.{Code}
use Rattle.qw_types.specs.declared.value.Val.{Val}
use Rattle.qw_meaning.specs.Flow.{Flow, spread}
use Rattle.qw_meaning.proofs.FlowLemmas.{flat_map_twice}
use Rattle.qw_algebra.proofs.Flows.{same_flow}
use Rattle.qw_algebra.proofs.Lists.{all_more, all_of_any, flat_map_same}
use Rattle.qw_feed.specs.Feeds.{flow_over}
use Rattle.qw_rewrite.proofs.PermutedRows.{rows-permuted}

abbrev pub Alike : (f g : Flow (List Val)) → Type 0
Alike f g = IsPermutation f.rows g.rows × IsPermutation f.codes g.codes

pub alike_refl : (f : Flow (List Val)) → Alike f f
alike_refl f = (IsPermutation-refl f.rows, IsPermutation-refl f.codes)

pub alike_is : (f g : Flow (List Val)) → f ≡ g → Alike f g
alike_is f g e = subst (Alike f) e (alike_refl f)

pub alike_sym : (f g : Flow (List Val)) → Alike f g → Alike g f
alike_sym f g h = (IsPermutation-sym f.rows g.rows h.0, IsPermutation-sym f.codes g.codes h.1)

pub alike_trans : (f g k : Flow (List Val)) → Alike f g → Alike g k → Alike f k
alike_trans f g k a b = (IsPermutation-trans f.rows g.rows k.rows a.0 b.0, IsPermutation-trans f.codes g.codes k.codes a.1 b.1)

-- what each element makes is permuted
pub each_permuted : {X A : Type 0} (f g : X → List A) (xs : List X) → AllByRecursion (λ x. IsPermutation (f x) (g x)) xs → IsPermutation (flat_map f xs) (flat_map g xs)
each_permuted f g [] h = IsPermutation-refl []
each_permuted f g (x ∷ xs) h = IsPermutation-append (f x) (g x) (flat_map f xs) (flat_map g xs) h.0 (each_permuted f g xs h.1)

inner_turned : {A : Type 0} (a b c d : List A) → IsPermutation ((a ++ b) ++ (c ++ d)) ((a ++ c) ++ (b ++ d))
inner_turned a b c d =
    subst₂ (λ xs ys. IsPermutation xs ys) (sym (append_assoc a b (c ++ d))) (sym (append_assoc a c (b ++ d)))
    (IsPermutation-append_right a (b ++ (c ++ d)) (c ++ (b ++ d))
    (subst₂ (λ xs ys. IsPermutation xs ys) (append_assoc b c d) (append_assoc c b d)
    (IsPermutation-append_left d (b ++ c) (c ++ b) (IsPermutation-append_comm b c))))

-- what two functions make of each element, first all of the one and then all of the other
both_out : {X A : Type 0} (f g : X → List A) (xs : List X) → IsPermutation (flat_map (λ x. f x ++ g x) xs) (flat_map f xs ++ flat_map g xs)
both_out f g [] = IsPermutation-refl []
both_out f g (x ∷ xs) =
    IsPermutation-trans ((f x ++ g x) ++ flat_map (λ y. f y ++ g y) xs) ((f x ++ g x) ++ (flat_map f xs ++ flat_map g xs)) ((f x ++ flat_map f xs) ++ (g x ++ flat_map g xs))
    (IsPermutation-append_right (f x ++ g x) (flat_map (λ y. f y ++ g y) xs) (flat_map f xs ++ flat_map g xs) (both_out f g xs))
    (inner_turned (f x) (g x) (flat_map f xs) (flat_map g xs))

-- one clause that makes of each row what two clauses make of it, one after another, makes of a flow what they make of it
pub spread_twice : (outer work step : List Val → Flow (List Val)) (f : Flow (List Val)) → AllByRecursion (λ row. Alike (outer row) (spread work (step row))) f.rows
    → Alike (spread outer f) (spread work (spread step f))
spread_twice outer work step f h =
    let made : List (List Val) = flat_map (λ row. (outer row).rows) f.rows in
    let raised : List Code = flat_map (λ row. (outer row).codes) f.rows in
    let first : List Code = flat_map (λ row. (step row).codes) f.rows in
    let later : List Code = flat_map (λ row. flat_map (λ r. (work r).codes) (step row).rows) f.rows in (
      subst (IsPermutation made) (sym (flat_map_twice (λ r. (work r).rows) (λ row. (step row).rows) f.rows))
          (each_permuted (λ row. (outer row).rows) (λ row. flat_map (λ r. (work r).rows) (step row).rows) f.rows
          (all_more (λ row. Alike (outer row) (spread work (step row))) (λ row. IsPermutation (outer row).rows (flat_map (λ r. (work r).rows) (step row).rows)) f.rows (λ row a. a.0) h)),
      subst (IsPermutation (f.codes ++ raised)) (sym (append_assoc f.codes first (flat_map (λ r. (work r).codes) (flat_map (λ row. (step row).rows) f.rows))))
          (IsPermutation-append_right f.codes raised (first ++ flat_map (λ r. (work r).codes) (flat_map (λ row. (step row).rows) f.rows))
          (subst (λ (w : List Code). IsPermutation raised (first ++ w)) (sym (flat_map_twice (λ r. (work r).codes) (λ row. (step row).rows) f.rows))
          (IsPermutation-trans raised (flat_map (λ row. (step row).codes ++ flat_map (λ r. (work r).codes) (step row).rows) f.rows) (first ++ later)
          (each_permuted (λ row. (outer row).codes) (λ row. (step row).codes ++ flat_map (λ r. (work r).codes) (step row).rows) f.rows
          (all_more (λ row. Alike (outer row) (spread work (step row))) (λ row. IsPermutation (outer row).codes ((step row).codes ++ flat_map (λ r. (work r).codes) (step row).rows)) f.rows (λ row a. a.1) h))
          (both_out (λ row. (step row).codes) (λ row. flat_map (λ r. (work r).codes) (step row).rows) f.rows)))),
    )

-- a clause makes of a permuted flow a permuted flow
pub spread_permuted : (work : List Val → Flow (List Val)) (f g : Flow (List Val)) → Alike f g → Alike (spread work f) (spread work g)
spread_permuted work f g h = (
  rows-permuted (λ row. (work row).rows) f.rows g.rows h.0,
  IsPermutation-append f.codes g.codes (flat_map (λ row. (work row).codes) f.rows) (flat_map (λ row. (work row).codes) g.rows) h.1
      (rows-permuted (λ row. (work row).codes) f.rows g.rows h.0),
)

pub over_permuted : (work : List Val → Flow (List Val)) (xs ys : List (List Val)) → IsPermutation xs ys → Alike (flow_over work xs) (flow_over work ys)
over_permuted work xs ys h = spread_permuted work (record { rows = xs; codes = [] }) (record { rows = ys; codes = [] }) (h, IsPermutation-refl [])

-- clauses that make the same of each row
pub spread_same : (work other : List Val → Flow (List Val)) (f : Flow (List Val)) → AllByRecursion (λ row. work row ≡ other row) f.rows → spread work f ≡ spread other f
spread_same work other f h =
    same_flow (spread work f) (spread other f)
    (flat_map_same (λ row. (work row).rows) (λ row. (other row).rows) f.rows (all_more (λ row. work row ≡ other row) (λ row. (work row).rows ≡ (other row).rows) f.rows (λ row e. rw e refl) h))
    (rw (flat_map_same (λ row. (work row).codes) (λ row. (other row).codes) f.rows (all_more (λ row. work row ≡ other row) (λ row. (work row).codes ≡ (other row).codes) f.rows (λ row e. rw e refl) h)) refl)

pub over_same : (work other : List Val → Flow (List Val)) (xs : List (List Val)) → ((x : List Val) → work x ≡ other x) → flow_over work xs ≡ flow_over other xs
over_same work other xs h = spread_same work other (record { rows = xs; codes = [] }) (all_of_any (λ row. work row ≡ other row) xs h)
