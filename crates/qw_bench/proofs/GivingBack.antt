-- Which pages are free once a seat's are given back, grant by grant.
use Rattle.std.proofs.Common.{◌≡◌, ℕ, ◌+◌, ◌*◌, ◌/◌, ◌<◌, Bool, true, List, [], ◌∷◌, ◌++◌, length, map, take, get_or, refl, sym, ap, ◌∙◌, subst, arith}
use Rattle.std.proofs.lemmas.List.{map-append, take_more}
use Rattle.qw_linear.specs.Memory.{page}
use Rattle.qw_map.specs.Areas.{Area}
use Rattle.qw_map.specs.Free.{given_back, marked}
use Rattle.qw_bench.specs.declared.bench.Grant.{Grant}
use Rattle.qw_bench.specs.declared.bench.Seat.{Seat}
use Rattle.qw_bench.specs.Inner.Seats.{area_of, areas_before}

back-append : (areas : List Area) (a : Area) (flags : List Bool) →
    given_back (areas ++ a ∷ []) flags ≡ marked true (a.start / page) (a.size / page) (given_back areas flags)
back-append [] a flags = refl
back-append (x ∷ areas) a flags = back-append areas a (marked true (x.start / page) (x.size / page) flags)

-- those of one grant more
back-more : (seat : Seat) (n : ℕ) (d : Grant) (flags now new : List Bool) → n < length seat.granted.items → now ≡ given_back (areas_before seat n) flags →
    new ≡ marked true (get_or seat.granted.items n d).at (get_or seat.granted.items n d).pages now → new ≡ given_back (areas_before seat (n + 1)) flags
back-more seat n d flags now new within so_far is =
    let grant : Grant = get_or seat.granted.items n d in
    let first_page : Area = record { start = seat.descriptor; size = page } in
    let areas : areas_before seat (n + 1) ≡ areas_before seat n ++ area_of grant ∷ [] =
    ap (λ (xs : List Area). first_page ∷ xs) (ap (map area_of) (take_more seat.granted.items n d within) ∙ map-append area_of (take n seat.granted.items) (grant ∷ [])) in
    let at : (grant.at * page) / page ≡ grant.at = omega arith in
    let many : (grant.pages * page) / page ≡ grant.pages = omega arith in
    let last : given_back (areas_before seat n ++ area_of grant ∷ []) flags ≡ marked true grant.at grant.pages (given_back (areas_before seat n) flags) =
    back-append (areas_before seat n) (area_of grant) flags
    ∙ ap (λ (p : ℕ). marked true p ((grant.pages * page) / page) (given_back (areas_before seat n) flags)) at
    ∙ ap (λ (p : ℕ). marked true grant.at p (given_back (areas_before seat n) flags)) many in
    is ∙ ap (marked true grant.at grant.pages) so_far ∙ sym last ∙ sym (ap (λ (xs : List Area). given_back xs flags) areas)

-- where the grants are read from a slice
pub back-next : (seat : Seat) (n : ℕ) (d : Grant) (flags now new : List Bool) (grants : List Grant) → grants ≡ seat.granted.items → n < length grants →
    now ≡ given_back (areas_before seat n) flags → new ≡ marked true (get_or grants n d).at (get_or grants n d).pages now → new ≡ given_back (areas_before seat (n + 1)) flags
back-next seat n d flags now new grants are within so_far is = back-more seat n d flags now new (subst (λ (xs : List Grant). n < length xs) are within) so_far
    (subst (λ (xs : List Grant). new ≡ marked true (get_or xs n d).at (get_or xs n d).pages now) are is)
