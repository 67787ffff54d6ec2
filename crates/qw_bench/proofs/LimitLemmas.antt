-- Limits of several instances, and the pages that these may hold together.
use Rattle.std.proofs.Common.{◌≡◌, ℕ, zero, suc, Some, slice_get, ◌+◌, ◌*◌, ◌<◌, ◌≤◌, List, [], ◌∷◌, ◌++◌, length, take, get_or, ap, ◌∙◌, arith}
use Rattle.std.specs.List.{AllByRecursion}
use Rattle.std.proofs.lemmas.List.{take_more}
use Rattle.std.proofs.lemmas.Option.{none-some, same_Some, slice_get-get_or}
use Rattle.qw_bench.specs.declared.bench.Limits.{Limits}
use Rattle.qw_bench.specs.Standing.{AreLimits, limit_pages}
use Rattle.qw_bench.proofs.LayoutLemmas.{all-get}

pub limit_pages-more : (limits : List Limits) (one : Limits) → limit_pages (limits ++ one ∷ []) ≡ limit_pages limits + one.pages
limit_pages-more [] one = omega arith
limit_pages-more (first ∷ limits) one = let rest : limit_pages (limits ++ one ∷ []) ≡ limit_pages limits + one.pages = limit_pages-more limits one in omega arith

-- each of them may hold a page at least
pub limit_pages-each : (limits : List Limits) → AllByRecursion AreLimits limits → length limits ≤ limit_pages limits
limit_pages-each [] are = omega arith
limit_pages-each (one ∷ limits) are =
    let first : 1 ≤ one.pages = are.0.some_pages in
    let rest : length limits ≤ limit_pages limits = limit_pages-each limits are.1 in
    omega arith

-- one more of them is counted
pub counted-more : (limits : List Limits) (n pages more : ℕ) (d : Limits) → n < length limits → AllByRecursion AreLimits limits → more ≡ (get_or limits n d).pages →
    pages ≡ limit_pages (take n limits) → pages ≤ 65535 * n → (pages + more ≡ limit_pages (take (n + 1) limits)) × (pages + more ≤ 65535 * (n + 1))
counted-more limits n pages more d within are is sum most =
    let few : (get_or limits n d).pages ≤ 65535 = (all-get AreLimits limits n (get_or limits n d) (slice_get-get_or limits n d within) are).few_pages in
    let longer : limit_pages (take (n + 1) limits) ≡ limit_pages (take n limits) + (get_or limits n d).pages =
    ap limit_pages (take_more limits n d within) ∙ limit_pages-more (take n limits) (get_or limits n d) in
    (omega arith, omega arith)

-- one of them may hold what the others leave, a page at least for each
pub limit_pages-one : (limits : List Limits) (k : ℕ) (one : Limits) → slice_get limits k ≡ Some one → AllByRecursion AreLimits limits →
    one.pages + length limits ≤ limit_pages limits + 1
limit_pages-one [] k one found are = absurd (none-some one found)
limit_pages-one (first ∷ limits) zero one found are =
    let is : first.pages ≡ one.pages = ap (λ (l : Limits). l.pages) (same_Some first one found) in
    omega (arith, is, limit_pages-each limits are.1)
limit_pages-one (first ∷ limits) (suc k) one found are =
    let some : 1 ≤ first.pages = are.0.some_pages in
    omega (arith, some, limit_pages-one limits k one found are.1)
