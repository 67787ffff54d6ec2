-- What the pipelines before one have put into memory, whatever the order of their entries, is within what the query's plan is said to hold.
use Rattle.std.proofs.Common.{◌≡◌, ◌≤◌, ◌<◌, ℕ, zero, suc, ◌+◌, ◌*◌, ◌/◌, List, [], ◌∷◌, length, ap, ◌∙◌, arith}
use Rattle.std.proofs.Math.Nat.{add-mul}
use Rattle.qw_types.specs.declared.value.Val.{Val}
use Rattle.qw_feed.proofs.RoomRuns.{pays}
use Rattle.qw_physical.specs.Held.{sink_octets}
use Rattle.qw_physical.specs.Physical.{Pipeline}

-- so many pipelines with these tables: before each as much as `u` may be given up
abbrev pub spent : (u : ℕ) → List Pipeline → List (List (List Val)) → ℕ → ℕ
spent u ps more zero = 0
spent u [] more (suc i) = 0
spent u (p ∷ ps) [] (suc i) = 0
spent u (p ∷ ps) (entries ∷ more) (suc i) = (u + sink_octets p.sink (length entries)) + spent u ps more i

-- ---- pages
-- two pages for each of the tables pay for what may be given up before its directory and behind it
pub pages_pay : (octets stored u tables : ℕ) → 0 < u → octets ≤ stored → (tables * u + octets) + 2 * u < (2 + 2 * tables + stored / u + 1) * u
pages_pay octets stored u tables some less =
    let enough : stored + 2 * u < (2 + stored / u + 1) * u = pays stored u some in
    let whole : (2 + 2 * tables + stored / u + 1) * u ≡ (2 * tables) * u + (2 + stored / u + 1) * u = ap (λ (k : ℕ). k * u) (regrouped tables (stored / u)) ∙ add-mul (2 * tables) (2 + stored / u + 1) u in
    let twice : (2 * tables) * u ≡ tables * u + tables * u = ap (λ (k : ℕ). k * u) (doubled tables) ∙ add-mul tables tables u in
    omega (arith, enough, whole, twice, less)
  where
    regrouped : (a b : ℕ) → 2 + 2 * a + b + 1 ≡ 2 * a + (2 + b + 1)
    regrouped a b = omega arith

    doubled : (a : ℕ) → 2 * a ≡ a + a
    doubled a = omega arith
