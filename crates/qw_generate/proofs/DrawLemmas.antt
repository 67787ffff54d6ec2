-- One step of the generator, in numbers of 64 bits.
use Rattle.std.proofs.Common.{◌≡◌, ℕ, ◌+◌, ◌*◌, ◌%◌, ◌^◌, ◌∙◌, ap, arith}
use Rattle.std.proofs.Math.Nat.{mod-add-mod}
use Rattle.qw_generate.specs.Generated.{next}

-- a product and a sum that are both taken modulo 2^64
pub stepped : (state product sum : ℕ) → product ≡ state * 6364136223846793005 % 2 ^ 64 → sum ≡ (product + 1442695040888963407) % 2 ^ 64 → sum ≡ next state
unfolding next
stepped state product sum product_is sum_is =
    let turned : state * 6364136223846793005 ≡ 6364136223846793005 * state = omega arith in
    sum_is ∙ ap (λ (n : ℕ). (n + 1442695040888963407) % 2 ^ 64) product_is ∙ mod-add-mod (state * 6364136223846793005) (2 ^ 64) 1442695040888963407
    ∙ ap (λ (n : ℕ). (n + 1442695040888963407) % 2 ^ 64) turned
