-- The cells of sources as a block that stores a row's.
use Rattle.std.proofs.Common.{◌≡◌, ℕ, suc, ◌+◌, ◌*◌, ◌≤◌, inl, inr, List, [], ◌∷◌, length, Option, refl, ap, ⊎_elim, arith}
use Rattle.qw_types.specs.declared.kind.Kind.{Kind}
use Rattle.qw_types.specs.declared.value.Val.{Val}
use Rattle.qw_map.specs.Layout.{row_size}
use Rattle.qw_low.specs.State.{Part, Own, Value, Cells, LowState}
use Rattle.qw_low.specs.Meaning.{meaning}
use Rattle.qw_low.specs.Size.{size}
use Rattle.qw_low.proofs.Promises.{Ends-weaker}
use Rattle.qw_feed.specs.Cells.{Source, AllSupply, AllUse, HasCells, HasRow, AreOfKinds, kinds_of, cells_block}
use Rattle.qw_feed.specs.Frames.{pos, Outside, Stored}
use Rattle.qw_feed.specs.Rows.{Filled, Fills}
use Rattle.qw_feed.proofs.CellRuns.{cells-same, cells_end}
use Rattle.qw_feed.proofs.Frames.{Never}
use Rattle.qw_feed.proofs.StageRuns.{all-same}

pub kinds-many : (kinds : List (Option Kind)) (values : List Val) → AreOfKinds kinds values → length values ≡ length kinds
kinds-many [] [] h = refl
kinds-many [] (v ∷ values) h = absurd h
kinds-many (k ∷ kinds) [] h = absurd h
kinds-many (k ∷ kinds) (v ∷ values) h = ap suc (kinds-many kinds values h.1)

pub length-kinds : (os : List Source) → length (kinds_of os) ≡ length os
length-kinds [] = refl
length-kinds (o ∷ os) = ap suc (length-kinds os)

pub supplied-kinds : (Text : Part → ℕ → List ℕ → Type 0) (xs : List Value) (os : List Source) (vs : List Val) → AllSupply Text xs os vs → AreOfKinds (kinds_of os) vs
supplied-kinds Text xs [] [] h = tt
supplied-kinds Text xs [] (v ∷ vs) h = absurd h
supplied-kinds Text xs (o ∷ os) [] h = absurd h
supplied-kinds Text xs (o ∷ os) (v ∷ vs) h = (h.0.1, supplied-kinds Text xs os vs h.1)

-- what a row has depends on its cells alone
pub row-same : (Text : Part → ℕ → List ℕ → Type 0) (kinds : List (Option Kind)) (c c' : Cells) (k o : ℕ) (values : List Val) → ((a b : ℕ) → o + 8 ≤ a → a + b ≤ o + row_size (length kinds) → c' (Own k) a b ≡ c (Own k) a b) →
    HasRow Text kinds c k o values → HasRow Text kinds c' k o values
row-same Text kinds c c' k o values same h =
    let many : length values ≡ length kinds = kinds-many kinds values h.0 in
    (h.0, cells-same Text c c' k (o + 8) values (λ a b from to. same a b from (omega (arith, to, many))) h.1)

-- from locals that the result doesn't use
pub cells_fill : (Text : Part → ℕ → List ℕ → Type 0) (os : List Source) (base most fuel : ℕ) (vs : List Val) (s : LowState) → AllUse (λ i. 5 ≤ i) os → AllSupply Text s.locals os vs →
    Fills (HasRow Text (kinds_of os)) (row_size (length (kinds_of os))) base most fuel vs (cells_block 8 os) s
cells_fill Text os base most fuel vs s uses supplied t k o keeps free sized fits low zeros =
    let many : length (kinds_of os) ≡ length os = length-kinds os in
    Ends-weaker (size (cells_block 8 os)) (size (cells_block 8 os)) (λ u. Stored (Outside (pos k (o + 8)) (pos k (o + 8 + 16 * length os))) t u × HasCells Text u.cells k (o + 8) vs)
    (Filled (HasRow Text (kinds_of os)) (row_size (length (kinds_of os))) k o vs t) Never Never (λ code. ⊥) (λ code. ⊥) (meaning most fuel (cells_block 8 os) t) (omega arith)
    (λ u done. (
      record { others = done.0.others; mapped = done.0.mapped; cells = λ j a b apart. done.0.cells j a b (⊎_elim (λ below. inl below) (λ above. inr (omega (arith, above, many))) apart) },
      (supplied-kinds Text s.locals os vs supplied, done.1),
    ))
    (λ u x. x) (λ code x. x)
    (cells_end Text (λ code. ⊥) most fuel k o os vs 8 t free sized (omega (arith, fits, many)) (λ a b from to. zeros a b (omega arith) to)
    (all-same Text (λ i. 5 ≤ i) s.locals t.locals (λ i high. keeps.locals i (inr (omega (arith, high)))) os vs uses supplied))
