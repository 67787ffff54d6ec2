-- The areas that an instance begins with, by the columns of its layout.
use Rattle.std.proofs.Common.{◌≡◌, ℕ, zero, suc, ◌+◌, ◌*◌, ◌≤◌, true, List, [], ◌∷◌, ◌++◌, length, Some, slice_get, refl, sym, ap, ◌∙◌, subst, arith}
use Rattle.std.specs.List.{AllByRecursion}
use Rattle.std.proofs.lemmas.Option.{same_Some, none-some}
use Rattle.qw_types.specs.declared.value.Val.{Val}
use Rattle.qw_linear.specs.Memory.{page}
use Rattle.qw_map.specs.Areas.{Area, lies_in_one, are_covered}
use Rattle.qw_map.specs.Columns.{values_size, nulls_size, areas_of}
use Rattle.qw_map.specs.Layout.{Layout, column_areas, first_world, IsReady}
use Rattle.qw_map.specs.Turns.{LiesWithin}
use Rattle.qw_map.specs.declared.layout.Placed.{Placed}
use Rattle.qw_map.specs.declared.layout.Used.{Used}
use Rattle.qw_map.proofs.AccessLemmas.{lies-before, lies-after, covered-in}
use Rattle.qw_map.proofs.AreaLemmas.{all-append, all-weaker}
use Rattle.qw_map.proofs.ColumnLemmas.{LieBetween}

-- what holds of the parts of each column holds of all their areas
pub areas-all : (P : Area → Type 0) (columns : List Used) (placed : List Placed) →
    ((k : ℕ) (used : Used) (one : Placed) → slice_get columns k ≡ Some used → slice_get placed k ≡ Some one → AllByRecursion P (areas_of used.ty used.not_null one)) →
    AllByRecursion P (column_areas columns placed)
areas-all P [] placed each = tt
areas-all P (used ∷ columns) [] each = tt
areas-all P (used ∷ columns) (one ∷ placed) each = all-append P (areas_of used.ty used.not_null one) (column_areas columns placed)
    (each 0 used one refl refl) (areas-all P columns placed (λ k other another found there. each (suc k) other another found there))

-- an octet of a column's parts is one of these areas, and an access there is covered by them
pub area-lies : (columns : List Used) (placed : List Placed) (k : ℕ) (used : Used) (one : Placed) → slice_get columns k ≡ Some used →
    slice_get placed k ≡ Some one → (address : ℕ) → lies_in_one (areas_of used.ty used.not_null one) address ≡ true →
    lies_in_one (column_areas columns placed) address ≡ true
area-lies [] placed k used one found there address inside = absurd (none-some used found)
area-lies (u ∷ columns) [] k used one found there address inside = absurd (none-some one there)
area-lies (u ∷ columns) (p ∷ placed) zero used one found there address inside =
    let u_is : u ≡ used = same_Some u used found in
    let p_is : p ≡ one = same_Some p one there in
    lies-before (areas_of u.ty u.not_null p) (column_areas columns placed) address
    (subst (λ (x : Placed). lies_in_one (areas_of u.ty u.not_null x) address ≡ true) (sym p_is)
    (subst (λ (x : Used). lies_in_one (areas_of x.ty x.not_null one) address ≡ true) (sym u_is) inside))
area-lies (u ∷ columns) (p ∷ placed) (suc k) used one found there address inside =
    lies-after (areas_of u.ty u.not_null p) (column_areas columns placed) address (area-lies columns placed k used one found there address inside)

pub area-covered : (columns : List Used) (placed : List Placed) (k : ℕ) (used : Used) (one : Placed) → slice_get columns k ≡ Some used →
    slice_get placed k ≡ Some one → (at width : ℕ) → are_covered (areas_of used.ty used.not_null one) at width ≡ true →
    are_covered (column_areas columns placed) at width ≡ true
area-covered columns placed k used one found there =
    covered-in (areas_of used.ty used.not_null one) (column_areas columns placed) (area-lies columns placed k used one found there)

-- the three parts of a column by their number
pub record HasParts (areas : List Area) (k : ℕ) (used : Used) (one : Placed) : Type 0 where
  pub values : slice_get areas (3 * k) ≡ Some (record { start = one.values; size = values_size used.ty one.rows })
  pub octets : slice_get areas (3 * k + 1) ≡ Some (record { start = one.octets; size = one.size })
  pub nulls : slice_get areas (3 * k + 2) ≡ Some (record { start = one.nulls; size = nulls_size used.not_null one.rows })

pub area-parts : (columns : List Used) (placed : List Placed) (k : ℕ) (used : Used) (one : Placed) → slice_get columns k ≡ Some used →
    slice_get placed k ≡ Some one → HasParts (column_areas columns placed) k used one
area-parts [] placed k used one found there = absurd (none-some used found)
area-parts (u ∷ columns) [] k used one found there = absurd (none-some one there)
area-parts (u ∷ columns) (p ∷ placed) zero used one found there =
    let u_is : u ≡ used = same_Some u used found in
    let p_is : p ≡ one = same_Some p one there in
    record {
      values = ap (λ (x : Area). Some x) (ap (λ (x : Used). record { start = p.values; size = values_size x.ty p.rows }) u_is ∙ ap (λ (x : Placed). record { start = x.values; size = values_size used.ty x.rows }) p_is);
      octets = ap (λ (x : Placed). Some (record { start = x.octets; size = x.size })) p_is;
      nulls = ap (λ (x : Area). Some x) (ap (λ (x : Used). record { start = p.nulls; size = nulls_size x.not_null p.rows }) u_is ∙ ap (λ (x : Placed). record { start = x.nulls; size = nulls_size used.not_null x.rows }) p_is);
    }
area-parts (u ∷ columns) (p ∷ placed) (suc k) used one found there =
    let rest = area-parts columns placed k used one found there in
    let first : suc (suc (suc (3 * k))) ≡ 3 * suc k = omega arith in
    let second : suc (suc (suc (3 * k + 1))) ≡ 3 * suc k + 1 = omega arith in
    let third : suc (suc (suc (3 * k + 2))) ≡ 3 * suc k + 2 = omega arith in
    let areas : List Area = areas_of u.ty u.not_null p ++ column_areas columns placed in
    record {
      values = ap (slice_get areas) (sym first) ∙ rest.values;
      octets = ap (slice_get areas) (sym second) ∙ rest.octets;
      nulls = ap (slice_get areas) (sym third) ∙ rest.nulls;
    }

-- ---- over a memory that is ready
module _ (layout : Layout) (placed : List Placed) (tables : List (List (List Val))) (descriptor limit : ℕ) (memory : List ℕ)
    (ready : IsReady layout placed tables descriptor limit memory) where
  -- the mapped areas lie between octet 64 and the descriptor
  pub ready-between : LieBetween 64 descriptor (column_areas layout.columns placed)
  ready-between = areas-all (λ area. (64 ≤ area.start) × (area.start + area.size ≤ descriptor)) layout.columns placed
      (λ k used one found there. (ready.columns k used one found there).between)

  -- and with the first page they lie in the memory
  pub ready-inside : AllByRecursion (LiesWithin (length memory)) ((first_world layout placed descriptor limit).mapped ++ (first_world layout placed descriptor limit).own)
  ready-inside = all-append (LiesWithin (length memory)) (column_areas layout.columns placed) (record { start = descriptor; size = page } ∷ [])
      (all-weaker (λ area. (64 ≤ area.start) × (area.start + area.size ≤ descriptor)) (LiesWithin (length memory))
      (λ area h. let inside = ready.inside in omega (arith, h.1, inside)) (column_areas layout.columns placed) ready-between)
      (ready.inside, tt)
