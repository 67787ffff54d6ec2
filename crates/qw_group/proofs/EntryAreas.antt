-- The areas of an entry: they stay where their octets do, none has taken anything where the octets are 0, and each takes one value more.
use Rattle.std.proofs.Common.{◌≡◌, ℕ, suc, ◌+◌, ◌*◌, ◌^◌, ◌<◌, ◌≤◌, inl, inr, pos, List, [], ◌∷◌, ◌++◌, length, Option, Some, None, slice_get, refl, sym, ap, ◌∙◌, subst, arith}
use Rattle.qw_types.specs.declared.kind.Kind.{Kind}
use Rattle.qw_types.specs.declared.value.Val.{Val}
use Rattle.qw_types.specs.declared.value.Val.TheVariants as val
use Rattle.qw_linear.specs.Memory.{page}
use Rattle.qw_scalar.specs.Evaluation.{cell_of}
use Rattle.qw_grouped.specs.Groups.{values_at}
use Rattle.qw_grouped.specs.SetFunctions.{not_null, least, greatest}
use Rattle.qw_grouped.specs.declared.set_function.SetFunctionKind.{SetFunctionKind}
use Rattle.qw_grouped.specs.declared.set_function.SetFunctionKind.TheVariants.{CountRows, Count, Sum, Avg, Min, Max}
use Rattle.qw_low.specs.Syntax.{Statement}
use Rattle.qw_low.specs.State.{Part, Own, Value, Number, Address, Cells, LowState}
use Rattle.qw_low.specs.Meaning.{meaning}
use Rattle.qw_low.specs.Size.{size}
use Rattle.qw_low.proofs.Promises.{Ends-weaker}
use Rattle.qw_feed.specs.Cells.{Uses, UsesNull}
use Rattle.qw_feed.specs.Stages.{Among}
use Rattle.qw_feed.proofs.StageRuns.{supplies-same}
use Rattle.qw_feed.proofs.Frames.{Never}
use Rattle.qw_table.specs.Entries.{Stands}
use Rattle.qw_table.specs.Keys.{IsBelow, IsBelowNull}
use Rattle.qw_table.specs.declared.key.Field.{Field}
use Rattle.qw_group.specs.Areas.{InPlace, HasSum, HasPlain, HasChosen, HasAggregate, Gives}
use Rattle.qw_group.specs.Groups.{HasAreas, UpdatesAreas, AllGive, AreChosenWithin, ArgumentsUse, functions_in}
use Rattle.qw_group.specs.Wides.{IsWide}
use Rattle.qw_group.specs.declared.group.Aggregate.{Aggregate}
use Rattle.qw_group.proofs.AreaFrames.{place-none, place-then, place-wider}
use Rattle.qw_group.proofs.AreaRuns.{takes_end}
use Rattle.qw_group.proofs.AreaSteps.{Does, does_then, does_skip}
use Rattle.qw_group.proofs.ChosenRuns.{plain-same}
use Rattle.qw_group.proofs.WideRuns.{none}

-- ---- they stay where their octets do, in cells of two and more
chosen-same : (Text : Part → ℕ → List ℕ → Type 0) (kd : Kind) (choose : Val → List Val → Val) (vs : List Val) (c c' : Cells) (k at : ℕ) → ((a b : ℕ) → 2 ≤ b → at ≤ a → a + b ≤ at + 16 → c' (Own k) a b ≡ c (Own k) a b) → HasChosen Text kd choose vs c k at → HasChosen Text kd choose vs c' k at
chosen-same Text kd choose [] c c' k at same h = tt
chosen-same Text kd choose (v ∷ vs) c c' k at same h = (h.0, plain-same Text c c' k at (choose v vs) same h.1)

sum-same : (vs : List Val) (c c' : Cells) (k at : ℕ) → ((a b : ℕ) → 2 ≤ b → at ≤ a → a + b ≤ at + 16 → c' (Own k) a b ≡ c (Own k) a b) → HasSum vs c k at → HasSum vs c' k at
sum-same vs c c' k at same h = record { low = h.low; high = h.high; low_is = same at 8 (omega arith) (omega arith) (omega arith) ∙ h.low_is; high_is = same (at + 8) 8 (omega arith) (omega arith) (omega arith) ∙ h.high_is; sum = h.sum; bounded = h.bounded }

module _ (Text : Part → ℕ → List ℕ → Type 0) where
  pub area-same : (function : SetFunctionKind) (kd : Kind) (values : List Val) (c c' : Cells) (k at : ℕ) → ((a b : ℕ) → 2 ≤ b → at ≤ a → a + b ≤ at + 32 → c' (Own k) a b ≡ c (Own k) a b) → HasAggregate Text function kd values c k at → HasAggregate Text function kd values c' k at
  area-same CountRows kd values c c' k at same h = same (at + 16) 8 (omega arith) (omega arith) (omega arith) ∙ h
  area-same Count kd values c c' k at same h = same (at + 16) 8 (omega arith) (omega arith) (omega arith) ∙ h
  area-same Sum kd values c c' k at same h = (same (at + 16) 8 (omega arith) (omega arith) (omega arith) ∙ h.0, sum-same (not_null values) c c' k at (λ a b wide low high. same a b wide low (omega (arith, high))) h.1)
  area-same Avg kd values c c' k at same h = (same (at + 16) 8 (omega arith) (omega arith) (omega arith) ∙ h.0, sum-same (not_null values) c c' k at (λ a b wide low high. same a b wide low (omega (arith, high))) h.1)
  area-same Min kd values c c' k at same h = (same (at + 16) 8 (omega arith) (omega arith) (omega arith) ∙ h.0, chosen-same Text kd least (not_null values) c c' k at (λ a b wide low high. same a b wide low (omega (arith, high))) h.1)
  area-same Max kd values c c' k at same h = (same (at + 16) 8 (omega arith) (omega arith) (omega arith) ∙ h.0, chosen-same Text kd greatest (not_null values) c c' k at (λ a b wide low high. same a b wide low (omega (arith, high))) h.1)

  pub areas-same : (place : ℕ) (aggregates : List Aggregate) (rows : List (List Val)) (c c' : Cells) (k at : ℕ) → ((a b : ℕ) → 2 ≤ b → at ≤ a → a + b ≤ at + 32 * length aggregates → c' (Own k) a b ≡ c (Own k) a b) → HasAreas Text place aggregates rows c k at → HasAreas Text place aggregates rows c' k at
  areas-same place [] rows c c' k at same h = tt
  areas-same place (a ∷ aggregates) rows c c' k at same h = (
    area-same a.function a.argument.kind (values_at place rows) c c' k at (λ x b wide from to. same x b wide from (omega (arith, to))) h.0,
    areas-same (place + 1) aggregates rows c c' k (at + 32) (λ x b wide from to. same x b wide (omega (arith, from)) (omega (arith, to))) h.1,
  )

  -- ---- octets that are 0
  wide-zero : IsWide 0 0 (pos 0)
  wide-zero = record { low_is = omega arith; high_is = omega arith; value_is = refl; small = omega arith }

  area-none : (function : SetFunctionKind) (kd : Kind) (c : Cells) (k at : ℕ) → ((a b : ℕ) → at ≤ a → a + b ≤ at + 32 → c (Own k) a b ≡ Some (Number 0)) → HasAggregate Text function kd [] c k at
  area-none CountRows kd c k at zeros = zeros (at + 16) 8 (omega arith) (omega arith)
  area-none Count kd c k at zeros = zeros (at + 16) 8 (omega arith) (omega arith)
  area-none Sum kd c k at zeros = (zeros (at + 16) 8 (omega arith) (omega arith), record { low = 0; high = 0; low_is = zeros at 8 (omega arith) (omega arith); high_is = zeros (at + 8) 8 (omega arith) (omega arith); sum = wide-zero; bounded = omega arith })
  area-none Avg kd c k at zeros = (zeros (at + 16) 8 (omega arith) (omega arith), record { low = 0; high = 0; low_is = zeros at 8 (omega arith) (omega arith); high_is = zeros (at + 8) 8 (omega arith) (omega arith); sum = wide-zero; bounded = omega arith })
  area-none Min kd c k at zeros = (zeros (at + 16) 8 (omega arith) (omega arith), tt)
  area-none Max kd c k at zeros = (zeros (at + 16) 8 (omega arith) (omega arith), tt)

  pub areas-none : (place : ℕ) (aggregates : List Aggregate) (c : Cells) (k at : ℕ) → ((a b : ℕ) → at ≤ a → a + b ≤ at + 32 * length aggregates → c (Own k) a b ≡ Some (Number 0)) → HasAreas Text place aggregates [] c k at
  areas-none place [] c k at zeros = tt
  areas-none place (a ∷ aggregates) c k at zeros = (
    area-none a.function a.argument.kind c k at (λ x b from to. zeros x b from (omega (arith, to))),
    areas-none (place + 1) aggregates c k (at + 32) (λ x b from to. zeros x b (omega (arith, from)) (omega (arith, to))),
  )

-- ---- one row more
pub values-more : (place : ℕ) (rows : List (List Val)) (r : List Val) → values_at place (rows ++ r ∷ []) ≡ values_at place rows ++ cell_of (slice_get r place) ∷ []
values-more place [] r = refl
values-more place (x ∷ rows) r = ap (λ (l : List Val). cell_of (slice_get x place) ∷ l) (values-more place rows r)

pub values-many : (place : ℕ) (rows : List (List Val)) → length (values_at place rows) ≡ length rows
values-many place [] = refl
values-many place (x ∷ rows) = ap suc (values-many place rows)

-- ---- the locals of arguments
pub uses-below : (n m : ℕ) (f : Field) → n ≤ m → Uses (Among n) f.cell → IsBelow m f
uses-below n m f le uses = (omega (arith, uses.0.1, le), omega (arith, uses.1.1, le), by f.cell.null uses.2)
  where
    by : (null : Option ℕ) → UsesNull (Among n) null → IsBelowNull m null
    by None h = tt
    by (Some x) h = omega (arith, h.1, le)

module _ (Text : Part → ℕ → List ℕ → Type 0) (n : ℕ) (xs ys : List Value) (same : (i : ℕ) → Among n i → slice_get ys i ≡ slice_get xs i) where
  gives-same : (function : SetFunctionKind) (f : Field) (v : Val) → Uses (Among n) f.cell → Gives Text xs function f v → Gives Text ys function f v
  gives-same CountRows f v uses h = tt
  gives-same Count f v uses h = (supplies-same Text (Among n) xs ys same f.cell v uses h.0, h.1)
  gives-same Sum f v uses h = (supplies-same Text (Among n) xs ys same f.cell v uses h.0, h.1)
  gives-same Avg f v uses h = (supplies-same Text (Among n) xs ys same f.cell v uses h.0, h.1)
  gives-same Min f v uses h = (supplies-same Text (Among n) xs ys same f.cell v uses h.0, h.1)
  gives-same Max f v uses h = (supplies-same Text (Among n) xs ys same f.cell v uses h.0, h.1)

  pub all-give-same : (place : ℕ) (aggregates : List Aggregate) (row : List Val) → ArgumentsUse n aggregates → AllGive Text xs place aggregates row → AllGive Text ys place aggregates row
  all-give-same place [] row uses h = tt
  all-give-same place (a ∷ aggregates) row uses h = (gives-same a.function a.argument (cell_of (slice_get row place)) uses.0 h.0, all-give-same (place + 1) aggregates row uses.1 h.1)

-- ---- the areas of an entry at a place, to which local e leads, take one row's arguments more
module _ (Text : Part → ℕ → List ℕ → Type 0) (most fuel more chosen p off e g lowest : ℕ) (some : 1 ≤ more) (turns : more ≤ fuel) (e_low : e < g) (g_high : lowest ≤ g) (row : List Val) (enough : 1 + chosen ≤ more) where
  pub areas_do : (place at : ℕ) (aggregates : List Aggregate) (a : Statement) (rows : List (List Val)) (t : LowState) → UpdatesAreas e at g aggregates a → ArgumentsUse lowest aggregates → (1 ≤ length aggregates → length rows < 10 ^ 18) → AreChosenWithin place (functions_in aggregates) row chosen → AllGive Text t.locals place aggregates row →
      slice_get t.locals e ≡ Some (Address (Own p) off) → slice_get t.own p ≡ Some page → off + at + 32 * length aggregates ≤ page → g + 9 ≤ length t.locals →
      ((u : LowState) → InPlace p (off + at) (off + at + 32 * length aggregates) g t u → (k : Part) (o : ℕ) (octets : List ℕ) → Text k o octets → Stands u k o octets) → HasAreas Text place aggregates rows t.cells p (off + at) →
      Does most fuel more some (λ u. InPlace p (off + at) (off + at + 32 * length aggregates) g t u × HasAreas Text place aggregates (rows ++ row ∷ []) u.cells p (off + at)) a t
  areas_do place at [] a rows t is uses few chosen_within give e_is sized inside room stands has =
      subst (λ (b : Statement). Does most fuel more some (λ u. InPlace p (off + at) (off + at + 32 * 0) g t u × Unit {0}) b t) (sym is) (does_skip most fuel more some (λ u. InPlace p (off + at) (off + at + 32 * 0) g t u × Unit {0}) t (place-none p (off + at) (off + at + 32 * 0) g t, tt))
  areas_do place at (x ∷ aggregates) a rows t is uses few chosen_within give e_is sized inside room stands has =
      let fewer : length rows < 10 ^ 18 = few (omega arith) in
      let many : ℕ = length aggregates in
      let from : ℕ = off + at in
      let v : Val = cell_of (slice_get row place) in
      let values : List Val = values_at place rows in
      let next : from + 32 ≡ off + (at + 32) = omega arith in
      let P : LowState → Type 0 = λ u. InPlace p from (from + 32 * suc many) g t u × HasAreas Text place (x ∷ aggregates) (rows ++ row ∷ []) u.cells p from in
      let One : LowState → Type 0 = λ u. InPlace p from (from + 32) g t u × HasAggregate Text x.function x.argument.kind (values ++ v ∷ []) u.cells p from in
      subst (λ (b : Statement). Does most fuel more some P b t) (sym is.2)
      (does_then most fuel more some One P is.0 is.1 t
      (takes_end Text most fuel more p off e at g some turns e_low x.argument (uses-below lowest g x.argument g_high uses.0) t values (omega (arith, fewer, values-many place rows)) v e_is sized (omega (arith, inside)) room
      (λ u done. stands u (place-wider p from (from + 32) from (from + 32 * suc many) g t u (omega arith) (omega arith) done)) x.function is.0 is.3 (λ chooses. let least = chosen_within.0 chooses in omega (arith, least, enough)) give.0 has.0)
      (λ u done.
      let own : u.own ≡ t.own = ap (λ (q : LowState). q.own) done.0.others in
      Ends-weaker (size is.1 * more) (size is.1 * more) (λ w. InPlace p (off + (at + 32)) (off + (at + 32) + 32 * many) g u w × HasAreas Text (place + 1) aggregates (rows ++ row ∷ []) w.cells p (off + (at + 32))) P Never Never none none (meaning most fuel is.1 u) (omega arith)
      (λ w rest. (
        place-then p from (from + 32 * suc many) g t u w (place-wider p from (from + 32) from (from + 32 * suc many) g t u (omega arith) (omega arith) done.0)
            (place-wider p (off + (at + 32)) (off + (at + 32) + 32 * many) from (from + 32 * suc many) g u w (omega arith) (omega arith) rest.0),
        (
          subst (λ (l : List Val). HasAggregate Text x.function x.argument.kind l w.cells p from) (sym (values-more place rows row))
              (area-same Text x.function x.argument.kind (values ++ v ∷ []) u.cells w.cells p from (λ y b wide lower upper. rest.0.cells p y b (inl (omega (arith, upper)))) done.1),
          subst (λ (q : ℕ). HasAreas Text (place + 1) aggregates (rows ++ row ∷ []) w.cells p q) (sym next) rest.1,
        ),
      )) (λ w y. y) (λ code y. y)
      (areas_do (place + 1) (at + 32) aggregates is.1 rows u is.4 uses.1 (λ some_left. fewer) chosen_within.1
      (all-give-same Text lowest t.locals u.locals (λ i among. done.0.below i (omega (arith, among.1, g_high))) (place + 1) aggregates row uses.1 give.1)
      (done.0.below e e_low ∙ e_is) (ap (λ (l : List ℕ). slice_get l p) own ∙ sized) (omega (arith, inside)) (omega (arith, room, done.0.many))
      (λ w after. stands w (place-then p from (from + 32 * suc many) g t u w (place-wider p from (from + 32) from (from + 32 * suc many) g t u (omega arith) (omega arith) done.0) (place-wider p (off + (at + 32)) (off + (at + 32) + 32 * many) from (from + 32 * suc many) g u w (omega arith) (omega arith) after)))
      (subst (λ (q : ℕ). HasAreas Text (place + 1) aggregates rows u.cells p q) next (areas-same Text (place + 1) aggregates rows t.cells u.cells p (from + 32) (λ y b wide lower upper. done.0.cells p y b (inr (omega (arith, lower)))) has.1)))))

-- ---- where texts lie is said otherwise
module _ (Text Text' : Part → ℕ → List ℕ → Type 0) (also : (p : Part) (o : ℕ) (octets : List ℕ) → Text p o octets → Text' p o octets) (c : Cells) (k : ℕ) where
  plain-map : (at : ℕ) (v : Val) → HasPlain Text c k at v → HasPlain Text' c k at v
  plain-map at val.Null h = h
  plain-map at (val.Num v) h = h
  plain-map at (val.Date v) h = h
  plain-map at (val.Text t) h = (h.0, h.1, h.2, h.3, also h.0 h.1 t h.4)

  chosen-map : (kd : Kind) (choose : Val → List Val → Val) (at : ℕ) (vs : List Val) → HasChosen Text kd choose vs c k at → HasChosen Text' kd choose vs c k at
  chosen-map kd choose at [] h = tt
  chosen-map kd choose at (v ∷ vs) h = (h.0, plain-map at (choose v vs) h.1)

  pub aggregate-map : (function : SetFunctionKind) (kd : Kind) (values : List Val) (at : ℕ) → HasAggregate Text function kd values c k at → HasAggregate Text' function kd values c k at
  aggregate-map CountRows kd values at h = h
  aggregate-map Count kd values at h = h
  aggregate-map Sum kd values at h = h
  aggregate-map Avg kd values at h = h
  aggregate-map Min kd values at h = (h.0, chosen-map kd least at (not_null values) h.1)
  aggregate-map Max kd values at h = (h.0, chosen-map kd greatest at (not_null values) h.1)

  pub areas-map : (place : ℕ) (aggregates : List Aggregate) (rows : List (List Val)) (at : ℕ) → HasAreas Text place aggregates rows c k at → HasAreas Text' place aggregates rows c k at
  areas-map place [] rows at h = tt
  areas-map place (a ∷ aggregates) rows at h = (aggregate-map a.function a.argument.kind (values_at place rows) at h.0, areas-map (place + 1) aggregates rows (at + 32) h.1)
