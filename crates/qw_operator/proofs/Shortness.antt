-- How many steps blocks have.
use Rattle.std.proofs.Common.{◌≡◌, ℕ, zero, suc, ◌+◌, ◌*◌, ◌<◌, ◌≤◌, Option, Some, None, List, [], ◌∷◌, ◌++◌, length, take, get_or, sum_by, refl, sym, ap, ◌∙◌, subst, length-append, arith}
use Rattle.std.proofs.lemmas.List.{length-map}
use Rattle.std.proofs.lemmas.List.Sums.{sum_by-cons}
use Rattle.qw_types.specs.declared.kind.Kind.{Kind}
use Rattle.qw_types.specs.declared.kind.Kind.TheVariants as kind
use Rattle.qw_scalar.specs.declared.expression.Expr.{Expr}
use Rattle.qw_scalar.specs.declared.expression.Cond.{Cond}
use Rattle.qw_scalar.specs.Nodes.{nodes, nodes_of}
use Rattle.qw_leaves.proofs.TreeLeaves.{some_nodes_of}
use Rattle.qw_module.specs.declared.instruction.Op.TheVariants as o
use Rattle.qw_module.specs.declared.instruction.ValType.TheVariants.{I32}
use Rattle.qw_module.specs.declared.instruction.Binary.TheVariants.{Add, Sub}
use Rattle.qw_module.specs.declared.instruction.Load.TheVariants as loads
use Rattle.qw_low.specs.declared.cell.Cell.{Cell}
use Rattle.qw_low.specs.declared.step.LowStep.{LowStep}
use Rattle.qw_low.specs.declared.step.LowStep.TheVariants as step
use Rattle.qw_low.specs.Syntax.{Expression, constant_of, local, unop, binop, divop, is_zero, relop, cvtop, advance, retreat, Statement, skip, seq, assign, load, store, conditional, while, request, raise, exit}
use Rattle.qw_low.specs.Meaning.{cost}
use Rattle.qw_low.specs.Size.{size}
use Rattle.qw_low.specs.Steps.{expression_steps, request_steps, steps_of}
use Rattle.qw_low.specs.Translation.{unaligned}
use Rattle.qw_read.specs.declared.reader.Reader.{Reader}
use Rattle.qw_feed.specs.Cells.{Source, cell_block, cells_block, plain_block}
use Rattle.qw_feed.specs.Room.{i32, room_block}
use Rattle.qw_feed.specs.Rows.{link_block, push_block}
use Rattle.qw_feed.specs.Stages.{Test}
use Rattle.qw_layout.specs.Row.{entry_size}
use Rattle.qw_table.specs.Joins as joins
use Rattle.qw_table.specs.Joins.{Builds, Probes, guarded, sure, unless_null}
use Rattle.qw_table.specs.Outer.{OuterProbes, goes_on, outer_choice, outer_front, outer_turn, outer_walk}
use Rattle.qw_table.specs.Tables.{enter_block, insert_block, probe_block, slot_at}
use Rattle.qw_table.specs.declared.key.Field.{Field}
use Rattle.qw_physical.specs.declared.pipeline.ReadColumn.{ReadColumn}
use Rattle.qw_operator.specs.Carries.{clear_block}
use Rattle.qw_operator.specs.Nesting.{closings}
use Rattle.qw_operator.proofs.Fronts.{sum_next}

-- ---- instructions and steps
two_steps : (a b : Expression) (last : LowStep) → length (expression_steps a) ≡ cost a → length (expression_steps b) ≡ cost b → length (expression_steps a ++ (expression_steps b ++ last ∷ [])) ≡ cost a + cost b + 1
two_steps a b last one two =
    let outer : length (expression_steps a ++ (expression_steps b ++ last ∷ [])) ≡ length (expression_steps a) + length (expression_steps b ++ last ∷ []) = length-append (expression_steps a) (expression_steps b ++ last ∷ []) in
    let inner : length (expression_steps b ++ last ∷ []) ≡ length (expression_steps b) + 1 = length-append (expression_steps b) (last ∷ []) in
    omega (arith, outer, inner, one, two)

one_step : (a : Expression) (last : LowStep) → length (expression_steps a) ≡ cost a → length (expression_steps a ++ last ∷ []) ≡ cost a + 1
one_step a last one = let outer : length (expression_steps a ++ last ∷ []) ≡ length (expression_steps a) + 1 = length-append (expression_steps a) (last ∷ []) in omega (arith, outer, one)

cost_steps : (e : Expression) → length (expression_steps e) ≡ cost e
cost_steps (constant_of c) = refl
cost_steps (local x) = refl
cost_steps (unop t u e) = one_step e (step.Op (o.Unary t u)) (cost_steps e)
cost_steps (binop t b l r) = two_steps l r (step.Op (o.Binary t b)) (cost_steps l) (cost_steps r)
cost_steps (divop t d l r) = two_steps l r (step.Op (o.Division t d)) (cost_steps l) (cost_steps r)
cost_steps (is_zero t e) = one_step e (step.Op (o.Eqz t)) (cost_steps e)
cost_steps (relop t r left right) = two_steps left right (step.Op (o.Relation t r)) (cost_steps left) (cost_steps right)
cost_steps (cvtop c e) = one_step e (step.Op (o.Convert c)) (cost_steps e)
cost_steps (advance a n) = two_steps a n (step.Op (o.Binary I32 Add)) (cost_steps a) (cost_steps n)
cost_steps (retreat a n) = two_steps a n (step.Op (o.Binary I32 Sub)) (cost_steps a) (cost_steps n)

some_cost : (e : Expression) → 1 ≤ cost e
some_cost (constant_of c) = omega arith
some_cost (local x) = omega arith
some_cost (unop t u e) = omega arith
some_cost (binop t b l r) = omega arith
some_cost (divop t d l r) = omega arith
some_cost (is_zero t e) = omega arith
some_cost (relop t r left right) = omega arith
some_cost (cvtop c e) = omega arith
some_cost (advance a n) = omega arith
some_cost (retreat a n) = omega arith

-- a statement has at most twice as many steps as instructions
pub steps_twice : (a : Statement) → length (steps_of a) ≤ 2 * size a
steps_twice skip = omega arith
steps_twice (seq a b) = let all = length-append (steps_of a) (steps_of b) in omega (arith, all, steps_twice a, steps_twice b)
steps_twice (assign x e) = let all = length-append (expression_steps e) (step.Op (o.LocalSet x) ∷ []) in omega (arith, all, cost_steps e)
steps_twice (load x l offset a) = let all = length-append (expression_steps a) (step.Op (o.Load l (unaligned offset)) ∷ step.Op (o.LocalSet x) ∷ []) in omega (arith, all, cost_steps a)
steps_twice (store st offset a e) = let all = two_steps a e (step.Op (o.Store st (unaligned offset))) (cost_steps a) (cost_steps e) in omega (arith, all)
steps_twice (conditional e a b) =
    let one = length-append (expression_steps e) (step.If ∷ (steps_of a ++ (step.Else ∷ (steps_of b ++ step.End ∷ [])))) in
    let two = length-append (steps_of a) (step.Else ∷ (steps_of b ++ step.End ∷ [])) in
    let three = length-append (steps_of b) (step.End ∷ []) in
    omega (arith, one, two, three, cost_steps e, some_cost e, steps_twice a, steps_twice b)
steps_twice (while e a) =
    let one = length-append (expression_steps e) (step.If ∷ step.Loop ∷ (steps_of a ++ (expression_steps e ++ step.Again ∷ step.End ∷ step.End ∷ []))) in
    let two = length-append (steps_of a) (expression_steps e ++ step.Again ∷ step.End ∷ step.End ∷ []) in
    let three = length-append (expression_steps e) (step.Again ∷ step.End ∷ step.End ∷ []) in
    omega (arith, one, two, three, cost_steps e, steps_twice a)
steps_twice (request e x) = let all = length-append (expression_steps e) (request_steps x) in omega (arith, all, cost_steps e)
steps_twice (raise code) = omega arith
steps_twice exit = omega arith

-- ---- nodes
pub many_nodes_of : (conjuncts : List Cond) → length conjuncts ≤ sum_by nodes_of conjuncts
many_nodes_of [] = omega arith
many_nodes_of (c ∷ conjuncts) = let rest = many_nodes_of conjuncts in omega (arith, rest, some_nodes_of c, sum_by-cons nodes_of c conjuncts)

-- ---- conjuncts and items, in a loop
pub next_test_short : (xs : List Cond) (i : ℕ) (x : Cond) (old now new done upto : ℕ) → i < length xs → x ≡ get_or xs i x → now ≤ old + 78 * done + 404 * sum_by nodes_of (take i xs) → new + 78 * done ≤ now + 78 * upto + 404 * nodes_of x →
    new ≤ old + 78 * upto + 404 * sum_by nodes_of (take (i + 1) xs)
next_test_short xs i x old now new done upto less same before added = let sums = sum_next nodes_of xs i x less same in omega (arith, before, added, sums)

-- a part of a row's reads
pub part_short : (rs part : List Reader) (done upto : ℕ) (a : Statement) (old new : List LowStep) → take done rs ++ part ≡ take upto rs → done ≤ upto → upto ≤ length rs → size a ≤ 39 * length part → new ≡ old ++ steps_of a →
    length new + 78 * done ≤ length old + 78 * upto
part_short rs part done upto a old new is ahead within short added =
    let all = ap (λ (l : List LowStep). length l) added ∙ length-append old (steps_of a) in
    let counts = ap (λ (l : List Reader). length l) is in
    let sums = length-append (take done rs) part in
    omega (arith, all, counts, sums, taken done rs (omega (arith, ahead, within)), taken upto rs within, short, steps_twice a)
  where
    taken : (n : ℕ) (xs : List Reader) → n ≤ length xs → length (take n xs) ≡ n
    taken zero xs le = refl
    taken (suc n) [] le = absurd (omega (arith, le))
    taken (suc n) (x ∷ xs) le = ap suc (taken n xs (omega (arith, le)))

pub conjunct_short : (old mid now new before after done upto steps n : ℕ) → mid + 78 * done ≤ old + 78 * upto → now + after ≤ mid + before + 400 * n → new ≤ now + (steps + 1) → steps + 1 ≤ 4 * n → new + after + 78 * done ≤ old + before + 78 * upto + 404 * n
conjunct_short old mid now new before after done upto steps n one two three few = omega (arith, one, two, three, few)

pub next_item_short : (xs : List Expr) (i : ℕ) (x : Expr) (old now new : ℕ) → i < length xs → x ≡ get_or xs i x → now ≤ old + 400 * sum_by nodes (take i xs) → new ≤ now + 400 * nodes x → new ≤ old + 400 * sum_by nodes (take (i + 1) xs)
next_item_short xs i x old now new less same before added = let sums = sum_next nodes xs i x less same in omega (arith, before, added, sums)

pub closings_long : (n : ℕ) → length (closings n) ≡ 2 * n
closings_long zero = refl
closings_long (suc n) = let rest = closings_long n in omega (arith, rest)

-- ---- cells
plain_long : (k : Option Kind) (c : Cell) (at : ℕ) → length (steps_of (plain_block k c at)) ≤ 6
plain_long None c at = omega arith
plain_long (Some (kind.Number s)) c at = omega arith
plain_long (Some kind.Date) c at = omega arith
plain_long (Some kind.Text) c at = omega arith

cell_long : (null : Option ℕ) (plain : Statement) (at : ℕ) → length (steps_of plain) ≤ 6 → length (steps_of (cell_block null at plain)) ≤ 13
cell_long None plain at most = omega (arith, most)
cell_long (Some n) plain at most = let all = length-append (steps_of plain) (step.End ∷ []) in omega (arith, most, all)

pub cells_long : (os : List Source) (at : ℕ) → length (steps_of (cells_block at os)) ≤ 13 * length os
cells_long [] at = omega arith
cells_long (x ∷ os) at =
    let rest = cells_long os (at + 16) in
    let one = cell_long x.cell.null (plain_block x.kind x.cell at) at (plain_long x.kind x.cell at) in
    let all = length-append (steps_of (cell_block x.cell.null at (plain_block x.kind x.cell at))) (steps_of (cells_block (at + 16) os)) in
    omega (arith, rest, one, all)

pub push_long : (w : ℕ) (cells : Statement) → length (steps_of (push_block w cells)) ≡ length (steps_of cells) + 37
push_long w cells =
    let one = length-append (steps_of (room_block w)) (steps_of (seq cells (link_block w))) in
    let two = length-append (steps_of cells) (steps_of (link_block w)) in
    omega (arith, one, two)

-- ---- tables
pub fields_many : (fs : List Field) → length (joins.sources_of fs) ≡ length fs
fields_many [] = refl
fields_many (f ∷ fs) = ap suc (fields_many fs)

one_guarded_long : (null : Option ℕ) (a : Statement) → length (steps_of (unless_null null a)) ≤ length (steps_of a) + 4
one_guarded_long None a = omega arith
one_guarded_long (Some n) a = let all = length-append (steps_of a) (step.End ∷ []) in omega (arith, all)

guarded_long : (fs : List Field) (a : Statement) → length (steps_of (guarded fs a)) ≤ length (steps_of a) + 4 * length fs
guarded_long [] a = omega arith
guarded_long (f ∷ fs) a = let rest = guarded_long fs a in let one = one_guarded_long f.cell.null (guarded fs a) in omega (arith, rest, one)

insert_long : (w d h x : ℕ) (fill : Statement) → length (steps_of (insert_block w d h x fill)) ≤ length (steps_of fill) + 50
insert_long w d h x fill =
    let one = length-append (steps_of (room_block w)) (steps_of (seq fill (enter_block w d h x))) in
    let two = length-append (steps_of fill) (steps_of (enter_block w d h x)) in
    omega (arith, one, two)

pub build_long : (directory : ℕ) (key cells : List Field) (free : ℕ) (a : Statement) → Builds directory key cells free a → length (steps_of a) ≤ 72 + 192 * length key + 13 * length cells
build_long directory key cells free a builds =
    let fill : Statement = cells_block 24 (joins.sources_of cells) in
    let put : Statement = insert_block (entry_size 0 (length cells) 0) directory (free + 3) (free + 4) fill in
    let finds = builds.finds.short in
    let many = length-map key sure in
    let twice = steps_twice builds.find in
    let all = length-append (steps_of builds.find) (steps_of put) in
    let guards = guarded_long key (seq builds.find put) in
    let puts = insert_long (entry_size 0 (length cells) 0) directory (free + 3) (free + 4) fill in
    let stores = cells_long (joins.sources_of cells) 24 in
    subst (λ (b : Statement). length (steps_of b) ≤ 72 + 192 * length key + 13 * length cells) (sym builds.is) (omega (arith, finds, many, twice, all, guards, puts, stores, fields_many cells))

walk_long : (d h x n : ℕ) (test found : Statement) → length (steps_of (probe_block d h x (record { out = local n; block = test }) found)) ≤ length (steps_of test) + length (steps_of found) + 30
walk_long d h x n test found =
    let next : Statement = load x (loads.Full I32) 0 (local x) in
    let choice : Statement = conditional (local n) found skip in
    let one = length-append (steps_of found) (step.Else ∷ step.End ∷ []) in
    let two = length-append (steps_of choice) (steps_of next) in
    let three = length-append (steps_of test) (steps_of (seq choice next)) in
    let four = length-append (steps_of (seq test (seq choice next))) (step.Op (o.LocalGet x) ∷ step.Again ∷ step.End ∷ step.End ∷ []) in
    omega (arith, one, two, three, four)

pub probe_long : (directory : ℕ) (key : List Field) (free : ℕ) (found a : Statement) → Probes directory key free found a → length (steps_of a) ≤ 60 + 358 * length key + length (steps_of found)
probe_long directory key free found a probes =
    let met : Statement = probe_block directory (free + 3) (free + 4) (record { out = local (free + 5); block = probes.test }) found in
    let finds = probes.finds.short in
    let tests = probes.tests.short in
    let many = length-map key sure in
    let twice = steps_twice probes.find in
    let tested = steps_twice probes.test in
    let all = length-append (steps_of probes.find) (steps_of met) in
    let guards = guarded_long key (seq probes.find met) in
    let walks = walk_long directory (free + 3) (free + 4) (free + 5) probes.test found in
    subst (λ (b : Statement). length (steps_of b) ≤ 60 + 358 * length key + length (steps_of found)) (sym probes.is) (omega (arith, finds, tests, many, twice, tested, all, guards, walks))

-- ---- an outer lookup
pub clear_long : (free : ℕ) (columns : List ReadColumn) → length (steps_of (clear_block free columns)) ≡ 2 * length columns
clear_long free [] = refl
clear_long free (c ∷ columns) = let rest = clear_long (free + 3) columns in omega (arith, rest)

turn_long : (m w g x n : ℕ) (test try clear rest : Statement) →
    length (steps_of (outer_walk m w g x (record { out = local n; block = test }) try clear rest)) ≡ length (steps_of test) + length (steps_of try) + length (steps_of clear) + length (steps_of rest) + 42
turn_long m w g x n test try clear rest =
    let told : Test = record { out = local n; block = test } in
    let passing : Statement = conditional (local n) try skip in
    let lone : Statement = conditional (local m) skip (seq (goes_on g) clear) in
    let ends : Statement = seq (assign w (i32 0)) lone in
    let choice : Statement = outer_choice m w g x told try clear in
    let onward : Statement = conditional (local g) (seq rest (assign m (i32 1))) skip in
    let next : Statement = conditional (local x) (load x (loads.Full I32) 0 (local x)) skip in
    let turn : Statement = outer_turn m w g x told try clear rest in
    let one = length-append (steps_of try) (step.Else ∷ step.End ∷ []) in
    let two = length-append (steps_of test) (steps_of passing) in
    let three = length-append (steps_of clear) (step.End ∷ []) in
    let four = length-append (steps_of (seq test passing)) (step.Else ∷ (steps_of ends ++ step.End ∷ [])) in
    let five = length-append (steps_of ends) (step.End ∷ []) in
    let six = length-append (steps_of (seq rest (assign m (i32 1)))) (step.Else ∷ step.End ∷ []) in
    let seven = length-append (steps_of rest) (steps_of (assign m (i32 1))) in
    let eight = length-append (steps_of choice) (steps_of (seq onward next)) in
    let nine = length-append (steps_of onward) (steps_of next) in
    let ten = length-append (steps_of turn) (step.Op (o.LocalGet w) ∷ step.Again ∷ step.End ∷ step.End ∷ []) in
    omega (arith, one, two, three, four, five, six, seven, eight, nine, ten)

pub outer_long : (directory : ℕ) (key : List Field) (free : ℕ) (try clear rest a : Statement) → OuterProbes directory key free try clear rest a →
    length (steps_of a) ≤ 75 + 358 * length key + length (steps_of try) + length (steps_of clear) + length (steps_of rest)
outer_long directory key free try clear rest a probes =
    let x : ℕ = free + 7 in
    let leads : Statement = load x (loads.Full I32) 0 (slot_at directory (free + 6)) in
    let front : Statement = outer_front directory key (free + 6) x probes.find in
    let walk : Statement = outer_walk free (free + 1) (free + 2) x (record { out = local (free + 8); block = probes.test }) try clear rest in
    let finds = probes.finds.short in
    let tests = probes.tests.short in
    let many = length-map key sure in
    let twice = steps_twice probes.find in
    let tested = steps_twice probes.test in
    let found = length-append (steps_of probes.find) (steps_of leads) in
    let guards = guarded_long key (seq probes.find leads) in
    let all = length-append (steps_of front) (steps_of walk) in
    let walks = turn_long free (free + 1) (free + 2) x (free + 8) probes.test try clear rest in
    subst (λ (b : Statement). length (steps_of b) ≤ 75 + 358 * length key + length (steps_of try) + length (steps_of clear) + length (steps_of rest)) (sym probes.is) (omega (arith, finds, tests, many, twice, tested, found, guards, all, walks))
